-- Frames with their places, the lowest first: the nodes that the places name, and the highest frame.
use Rattle.std.specs.Prelude.{◌≡◌, ◌-◌, List, [], ◌∷◌, map, Option, length, slice_get}
use Rattle.vb_syntax.specs.declared.program.Program.{Program}
use Rattle.vb_frames.specs.declared.node.Node.{Node}
use Rattle.vb_frames.specs.declared.place.Place.{Place}
use Rattle.vb_frames.specs.declared.stack.Placed.{Placed}
use Rattle.vb_frames.specs.Places.{At, Root, seen, part}

-- the highest frame's node, where the lowest frame stands below this one
abbrev pub top : Program → At → List Placed → At
top p base [] = base
top p base (found ∷ above) = top p (part p found.place base) above

-- the nodes of all frames
abbrev pub placed : Program → At → List Placed → List At
placed p base [] = []
placed p base (found ∷ above) = part p found.place base ∷ placed p (part p found.place base) above

-- the references are to the nodes that the places name
abbrev pub Tied : Program → List Node → List Placed → Type 0
Tied p nodes frames = map seen nodes ≡ placed p Root frames

-- the reference is to the node at this place below the highest frame's node
abbrev pub Stands : Program → Node → Place → List Placed → Type 0
Stands p here place frames = seen here ≡ part p place (top p Root frames)

-- the highest frame
abbrev pub highest : List Placed → Option Placed
highest frames = slice_get frames (length frames - 1)
