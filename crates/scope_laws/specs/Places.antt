-- The scopes of a script, each with what is said in it, and how often a line is told.
use Rattle.std.specs.Prelude.{ℕ, ◌+◌, ◌≤◌, nat_eq, if◌then◌else◌, List, [], ◌∷◌, ◌++◌, map}
use Rattle.std.specs.List.{flat_map}
use Rattle.vb_syntax.specs.declared.unit.Class.{Class}
use Rattle.vb_syntax.specs.declared.unit.Item.{Item}
use Rattle.vb_syntax.specs.declared.unit.Item.TheVariants as item
use Rattle.vb_syntax.specs.declared.unit.Unit.{Unit as Script}
use Rattle.std.specs.Prelude.{Bool, false}
use Rattle.vb_syntax.specs.scope.Notes.{Notes}
use Rattle.vb_syntax.specs.scope.Scopes.{Scopes, Declarations, body_scopes, class_scope, nothing_declared, on_page_in}
use Rattle.vb_syntax.specs.scope.Scopes.{page_scope, scopes_of}
use Rattle.vb_syntax.specs.scope.Units.{Body, in_body, on_page_of, in_class_of, bodies_in, body_of, item_notes}
use Rattle.vb_syntax.specs.scope.Units.{member_notes, member_body}
use Rattle.vb_syntax.specs.declared.note.Note.{Note}
use Rattle.vb_syntax.specs.declared.unit.ClassMember.{ClassMember}
use Rattle.vb_syntax.specs.scope.Faults.{Faults}

-- what is said in a scope, and the scopes in which it stands
abbrev pub Place : Type 0
Place = Scopes × Notes

-- a procedure of a page and a class
abbrev pub place_of : Bool → Declarations → Declarations → Body → Place
place_of explicit page class body = (body_scopes explicit page class body, in_body body)

-- the scopes inside an item: that of a procedure, or those of a class and of its methods and properties
abbrev pub places_inside : Bool → Declarations → Item → List Place
places_inside explicit page (item.Procedure found) = place_of explicit page nothing_declared (body_of false found) ∷ []
places_inside explicit page (item.Class found) = (
  scopes_of page (class_scope found) nothing_declared,
  in_class_of
      found,
)
    ∷ map (place_of explicit page (class_scope found)) (bodies_in found)
places_inside explicit page _ = []

-- the scopes of a script
abbrev pub places_in : Script → List Place
places_in unit = (on_page_in (page_scope unit), on_page_of unit)
    ∷ flat_map (places_inside unit.option_explicit (page_scope unit)) unit.items

-- how often a line is among some
abbrev pub how_often : ℕ → List ℕ → ℕ
how_often line [] = 0
how_often line (first ∷ more) = (if nat_eq line first then 1 else 0) + how_often line more

-- ---- the order of places

-- the lines of what is said
abbrev pub lines_of : Notes → List ℕ
lines_of = map (λ (note : Note). note.line)

-- the lines of a member: what it says in its class, and then what stands in its body
abbrev pub member_lines : ClassMember → List ℕ
member_lines found = lines_of (member_notes found)
    ++ flat_map (λ (body : Body). lines_of (in_body body)) (member_body found)

-- the lines inside an item
abbrev pub inside_lines : Item → List ℕ
inside_lines (item.Procedure found) = lines_of (in_body (body_of false found))
inside_lines (item.Class found) = flat_map member_lines found.members
inside_lines _ = []

-- the lines of an item: what it says on the page, and then what stands inside
abbrev pub item_lines : Item → List ℕ
item_lines found = lines_of (item_notes found) ++ inside_lines found

-- the lines of all that a script says, in the order of its places
abbrev pub script_lines : Script → List ℕ
script_lines unit = flat_map item_lines unit.items

-- no line of some is less
abbrev pub NoneBelow : ℕ → List ℕ → Type 0
NoneBelow line [] = Unit {0}
NoneBelow line (other ∷ others) = (line ≤ other) × NoneBelow line others

-- no line is less than one before it
abbrev pub IsAscending : List ℕ → Type 0
IsAscending [] = Unit {0}
IsAscending (line ∷ lines) = NoneBelow line lines × IsAscending lines

-- the lines of faults
abbrev pub fault_lines : Faults → List ℕ
fault_lines [] = []
fault_lines (found ∷ more) = found.1 ∷ fault_lines more
