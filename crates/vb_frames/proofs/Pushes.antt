-- What a stack stands for, and the highest frame.
use Rattle.std.proofs.Common.{◌≡◌, List, [], ◌∷◌, ◌++◌, refl, ap}
use Rattle.vb_syntax.specs.declared.program.Program.{Program}
use Rattle.vb_meaning.specs.Asking.{Host}
use Rattle.vb_meaning.specs.State.{State}
use Rattle.vb_meaning.specs.Step.{Step}
use Rattle.vb_frames.specs.declared.got.Got.{Got}
use Rattle.vb_frames.specs.declared.stack.Placed.{Placed}
use Rattle.vb_frames.specs.Places.{At, part}
use Rattle.vb_frames.specs.Rules.{rule}
use Rattle.vb_frames.specs.Rest.{rest}
use Rattle.vb_frames.specs.Stacks.{top}

pub rest_push : (E : Type 0) (host : Host E) (p : Program) (base : At) (frames : List Placed) (f : Placed)
    (st : Step (State E) Got) → rest E host p base (frames ++ f ∷ []) st
    ≡ rest E host p base frames (rule E host p f.frame f.kept (part p f.place (top p base frames)) st)
rest_push E host p base [] f st = refl
rest_push E host p base (g ∷ frames) f st =
    ap (rule E host p g.frame g.kept (part p g.place base)) (rest_push E host p (part p g.place base) frames f st)
