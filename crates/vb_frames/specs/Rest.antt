-- What a stack of frames stands for.
use Rattle.std.specs.Prelude.{List, [], ◌∷◌}
use Rattle.vb_syntax.specs.declared.program.Program.{Program}
use Rattle.vb_meaning.specs.Asking.{Host}
use Rattle.vb_meaning.specs.State.{State}
use Rattle.vb_meaning.specs.Step.{Step}
use Rattle.vb_frames.specs.declared.got.Got.{Got}
use Rattle.vb_frames.specs.declared.stack.Placed.{Placed}
use Rattle.vb_frames.specs.Places.{At, part}
use Rattle.vb_frames.specs.Rules.{rule}

-- what is done from the lowest frame on, whose node is below this one, with what reaches the highest
abbrev pub rest : (E : Type 0) → Host E → Program → At → List Placed → Step (State E) Got → Step (State E) Got
rest E host p base [] st = st
rest E host p base (found ∷ above) st = rule E host p found.frame found.kept (part p found.place base)
    (rest E host p (part p found.place base) above st)
