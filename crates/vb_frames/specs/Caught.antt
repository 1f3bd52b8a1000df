-- What reaches a frame as a step of its kind, and such a step as what reaches a frame.
use Rattle.std.specs.Prelude.{Bool}
use Rattle.vb_value.specs.declared.value.Value.{Value}
use Rattle.vb_meaning.specs.declared.stop.Stop.TheVariants.{Memory}
use Rattle.vb_meaning.specs.declared.world.Exit.{Exit}
use Rattle.vb_meaning.specs.Step.{Step, Returns, Ends, Run}
use Rattle.vb_frames.specs.declared.got.Got.{Got}
use Rattle.vb_frames.specs.declared.got.Got.TheVariants as got

-- a step with what it gives as what reaches a frame
abbrev pub mapped : {S A : Type 0} → (A → Got) → Step S A → Step S Got
mapped kind (Returns given s) = Returns (kind given) s
mapped kind (Ends why s) = Ends why s

-- that something was done, as what reaches a frame
abbrev pub nothing : Unit {0} → Got
nothing done = got.Nothing

-- what was got, as a step
abbrev pub step_of : {S : Type 0} → Got → Run S Got
step_of (got.Stopped why) = Ends why
step_of found = Returns found

-- ---- what reaches a frame, where it is of a kind; anything else is want of memory

abbrev pub as_value : {S : Type 0} → Step S Got → Step S Value
as_value (Returns (got.Value value) s) = Returns value s
as_value (Returns _ s) = Ends Memory s
as_value (Ends why s) = Ends why s

abbrev pub as_truth : {S : Type 0} → Step S Got → Step S Bool
as_truth (Returns (got.Truth holds) s) = Returns holds s
as_truth (Returns _ s) = Ends Memory s
as_truth (Ends why s) = Ends why s

abbrev pub as_exit : {S : Type 0} → Step S Got → Step S Exit
as_exit (Returns (got.Exit exit) s) = Returns exit s
as_exit (Returns _ s) = Ends Memory s
as_exit (Ends why s) = Ends why s

-- whatever it is, it is done
abbrev pub as_done : {S : Type 0} → Step S Got → Step S (Unit {0})
as_done (Returns _ s) = Returns tt s
as_done (Ends why s) = Ends why s
