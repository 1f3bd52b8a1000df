-- What follows below the lowest frame: the act's end, in two stages.
use Rattle.std.specs.Prelude.{Option}
use Rattle.vb_syntax.specs.declared.program.Program.{Program}
use Rattle.vb_meaning.specs.declared.plain_end.PlainEnd.{PlainEnd}
use Rattle.vb_meaning.specs.Acts.{closed, ends_act}
use Rattle.vb_meaning.specs.Asking.{Host}
use Rattle.vb_meaning.specs.Meaning.{inside, most_levels}
use Rattle.vb_meaning.specs.State.{State}
use Rattle.vb_meaning.specs.Step.{Step, state_of}
use Rattle.vb_meaning.specs.Ticks.{act_end}
use Rattle.vb_frames.specs.declared.got.Got.{Got}
use Rattle.vb_frames.specs.declared.stage.Stage.{Stage}
use Rattle.vb_frames.specs.declared.stage.Stage.TheVariants as stage
use Rattle.vb_frames.specs.Caught.{as_done}

module _ (E : Type 0) (host : Host E) (p : Program) where
  -- how the act ends, and the environment then, by what reaches the end
  abbrev pub ended : Stage → Step (State E) Got → Option PlainEnd × E
  ended stage.Part st = ends_act E (inside E host p most_levels) (as_done st)
  ended (stage.Last how) st = closed E (inside E host p most_levels) how (as_done st)

  -- the state that the act leaves, for the ticks in it
  abbrev pub left : Stage → Step (State E) Got → State E
  left stage.Part st = act_end E (inside E host p most_levels) (as_done st)
  left (stage.Last how) st = state_of (as_done st)
