-- The state at the end of an act, and the ticks that the act spends.
use Rattle.std.specs.Prelude.{ℕ, ◌≡◌, ◌-◌, List}
use Rattle.vb_value.specs.declared.application.AppReply.{AppReply}
use Rattle.vb_syntax.specs.declared.act.Act.{Act}
use Rattle.vb_syntax.specs.declared.program.Program.{Program}
use Rattle.vb_meaning.specs.declared.plain_end.PlainEnd.{PlainEnd}
use Rattle.vb_meaning.specs.declared.plain_end.PlainEnd.TheVariants.{Wants, Ends as Ended}
use Rattle.vb_meaning.specs.declared.stop.Stop.TheVariants as stop
use Rattle.vb_meaning.specs.Acts.{begun, most_ticks, page_begins, page_left, part}
use Rattle.vb_meaning.specs.Asking.{Host}
use Rattle.vb_meaning.specs.Inner.{Inner}
use Rattle.vb_meaning.specs.Meaning.{inside, most_levels}
use Rattle.vb_meaning.specs.Releases.{settle_last, end_all, in_world}
use Rattle.vb_meaning.specs.State.{State, on_world}
use Rattle.vb_meaning.specs.Step.{Step, Returns, Ends, state_of, ◌>>◌}

module _ (E : Type 0) (m : Inner E) where
  -- the state at the end of a page, once the values of its variables and its objects have gone
  abbrev pub page_end : State E → State E
  page_end s = state_of ((settle_last E m >> end_all E m) (in_world E (page_left s.world) s))

  -- the state at the end of an act: one that a limit stopped, or that wants a call, ends no more objects
  abbrev pub act_end : Step (State E) (Unit {0}) → State E
  act_end (Returns done s) = page_end s
  act_end (Ends stop.Page s) = page_end s
  act_end (Ends (stop.Error what line) s) = page_end s
  act_end (Ends why s) = s

  -- the state at the end of an act that begins in this one
  abbrev pub end_in : Act → State E → State E
  end_in which s = act_end ((on_world (page_begins m.program.unit) >> part E m which) s)

-- what an act tells is what the state at its end has: the environment, and the numbers of objects where it has ended
abbrev pub TellsOf : {E : Type 0} → State E → PlainEnd → E → Type 0
TellsOf s (Ended done) env =
    (env ≡ s.env) × (done.made ≡ s.world.store.objects_made) × (done.finished ≡ s.world.finished)
TellsOf s (Wants call) env = env ≡ s.env

-- the ticks that an act spends in an environment, with the replies that it is given
unfoldable pub ticks_of : (E : Type 0) → Host E → Program → Act → E → List AppReply → ℕ
ticks_of E host program which env replies =
    most_ticks - (end_in E (inside E host program most_levels) which (begun env replies)).ticks
