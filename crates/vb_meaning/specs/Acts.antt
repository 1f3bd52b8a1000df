-- An act: the page's variables are made, its part of the program runs, and then their values and the objects go.
use Rattle.std.specs.Prelude.{ℕ, false, List, [], Option, Some, None, slice_get}
use Rattle.vb_value.specs.declared.application.AppReply.{AppReply}
use Rattle.vb_value.specs.Errors.{undefined_variable}
use Rattle.vb_syntax.specs.declared.act.Act.{Act}
use Rattle.vb_syntax.specs.declared.act.Act.TheVariants as act
use Rattle.vb_syntax.specs.declared.act.ActEnd.{ActEnd}
use Rattle.vb_syntax.specs.declared.act.ActEnd.TheVariants as end
use Rattle.vb_syntax.specs.declared.program.Program.{Program}
use Rattle.vb_syntax.specs.declared.program.unit.Procedure.{Procedure}
use Rattle.vb_syntax.specs.declared.program.unit.Unit.{Unit as Code}
use Rattle.vb_heap.specs.Store.{no_data}
use Rattle.vb_meaning.specs.declared.cause.Raised.{Raised}
use Rattle.vb_meaning.specs.declared.plain_end.PlainEnd.{PlainEnd}
use Rattle.vb_meaning.specs.declared.plain_end.PlainEnd.TheVariants.{Wants, Ends as Ended}
use Rattle.vb_meaning.specs.declared.stop.Stop.TheVariants as stop
use Rattle.vb_meaning.specs.World.{World}
use Rattle.vb_meaning.specs.Asking.{Host}
use Rattle.vb_meaning.specs.Blocks.{block}
use Rattle.vb_meaning.specs.Calling.{fresh_frame}
use Rattle.vb_meaning.specs.Declaring.{declared_cells, first_fault, constants_made}
use Rattle.vb_meaning.specs.Errors.{no_error, raised_by, in_line}
use Rattle.vb_meaning.specs.Inner.{Inner}
use Rattle.vb_meaning.specs.Meaning.{inside, most_levels}
use Rattle.vb_meaning.specs.Places.{cells_emptied, let_go}
use Rattle.vb_meaning.specs.Releases.{settle_last, end_all, in_world}
use Rattle.vb_meaning.specs.State.{State, Does, on_world, with_store}
use Rattle.vb_meaning.specs.Step.{Step, Returns, Ends, Run, ◌>>=◌, ◌>>◌, pure, fails}

-- how many ticks an act has
abbrev pub most_ticks : ℕ
most_ticks = 1000000

-- the world in which an act begins
abbrev pub fresh_world : World
fresh_world = record {
  store = no_data;
  page = [];
  frame = fresh_frame None;
  err = no_error;
  calls = 0;
  terminates = false;
  page_ended = false;
  finished = 0;
}

-- the page's variables are made, and its constants stand for values
abbrev pub page_begins : Code → Run World (Unit {0})
page_begins unit = declared_cells [] (first_fault unit.constants) unit.variables >>= (λ cells world.
    (constants_made unit.constants >> pure tt) (record world { page = cells }))

-- a line that is known, or 0
abbrev pub line_or_none : Option ℕ → ℕ
line_or_none (Some line) = line
line_or_none None = 0

-- the values of the page's variables go, in the order of their declaration; the variables stay, and are Empty
abbrev pub page_left : World → World
page_left world = with_store (cells_emptied world.page) (let_go 0 world)

-- an error as the end of an act
abbrev pub error_end : Raised → ℕ → ActEnd
error_end raised line = end.Error raised.number raised.source raised.description line

module _ (E : Type 0) (m : Inner E) where
  -- an event procedure, if the program has it
  abbrev pub event : Option Procedure → Does E (Unit {0})
  event (Some procedure) = (λ s. in_line procedure.line (m.enter None procedure [] s)) >> pure tt
  event None = fails undefined_variable

  -- the part of the program that runs
  abbrev pub part : Act → Does E (Unit {0})
  part act.Body = block E m m.program.unit.body >> pure tt
  part (act.Proc number) = event (slice_get m.program.unit.procedures number)

  -- what an act says of itself when it has ended
  abbrev pub done : ActEnd → World → PlainEnd
  done how world = Ended (record { end = how; made = world.store.objects_made; finished = world.finished })

  -- how an act ends that came to the page's end with this end: a limit on the way is its end
  abbrev pub closed : ActEnd → Step (State E) (Unit {0}) → Option PlainEnd × E
  closed how (Returns done_with s) = (Some (done how s.world), s.env)
  closed how (Ends (stop.Limit kind line) s) = (Some (done (end.Limit kind (line_or_none line)) s.world), s.env)
  closed how (Ends (stop.Error what line) s) =
      (Some (done (error_end (raised_by what) (line_or_none line)) s.world), s.env)
  closed how (Ends stop.Page s) = (Some (done end.Stopped s.world), s.env)
  closed how (Ends (stop.Wants call) s) = (Some (Wants call), s.env)
  closed how (Ends stop.Memory s) = (None, s.env)

  -- the page's end: the values of its variables go, and then its objects
  abbrev pub page_ends : ActEnd → State E → Option PlainEnd × E
  page_ends how s = closed how ((settle_last E m >> end_all E m) (in_world E (page_left s.world) s))

  -- How an act ends. One that a limit stopped ends no more objects, and neither does one that wants a call.
  abbrev pub ends_act : Step (State E) (Unit {0}) → Option PlainEnd × E
  ends_act (Returns done_with s) = page_ends end.Done s
  ends_act (Ends stop.Page s) = page_ends end.Stopped s
  ends_act (Ends (stop.Error what line) s) = page_ends (error_end (raised_by what) (line_or_none line)) s
  ends_act (Ends (stop.Limit kind line) s) = (Some (done (end.Limit kind (line_or_none line)) s.world), s.env)
  ends_act (Ends (stop.Wants call) s) = (Some (Wants call), s.env)
  ends_act (Ends stop.Memory s) = (None, s.env)

  -- an act
  abbrev pub act_in : Act → State E → Option PlainEnd × E
  act_in which s = ends_act ((on_world (page_begins m.program.unit) >> part which) s)

-- the state in which an act begins
abbrev pub begun : {E : Type 0} → E → List AppReply → State E
begun env replies = record { world = fresh_world; ticks = most_ticks; env = env; replies = replies }

-- The meaning of an act in an environment, with the replies that it is given: what it wants or how it ends, and what the
-- environment is then. There is none where the environment ran out of memory.
unfoldable pub act_of : (E : Type 0) → Host E → Program → Act → E → List AppReply → Option PlainEnd × E
act_of E host program which env replies =
    act_in E (inside E host program most_levels) which (begun env replies)
