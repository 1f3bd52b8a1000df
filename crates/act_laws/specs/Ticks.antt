-- Ticks that are left, before and after something that is done.
use Rattle.std.specs.Prelude.{ℕ, ◌≤◌, List}
use Rattle.vb_value.specs.declared.value.Value.{Value}
use Rattle.vb_syntax.specs.declared.act.Act.{Act}
use Rattle.vb_syntax.specs.declared.program.expression.Expression.{Expression}
use Rattle.vb_syntax.specs.declared.program.expression.Path.{Path}
use Rattle.vb_syntax.specs.declared.program.statement.Statement.{Statement}
use Rattle.vb_syntax.specs.declared.program.unit.Procedure.{Procedure}
use Rattle.vb_meaning.specs.declared.reached.Argument.{Argument}
use Rattle.vb_meaning.specs.declared.reached.Assigned.{Assigned}
use Rattle.vb_meaning.specs.Acts.{page_begins, part}
use Rattle.vb_meaning.specs.Inner.{Inner, Owner}
use Rattle.vb_meaning.specs.Releases.{end_all, settle, settle_last, terminate}
use Rattle.vb_meaning.specs.State.{Does, State, on_world}
use Rattle.vb_meaning.specs.Step.{state_of, ◌>>◌}

-- what is done gives no tick back: as many are left behind it as before, or fewer
abbrev pub GivesNoneBack : {E A : Type 0} → State E → Does E A → Type 0
GivesNoneBack s run = (state_of (run s)).ticks ≤ s.ticks

-- from a state, nothing that is done gives a tick back
pub record NoneComeBack (E : Type 0) (m : Inner E) (s : State E) : Type 0 where
  pub value : (x : Expression) → GivesNoneBack s (m.value x)
  pub argument : (x : Expression) → GivesNoneBack s (m.argument x)
  pub assign : (how : Assigned) (path : Path) (found : Value) → GivesNoneBack s (m.assign how path found)
  pub call : (path : Path) → GivesNoneBack s (m.call path)
  pub statement : (x : Statement) → GivesNoneBack s (m.statement x)
  pub enter : (owner : Owner) (procedure : Procedure) (arguments : List Argument)
      → GivesNoneBack s (m.enter owner procedure arguments)
  pub terminate : (object : ℕ) → GivesNoneBack s (terminate E m object)
  pub settle : GivesNoneBack s (settle E m)
  -- an act up to the page's end, and the page's end
  pub part : (which : Act) → GivesNoneBack s (on_world (page_begins m.program.unit) >> part E m which)
  pub page_end : GivesNoneBack s (settle_last E m >> end_all E m)
