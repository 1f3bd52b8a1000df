-- What expressions hold, before and after something that is done.
use Rattle.std.specs.Prelude.{ℕ, List, ◌≡◌, ◌++◌}
use Rattle.vb_value.specs.declared.value.Value.{Value}
use Rattle.vb_syntax.specs.declared.program.expression.Expression.{Expression}
use Rattle.vb_syntax.specs.declared.program.expression.Path.{Path}
use Rattle.vb_syntax.specs.declared.program.statement.Statement.{Statement}
use Rattle.vb_syntax.specs.declared.program.unit.Procedure.{Procedure}
use Rattle.vb_meaning.specs.declared.reached.Argument.{Argument}
use Rattle.vb_meaning.specs.declared.reached.Assigned.{Assigned}
use Rattle.vb_meaning.specs.declared.stop.Stop.TheVariants as stop
use Rattle.vb_meaning.specs.Inner.{Inner, Owner}
use Rattle.vb_meaning.specs.Releases.{settle, terminate}
use Rattle.vb_meaning.specs.State.{Does, State}
use Rattle.vb_meaning.specs.Step.{Step, Returns, Ends, state_of}

-- what was held is held still, and perhaps more behind it
abbrev pub HeldOn : List ℕ → List ℕ → Type 0
HeldOn before after = (more : List ℕ) × (after ≡ before ++ more)

-- what is done lets nothing go that was held before it
abbrev pub LetsNothingGo : {E A : Type 0} → State E → Does E A → Type 0
LetsNothingGo s run = HeldOn s.world.store.held (state_of (run s)).world.store.held

-- behind a step that comes to its end, or to an error, what was held before it is held, and nothing more
abbrev pub LeavesHeld : {E A : Type 0} → State E → Step (State E) A → Type 0
LeavesHeld before (Returns value s) = s.world.store.held ≡ before.world.store.held
LeavesHeld before (Ends (stop.Error what line) s) = s.world.store.held ≡ before.world.store.held
LeavesHeld before (Ends stop.Page s) = Unit {0}
LeavesHeld before (Ends (stop.Limit kind line) s) = Unit {0}
LeavesHeld before (Ends (stop.Wants call) s) = Unit {0}
LeavesHeld before (Ends stop.Memory s) = Unit {0}

-- from a state, nothing that is done lets go what was held before it
pub record HeldStays (E : Type 0) (m : Inner E) (s : State E) : Type 0 where
  pub value : (x : Expression) → LetsNothingGo s (m.value x)
  pub argument : (x : Expression) → LetsNothingGo s (m.argument x)
  pub assign : (how : Assigned) (path : Path) (found : Value) → LetsNothingGo s (m.assign how path found)
  pub call : (path : Path) → LetsNothingGo s (m.call path)
  pub statement : (x : Statement) → LetsNothingGo s (m.statement x)
  pub enter : (owner : Owner) (procedure : Procedure) (arguments : List Argument)
      → LetsNothingGo s (m.enter owner procedure arguments)
  pub terminate : (object : ℕ) → LetsNothingGo s (terminate E m object)
  pub settle : LetsNothingGo s (settle E m)

-- from a state, a statement, a procedure, a terminator and a release point leave what is held
pub record HeldLeft (E : Type 0) (m : Inner E) (s : State E) : Type 0 where
  pub statement : (x : Statement) → LeavesHeld s (m.statement x s)
  pub enter : (owner : Owner) (procedure : Procedure) (arguments : List Argument)
      → LeavesHeld s (m.enter owner procedure arguments s)
  pub terminate : (object : ℕ) → LeavesHeld s (terminate E m object s)
  pub settle : LeavesHeld s (settle E m s)
