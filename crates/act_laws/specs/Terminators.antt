-- How terminators begin, are run, and come to their end.
use Rattle.std.specs.Prelude.{◌≡◌, ◌≤◌, ℕ, List, length, Some, None}
use Rattle.vb_value.specs.declared.value.Value.{Value}
use Rattle.vb_syntax.specs.declared.act.ActEnd.{ActEnd}
use Rattle.vb_syntax.specs.declared.act.ActEnd.TheVariants as end
use Rattle.vb_syntax.specs.declared.program.expression.Expression.{Expression}
use Rattle.vb_syntax.specs.declared.program.expression.Path.{Path}
use Rattle.vb_syntax.specs.declared.program.statement.Statement.{Statement}
use Rattle.vb_syntax.specs.declared.program.unit.Procedure.{Procedure}
use Rattle.vb_heap.specs.Releases.{oldest_live, oldest_loose, with_ending}
use Rattle.vb_meaning.specs.declared.reached.Argument.{Argument}
use Rattle.vb_meaning.specs.declared.reached.Assigned.{Assigned}
use Rattle.vb_meaning.specs.declared.stop.Stop.TheVariants as stop
use Rattle.vb_meaning.specs.Inner.{Inner, Owner}
use Rattle.vb_meaning.specs.Releases.{end_all, settle, settle_last, terminate}
use Rattle.vb_meaning.specs.State.{Does, State, with_store}
use Rattle.vb_meaning.specs.Step.{Step, Returns, Ends, ◌>>◌}
use Rattle.act_laws.specs.Objects.{HasBegun, HasEnded, IsEnding, IsLive, Kept, account_at, account_of, ended_objects}
use Rattle.act_laws.specs.Objects.{numbers_below}

-- Of the objects that an act made, all have ended, unless a limit ended it.
abbrev pub HaveEnded : ActEnd → ℕ → ℕ → Type 0
HaveEnded end.Done made finished = finished ≡ made
HaveEnded end.Stopped made finished = finished ≡ made
HaveEnded (end.Error number source description line) made finished = finished ≡ made
HaveEnded (end.Limit kind line) made finished = finished ≤ made

-- what is done keeps the account of objects
abbrev pub KeepsIt : {E A : Type 0} → State E → Does E A → Type 0
KeepsIt s run = Kept account_at (account_at s) (run s)

-- A terminator comes out so: its object has ended, and a page stop may go on. An error does not go on. Where a limit or
-- a call that is wanted stops it, its object is not live.
abbrev pub ComesOut : {E : Type 0} → ℕ → Step (State E) (Unit {0}) → Type 0
ComesOut object (Returns done s) = HasEnded object (account_at s)
ComesOut object (Ends stop.Page s) = HasEnded object (account_at s)
ComesOut object (Ends (stop.Error what line) s) = ⊥
ComesOut object (Ends (stop.Limit kind line) s) = HasBegun object (account_at s)
ComesOut object (Ends (stop.Wants call) s) = HasBegun object (account_at s)
ComesOut object (Ends stop.Memory s) = HasBegun object (account_at s)

-- where a release point comes to its end, no live object is without references
abbrev pub NoneLoose : {E : Type 0} → Step (State E) (Unit {0}) → Type 0
NoneLoose (Returns done s) = oldest_loose s.world.store ≡ None
NoneLoose (Ends why s) = Unit {0}

-- where the page's end comes to its end, each object that was made has ended
abbrev pub AllEnded : {E : Type 0} → Step (State E) (Unit {0}) → Type 0
AllEnded (Returns done s) = ended_objects (account_at s) ≡ numbers_below s.world.store.objects_made
AllEnded (Ends why s) = Unit {0}

-- From a state, terminators are run so: an object whose terminator is to begin is live, and is live no more when it has
-- begun; when it has come to its end, so has the object, and as many have come to their end as objects have ended. A
-- release point goes on until no live object is without references, and the page's end until each object has ended.
pub record RunsEach (E : Type 0) (m : Inner E) (s : State E) : Type 0 where
  pub loose : (object : ℕ) → oldest_loose s.world.store ≡ Some object → IsLive object (account_at s)
  pub last : (object : ℕ) → oldest_live s.world.store ≡ Some object → IsLive object (account_at s)
  pub begins : (object : ℕ) → IsLive object (account_at s)
      → IsEnding object (account_of (with_store (with_ending (Some object)) s.world))
  pub ends : (object : ℕ) → IsEnding object (account_at s) → ComesOut object (terminate E m object s)
  pub counted : length (ended_objects (account_at s)) ≡ s.world.finished
  pub settles : NoneLoose (settle E m s)
  pub settles_last : NoneLoose (settle_last E m s)
  pub all : ((object : ℕ) → IsEnding object (account_at s) → ⊥) → AllEnded ((settle_last E m >> end_all E m) s)

-- from a state, all that is done keeps the account of objects
pub record KeepsAll (E : Type 0) (m : Inner E) (s : State E) : Type 0 where
  pub settle : KeepsIt s (settle E m)
  pub settle_last : KeepsIt s (settle_last E m)
  pub end_all : KeepsIt s (end_all E m)
  pub value : (x : Expression) → KeepsIt s (m.value x)
  pub argument : (x : Expression) → KeepsIt s (m.argument x)
  pub assign : (how : Assigned) (path : Path) (found : Value) → KeepsIt s (m.assign how path found)
  pub call : (path : Path) → KeepsIt s (m.call path)
  pub statement : (x : Statement) → KeepsIt s (m.statement x)
  pub enter : (owner : Owner) (procedure : Procedure) (arguments : List Argument)
      → KeepsIt s (m.enter owner procedure arguments)
