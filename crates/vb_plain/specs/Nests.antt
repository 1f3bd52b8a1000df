-- Functions that do what is inside a construct, where so many more levels may be begun: what each has to answer.
use Rattle.std.specs.Prelude.{ℕ, List, Result}
use Rattle.std.specs.declared.alloc.Global.{Global}
use denote.Ref.{Bor, MutBor}
use Rattle.vb_value.specs.declared.value.Value.{Value}
use Rattle.vb_syntax.specs.declared.program.Program.{Program}
use Rattle.vb_syntax.specs.declared.program.expression.Expression.{Expression}
use Rattle.vb_syntax.specs.declared.program.expression.Path.{Path}
use Rattle.vb_syntax.specs.declared.program.statement.Statement.{Statement}
use Rattle.vb_syntax.specs.declared.program.unit.Procedure.{Procedure}
use Rattle.vb_meaning.specs.declared.reached.Argument.{Argument}
use Rattle.vb_meaning.specs.declared.reached.Assigned.{Assigned}
use Rattle.vb_meaning.specs.declared.stop.Stop.{Stop}
use Rattle.vb_meaning.specs.declared.world.Exit.{Exit}
use Rattle.vb_meaning.specs.Asking.{Host}
use Rattle.vb_meaning.specs.Inner.{Owner}
use Rattle.vb_meaning.specs.Meaning.{value, argument, assign, call, statement, enter}
use Rattle.vb_meaning.specs.Step.{Ran}
use Rattle.vb_objects.specs.declared.playing.Playing.{Playing}
use Rattle.vb_objects.specs.Seen.{seen}

-- a function value that evaluates expressions
pub record Evaluates (E : Type 0) (host : Host E) (levels : ℕ)
    (pre : Global → ℕ → Bor Program → MutBor Playing → MutBor E → Bor Expression → Type 0)
    (post : Global → ℕ → Bor Program → MutBor Playing → MutBor E → Bor Expression → Result Value Stop
    → MutBor Playing → MutBor E → Type 0) : Type 0 where
  pub callable : (alloc : Global) (p : Bor Program) (old : MutBor Playing) (env : MutBor E) (e : Bor Expression)
      → pre alloc levels p old env e
  pub evaluates : (alloc : Global) (p : Bor Program) (old new : MutBor Playing) (env env' : MutBor E) (e : Bor Expression)
      (r : Result Value Stop) → post alloc levels p old env e r new env'
      → Ran (value E host p.now levels e.now (seen old.now env.now)) r (seen new.now env'.now)

-- a function value that makes arguments of expressions
pub record Passes (E : Type 0) (host : Host E) (levels : ℕ)
    (pre : Global → ℕ → Bor Program → MutBor Playing → MutBor E → Bor Expression → Type 0)
    (post : Global → ℕ → Bor Program → MutBor Playing → MutBor E → Bor Expression → Result Argument Stop
    → MutBor Playing → MutBor E → Type 0) : Type 0 where
  pub callable : (alloc : Global) (p : Bor Program) (old : MutBor Playing) (env : MutBor E) (e : Bor Expression)
      → pre alloc levels p old env e
  pub passes : (alloc : Global) (p : Bor Program) (old new : MutBor Playing) (env env' : MutBor E) (e : Bor Expression)
      (r : Result Argument Stop) → post alloc levels p old env e r new env'
      → Ran (argument E host p.now levels e.now (seen old.now env.now)) r (seen new.now env'.now)

-- a function value that assigns values to paths
pub record Assigns (E : Type 0) (host : Host E) (levels : ℕ)
    (pre : Global → ℕ → Bor Program → MutBor Playing → MutBor E → Assigned → Bor Path → Value → Type 0)
    (post : Global → ℕ → Bor Program → MutBor Playing → MutBor E → Assigned → Bor Path → Value → Result (Unit {0}) Stop
    → MutBor Playing → MutBor E → Type 0) : Type 0 where
  pub callable : (alloc : Global) (p : Bor Program) (old : MutBor Playing) (env : MutBor E) (how : Assigned)
      (path : Bor Path) (v : Value) → pre alloc levels p old env how path v
  pub assigns : (alloc : Global) (p : Bor Program) (old new : MutBor Playing) (env env' : MutBor E) (how : Assigned)
      (path : Bor Path) (v : Value) (r : Result (Unit {0}) Stop) → post alloc levels p old env how path v r new env'
      → Ran (assign E host p.now levels how path.now v (seen old.now env.now)) r (seen new.now env'.now)

-- a function value that calls paths
pub record Calls (E : Type 0) (host : Host E) (levels : ℕ)
    (pre : Global → ℕ → Bor Program → MutBor Playing → MutBor E → Bor Path → Type 0)
    (post : Global → ℕ → Bor Program → MutBor Playing → MutBor E → Bor Path → Result (Unit {0}) Stop
    → MutBor Playing → MutBor E → Type 0) : Type 0 where
  pub callable : (alloc : Global) (p : Bor Program) (old : MutBor Playing) (env : MutBor E) (path : Bor Path)
      → pre alloc levels p old env path
  pub calls : (alloc : Global) (p : Bor Program) (old new : MutBor Playing) (env env' : MutBor E) (path : Bor Path)
      (r : Result (Unit {0}) Stop) → post alloc levels p old env path r new env'
      → Ran (call E host p.now levels path.now (seen old.now env.now)) r (seen new.now env'.now)

-- a function value that executes statements
pub record Executes (E : Type 0) (host : Host E) (levels : ℕ)
    (pre : Global → ℕ → Bor Program → MutBor Playing → MutBor E → Bor Statement → Type 0)
    (post : Global → ℕ → Bor Program → MutBor Playing → MutBor E → Bor Statement → Result Exit Stop
    → MutBor Playing → MutBor E → Type 0) : Type 0 where
  pub callable : (alloc : Global) (p : Bor Program) (old : MutBor Playing) (env : MutBor E) (s : Bor Statement)
      → pre alloc levels p old env s
  pub executes : (alloc : Global) (p : Bor Program) (old new : MutBor Playing) (env env' : MutBor E) (s : Bor Statement)
      (r : Result Exit Stop) → post alloc levels p old env s r new env'
      → Ran (statement E host p.now levels s.now (seen old.now env.now)) r (seen new.now env'.now)

-- a function value that enters procedures
pub record Enters (E : Type 0) (host : Host E) (levels : ℕ)
    (pre : Global → ℕ → Bor Program → MutBor Playing → MutBor E → Owner → Bor Procedure → List Argument → Type 0)
    (post : Global → ℕ → Bor Program → MutBor Playing → MutBor E → Owner → Bor Procedure → List Argument → Result Value Stop
    → MutBor Playing → MutBor E → Type 0) : Type 0 where
  pub callable : (alloc : Global) (p : Bor Program) (old : MutBor Playing) (env : MutBor E) (owner : Owner)
      (procedure : Bor Procedure) (arguments : List Argument) → pre alloc levels p old env owner procedure arguments
  pub enters : (alloc : Global) (p : Bor Program) (old new : MutBor Playing) (env env' : MutBor E) (owner : Owner)
      (procedure : Bor Procedure) (arguments : List Argument) (r : Result Value Stop)
      → post alloc levels p old env owner procedure arguments r new env'
      → Ran (enter E host p.now levels owner procedure.now arguments (seen old.now env.now)) r (seen new.now env'.now)
