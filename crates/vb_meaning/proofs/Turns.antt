-- Loops at a number of turns that is 0 and at one that isn't.
use Rattle.std.proofs.Common.{◌≡◌, ℕ, ◌-◌, ◌<◌, Bool, if◌then◌else◌, List, None, ap}
use Rattle.vb_value.specs.declared.limit.LimitKind.TheVariants.{Ticks}
use Rattle.vb_syntax.specs.declared.program.name.Named.{Named}
use Rattle.vb_syntax.specs.declared.program.statement.Statement.{Statement}
use Rattle.vb_syntax.specs.declared.statement.ExitKind.{ExitKind}
use Rattle.vb_meaning.specs.declared.range.Range.{Range}
use Rattle.vb_meaning.specs.declared.stop.Stop.TheVariants as stop
use Rattle.vb_meaning.specs.declared.world.Exit.TheVariants.{Next}
use Rattle.vb_meaning.specs.Inner.{Inner}
use Rattle.vb_meaning.specs.Loops.{before_turns, for_turns, turn, leaves_for, is_within, add_step}
use Rattle.vb_meaning.specs.State.{State, Does, on_world}
use Rattle.vb_meaning.specs.Step.{Ends, and_then, pure, ◌>>◌}
use Rattle.vb_meaning.proofs.Down.{deeper}

pub before_none : (E : Type 0) (m : Inner E) (n : ℕ) (leaves : ExitKind → Bool) (test : Does E Bool)
    (body : List Statement) (s : State E) → n ≡ 0
    → before_turns E m n leaves test body s ≡ Ends (stop.Limit Ticks None) s
before_none E m n leaves test body s none = ap (λ n. before_turns E m n leaves test body s) none

pub before_more : (E : Type 0) (m : Inner E) (n : ℕ) (leaves : ExitKind → Bool) (test : Does E Bool)
    (body : List Statement) (s : State E) → 0 < n
    → before_turns E m n leaves test body s ≡ and_then (test s) (λ holds.
    if holds then turn E m leaves body (before_turns E m (n - 1) leaves test body) else pure Next)
before_more E m n leaves test body s some = deeper (λ n. before_turns E m n leaves test body s) n some

pub for_none : (E : Type 0) (m : Inner E) (n : ℕ) (variable : Named) (range : Range) (body : List Statement)
    (s : State E) → n ≡ 0 → for_turns E m n variable range body s ≡ Ends (stop.Limit Ticks None) s
for_none E m n variable range body s none = ap (λ n. for_turns E m n variable range body s) none

pub for_more : (E : Type 0) (m : Inner E) (n : ℕ) (variable : Named) (range : Range) (body : List Statement)
    (s : State E) → 0 < n
    → for_turns E m n variable range body s ≡ and_then (on_world (is_within variable range) s) (λ within.
    if within then turn E m leaves_for body (on_world (add_step variable range)
    >> for_turns E m (n - 1) variable range body) else pure Next)
for_more E m n variable range body s some = deeper (λ n. for_turns E m n variable range body s) n some
