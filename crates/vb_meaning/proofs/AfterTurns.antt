-- A loop whose test stands after each turn, at a number of turns that is 0 and at one that isn't.
use Rattle.std.proofs.Common.{◌≡◌, ℕ, ◌-◌, ◌<◌, Bool, true, false, if◌then◌else◌, List, None, ap, refl, ◌∙◌}
use Rattle.vb_value.specs.declared.limit.LimitKind.TheVariants.{Ticks}
use Rattle.vb_syntax.specs.declared.program.statement.Statement.{Statement}
use Rattle.vb_meaning.specs.declared.stop.Stop.TheVariants as stop
use Rattle.vb_meaning.specs.declared.world.Exit.{Exit}
use Rattle.vb_meaning.specs.declared.world.Exit.TheVariants.{Next, Leave}
use Rattle.vb_meaning.specs.Blocks.{block}
use Rattle.vb_meaning.specs.Errors.{tick}
use Rattle.vb_meaning.specs.Inner.{Inner}
use Rattle.vb_meaning.specs.Loops.{after_turns, turn, leaves_do}
use Rattle.vb_meaning.specs.State.{State, Does}
use Rattle.vb_meaning.specs.Step.{Returns, Ends, and_then, pure, ◌>>=◌}
use Rattle.vb_meaning.proofs.Down.{deeper}

pub after_none : (E : Type 0) (m : Inner E) (n : ℕ) (test : Does E Bool) (body : List Statement) (s : State E) → n ≡ 0
    → after_turns E m n test body s ≡ Ends (stop.Limit Ticks None) s
after_none E m n test body s none = ap (λ n. after_turns E m n test body s) none

pub after_more : (E : Type 0) (m : Inner E) (n : ℕ) (test : Does E Bool) (body : List Statement) (s : State E) → 0 < n
    → after_turns E m n test body s ≡ turn E m leaves_do body (test >>= (λ holds.
    if holds then after_turns E m (n - 1) test body else pure Next)) s
after_more E m n test body s some = deeper (λ n. after_turns E m n test body s) n some

-- a turn behind which the loop goes on
pub after_goes_on : (E : Type 0) (m : Inner E) (n : ℕ) (test : Does E Bool) (body : List Statement) (s t u : State E)
    (exit : Exit) (holds : Bool) → 0 < n → and_then (tick s) (λ _. block E m body) ≡ Returns exit t
    → exit ≡ Next → test t ≡ Returns holds u → holds ≡ true
    → after_turns E m n test body s ≡ after_turns E m (n - 1) test body u
after_goes_on E m n test body s t u (Leave kind) holds some turned next asked goes = absurd (cc)
after_goes_on E m n test body s t u Next false some turned next asked goes = absurd (cc)
after_goes_on E m n test body s t u Next true some turned next asked goes =
    after_more E m n test body s some ∙ rw turned (rw asked refl)
