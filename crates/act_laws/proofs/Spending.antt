-- What is done gives no tick back.
use Rattle.std.proofs.Common.{ℕ, ◌-◌, ◌≤◌, List, [], ◌∷◌, Bool, true, false, if◌then◌else◌, Option, Ok, Err}
use Rattle.std.proofs.Common.{None, arith, nat_lt}
use Rattle.vb_value.specs.declared.application.AppReply.{AppReply}
use Rattle.vb_value.specs.declared.limit.LimitKind.TheVariants.{Ticks}
use Rattle.vb_value.specs.declared.value.Value.{Value}
use Rattle.vb_syntax.specs.declared.act.Given.TheVariants as given
use Rattle.vb_syntax.specs.declared.member.Member.{Member}
use Rattle.vb_meaning.specs.declared.cause.Cause.{Cause}
use Rattle.vb_meaning.specs.declared.stop.Stop.TheVariants as stop
use Rattle.vb_meaning.specs.World.{World}
use Rattle.vb_meaning.specs.Asking.{Host, Said, ask, heard}
use Rattle.vb_meaning.specs.Errors.{in_line, raised_by, resumed, tick, with_err}
use Rattle.vb_meaning.specs.State.{State, lifted}
use Rattle.vb_meaning.specs.Step.{Step, Returns, Ends, Run, and_then, ◌>>=◌}
use Rattle.vb_meaning.specs.Step.{state_of}

-- how many ticks are left in a state
abbrev pub ticks_at : {E : Type 0} → State E → ℕ
ticks_at s = s.ticks

-- what is done gives none back
abbrev pub Spends : {S A : Type 0} → (S → ℕ) → Run S A → Type 0
Spends {S} left run = (s : S) → left (state_of (run s)) ≤ left s

-- what is made of a step gives none back
abbrev pub SpendsOn : {S A B : Type 0} → (S → ℕ) → (Step S A → Step S B) → Type 0
SpendsOn {S} {A} left turn = (step : Step S A) → left (state_of (turn step)) ≤ left (state_of step)

pub at_most : (a b c : ℕ) → a ≤ b → b ≤ c → a ≤ c
at_most a b c first second = omega (arith, first, second)

pub no_less : (a : ℕ) → a ≤ a
no_less a = omega arith

-- ---- steps

-- one after the other
pub next_spends : {S A B : Type 0} (left : S → ℕ) (next : A → Run S B) → ((value : A) → Spends left (next value))
    → SpendsOn left (λ (step : Step S A). and_then step next)
next_spends left next spends (Returns value s) = spends value s
next_spends left next spends (Ends why s) = no_less (left s)

-- what is made of what is done
pub turned_spends : {S A B : Type 0} (left : S → ℕ) (turn : Step S A → Step S B) (run : Run S A) → SpendsOn left turn
    → Spends left run → Spends left (λ s. turn (run s))
turned_spends left turn run on spends s =
    at_most (left (state_of (turn (run s)))) (left (state_of (run s))) (left s) (on (run s)) (spends s)

pub then_spends : {S A B : Type 0} (left : S → ℕ) (run : Run S A) (next : A → Run S B) → Spends left run
    → ((value : A) → Spends left (next value)) → Spends left (run >>= next)
then_spends {S} {A} left run next first others =
    turned_spends left (λ (step : Step S A). and_then step next) run (next_spends left next others) first

-- a line
pub line_spends : {S A : Type 0} (left : S → ℕ) (line : ℕ) → SpendsOn left (in_line {S = S} {A = A} line)
line_spends left line (Returns value s) = no_less (left s)
line_spends left line (Ends why s) = no_less (left s)

-- On Error
resumed_error : {E A : Type 0} (instead : A) (what : Cause) (line : Option ℕ) (s : State E) (resumes : Bool)
    → ticks_at (state_of {S = State E} {A = A}
    (if resumes then Returns instead (record s { world = with_err (raised_by what) s.world })
    else Ends (stop.Error what line) s)) ≤ ticks_at s
resumed_error instead what line s true = no_less (ticks_at s)
resumed_error instead what line s false = no_less (ticks_at s)

pub resumed_spends : {E A : Type 0} (instead : A) → SpendsOn {S = State E} ticks_at (resumed instead)
resumed_spends instead (Returns value s) = no_less (ticks_at s)
resumed_spends instead (Ends (stop.Error what line) s) = resumed_error instead what line s s.world.frame.resumes
resumed_spends instead (Ends (stop.Limit kind line) s) = no_less (ticks_at s)
resumed_spends instead (Ends stop.Page s) = no_less (ticks_at s)
resumed_spends instead (Ends (stop.Wants call) s) = no_less (ticks_at s)
resumed_spends instead (Ends stop.Memory s) = no_less (ticks_at s)

-- a step of the world, in a state
pub lifted_spends : {E A : Type 0} (s : State E) (step : Step World A)
    → ticks_at (state_of (lifted s step)) ≤ ticks_at s
lifted_spends s (Returns value world) = no_less (ticks_at s)
lifted_spends s (Ends why world) = no_less (ticks_at s)

-- ---- what is done

pub still_spends : {S A : Type 0} (left : S → ℕ) (value : A) → Spends left (λ (s : S). Returns value s)
still_spends left value s = no_less (left s)

heard_spends : {E : Type 0} (host : Host E) (member : Member) (arguments : List Value) (world : World)
    (ticks : ℕ) (replies : List AppReply) (said : Said E)
    → ticks_at (state_of (heard host member arguments world ticks replies said)) ≤ ticks
heard_spends host member arguments world ticks replies (Ok (given.Value value, env)) = no_less ticks
heard_spends host member arguments world ticks replies (Ok (given.Names names, env)) = no_less ticks
heard_spends host member arguments world ticks [] (Ok (given.Call call, env)) = no_less ticks
heard_spends host member arguments world ticks (reply ∷ replies) (Ok (given.Call call, env)) =
    heard_spends host member arguments world ticks replies (host.answered member arguments reply env)
heard_spends host member arguments world ticks replies (Err (reason, env)) = no_less ticks

-- a tick
pub tick_spends : {E : Type 0} → Spends {S = State E} ticks_at tick
unfolding tick
tick_spends {E} s = fewer (nat_lt 0 s.ticks)
  where
    fewer : (left : Bool) → ticks_at (state_of {S = State E} {A = Unit {0}}
        (if left then Returns tt (record s { ticks = s.ticks - 1 }) else Ends (stop.Limit Ticks None) s)) ≤ ticks_at s
    fewer true = omega arith
    fewer false = no_less (ticks_at s)

-- a question to the objects of the page
pub ask_spends : {E : Type 0} (host : Host E) (member : Member) (arguments : List Value)
    → Spends ticks_at (ask host member arguments)
unfolding ask
ask_spends host member arguments s =
    heard_spends host member arguments s.world s.ticks s.replies (host.asked member arguments s.env)
