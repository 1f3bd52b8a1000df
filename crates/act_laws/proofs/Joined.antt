-- Two environments side by side: what is done in the one is done in the other, until a call that the one wants.
use Rattle.std.proofs.Common.{ℕ, ◌-◌, nat_lt, Bool, true, false, if◌then◌else◌, List, Option, None}
use Rattle.vb_value.specs.declared.application.AppCall.{AppCall}
use Rattle.vb_value.specs.declared.application.AppReply.{AppReply}
use Rattle.vb_value.specs.declared.limit.LimitKind.{LimitKind}
use Rattle.vb_value.specs.declared.limit.LimitKind.TheVariants.{Ticks}
use Rattle.vb_meaning.specs.declared.cause.Cause.{Cause}
use Rattle.vb_meaning.specs.declared.stop.Stop.{Stop}
use Rattle.vb_meaning.specs.declared.stop.Stop.TheVariants as stop
use Rattle.vb_meaning.specs.World.{World}
use Rattle.vb_meaning.specs.Asking.{Host}
use Rattle.vb_meaning.specs.Errors.{tick}
use Rattle.vb_meaning.specs.State.{State, Does, on_world, lifted}
use Rattle.vb_meaning.specs.Step.{Step, Returns, Ends, Run, and_then, ◌>>=◌, pure, ends as step_ends}
use Rattle.vb_meaning.specs.Step.{state_of}
use Rattle.act_laws.proofs.Telling.{Telling}
use Rattle.act_laws.proofs.Wantless.{Wantless, NoWant}

-- Two environments with what they do, and how they and the replies that are left belong together: while what is done
-- in the one is done in the other, where both want the same call, where both ran out of memory, and where only the first
-- stopped for a call.
pub record Link : Type 1 where
  pub E : Type 0
  pub F : Type 0
  pub host : Host E
  pub other : Host F
  pub now : E → List AppReply → F → List AppReply → Type 0
  pub both_want : E → List AppReply → F → List AppReply → Type 0
  pub both_lack : E → List AppReply → F → List AppReply → Type 0
  pub past : AppCall → F → List AppReply → Type 0
  -- whether the second notes the terminators that are entered, and where
  pub tells : Type 0
  pub telling : tells → Telling F

-- how they belong together where both have ended for this reason
abbrev pub Ended : (l : Link) → Stop → l.E → List AppReply → l.F → List AppReply → Type 0
Ended l (stop.Wants call) env replies other_env others = l.both_want env replies other_env others
Ended l (stop.Error what line) env replies other_env others = l.now env replies other_env others
Ended l (stop.Limit kind line) env replies other_env others = l.now env replies other_env others
Ended l stop.Page env replies other_env others = l.now env replies other_env others
Ended l stop.Memory env replies other_env others = l.both_lack env replies other_env others

-- the second is past the call for which the first stopped
abbrev pub Past : {A : Type 0} (l : Link) → AppCall → Step (State l.F) A → Type 0
Past l call step = l.past call (state_of step).env (state_of step).replies

-- a step of the one and a step of the other
pub data Alike (l : Link) {A : Type 0} : Step (State l.E) A → Step (State l.F) A → Type 0 where
  gives : (value : A) (world : World) (ticks : ℕ) (env : l.E) (replies : List AppReply) (other_env : l.F)
      (others : List AppReply)
      → l.now env replies other_env others
      → Alike l (Returns value (record { world = world; ticks = ticks; env = env; replies = replies }))
      (Returns value (record { world = world; ticks = ticks; env = other_env; replies = others }))
  ends : (why : Stop) (world : World) (ticks : ℕ) (env : l.E) (replies : List AppReply) (other_env : l.F)
      (others : List AppReply)
      → Ended l why env replies other_env others
      → Alike l (Ends why (record { world = world; ticks = ticks; env = env; replies = replies }))
      (Ends why (record { world = world; ticks = ticks; env = other_env; replies = others }))
  gone : (call : AppCall) (s : State l.E) (step : Step (State l.F) A) → Past l call step
      → Alike l (Ends (stop.Wants call) s) step

-- something that is done in the one as in the other, until a call
pub record Joined {A : Type 0} (l : Link) (first : Does l.E A) (second : Does l.F A) : Type 0 where
  pub alike : (world : World) (ticks : ℕ) (env : l.E) (replies : List AppReply) (other_env : l.F)
      (others : List AppReply)
      → l.now env replies other_env others
      → Alike l (first (record { world = world; ticks = ticks; env = env; replies = replies }))
      (second (record { world = world; ticks = ticks; env = other_env; replies = others }))
  pub goes_on : (call : AppCall) (world : World) (ticks : ℕ) (env : l.F) (replies : List AppReply)
      → l.past call env replies
      → Past l call (second (record { world = world; ticks = ticks; env = env; replies = replies }))

-- ---- steps

-- what is made of a step in the one, and of a step in the other
pub record JoinedTurn {A B : Type 0} (l : Link) (turn : Step (State l.E) A → Step (State l.E) B)
    (other : Step (State l.F) A → Step (State l.F) B) : Type 0 where
  pub alike : (first : Step (State l.E) A) (second : Step (State l.F) A) → Alike l first second
      → Alike l (turn first) (other second)
  pub goes_on : (call : AppCall) (second : Step (State l.F) A) → Past l call second → Past l call (other second)

-- what is done, and then something is made of the step
pub turn_joined : {A B : Type 0} {l : Link} {turn : Step (State l.E) A → Step (State l.E) B}
    {other : Step (State l.F) A → Step (State l.F) B} {first : Does l.E A} {second : Does l.F A}
    → JoinedTurn l turn other → Joined l first second → Joined l (λ s. turn (first s)) (λ s. other (second s))
turn_joined turns fit = record {
  alike = λ world ticks env replies other_env others now.
      turns.alike _ _ (fit.alike world ticks env replies other_env others now);
  goes_on = λ call world ticks env replies past. turns.goes_on call _ (fit.goes_on call world ticks env replies past);
}

-- what follows a step
pub next_turn : {A B : Type 0} {l : Link} {next : A → Does l.E B} {other : A → Does l.F B}
    → ((value : A) → Joined l (next value) (other value))
    → JoinedTurn l (λ step. and_then step next) (λ step. and_then step other)
next_turn {A} {B} {l} {next} {other} fit = record { alike = alike; goes_on = goes_on }
  where
    goes_on : (call : AppCall) (second : Step (State l.F) A) → Past l call second → Past l call (and_then second other)
    goes_on call (Returns value s) past = (fit value).goes_on call s.world s.ticks s.env s.replies past
    goes_on call (Ends why s) past = past

    alike : (first : Step (State l.E) A) (second : Step (State l.F) A) → Alike l first second
        → Alike l (and_then first next) (and_then second other)
    alike _ _ (gives value world ticks env replies other_env others now) =
        (fit value).alike world ticks env replies other_env others now
    alike _ _ (ends why world ticks env replies other_env others ended) =
        ends why world ticks env replies other_env others ended
    alike _ second (gone call s _ past) = gone call s (and_then second other) (goes_on call second past)

-- ---- what is done

-- one after the other
pub then_joined : {A B : Type 0} {l : Link} {first : Does l.E A} {second : Does l.F A} {next : A → Does l.E B}
    {other : A → Does l.F B} → Joined l first second → ((value : A) → Joined l (next value) (other value))
    → Joined l (first >>= next) (second >>= other)
then_joined fit next = turn_joined (next_turn next) fit

-- a value, and no change
pub value_joined : {A : Type 0} (l : Link) (value : A) → Joined l (pure value) (pure value)
value_joined l value = record {
  alike = λ world ticks env replies other_env others now. gives value world ticks env replies other_env others now;
  goes_on = λ call world ticks env replies past. past;
}

-- an end for another reason than a call
pub error_joined : {A : Type 0} (l : Link) (what : Cause) (line : Option ℕ)
    → Joined {A = A} l (step_ends (stop.Error what line)) (step_ends (stop.Error what line))
error_joined l what line = record {
  alike = λ world ticks env replies other_env others now.
      ends (stop.Error what line) world ticks env replies other_env others now;
  goes_on = λ call world ticks env replies past. past;
}

pub limit_joined : {A : Type 0} (l : Link) (kind : LimitKind) (line : Option ℕ)
    → Joined {A = A} l (step_ends (stop.Limit kind line)) (step_ends (stop.Limit kind line))
limit_joined l kind line = record {
  alike = λ world ticks env replies other_env others now.
      ends (stop.Limit kind line) world ticks env replies other_env others now;
  goes_on = λ call world ticks env replies past. past;
}

-- a step of the world, which is the same in both
pub lifted_alike : {A : Type 0} (l : Link) (before : World) (ticks : ℕ) (env : l.E) (replies : List AppReply)
    (other_env : l.F) (others : List AppReply) → l.now env replies other_env others → (step : Step World A)
    → NoWant step → Alike l (lifted (record { world = before; ticks = ticks; env = env; replies = replies }) step)
    (lifted (record { world = before; ticks = ticks; env = other_env; replies = others }) step)
lifted_alike l before ticks env replies other_env others now (Returns value world) none =
    gives value world ticks env replies other_env others now
lifted_alike l before ticks env replies other_env others now (Ends (stop.Wants call) world) none = absurd none
lifted_alike l before ticks env replies other_env others now (Ends (stop.Error what line) world) none =
    ends (stop.Error what line) world ticks env replies other_env others now
lifted_alike l before ticks env replies other_env others now (Ends (stop.Limit kind line) world) none =
    ends (stop.Limit kind line) world ticks env replies other_env others now
lifted_alike l before ticks env replies other_env others now (Ends stop.Page world) none =
    ends stop.Page world ticks env replies other_env others now
lifted_alike l before ticks env replies other_env others now (Ends stop.Memory world) none = absurd none

lifted_past : {A : Type 0} (l : Link) (call : AppCall) (s : State l.F) → l.past call s.env s.replies
    → (step : Step World A) → Past l call (lifted s step)
lifted_past l call s past (Returns value world) = past
lifted_past l call s past (Ends why world) = past

-- what is done to the world alone
pub world_joined : {A : Type 0} (l : Link) {change : Run World A} → Wantless change
    → Joined l (on_world change) (on_world change)
world_joined l {change} wantless = record {
  alike = λ world ticks env replies other_env others now.
      lifted_alike l world ticks env replies other_env others now (change world) (wantless.no_want world);
  goes_on = λ call world ticks env replies past. lifted_past l call
      (record { world = world; ticks = ticks; env = env; replies = replies }) past
      (change world);
}

-- what is done in a changed world
pub moved_joined : {A : Type 0} {l : Link} (change : World → World) {first : Does l.E A} {second : Does l.F A}
    → Joined l first second
    → Joined l (λ s. first (record s { world = change s.world })) (λ s. second (record s { world = change s.world }))
moved_joined change fit = record {
  alike = λ world ticks env replies other_env others now. fit.alike (change world) ticks env replies other_env others
      now;
  goes_on = λ call world ticks env replies past. fit.goes_on call (change world) ticks env replies past;
}

-- what is done as the world has it
pub seeing_joined : {A : Type 0} {l : Link} (first : World → Does l.E A) (second : World → Does l.F A)
    → ((world : World) → Joined l (first world) (second world))
    → Joined l (λ s. first s.world s) (λ s. second s.world s)
seeing_joined first second each = record {
  alike = λ world ticks env replies other_env others now. (each world).alike world ticks env replies other_env others
      now;
  goes_on = λ call world ticks env replies past. (each world).goes_on call world ticks env replies past;
}

-- what is done by how many ticks are left
pub counting_joined : {A : Type 0} {l : Link} (first : ℕ → Does l.E A) (second : ℕ → Does l.F A)
    → ((ticks : ℕ) → Joined l (first ticks) (second ticks))
    → Joined l (λ s. first s.ticks s) (λ s. second s.ticks s)
counting_joined first second each = record {
  alike = λ world ticks env replies other_env others now.
      (each ticks).alike world ticks env replies other_env others now;
  goes_on = λ call world ticks env replies past. (each ticks).goes_on call world ticks env replies past;
}

-- a tick
pub tick_joined : (l : Link) → Joined l tick tick
unfolding tick
tick_joined l = record {
  alike = λ world ticks env replies other_env others now.
      taken world ticks env replies other_env others now (nat_lt 0 ticks);
  goes_on = λ call world ticks env replies past. gone_on call world ticks env replies past (nat_lt 0 ticks);
}
  where
    taken : (world : World) (ticks : ℕ) (env : l.E) (replies : List AppReply) (other_env : l.F)
        (others : List AppReply) → l.now env replies other_env others → (left : Bool)
        → Alike l {A = Unit {0}}
        (if left then Returns tt (record { world = world; ticks = ticks - 1; env = env; replies = replies })
        else Ends (stop.Limit Ticks None) (record { world = world; ticks = ticks; env = env; replies = replies }))
        (if left then Returns tt (record { world = world; ticks = ticks - 1; env = other_env; replies = others })
        else Ends (stop.Limit Ticks None) (record { world = world; ticks = ticks; env = other_env; replies = others }))
    taken world ticks env replies other_env others now true =
        gives tt world (ticks - 1) env replies other_env others now
    taken world ticks env replies other_env others now false =
        ends (stop.Limit Ticks None) world ticks env replies other_env others now

    gone_on : (call : AppCall) (world : World) (ticks : ℕ) (env : l.F) (replies : List AppReply)
        → l.past call env replies → (left : Bool) → Past {A = Unit {0}} l call
        (if left then Returns tt (record { world = world; ticks = ticks - 1; env = env; replies = replies })
        else Ends (stop.Limit Ticks None) (record { world = world; ticks = ticks; env = env; replies = replies }))
    gone_on call world ticks env replies past true = past
    gone_on call world ticks env replies past false = past
