-- What is done keeps the account of objects.
use Rattle.std.proofs.Common.{ℕ, ◌-◌, nat_lt, ◌≡◌, List, [], ◌∷◌, Bool, true, false, if◌then◌else◌}
use Rattle.std.proofs.Common.{Option, Some, None, Ok, Err, subst, sym}
use Rattle.vb_value.specs.declared.application.AppReply.{AppReply}
use Rattle.vb_value.specs.declared.limit.LimitKind.TheVariants.{Ticks}
use Rattle.vb_value.specs.declared.value.Value.{Value}
use Rattle.vb_syntax.specs.declared.act.Given.TheVariants as given
use Rattle.vb_syntax.specs.declared.member.Member.{Member}
use Rattle.vb_meaning.specs.declared.cause.Cause.{Cause}
use Rattle.vb_meaning.specs.declared.stop.Stop.{Stop}
use Rattle.vb_meaning.specs.declared.stop.Stop.TheVariants as stop
use Rattle.vb_meaning.specs.World.{World}
use Rattle.vb_meaning.specs.Asking.{Host, Said, ask, heard}
use Rattle.vb_meaning.specs.Errors.{in_line, resumed, tick, with_err, raised_by}
use Rattle.vb_meaning.specs.State.{State, lifted}
use Rattle.vb_meaning.specs.Step.{Step, Returns, Ends, Run, and_then}
use Rattle.vb_meaning.specs.Stops.{ask_stop}
use Rattle.act_laws.specs.Entries.{standings}
use Rattle.act_laws.specs.Objects.{Account, AddsUp, Goes, Kept, Onward, Settled, account_at, account_of}
use Rattle.vb_meaning.specs.Step.{state_of}
use Rattle.act_laws.proofs.Accounts.{onward_still, onward_then, settled_still, settled_then}

-- something that is done from any account that adds up
abbrev pub Keeps : {S A : Type 0} → (S → Account) → Run S A → Type 0
Keeps {S} of run = (s : S) → AddsUp (of s) → Kept of (of s) (run s)

-- ---- steps

goes_from : {a b : Account} → Settled a b → (why : Stop) → (c : Account) → Goes why b c → Goes why a c
goes_from before (stop.Error what line) c goes = settled_then before goes
goes_from before stop.Page c goes = settled_then before goes
goes_from before (stop.Limit kind line) c goes = onward_then before.onward goes
goes_from before (stop.Wants call) c goes = onward_then before.onward goes
goes_from before stop.Memory c goes = onward_then before.onward goes

-- what was settled before a step
pub kept_from : {S A : Type 0} (of : S → Account) {a b : Account} → Settled a b → (step : Step S A) → Kept of b step
    → Kept of a step
kept_from of before (Returns value s) kept = settled_then before kept
kept_from of before (Ends why s) kept = goes_from before why (of s) kept

pub goes_settled : {a b : Account} (why : Stop) → Settled a b → Goes why a b
goes_settled (stop.Error what line) settled = settled
goes_settled stop.Page settled = settled
goes_settled (stop.Limit kind line) settled = settled.onward
goes_settled (stop.Wants call) settled = settled.onward
goes_settled stop.Memory settled = settled.onward

-- one after the other
pub next_keeps : {S A B : Type 0} (of : S → Account) (next : A → Run S B) → ((value : A) → Keeps of (next value))
    → (a : Account) (step : Step S A) → Kept of a step → Kept of a (and_then step next)
next_keeps of next keeps a (Returns value s) kept =
    kept_from of kept (next value s) (keeps value s kept.onward.adds_up)
next_keeps of next keeps a (Ends why s) kept = kept

-- a line
pub line_keeps : {S A : Type 0} (of : S → Account) (line : ℕ) (a : Account) (step : Step S A) → Kept of a step
    → Kept of a (in_line line step)
line_keeps of line a (Returns value s) kept = kept
line_keeps of line a (Ends (stop.Error what None) s) kept = kept
line_keeps of line a (Ends (stop.Error what (Some at)) s) kept = kept
line_keeps of line a (Ends (stop.Limit kind None) s) kept = kept
line_keeps of line a (Ends (stop.Limit kind (Some at)) s) kept = kept
line_keeps of line a (Ends (stop.Wants call) s) kept = kept
line_keeps of line a (Ends stop.Page s) kept = kept
line_keeps of line a (Ends stop.Memory s) kept = kept

-- On Error
resumed_error : {E A : Type 0} (instead : A) (a : Account) (what : Cause) (line : Option ℕ) (s : State E)
    (resumes : Bool) → Settled a (account_at s) → Kept {S = State E} {A = A} account_at a
    (if resumes then Returns instead (record s { world = with_err (raised_by what) s.world })
    else Ends (stop.Error what line) s)
resumed_error instead a what line s true kept = kept
resumed_error instead a what line s false kept = kept

pub resumed_keeps : {E A : Type 0} (instead : A) (a : Account) (step : Step (State E) A) → Kept account_at a step
    → Kept account_at a (resumed instead step)
resumed_keeps instead a (Returns value s) kept = kept
resumed_keeps instead a (Ends (stop.Error what line) s) kept =
    resumed_error instead a what line s s.world.frame.resumes kept
resumed_keeps instead a (Ends (stop.Limit kind line) s) kept = kept
resumed_keeps instead a (Ends stop.Page s) kept = kept
resumed_keeps instead a (Ends (stop.Wants call) s) kept = kept
resumed_keeps instead a (Ends stop.Memory s) kept = kept

-- a step of the world, in a state
pub lifted_keeps : {E A : Type 0} (s : State E) (a : Account) (step : Step World A) → Kept account_of a step
    → Kept account_at a (lifted s step)
lifted_keeps s a (Returns value world) kept = kept
lifted_keeps s a (Ends why world) kept = kept

-- ---- what is done

pub still_gives : {S A : Type 0} (of : S → Account) (value : A) → Keeps of (λ s. Returns value s)
still_gives of value s right = settled_still (of s) right

pub still_ends : {S : Type 0} (A : Type 0) (of : S → Account) (why : Stop) → Keeps {A = A} of (λ s. Ends why s)
still_ends A of why s right = goes_settled why (settled_still (of s) right)

heard_keeps : {E : Type 0} (host : Host E) (member : Member) (arguments : List Value) (world : World)
    (ticks : ℕ) (replies : List AppReply) (said : Said E) → AddsUp (account_of world)
    → Kept account_at (account_of world) (heard host member arguments world ticks replies said)
heard_keeps host member arguments world ticks replies (Ok (given.Value value, env)) right =
    settled_still (account_of world) right
heard_keeps host member arguments world ticks replies (Ok (given.Names names, env)) right =
    settled_still (account_of world) right
heard_keeps host member arguments world ticks [] (Ok (given.Call call, env)) right =
    onward_still (account_of world) right
heard_keeps host member arguments world ticks (reply ∷ replies) (Ok (given.Call call, env)) right =
    heard_keeps host member arguments world ticks replies (host.answered member arguments reply env) right
heard_keeps host member arguments world ticks replies (Err (reason, env)) right =
    goes_settled (ask_stop reason) (settled_still (account_of world) right)

-- a tick
pub tick_keeps : {E : Type 0} → Keeps {S = State E} account_at tick
unfolding tick
tick_keeps {E} s right = kept (nat_lt 0 s.ticks)
  where
    kept : (left : Bool) → Kept {S = State E} {A = Unit {0}} account_at (account_at s)
        (if left then Returns tt (record s { ticks = s.ticks - 1 }) else Ends (stop.Limit Ticks None) s)
    kept true = settled_still (account_at s) right
    kept false = onward_still (account_at s) right

-- a question to the objects of the page
pub ask_keeps : {E : Type 0} (host : Host E) (member : Member) (arguments : List Value)
    → Keeps account_at (ask host member arguments)
unfolding ask
ask_keeps host member arguments s right =
    heard_keeps host member arguments s.world s.ticks s.replies (host.asked member arguments s.env) right

-- from a state with the same account
pub kept_moved : {S A : Type 0} (of : S → Account) (a b : Account) → b ≡ a → (step : Step S A)
    → (AddsUp b → Kept of b step) → AddsUp a → Kept of a step
kept_moved of a b same step kept right =
    subst (λ c. Kept of c step) same (kept (subst AddsUp (sym same) right))

-- what is read off a world: its account, and what is said of its objects
abbrev pub told_of : Account → List (ℕ × (Bool × Option ℕ)) → Account × List (ℕ × (Bool × Option ℕ))
told_of account objects = (account, objects)

abbrev pub told : World → Account × List (ℕ × (Bool × Option ℕ))
told world = told_of (account_of world) (standings world.store.objects)

-- how the account goes on, whether a step gives a value or ends
pub kept_onward : {S A : Type 0} (of : S → Account) (a : Account) (step : Step S A) → Kept of a step
    → Onward a (of (state_of step))
kept_onward of a (Returns value s) kept = kept.onward
kept_onward of a (Ends (stop.Error what line) s) kept = kept.onward
kept_onward of a (Ends stop.Page s) kept = kept.onward
kept_onward of a (Ends (stop.Limit kind line) s) kept = kept
kept_onward of a (Ends (stop.Wants call) s) kept = kept
kept_onward of a (Ends stop.Memory s) kept = kept
