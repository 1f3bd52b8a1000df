-- What was held is held still behind all that is done, and whether the page has ended stays.
use Rattle.std.proofs.Common.{ℕ, ◌-◌, List, [], ◌∷◌, ◌++◌, Bool, true, false, if◌then◌else◌, Option, Ok, Err, None}
use Rattle.std.proofs.Common.{◌≡◌, refl, sym, ap, ◌∙◌, nat_lt, length, take}
use Rattle.std.proofs.Math.Seq.{take-append_seam}
use Rattle.std.proofs.lemmas.List.{append-nil, append_assoc}
use Rattle.vb_value.specs.declared.application.AppReply.{AppReply}
use Rattle.vb_value.specs.declared.limit.LimitKind.TheVariants.{Ticks}
use Rattle.vb_value.specs.declared.value.Value.{Value}
use Rattle.vb_syntax.specs.declared.act.Given.TheVariants as given
use Rattle.vb_syntax.specs.declared.member.Member.{Member}
use Rattle.vb_meaning.specs.declared.cause.Cause.{Cause}
use Rattle.vb_meaning.specs.declared.stop.Stop.TheVariants as stop
use Rattle.vb_meaning.specs.World.{World}
use Rattle.vb_meaning.specs.Asking.{Host, Said, ask, heard}
use Rattle.vb_meaning.specs.Errors.{in_line, raised_by, resumed, tick, with_err}
use Rattle.vb_meaning.specs.Places.{held_so_far, let_go, letting_go}
use Rattle.vb_meaning.specs.State.{State, Does, lifted}
use Rattle.vb_meaning.specs.Step.{Step, Returns, Ends, and_then, ◌>>=◌, state_of}
use Rattle.act_laws.specs.Held.{HeldOn}

-- ---- what is held

pub held_same : (held : List ℕ) → HeldOn held held
held_same held = ([], sym (append-nil held))

-- by an equation
pub held_by : (held after : List ℕ) → after ≡ held → HeldOn held after
held_by held after is = ([], is ∙ sym (append-nil held))

held_then : (a b c : List ℕ) → HeldOn a b → HeldOn b c → HeldOn a c
held_then a b c first second =
    (first.0 ++ second.0, second.1 ∙ ap (λ held. held ++ second.0) first.1 ∙ append_assoc a first.0 second.0)

-- from a world to a later one: what was held is held still, and the page has ended as before, or not
abbrev pub Carried : World → World → Type 0
Carried before after = HeldOn before.store.held after.store.held × (after.page_ended ≡ before.page_ended)

pub carried_still : (world : World) → Carried world world
carried_still world = (held_same world.store.held, refl)

pub carried_then : (a b c : World) → Carried a b → Carried b c → Carried a c
carried_then a b c first second =
    (held_then a.store.held b.store.held c.store.held first.0 second.0, second.1 ∙ first.1)

-- what was held since then is held no more
pub held_taken : (before after : List ℕ) → HeldOn before after → take (length before) after ≡ before
held_taken before after on = ap (λ held. take (length before) held) on.1 ∙ take-append_seam before on.0

pub let_go_carried : (a b : World) → Carried a b → Carried a (let_go (held_so_far a) b)
let_go_carried a b carried = (
  ([], held_taken a.store.held b.store.held carried.0 ∙ sym (append-nil a.store.held)),
  carried.1,
)

-- what is done carries on what is held
abbrev pub Holds : {E A : Type 0} → Does E A → Type 0
Holds {E = E} run = (s : State E) → Carried s.world (state_of (run s)).world

-- and so does what is made of a step
abbrev pub HoldsOn : {E A B : Type 0} → (Step (State E) A → Step (State E) B) → Type 0
HoldsOn {E} {A} turn = (step : Step (State E) A) → Carried (state_of step).world (state_of (turn step)).world

-- ---- steps

pub next_holds : {E A B : Type 0} (next : A → Does E B) → ((value : A) → Holds (next value))
    → HoldsOn {E = E} {A = A} {B = B} (λ step. and_then step next)
next_holds next holds (Returns value s) = holds value s
next_holds next holds (Ends why s) = carried_still s.world

pub turned_holds : {E A B : Type 0} (turn : Step (State E) A → Step (State E) B) (run : Does E A)
    → HoldsOn {E = E} {A = A} {B = B} turn → Holds {E = E} {A = A} run → Holds {E = E} {A = B} (λ s. turn (run s))
turned_holds turn run on holds s =
    carried_then s.world (state_of (run s)).world (state_of (turn (run s))).world (holds s) (on (run s))

pub then_holds : {E A B : Type 0} (run : Does E A) (next : A → Does E B) → Holds {E = E} {A = A} run
    → ((value : A) → Holds {E = E} {A = B} (next value)) → Holds {E = E} {A = B} (run >>= next)
then_holds {E} {A} {B} run next first others =
    turned_holds {E = E} {A = A} {B = B} (λ step. and_then step next) run (next_holds next others) first

-- a line
pub line_holds : {E A : Type 0} (line : ℕ) → HoldsOn {E = E} {A = A} {B = A} (in_line line)
line_holds line (Returns value s) = carried_still s.world
line_holds line (Ends why s) = carried_still s.world

-- On Error
resumed_error : {E A : Type 0} (instead : A) (what : Cause) (line : Option ℕ) (s : State E) (resumes : Bool)
    → Carried s.world (state_of {S = State E} {A = A}
    (if resumes then Returns instead (record s { world = with_err (raised_by what) s.world })
    else Ends (stop.Error what line) s)).world
resumed_error instead what line s true = carried_still s.world
resumed_error instead what line s false = carried_still s.world

pub resumed_holds : {E A : Type 0} (instead : A) → HoldsOn {E = E} {A = A} {B = A} (resumed instead)
resumed_holds instead (Returns value s) = carried_still s.world
resumed_holds instead (Ends (stop.Error what line) s) = resumed_error instead what line s s.world.frame.resumes
resumed_holds instead (Ends (stop.Limit kind line) s) = carried_still s.world
resumed_holds instead (Ends stop.Page s) = carried_still s.world
resumed_holds instead (Ends (stop.Wants call) s) = carried_still s.world
resumed_holds instead (Ends stop.Memory s) = carried_still s.world

-- a step of the world, in a state
pub lifted_holds : {E A : Type 0} (s : State E) (step : Step World A) → Carried s.world (state_of step)
    → Carried s.world (state_of (lifted s step)).world
lifted_holds s (Returns value world) carried = carried
lifted_holds s (Ends why world) carried = carried

-- what is done, and what it held is held no more
let_go_holds : {E A : Type 0} (s : State E) (step : Step (State E) A) → Carried s.world (state_of step).world
    → Carried s.world (state_of (and_then step
    (λ value t. Returns value (record t { world = let_go (held_so_far s.world) t.world })))).world
let_go_holds s (Returns value t) carried = let_go_carried s.world t.world carried
let_go_holds s (Ends why t) carried = carried

pub letting_holds : {E A : Type 0} (run : Does E A) → Holds run → Holds (letting_go run)
letting_holds run holds s = let_go_holds s (run s) (holds s)

-- ---- what is done

heard_holds : {E : Type 0} (host : Host E) (member : Member) (arguments : List Value) (world : World)
    (ticks : ℕ) (replies : List AppReply) (said : Said E)
    → Carried world (state_of (heard host member arguments world ticks replies said)).world
heard_holds host member arguments world ticks replies (Ok (given.Value value, env)) = carried_still world
heard_holds host member arguments world ticks replies (Ok (given.Names names, env)) = carried_still world
heard_holds host member arguments world ticks [] (Ok (given.Call call, env)) = carried_still world
heard_holds host member arguments world ticks (reply ∷ replies) (Ok (given.Call call, env)) =
    heard_holds host member arguments world ticks replies (host.answered member arguments reply env)
heard_holds host member arguments world ticks replies (Err (reason, env)) = carried_still world

-- a question to the objects of the page
pub ask_holds : {E : Type 0} (host : Host E) (member : Member) (arguments : List Value)
    → Holds (ask host member arguments)
unfolding ask
ask_holds host member arguments s =
    heard_holds host member arguments s.world s.ticks s.replies (host.asked member arguments s.env)

-- a tick
pub tick_holds : {E : Type 0} → Holds {E = E} tick
unfolding tick
tick_holds {E} s = fewer (nat_lt 0 s.ticks)
  where
    fewer : (left : Bool) → Carried s.world (state_of {S = State E} {A = Unit {0}}
        (if left then Returns tt (record s { ticks = s.ticks - 1 }) else Ends (stop.Limit Ticks None) s)).world
    fewer true = carried_still s.world
    fewer false = carried_still s.world
