-- Two environments side by side: what is done in the one is done in the other, until a call that the one wants, and it
-- keeps the account of objects.
use Rattle.std.proofs.Common.{ℕ, Bool, true, false, if◌then◌else◌, Result, Ok, Err, Option, None, ◌≡◌, refl, ap}
use Rattle.vb_value.specs.declared.fault.VbError.{VbError}
use Rattle.vb_value.specs.declared.limit.LimitKind.{LimitKind}
use Rattle.vb_meaning.specs.declared.cause.Cause.{Cause}
use Rattle.vb_meaning.specs.declared.cause.Cause.TheVariants.{Language}
use Rattle.vb_meaning.specs.declared.stop.Stop.TheVariants as stop
use Rattle.vb_meaning.specs.World.{World}
use Rattle.vb_meaning.specs.Errors.{tick}
use Rattle.vb_meaning.specs.Places.{held_so_far, let_go, letting_go}
use Rattle.vb_meaning.specs.State.{State, Does, on_world}
use Rattle.vb_meaning.specs.Step.{Step, Returns, Run, and_then, ◌>>=◌, pure, ends as step_ends, given, fails}
use Rattle.vb_meaning.specs.Step.{state_of}
use Rattle.act_laws.specs.Objects.{Account, Kept, account_at, account_of}
use Rattle.act_laws.proofs.Holding.{Carried, Holds, HoldsOn, carried_still, carried_then, lifted_holds, next_holds}
use Rattle.act_laws.proofs.Holding.{letting_holds, tick_holds, turned_holds}
use Rattle.act_laws.proofs.Joined as sides
use Rattle.act_laws.proofs.Joined.{Link, Joined, JoinedTurn}
use Rattle.act_laws.proofs.Keeping.{Keeps, kept_moved, lifted_keeps, next_keeps, still_ends, still_gives, tick_keeps}
use Rattle.act_laws.proofs.Keeping.{told}
use Rattle.act_laws.proofs.Spending.{Spends, SpendsOn, lifted_spends, next_spends, no_less, still_spends, tick_spends}
use Rattle.act_laws.proofs.Spending.{ticks_at, turned_spends}
use Rattle.act_laws.proofs.Telling.{Tells, TellsOn, lifted_tells, moved_tells, next_tells, still_told, tick_tells}
use Rattle.act_laws.proofs.Wantless.{Wantless}

-- something that is done in the one as in the other, keeps the account of objects, gives no tick back, and enters
-- terminators as it should where that is noted
pub record Fits {A : Type 0} (l : Link) (first : Does l.E A) (second : Does l.F A) : Type 0 where
  pub joined : Joined l first second
  pub keeps : Keeps account_at second
  pub spends : Spends ticks_at second
  pub tells : (noting : l.tells) → Tells (l.telling noting) second
  pub holds : Holds second

-- ---- steps

-- what is made of a step in the one, and of a step in the other
pub record Turns {A B : Type 0} (l : Link) (turn : Step (State l.E) A → Step (State l.E) B)
    (other : Step (State l.F) A → Step (State l.F) B) : Type 0 where
  pub joined : JoinedTurn l turn other
  pub keeps : (before : Account) (step : Step (State l.F) A) → Kept account_at before step
      → Kept account_at before (other step)
  pub spends : SpendsOn ticks_at other
  pub tells : (noting : l.tells) → TellsOn (l.telling noting) other
  pub holds : HoldsOn {E = l.F} {A = A} {B = B} other

-- what is done, and then something is made of the step
pub turned : {A B : Type 0} {l : Link} {turn : Step (State l.E) A → Step (State l.E) B}
    {other : Step (State l.F) A → Step (State l.F) B} {first : Does l.E A} {second : Does l.F A}
    → Turns l turn other → Fits l first second → Fits l (λ s. turn (first s)) (λ s. other (second s))
turned {other} {second} turns fit = record {
  joined = sides.turn_joined turns.joined fit.joined;
  keeps = λ s right. turns.keeps (account_at s) (second s) (fit.keeps s right);
  spends = turned_spends ticks_at other second turns.spends fit.spends;
  tells = λ noting s right.
      turns.tells noting s (second s) right (fit.keeps s right.adds_up) (fit.tells noting s right);
  holds = turned_holds other second turns.holds fit.holds;
}

-- what follows a step
pub next_turns : {A B : Type 0} {l : Link} {next : A → Does l.E B} {other : A → Does l.F B}
    → ((value : A) → Fits l (next value) (other value))
    → Turns l (λ step. and_then step next) (λ step. and_then step other)
next_turns {l} {other} fit = record {
  joined = sides.next_turn (λ value. (fit value).joined);
  keeps = next_keeps account_at other (λ value. (fit value).keeps);
  spends = next_spends ticks_at other (λ value. (fit value).spends);
  tells = λ noting. next_tells (l.telling noting) other (λ value. (fit value).keeps)
      (λ value. (fit value).tells noting);
  holds = next_holds other (λ value. (fit value).holds);
}

-- ---- what is done

-- one after the other
pub then_fits : {A B : Type 0} {l : Link} {first : Does l.E A} {second : Does l.F A} {next : A → Does l.E B}
    {other : A → Does l.F B} → Fits l first second → ((value : A) → Fits l (next value) (other value))
    → Fits l (first >>= next) (second >>= other)
then_fits fit next = turned (next_turns next) fit

-- a value, and no change
pub value_fits : {A : Type 0} (l : Link) (value : A) → Fits l (pure value) (pure value)
value_fits l value = record {
  joined = sides.value_joined l value;
  keeps = still_gives account_at value;
  spends = still_spends ticks_at value;
  tells = λ noting s right. still_told (l.telling noting) s;
  holds = λ s. carried_still s.world;
}

-- an end for another reason than a call
pub error_fits : {A : Type 0} (l : Link) (what : Cause) (line : Option ℕ)
    → Fits {A = A} l (step_ends (stop.Error what line)) (step_ends (stop.Error what line))
error_fits {A} l what line = record {
  joined = sides.error_joined l what line;
  keeps = still_ends A account_at (stop.Error what line);
  spends = λ s. no_less (ticks_at s);
  tells = λ noting s right. still_told (l.telling noting) s;
  holds = λ s. carried_still s.world;
}

pub limit_fits : {A : Type 0} (l : Link) (kind : LimitKind) (line : Option ℕ)
    → Fits {A = A} l (step_ends (stop.Limit kind line)) (step_ends (stop.Limit kind line))
limit_fits {A} l kind line = record {
  joined = sides.limit_joined l kind line;
  keeps = still_ends A account_at (stop.Limit kind line);
  spends = λ s. no_less (ticks_at s);
  tells = λ noting s right. still_told (l.telling noting) s;
  holds = λ s. carried_still s.world;
}

-- an error of the language
pub fails_fit : {A : Type 0} (l : Link) (error : VbError) → Fits {A = A} l (fails error) (fails error)
fails_fit l error = error_fits l (Language error.number) None

-- an answer of the language
pub given_fits : {A : Type 0} (l : Link) (answer : Result A VbError) → Fits l (given answer) (given answer)
given_fits l (Ok value) = value_fits l value
given_fits l (Err error) = fails_fit l error

-- what is done to the world alone
pub world_fits : {A : Type 0} (l : Link) {change : Run World A} → Wantless change
    → Fits l (on_world change) (on_world change)
world_fits l {change} wantless = record {
  joined = sides.world_joined l wantless;
  keeps = λ s right. lifted_keeps s (account_at s) (change s.world) (wantless.keeps s.world right);
  spends = λ s. lifted_spends s (change s.world);
  tells = λ noting s right. lifted_tells (l.telling noting) s (change s.world) (wantless.stays s.world);
  holds = λ s. lifted_holds s (change s.world) (wantless.carries s.world);
}

-- one of two
pub choice_fits : {A : Type 0} {l : Link} (test : Bool) {one other : Does l.E A} {first second : Does l.F A}
    → Fits l one first → Fits l other second
    → Fits l (if test then one else other) (if test then first else second)
choice_fits true one other = one
choice_fits false one other = other

-- the same, where the state stands behind
pub either_fits : {A : Type 0} {l : Link} (test : Bool) {one other : Does l.E A} {first second : Does l.F A}
    → Fits l one first → Fits l other second
    → Fits l (λ s. if test then one s else other s) (λ s. if test then first s else second s)
either_fits true one other = one
either_fits false one other = other

-- what is done in a changed world, whose account of objects is the same
pub moved_fits : {A : Type 0} {l : Link} (change : World → World)
    → ((world : World) → told (change world) ≡ told world) → ((world : World) → Carried world (change world))
    → {first : Does l.E A} {second : Does l.F A} → Fits l first second
    → Fits l (λ s. first (record s { world = change s.world })) (λ s. second (record s { world = change s.world }))
moved_fits {l} change same carried {first} {second} fit = record {
  joined = sides.moved_joined change fit.joined;
  keeps = λ s right. kept_moved account_at (account_of s.world) (account_of (change s.world))
      (ap (λ found. found.0) (same s.world))
      (second (record s { world = change s.world })) (fit.keeps (record s { world = change s.world })) right;
  spends = λ s. fit.spends (record s { world = change s.world });
  tells = λ noting. moved_tells (l.telling noting) change same second fit.keeps (fit.tells noting);
  holds = λ s. let moved = second (record s { world = change s.world }) in
      carried_then s.world (change s.world) (state_of moved).world (carried s.world)
      (fit.holds (record s { world = change s.world }));
}

-- what is done by how many ticks are left
pub counting_fits : {A : Type 0} {l : Link} (first : ℕ → Does l.E A) (second : ℕ → Does l.F A)
    → ((ticks : ℕ) → Fits l (first ticks) (second ticks))
    → Fits l (λ s. first s.ticks s) (λ s. second s.ticks s)
counting_fits first second each = record {
  joined = sides.counting_joined first second (λ ticks. (each ticks).joined);
  keeps = λ s right. (each s.ticks).keeps s right;
  spends = λ s. (each s.ticks).spends s;
  tells = λ noting s right. (each s.ticks).tells noting s right;
  holds = λ s. (each s.ticks).holds s;
}

-- a tick
pub tick_fits : (l : Link) → Fits l tick tick
tick_fits l = record {
  joined = sides.tick_joined l;
  keeps = tick_keeps;
  spends = tick_spends;
  tells = λ noting s right. tick_tells (l.telling noting) s;
  holds = tick_holds;
}

-- what is done as the world has it
pub seeing_fits : {A : Type 0} {l : Link} (first : World → Does l.E A) (second : World → Does l.F A)
    → ((world : World) → Fits l (first world) (second world))
    → Fits l (λ s. first s.world s) (λ s. second s.world s)
seeing_fits first second each = record {
  joined = sides.seeing_joined first second (λ world. (each world).joined);
  keeps = λ s right. (each s.world).keeps s right;
  spends = λ s. (each s.world).spends s;
  tells = λ noting s right. (each s.world).tells noting s right;
  holds = λ s. (each s.world).holds s;
}

-- what is done, and what it held is held no more
pub letting_fits : {A : Type 0} {l : Link} {first : Does l.E A} {second : Does l.F A} → Fits l first second
    → Fits l (letting_go first) (letting_go second)
letting_fits {A} {l} {first} {second} fit = record {
  joined = sides.seeing_joined (λ world. first >>= lets world) (λ world. second >>= lets world)
      (λ world. sides.turn_joined (sides.next_turn (λ value.
      sides.moved_joined (let_go (held_so_far world)) (sides.value_joined l value))) fit.joined);
  keeps = λ s right. next_keeps account_at (lets s.world) (lets_keep s.world) (account_at s) (second s)
      (fit.keeps s right);
  spends = λ s. turned_spends ticks_at (λ (step : Step (State l.F) A). and_then step (lets s.world)) second
      (next_spends ticks_at (lets s.world) (λ value t. no_less (ticks_at t))) fit.spends s;
  tells = λ noting s right. next_tells (l.telling noting) (lets s.world) (lets_keep s.world)
      (λ value. moved_tells (l.telling noting) (let_go (held_so_far s.world)) (λ other. refl) (pure value)
      (still_gives account_at value) (λ t right. still_told (l.telling noting) t)) s (second s) right
      (fit.keeps s right.adds_up) (fit.tells noting s right);
  holds = letting_holds second fit.holds;
}
  where
    lets : {E : Type 0} → World → A → Does E A
    lets world value s = Returns value (record s { world = let_go (held_so_far world) s.world })

    lets_keep : (world : World) (value : A) → Keeps account_at (lets {E = l.F} world value)
    lets_keep world value s right = still_gives account_at value s right
