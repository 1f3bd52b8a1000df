-- What scripts do to the world alone wants no call, lacks no memory, and keeps the account of objects.
use Rattle.std.proofs.Common.{ℕ, pos, Bool, true, false, if◌then◌else◌}
use Rattle.std.proofs.Common.{Option, Some, None, Result, Ok, Err}
use Rattle.std.proofs.Common.{◌≡◌, IsTrue, refl, subst, sym, ap, ◌∙◌, is_ok}
use Rattle.vb_value.specs.declared.fault.VbError.{VbError}
use Rattle.vb_heap.specs.declared.fault.HeapStop.{HeapStop}
use Rattle.vb_heap.specs.declared.fault.HeapStop.TheVariants as heap
use Rattle.vb_heap.specs.Store.{Store, numbered}
use Rattle.vb_value.specs.declared.limit.LimitKind.TheVariants.{Depth}
use Rattle.vb_meaning.specs.declared.cause.Cause.{Cause}
use Rattle.vb_meaning.specs.declared.cause.Cause.TheVariants as cause
use Rattle.vb_meaning.specs.declared.stop.Stop.TheVariants as stop
use Rattle.vb_meaning.specs.declared.world.Frame.{Frame}
use Rattle.vb_meaning.specs.World.{World}
use Rattle.vb_meaning.specs.Calling.{in_frame}
use Rattle.vb_meaning.specs.Errors.{in_line, too_deep, depth_stop}
use Rattle.vb_meaning.specs.State.{on_store, store_answer, with_frame, with_store}
use Rattle.vb_meaning.specs.Step.{Step, Returns, Ends, Run, and_then, ◌>>=◌, pure, given, ends, fails}
use Rattle.vb_meaning.specs.Stops.{heap_stop}
use Rattle.act_laws.specs.Entries.{standings}
use Rattle.act_laws.specs.Objects.{AddsUp, Kept, Settled, account_of}
use Rattle.act_laws.proofs.Accounts.{settled_still}
use Rattle.act_laws.proofs.Keeping.{Keeps, goes_settled, kept_moved, line_keeps, next_keeps, still_ends}
use Rattle.act_laws.proofs.Keeping.{still_gives, told}
use Rattle.vb_meaning.specs.Step.{state_of}
use Rattle.act_laws.specs.Held.{HeldOn}
use Rattle.act_laws.proofs.Entering.{Stay}
use Rattle.act_laws.proofs.Holding.{Carried, carried_still, carried_then}
use Rattle.act_laws.proofs.Marks.{seen_in}
use Rattle.act_laws.proofs.Roomy.{IsRoomy}

-- a step that ended for no call, and not because memory ran out
abbrev pub NoWant : {S A : Type 0} → Step S A → Type 0
NoWant (Returns value s) = Unit {0}
NoWant (Ends (stop.Wants call) s) = ⊥
NoWant (Ends (stop.Error what line) s) = Unit {0}
NoWant (Ends (stop.Limit kind line) s) = Unit {0}
NoWant (Ends stop.Page s) = Unit {0}
NoWant (Ends stop.Memory s) = ⊥

-- what neither a call nor memory stops, and what keeps the account of objects and what is said of each
pub record Wantless {A : Type 0} (run : Run World A) : Type 0 where
  pub no_want : (world : World) → NoWant (run world)
  pub keeps : Keeps account_of run
  pub stays : (world : World) → Stay world (state_of (run world))
  pub carries : (world : World) → Carried world (state_of (run world))

-- one after the other
pub then_wantless : {A B : Type 0} {first : Run World A} {next : A → Run World B} → Wantless first
    → ((value : A) → Wantless (next value)) → Wantless (first >>= next)
then_wantless {A} {B} {first} {next} one other = record {
  no_want = λ world. go (first world) (one.no_want world);
  keeps = λ world right. next_keeps account_of next (λ value. (other value).keeps) (account_of world) (first world)
      (one.keeps world right);
  stays = λ world. on (first world) world (one.stays world);
  carries = λ world. carried (first world) world (one.carries world);
}
  where
    on : (step : Step World A) (world : World) → Stay world (state_of step) → Stay world (state_of (and_then step next))
    on (Returns value after) world stay = λ number found is.
        (other value).stays after number found (stay number found is)
    on (Ends why after) world stay = stay

    carried : (step : Step World A) (world : World) → Carried world (state_of step)
        → Carried world (state_of (and_then step next))
    carried (Returns value after) world before = carried_then world after (state_of (next value after)) before
        ((other value).carries after)
    carried (Ends why after) world before = before

    go : (step : Step World A) → NoWant step → NoWant (and_then step next)
    go (Returns value world) none = (other value).no_want world
    go (Ends (stop.Wants call) world) none = none
    go (Ends (stop.Error what line) world) none = tt
    go (Ends (stop.Limit kind line) world) none = tt
    go (Ends stop.Page world) none = tt
    go (Ends stop.Memory world) none = none

pub pure_wantless : {A : Type 0} (value : A) → Wantless (pure value)
pure_wantless value = record {
  no_want = λ world. tt;
  keeps = still_gives account_of value;
  stays = λ world number found is. is;
  carries = carried_still;
}

pub error_wantless : {A : Type 0} (what : Cause) (line : Option ℕ) → Wantless {A = A} (ends (stop.Error what line))
error_wantless {A} what line = record {
  no_want = λ world. tt;
  keeps = still_ends A account_of (stop.Error what line);
  stays = λ world number found is. is;
  carries = carried_still;
}

pub fails_wantless : {A : Type 0} (error : VbError) → Wantless (fails {A = A} error)
fails_wantless error = error_wantless (cause.Language error.number) None

pub given_wantless : {A : Type 0} (answer : Result A VbError) → Wantless (given answer)
given_wantless (Ok value) = pure_wantless value
given_wantless (Err error) = fails_wantless error

-- what is done as the world has it
pub seeing_wantless : {A : Type 0} (run : World → Run World A) → ((world : World) → Wantless (run world))
    → Wantless (λ world. run world world)
seeing_wantless run each = record {
  no_want = λ world. (each world).no_want world;
  keeps = λ world right. (each world).keeps world right;
  stays = λ world. (each world).stays world;
  carries = λ world. (each world).carries world;
}

-- what is done in a changed world, whose account of objects is the same
pub changing_wantless : {A : Type 0} (change : World → World)
    → ((world : World) → told (change world) ≡ told world) → ((world : World) → Carried world (change world))
    → {run : Run World A} → Wantless run
    → Wantless (λ world. run (change world))
changing_wantless change same carried {run} one = record {
  no_want = λ world. one.no_want (change world);
  keeps = λ world right. kept_moved account_of (account_of world) (account_of (change world))
      (ap (λ found. found.0) (same world)) (run (change world)) (one.keeps (change world)) right;
  stays = λ world number found is. one.stays (change world) number found
      (ap (λ seen. numbered number seen.1) (same world) ∙ is);
  carries = λ world.
      carried_then world (change world) (state_of (run (change world))) (carried world) (one.carries (change world));
}

-- a value, and such a changed world
pub change_wantless : {A : Type 0} (value : A) (change : World → World)
    → ((world : World) → told (change world) ≡ told world) → ((world : World) → Carried world (change world))
    → Wantless (λ world. Returns value (change world))
change_wantless value change same carried = changing_wantless change same carried (pure_wantless value)

heap_no_want : {A : Type 0} (world changed : World) (found : Result A HeapStop) → IsRoomy found
    → NoWant (store_answer found changed world)
heap_no_want world changed (Ok value) roomy = tt
heap_no_want world changed (Err (heap.Error number)) roomy = tt
heap_no_want world changed (Err (heap.Limit kind)) roomy = tt
heap_no_want world changed (Err heap.Memory) roomy = roomy

heap_keeps : {A : Type 0} (world changed : World) (found : Result A HeapStop) → AddsUp (account_of world)
    → (IsTrue (is_ok found) → Settled (account_of world) (account_of changed))
    → Kept account_of (account_of world) (store_answer found changed world)
heap_keeps world changed (Ok value) right settled = settled refl
heap_keeps world changed (Err why) right settled =
    goes_settled (heap_stop why) (settled_still (account_of world) right)

heap_stays : {A : Type 0} (world changed : World) → Stay world changed → (found : Result A HeapStop)
    → Stay world (state_of (store_answer found changed world))
heap_stays world changed stay (Ok value) = stay
heap_stays world changed stay (Err why) = λ number found is. is

heap_carries : {A : Type 0} (world changed : World) → Carried world changed → (found : Result A HeapStop)
    → Carried world (state_of (store_answer found changed world))
heap_carries world changed carried (Ok value) = carried
heap_carries world changed carried (Err why) = carried_still world

-- the names of the procedure change
pub framed_wantless : (change : Frame → Frame) → Wantless (in_frame change)
framed_wantless change = change_wantless tt (with_frame change) (λ world. refl) carried_still

-- a call on the data of the page that settles its objects where it is not refused
pub settling_wantless : {A : Type 0} (answer : Store → Result A HeapStop) (change : Store → Store)
    → ((store : Store) → IsRoomy (answer store))
    → ((world : World) → AddsUp (account_of world) → IsTrue (is_ok (answer world.store))
    → Settled (account_of world) (account_of (with_store change world)))
    → ((store : Store) (number : ℕ) (found : Bool × Option ℕ) → numbered number (standings store.objects) ≡ Some found
    → numbered number (standings (change store).objects) ≡ Some found)
    → ((store : Store) → HeldOn store.held (change store).held) → Wantless (on_store answer change)
settling_wantless answer change roomy settles stay held = record {
  no_want = λ world. heap_no_want world (with_store change world) (answer world.store) (roomy world.store);
  keeps = λ world right. heap_keeps world (with_store change world) (answer world.store) right (settles world right);
  stays = λ world. heap_stays world (with_store change world) (stay world.store) (answer world.store);
  carries = λ world. heap_carries world (with_store change world) (held world.store, refl) (answer world.store);
}

-- one that leaves the account of objects, and what is said of each
pub heap_wantless : {A : Type 0} (answer : Store → Result A HeapStop) (change : Store → Store)
    → ((store : Store) → IsRoomy (answer store))
    → ((store : Store) (count : ℕ) → seen_in (change store) count ≡ seen_in store count)
    → ((store : Store) → HeldOn store.held (change store).held) → Wantless (on_store answer change)
heap_wantless answer change roomy same held = settling_wantless answer change roomy (λ world right done.
    subst (λ account. Settled (account_of world) account) (sym (ap (λ seen. seen.0) (same world.store world.finished)))
    (settled_still (account_of world) right))
    (λ store number found is. ap (λ seen. numbered number seen.1) (same store 0) ∙ is) held

-- what is done in a line
pub line_wantless : {A : Type 0} (line : ℕ) {run : Run World A} → Wantless run
    → Wantless (λ world. in_line line (run world))
line_wantless {A} line {run} one = record {
  no_want = λ world. go (run world) (one.no_want world);
  keeps = λ world right. line_keeps account_of line (account_of world) (run world) (one.keeps world right);
  stays = λ world. on (run world) world (one.stays world);
  carries = λ world. carried (run world) world (one.carries world);
}
  where
    on : (step : Step World A) (world : World) → Stay world (state_of step) → Stay world (state_of (in_line line step))
    on (Returns value after) world stay = stay
    on (Ends why after) world stay = stay

    carried : (step : Step World A) (world : World) → Carried world (state_of step)
        → Carried world (state_of (in_line line step))
    carried (Returns value after) world before = before
    carried (Ends why after) world before = before

    go : (step : Step World A) → NoWant step → NoWant (in_line line step)
    go (Returns value world) none = tt
    go (Ends (stop.Wants call) world) none = none
    go (Ends (stop.Error what None) world) none = tt
    go (Ends (stop.Error what (Some at)) world) none = tt
    go (Ends (stop.Limit kind None) world) none = tt
    go (Ends (stop.Limit kind (Some at)) world) none = tt
    go (Ends stop.Page world) none = tt
    go (Ends stop.Memory world) none = none

-- one of two
pub choice_wantless : {A : Type 0} (test : Bool) {one other : Run World A} → Wantless one → Wantless other
    → Wantless (if test then one else other)
choice_wantless true first second = first
choice_wantless false first second = second

-- ---- levels

pub deep_wantless : {A : Type 0} → Wantless (too_deep {A = A})
deep_wantless {A} = record {
  no_want = λ world. go world world.terminates;
  keeps = λ world right. goes_settled (depth_stop world) (settled_still (account_of world) right);
  stays = λ world number found is. is;
  carries = carried_still;
}
  where
    go : (world : World) (terminates : Bool) → NoWant {S = World} {A = A}
        (Ends (if terminates then stop.Limit Depth None
        else stop.Error (cause.Language (pos 28)) None) world)
    go world true = tt
    go world false = tt
