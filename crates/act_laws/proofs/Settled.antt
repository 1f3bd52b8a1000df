-- A release point where nothing is loose does nothing; else the oldest loose object ends, and then it goes on.
use Rattle.std.proofs.Common.{ℕ, zero, suc, ◌+◌, ◌-◌, ◌≡◌, ◌≤◌, Bool, true, false, List, Option, Some, None}
use Rattle.std.proofs.Common.{refl, sym, ap, subst, ◌∙◌, inl, inr, arith}
use Rattle.std.proofs.lemmas.Bool.{cases_lt}
use Rattle.vb_value.specs.declared.value.Value.{Value}
use Rattle.vb_syntax.specs.declared.program.unit.Procedure.{Procedure}
use Rattle.vb_heap.specs.Limits.{most_objects}
use Rattle.vb_heap.specs.Releases.{oldest_loose, with_ending}
use Rattle.vb_meaning.specs.declared.reached.Argument.{Argument}
use Rattle.vb_meaning.specs.declared.stop.Stop.TheVariants as stop
use Rattle.vb_meaning.specs.Inner.{Inner, Owner}
use Rattle.vb_meaning.specs.Meaning.{inside}
use Rattle.vb_meaning.specs.Releases as releases
use Rattle.vb_meaning.specs.Releases.{released_one, settle, settle_times, terminate}
use Rattle.vb_meaning.specs.State.{Does, State, with_store}
use Rattle.vb_meaning.specs.Step.{Step, Returns, Ends, ◌>>◌, and_then}
use Rattle.vb_meaning.specs.Stored.{class_number}
use Rattle.act_laws.specs.Laws.{LeavesErr, ReleasePointsSettle}
use Rattle.act_laws.specs.Objects.{Account, AddsUp, IsLive, account_at}
use Rattle.act_laws.specs.Terminators.{NoneLoose}
use Rattle.act_laws.proofs.Coming.{Later, One}
use Rattle.act_laws.proofs.Ending.{ended_one, none_loose, one_ends}
use Rattle.act_laws.proofs.Finishing.{levels_alone}
use Rattle.act_laws.proofs.HeldLaw.{release_leaves}
use Rattle.act_laws.proofs.Keeping.{Keeps}
use Rattle.act_laws.proofs.Marks.{loose_is_live}
use Rattle.act_laws.proofs.Once.{run_once}
use Rattle.act_laws.proofs.Placing.{enter_place, settle_place}

-- ---- nothing is loose

module _ (E : Type 0) (m : Inner E) (s : State E) where
  no_times : (times : ℕ) → oldest_loose s.world.store ≡ None → settle_times E m times s ≡ Returns tt s
  no_times zero none = refl
  no_times (suc more) none = ap (λ found. released_one E m (settle_times E m more) found s) none

  still : oldest_loose s.world.store ≡ None → settle E m s ≡ Returns tt s
  unfolding settle
  still none = no_times (most_objects - s.world.finished) none

-- ---- the oldest ends

same_then : {E : Type 0} (before : Account) (step : Step (State E) (Unit {0})) → One before step
    → (one other : Does E (Unit {0})) → ((s : State E) → Later before (account_at s) → one s ≡ other s)
    → and_then step (λ done. one) ≡ and_then step (λ done. other)
same_then before (Returns done s) later one other same = same s later
same_then before (Ends why s) later one other same = refl

module _ (E : Type 0) (m : Inner E) (enter : (owner : Owner) (procedure : Procedure) (arguments : List Argument)
    → Keeps account_at (m.enter owner procedure arguments)) where
  loose_live : (s : State E) → AddsUp (account_at s) → (object : ℕ) → oldest_loose s.world.store ≡ Some object
      → IsLive object (account_at s)
  loose_live s right object is = loose_is_live s.world.store object s.world.finished right.differ is

  one_of : (s : State E) → AddsUp (account_at s) → (object : ℕ) → oldest_loose s.world.store ≡ Some object
      → One (account_at s) (ended_one E m enter object s)
  one_of s right object is = one_ends E m enter (λ world. world) (λ world. refl) object s right
      (loose_live s right object is)

  released_same : (s : State E) → AddsUp (account_at s) → (one other : Does E (Unit {0})) → (found : Option ℕ)
      → oldest_loose s.world.store ≡ found
      → ((u : State E) → Later (account_at s) (account_at u) → one u ≡ other u)
      → released_one E m one found s ≡ released_one E m other found s
  released_same s right one other None is same = refl
  released_same s right one other (Some object) is same =
      same_then (account_at s) (ended_one E m enter object s) (one_of s right object is) one other same

  -- as many turns as may be needed, and more, are the same
  same_times : (times others : ℕ) (s : State E) → AddsUp (account_at s) → most_objects ≤ s.world.finished + times
      → most_objects ≤ s.world.finished + others → settle_times E m times s ≡ settle_times E m others s
  same_times zero zero s right enough more = refl
  same_times zero (suc others) s right enough more =
      sym (no_times E m s (suc others) (none_loose s right (omega (arith, enough))))
  same_times (suc times) zero s right enough more =
      no_times E m s (suc times) (none_loose s right (omega (arith, more)))
  same_times (suc times) (suc others) s right enough more =
      released_same s right (settle_times E m times) (settle_times E m others) (oldest_loose s.world.store) refl
      (λ u later.
      let more_ended = later.1 in
      same_times times others u later.0.onward.adds_up (omega (arith, enough, more_ended))
      (omega (arith, more, more_ended)))

  goes_on : (s : State E) → AddsUp (account_at s) → (object : ℕ) → oldest_loose s.world.store ≡ Some object
      → settle E m s
      ≡ (terminate E m object >> settle E m) (releases.in_world E (with_store (with_ending (Some object)) s.world) s)
  unfolding settle
  goes_on s right object is = elim (cases_lt s.world.finished most_objects) [
    | inr all ↦ let none : None ≡ Some object = sym (none_loose s right (omega (arith, all))) ∙ is in absurd (cc)
    | inl fewer ↦
        let left = most_objects - s.world.finished - 1 in
        let one : most_objects - s.world.finished ≡ suc left = omega (arith, fewer) in
        ap (λ times. settle_times E m times s) one
        ∙ ap (λ found. released_one E m (settle_times E m left) found s) is
        ∙ same_then (account_at s) (ended_one E m enter object s) (one_of s right object is)
        (settle_times E m left) (settle E m) (λ u later.
        let more_ended = later.1 in
        same_times left (most_objects - u.world.finished) u later.0.onward.adds_up
        (omega (arith, one, fewer, more_ended)) (omega arith))
  ]

-- ---- Err

module _ (E : Type 0) (m : Inner E) where
  leaves_from : (a b : State E) → b.world.err ≡ a.world.err → b.world.terminates ≡ a.world.terminates
      → (step : Step (State E) (Unit {0})) → LeavesErr b step → LeavesErr a step
  leaves_from a b err runs (Returns done s) leaves = (leaves.0 ∙ err, leaves.1 ∙ runs)
  leaves_from a b err runs (Ends stop.Page s) leaves = (leaves.0 ∙ err, leaves.1 ∙ runs)
  leaves_from a b err runs (Ends (stop.Error what line) s) leaves = tt
  leaves_from a b err runs (Ends (stop.Limit kind line) s) leaves = tt
  leaves_from a b err runs (Ends (stop.Wants call) s) leaves = tt
  leaves_from a b err runs (Ends stop.Memory s) leaves = tt

  then_leaves : (a : State E) (step : Step (State E) (Unit {0})) (next : Does E (Unit {0})) → LeavesErr a step
      → ((s : State E) → LeavesErr s (next s)) → LeavesErr a (and_then step (λ done. next))
  then_leaves a (Returns done s) next leaves each = leaves_from a s leaves.0 leaves.1 (next s) (each s)
  then_leaves a (Ends stop.Page s) next leaves each = leaves
  then_leaves a (Ends (stop.Error what line) s) next leaves each = tt
  then_leaves a (Ends (stop.Limit kind line) s) next leaves each = tt
  then_leaves a (Ends (stop.Wants call) s) next leaves each = tt
  then_leaves a (Ends stop.Memory s) next leaves each = tt

  stopped_leaves : (a : State E) (page_ended : Bool) (s : State E) → s.world.err ≡ a.world.err
      → s.world.terminates ≡ a.world.terminates → LeavesErr a (releases.stopped E page_ended s)
  stopped_leaves a true s err runs = (err, runs)
  stopped_leaves a false s err runs = (err, runs)

  terminated_leaves : (a : State E) (object : ℕ) (step : Step (State E) Value)
      → LeavesErr a (releases.terminated E object a.world step)
  terminated_leaves a object (Returns value s) = (refl, refl)
  terminated_leaves a object (Ends (stop.Error what line) s) = (refl, refl)
  terminated_leaves a object (Ends stop.Page s) = stopped_leaves a a.world.page_ended
      (releases.in_world E (releases.ended object a.world s.world) s) refl refl
  terminated_leaves a object (Ends (stop.Limit kind line) s) = tt
  terminated_leaves a object (Ends (stop.Wants call) s) = tt
  terminated_leaves a object (Ends stop.Memory s) = tt

  terminate_leaves : (object : ℕ) (s : State E) → LeavesErr s (terminate E m object s)
  unfolding terminate
  terminate_leaves object s = terminated_leaves s object (releases.terminator_of E m object
      (class_number object s.world.store)
      (releases.in_world E (releases.terminating s.world) s))

  released_leaves : (more : Does E (Unit {0})) → ((s : State E) → LeavesErr s (more s)) → (found : Option ℕ)
      (s : State E) → LeavesErr s (released_one E m more found s)
  released_leaves more each None s = (refl, refl)
  released_leaves more each (Some object) s =
      let t = releases.in_world E (with_store (with_ending (Some object)) s.world) s in
      leaves_from s t refl refl (released_one E m more (Some object) s)
      (then_leaves t (terminate E m object t) more (terminate_leaves object t) each)

  times_leave : (times : ℕ) (s : State E) → LeavesErr s (settle_times E m times s)
  times_leave zero s = (refl, refl)
  times_leave (suc more) s = released_leaves (settle_times E m more) (times_leave more) (oldest_loose s.world.store) s

  settle_leaves : (s : State E) → LeavesErr s (settle E m s)
  unfolding settle
  settle_leaves s = times_leave (most_objects - s.world.finished) s

pub settles_once : (E : Type 0) → ReleasePointsSettle E
settles_once E host program levels s =
    let i = levels_alone E host program levels in
    let m = inside E host program levels in
    record {
      still = still E m s;
      next = goes_on E m (λ owner procedure arguments. (i.enter_fits owner procedure arguments).keeps) s;
      leaves = settle_leaves E m s;
      place = settle_place E m (enter_place E host program levels) s;
      held = release_leaves E host program levels s;
      again = λ right after is. still E m after
          (subst NoneLoose is (((run_once E).1 host program levels s right).0.settles));
    }
