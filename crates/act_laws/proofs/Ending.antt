-- Release points and the page's end keep the account of objects. A release point leaves no live object without
-- references, and the page's end leaves none at all.
use Rattle.std.proofs.Common.{ℕ, zero, suc, ◌+◌, ◌-◌, ◌≡◌, ◌<◌, ◌≤◌, Bool, true, List, [], ◌∷◌, length}
use Rattle.std.proofs.Common.{Option, Some, None, refl, sym, subst, ◌∙◌, arith}
use Rattle.vb_value.specs.declared.value.Value.{Empty}
use Rattle.vb_syntax.specs.declared.program.unit.Procedure.{Procedure}
use Rattle.vb_heap.specs.Limits.{most_objects}
use Rattle.vb_heap.specs.declared.object.Object.{Object}
use Rattle.vb_heap.specs.Releases.{is_loose, oldest, oldest_live, oldest_loose, with_ending}
use Rattle.vb_meaning.specs.declared.reached.Argument.{Argument}
use Rattle.vb_meaning.specs.World.{World}
use Rattle.vb_meaning.specs.Errors.{in_line}
use Rattle.vb_meaning.specs.Inner.{Inner, Owner}
use Rattle.vb_meaning.specs.Objects.{class_at}
use Rattle.vb_meaning.specs.Releases as releases
use Rattle.vb_meaning.specs.State.{State, Does, with_store}
use Rattle.vb_meaning.specs.Step.{◌>>◌}
use Rattle.vb_meaning.specs.Stored.{class_number}
use Rattle.act_laws.specs.Objects.{AddsUp, IsEnding, IsLive, Settled, account_at, account_of, marks}
use Rattle.act_laws.proofs.Accounts.{mark_onward, marked, settled_still, with_mark}
use Rattle.act_laws.proofs.Coming.{Comes, One, Outcome, comes_kept, comes_then, one_closes, one_comes, one_out}
use Rattle.act_laws.proofs.Coming.{NoStop, ends_alone, terminated_out}
use Rattle.act_laws.proofs.Keeping.{Keeps, still_gives}
use Rattle.act_laws.proofs.Marks.{ending_marks, loose_is_live, none_is_left, oldest_is_live}

-- no object is there, if no terminator is being run
abbrev pub IsEmptied : {E : Type 0} → State E → Type 0
IsEmptied s = ((number : ℕ) → IsEnding number (account_at s) → ⊥) → (account_at s).objects ≡ []

-- no live object is without references
abbrev pub HasNoneLoose : {E : Type 0} → State E → Type 0
HasNoneLoose s = oldest_loose s.world.store ≡ None

no_length : {T : Type 0} (things : List T) → length things ≡ 0 → things ≡ []
no_length [] is = refl
no_length (first ∷ others) is = absurd (omega (arith, is))

no_oldest : (test : ℕ → Object → Bool) (objects : List (ℕ × Object)) → length (marks objects) ≡ 0
    → oldest test objects ≡ None
no_oldest test [] is = refl
no_oldest test (first ∷ others) is = absurd (omega (arith, is))

-- where as many objects have ended as may be made, none is there
pub none_loose : {E : Type 0} (s : State E) → AddsUp (account_at s) → most_objects ≤ s.world.finished + 0
    → HasNoneLoose s
none_loose s right enough = no_oldest (is_loose s.world.store) s.world.store.objects
    (omega (arith, right.count, right.most, enough))

module _ (E : Type 0) (m : Inner E)
    (enter : (owner : Owner) (procedure : Procedure) (arguments : List Argument)
    → Keeps account_at (m.enter owner procedure arguments)) where
  pub terminator_keeps : (object : ℕ) (class : Option ℕ) (found : Option Procedure)
      → Keeps account_at (releases.terminator E m object class found)
  terminator_keeps object (Some class) (Some procedure) = enter _ procedure []
  terminator_keeps object (Some class) None = still_gives account_at Empty
  terminator_keeps object None found = still_gives account_at Empty

  pub terminate_out : (object : ℕ) (s : State E) → AddsUp (account_at s) → IsEnding object (account_at s)
      → Outcome object (account_at s) (releases.terminate E m object s)
  unfolding releases.terminate
  terminate_out object s right ends =
      let class = class_number object s.world.store in
      let t = releases.in_world E (releases.terminating s.world) s in
      terminated_out object s.world (account_at s) ends (releases.terminator_of E m object class t)
      (terminator_keeps object class (releases.terminator_in (class_at m.program class)) t right)

  pub terminates_alone : (object : ℕ) (s : State E) → s.world.page_ended ≡ true
      → NoStop (releases.terminate E m object s)
  unfolding releases.terminate
  terminates_alone object s is =
      let class = class_number object s.world.store in
      ends_alone object s.world
      (releases.terminator_of E m object class (releases.in_world E (releases.terminating s.world) s)) is

  -- a live object's terminator begins and is run, in a world that has the same account of objects
  abbrev pub ended_in : (World → World) → ℕ → Does E (Unit {0})
  ended_in change object s = releases.terminate E m object
      (releases.in_world E (change (with_store (with_ending (Some object)) s.world)) s)

  pub one_ends : (change : World → World) → ((world : World) → account_of (change world) ≡ account_of world)
      → (object : ℕ) (s : State E) → AddsUp (account_at s) → IsLive object (account_at s)
      → One (account_at s) (ended_in change object s)
  one_ends change same object s right live =
      let t = releases.in_world E (change (with_store (with_ending (Some object)) s.world)) s in
      let is : account_at t ≡ with_mark object (account_at s) =
      same (with_store (with_ending (Some object)) s.world) ∙ ending_marks s.world.store object s.world.finished live in
      let mid = mark_onward (account_at s) object right live in
      one_out object (account_at s) right live (ended_in change object s)
      (subst (λ account. Outcome object account (ended_in change object s)) is (terminate_out object t
      (subst AddsUp (sym is) mid.adds_up)
      (subst (λ account. IsEnding object account) (sym is) (marked (account_at s) object right live))))

  -- in a release point, and at the page's end
  abbrev pub ended_one : ℕ → Does E (Unit {0})
  ended_one = ended_in (λ world. world)

  abbrev pub ended_last : ℕ → Does E (Unit {0})
  ended_last = ended_in releases.behind_page

  -- ---- a release point

  pub one_released : (P : State E → Type 0) (more : Does E (Unit {0})) (found : Option ℕ) (s : State E)
      → AddsUp (account_at s) → ((object : ℕ) → found ≡ Some object → IsLive object (account_at s))
      → (found ≡ None → P s)
      → ((t : State E) → Settled (account_at s) (account_at t) → s.world.finished < t.world.finished
      → Comes (Unit {0}) P (account_at t) (more t))
      → Comes (Unit {0}) P (account_at s) (releases.released_one E m more found s)
  one_released P more None s right live last after = (settled_still (account_at s) right, last refl)
  one_released P more (Some object) s right live last after = comes_then (Unit {0})
      (λ t. s.world.finished < t.world.finished) P more (account_at s) (ended_one object s)
      (one_comes (account_at s) (ended_one object s)
      (one_ends (λ world. world) (λ world. refl) object s right (live object refl))) after

  settle_times_comes : (times : ℕ) (s : State E) → AddsUp (account_at s) → most_objects ≤ s.world.finished + times
      → Comes (Unit {0}) HasNoneLoose (account_at s) (releases.settle_times E m times s)
  settle_times_comes zero s right enough = (settled_still (account_at s) right, none_loose s right enough)
  settle_times_comes (suc more) s right enough = one_released HasNoneLoose (releases.settle_times E m more)
      (oldest_loose s.world.store) s right
      (λ object is. loose_is_live s.world.store object s.world.finished right.differ is) (λ none. none)
      (λ t settled later. settle_times_comes more t settled.onward.adds_up (omega (arith, enough, later)))

  pub settle_comes : (s : State E) → AddsUp (account_at s)
      → Comes (Unit {0}) HasNoneLoose (account_at s) (releases.settle E m s)
  unfolding releases.settle
  settle_comes s right = settle_times_comes (most_objects - s.world.finished) s right (omega arith)

  pub settle_keeps : Keeps account_at (releases.settle E m)
  settle_keeps s right =
      comes_kept (Unit {0}) HasNoneLoose (account_at s) (releases.settle E m s) (settle_comes s right)

  -- ---- the page's end

  pub one_closed : (P : State E → Type 0) (more : Does E (Unit {0})) (found : Option ℕ) (s : State E)
      → AddsUp (account_at s) → ((object : ℕ) → found ≡ Some object → IsLive object (account_at s))
      → (found ≡ None → P s)
      → ((t : State E) → Settled (account_at s) (account_at t) → s.world.finished < t.world.finished
      → Comes ⊥ P (account_at t) (more t))
      → Comes ⊥ P (account_at s) (releases.end_one E m more found s)
  one_closed P more None s right live last after = (settled_still (account_at s) right, last refl)
  one_closed P more (Some object) s right live last after = comes_then ⊥
      (λ t. s.world.finished < t.world.finished) P more (account_at s)
      (in_line (releases.line_of E m object s.world) (ended_last object s))
      (one_closes (releases.line_of E m object s.world) (account_at s) (ended_last object s)
      (one_ends releases.behind_page (λ world. refl) object s right (live object refl))
      (terminates_alone object
      (releases.in_world E (releases.behind_page (with_store (with_ending (Some object)) s.world)) s) refl)) after

  settle_last_times_comes : (times : ℕ) (s : State E) → AddsUp (account_at s)
      → most_objects ≤ s.world.finished + times
      → Comes ⊥ HasNoneLoose (account_at s) (releases.settle_last_times E m times s)
  settle_last_times_comes zero s right enough = (settled_still (account_at s) right, none_loose s right enough)
  settle_last_times_comes (suc more) s right enough = one_closed HasNoneLoose (releases.settle_last_times E m more)
      (oldest_loose s.world.store) s right
      (λ object is. loose_is_live s.world.store object s.world.finished right.differ is) (λ none. none)
      (λ t settled later. settle_last_times_comes more t settled.onward.adds_up (omega (arith, enough, later)))

  pub settle_last_comes : (s : State E) → AddsUp (account_at s)
      → Comes ⊥ HasNoneLoose (account_at s) (releases.settle_last E m s)
  unfolding releases.settle_last
  settle_last_comes s right = settle_last_times_comes (most_objects - s.world.finished) s right (omega arith)

  end_times_comes : (times : ℕ) (s : State E) → AddsUp (account_at s) → most_objects ≤ s.world.finished + times
      → Comes ⊥ IsEmptied (account_at s) (releases.end_times E m times s)
  end_times_comes zero s right enough = (
    settled_still (account_at s) right,
    λ none. no_length (account_at s).objects (omega (arith, right.count, right.most, enough)),
  )
  end_times_comes (suc more) s right enough = one_closed IsEmptied
      (releases.settle_last E m >> releases.end_times E m more) (oldest_live s.world.store) s right
      (λ object is. oldest_is_live s.world.store object s.world.finished right.differ is)
      (λ none. none_is_left s.world.store.objects none)
      (λ t settled later. comes_then ⊥ HasNoneLoose IsEmptied (releases.end_times E m more) (account_at t)
      (releases.settle_last E m t) (settle_last_comes t settled.onward.adds_up) (λ u next done.
      end_times_comes more u next.onward.adds_up
      (let grown = next.onward.finished in omega (arith, enough, later, grown))))

  pub end_all_comes : (s : State E) → AddsUp (account_at s)
      → Comes ⊥ IsEmptied (account_at s) (releases.end_all E m s)
  unfolding releases.end_all
  end_all_comes s right = end_times_comes (most_objects - s.world.finished) s right (omega arith)

  -- all that is done at the page's end
  pub page_comes : (s : State E) → AddsUp (account_at s)
      → Comes ⊥ IsEmptied (account_at s) ((releases.settle_last E m >> releases.end_all E m) s)
  page_comes s right = comes_then ⊥ HasNoneLoose IsEmptied (releases.end_all E m) (account_at s)
      (releases.settle_last E m s) (settle_last_comes s right)
      (λ t settled done. end_all_comes t settled.onward.adds_up)
