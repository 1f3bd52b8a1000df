-- Release points and the page's end enter terminators as they should.
use Rattle.std.proofs.Common.{ℕ, zero, suc, ◌+◌, ◌-◌, ◌≡◌, ◌<◌, Bool, true, false, List, [], Option, Some, None}
use Rattle.std.proofs.Common.{refl, sym, ap, subst, ◌∙◌}
use Rattle.std.specs.Option.{option_map, option_map_or}
use Rattle.vb_value.specs.declared.value.Value.{Value}
use Rattle.vb_syntax.specs.declared.program.unit.Procedure.{Procedure}
use Rattle.vb_heap.specs.declared.object.Object.{Object}
use Rattle.vb_heap.specs.Limits.{most_objects}
use Rattle.vb_heap.specs.Objects.{class_in}
use Rattle.vb_heap.specs.Releases.{ending, ends_now, object_of}
use Rattle.vb_heap.specs.Releases.{oldest_live}
use Rattle.vb_heap.specs.Releases.{oldest_loose, with_ending}
use Rattle.vb_heap.specs.Store.{Store, numbered, replaced, without}
use Rattle.vb_meaning.specs.declared.reached.Argument.{Argument}
use Rattle.vb_meaning.specs.declared.stop.Stop.TheVariants as stop
use Rattle.vb_meaning.specs.World.{World}
use Rattle.vb_meaning.specs.Errors.{in_line}
use Rattle.vb_meaning.specs.Inner.{Inner, Owner}
use Rattle.vb_meaning.specs.Objects.{class_at}
use Rattle.vb_meaning.specs.Places.{let_go}
use Rattle.vb_meaning.specs.Releases as releases
use Rattle.vb_meaning.specs.State.{State, Does, with_store}
use Rattle.vb_meaning.specs.Step.{Step, Returns, Ends, ◌>>◌, pure, ends as step_ends}
use Rattle.vb_meaning.specs.Stored.{class_found, class_number}
use Rattle.act_laws.specs.Entries.{AreOf, EntersEach, is_among, noted_entry, standing, standings}
use Rattle.act_laws.specs.Objects.{AddsUp, IsEnding, IsLive, Kept, Onward, Settled, account_at, account_of}
use Rattle.vb_meaning.specs.Step.{state_of}
use Rattle.act_laws.proofs.Accounts.{onward_then, settled_still, with_mark}
use Rattle.act_laws.proofs.Coming.{Comes, comes_kept, comes_then, one_comes}
use Rattle.act_laws.proofs.Ending as ends
use Rattle.act_laws.proofs.Entering.{begins_enters, begins_onward, begins_right, ended_enters, ended_onward}
use Rattle.act_laws.proofs.Entering.{enters_then}
use Rattle.act_laws.proofs.Entering.{is_ending, not_running, noted_end, own_told, still_enters}
use Rattle.act_laws.proofs.Keeping.{Keeps, line_keeps, next_keeps, still_ends, still_gives}
use Rattle.act_laws.proofs.Marks.{account_in, ended_at, ended_gone, ending_marks, loose_is_live, oldest_is_live}
use Rattle.act_laws.proofs.Standings.{look, looked_at, looks, standing_of, standings_replaced, standings_without}
use Rattle.act_laws.proofs.Telling.{Right, Telling, Tells, TellsOn, Told, line_tells, moved_tells, next_tells}
use Rattle.act_laws.proofs.Telling.{still_told}

-- ---- what is said of an object that begins to end, and of one that has ended

ending_told : (objects : List (ℕ × Object)) (object : ℕ) (class : Option ℕ) (found : Option Object)
    → numbered object objects ≡ found → numbered object (standings objects) ≡ Some (false, class)
    → standings (option_map_or (λ thing. replaced object (ending thing) objects) found objects)
    ≡ replaced object (looks true class) (standings objects)
ending_told objects object class None is live =
    let none = looked_at objects object ∙ ap (λ thing. option_map look thing) is in absurd (cc)
ending_told objects object class (Some thing) is live = standings_replaced objects object (ending thing)
    ∙ ap (λ kind. replaced object (looks true kind) (standings objects))
    (same_kind thing.ending (class_in thing.content) class
    (sym (looked_at objects object ∙ ap (λ found. option_map look found) is) ∙ live))
  where
    kind_of : Option (Bool × Option ℕ) → Option ℕ
    kind_of (Some told) = told.1
    kind_of None = None

    same_kind : (begun : Bool) (kind class : Option ℕ) → Some (looks begun kind) ≡ Some (looks false class)
        → kind ≡ class
    same_kind begun kind class same = ap kind_of same

class_told : (objects : List (ℕ × Object)) (object : ℕ) (begun : Bool) (class : Option ℕ) (found : Option Object)
    → numbered object objects ≡ found → numbered object (standings objects) ≡ Some (looks begun class)
    → class_found found ≡ class
class_told objects object begun class None is told =
    let none = looked_at objects object ∙ ap (λ thing. option_map look thing) is in absurd (cc)
class_told objects object begun class (Some thing) is told =
    ap kind_of (sym (looked_at objects object ∙ ap (λ found. option_map look found) is) ∙ told)
  where
    kind_of : Option (Bool × Option ℕ) → Option ℕ
    kind_of (Some found) = found.1
    kind_of None = None

-- ---- what is entered as a terminator is noted

-- from a state in which an object is ending to a later one, with what was entered as its terminator noted
pub record HasEntered {F : Type 0} (t : Telling F) (object : ℕ) (found : Option Procedure) (s after : State F)
    : Type 0 where
  pub enters : EntersEach t.program s.world (noted_end object found (t.notes s.env)) after.world (t.notes after.env)
  pub running : (t.notes after.env).running ≡ (t.notes s.env).running

abbrev pub NotesEntries : {F : Type 0} → Telling F → (Owner → Procedure → List Argument → Does F Value) → Type 0
NotesEntries {F} t enter = (object class : ℕ) (procedure : Procedure) (s : State F) → IsEnding object (account_at s)
    → is_among object (t.notes s.env).running ≡ false
    → AreOf s.world (noted_entry (Some object) procedure (t.notes s.env))
    → HasEntered t object (Some procedure) s (state_of (enter (Some (object_of object, class)) procedure [] s))

module _ {F : Type 0} (t : Telling F) where
  -- ---- a terminator comes to its end

  -- an object that is ending has ended
  ended_step : (object : ℕ) (before : World) (s u : State F) → Settled (account_at s) (account_at u)
      → IsEnding object (account_at s)
      → EntersEach t.program u.world (t.notes u.env) (releases.ended object before u.world) (t.notes u.env)
      × Onward (account_at u) (account_of (releases.ended object before u.world))
  ended_step object before s u settled is =
      let right = settled.onward.adds_up in
      let there = settled.stays object is in
      let now : ends_now (numbered object u.world.store.objects) ≡ true =
      ended_at u.world.store object u.world.finished (numbered object u.world.store.objects) refl there in
      let told : standings (releases.ended object before u.world).store.objects
      ≡ without object (standings u.world.store.objects) =
      rw now (standings_without u.world.store.objects object) in
      let account = ended_gone u.world.store object u.world.finished (u.world.finished + 1) there in (
        ended_enters t.program object u.world (releases.ended object before u.world) (t.notes u.env) right there told
            account,
        ended_onward t.program object u.world (releases.ended object before u.world) (t.notes u.env) right there told
            account,
      )

  still_entered : (object : ℕ) (s : State F) → HasEntered t object None s s
  still_entered object s = record { enters = still_enters t.program s.world (t.notes s.env); running = refl }

module _ {F : Type 0} (t : Telling F) (m : Inner F) (same_program : t.program ≡ m.program)
    (keeps : (owner : Owner) (procedure : Procedure) (arguments : List Argument)
    → Keeps account_at (m.enter owner procedure arguments)) (notes_it : NotesEntries t m.enter) where
  -- ---- a live object ends, from a state to the world in which its terminator begins

  module _ (object : ℕ) (class : Option ℕ) (s : State F) (right : Right t s)
      (live : standing object s.world ≡ Some (false, class)) (begun : World)
      (told : standings begun.store.objects ≡ replaced object (looks true class) (standings s.world.store.objects))
      (account : account_of begun ≡ with_mark object (account_at s)) where
    -- the state in which its terminator begins
    abbrev first : State F
    first = releases.in_world F (releases.terminating begun) s

    there : IsEnding object (account_at first)
    there = is_ending t.program object class s.world first.world (t.notes s.env) right live told account

    onward : Onward (account_at s) (account_at first)
    onward = begins_onward t.program object class s.world first.world (t.notes s.env) right live told account

    found_entered : (number : ℕ) (found : Option Procedure)
        → HasEntered t object found first (state_of (releases.terminator F m object (Some number) found first))
    found_entered number (Some procedure) = notes_it object number procedure first there
        (not_running t.program object class s.world first.world (t.notes s.env) right live told account)
        (begins_right t.program object class s.world first.world (t.notes s.env) right live told account procedure)
    found_entered number None = still_entered t object first

    kind_entered : (kind : Option ℕ) → HasEntered t object (releases.terminator_in (class_at m.program kind)) first
        (state_of (releases.terminator_of F m object kind first))
    kind_entered (Some number) = found_entered number (releases.terminator_in (class_at m.program (Some number)))
    kind_entered None = still_entered t object first

    -- what was entered stays so to the end of the terminator
    entered_told : (u : State F) → Onward (account_at first) (account_at u)
        → HasEntered t object (releases.terminator_in (class_at t.program class)) first u → Told t s u
    entered_told u later entered = record {
      enters = enters_then t.program s.world first.world u.world (t.notes s.env)
          (noted_end object (releases.terminator_in (class_at t.program class)) (t.notes s.env)) (t.notes u.env)
          right.adds_up onward later
          (begins_enters t.program object class s.world first.world (t.notes s.env) right live told account)
          entered.enters;
      running = entered.running;
    }

    ended_told : (u : State F) → Settled (account_at first) (account_at u)
        → HasEntered t object (releases.terminator_in (class_at t.program class)) first u
        → Told t s (releases.in_world F (releases.ended object begun u.world) u)
    ended_told u settled entered =
        let before = entered_told u settled.onward entered in
        let end = ended_step t object begun first u settled there in
        let whole : Onward (account_at s) (account_at u) = onward_then onward settled.onward in
        record {
          enters = enters_then t.program s.world u.world (releases.ended object begun u.world) (t.notes s.env)
              (t.notes u.env) (t.notes u.env) right.adds_up whole end.1 before.enters end.0;
          running = before.running;
        }

    stopped_told : (page_ended : Bool) (after : State F) → Told t s after
        → Told t s (state_of (releases.stopped F page_ended after))
    stopped_told true after before = before
    stopped_told false after before = before

    terminated_told : (step : Step (State F) Value) → Kept account_at (account_at first) step
        → HasEntered t object (releases.terminator_in (class_at t.program class)) first (state_of step)
        → Told t s (state_of (releases.terminated F object begun step))
    terminated_told (Returns value u) kept entered = ended_told u kept entered
    terminated_told (Ends (stop.Error what line) u) kept entered = ended_told u kept entered
    terminated_told (Ends stop.Page u) kept entered = stopped_told begun.page_ended
        (releases.in_world F (releases.ended object begun u.world) u) (ended_told u kept entered)
    terminated_told (Ends (stop.Limit kind line) u) kept entered = entered_told u kept entered
    terminated_told (Ends (stop.Wants call) u) kept entered = entered_told u kept entered
    terminated_told (Ends stop.Memory u) kept entered = entered_told u kept entered

    pub one_told : Told t s (state_of (releases.terminate F m object (releases.in_world F begun s)))
    unfolding releases.terminate
    one_told =
        let kind = class_number object begun.store in
        let is : kind ≡ class = class_told begun.store.objects object true class (numbered object begun.store.objects)
        refl
        (own_told t.program object class s.world first.world (t.notes s.env) right live told account) in
        let step = releases.terminator_of F m object kind first in
        terminated_told step
        (ends.terminator_keeps F m keeps object kind (releases.terminator_in (class_at m.program kind)) first
        onward.adds_up)
        (subst (λ number. HasEntered t object (releases.terminator_in (class_at t.program number)) first
        (state_of step)) is
        (subst (λ program. HasEntered t object (releases.terminator_in (class_at program kind)) first (state_of step))
        (sym same_program) (kind_entered kind)))

  -- the same of a live object, in a world that has the same objects
  one_live : (object : ℕ) (s : State F) → Right t s → IsLive object (account_at s)
      → (begun : World) → begun.store ≡ with_ending (Some object) s.world.store
      → begun.finished ≡ s.world.finished
      → Told t s (state_of (releases.terminate F m object (releases.in_world F begun s)))
  one_live object s right live begun heap finished =
      let known = standing_of object s.world false live in
      one_told object known.0 s right known.1 begun
      (ap (λ (store : Store). standings store.objects) heap
      ∙ ending_told s.world.store.objects object known.0 (numbered object s.world.store.objects) refl known.1)
      (ap (λ store. account_in store begun.finished) heap
      ∙ ap (λ count. account_in (with_ending (Some object) s.world.store) count) finished
      ∙ ending_marks s.world.store object s.world.finished live)

  -- ---- a release point

  one_goes : (object : ℕ) (s : State F) → Right t s → IsLive object (account_at s) → (more : Does F (Unit {0}))
      → Keeps account_at more → Tells t more
      → Told t s (state_of (releases.released_one F m more (Some object) s))
  one_goes object s right live more kept tells =
      let step = ends.ended_one F m keeps object s in
      next_tells t (λ done. more) (λ done. kept) (λ done. tells) s step right
      (comes_kept (Unit {0}) (λ after. s.world.finished < after.world.finished) (account_at s) step
      (one_comes (account_at s) step
      (ends.one_ends F m keeps (λ world. world) (λ world. refl) object s right.adds_up live)))
      (one_live object s right live (with_store (with_ending (Some object)) s.world) refl refl)

  abbrev Any : State F → Type 0
  Any s = Unit {0}

  settle_times_goes : (times : ℕ) (s : State F) → AddsUp (account_at s)
      → Comes (Unit {0}) Any (account_at s) (releases.settle_times F m times s)
  settle_times_goes zero s right = (settled_still (account_at s) right, tt)
  settle_times_goes (suc more) s right = ends.one_released F m keeps Any (releases.settle_times F m more)
      (oldest_loose s.world.store) s right
      (λ object is. loose_is_live s.world.store object s.world.finished right.differ is) (λ none. tt)
      (λ after settled later. settle_times_goes more after settled.onward.adds_up)

  settle_times_keeps : (times : ℕ) → Keeps account_at (releases.settle_times F m times)
  settle_times_keeps times s right =
      comes_kept (Unit {0}) Any (account_at s) (releases.settle_times F m times s) (settle_times_goes times s right)

  released_tells : (found : Option ℕ) (s : State F) → Right t s
      → ((object : ℕ) → found ≡ Some object → IsLive object (account_at s)) → (more : Does F (Unit {0}))
      → Keeps account_at more → Tells t more → Told t s (state_of (releases.released_one F m more found s))
  released_tells None s right live more kept tells = still_told t s
  released_tells (Some object) s right live more kept tells = one_goes object s right (live object refl) more kept tells

  settle_times_tells : (times : ℕ) → Tells t (releases.settle_times F m times)
  settle_times_tells zero s right = still_told t s
  settle_times_tells (suc more) s right = released_tells (oldest_loose s.world.store) s right
      (λ object is. loose_is_live s.world.store object s.world.finished right.adds_up.differ is)
      (releases.settle_times F m more) (settle_times_keeps more) (settle_times_tells more)

  pub settle_tells : Tells t (releases.settle F m)
  unfolding releases.settle
  settle_tells s right = settle_times_tells (most_objects - s.world.finished) s right

  -- a release point behind a step, in a world that has the same objects
  settled_tells : {A : Type 0} (mark : ℕ) (next : Does F A) → Keeps account_at next → Tells t next
      → Tells t (λ s. (releases.settle F m >> next) (releases.in_world F (let_go mark s.world) s))
  settled_tells {A} mark next kept tells = moved_tells t (let_go mark) (λ world. refl) (releases.settle F m >> next)
      (λ s right. next_keeps account_at (λ done. next) (λ done. kept) (account_at s) (releases.settle F m s)
      (ends.settle_keeps F m keeps s right))
      (λ s right. next_tells t (λ done. next) (λ done. kept) (λ done. tells) s (releases.settle F m s) right
      (ends.settle_keeps F m keeps s right.adds_up) (settle_tells s right))

  settled_keeps : {A : Type 0} (mark : ℕ) (next : Does F A) → Keeps account_at next
      → Keeps account_at (λ s. (releases.settle F m >> next) (releases.in_world F (let_go mark s.world) s))
  settled_keeps mark next kept s right =
      let moved = releases.in_world F (let_go mark s.world) s in
      next_keeps account_at (λ done. next) (λ done. kept) (account_at moved) (releases.settle F m moved)
      (ends.settle_keeps F m keeps moved right)

  pub release_tells : {A : Type 0} (mark : ℕ) → TellsOn t {A = A} (releases.release F m mark)
  release_tells mark s (Returns value after) right kept before = next_tells t
      (λ done u. (releases.settle F m >> pure value) (releases.in_world F (let_go mark u.world) u))
      (λ done. settled_keeps mark (pure value) (still_gives account_at value))
      (λ done. settled_tells mark (pure value) (still_gives account_at value) (λ u there. still_told t u))
      s (Returns (tt {0}) after) right kept before
  release_tells {A} mark s (Ends (stop.Error what line) after) right kept before = next_tells t
      (λ done u. (releases.settle F m >> step_ends {A = A} (stop.Error what line))
      (releases.in_world F (let_go mark u.world) u))
      (λ done. settled_keeps mark (step_ends (stop.Error what line)) (still_ends A account_at (stop.Error what line)))
      (λ done. settled_tells mark (step_ends (stop.Error what line)) (still_ends A account_at (stop.Error what line))
      (λ u there. still_told t u))
      s (Returns (tt {0}) after) right kept before
  release_tells mark s (Ends stop.Page after) right kept before = before
  release_tells mark s (Ends (stop.Limit kind line) after) right kept before = before
  release_tells mark s (Ends (stop.Wants call) after) right kept before = before
  release_tells mark s (Ends stop.Memory after) right kept before = before

  -- ---- the page's end

  last_goes : (object : ℕ) (s : State F) → Right t s → IsLive object (account_at s) → (more : Does F (Unit {0}))
      → Keeps account_at more → Tells t more → Told t s (state_of (releases.end_one F m more (Some object) s))
  last_goes object s right live more kept tells =
      let line = releases.line_of F m object s.world in
      let step = in_line line (ends.ended_last F m keeps object s) in
      let ran = ends.ended_last F m keeps object s in
      let one = ends.one_ends F m keeps releases.behind_page (λ world. refl) object s right.adds_up live in
      let kept_one = comes_kept (Unit {0}) (λ after. s.world.finished < after.world.finished) (account_at s) ran
      (one_comes (account_at s) ran one) in
      next_tells t (λ done. more) (λ done. kept) (λ done. tells) s step right
      (line_keeps account_at line (account_at s) ran kept_one)
      (line_tells t line s ran right kept_one
      (one_live object s right live (releases.behind_page (with_store (with_ending (Some object)) s.world)) refl refl))

  last_tells : (found : Option ℕ) (s : State F) → Right t s
      → ((object : ℕ) → found ≡ Some object → IsLive object (account_at s)) → (more : Does F (Unit {0}))
      → Keeps account_at more → Tells t more → Told t s (state_of (releases.end_one F m more found s))
  last_tells None s right live more kept tells = still_told t s
  last_tells (Some object) s right live more kept tells = last_goes object s right (live object refl) more kept tells

  settle_last_times_goes : (times : ℕ) (s : State F) → AddsUp (account_at s)
      → Comes ⊥ Any (account_at s) (releases.settle_last_times F m times s)
  settle_last_times_goes zero s right = (settled_still (account_at s) right, tt)
  settle_last_times_goes (suc more) s right = ends.one_closed F m keeps Any (releases.settle_last_times F m more)
      (oldest_loose s.world.store) s right
      (λ object is. loose_is_live s.world.store object s.world.finished right.differ is) (λ none. tt)
      (λ after settled later. settle_last_times_goes more after settled.onward.adds_up)

  settle_last_times_keeps : (times : ℕ) → Keeps account_at (releases.settle_last_times F m times)
  settle_last_times_keeps times s right = comes_kept ⊥ Any (account_at s) (releases.settle_last_times F m times s)
      (settle_last_times_goes times s right)

  settle_last_times_tells : (times : ℕ) → Tells t (releases.settle_last_times F m times)
  settle_last_times_tells zero s right = still_told t s
  settle_last_times_tells (suc more) s right = last_tells (oldest_loose s.world.store) s right
      (λ object is. loose_is_live s.world.store object s.world.finished right.adds_up.differ is)
      (releases.settle_last_times F m more) (settle_last_times_keeps more) (settle_last_times_tells more)

  pub settle_last_keeps : Keeps account_at (releases.settle_last F m)
  unfolding releases.settle_last
  settle_last_keeps s right = settle_last_times_keeps (most_objects - s.world.finished) s right

  pub settle_last_tells : Tells t (releases.settle_last F m)
  unfolding releases.settle_last
  settle_last_tells s right = settle_last_times_tells (most_objects - s.world.finished) s right

  -- a last release point, and what follows
  after_last_keeps : (next : Does F (Unit {0})) → Keeps account_at next
      → Keeps account_at (releases.settle_last F m >> next)
  after_last_keeps next kept s right = next_keeps account_at (λ done. next) (λ done. kept) (account_at s)
      (releases.settle_last F m s) (settle_last_keeps s right)

  after_last_tells : (next : Does F (Unit {0})) → Keeps account_at next → Tells t next
      → Tells t (releases.settle_last F m >> next)
  after_last_tells next kept tells s right = next_tells t (λ done. next) (λ done. kept) (λ done. tells) s
      (releases.settle_last F m s) right (settle_last_keeps s right.adds_up) (settle_last_tells s right)

  end_times_goes : (times : ℕ) (s : State F) → AddsUp (account_at s)
      → Comes ⊥ Any (account_at s) (releases.end_times F m times s)
  end_times_goes zero s right = (settled_still (account_at s) right, tt)
  end_times_goes (suc more) s right = ends.one_closed F m keeps Any
      (releases.settle_last F m >> releases.end_times F m more) (oldest_live s.world.store) s right
      (λ object is. oldest_is_live s.world.store object s.world.finished right.differ is) (λ none. tt)
      (λ after settled later. comes_then ⊥ ends.HasNoneLoose Any (releases.end_times F m more) (account_at after)
      (releases.settle_last F m after) (ends.settle_last_comes F m keeps after settled.onward.adds_up)
      (λ u next done. end_times_goes more u next.onward.adds_up))

  end_times_keeps : (times : ℕ) → Keeps account_at (releases.end_times F m times)
  end_times_keeps times s right =
      comes_kept ⊥ Any (account_at s) (releases.end_times F m times s) (end_times_goes times s right)

  end_times_tells : (times : ℕ) → Tells t (releases.end_times F m times)
  end_times_tells zero s right = still_told t s
  end_times_tells (suc more) s right = last_tells (oldest_live s.world.store) s right
      (λ object is. oldest_is_live s.world.store object s.world.finished right.adds_up.differ is)
      (releases.settle_last F m >> releases.end_times F m more)
      (after_last_keeps (releases.end_times F m more) (end_times_keeps more))
      (after_last_tells (releases.end_times F m more) (end_times_keeps more) (end_times_tells more))

  end_all_keeps : Keeps account_at (releases.end_all F m)
  unfolding releases.end_all
  end_all_keeps s right = end_times_keeps (most_objects - s.world.finished) s right

  pub end_all_tells : Tells t (releases.end_all F m)
  unfolding releases.end_all
  end_all_tells s right = end_times_tells (most_objects - s.world.finished) s right

  pub page_end_keeps : Keeps account_at (releases.settle_last F m >> releases.end_all F m)
  page_end_keeps = after_last_keeps (releases.end_all F m) end_all_keeps

  pub page_end_tells : Tells t (releases.settle_last F m >> releases.end_all F m)
  page_end_tells = after_last_tells (releases.end_all F m) end_all_keeps end_all_tells
