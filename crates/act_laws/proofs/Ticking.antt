-- Release points and the page's end give no tick back.
use Rattle.std.proofs.Common.{ℕ, zero, suc, ◌-◌, ◌≤◌, Bool, true, false, List, [], Option, Some, None}
use Rattle.vb_value.specs.declared.value.Value.{Empty}
use Rattle.vb_syntax.specs.declared.program.unit.Procedure.{Procedure}
use Rattle.vb_heap.specs.Limits.{most_objects}
use Rattle.vb_heap.specs.Releases.{oldest_live, oldest_loose, with_ending}
use Rattle.vb_meaning.specs.declared.reached.Argument.{Argument}
use Rattle.vb_meaning.specs.declared.stop.Stop.TheVariants as stop
use Rattle.vb_meaning.specs.World.{World}
use Rattle.vb_meaning.specs.Errors.{in_line}
use Rattle.vb_meaning.specs.Inner.{Inner, Owner}
use Rattle.vb_meaning.specs.Objects.{class_at}
use Rattle.vb_meaning.specs.Places.{let_go}
use Rattle.vb_meaning.specs.Releases as releases
use Rattle.vb_meaning.specs.State.{State, Does, with_store}
use Rattle.vb_meaning.specs.Step.{Returns, Ends, ◌>>◌, pure, ends as step_ends}
use Rattle.vb_meaning.specs.Stored.{class_number}
use Rattle.vb_meaning.specs.Step.{state_of}
use Rattle.act_laws.proofs.Spending.{Spends, SpendsOn, line_spends, no_less, still_spends, then_spends, ticks_at}
use Rattle.act_laws.proofs.Spending.{turned_spends}

module _ (E : Type 0) where
  stopped_spends : (page_ended : Bool) (s : State E) → ticks_at (state_of (releases.stopped E page_ended s))
      ≤ ticks_at s
  stopped_spends true s = no_less (ticks_at s)
  stopped_spends false s = no_less (ticks_at s)

  terminated_spends : (object : ℕ) (before : World) → SpendsOn ticks_at (releases.terminated E object before)
  terminated_spends object before (Returns value s) = no_less (ticks_at s)
  terminated_spends object before (Ends (stop.Error what line) s) = no_less (ticks_at s)
  terminated_spends object before (Ends stop.Page s) =
      stopped_spends before.page_ended (releases.in_world E (releases.ended object before s.world) s)
  terminated_spends object before (Ends (stop.Limit kind line) s) = no_less (ticks_at s)
  terminated_spends object before (Ends (stop.Wants call) s) = no_less (ticks_at s)
  terminated_spends object before (Ends stop.Memory s) = no_less (ticks_at s)

module _ (E : Type 0) (m : Inner E)
    (enter : (owner : Owner) (procedure : Procedure) (arguments : List Argument)
    → Spends ticks_at (m.enter owner procedure arguments)) where
  terminator_spends : (object : ℕ) (class : Option ℕ) (found : Option Procedure)
      → Spends ticks_at (releases.terminator E m object class found)
  terminator_spends object (Some class) (Some procedure) = enter _ procedure []
  terminator_spends object (Some class) None = still_spends ticks_at Empty
  terminator_spends object None found = still_spends ticks_at Empty

  pub terminate_spends : (object : ℕ) → Spends ticks_at (releases.terminate E m object)
  unfolding releases.terminate
  terminate_spends object s =
      let class = class_number object s.world.store in
      turned_spends ticks_at (releases.terminated E object s.world)
      (λ t. releases.terminator_of E m object class (releases.in_world E (releases.terminating t.world) t))
      (terminated_spends E object s.world)
      (λ t. terminator_spends object class (releases.terminator_in (class_at m.program class))
      (releases.in_world E (releases.terminating t.world) t)) s

  -- ---- a release point

  released_one_spends : (more : Does E (Unit {0})) → Spends ticks_at more → (found : Option ℕ)
      → Spends ticks_at (releases.released_one E m more found)
  released_one_spends more spends (Some object) s = then_spends ticks_at (releases.terminate E m object) (λ done. more)
      (terminate_spends object) (λ done. spends)
      (releases.in_world E (with_store (with_ending (Some object)) s.world) s)
  released_one_spends more spends None s = no_less (ticks_at s)

  settle_times_spends : (times : ℕ) → Spends ticks_at (releases.settle_times E m times)
  settle_times_spends zero s = no_less (ticks_at s)
  settle_times_spends (suc more) s = released_one_spends (releases.settle_times E m more) (settle_times_spends more)
      (oldest_loose s.world.store) s

  pub settle_spends : Spends ticks_at (releases.settle E m)
  unfolding releases.settle
  settle_spends s = settle_times_spends (most_objects - s.world.finished) s

  -- a release point, and something that leaves the ticks behind it
  settled_spends : {A : Type 0} (next : Does E A) → Spends ticks_at next → Spends ticks_at (releases.settle E m >> next)
  settled_spends next spends =
      then_spends ticks_at (releases.settle E m) (λ done. next) settle_spends (λ done. spends)

  pub release_spends : {A : Type 0} (mark : ℕ) → SpendsOn {A = A} ticks_at (releases.release E m mark)
  release_spends mark (Returns value s) =
      settled_spends (pure value) (still_spends ticks_at value) (releases.in_world E (let_go mark s.world) s)
  release_spends {A} mark (Ends (stop.Error what line) s) = settled_spends {A = A} (step_ends (stop.Error what line))
      (λ t. no_less (ticks_at t)) (releases.in_world E (let_go mark s.world) s)
  release_spends mark (Ends stop.Page s) = no_less (ticks_at s)
  release_spends mark (Ends (stop.Limit kind line) s) = no_less (ticks_at s)
  release_spends mark (Ends (stop.Wants call) s) = no_less (ticks_at s)
  release_spends mark (Ends stop.Memory s) = no_less (ticks_at s)

  -- ---- the page's end

  end_one_spends : (more : Does E (Unit {0})) → Spends ticks_at more → (found : Option ℕ)
      → Spends ticks_at (releases.end_one E m more found)
  end_one_spends more spends (Some object) s =
      let line = releases.line_of E m object s.world in
      then_spends ticks_at (λ t. in_line line (releases.terminate E m object t)) (λ done. more)
      (turned_spends ticks_at (in_line line) (releases.terminate E m object) (line_spends ticks_at line)
      (terminate_spends object)) (λ done. spends)
      (releases.in_world E (releases.behind_page (with_store (with_ending (Some object)) s.world)) s)
  end_one_spends more spends None s = no_less (ticks_at s)

  settle_last_times_spends : (times : ℕ) → Spends ticks_at (releases.settle_last_times E m times)
  settle_last_times_spends zero s = no_less (ticks_at s)
  settle_last_times_spends (suc more) s =
      end_one_spends (releases.settle_last_times E m more) (settle_last_times_spends more)
      (oldest_loose s.world.store) s

  settle_last_spends : Spends ticks_at (releases.settle_last E m)
  unfolding releases.settle_last
  settle_last_spends s = settle_last_times_spends (most_objects - s.world.finished) s

  -- a last release point, and what follows
  last_spends : (next : Does E (Unit {0})) → Spends ticks_at next → Spends ticks_at (releases.settle_last E m >> next)
  last_spends next spends =
      then_spends ticks_at (releases.settle_last E m) (λ done. next) settle_last_spends (λ done. spends)

  end_times_spends : (times : ℕ) → Spends ticks_at (releases.end_times E m times)
  end_times_spends zero s = no_less (ticks_at s)
  end_times_spends (suc more) s = end_one_spends (releases.settle_last E m >> releases.end_times E m more)
      (last_spends (releases.end_times E m more) (end_times_spends more)) (oldest_live s.world.store) s

  end_all_spends : Spends ticks_at (releases.end_all E m)
  unfolding releases.end_all
  end_all_spends s = end_times_spends (most_objects - s.world.finished) s

  pub page_end_spends : Spends ticks_at (releases.settle_last E m >> releases.end_all E m)
  page_end_spends = last_spends (releases.end_all E m) end_all_spends
