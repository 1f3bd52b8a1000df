-- A release point lets nothing go that was held before it.
use Rattle.std.proofs.Common.{ℕ, zero, suc, ◌-◌, Bool, true, false, List, [], Option, Some, None, refl}
use Rattle.vb_value.specs.declared.value.Value.{Value}
use Rattle.vb_syntax.specs.declared.program.unit.Procedure.{Procedure}
use Rattle.vb_heap.specs.Limits.{most_objects}
use Rattle.vb_heap.specs.Releases.{object_of, oldest_loose, with_ending}
use Rattle.vb_heap.specs.Store.{numbered}
use Rattle.vb_meaning.specs.declared.reached.Argument.{Argument}
use Rattle.vb_meaning.specs.declared.stop.Stop.TheVariants as stop
use Rattle.vb_meaning.specs.World.{World}
use Rattle.vb_meaning.specs.Inner.{Inner, Owner}
use Rattle.vb_meaning.specs.Objects.{class_at}
use Rattle.vb_meaning.specs.Places.{held_so_far, let_go}
use Rattle.vb_meaning.specs.Releases as releases
use Rattle.vb_meaning.specs.State.{State, Does, with_store}
use Rattle.vb_meaning.specs.Step.{Step, Returns, Ends, ◌>>◌, pure, state_of, ends as step_ends}
use Rattle.vb_meaning.specs.Stored.{class_number}
use Rattle.act_laws.proofs.HeldData.{finished_held}
use Rattle.act_laws.proofs.Holding.{Carried, Holds, HoldsOn, carried_still, carried_then, held_by, let_go_carried}
use Rattle.act_laws.proofs.Holding.{then_holds}

module _ (E : Type 0) where
  -- the world once the terminator of an object has come to its end
  pub ended_carried : (object : ℕ) (before world : World) → Carried world (releases.ended object before world)
  ended_carried object before world =
      (held_by world.store.held _ (finished_held object (numbered object world.store.objects) world.store), refl)

  stopped_holds : (page_ended : Bool) (s : State E)
      → Carried s.world (state_of (releases.stopped E page_ended s)).world
  stopped_holds true s = carried_still s.world
  stopped_holds false s = carried_still s.world

  pub terminated_holds : (object : ℕ) (before : World)
      → HoldsOn {E = E} {A = Value} {B = Unit {0}} (releases.terminated E object before)
  terminated_holds object before (Returns value s) = ended_carried object before s.world
  terminated_holds object before (Ends (stop.Error what line) s) = ended_carried object before s.world
  terminated_holds object before (Ends stop.Page s) =
      let t = releases.in_world E (releases.ended object before s.world) s in
      carried_then s.world t.world (state_of (releases.stopped E before.page_ended t)).world
      (ended_carried object before s.world) (stopped_holds before.page_ended t)
  terminated_holds object before (Ends (stop.Limit kind line) s) = carried_still s.world
  terminated_holds object before (Ends (stop.Wants call) s) = carried_still s.world
  terminated_holds object before (Ends stop.Memory s) = carried_still s.world

module _ (E : Type 0) (m : Inner E)
    (enter : (owner : Owner) (procedure : Procedure) (arguments : List Argument)
    → Holds (m.enter owner procedure arguments)) where
  terminator_holds : (object : ℕ) (class : Option ℕ) (found : Option Procedure)
      → Holds (releases.terminator E m object class found)
  terminator_holds object (Some class) (Some procedure) = enter (Some (object_of object, class)) procedure []
  terminator_holds object (Some class) None = λ s. carried_still s.world
  terminator_holds object None found = λ s. carried_still s.world

  pub terminate_holds : (object : ℕ) → Holds (releases.terminate E m object)
  unfolding releases.terminate
  terminate_holds object s =
      let class = class_number object s.world.store in
      let t = releases.in_world E (releases.terminating s.world) s in
      let step = releases.terminator_of E m object class t in
      carried_then s.world (state_of step).world (state_of (releases.terminated E object s.world step)).world
      (terminator_holds object class (releases.terminator_in (class_at m.program class)) t)
      (terminated_holds E object s.world step)

  released_one_holds : (more : Does E (Unit {0})) → Holds more → (found : Option ℕ)
      → Holds (releases.released_one E m more found)
  released_one_holds more holds (Some object) s = then_holds (releases.terminate E m object) (λ done. more)
      (terminate_holds object) (λ done. holds)
      (releases.in_world E (with_store (with_ending (Some object)) s.world) s)
  released_one_holds more holds None s = carried_still s.world

  settle_times_holds : (times : ℕ) → Holds (releases.settle_times E m times)
  settle_times_holds zero s = carried_still s.world
  settle_times_holds (suc more) s = released_one_holds (releases.settle_times E m more) (settle_times_holds more)
      (oldest_loose s.world.store) s

  pub settle_holds : Holds (releases.settle E m)
  unfolding releases.settle
  settle_holds s = settle_times_holds (most_objects - s.world.finished) s

  -- a release point, and something that changes nothing behind it
  settled_holds : {A : Type 0} (next : Does E A) → Holds next → (a b : World) → Carried a b → (s : State E)
      → Carried a (state_of ((releases.settle E m >> next) (releases.in_world E (let_go (held_so_far a) b) s))).world
  settled_holds next holds a b carried s =
      let t = releases.in_world E (let_go (held_so_far a) b) s in
      carried_then a t.world (state_of ((releases.settle E m >> next) t)).world (let_go_carried a b carried)
      (then_holds (releases.settle E m) (λ done. next) settle_holds (λ done. holds) t)

  -- the end of a statement or of a head that began in this world
  pub release_holds : {A : Type 0} (a : World) (step : Step (State E) A) → Carried a (state_of step).world
      → Carried a (state_of (releases.release E m (held_so_far a) step)).world
  release_holds a (Returns value s) carried =
      settled_holds (pure value) (λ t. carried_still t.world) a s.world carried s
  release_holds {A} a (Ends (stop.Error what line) s) carried =
      settled_holds {A = A} (step_ends (stop.Error what line)) (λ t. carried_still t.world) a s.world carried s
  release_holds a (Ends stop.Page s) carried = carried
  release_holds a (Ends (stop.Limit kind line) s) carried = carried
  release_holds a (Ends (stop.Wants call) s) carried = carried
  release_holds a (Ends stop.Memory s) carried = carried
