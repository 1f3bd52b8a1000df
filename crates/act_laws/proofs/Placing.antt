-- A procedure that is left, and a release point, leave the place in the script: the procedure that runs, with its names,
-- and how many procedures are open.
use Rattle.std.proofs.Common.{ℕ, zero, suc, ◌-◌, ◌==◌, nat_lt, pos, Bool, true, false, if◌then◌else◌, List, [], length}
use Rattle.std.proofs.Common.{◌≡◌, Option, Some, None, refl, ◌∙◌}
use Rattle.vb_value.specs.declared.limit.LimitKind.TheVariants.{Depth, Ticks}
use Rattle.vb_value.specs.declared.value.Value.{Value}
use Rattle.vb_value.specs.Errors.{wrong_number}
use Rattle.vb_syntax.specs.declared.program.Program.{Program}
use Rattle.vb_syntax.specs.declared.program.unit.Procedure.{Procedure}
use Rattle.vb_heap.specs.Limits.{most_objects}
use Rattle.vb_heap.specs.Releases.{object_of, oldest_loose, with_ending}
use Rattle.vb_meaning.specs.declared.cause.Cause.TheVariants.{Language}
use Rattle.vb_meaning.specs.declared.reached.Argument.{Argument}
use Rattle.vb_meaning.specs.declared.stop.Stop.TheVariants as stop
use Rattle.vb_meaning.specs.Asking.{Host}
use Rattle.vb_meaning.specs.Calling as calling
use Rattle.vb_meaning.specs.Errors.{tick, too_deep}
use Rattle.vb_meaning.specs.Inner.{Inner, Owner}
use Rattle.vb_meaning.specs.Meaning.{enter, inside}
use Rattle.vb_meaning.specs.Objects.{class_at}
use Rattle.vb_meaning.specs.Places.{held_so_far, let_go, letting_go}
use Rattle.vb_meaning.specs.Releases as releases
use Rattle.vb_meaning.specs.Releases.{in_world, released_one, settle, settle_times, terminate}
use Rattle.vb_meaning.specs.State.{Does, State, on_world, with_store}
use Rattle.vb_meaning.specs.Step.{Step, Returns, Ends, and_then, ◌>>◌, pure, fails}
use Rattle.vb_meaning.specs.Stored.{class_number}
use Rattle.act_laws.specs.Laws.{LeavesPlace}

-- ---- steps

module _ {E : Type 0} where
  -- from a state in the same place
  place_from : {A : Type 0} (a b : State E) → b.world.frame ≡ a.world.frame → b.world.calls ≡ a.world.calls
      → (step : Step (State E) A) → LeavesPlace b step → LeavesPlace a step
  place_from a b frame calls (Returns value s) leaves = (leaves.0 ∙ frame, leaves.1 ∙ calls)
  place_from a b frame calls (Ends stop.Page s) leaves = (leaves.0 ∙ frame, leaves.1 ∙ calls)
  place_from a b frame calls (Ends (stop.Error what line) s) leaves = (leaves.0 ∙ frame, leaves.1 ∙ calls)
  place_from a b frame calls (Ends (stop.Limit kind line) s) leaves = tt
  place_from a b frame calls (Ends (stop.Wants call) s) leaves = tt
  place_from a b frame calls (Ends stop.Memory s) leaves = tt

  -- one after the other
  then_place : {A B : Type 0} (a : State E) (step : Step (State E) A) (next : A → Does E B) → LeavesPlace a step
      → ((value : A) (s : State E) → LeavesPlace s (next value s)) → LeavesPlace a (and_then step next)
  then_place a (Returns value s) next leaves each = place_from a s leaves.0 leaves.1 (next value s) (each value s)
  then_place a (Ends stop.Page s) next leaves each = leaves
  then_place a (Ends (stop.Error what line) s) next leaves each = leaves
  then_place a (Ends (stop.Limit kind line) s) next leaves each = tt
  then_place a (Ends (stop.Wants call) s) next leaves each = tt
  then_place a (Ends stop.Memory s) next leaves each = tt

-- ---- release points

module _ (E : Type 0) (m : Inner E) (enters : (owner : Owner) (procedure : Procedure) (arguments : List Argument)
    (s : State E) → LeavesPlace s (m.enter owner procedure arguments s)) where
  stopped_place : (a : State E) (page_ended : Bool) (s : State E) → s.world.frame ≡ a.world.frame
      → s.world.calls ≡ a.world.calls → LeavesPlace a (releases.stopped E page_ended s)
  stopped_place a true s frame calls = (frame, calls)
  stopped_place a false s frame calls = (frame, calls)

  terminated_place : (a : State E) (object : ℕ) (step : Step (State E) Value) → LeavesPlace a step
      → LeavesPlace a (releases.terminated E object a.world step)
  terminated_place a object (Returns value s) leaves = leaves
  terminated_place a object (Ends (stop.Error what line) s) leaves = leaves
  terminated_place a object (Ends stop.Page s) leaves = stopped_place a a.world.page_ended
      (in_world E (releases.ended object a.world s.world) s) leaves.0 leaves.1
  terminated_place a object (Ends (stop.Limit kind line) s) leaves = tt
  terminated_place a object (Ends (stop.Wants call) s) leaves = tt
  terminated_place a object (Ends stop.Memory s) leaves = tt

  terminator_place : (object : ℕ) (class : Option ℕ) (found : Option Procedure) (s : State E)
      → LeavesPlace s (releases.terminator E m object class found s)
  terminator_place object (Some class) (Some procedure) s =
      enters (Some (object_of object, class)) procedure [] s
  terminator_place object (Some class) None s = (refl, refl)
  terminator_place object None found s = (refl, refl)

  terminate_place : (object : ℕ) (s : State E) → LeavesPlace s (terminate E m object s)
  unfolding terminate
  terminate_place object s =
      let class = class_number object s.world.store in
      let t = in_world E (releases.terminating s.world) s in
      let found = releases.terminator_in (class_at m.program class) in
      let step = releases.terminator E m object class found t in
      terminated_place s object step (place_from s t refl refl step (terminator_place object class found t))

  released_place : (more : Does E (Unit {0})) → ((s : State E) → LeavesPlace s (more s)) → (found : Option ℕ)
      (s : State E) → LeavesPlace s (released_one E m more found s)
  released_place more each None s = (refl, refl)
  released_place more each (Some object) s =
      let t = in_world E (with_store (with_ending (Some object)) s.world) s in
      place_from s t refl refl (released_one E m more (Some object) s)
      (then_place t (terminate E m object t) (λ done. more) (terminate_place object t) (λ done. each))

  times_place : (times : ℕ) (s : State E) → LeavesPlace s (settle_times E m times s)
  times_place zero s = (refl, refl)
  times_place (suc more) s =
      released_place (settle_times E m more) (times_place more) (oldest_loose s.world.store) s

  pub settle_place : (s : State E) → LeavesPlace s (settle E m s)
  unfolding settle
  settle_place s = times_place (most_objects - s.world.finished) s

  -- ---- procedures

  -- behind a procedure that was left for this caller objects end
  settled_place : {A : Type 0} (a s : State E) (next : Does E A) → ((u : State E) → LeavesPlace u (next u))
      → LeavesPlace a ((settle E m >> next) (in_world E (calling.left a.world s.world) s))
  settled_place a s next each =
      let t = in_world E (calling.left a.world s.world) s in
      place_from a t refl refl ((settle E m >> next) t)
      (then_place t (settle E m t) (λ done. next) (settle_place t) (λ done. each))

  abandoned_place : (a : State E) (step : Step (State E) Value)
      → LeavesPlace a (calling.abandoned E m a.world step)
  abandoned_place a (Returns value s) = settled_place a s (pure value) (λ u. (refl, refl))
  abandoned_place a (Ends (stop.Error what line) s) =
      settled_place a s (Ends (stop.Error what line)) (λ u. (refl, refl))
  abandoned_place a (Ends stop.Page s) = (refl, refl)
  abandoned_place a (Ends (stop.Limit kind line) s) = tt
  abandoned_place a (Ends (stop.Wants call) s) = tt
  abandoned_place a (Ends stop.Memory s) = tt

  called_place : (owner : Owner) (procedure : Procedure) (arguments : List Argument) (s : State E)
      → LeavesPlace s (letting_go (calling.called E m owner procedure arguments) s)
  called_place owner procedure arguments s =
      let step = calling.runs E m procedure arguments (in_world E (calling.entered owner s.world) s) in
      then_place s (calling.abandoned E m s.world step)
      (λ value t. Returns value (record t { world = let_go (held_so_far s.world) t.world }))
      (abandoned_place s step) (λ value t. (refl, refl))

-- one construct too many
deep_place : {E : Type 0} (s : State E) → LeavesPlace {E = E} {A = Value} s (on_world too_deep s)
deep_place {E} s = go s.world.terminates
  where
    go : (terminates : Bool) → LeavesPlace {E = E} {A = Value} s
        (Ends (if terminates then stop.Limit Depth None else stop.Error (Language (pos 28)) None)
        (record s { world = s.world }))
    go true = tt
    go false = (refl, refl)

module _ (E : Type 0) (m : Inner E) (enters : (owner : Owner) (procedure : Procedure) (arguments : List Argument)
    (s : State E) → LeavesPlace s (m.enter owner procedure arguments s)) where
  ticked_place : (next : Does E Value) → ((s : State E) → LeavesPlace s (next s)) → (s : State E)
      → LeavesPlace s ((tick >> next) s)
  unfolding tick
  ticked_place next each s = go (nat_lt 0 s.ticks)
    where
      go : (left : Bool) → LeavesPlace s (and_then {S = State E} {A = Unit {0}} {B = Value}
          (if left then Returns tt (record s { ticks = s.ticks - 1 }) else Ends (stop.Limit Ticks None) s)
          (λ done. next))
      go true = let t = record s { ticks = s.ticks - 1 } in place_from s t refl refl (next t) (each t)
      go false = tt

  opened_place : (owner : Owner) (procedure : Procedure) (arguments : List Argument) (s : State E)
      → LeavesPlace s (calling.opened E m owner procedure arguments s)
  opened_place owner procedure arguments s = go (nat_lt s.world.calls calling.most_calls)
    where
      go : (few : Bool) → LeavesPlace s (if few
          then (tick >> letting_go (calling.called E m owner procedure arguments)) s else on_world too_deep s)
      go true = ticked_place (letting_go (calling.called E m owner procedure arguments))
          (called_place E m enters owner procedure arguments) s
      go false = deep_place s

  entered_place : (owner : Owner) (procedure : Procedure) (arguments : List Argument) (s : State E)
      → LeavesPlace s (calling.enter_of E m owner procedure arguments s)
  unfolding calling.enter_of
  entered_place owner procedure arguments s = go (length arguments == length procedure.by_value)
    where
      go : (same : Bool) → LeavesPlace s
          ((if same then calling.opened E m owner procedure arguments else fails wrong_number) s)
      go true = opened_place owner procedure arguments s
      go false = (refl, refl)

-- a procedure, at each level
pub enter_place : (E : Type 0) (host : Host E) (program : Program) (levels : ℕ) (owner : Owner)
    (procedure : Procedure) (arguments : List Argument) (s : State E)
    → LeavesPlace s (enter E host program levels owner procedure arguments s)
unfolding enter
enter_place E host program zero owner procedure arguments s = deep_place s
enter_place E host program (suc levels) owner procedure arguments s =
    entered_place E (inside E host program levels) (enter_place E host program levels) owner procedure arguments s
