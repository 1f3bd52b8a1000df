-- A release point, and a statement with the one at its end, leave what is held where the page has not ended.
use Rattle.std.proofs.Common.{ℕ, zero, suc, ◌-◌, pos, Bool, true, false, if◌then◌else◌, List, []}
use Rattle.std.proofs.Common.{◌≡◌, Option, Some, None, refl, ◌∙◌}
use Rattle.vb_value.specs.declared.limit.LimitKind.TheVariants.{Depth}
use Rattle.vb_value.specs.declared.value.Value.{Value}
use Rattle.vb_syntax.specs.declared.program.unit.Procedure.{Procedure}
use Rattle.vb_heap.specs.Limits.{most_objects}
use Rattle.vb_heap.specs.Releases.{object_of, oldest_loose, with_ending}
use Rattle.vb_heap.specs.Store.{numbered}
use Rattle.vb_meaning.specs.declared.cause.Cause.TheVariants.{Language}
use Rattle.vb_meaning.specs.declared.reached.Argument.{Argument}
use Rattle.vb_meaning.specs.declared.stop.Stop.TheVariants as stop
use Rattle.vb_meaning.specs.declared.world.Exit.{Exit}
use Rattle.vb_meaning.specs.declared.world.Exit.TheVariants.{Next}
use Rattle.vb_meaning.specs.World.{World}
use Rattle.vb_meaning.specs.Errors.{in_line, raised_by, resumed, too_deep, with_err}
use Rattle.vb_meaning.specs.Executing as executing
use Rattle.vb_meaning.specs.Inner.{Inner, Owner}
use Rattle.vb_meaning.specs.Objects.{class_at}
use Rattle.vb_meaning.specs.Places.{held_so_far, let_go}
use Rattle.vb_meaning.specs.Releases as releases
use Rattle.vb_meaning.specs.Releases.{in_world, released_one, settle, settle_times, terminate}
use Rattle.vb_meaning.specs.State.{State, Does, on_world, with_store}
use Rattle.vb_meaning.specs.Step.{Step, Returns, Ends, and_then, ◌>>◌, pure, state_of}
use Rattle.vb_meaning.specs.Stored.{class_number}
use Rattle.act_laws.proofs.HeldData.{finished_held}
use Rattle.act_laws.proofs.Holding.{Carried, Holds, held_taken}

-- A step that comes to its end, or to an error, leaves what is held, and the page has ended as before, or not.
abbrev pub Left : {E A : Type 0} → State E → Step (State E) A → Type 0
Left before (Returns value s) =
    (s.world.store.held ≡ before.world.store.held) × (s.world.page_ended ≡ before.world.page_ended)
Left before (Ends (stop.Error what line) s) =
    (s.world.store.held ≡ before.world.store.held) × (s.world.page_ended ≡ before.world.page_ended)
Left before (Ends stop.Page s) = Unit {0}
Left before (Ends (stop.Limit kind line) s) = Unit {0}
Left before (Ends (stop.Wants call) s) = Unit {0}
Left before (Ends stop.Memory s) = Unit {0}

-- ---- steps

module _ {E : Type 0} where
  pub left_from : {A : Type 0} (a b : State E) → b.world.store.held ≡ a.world.store.held
      → b.world.page_ended ≡ a.world.page_ended → (step : Step (State E) A) → Left b step → Left a step
  left_from a b held page (Returns value s) left = (left.0 ∙ held, left.1 ∙ page)
  left_from a b held page (Ends stop.Page s) left = tt
  left_from a b held page (Ends (stop.Error what line) s) left = (left.0 ∙ held, left.1 ∙ page)
  left_from a b held page (Ends (stop.Limit kind line) s) left = tt
  left_from a b held page (Ends (stop.Wants call) s) left = tt
  left_from a b held page (Ends stop.Memory s) left = tt

  -- one after the other, where the page has not ended
  pub then_left : {A B : Type 0} (a : State E) → a.world.page_ended ≡ false → (step : Step (State E) A)
      (next : A → Does E B) → Left a step
      → ((value : A) (s : State E) → s.world.page_ended ≡ false → Left s (next value s)) → Left a (and_then step next)
  then_left a goes (Returns value s) next left each =
      left_from a s left.0 left.1 (next value s) (each value s (left.1 ∙ goes))
  then_left a goes (Ends stop.Page s) next left each = tt
  then_left a goes (Ends (stop.Error what line) s) next left each = left
  then_left a goes (Ends (stop.Limit kind line) s) next left each = tt
  then_left a goes (Ends (stop.Wants call) s) next left each = tt
  then_left a goes (Ends stop.Memory s) next left each = tt

  pub line_left : {A : Type 0} (a : State E) (line : ℕ) (step : Step (State E) A) → Left a step
      → Left a (in_line line step)
  line_left a line (Returns value s) left = left
  line_left a line (Ends stop.Page s) left = tt
  line_left a line (Ends (stop.Error what None) s) left = left
  line_left a line (Ends (stop.Error what (Some at)) s) left = left
  line_left a line (Ends (stop.Limit kind None) s) left = tt
  line_left a line (Ends (stop.Limit kind (Some at)) s) left = tt
  line_left a line (Ends (stop.Wants call) s) left = tt
  line_left a line (Ends stop.Memory s) left = tt

-- one construct too many
pub deep_left : {E : Type 0} (A : Type 0) (s : State E) → Left {E = E} {A = A} s (on_world too_deep s)
deep_left {E} A s = go s.world.terminates
  where
    go : (terminates : Bool) → Left {E = E} {A = A} s
        (Ends (if terminates then stop.Limit Depth None else stop.Error (Language (pos 28)) None)
        (record s { world = s.world }))
    go true = tt
    go false = (refl, refl)

pub deep_resumed : {E : Type 0} (s : State E) → Left {E = E} {A = Exit} s (resumed Next (on_world too_deep s))
deep_resumed {E} s = go s.world.terminates
  where
    err : (resumes : Bool) → Left {E = E} {A = Exit} s
        (if resumes then Returns Next (record s { world = with_err (raised_by (Language (pos 28))) s.world })
        else Ends (stop.Error (Language (pos 28)) None) (record s { world = s.world }))
    err true = (refl, refl)
    err false = (refl, refl)

    go : (terminates : Bool) → Left {E = E} {A = Exit} s (resumed Next
        (Ends (if terminates then stop.Limit Depth None else stop.Error (Language (pos 28)) None)
        (record s { world = s.world })))
    go true = tt
    go false = err s.world.frame.resumes

-- a step that ends for no error
abbrev pub NoError : {E A : Type 0} → Step (State E) A → Type 0
NoError (Returns value s) = Unit {0}
NoError (Ends (stop.Error what line) s) = ⊥
NoError (Ends stop.Page s) = Unit {0}
NoError (Ends (stop.Limit kind line) s) = Unit {0}
NoError (Ends (stop.Wants call) s) = Unit {0}
NoError (Ends stop.Memory s) = Unit {0}

then_quiet : {E : Type 0} (step : Step (State E) (Unit {0})) (next : Does E (Unit {0})) → NoError step
    → ((s : State E) → NoError (next s)) → NoError (and_then step (λ done. next))
then_quiet (Returns value s) next quiet each = each s
then_quiet (Ends stop.Page s) next quiet each = tt
then_quiet (Ends (stop.Error what line) s) next quiet each = quiet
then_quiet (Ends (stop.Limit kind line) s) next quiet each = tt
then_quiet (Ends (stop.Wants call) s) next quiet each = tt
then_quiet (Ends stop.Memory s) next quiet each = tt

-- ---- release points

module _ (E : Type 0) (m : Inner E) (enters : (owner : Owner) (procedure : Procedure) (arguments : List Argument)
    (s : State E) → s.world.page_ended ≡ false → Left s (m.enter owner procedure arguments s)) where
  stopped_left : (a : State E) (page_ended : Bool) → page_ended ≡ false → (s : State E)
      → Left a (releases.stopped E page_ended s)
  stopped_left a true goes s = absurd (cc)
  stopped_left a false goes s = tt

  terminated_left : (a : State E) → a.world.page_ended ≡ false → (object : ℕ) (step : Step (State E) Value)
      → Left a step → Left a (releases.terminated E object a.world step)
  terminated_left a goes object (Returns value s) left = (
    finished_held object (numbered object s.world.store.objects) s.world.store ∙ left.0,
    left.1,
  )
  terminated_left a goes object (Ends (stop.Error what line) s) left = (
    finished_held object (numbered object s.world.store.objects) s.world.store ∙ left.0,
    left.1,
  )
  terminated_left a goes object (Ends stop.Page s) left = stopped_left a a.world.page_ended goes
      (in_world E (releases.ended object a.world s.world) s)
  terminated_left a goes object (Ends (stop.Limit kind line) s) left = tt
  terminated_left a goes object (Ends (stop.Wants call) s) left = tt
  terminated_left a goes object (Ends stop.Memory s) left = tt

  terminator_left : (object : ℕ) (class : Option ℕ) (found : Option Procedure) (s : State E)
      → s.world.page_ended ≡ false → Left s (releases.terminator E m object class found s)
  terminator_left object (Some class) (Some procedure) s goes =
      enters (Some (object_of object, class)) procedure [] s goes
  terminator_left object (Some class) None s goes = (refl, refl)
  terminator_left object None found s goes = (refl, refl)

  pub terminate_left : (object : ℕ) (s : State E) → s.world.page_ended ≡ false → Left s (terminate E m object s)
  unfolding terminate
  terminate_left object s goes =
      let class = class_number object s.world.store in
      let t = in_world E (releases.terminating s.world) s in
      let found = releases.terminator_in (class_at m.program class) in
      let step = releases.terminator E m object class found t in
      terminated_left s goes object step (left_from s t refl refl step (terminator_left object class found t goes))

  released_left : (more : Does E (Unit {0})) → ((s : State E) → s.world.page_ended ≡ false → Left s (more s))
      → (found : Option ℕ) (s : State E) → s.world.page_ended ≡ false → Left s (released_one E m more found s)
  released_left more each None s goes = (refl, refl)
  released_left more each (Some object) s goes =
      let t = in_world E (with_store (with_ending (Some object)) s.world) s in
      left_from s t refl refl (released_one E m more (Some object) s)
      (then_left t goes (terminate E m object t) (λ done. more) (terminate_left object t goes) (λ done. each))

  times_left : (times : ℕ) (s : State E) → s.world.page_ended ≡ false → Left s (settle_times E m times s)
  times_left zero s goes = (refl, refl)
  times_left (suc more) s goes =
      released_left (settle_times E m more) (times_left more) (oldest_loose s.world.store) s goes

  stopped_quiet : (page_ended : Bool) (s : State E) → NoError (releases.stopped E page_ended s)
  stopped_quiet true s = tt
  stopped_quiet false s = tt

  terminated_quiet : (object : ℕ) (before : World) (step : Step (State E) Value)
      → NoError (releases.terminated E object before step)
  terminated_quiet object before (Returns value s) = tt
  terminated_quiet object before (Ends (stop.Error what line) s) = tt
  terminated_quiet object before (Ends stop.Page s) =
      stopped_quiet before.page_ended (in_world E (releases.ended object before s.world) s)
  terminated_quiet object before (Ends (stop.Limit kind line) s) = tt
  terminated_quiet object before (Ends (stop.Wants call) s) = tt
  terminated_quiet object before (Ends stop.Memory s) = tt

  terminate_quiet : (object : ℕ) (s : State E) → NoError (terminate E m object s)
  unfolding terminate
  terminate_quiet object s = terminated_quiet object s.world (releases.terminator_of E m object
      (class_number object s.world.store) (in_world E (releases.terminating s.world) s))

  released_quiet : (more : Does E (Unit {0})) → ((s : State E) → NoError (more s)) → (found : Option ℕ) (s : State E)
      → NoError (released_one E m more found s)
  released_quiet more each None s = tt
  released_quiet more each (Some object) s =
      let t = in_world E (with_store (with_ending (Some object)) s.world) s in
      then_quiet (terminate E m object t) more (terminate_quiet object t) each

  times_quiet : (times : ℕ) (s : State E) → NoError (settle_times E m times s)
  times_quiet zero s = tt
  times_quiet (suc more) s = released_quiet (settle_times E m more) (times_quiet more) (oldest_loose s.world.store) s

  pub settle_quiet : (s : State E) → NoError (settle E m s)
  unfolding settle
  settle_quiet s = times_quiet (most_objects - s.world.finished) s

  pub settle_left : (s : State E) → s.world.page_ended ≡ false → Left s (settle E m s)
  unfolding settle
  settle_left s goes = times_left (most_objects - s.world.finished) s goes

  -- ---- a statement

  -- a release point behind a world in which the page has not ended, and what changes nothing behind it
  settled_left : {A : Type 0} (a : State E) → a.world.page_ended ≡ false → (world : World) (s : State E)
      → world.store.held ≡ a.world.store.held → world.page_ended ≡ a.world.page_ended → (next : Does E A)
      → ((t : State E) → t.world.page_ended ≡ false → Left t (next t))
      → Left a ((settle E m >> next) (in_world E world s))
  settled_left a goes world s held page next each =
      let t = in_world E world s in
      left_from a t held page ((settle E m >> next) t)
      (then_left t (page ∙ goes) (settle E m t) (λ done. next) (settle_left t (page ∙ goes)) (λ done. each))

  release_left : {A : Type 0} (a : State E) → a.world.page_ended ≡ false → (step : Step (State E) A)
      → Carried a.world (state_of step).world → Left a (releases.release E m (held_so_far a.world) step)
  release_left a goes (Returns value s) carried = settled_left a goes (let_go (held_so_far a.world) s.world) s
      (held_taken a.world.store.held s.world.store.held carried.0) carried.1 (pure value) (λ t is. (refl, refl))
  release_left a goes (Ends (stop.Error what line) s) carried =
      settled_left a goes (let_go (held_so_far a.world) s.world) s
      (held_taken a.world.store.held s.world.store.held carried.0) carried.1
      (Ends (stop.Error what line)) (λ t is. (refl, refl))
  release_left a goes (Ends stop.Page s) carried = tt
  release_left a goes (Ends (stop.Limit kind line) s) carried = tt
  release_left a goes (Ends (stop.Wants call) s) carried = tt
  release_left a goes (Ends stop.Memory s) carried = tt

  pub whole_left : (line : ℕ) (run : Does E Exit) → Holds (λ s. resumed Next (run s)) → (s : State E)
      → s.world.page_ended ≡ false → Left s (executing.whole E m line run s)
  whole_left line run holds s goes = line_left s line
      (releases.release E m (held_so_far s.world) (resumed Next (run s)))
      (release_left s goes (resumed Next (run s)) (holds s))
