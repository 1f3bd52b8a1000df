-- A procedure leaves what is held where the page has not ended, and so a statement, level by level.
use Rattle.std.proofs.Common.{ℕ, zero, suc, ◌-◌, ◌==◌, nat_lt, Bool, true, false, if◌then◌else◌, List, [], ◌∷◌}
use Rattle.std.proofs.Common.{◌++◌}
use Rattle.std.proofs.Common.{◌≡◌, Option, None, refl, ap, ◌∙◌, length}
use Rattle.vb_value.specs.declared.limit.LimitKind.TheVariants.{Ticks}
use Rattle.vb_value.specs.declared.value.Value.{Value}
use Rattle.vb_value.specs.Errors.{wrong_number}
use Rattle.vb_syntax.specs.declared.program.Program.{Program}
use Rattle.vb_syntax.specs.declared.program.statement.Statement.{Statement}
use Rattle.vb_syntax.specs.declared.program.statement.StatementKind.{out-StatementKind}
use Rattle.vb_syntax.specs.declared.program.statement.StatementKind.TheOpen.{StatementKind-F}
use Rattle.vb_syntax.specs.declared.program.unit.Procedure.{Procedure}
use Rattle.vb_meaning.specs.declared.cause.Cause.{Cause}
use Rattle.vb_meaning.specs.declared.reached.Argument.{Argument}
use Rattle.vb_meaning.specs.declared.stop.Stop.TheVariants as stop
use Rattle.vb_meaning.specs.declared.world.Exit.{Exit}
use Rattle.vb_meaning.specs.declared.world.Exit.TheVariants.{Next, Leave}
use Rattle.vb_meaning.specs.World.{World}
use Rattle.vb_meaning.specs.Blocks as blocks
use Rattle.vb_meaning.specs.Calling as calling
use Rattle.vb_meaning.specs.Errors.{resumed, tick, too_deep}
use Rattle.vb_meaning.specs.Executing as executing
use Rattle.vb_meaning.specs.Asking.{Host}
use Rattle.vb_meaning.specs.Inner.{Inner, Owner}
use Rattle.vb_meaning.specs.Meaning.{enter, inside, statement}
use Rattle.vb_meaning.specs.Places.{held_so_far, let_go, letting_go}
use Rattle.vb_meaning.specs.Releases.{in_world, settle}
use Rattle.vb_meaning.specs.State.{State, Does, lifted, on_world}
use Rattle.vb_meaning.specs.Step.{Step, Returns, Ends, and_then, ◌>>◌, pure, fails, state_of}
use Rattle.act_laws.proofs.HeldBegins.{GivesHeld, begins_unheld, given_held}
use Rattle.act_laws.proofs.HeldData.{dropped_held}
use Rattle.act_laws.proofs.Holding.{Carried, Holds, held_taken}
use Rattle.act_laws.proofs.HeldPoints.{Left, NoError, deep_left, deep_resumed, left_from, line_left, settle_left}
use Rattle.act_laws.proofs.HeldPoints.{settle_quiet, then_left, whole_left}

-- The same, but that what it gives may be held.
abbrev pub Gives : {E A : Type 0} → State E → Step (State E) A → Type 0
Gives before (Returns value s) = Carried before.world s.world
Gives before (Ends (stop.Error what line) s) =
    (s.world.store.held ≡ before.world.store.held) × (s.world.page_ended ≡ before.world.page_ended)
Gives before (Ends stop.Page s) = Unit {0}
Gives before (Ends (stop.Limit kind line) s) = Unit {0}
Gives before (Ends (stop.Wants call) s) = Unit {0}
Gives before (Ends stop.Memory s) = Unit {0}

-- ---- procedures

module _ (E : Type 0) (m : Inner E) (enters : (owner : Owner) (procedure : Procedure) (arguments : List Argument)
    (s : State E) → s.world.page_ended ≡ false → Left s (m.enter owner procedure arguments s))
    (states : (statement : Statement) (s : State E) → s.world.page_ended ≡ false
    → Left s (m.statement statement s)) where
  after_left : (rest : Does E Exit) → ((s : State E) → s.world.page_ended ≡ false → Left s (rest s))
      → (exit : Exit) (s : State E) → s.world.page_ended ≡ false → Left s (blocks.after E m rest exit s)
  after_left rest each Next s goes = each s goes
  after_left rest each (Leave kind) s goes = (refl, refl)

  block_left : (statements : List Statement) (s : State E) → s.world.page_ended ≡ false
      → Left s (blocks.block E m statements s)
  block_left [] s goes = (refl, refl)
  block_left (first ∷ others) s goes = then_left s goes (m.statement first s)
      (blocks.after E m (blocks.block E m others)) (states first s goes)
      (after_left (blocks.block E m others) (block_left others))

  -- what follows gives a value that is held
  gives_from : {A : Type 0} (a b : State E) → b.world.store.held ≡ a.world.store.held
      → b.world.page_ended ≡ a.world.page_ended → (step : Step (State E) A) → Gives b step → Gives a step
  gives_from a b held page (Returns value s) gives =
      ((gives.0.0, gives.0.1 ∙ ap (λ found. found ++ gives.0.0) held), gives.1 ∙ page)
  gives_from a b held page (Ends stop.Page s) gives = tt
  gives_from a b held page (Ends (stop.Error what line) s) gives = (gives.0 ∙ held, gives.1 ∙ page)
  gives_from a b held page (Ends (stop.Limit kind line) s) gives = tt
  gives_from a b held page (Ends (stop.Wants call) s) gives = tt
  gives_from a b held page (Ends stop.Memory s) gives = tt

  then_gives : {A B : Type 0} (a : State E) (step : Step (State E) A) (next : A → Does E B) → Left a step
      → ((value : A) (s : State E) → Gives s (next value s)) → Gives a (and_then step next)
  then_gives a (Returns value s) next left each = gives_from a s left.0 left.1 (next value s) (each value s)
  then_gives a (Ends stop.Page s) next left each = tt
  then_gives a (Ends (stop.Error what line) s) next left each = left
  then_gives a (Ends (stop.Limit kind line) s) next left each = tt
  then_gives a (Ends (stop.Wants call) s) next left each = tt
  then_gives a (Ends stop.Memory s) next left each = tt

  unheld_left : {A : Type 0} (s : State E) (step : Step World A)
      → (state_of step).store.held ≡ s.world.store.held → (state_of step).page_ended ≡ s.world.page_ended
      → Left s (lifted s step)
  unheld_left s (Returns value world) held page = (held, page)
  unheld_left s (Ends (stop.Error what line) world) held page = (held, page)
  unheld_left s (Ends stop.Page world) held page = tt
  unheld_left s (Ends (stop.Limit kind line) world) held page = tt
  unheld_left s (Ends (stop.Wants call) world) held page = tt
  unheld_left s (Ends stop.Memory world) held page = tt

  runs_left : (procedure : Procedure) (arguments : List Argument) (s : State E) → s.world.page_ended ≡ false
      → Gives s (calling.runs E m procedure arguments s)
  runs_left procedure arguments s goes =
      let begun = (begins_unheld procedure arguments).still s.world in
      then_gives s ((on_world (calling.begins procedure arguments) >> blocks.block E m procedure.body) s)
      (λ exit. on_world calling.given_value)
      (then_left s goes (on_world (calling.begins procedure arguments) s)
      (λ done. blocks.block E m procedure.body)
      (unheld_left s (calling.begins procedure arguments s.world) begun.0 begun.1)
      (λ done. block_left procedure.body))
      (λ exit t. value_gives t (calling.given_value t.world) (given_held t.world))
    where
      value_gives : (t : State E) (step : Step World Value) → GivesHeld t.world step → Gives t (lifted t step)
      value_gives t (Returns value world) held = held
      value_gives t (Ends (stop.Error what line) world) held = held
      value_gives t (Ends stop.Page world) held = tt
      value_gives t (Ends (stop.Limit kind line) world) held = tt
      value_gives t (Ends (stop.Wants call) world) held = tt
      value_gives t (Ends stop.Memory world) held = tt

  -- behind a procedure that was left its caller's names are there again
  names_gone : (a s : State E) → (calling.left a.world s.world).store.held ≡ s.world.store.held
  names_gone a s = dropped_held (s.world.frame.own ++ calling.cell_of s.world.frame.result) s.world.store

  -- an error comes of no release point
  given_left : (a t : State E) → Carried a.world t.world → (value : Value) (step : Step (State E) (Unit {0}))
      → Left t step → NoError step → Gives a (and_then step (λ done. pure value))
  given_left a t carried value (Returns done u) left quiet =
      ((carried.0.0, left.0 ∙ carried.0.1), left.1 ∙ carried.1)
  given_left a t carried value (Ends stop.Page u) left quiet = tt
  given_left a t carried value (Ends (stop.Error what line) u) left quiet = absurd quiet
  given_left a t carried value (Ends (stop.Limit kind line) u) left quiet = tt
  given_left a t carried value (Ends (stop.Wants call) u) left quiet = tt
  given_left a t carried value (Ends stop.Memory u) left quiet = tt

  failed_left : (a t : State E) → t.world.store.held ≡ a.world.store.held
      → t.world.page_ended ≡ a.world.page_ended → (what : Cause) (line : Option ℕ)
      → (step : Step (State E) (Unit {0})) → Left t step → NoError step
      → Gives {A = Value} a (and_then step (λ done. Ends (stop.Error what line)))
  failed_left a t held page what line (Returns done u) left quiet = (left.0 ∙ held, left.1 ∙ page)
  failed_left a t held page what line (Ends stop.Page u) left quiet = tt
  failed_left a t held page what line (Ends (stop.Error other at) u) left quiet = absurd quiet
  failed_left a t held page what line (Ends (stop.Limit kind at) u) left quiet = tt
  failed_left a t held page what line (Ends (stop.Wants call) u) left quiet = tt
  failed_left a t held page what line (Ends stop.Memory u) left quiet = tt

  abandoned_left : (a : State E) → a.world.page_ended ≡ false → (step : Step (State E) Value) → Gives a step
      → Gives a (calling.abandoned E m a.world step)
  abandoned_left a goes (Returns value s) gives =
      let t = in_world E (calling.left a.world s.world) s in
      given_left a t ((gives.0.0, names_gone a s ∙ gives.0.1), gives.1) value (settle E m t)
      (settle_left E m enters t (gives.1 ∙ goes)) (settle_quiet E m enters t)
  abandoned_left a goes (Ends (stop.Error what line) s) left =
      let t = in_world E (calling.left a.world s.world) s in
      failed_left a t (names_gone a s ∙ left.0) left.1 what line (settle E m t)
      (settle_left E m enters t (left.1 ∙ goes)) (settle_quiet E m enters t)
  abandoned_left a goes (Ends stop.Page s) gives = tt
  abandoned_left a goes (Ends (stop.Limit kind line) s) gives = tt
  abandoned_left a goes (Ends (stop.Wants call) s) gives = tt
  abandoned_left a goes (Ends stop.Memory s) gives = tt

  -- what is given is held no more behind the procedure
  let_go_left : (a : State E) (step : Step (State E) Value) → Gives a step → Left a (and_then step
      (λ value t. Returns value (record t { world = let_go (held_so_far a.world) t.world })))
  let_go_left a (Returns value s) gives =
      (held_taken a.world.store.held s.world.store.held gives.0, gives.1)
  let_go_left a (Ends stop.Page s) gives = tt
  let_go_left a (Ends (stop.Error what line) s) gives = gives
  let_go_left a (Ends (stop.Limit kind line) s) gives = tt
  let_go_left a (Ends (stop.Wants call) s) gives = tt
  let_go_left a (Ends stop.Memory s) gives = tt

  called_left : (owner : Owner) (procedure : Procedure) (arguments : List Argument) (s : State E)
      → s.world.page_ended ≡ false → Left s (letting_go (calling.called E m owner procedure arguments) s)
  called_left owner procedure arguments s goes =
      let t = in_world E (calling.entered owner s.world) s in
      let step = calling.runs E m procedure arguments t in
      let_go_left s (calling.abandoned E m s.world step)
      (abandoned_left s goes step (gives_from s t refl refl step (runs_left procedure arguments t goes)))

  ticked_left : (next : Does E Value) → ((s : State E) → s.world.page_ended ≡ false → Left s (next s))
      → (s : State E) → s.world.page_ended ≡ false → Left s ((tick >> next) s)
  unfolding tick
  ticked_left next each s goes = go (nat_lt 0 s.ticks)
    where
      go : (left : Bool) → Left s (and_then {S = State E} {A = Unit {0}} {B = Value}
          (if left then Returns tt (record s { ticks = s.ticks - 1 }) else Ends (stop.Limit Ticks None) s)
          (λ done. next))
      go true = let t = record s { ticks = s.ticks - 1 } in left_from s t refl refl (next t) (each t goes)
      go false = tt

  opened_left : (owner : Owner) (procedure : Procedure) (arguments : List Argument) (s : State E)
      → s.world.page_ended ≡ false → Left s (calling.opened E m owner procedure arguments s)
  opened_left owner procedure arguments s goes = go (nat_lt s.world.calls calling.most_calls)
    where
      go : (few : Bool) → Left s (if few
          then (tick >> letting_go (calling.called E m owner procedure arguments)) s else on_world too_deep s)
      go true = ticked_left (letting_go (calling.called E m owner procedure arguments))
          (called_left owner procedure arguments) s goes
      go false = deep_left Value s

  pub entered_left : (owner : Owner) (procedure : Procedure) (arguments : List Argument) (s : State E)
      → s.world.page_ended ≡ false → Left s (calling.enter_of E m owner procedure arguments s)
  unfolding calling.enter_of
  entered_left owner procedure arguments s goes = go (length arguments == length procedure.by_value)
    where
      go : (same : Bool) → Left s
          ((if same then calling.opened E m owner procedure arguments else fails wrong_number) s)
      go true = opened_left owner procedure arguments s goes
      go false = (refl, refl)

-- ---- levels

refused_left : {E : Type 0} (line : ℕ) (said : executing.Said) (s : State E) → Left s (executing.refused line said s)
refused_left line StatementKind-F.Declaration s = (refl, refl)
refused_left line said s = line_left s line (resumed Next (on_world too_deep s)) (deep_resumed s)

-- what a statement does at a level, and what it held
abbrev pub DoesHold : (E : Type 0) → Inner E → Type 0
DoesHold E m = (said : executing.Said) → Holds (λ s. resumed Next ((tick >> executing.does E m said) s))

executed_left : (E : Type 0) (m : Inner E) → DoesHold E m
    → ((owner : Owner) (procedure : Procedure) (arguments : List Argument) (s : State E)
    → s.world.page_ended ≡ false → Left s (m.enter owner procedure arguments s))
    → (line : ℕ) (said : executing.Said) (s : State E) → s.world.page_ended ≡ false
    → Left s (executing.executed E m line said s)
executed_left E m inners enters line StatementKind-F.Declaration s goes = (refl, refl)
executed_left E m inners enters line said s goes =
    whole_left E m enters line (tick >> executing.does E m said) (inners said) s goes

module _ (E : Type 0) (host : Host E) (program : Program)
    (inners : (levels : ℕ) → DoesHold E (inside E host program levels)) where
  mutual
    unfolding enter statement executing.statement_of

    pub enter_left : (levels : ℕ) (owner : Owner) (procedure : Procedure) (arguments : List Argument) (s : State E)
        → s.world.page_ended ≡ false → Left s (enter E host program levels owner procedure arguments s)
    enter_left zero owner procedure arguments s goes = deep_left Value s
    enter_left (suc levels) owner procedure arguments s goes = entered_left E (inside E host program levels)
        (enter_left levels) (statement_left levels) owner procedure arguments s goes

    pub statement_left : (levels : ℕ) (found : Statement) (s : State E) → s.world.page_ended ≡ false
        → Left s (statement E host program levels found s)
    statement_left zero found s goes = refused_left found.line (out-StatementKind found.kind) s
    statement_left (suc levels) found s goes = executed_left E (inside E host program levels) (inners levels)
        (enter_left levels) found.line (out-StatementKind found.kind) s goes
