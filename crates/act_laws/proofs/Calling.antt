-- Blocks and procedures, in two environments side by side.
use Rattle.std.proofs.Common.{nat_lt, ◌==◌, List, [], ◌∷◌, ◌++◌, length, if◌then◌else◌, ◌≡◌, refl, ap, subst, sym}
use Rattle.vb_value.specs.declared.application.AppCall.{AppCall}
use Rattle.vb_value.specs.declared.value.Value.{Value}
use Rattle.vb_value.specs.Errors.{wrong_number}
use Rattle.vb_syntax.specs.declared.program.statement.Statement.{Statement}
use Rattle.vb_syntax.specs.declared.program.unit.Procedure.{Procedure}
use Rattle.vb_meaning.specs.declared.reached.Argument.{Argument}
use Rattle.vb_meaning.specs.declared.stop.Stop.TheVariants as stop
use Rattle.vb_meaning.specs.declared.world.Exit.{Exit}
use Rattle.vb_meaning.specs.declared.world.Exit.TheVariants.{Next, Leave}
use Rattle.vb_meaning.specs.World.{World}
use Rattle.vb_meaning.specs.Blocks as blocks
use Rattle.vb_meaning.specs.Calling as calling
use Rattle.vb_meaning.specs.Errors.{tick, too_deep}
use Rattle.vb_meaning.specs.Inner.{Owner}
use Rattle.vb_meaning.specs.Places.{holding, letting_go}
use Rattle.vb_meaning.specs.Releases.{in_world, settle}
use Rattle.vb_meaning.specs.State.{State, Does, on_world}
use Rattle.vb_meaning.specs.Step.{Step, Returns, Ends, ◌>>=◌, ◌>>◌, pure, ends as step_ends, state_of}
use Rattle.act_laws.proofs.Inside.{Inners, one, two, Same, seen_fits}
use Rattle.act_laws.specs.Objects.{Account, Kept, Settled, account_at, account_of}
use Rattle.act_laws.proofs.HeldData.{dropped_held}
use Rattle.act_laws.proofs.Holding.{Carried, HoldsOn, carried_still, carried_then, held_by}
use Rattle.act_laws.proofs.Joined.{Link, Alike, JoinedTurn, Past, gives, ends, gone}
use Rattle.act_laws.proofs.Keeping.{kept_from, kept_moved, told, told_of}
use Rattle.act_laws.proofs.Linked.{Fits, Turns, turned, then_fits, letting_fits, next_turns, value_fits}
use Rattle.act_laws.proofs.Telling.{TellsOn, changed_told}
use Rattle.act_laws.proofs.Marks.{dropped_still}
use Rattle.act_laws.proofs.Linked.{fails_fit, error_fits, moved_fits, tick_fits, world_fits, choice_fits, either_fits}
use Rattle.act_laws.proofs.Releasing.{settle_fits}
use Rattle.act_laws.proofs.Spending.{SpendsOn, no_less, ticks_at}
use Rattle.act_laws.proofs.Wantless.{seeing_wantless, deep_wantless, then_wantless}
use Rattle.act_laws.proofs.WantlessPlaces.{holding_wantless}
use Rattle.act_laws.proofs.WantlessScopes.{begins_wantless, result_wantless}

module _ (l : Link) (i : Inners l) where
  after_fits : {first : Does l.E Exit} {second : Does l.F Exit} → Fits l first second → (exit : Exit)
      → Fits l (blocks.after l.E (one i) first exit) (blocks.after l.F (two i) second exit)
  after_fits fit Next = fit
  after_fits fit (Leave kind) = value_fits l (Leave kind)

  pub block_fits : (statements : List Statement) → Same l i (λ E m. blocks.block E m statements)
  block_fits [] = value_fits l Next
  block_fits (first ∷ others) = then_fits (i.statement_fits first) (after_fits (block_fits others))

  -- ---- how a procedure is left

  left_still : (caller world : World) → told (calling.left caller world) ≡ told world
  left_still caller world = ap (λ seen. told_of seen.0 seen.1)
      (dropped_still (world.frame.own ++ calling.cell_of world.frame.result) world.store world.finished)

  left_same : (caller world : World) → account_of (calling.left caller world) ≡ account_of world
  left_same caller world = ap (λ found. found.0) (left_still caller world)

  left_carried : (caller world : World) → Carried world (calling.left caller world)
  left_carried caller world = (
    held_by world.store.held _
        (dropped_held (world.frame.own ++ calling.cell_of world.frame.result) world.store),
    refl,
  )

  -- objects end, and then the value is given
  settled_fits : (value : Value) → Same l i (λ E m. settle E m >> pure value)
  settled_fits value = then_fits (settle_fits l i) (λ done. value_fits l value)

  abandoned_joined : (caller : World)
      → JoinedTurn l (calling.abandoned l.E (one i) caller) (calling.abandoned l.F (two i) caller)
  abandoned_joined caller = record { alike = alike; goes_on = goes_on }
    where
      goes_on : (call : AppCall) (second : Step (State l.F) Value) → Past l call second
          → Past l call (calling.abandoned l.F (two i) caller second)
      goes_on call (Returns value s) past =
          (settled_fits value).joined.goes_on call (calling.left caller s.world) s.ticks s.env s.replies past
      goes_on call (Ends (stop.Error what line) s) past =
          (then_fits (settle_fits l i) (λ done. error_fits {A = Value} l what line)).joined.goes_on
          call (calling.left caller s.world) s.ticks s.env s.replies past
      goes_on call (Ends (stop.Limit kind line) s) past = past
      goes_on call (Ends stop.Page s) past = past
      goes_on call (Ends (stop.Wants other) s) past = past
      goes_on call (Ends stop.Memory s) past = past

      alike : (first : Step (State l.E) Value) (second : Step (State l.F) Value) → Alike l first second
          → Alike l (calling.abandoned l.E (one i) caller first) (calling.abandoned l.F (two i) caller second)
      alike _ _ (gives value world ticks env replies other_env others now) =
          (settled_fits value).joined.alike (calling.left caller world) ticks env replies other_env others now
      alike _ _ (ends (stop.Error what line) world ticks env replies other_env others now) =
          (then_fits (settle_fits l i) (λ done. error_fits {A = Value} l what line)).joined.alike
          (calling.left caller world) ticks env replies other_env others now
      alike _ _ (ends (stop.Limit kind line) world ticks env replies other_env others now) =
          ends (stop.Limit kind line) world ticks env replies other_env others now
      alike _ _ (ends (stop.Wants call) world ticks env replies other_env others want) =
          ends (stop.Wants call) world ticks env replies other_env others want
      alike _ _ (ends stop.Page world ticks env replies other_env others now) =
          ends stop.Page (calling.left caller world) ticks env replies other_env others now
      alike _ _ (ends stop.Memory world ticks env replies other_env others now) =
          ends stop.Memory world ticks env replies other_env others now
      alike _ second (gone call s _ past) =
          gone call s (calling.abandoned l.F (two i) caller second) (goes_on call second past)

  abandoned_turns : (caller : World)
      → Turns l (calling.abandoned l.E (one i) caller) (calling.abandoned l.F (two i) caller)
  abandoned_turns caller =
      record { joined = abandoned_joined caller; keeps = keeps; spends = spends; tells = tells; holds = holds }
    where
      keeps : (before : Account) (step : Step (State l.F) Value) → Kept account_at before step
          → Kept account_at before (calling.abandoned l.F (two i) caller step)
      keeps before (Returns value s) kept =
          let t = in_world l.F (calling.left caller s.world) s in
          let after = (settled_fits value).keeps t in
          kept_from account_at kept ((settle l.F (two i) >> pure value) t)
          (kept_moved account_at (account_at s) (account_at t) (left_same caller s.world)
          ((settle l.F (two i) >> pure value) t) after kept.onward.adds_up)
      keeps before (Ends (stop.Error what line) s) kept =
          let t = in_world l.F (calling.left caller s.world) s in
          let after = (then_fits (settle_fits l i) (λ done. error_fits {A = Value} l what line)).keeps t in
          kept_from account_at kept ((settle l.F (two i) >> step_ends (stop.Error what line)) t)
          (kept_moved account_at (account_at s) (account_at t) (left_same caller s.world)
          ((settle l.F (two i) >> step_ends (stop.Error what line)) t) after kept.onward.adds_up)
      keeps before (Ends stop.Page s) kept =
          subst (λ account. Settled before account) (sym (left_same caller s.world)) kept
      keeps before (Ends (stop.Limit kind line) s) kept = kept
      keeps before (Ends (stop.Wants call) s) kept = kept
      keeps before (Ends stop.Memory s) kept = kept

      spends : SpendsOn ticks_at (calling.abandoned l.F (two i) caller)
      spends (Returns value s) = (settled_fits value).spends (in_world l.F (calling.left caller s.world) s)
      spends (Ends (stop.Error what line) s) =
          (then_fits (settle_fits l i) (λ done. error_fits {A = Value} l what line)).spends
          (in_world l.F (calling.left caller s.world) s)
      spends (Ends stop.Page s) = no_less (ticks_at s)
      spends (Ends (stop.Limit kind line) s) = no_less (ticks_at s)
      spends (Ends (stop.Wants call) s) = no_less (ticks_at s)
      spends (Ends stop.Memory s) = no_less (ticks_at s)

      holds : HoldsOn {E = l.F} {A = Value} {B = Value} (calling.abandoned l.F (two i) caller)
      holds (Returns value s) =
          let t = in_world l.F (calling.left caller s.world) s in
          carried_then s.world t.world (state_of ((settle l.F (two i) >> pure value) t)).world
          (left_carried caller s.world) ((settled_fits value).holds t)
      holds (Ends (stop.Error what line) s) =
          let t = in_world l.F (calling.left caller s.world) s in
          carried_then s.world t.world
          (state_of ((settle l.F (two i) >> step_ends {A = Value} (stop.Error what line)) t)).world
          (left_carried caller s.world)
          ((then_fits (settle_fits l i) (λ done. error_fits {A = Value} l what line)).holds t)
      holds (Ends stop.Page s) = left_carried caller s.world
      holds (Ends (stop.Limit kind line) s) = carried_still s.world
      holds (Ends (stop.Wants call) s) = carried_still s.world
      holds (Ends stop.Memory s) = carried_still s.world

      tells : (noting : l.tells) → TellsOn (l.telling noting) (calling.abandoned l.F (two i) caller)
      tells noting s (Returns value after) right kept before =
          (next_turns {A = Value} (λ given. moved_fits (calling.left caller) (left_still caller) (left_carried caller)
          (settled_fits given))).tells noting s (Returns value after) right kept before
      tells noting s (Ends (stop.Error what line) after) right kept before =
          (next_turns {A = Exit} (λ exit. moved_fits (calling.left caller) (left_still caller) (left_carried caller)
          (then_fits (settle_fits l i) (λ done. error_fits {A = Value} l what line)))).tells noting s
          (Returns Next after) right kept before
      tells noting s (Ends stop.Page after) right kept before = changed_told (l.telling noting) s after
          (calling.left caller after.world) right.adds_up kept.onward (left_still caller after.world) before
      tells noting s (Ends (stop.Limit kind line) after) right kept before = before
      tells noting s (Ends (stop.Wants call) after) right kept before = before
      tells noting s (Ends stop.Memory after) right kept before = before

  -- ---- how it is entered

  runs_fits : (procedure : Procedure) (arguments : List Argument)
      → Same l i (λ E m. calling.runs E m procedure arguments)
  runs_fits procedure arguments =
      then_fits (then_fits (world_fits l (begins_wantless procedure arguments)) (λ done. block_fits procedure.body))
      (λ exit. world_fits l (seeing_wantless (λ world. calling.result_value world.frame.result >>= holding)
      (λ world. then_wantless (result_wantless world.frame.result) holding_wantless)))

  called_fits : (owner : Owner) (procedure : Procedure) (arguments : List Argument)
      → Same l i (λ E m. calling.called E m owner procedure arguments)
  called_fits owner procedure arguments = seen_fits l i
      (λ E m world s. calling.abandoned E m world
      (calling.runs E m procedure arguments (in_world E (calling.entered owner s.world) s)))
      (λ world. turned (abandoned_turns world) (moved_fits (calling.entered owner) (λ world. refl) carried_still
      (runs_fits procedure arguments)))

  opened_fits : (owner : Owner) (procedure : Procedure) (arguments : List Argument)
      → Same l i (λ E m. calling.opened E m owner procedure arguments)
  opened_fits owner procedure arguments = seen_fits l i
      (λ E m world s. if nat_lt world.calls calling.most_calls
      then (tick >> letting_go (calling.called E m owner procedure arguments)) s else on_world too_deep s)
      (λ world. either_fits (nat_lt world.calls calling.most_calls)
      (then_fits (tick_fits l) (λ done. letting_fits (called_fits owner procedure arguments)))
      (world_fits l deep_wantless))

  pub enter_of_fits : (owner : Owner) (procedure : Procedure) (arguments : List Argument)
      → Same l i (λ E m. calling.enter_of E m owner procedure arguments)
  unfolding calling.enter_of
  enter_of_fits owner procedure arguments = choice_fits (length arguments == length procedure.by_value)
      (opened_fits owner procedure arguments) (fails_fit l wrong_number)
