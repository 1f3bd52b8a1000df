-- Nothing that is done lets go what was held before it, and what is held is left where the page has not ended.
use Rattle.std.proofs.Common.{ℕ, List, ◌≡◌, false}
use Rattle.vb_syntax.specs.declared.program.Program.{Program}
use Rattle.vb_syntax.specs.declared.program.unit.Procedure.{Procedure}
use Rattle.vb_meaning.specs.declared.reached.Argument.{Argument}
use Rattle.vb_meaning.specs.declared.stop.Stop.TheVariants as stop
use Rattle.vb_meaning.specs.declared.world.Exit.TheVariants.{Next}
use Rattle.vb_meaning.specs.Asking.{Host}
use Rattle.vb_meaning.specs.Inner.{Owner}
use Rattle.vb_meaning.specs.Meaning.{inside}
use Rattle.vb_meaning.specs.Releases.{settle}
use Rattle.vb_meaning.specs.State.{State}
use Rattle.vb_meaning.specs.Step.{Step, Returns, Ends}
use Rattle.act_laws.specs.Held.{LeavesHeld}
use Rattle.act_laws.specs.Laws.{WhatIsHeldStays}
use Rattle.act_laws.proofs.Finishing.{alone, levels_alone}
use Rattle.act_laws.proofs.HeldLeft.{DoesHold, enter_left, statement_left}
use Rattle.act_laws.proofs.HeldPoints.{Left, settle_left, terminate_left}
use Rattle.act_laws.proofs.HeldReleases.{settle_holds, terminate_holds}
use Rattle.act_laws.proofs.Holding.{Holds}
use Rattle.act_laws.proofs.Linked.{then_fits, tick_fits, turned}
use Rattle.act_laws.proofs.Meaning.{does_fits}
use Rattle.act_laws.proofs.Turning.{resumed_turns}

held_of : {E A : Type 0} (before : State E) (step : Step (State E) A) → Left before step → LeavesHeld before step
held_of before (Returns value s) left = left.0
held_of before (Ends (stop.Error what line) s) left = left.0
held_of before (Ends stop.Page s) left = tt
held_of before (Ends (stop.Limit kind line) s) left = tt
held_of before (Ends (stop.Wants call) s) left = tt
held_of before (Ends stop.Memory s) left = tt

module _ (E : Type 0) (host : Host E) (program : Program) where
  -- each statement of a level lets nothing go within it
  does_hold : (levels : ℕ) → DoesHold E (inside E host program levels)
  does_hold levels said = (turned (resumed_turns (alone E host) Next) (then_fits (tick_fits (alone E host))
      (λ done. does_fits (alone E host) (levels_alone E host program levels) said))).holds

  pub release_leaves : (levels : ℕ) (s : State E) → s.world.page_ended ≡ false
      → LeavesHeld s (settle E (inside E host program levels) s)
  release_leaves levels s goes = held_of s (settle E (inside E host program levels) s)
      (settle_left E (inside E host program levels) (enter_left E host program does_hold levels) s goes)

pub held_stays : (E : Type 0) → WhatIsHeldStays E
held_stays E host program levels s =
    let i = levels_alone E host program levels in
    let m = inside E host program levels in
    let hold = does_hold E host program in
    let enter : (owner : Owner) (procedure : Procedure) (arguments : List Argument)
    → Holds (m.enter owner procedure arguments) =
    λ owner procedure arguments. (i.enter_fits owner procedure arguments).holds in (
      record {
        value = λ x. ((i.value_fits x).holds s).0;
        argument = λ x. ((i.argument_fits x).holds s).0;
        assign = λ how path found. ((i.assign_fits how path found).holds s).0;
        call = λ path. ((i.call_fits path).holds s).0;
        statement = λ x. ((i.statement_fits x).holds s).0;
        enter = λ owner procedure arguments. (enter owner procedure arguments s).0;
        terminate = λ object. (terminate_holds E m enter object s).0;
        settle = (settle_holds E m enter s).0;
      },
      λ goes. record {
        statement = λ x. held_of s (m.statement x s) (statement_left E host program hold levels x s goes);
        enter = λ owner procedure arguments. held_of s (m.enter owner procedure arguments s)
            (enter_left E host program hold levels owner procedure arguments s goes);
        terminate = λ object.
            held_of s _ (terminate_left E m (enter_left E host program hold levels) object s goes);
        settle = release_leaves E host program levels s goes;
      },
    )
