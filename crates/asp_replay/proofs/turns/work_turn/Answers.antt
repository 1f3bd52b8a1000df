use Rattle.std.proofs.Common.{◌≡◌, Some, sym, ◌∙◌}
use Rattle.asp_core.specs.Kernel.{past_of, rules_of}
use Rattle.asp_lane.specs.Turns.{run_in}
use Rattle.asp_replay.specs.declared.stop.FeedStop.TheVariants as stop
use Rattle.asp_replay.specs.Underway.{turn_stop}
use Rattle.asp_replay.proofs.Silent.{none_ready}
use Rattle.asp_replay.proofs.Stopped.{not_err, stop_events, stop_no_fault, work_ends, work_events, worked_events}
use Rattle.asp_replay.proofs.Turning.{handed_fits, work_adds, work_after, work_lanes}
use Rattle.asp_replay.proofs.turns.work_turn.Goals as goal

pub returns-in-Some-clause-after : goal.returns-in-Some-clause-after
returns-in-Some-clause-after g c = λ items left clients before is busy.
    let worked = c.work-hand.ensures in
    let stops : turn_stop c.work-hand.result.1 ≡ Some c.in-Some.stop = sym c.turn_stop.ensures ∙ c.in-Some.is in
    work_ends g.R.Runner.meaning c.args.core.now c.work-hand.new.core worked.entries c.work-hand.result.1 items left
    clients before (g.K.Sink.held c.args.sink.now) c.in-Some.stop worked.new_is stops worked.works is

pub returns-in-Some-clause-quiet : goal.returns-in-Some-clause-quiet
returns-in-Some-clause-quiet g c =
    let worked = c.work-hand.ensures in
    stop_events g.R.Runner.meaning c.args.core.now c.work-hand.new.core worked.entries c.work-hand.result.1 c.in-Some.stop
    worked.new_is (sym c.turn_stop.ensures ∙ c.in-Some.is) worked.works

pub returns-in-Some-clause-no_fault : goal.returns-in-Some-clause-no_fault
returns-in-Some-clause-no_fault g c = λ none e.
    stop_no_fault c.work-hand.result.1 c.in-Some.stop (sym c.turn_stop.ensures ∙ c.in-Some.is) (let fault : c.in-Some.stop ≡ stop.WriteFault = cc in fault)

pub hand_out-handed-requires : goal.hand_out-handed-requires
hand_out-handed-requires g c =
    let worked = c.work-hand.ensures in
    let m = rules_of g.R.Runner.meaning c.args.core.now in
    let adds = work_adds g.R.Runner.meaning m (past_of c.args.core.now) worked.entries c.work-hand.result.1
    (λ ended e. c.in_default.not-Some ended (c.turn_stop.ensures ∙ e)) worked.works in
    record {
      lane = work_lanes g.R.Runner.meaning c.args.core.now c.work-hand.new.core worked.entries worked.new_is adds
          c.requires.lane;
    }

pub returns-clause-fits : goal.returns-clause-fits
returns-clause-fits g c =
    handed_fits g.R.Runner.meaning g.R.Runner.stands c.hand_out-handed.result c.work-hand.new.core
    c.hand_out-handed.new.core (g.K.Sink.held c.args.sink.now) (g.K.Sink.held c.hand_out-handed.new.sink)
    (run_in c.work-hand.result.0) c.journal-2.ensures.valid.entries c.hand_out-handed.ensures.out
    c.work-hand.ensures.fits

pub returns-clause-after : goal.returns-clause-after
returns-clause-after g c = λ items left clients before is busy.
    let worked = c.work-hand.ensures in
    let m = rules_of g.R.Runner.meaning c.args.core.now in
    let adds = work_adds g.R.Runner.meaning m (past_of c.args.core.now) worked.entries c.work-hand.result.1
    (λ ended e. c.in_default.not-Some ended (c.turn_stop.ensures ∙ e)) worked.works in
    work_after g.R.Runner.meaning c.hand_out-handed.result c.args.core.now c.work-hand.new.core
    c.hand_out-handed.new.core worked.entries items left clients before (g.K.Sink.held c.args.sink.now)
    (g.K.Sink.held c.hand_out-handed.new.sink) worked.new_is adds c.journal.ensures.valid.entries
    c.journal.ensures.answered c.hand_out-handed.ensures.only c.hand_out-handed.ensures.out is busy

pub returns-clause-quiet : goal.returns-clause-quiet
returns-clause-quiet g c =
    let worked = c.work-hand.ensures in
    let m = rules_of g.R.Runner.meaning c.args.core.now in
    let adds = work_adds g.R.Runner.meaning m (past_of c.args.core.now) worked.entries c.work-hand.result.1
    (λ ended e. c.in_default.not-Some ended (c.turn_stop.ensures ∙ e)) worked.works in
    work_events g.R.Runner.meaning c.hand_out-handed.result c.args.core.now c.work-hand.new.core
    c.hand_out-handed.new.core worked.entries (g.K.Sink.held c.args.sink.now) (g.K.Sink.held c.hand_out-handed.new.sink)
    worked.new_is adds c.hand_out-handed.ensures.out

pub returns-clause-no_fault : goal.returns-clause-no_fault
returns-clause-no_fault g c = λ none e.
    let worked = c.work-hand.ensures in
    let m = rules_of g.R.Runner.meaning c.args.core.now in
    let adds = work_adds g.R.Runner.meaning m (past_of c.args.core.now) worked.entries c.work-hand.result.1
    (λ ended e. c.in_default.not-Some ended (c.turn_stop.ensures ∙ e)) worked.works in
    let still = worked_events g.R.Runner.meaning c.args.core.now c.work-hand.new.core worked.entries worked.new_is adds in
    let ready = none_ready (rules_of g.R.Runner.meaning c.work-hand.new.core) (past_of c.work-hand.new.core)
    c.journal.ensures.valid.entries c.journal.ensures.answered (still ∙ none) in
    not_err c.hand_out-handed.result stop.WriteFault (c.hand_out-handed.ensures.none ready) e
