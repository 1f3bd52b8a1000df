use Rattle.std.proofs.Common.{◌∙◌, sym, true}
use Rattle.asp_desk.specs.Calls.{Looks}
use Rattle.asp_desk.specs.Hands.{rules_at}
use Rattle.asp_replay.specs.Near.{past_in}
use Rattle.asp_replay.proofs.Beginnings.{begun_by, free_done, free_where, goes_not, goes_on, no_fault_by, no_fault_in, none_told, not_started}
use Rattle.asp_replay.proofs.Beginnings.{slice_worked}
use Rattle.asp_replay.proofs.Others.{lead_turn}
use Rattle.asp_replay.proofs.Quiet.{borne_quiet}
use Rattle.asp_replay.proofs.RoundNear.{look_found, look_is}
use Rattle.asp_replay.proofs.TakenNear.{worked_quiet}
use Rattle.asp_replay.proofs.beginning.begin_round.Goals as goal

pub work_near-requires : goal.work_near-requires
work_near-requires g c = lead_turn g.R.Runner.meaning g.R.Runner.stands c.args.host.now
    (Looks (rules_at g.R.Runner.meaning c.args.host.now)) c.args.hand.now c.look-looked.new.hand c.look-looked.result
    c.requires c.look-looked.ensures.hand c.look-looked.ensures.turn

pub returns-in-Some-clause-lead : goal.returns-in-Some-clause-lead
returns-in-Some-clause-lead g c = lead_turn g.R.Runner.meaning g.R.Runner.stands c.args.host.now
    (Looks (rules_at g.R.Runner.meaning c.args.host.now)) c.args.hand.now c.look-looked.new.hand c.look-looked.result
    c.requires c.look-looked.ensures.hand c.look-looked.ensures.turn

pub returns-in-Some-clause-goes : goal.returns-in-Some-clause-goes
returns-in-Some-clause-goes g c = λ borne.
    let m = rules_at g.R.Runner.meaning c.args.host.now in
    begun_by m (past_in c.args.hand.now) (past_in c.look-looked.new.hand) c.look-looked.result c.in-Some.done
    (look_found m c.args.hand.now.lane c.look-looked.new.hand.lane c.look-looked.result c.look-looked.ensures.turn
    c.requires.own c.requires.number borne)
    (look_is m c.args.hand.now.lane c.look-looked.new.hand.lane c.look-looked.result c.look-looked.ensures.turn)
    c.in-Some.ensures.done

pub returns-in-Some-clause-free : goal.returns-in-Some-clause-free
returns-in-Some-clause-free g c = free_done c.in-Some.done c.look-looked.new.hand.run
    (free_where c.look-looked.new.hand.run (sym c.run.ensures
    ∙ none_told c.run.result c.is_none.result c.is_none.ensures c.in-Some.ensures.free))

pub returns-in-Ok-clause-goes : goal.returns-in-Ok-clause-goes
returns-in-Ok-clause-goes g c = λ borne.
    let m = rules_at g.R.Runner.meaning c.args.host.now in
    let mid = past_in c.look-looked.new.hand in
    let slice = c.in-Ok.ensures.slice borne in
    goes_on m (past_in c.args.hand.now) mid (past_in c.work_near.new.hand) true
    (look_found m c.args.hand.now.lane c.look-looked.new.hand.lane c.look-looked.result c.look-looked.ensures.turn
    c.requires.own c.requires.number (borne_quiet m mid (past_in c.work_near.new.hand)
    (worked_quiet mid (past_in c.work_near.new.hand) slice) borne)) slice

pub returns-in-Err-clause-goes : goal.returns-in-Err-clause-goes
returns-in-Err-clause-goes g c = λ borne.
    let m = rules_at g.R.Runner.meaning c.args.host.now in
    let mid = past_in c.look-looked.new.hand in
    let slice = c.in-Err.ensures.slice borne in
    goes_not m (past_in c.args.hand.now) mid (past_in c.work_near.new.hand) c.in-Err.stop
    (look_found m c.args.hand.now.lane c.look-looked.new.hand.lane c.look-looked.result c.look-looked.ensures.turn
    c.requires.own c.requires.number (borne_quiet m mid (past_in c.work_near.new.hand)
    (worked_quiet mid (past_in c.work_near.new.hand)
    (slice_worked m mid (past_in c.work_near.new.hand) c.in-Err.stop slice)) borne)) slice

pub returns-in-Err-clause-free : goal.returns-in-Err-clause-free
returns-in-Err-clause-free g c = not_started c.in-Err.stop c.work_near.new.hand.run c.in-Err.ensures.no_start

pub returns-in-Some-clause-no_fault : goal.returns-in-Some-clause-no_fault
returns-in-Some-clause-no_fault g c = no_fault_by c.look-looked.result c.in-Some.done c.in-Some.ensures.done

pub returns-in-Err-clause-no_fault : goal.returns-in-Err-clause-no_fault
returns-in-Err-clause-no_fault g c = no_fault_in c.in-Err.stop c.in-Err.ensures.no_fault
