use Rattle.asp_desk.specs.Hands.{rules_at}
use Rattle.asp_replay.specs.Near.{past_in}
use Rattle.asp_replay.proofs.Adding.{loop_adds}
use Rattle.asp_replay.proofs.Freeing.{looped_free}
use Rattle.asp_replay.proofs.LeftNear.{halted_working, silent_then, worked_silent}
use Rattle.asp_replay.proofs.Others.{lead_work, work_found}
use Rattle.asp_replay.proofs.Quiet.{borne_quiet}
use Rattle.asp_replay.proofs.TakenNear.{worked_quiet}
use Rattle.asp_replay.proofs.leaving.wind_near.Goals as goal

pub returns-clause-lead : goal.returns-clause-lead
returns-clause-lead g c = lead_work g.R.Runner.meaning g.R.Runner.stands c.args.host.now c.halt_near.new.hand
    c.work_loop.new.hand c.halt_near.ensures.lead c.work_loop.ensures.hand (loop_adds g.R.Runner.pace g.R.Runner.meaning g.R.Runner.stands c.args.host.now
    (g.G.Gate.may_hold c.args.gate.now) c.halt_near.new.hand c.work_loop.new.hand c.work_loop.result
    c.work_loop.ensures.slices)

pub returns-clause-free : goal.returns-clause-free
returns-clause-free g c = looped_free g.R.Runner.pace g.R.Runner.meaning g.R.Runner.stands c.args.host.now
    (g.G.Gate.may_hold c.args.gate.now) c.halt_near.new.hand c.work_loop.new.hand c.work_loop.result
    c.work_loop.ensures.hand c.work_loop.ensures.slices

pub returns-clause-silent : goal.returns-clause-silent
returns-clause-silent g c = λ borne.
    let m = rules_at g.R.Runner.meaning c.args.host.now in
    let mid = past_in c.halt_near.new.hand in
    let new = past_in c.work_loop.new.hand in
    let worked = work_found c.halt_near.new.hand.lane c.work_loop.new.hand.lane (loop_adds g.R.Runner.pace g.R.Runner.meaning g.R.Runner.stands c.args.host.now
    (g.G.Gate.may_hold c.args.gate.now) c.halt_near.new.hand c.work_loop.new.hand c.work_loop.result
    c.work_loop.ensures.slices)
    c.halt_near.ensures.lead.own c.halt_near.ensures.lead.number borne.others in
    silent_then (past_in c.args.hand.now) mid new
    (c.halt_near.ensures.silent (borne_quiet m mid new (worked_quiet mid new worked) borne))
    (worked_silent mid new worked)

pub returns-clause-halted : goal.returns-clause-halted
returns-clause-halted g c = halted_working (rules_at g.R.Runner.meaning c.args.host.now) c.halt_near.new.hand.lane
    c.work_loop.new.hand.lane (loop_adds g.R.Runner.pace g.R.Runner.meaning g.R.Runner.stands c.args.host.now
    (g.G.Gate.may_hold c.args.gate.now) c.halt_near.new.hand c.work_loop.new.hand c.work_loop.result
    c.work_loop.ensures.slices) c.halt_near.ensures.halted
