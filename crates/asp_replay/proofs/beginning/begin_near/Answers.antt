use Rattle.asp_desk.specs.Hands.{rules_at}
use Rattle.asp_replay.specs.Near.{past_in}
use Rattle.asp_replay.proofs.Beginnings.{starts_then, starts_worked, worked_none, worked_then}
use Rattle.asp_replay.proofs.Quiet.{borne_quiet}
use Rattle.asp_replay.proofs.TakenNear.{worked_quiet}
use Rattle.asp_replay.proofs.beginning.begin_near.Goals as goal

pub loop-init : goal.loop-init
loop-init g c = (c.requires, λ borne. worked_none (past_in c.args.hand.now))

pub loop-preserved : goal.loop-preserved
loop-preserved g c =
    let m = rules_at g.R.Runner.meaning c.args.host.now in
    let mid = past_in c.loop.hand in
    let new = past_in c.begin_round.new.hand in
    let goes = rw c.in_default.is at c.begin_round.ensures.goes in (
      c.begin_round.ensures.lead,
      λ borne. (let worked = goes borne in
          worked_then (past_in c.args.hand.now) mid new
          (c.loop.invariant.1 (borne_quiet m mid new (worked_quiet mid new worked) borne)) worked),
    )

pub returns-in-Some-begin_round-clause-starts : goal.returns-in-Some-begin_round-clause-starts
returns-in-Some-begin_round-clause-starts g c = λ borne.
    let m = rules_at g.R.Runner.meaning c.args.host.now in
    let mid = past_in c.loop.hand in
    let new = past_in c.begin_round.new.hand in
    let goes = (rw c.in-Some-begin_round.is at c.begin_round.ensures.goes) borne in
    let worked = starts_worked m mid new c.in-Some-begin_round.done goes in
    starts_then m (past_in c.args.hand.now) mid new c.in-Some-begin_round.done
    (c.loop.invariant.1 (borne_quiet m mid new (worked_quiet mid new worked) borne)) goes

pub returns-in-Some-begin_round-clause-free : goal.returns-in-Some-begin_round-clause-free
returns-in-Some-begin_round-clause-free g c = rw c.in-Some-begin_round.is at c.begin_round.ensures.free

pub returns-in-Some-begin_round-clause-no_fault : goal.returns-in-Some-begin_round-clause-no_fault
returns-in-Some-begin_round-clause-no_fault g c = rw c.in-Some-begin_round.is at c.begin_round.ensures.no_fault
