use Rattle.std.proofs.Common.{false, true}
use Rattle.asp_desk.specs.Hands.{rules_at}
use Rattle.asp_replay.specs.Near.{past_in}
use Rattle.asp_replay.proofs.Adding.{slice_adds}
use Rattle.asp_replay.proofs.Others.{lead_work, work_found}
use Rattle.asp_replay.proofs.SliceNear.{much_near, slice_much, stays_full, stays_memory}
use Rattle.asp_replay.proofs.TakenNear.{stays_worked}
use Rattle.asp_replay.proofs.slicing.work_near.Goals as goal

pub returns-in-Worked-clause-lead : goal.returns-in-Worked-clause-lead
returns-in-Worked-clause-lead g c = lead_work g.R.Runner.meaning g.R.Runner.stands c.args.host.now c.args.hand.now
    c.work_slice.new.hand c.requires c.work_slice.ensures.hand (slice_adds g.R.Runner.pace g.R.Runner.meaning g.R.Runner.stands c.args.host.now
    (g.G.Gate.may_hold c.args.gate.now) c.args.hand.now c.work_slice.new.hand c.work_slice.result
    c.work_slice.ensures.slice)

pub returns-in-Held-clause-lead : goal.returns-in-Held-clause-lead
returns-in-Held-clause-lead g c = lead_work g.R.Runner.meaning g.R.Runner.stands c.args.host.now c.args.hand.now
    c.work_slice.new.hand c.requires c.work_slice.ensures.hand (slice_adds g.R.Runner.pace g.R.Runner.meaning g.R.Runner.stands c.args.host.now
    (g.G.Gate.may_hold c.args.gate.now) c.args.hand.now c.work_slice.new.hand c.work_slice.result
    c.work_slice.ensures.slice)

pub returns-in-Blocked-clause-lead : goal.returns-in-Blocked-clause-lead
returns-in-Blocked-clause-lead g c = lead_work g.R.Runner.meaning g.R.Runner.stands c.args.host.now c.args.hand.now
    c.work_slice.new.hand c.requires c.work_slice.ensures.hand (slice_adds g.R.Runner.pace g.R.Runner.meaning g.R.Runner.stands c.args.host.now
    (g.G.Gate.may_hold c.args.gate.now) c.args.hand.now c.work_slice.new.hand c.work_slice.result
    c.work_slice.ensures.slice)

pub returns-in-JournalFull-clause-lead : goal.returns-in-JournalFull-clause-lead
returns-in-JournalFull-clause-lead g c = lead_work g.R.Runner.meaning g.R.Runner.stands c.args.host.now c.args.hand.now
    c.work_slice.new.hand c.requires c.work_slice.ensures.hand (slice_adds g.R.Runner.pace g.R.Runner.meaning g.R.Runner.stands c.args.host.now
    (g.G.Gate.may_hold c.args.gate.now) c.args.hand.now c.work_slice.new.hand c.work_slice.result
    c.work_slice.ensures.slice)

pub returns-in-Memory-clause-lead : goal.returns-in-Memory-clause-lead
returns-in-Memory-clause-lead g c = lead_work g.R.Runner.meaning g.R.Runner.stands c.args.host.now c.args.hand.now
    c.work_slice.new.hand c.requires c.work_slice.ensures.hand (slice_adds g.R.Runner.pace g.R.Runner.meaning g.R.Runner.stands c.args.host.now
    (g.G.Gate.may_hold c.args.gate.now) c.args.hand.now c.work_slice.new.hand c.work_slice.result
    c.work_slice.ensures.slice)

pub returns-in-Worked-clause-near : goal.returns-in-Worked-clause-near
returns-in-Worked-clause-near g c = λ held borne.
    stays_worked true (rules_at g.R.Runner.meaning c.args.host.now) (past_in c.args.hand.now)
    (past_in c.work_slice.new.hand) held
    (work_found c.args.hand.now.lane c.work_slice.new.hand.lane (slice_adds g.R.Runner.pace g.R.Runner.meaning g.R.Runner.stands c.args.host.now
    (g.G.Gate.may_hold c.args.gate.now) c.args.hand.now c.work_slice.new.hand c.work_slice.result
    c.work_slice.ensures.slice) c.requires.own
    c.requires.number borne.others) c.work_slice.ensures.hand.1.valid.entries borne

pub returns-in-Held-clause-near : goal.returns-in-Held-clause-near
returns-in-Held-clause-near g c = λ held borne.
    stays_worked true (rules_at g.R.Runner.meaning c.args.host.now) (past_in c.args.hand.now)
    (past_in c.work_slice.new.hand) held
    (work_found c.args.hand.now.lane c.work_slice.new.hand.lane (slice_adds g.R.Runner.pace g.R.Runner.meaning g.R.Runner.stands c.args.host.now
    (g.G.Gate.may_hold c.args.gate.now) c.args.hand.now c.work_slice.new.hand c.work_slice.result
    c.work_slice.ensures.slice) c.requires.own
    c.requires.number borne.others) c.work_slice.ensures.hand.1.valid.entries borne

pub returns-in-Blocked-clause-near : goal.returns-in-Blocked-clause-near
returns-in-Blocked-clause-near g c = λ held borne.
    stays_worked false (rules_at g.R.Runner.meaning c.args.host.now) (past_in c.args.hand.now)
    (past_in c.work_slice.new.hand) held
    (work_found c.args.hand.now.lane c.work_slice.new.hand.lane (slice_adds g.R.Runner.pace g.R.Runner.meaning g.R.Runner.stands c.args.host.now
    (g.G.Gate.may_hold c.args.gate.now) c.args.hand.now c.work_slice.new.hand c.work_slice.result
    c.work_slice.ensures.slice) c.requires.own
    c.requires.number borne.others) c.work_slice.ensures.hand.1.valid.entries borne

pub returns-in-JournalFull-clause-near : goal.returns-in-JournalFull-clause-near
returns-in-JournalFull-clause-near g c = λ held borne.
    let m = rules_at g.R.Runner.meaning c.args.host.now in
    stays_full m c.args.hand.now.lane c.work_slice.new.hand.lane (slice_adds g.R.Runner.pace g.R.Runner.meaning g.R.Runner.stands c.args.host.now
    (g.G.Gate.may_hold c.args.gate.now) c.args.hand.now c.work_slice.new.hand c.work_slice.result
    c.work_slice.ensures.slice) c.requires.own
    c.requires.number c.work_slice.ensures.hand.1.valid.entries borne c.in-JournalFull.full held
    (slice_much g.R.Runner.pace g.R.Runner.meaning g.R.Runner.stands c.args.host.now
    (g.G.Gate.may_hold c.args.gate.now) c.args.hand.now c.work_slice.new.hand c.in-JournalFull.full
    c.in-JournalFull.ensures.slice)

pub returns-in-Memory-clause-near : goal.returns-in-Memory-clause-near
returns-in-Memory-clause-near g c = λ held borne.
    stays_memory (rules_at g.R.Runner.meaning c.args.host.now) c.args.hand.now.lane c.work_slice.new.hand.lane
    (slice_adds g.R.Runner.pace g.R.Runner.meaning g.R.Runner.stands c.args.host.now
    (g.G.Gate.may_hold c.args.gate.now) c.args.hand.now c.work_slice.new.hand c.work_slice.result
    c.work_slice.ensures.slice) c.requires.own c.requires.number c.work_slice.ensures.hand.1.valid.entries borne held

pub returns-in-Worked-clause-slice : goal.returns-in-Worked-clause-slice
returns-in-Worked-clause-slice g c = λ borne. work_found c.args.hand.now.lane c.work_slice.new.hand.lane
    (slice_adds g.R.Runner.pace g.R.Runner.meaning g.R.Runner.stands c.args.host.now
    (g.G.Gate.may_hold c.args.gate.now) c.args.hand.now c.work_slice.new.hand c.work_slice.result
    c.work_slice.ensures.slice) c.requires.own c.requires.number borne.others

pub returns-in-Held-clause-slice : goal.returns-in-Held-clause-slice
returns-in-Held-clause-slice g c = λ borne. work_found c.args.hand.now.lane c.work_slice.new.hand.lane
    (slice_adds g.R.Runner.pace g.R.Runner.meaning g.R.Runner.stands c.args.host.now
    (g.G.Gate.may_hold c.args.gate.now) c.args.hand.now c.work_slice.new.hand c.work_slice.result
    c.work_slice.ensures.slice) c.requires.own c.requires.number borne.others

pub returns-in-Blocked-clause-slice : goal.returns-in-Blocked-clause-slice
returns-in-Blocked-clause-slice g c = λ borne. work_found c.args.hand.now.lane c.work_slice.new.hand.lane
    (slice_adds g.R.Runner.pace g.R.Runner.meaning g.R.Runner.stands c.args.host.now
    (g.G.Gate.may_hold c.args.gate.now) c.args.hand.now c.work_slice.new.hand c.work_slice.result
    c.work_slice.ensures.slice) c.requires.own c.requires.number borne.others

pub returns-in-Memory-clause-slice : goal.returns-in-Memory-clause-slice
returns-in-Memory-clause-slice g c = λ borne. work_found c.args.hand.now.lane c.work_slice.new.hand.lane
    (slice_adds g.R.Runner.pace g.R.Runner.meaning g.R.Runner.stands c.args.host.now
    (g.G.Gate.may_hold c.args.gate.now) c.args.hand.now c.work_slice.new.hand c.work_slice.result
    c.work_slice.ensures.slice) c.requires.own c.requires.number borne.others

pub returns-in-JournalFull-clause-slice : goal.returns-in-JournalFull-clause-slice
returns-in-JournalFull-clause-slice g c = λ borne. (
  work_found c.args.hand.now.lane c.work_slice.new.hand.lane (slice_adds g.R.Runner.pace g.R.Runner.meaning g.R.Runner.stands c.args.host.now
      (g.G.Gate.may_hold c.args.gate.now) c.args.hand.now c.work_slice.new.hand c.work_slice.result
      c.work_slice.ensures.slice) c.requires.own
      c.requires.number borne.others,
  much_near (rules_at g.R.Runner.meaning c.args.host.now) c.args.hand.now.lane c.work_slice.new.hand.lane
      (slice_adds g.R.Runner.pace g.R.Runner.meaning g.R.Runner.stands c.args.host.now
      (g.G.Gate.may_hold c.args.gate.now) c.args.hand.now c.work_slice.new.hand c.work_slice.result
      c.work_slice.ensures.slice) c.requires.own c.requires.number c.work_slice.ensures.hand.1.valid.entries borne
      c.in-JournalFull.full (slice_much g.R.Runner.pace g.R.Runner.meaning g.R.Runner.stands c.args.host.now
      (g.G.Gate.may_hold c.args.gate.now) c.args.hand.now c.work_slice.new.hand c.in-JournalFull.full
      c.in-JournalFull.ensures.slice),
)
