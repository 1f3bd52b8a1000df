use Rattle.std.proofs.Common.{subst}
use Rattle.asp_desk.specs.Slices.{IsSlice}
use Rattle.asp_serve.proofs.Slicing.{slice_full, slice_works}
use Rattle.asp_serve.proofs.working.work.Goals as goal

pub returns-in-Worked-clause-ok : goal.returns-in-Worked-clause-ok
returns-in-Worked-clause-ok g c = slice_works g.R.Runner.pace g.R.Runner.meaning g.R.Runner.stands c.args.host.now
    (g.G.Gate.may_hold c.args.gate.now) c.args.hand.now c.work_slice.new.hand c.work_slice.result
    c.work_slice.ensures.slice

pub returns-in-Held-clause-ok : goal.returns-in-Held-clause-ok
returns-in-Held-clause-ok g c = slice_works g.R.Runner.pace g.R.Runner.meaning g.R.Runner.stands c.args.host.now
    (g.G.Gate.may_hold c.args.gate.now) c.args.hand.now c.work_slice.new.hand c.work_slice.result
    c.work_slice.ensures.slice

pub returns-in-Blocked-clause-ok : goal.returns-in-Blocked-clause-ok
returns-in-Blocked-clause-ok g c = slice_works g.R.Runner.pace g.R.Runner.meaning g.R.Runner.stands c.args.host.now
    (g.G.Gate.may_hold c.args.gate.now) c.args.hand.now c.work_slice.new.hand c.work_slice.result
    c.work_slice.ensures.slice

pub returns-in-Idle-clause-ok : goal.returns-in-Idle-clause-ok
returns-in-Idle-clause-ok g c = slice_works g.R.Runner.pace g.R.Runner.meaning g.R.Runner.stands c.args.host.now
    (g.G.Gate.may_hold c.args.gate.now) c.args.hand.now c.work_slice.new.hand c.work_slice.result
    c.work_slice.ensures.slice

pub returns-in-JournalFull-clause-err : goal.returns-in-JournalFull-clause-err
returns-in-JournalFull-clause-err g c = record {
  works = slice_works g.R.Runner.pace g.R.Runner.meaning g.R.Runner.stands c.args.host.now
      (g.G.Gate.may_hold c.args.gate.now) c.args.hand.now c.work_slice.new.hand c.work_slice.result
      c.work_slice.ensures.slice;
  why = slice_full g.R.Runner.pace g.R.Runner.meaning g.R.Runner.stands c.args.host.now
      (g.G.Gate.may_hold c.args.gate.now) (λ request. ⊥) c.args.hand.now c.work_slice.new.hand
      c.in-JournalFull.full
      (subst (λ s. IsSlice g.R.Runner.pace g.R.Runner.meaning g.R.Runner.stands c.args.host.now
      (g.G.Gate.may_hold c.args.gate.now) c.args.hand.now s c.work_slice.new.hand) c.in-JournalFull.is
      c.work_slice.ensures.slice);
}

pub returns-in-Memory-clause-err : goal.returns-in-Memory-clause-err
returns-in-Memory-clause-err g c = record {
  works = slice_works g.R.Runner.pace g.R.Runner.meaning g.R.Runner.stands c.args.host.now
      (g.G.Gate.may_hold c.args.gate.now) c.args.hand.now c.work_slice.new.hand c.work_slice.result
      c.work_slice.ensures.slice;
  why = tt;
}
