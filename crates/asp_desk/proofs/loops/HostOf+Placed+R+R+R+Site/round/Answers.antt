use Rattle.std.proofs.Common.{◌∙◌, ap, refl, subst, sym}
use Rattle.asp_desk.specs.declared.slices.Slice.TheVariants as slice
use Rattle.asp_desk.specs.Loops.{is_last}
use Rattle.asp_desk.specs.Slices.{IsSlice}
use Rattle.asp_desk.proofs.Rounds.{ends_idle, ends_so, one_slice, slice_and_look}
use Rattle.asp_desk.proofs.loops.HostOf+Placed+R+R+R+Site.round.Goals as goal

pub returns-in-Worked-clause-goes : goal.returns-in-Worked-clause-goes
returns-in-Worked-clause-goes g c = one_slice g.R.Runner.pace g.R.Runner.meaning g.R.Runner.stands c.args.self.now
    (g.G.Gate.may_hold c.args.gate.now) c.args.hand.now c.work_slice.new.hand c.work_slice.result
    (ap is_last c.in-Worked.is) c.work_slice.ensures.slice

pub returns-in-Held-clause-goes : goal.returns-in-Held-clause-goes
returns-in-Held-clause-goes g c = one_slice g.R.Runner.pace g.R.Runner.meaning g.R.Runner.stands c.args.self.now
    (g.G.Gate.may_hold c.args.gate.now) c.args.hand.now c.work_slice.new.hand c.work_slice.result
    (ap is_last c.in-Held.is) c.work_slice.ensures.slice

pub returns-in-Blocked-clause-goes : goal.returns-in-Blocked-clause-goes
returns-in-Blocked-clause-goes g c = one_slice g.R.Runner.pace g.R.Runner.meaning g.R.Runner.stands c.args.self.now
    (g.G.Gate.may_hold c.args.gate.now) c.args.hand.now c.work_slice.new.hand c.work_slice.result
    (ap is_last c.in-Blocked.is) c.work_slice.ensures.slice

pub returns-then-rest-clause-ends : goal.returns-then-rest-clause-ends
returns-then-rest-clause-ends g c =
    let look = c.rest.ensures.look in
    ends_idle g.R.Runner.pace g.R.Runner.meaning g.R.Runner.stands c.args.self.now
    (g.G.Gate.may_hold c.args.gate.now) c.args.hand.now c.work_slice.new.hand c.rest.new.hand look.0
    (subst (λ s. IsSlice g.R.Runner.pace g.R.Runner.meaning g.R.Runner.stands c.args.self.now
    (g.G.Gate.may_hold c.args.gate.now) c.args.hand.now s c.work_slice.new.hand) c.in-Idle.is
    c.work_slice.ensures.slice) look.1 (sym look.2 ∙ c.if-rest.true)

pub returns-else-rest-clause-goes : goal.returns-else-rest-clause-goes
returns-else-rest-clause-goes g c =
    let look = c.rest.ensures.look in
    slice_and_look g.R.Runner.pace g.R.Runner.meaning g.R.Runner.stands c.args.self.now
    (g.G.Gate.may_hold c.args.gate.now) c.args.hand.now c.work_slice.new.hand c.rest.new.hand c.work_slice.result
    look.0 (ap is_last c.in-Idle.is) c.work_slice.ensures.slice look.1

pub returns-in-JournalFull-clause-ends : goal.returns-in-JournalFull-clause-ends
returns-in-JournalFull-clause-ends g c =
    let full = slice.JournalFull c.in-JournalFull.full in
    ends_so g.R.Runner.pace g.R.Runner.meaning g.R.Runner.stands c.args.self.now (g.G.Gate.may_hold c.args.gate.now)
    c.args.hand.now c.work_slice.new.hand full refl
    (subst (λ s. IsSlice g.R.Runner.pace g.R.Runner.meaning g.R.Runner.stands c.args.self.now
    (g.G.Gate.may_hold c.args.gate.now) c.args.hand.now s c.work_slice.new.hand) c.in-JournalFull.is
    c.work_slice.ensures.slice)
