use Rattle.asp_desk.specs.declared.slices.Slice.TheVariants as slice
use Rattle.asp_serve.proofs.Visiting.{slice_ends}
use Rattle.asp_serve.proofs.starting.slice.Goals as goal

pub filled-requires-clause-was : goal.filled-requires-clause-was
filled-requires-clause-was g c =
    (slice_ends g.R.Runner.pace g.R.Runner.meaning g.R.Runner.stands c.args.host.now (g.G.Gate.may_hold c.args.gate.now) ⊥
    c.args.hand.now c.work_slice.new.hand (slice.JournalFull c.in-JournalFull.full)
    c.in-JournalFull.ensures.slice).cause
