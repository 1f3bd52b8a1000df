use Rattle.std.proofs.Common.{refl}
use Rattle.asp_job.specs.Journal.{tick_entries}
use Rattle.asp_core.specs.Kernel.{past_of, rules_of}
use Rattle.asp_core.proofs.Bearing.{tick_of}
use Rattle.core_cases.proofs.Lanes.{stays, ok_grown}
use Rattle.core_cases.proofs.desk.Desk.tick.Goals as goal

pub invariant_of-self : goal.invariant_of-self
invariant_of-self g c =
    let core = c.self.inside.core in
    let rules = rules_of g.R.Runner.meaning core in
    let lane = c.args.lane in
    let free = rw c.as_slice.ensures.value at (c.if-not-is_free.ensures refl) in
    let grows = ok_grown c.tick-told.result lane core c.tick-told.new.self
    (tick_entries rules (past_of core) lane c.args.moment) (tick_of rules (past_of core) lane c.args.moment)
    c.tick-told.ensures.ok c.tick-told.ensures.err in
    stays g.R.Runner.meaning g.R.Runner.stands core c.tick-told.new.self lane c.self.inside.runner c.self.inside.site
    c.self.inside.runs.items c.self.invariant free.none grows c.journal.ensures.valid
