use Rattle.std.proofs.Common.{refl}
use Rattle.asp_job.specs.Journal.{admit_entries}
use Rattle.asp_core.specs.Kernel.{past_of, rules_of}
use Rattle.asp_core.proofs.Bearing.{admit_of}
use Rattle.core_cases.proofs.Lanes.{stays, ok_grown}
use Rattle.core_cases.proofs.desk.Desk.admit.Goals as goal

pub invariant_of-self : goal.invariant_of-self
invariant_of-self g c =
    let core = c.self.inside.core in
    let rules = rules_of g.R.Runner.meaning core in
    let lane = c.args.lane in
    let free = rw c.as_slice.ensures.value at (c.if-not-is_free.ensures refl) in
    let grows = ok_grown c.admit-told.result lane core c.admit-told.new.self
    (admit_entries rules (past_of core) lane c.args.job.now) (admit_of rules (past_of core) lane c.args.job.now)
    c.admit-told.ensures.ok c.admit-told.ensures.err in
    stays g.R.Runner.meaning g.R.Runner.stands core c.admit-told.new.self lane c.self.inside.runner c.self.inside.site
    c.self.inside.runs.items c.self.invariant free.none grows c.journal.ensures.valid
