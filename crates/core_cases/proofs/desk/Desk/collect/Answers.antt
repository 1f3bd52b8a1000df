use Rattle.std.proofs.Common.{[], ◌∷◌, refl}
use Rattle.asp_job.specs.declared.entry.What.TheVariants.{Take}
use Rattle.asp_job.specs.History.{with_lane}
use Rattle.asp_core.specs.Kernel.{rules_of}
use Rattle.asp_core.proofs.Bearing.{one_of}
use Rattle.core_cases.proofs.Lanes.{stays, ok_grown}
use Rattle.core_cases.proofs.desk.Desk.collect.Goals as goal

pub invariant_of-self : goal.invariant_of-self
invariant_of-self g c =
    let core = c.self.inside.core in
    let rules = rules_of g.R.Runner.meaning core in
    let lane = c.args.lane in
    let free = rw c.as_slice.ensures.value at (c.if-not-is_free.ensures refl) in
    let grows = ok_grown c.collect-told.result lane core c.collect-told.new.self (with_lane lane (Take c.args.run) ∷ [])
    (one_of lane (with_lane lane (Take c.args.run)) refl) c.collect-told.ensures.ok c.collect-told.ensures.err in
    stays g.R.Runner.meaning g.R.Runner.stands core c.collect-told.new.self lane c.self.inside.runner c.self.inside.site
    c.self.inside.runs.items c.self.invariant free.none grows c.journal.ensures.valid
