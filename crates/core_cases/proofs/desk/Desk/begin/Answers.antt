use Rattle.std.proofs.Common.{refl}
use Rattle.asp_job.specs.declared.entry.What.TheVariants.{Begin}
use Rattle.asp_job.specs.Turns.{serial_of}
use Rattle.asp_core.specs.Kernel.{past_of, rules_of}
use Rattle.core_cases.proofs.Lanes.{desk_begun, one_grown}
use Rattle.core_cases.proofs.desk.Desk.begin.Goals as goal

pub invariant_of-self : goal.invariant_of-self
invariant_of-self g c =
    let core = c.self.inside.core in
    let next = c.begin-begun.new.self in
    let rules = rules_of g.R.Runner.meaning core in
    let lane = c.args.lane in
    let run = c.in-Ok.run' in
    let free = rw c.as_slice.ensures.value at (c.if-not-is_free.ensures refl) in
    let grows = one_grown lane core next (Begin run.number (serial_of rules (past_of core) run.number))
    c.in-Ok.ensures.begun in
    desk_begun g.R.Runner.meaning g.R.Runner.stands core lane c.self.inside.runner c.self.inside.site
    c.self.inside.runs.items next c.put_run.new.runs.items run c.self.invariant free grows c.journal.ensures.valid
    c.in-Ok.ensures.run c.put_run.ensures
