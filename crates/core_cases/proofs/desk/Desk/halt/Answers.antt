use Rattle.std.proofs.Common.{refl}
use Rattle.asp_core.specs.Kernel.{rules_of}
use Rattle.core_cases.proofs.Lanes.{stays, halt_grown}
use Rattle.core_cases.proofs.desk.Desk.halt.Goals as goal

pub invariant_of-self : goal.invariant_of-self
invariant_of-self g c =
    let core = c.self.inside.core in
    let rules = rules_of g.R.Runner.meaning core in
    let lane = c.args.lane in
    let free = rw c.as_slice.ensures.value at (c.if-not-is_free.ensures refl) in
    let grows = halt_grown lane core c.halt.new.self c.halt.ensures.first c.halt.ensures.again in
    stays g.R.Runner.meaning g.R.Runner.stands core c.halt.new.self lane c.self.inside.runner c.self.inside.site
    c.self.inside.runs.items c.self.invariant free.none grows c.journal.ensures.valid
