use Rattle.core_cases.proofs.Lanes.{desk_ended, one_grown}
use Rattle.asp_core.specs.Kernel.{past_of, rules_of}
use Rattle.asp_job.specs.Output.{end_of}
use Rattle.core_cases.proofs.desk.Desk.end.Goals as goal

pub end-requires-clause-run : goal.end-requires-clause-run
end-requires-clause-run g c = c.self.invariant.runs_are c.args.lane c.in_ok-run.run' c.in_ok-run.ensures.ok.run_is

pub invariant_of-self-2 : goal.invariant_of-self-2
invariant_of-self-2 g c =
    let core = c.self.inside.core in
    let next = c.end.new.self in
    let lane = c.args.lane in
    let run = c.in_ok-run.run' in
    let grows = one_grown lane core next (end_of (rules_of g.R.Runner.meaning core) (past_of core) run.number
    c.end_kind-kind.result)
    c.end.ensures in
    desk_ended g.R.Runner.meaning g.R.Runner.stands core lane c.self.inside.runner c.self.inside.site
    c.self.inside.runs.items next c.take_run.new.runs.items run c.self.invariant c.in_ok-run.ensures.ok grows
    c.journal.ensures.valid
