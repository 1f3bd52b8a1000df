use Rattle.core_cases.proofs.Lanes.{desk_gone}
use Rattle.core_cases.proofs.desk.Desk.go.Goals as goal

pub invariant_of-self-2 : goal.invariant_of-self-2
invariant_of-self-2 g c =
    desk_gone g.R.Runner.meaning g.R.Runner.stands c.self.inside.core c.args.lane c.self.inside.runner
    c.self.inside.site
    c.self.inside.runs.items c.take_run.new.runs.items c.put_run.new.runs.items c.in_ok-run.run' c.go_on-told.new.run
    c.self.invariant c.in_ok-run.ensures.ok c.go_on-told.ensures c.put_run.ensures
