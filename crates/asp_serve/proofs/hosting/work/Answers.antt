use Rattle.std.proofs.Common.{map, subst, sym}
use Rattle.std.specs.List.{AllZip}
use Rattle.asp_desk.specs.declared.worker.WorkerOf.{WorkerOf}
use Rattle.asp_serve.specs.Hosts.{HasWorked}
use Rattle.asp_serve.specs.Visits.{MayFail}
use Rattle.asp_serve.proofs.HostEnds.{have_worked}
use Rattle.asp_serve.proofs.hosting.work.Goals as goal

pub returns : goal.returns
returns g c =
    let fails = MayFail g.W.Wire.faults in
    let news = c.work_all.new.crew in
    let hands = map (λ (worker : WorkerOf _ _). worker.hand) news in
    let worked = have_worked g.R.Runner.meaning g.R.Runner.stands c.args.host.now fails c.args.crew news c.work_all.ensures in
    subst (λ found. AllZip (HasWorked g.R.Runner.meaning g.R.Runner.stands c.args.host.now fails) found c.part.result.1)
    (sym c.part.ensures.0)
    (subst (λ made. AllZip (HasWorked g.R.Runner.meaning g.R.Runner.stands c.args.host.now fails) hands made)
    (sym c.part.ensures.1) worked)
