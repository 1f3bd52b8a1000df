use Rattle.std.proofs.Common.{◌∙◌, ap, sym, subst, Some}
use Rattle.asp_desk.specs.Hands.{HandView, Holds, core_at, run_in}
use Rattle.asp_desk.proofs.Slicing.{goes_number, gone_holds}
use Rattle.asp_desk.proofs.slices.HostOf+Placed+R+R+R+Site.go.Goals as goal

pub returns-clause-goes : goal.returns-clause-goes
returns-clause-goes g c = record {
  run = c.in-Runs.run';
  was = ap (λ (h : HandView _ _ _). h.run) (sym c.hand.view_is)
      ∙ ap run_in (sym c.take.ensures.value ∙ c.in-Some.is ∙ ap Some c.in-Runs.is);
  next = c.gone-run.result.0;
  goes = c.gone-run.ensures.goes;
  is = ap run_in c.put.ensures;
  lane = ap (λ (h : HandView _ _ _). h.lane) c.hand.view_is;
}

pub returns-clause-holds : goal.returns-clause-holds
returns-clause-holds g c =
    let host = c.args.self.now in
    let lane = c.args.hand.now.lane in
    let core = core_at host lane.seen in
    let run = c.in-Runs.run' in
    let next = c.gone-run.result.0 in
    let was = ap (λ (h : HandView _ _ _). h.run) (sym c.hand.view_is)
    ∙ ap run_in (sym c.take.ensures.value ∙ c.in-Some.is ∙ ap Some c.in-Runs.is) in
    let gone = c.gone-run.ensures in
    subst (Holds g.R.Runner.meaning g.R.Runner.stands core lane.number) (sym (ap run_in c.put.ensures))
    (gone_holds g.R.Runner.meaning g.R.Runner.stands core lane.number run next
    (goes_number (g.R.Runner.pace host.runner) (g.R.Runner.meaning host.runner host.site)
    (g.R.Runner.stands host.runner host.site) run next c.gone-run.result.1 gone.goes) gone.stand_ins gone.stands
    (subst (Holds g.R.Runner.meaning g.R.Runner.stands core lane.number) was c.requires.hand.1))
