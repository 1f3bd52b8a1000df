use Rattle.std.proofs.Common.{◌∙◌, All, subst, sym}
use Rattle.asp_core.specs.Kernel.{setting_of}
use Rattle.asp_desk.specs.Hands.{HostView, IsHandOf}
use Rattle.asp_desk.proofs.Fresh.{new_hands_are}
use Rattle.asp_desk.proofs.opening.HostOf+Placed+R+R+R+Site.new.Goals as goal

pub returns-in-Ok-clause-hands : goal.returns-in-Ok-clause-hands
returns-in-Ok-clause-hands g c =
    let host : HostView g.row.R.Denot g.row.R-Site.Denot = record {
      desk = c.in-Ok.desk;
      runner = c.args.runner;
      site = c.args.site;
      setting = setting_of c.args.seed c.args.strict;
    } in
    subst (λ hands. All (IsHandOf g.R.Runner.meaning g.R.Runner.stands host) hands)
    (sym (c.from_vec.ensures ∙ c.in-Ok.ensures.hands)) (new_hands_are g.R.Runner.meaning g.R.Runner.stands host)
