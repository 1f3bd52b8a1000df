use Rattle.std.proofs.Common.{subst}
use Rattle.asp_desk.specs.Slices.{Goes}
use Rattle.asp_desk.proofs.Slicing.{pauses}
use Rattle.asp_desk.proofs.slices.HostOf+Placed+R+R+R+Site.pass.Goals as goal

pub step-requires-clause-paused : goal.step-requires-clause-paused
step-requires-clause-paused g c =
    let host = c.args.self.now in
    let pace = g.R.Runner.pace host.runner in
    let meaning = g.R.Runner.meaning host.runner host.site in
    let stands = g.R.Runner.stands host.runner host.site in
    let gone = c.go.ensures.goes in
    pauses pace meaning stands gone.run gone.next c.go.new.hand.run gone.is
    (subst (λ more. Goes pace meaning stands gone.run more gone.next) c.if-go.false gone.goes)
