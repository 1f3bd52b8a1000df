use Rattle.std.proofs.Common.{◌≡◌, subst}
use Rattle.asp_desk.specs.Hands.{HostView, fixed_of}
use Rattle.asp_desk.proofs.Turning.{fixed_is}
use Rattle.asp_desk.proofs.turns.HostOf+Placed+R+R+R+Site.shut.Goals as goal

pub give-lane-requires-clause-fixed : goal.give-lane-requires-clause-fixed
give-lane-requires-clause-fixed g c =
    let known = subst (λ (h : HostView g.row.R.Denot g.row.R-Site.Denot).
    h.desk.fixed ≡ fixed_of h.runner h.site h.setting) c.self.view_is c.self.invariant.0 in
    fixed_is c.args.self.now c.args.turn.seen c.args.turn.state.core c.args.turn.fixed c.requires.house known
    c.requires.fixed
