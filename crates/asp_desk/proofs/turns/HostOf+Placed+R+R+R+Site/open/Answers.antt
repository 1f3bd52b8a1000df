use Rattle.std.proofs.Common.{◌≡◌, ◌∙◌, ap, sym}
use Rattle.asp_desk.specs.Hands.{HandView, HostView, fixed_of, lane_in}
use Rattle.asp_desk.proofs.Turning.{found_is, open_holds}
use Rattle.asp_desk.proofs.turns.HostOf+Placed+R+R+R+Site.open.Goals as goal

pub returns-clause-holds : goal.returns-clause-holds
returns-clause-holds g c =
    let host = c.args.self.now in
    let turn = c.take-turn.result in
    let core = c.state.result.now.core in
    let same : core.journal ≡ turn.seen = rw c.state.ensures.state c.take-turn.ensures.state.0 in
    let known : fixed_of core.runner core.site core.setting ≡ fixed_of host.runner host.site host.setting =
    rw c.state.ensures.state (c.take-turn.ensures.state.1 ∙ (c.self.invariant.0
    ∙ ap (λ (h : HostView g.row.R.Denot g.row.R-Site.Denot). fixed_of h.runner h.site h.setting) c.self.view_is)) in
    open_holds g.R.Runner.meaning g.R.Runner.stands host c.args.hand.now.lane c.in-Some.lane c.args.hand.now.run
    turn.seen core
    (ap (λ (h : HandView _ _ _). h.lane) (sym c.hand.view_is) ∙ ap lane_in (sym c.take.ensures.value ∙ c.in-Some.is))
    c.requires.holds c.number-number.ensures.own c.take-turn.ensures.fits.0 (found_is host core turn.seen same known)
    c.check.ensures.valid
