use Rattle.std.proofs.Common.{◌∙◌, arith, subst, All}
use Rattle.turn_desk.specs.Shown.{AreAll, HasOwn, LaneFits}
use Rattle.turn_desk.proofs.Gathering.{all_end, all_own, any_end}
use Rattle.turn_desk.proofs.desk.Desk.close.Goals as goal

pub returns-clause-fits : goal.returns-clause-fits
returns-clause-fits g c =
    let S = g.S.Stands in
    let history = S.entries c.end.result in
    let ended = all_end S.lane_of S.entries S.fixed c.args.self history c.gather-seat.result.me.0.lanes
    c.end.ensures.lanes in
    subst (λ lanes. All (LaneFits S.lane_of history) lanes) (c.gather-seat.ensures.lanes ∙ c.into_vec.ensures) ended

pub returns-clause-own : goal.returns-clause-own
returns-clause-own g c =
    let lane_of = g.S.Stands.lane_of in
    subst (λ lanes. All (HasOwn lane_of) lanes) (c.gather-seat.ensures.lanes ∙ c.into_vec.ensures)
    (all_own lane_of c.args.self c.gather-seat.result.me.0.lanes c.gather-seat.ensures.own)

pub returns-clause-numbers : goal.returns-clause-numbers
returns-clause-numbers g c =
    subst (λ lanes. AreAll c.args.self.lanes lanes) (c.gather-seat.ensures.lanes ∙ c.into_vec.ensures)
    (λ number low. any_end c.args.self number c.gather-seat.result.me.0.lanes
    (let one = c.end.ensures.numbers number low in omega (arith, one)))
