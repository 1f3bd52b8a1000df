use Rattle.std.proofs.Common.{sym, ap, ◌∙◌, arith}
use Rattle.turn_desk.proofs.Gathering.{at_rest-idle, joins_as}
use Rattle.turn_desk.proofs.desk.Desk.absorb.Goals as goal

pub join_seat-requires : goal.join_seat-requires
join_seat-requires g c =
    let S = g.S.Stands in
    let key = c.self.inside.table.shared.key in
    let other = c.into_seat-other.result in
    let here = sym (ap (λ d. d.id) c.self.view_is) in (
      c.requires.desk.0 ∙ here,
      c.into_seat-other.ensures.desk ∙ (c.requires.desk.1.0 ∙ here),
      ap (λ m. m.1) c.into_seat-other.ensures.seat,
      omega (arith, c.self.invariant.0),
      joins_as S.lane_of S.entries S.fixed key.lanes (S.fixed key.state.value) _ c.args.seat.now.me _ other.me
          c.requires.seat (at_rest-idle other.me _ _ c.into_seat-other.ensures.seat),
    )
