use Rattle.std.proofs.Common.{sym, ap, ◌∙◌, arith}
use Rattle.turn_desk.proofs.Drawing.{draws_as}
use Rattle.turn_desk.proofs.desk.Desk.draw.Goals as goal

pub fetch_add-ticket-requires : goal.fetch_add-ticket-requires
fetch_add-ticket-requires g c =
    let S = g.S.Stands in
    let key = c.self.inside.table.shared.key in (
      c.requires.desk ∙ sym (ap (λ d. d.id) c.self.view_is),
      omega (arith, c.self.invariant.0),
      draws_as S.lane_of S.entries S.fixed key.lanes (S.fixed key.state.value) _ _ _ c.requires.seat,
    )
