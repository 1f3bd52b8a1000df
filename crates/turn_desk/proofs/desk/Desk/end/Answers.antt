use Rattle.std.proofs.Common.{sym, ap, ◌∙◌, ◌<◌, subst, rules}
use Rattle.turn_desk.specs.Histories.{AreOfLanes}
use Rattle.turn_desk.proofs.Ending.{ends_as, end_is, seats_each}
use Rattle.turn_desk.proofs.desk.Desk.end.Goals as goal

pub unwrap-requires : goal.unwrap-requires
unwrap-requires g c =
    let S = g.S.Stands in
    let key = c.self.inside.table.shared.key in
    let count = c.requires.seat.1 ∙ (sym (ap (λ d. d.lanes) c.self.view_is) ∙ sym c.self.invariant.2) in
    let t = ends_as S.lane_of S.entries S.fixed key.lanes (S.fixed key.state.value) _ c.args.seat.me _ _
    c.take-state.result c.requires.seat.0 count c.close_with-closed.ensures.values.2 c.take-state.ensures.value in
    rw t.1 search rules

pub returns-clause-lanes : goal.returns-clause-lanes
returns-clause-lanes g c =
    let S = g.S.Stands in
    let key = c.self.inside.table.shared.key in
    let count = c.requires.seat.1 ∙ (sym (ap (λ d. d.lanes) c.self.view_is) ∙ sym c.self.invariant.2) in
    let t = ends_as S.lane_of S.entries S.fixed key.lanes (S.fixed key.state.value) _ c.args.seat.me _ _
    c.take-state.result c.requires.seat.0 count c.close_with-closed.ensures.values.2 c.take-state.ensures.value in
    (end_is S.lane_of S.entries S.fixed key.lanes (S.fixed key.state.value) c.args.seat.me.0.lanes
    c.take-state.result c.unwrap.result t c.unwrap.ensures).0

pub returns-clause-state : goal.returns-clause-state
returns-clause-state g c =
    let S = g.S.Stands in
    let key = c.self.inside.table.shared.key in
    let lanes = sym (ap (λ d. d.lanes) c.self.view_is) ∙ sym c.self.invariant.2 in
    let t = ends_as S.lane_of S.entries S.fixed key.lanes (S.fixed key.state.value) _ c.args.seat.me _ _
    c.take-state.result c.requires.seat.0 (c.requires.seat.1 ∙ lanes) c.close_with-closed.ensures.values.2
    c.take-state.ensures.value in
    let home = end_is S.lane_of S.entries S.fixed key.lanes (S.fixed key.state.value) c.args.seat.me.0.lanes
    c.take-state.result c.unwrap.result t c.unwrap.ensures in (
      subst (λ n. AreOfLanes S.lane_of n (S.entries c.unwrap.result)) (sym lanes) home.1,
      home.3
          ∙ ap (λ d. d.fixed) c.self.view_is,
    )

pub returns-clause-numbers : goal.returns-clause-numbers
returns-clause-numbers g c =
    let S = g.S.Stands in
    let key = c.self.inside.table.shared.key in
    let lanes = sym (ap (λ d. d.lanes) c.self.view_is) ∙ sym c.self.invariant.2 in
    λ number low. seats_each S.lane_of S.entries S.fixed key.lanes (S.fixed key.state.value) _ c.args.seat.me _ _
    (c.requires.seat.1 ∙ lanes) c.close_with-closed.ensures.values.2 number (subst (λ n. number < n) lanes low)
