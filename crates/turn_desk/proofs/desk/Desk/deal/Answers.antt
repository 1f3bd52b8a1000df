use Rattle.std.proofs.Common.{◌++◌, map, sym, ap, ◌∙◌, subst, arith, ◌+◌, rules}
use Rattle.turn_desk.specs.Shown.{lane_view}
use Rattle.turn_desk.proofs.Dealing.{splits_as, Deals, deals, all_dealt}
use Rattle.turn_desk.proofs.desk.Desk.deal.Goals as goal

pub loop-number-init : goal.loop-number-init
loop-number-init g c =
    let none = c.requires.room.0 in (
      c.requires.desk,
      c.requires.room.1,
      search rules,
      (
        c.requires.seat,
        c.requires.numbers.0,
        omega (arith, c.requires.numbers.1),
        ap (λ items. items ++ map (lane_view c.args.self.now) c.args.seat.me.0.lanes) none,
      ),
    )

pub split_seat-first-requires : goal.split_seat-first-requires
split_seat-first-requires g c =
    let S = g.S.Stands in
    let key = c.self.inside.table.shared.key in
    let inv = c.loop-number.invariant in (
      inv.0 ∙ sym (ap (λ d. d.id) c.self.view_is),
      omega (arith, c.self.invariant.0),
      splits_as S.lane_of S.entries S.fixed key.lanes (S.fixed key.state.value) _ _ _ inv.3.0,
    )

pub invariant_of-push_reserved : goal.invariant_of-push_reserved
invariant_of-push_reserved g c =
    let inv = c.loop-number.invariant in
    let split = c.split_seat-first.ensures in
    (deals g.S.Stands.lane_of c.args.self.now c.loop-number.number c.loop-number.lanes.items c.loop-number.seat.me
    c.split_seat-first.new.seat.me c.split_seat-first.result.me c.args.seat.me.0.lanes
    c.split_seat-first.result.table_id inv.3 (omega
    (arith, c.loop-number-test.true, ap (λ d. d.lanes) c.self.view_is)) (split.3 ∙ inv.0) split.2 split.4).1

pub push_reserved-requires : goal.push_reserved-requires
push_reserved-requires g c = let inv = c.loop-number.invariant in omega
    (arith, inv.1, inv.2, c.loop-number-test.true, ap (λ d. d.lanes) c.self.view_is)

pub loop-number-preserved : goal.loop-number-preserved
loop-number-preserved g c =
    let inv = c.loop-number.invariant in
    let split = c.split_seat-first.ensures in
    let push = c.push_reserved.ensures in (
      split.0 ∙ inv.0,
      omega (arith, inv.1, push.capacity),
      omega (arith, inv.2, push.len),
      subst (λ items. Deals g.S.Stands.lane_of c.args.self.now (c.loop-number.number + 1) items
          c.split_seat-first.new.seat.me c.args.seat.me.0.lanes) (sym push.items)
          (deals g.S.Stands.lane_of c.args.self.now c.loop-number.number c.loop-number.lanes.items
          c.loop-number.seat.me c.split_seat-first.new.seat.me c.split_seat-first.result.me
          c.args.seat.me.0.lanes c.split_seat-first.result.table_id inv.3
          (omega (arith, c.loop-number-test.true, ap (λ d. d.lanes) c.self.view_is)) (split.3 ∙ inv.0) split.2
          split.4).0,
    )

pub returns : goal.returns
returns g c = let inv = c.loop-number.invariant in all_dealt g.S.Stands.lane_of c.args.self.now c.loop-number.number
    c.loop-number.lanes.items c.loop-number.seat.me c.args.seat.me.0.lanes inv.3
    (omega (arith, c.loop-number-test.false, ap (λ d. d.lanes) c.self.view_is))
