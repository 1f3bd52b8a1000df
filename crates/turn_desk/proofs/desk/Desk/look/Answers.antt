use Rattle.std.proofs.Common.{sym, ap, ◌∙◌, arith}
use Rattle.turn_desk.proofs.Looking.{looks_as, has_turn, has_no_turn, taken_out, slot_out, if_taken}
use Rattle.turn_desk.proofs.desk.Desk.look.Goals as goal

pub load-found-requires : goal.load-found-requires
load-found-requires g c =
    let S = g.S.Stands in
    let key = c.self.inside.table.shared.key in (
      c.requires.desk ∙ sym (ap (λ d. d.id) c.self.view_is),
      omega (arith, c.self.invariant.0),
      looks_as S.lane_of S.entries S.fixed key.lanes (S.fixed key.state.value) _ _ _ _ c.requires.seat,
    )

pub exchange-requires : goal.exchange-requires
exchange-requires g c =
    let S = g.S.Stands in
    let m = c.args.seat.now.me in
    let n = c.load-found.new.seat.me in (
      c.load-found.ensures.0 ∙ (c.requires.desk ∙ sym (ap (λ d. d.id) c.self.view_is)),
      slot_out S.lane_of S.entries S.fixed m n (has_turn S.lane_of S.entries S.fixed _ _ m n c.requires.seat
          c.load-found.ensures.2 (c.if-found-from.true ∙ c.from.ensures)),
    )

pub returns-then-found-from : goal.returns-then-found-from
returns-then-found-from g c =
    let S = g.S.Stands in
    let m = c.args.seat.now.me in
    let n = c.load-found.new.seat.me in
    let p = c.exchange.new.seat.me in
    let turn = has_turn S.lane_of S.entries S.fixed _ _ m n c.requires.seat c.load-found.ensures.2
    (c.if-found-from.true ∙ c.from.ensures) in
    let out = if_taken S.lane_of S.entries S.fixed m p c.exchange.result
    (taken_out S.lane_of S.entries S.fixed m n p c.exchange.result turn c.exchange.ensures.2
    c.exchange.ensures.3) in
    record { desk = c.exchange.ensures.0 ∙ c.load-found.ensures.0; some = out.0; none = out.1 }

pub returns-else-found-from : goal.returns-else-found-from
returns-else-found-from g c =
    let S = g.S.Stands in
    record {
      desk = c.load-found.ensures.0;
      some = tt;
      none = has_no_turn S.lane_of S.entries S.fixed _ _ c.args.seat.now.me c.load-found.new.seat.me c.requires.seat
          c.load-found.ensures.2 (λ e. c.if-found-from.false (e ∙ sym c.from.ensures));
    }
