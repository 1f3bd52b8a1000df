use Rattle.std.proofs.Common.{◌≡◌, ℕ, ◌∷◌, sym, ap, ◌∙◌, subst, arith, ◌<◌, ◌%◌, Some, ◌*◌, ◌+◌, length}
use Rattle.atomic_table.specs.Table.{rest}
use Rattle.turn_desk.specs.Histories.{GrowsBy}
use Rattle.turn_desk.specs.Rule.{known}
use Rattle.turn_desk.specs.Shown.{TurnView}
use Rattle.turn_desk.specs.Steps.{ticket_of, seen_of, own_of}
use Rattle.turn_desk.proofs.Raising.{raises_as}
use Rattle.turn_desk.proofs.turn.Turn.give.Goals as goal

-- the word that passes the turn on
next_word : (t ticket high long : ℕ) → ticket ≡ t % 4294967296 → high ≡ (ticket + 1) % 4294967296 → long < 4294967296
    → long * 4294967296 % 18446744073709551616 + high ≡ long * 4294967296 + (t + 1) % 4294967296
next_word t ticket high long e d short = omega arith

pub store-requires : goal.store-requires
store-requires g c =
    let S = g.S.Stands in
    let key = c.desk.inside.table.shared.key in
    let m = c.self.inside.seat.me in
    let state = c.self.inside.state in
    let l = known c.self.inside.number (seen_of m.0.lanes) (own_of m.0.lanes) in
    let inv = c.self.invariant.1 in
    let back = sym c.self.view_is in
    let short : length (S.entries state) < 4294967296 =
    subst (λ (v : TurnView g.row.S.Denot g.row.S-Entry.Denot g.row.S-Fixed.Denot). length (S.entries v.state) <
    4294967296) back c.requires.short in
    let word = next_word (ticket_of m.0.stage) c.self.inside.ticket c.from.result c.length-long.result inv.1
    c.from.ensures (rw c.length-long.ensures short) in (
      c.exchange.ensures.0 ∙ (c.self.invariant.0 ∙ sym (ap (λ d. d.id) c.desk.view_is)),
      omega (arith, c.desk.invariant.0),
      raises_as S.lane_of S.entries S.fixed key.lanes (S.fixed key.state.value) _ _ l (ticket_of m.0.stage)
          m.0.fixed _ state _
          (c.exchange.ensures.3 ∙ ap (λ x. (x.0, (0, Some state) ∷ rest x.1)) inv.0)
          (subst (λ (v : TurnView g.row.S.Denot g.row.S-Entry.Denot g.row.S-Fixed.Denot). GrowsBy S.lane_of v.number
          v.seen (S.entries v.state)) back c.requires.grows)
          (subst (λ (v : TurnView g.row.S.Denot g.row.S-Entry.Denot g.row.S-Fixed.Denot). Some (S.fixed v.state) ≡
          v.fixed) back c.requires.fixed) short
          (word ∙ ap (λ n. n * 4294967296 + (ticket_of m.0.stage + 1) % 4294967296) c.length-long.ensures),
    )
