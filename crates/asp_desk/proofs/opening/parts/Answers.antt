use Rattle.std.proofs.Common.{◌≡◌, ◌∙◌, ap, arith, length, sym}
use Rattle.asp_desk.proofs.Fresh.{new_lanes_many}
use Rattle.asp_desk.proofs.opening.parts.Goals as goal

pub dealt-requires-clause-stores : goal.dealt-requires-clause-stores
dealt-requires-clause-stores g c =
    let many : length c.into_vec.result.items ≡ c.args.lanes =
    ap length (c.into_vec.ensures ∙ c.in_ok-desk.ensures.lanes) ∙ new_lanes_many _ c.in_ok-desk.desk _
    ∙ c.in_ok-desk.ensures.desk.0 in
    c.in_ok-stores.ensures ∙ sym many

pub dealt-requires-clause-room : goal.dealt-requires-clause-room
dealt-requires-clause-room g c =
    let many : length c.into_vec.result.items ≡ c.args.lanes =
    ap length (c.into_vec.ensures ∙ c.in_ok-desk.ensures.lanes) ∙ new_lanes_many _ c.in_ok-desk.desk _
    ∙ c.in_ok-desk.ensures.desk.0 in
    (c.in_ok-hands.ensures.items, omega (arith, many, c.in_ok-hands.ensures.capacity))
