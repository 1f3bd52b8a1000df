use Rattle.std.proofs.Common.{◌≡◌, ℕ, [], ◌∷◌, ◌++◌, refl, sym, ap, ◌∙◌, subst, arith, ◌<◌, ◌%◌, Some, ◌*◌}
use Rattle.std.proofs.Common.{length}
use Rattle.turn_desk.specs.Steps.{Numbered}
use Rattle.turn_desk.proofs.Dealing.{numbered}
use Rattle.turn_desk.proofs.Opening.{length-fresh_lanes, opens_as}
use Rattle.turn_desk.proofs.desk.Desk.new.Goals as goal

-- the word of a new desk
word_of : (found long : ℕ) → found ≡ long → long < 4294967296
    → found * 4294967296 % 18446744073709551616 ≡ long * 4294967296
word_of found long e h = omega arith

pub new-requires : goal.new-requires
new-requires g c =
    let S = g.S.Stands in
    opens_as S.lane_of S.entries S.fixed c.args.lanes (S.fixed c.of.result.value) c.args.state c.of.result.value _ _
    c.of.ensures
    (c.push_reserved.ensures.items ∙ ap (λ xs. xs ++ Some c.args.state ∷ []) (c.in-Ok.ensures.items))
    (word_of _ _ c.length-long.ensures c.requires.short) c.requires.short c.requires.of_lanes c.requires.some.1
    refl

pub deal-made-requires-clause-numbers : goal.deal-made-requires-clause-numbers
deal-made-requires-clause-numbers g c =
    let S = g.S.Stands in
    let lanes = ap (λ m. m.0.lanes) c.in-Ok-new.ensures.ok.4 in
    let h = S.entries c.of.result.value in
    subst (λ ls. Numbered S.lane_of 0 ls × (length ls ≡ c.args.lanes)) (sym lanes)
    (numbered S.lane_of h 0 c.args.lanes, length-fresh_lanes S.lane_of h 0 c.args.lanes)
