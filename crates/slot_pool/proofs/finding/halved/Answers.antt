use Rattle.std.proofs.Common.{arith, ap, ◌∙◌}
use Rattle.std.proofs.lemmas.List.{get_or_default}
use Rattle.slot_pool.specs.declared.key.SlotKey.{SlotKey}
use Rattle.slot_pool.proofs.Keys.{lacks_at, non_decreasing}
use Rattle.slot_pool.proofs.finding.halved.Goals as goal

pub place-at-requires : goal.place-at-requires
place-at-requires c = non_decreasing _ _ c.requires

pub returns-then-at-keys : goal.returns-then-at-keys
returns-then-at-keys c =
    lacks_at _ _ _ _ c.requires c.place-at.ensures.before c.place-at.ensures.behind (λ d inside. absurd (omega arith))

pub returns-else-key-number : goal.returns-else-key-number
returns-else-key-number c =
    lacks_at _ _ _ _ c.requires c.place-at.ensures.before c.place-at.ensures.behind
    (λ d inside same. c.if-key-number.false
    (ap (λ (key : SlotKey). key.number) (get_or_default c.args.keys.now c.place-at.result _ d inside) ∙ same))
