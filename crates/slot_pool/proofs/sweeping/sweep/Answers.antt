use Rattle.std.proofs.Common.{is_some, rules}
use Rattle.std.proofs.lemmas.Fn.{filter_same}
use Rattle.slot_pool.specs.declared.key.SlotKey.{SlotKey}
use Rattle.slot_pool.specs.Inside.{held}
use Rattle.slot_pool.proofs.sweeping.sweep.Goals as goal

pub returns-clause-swept : goal.returns-clause-swept
returns-clause-swept g c =
    filter_same _ (λ (key : SlotKey). is_some (held c.args.slots.now key)) _ (λ x b q t. search rules) _ _
    c.retain.ensures.filtered
