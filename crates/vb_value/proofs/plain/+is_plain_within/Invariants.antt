use Rattle.std.proofs.Common.{◌≡◌, ◌-◌, take}
use Rattle.std.specs.List.{list_all}
use Rattle.vb_value.proofs.Plainness.{is_plain_to}
use Rattle.vb_value.proofs.plain.+is_plain_within.Given as goal

abbrev pub invariant-loop-item : goal.invariant-loop-item
invariant-loop-item l = l.plain ≡ list_all (is_plain_to (l.depth - 1)) (take l.item-index l.item-items)
