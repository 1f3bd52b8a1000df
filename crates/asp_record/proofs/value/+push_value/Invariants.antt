use Rattle.std.proofs.Common.{◌≡◌, ◌++◌, true, ltb, map, take}
use Rattle.std.specs.List.{list_all}
use Rattle.asp_record.specs.Journal.{is_ranged}
use Rattle.asp_record.specs.Lines.{with_commas}
use Rattle.asp_record.specs.Values.{value_text}
use Rattle.asp_record.proofs.value.+push_value.Given as goal

abbrev pub invariant-loop-item : goal.invariant-loop-item
invariant-loop-item l = (l.more ≡ ltb 0 l.item-index)
    × (l.bytes ≡ l.initial.bytes ++ with_commas (map value_text (take l.item-index l.item-items)))
    × (list_all is_ranged (take l.item-index l.item-items) ≡ true)
