use Rattle.std.proofs.Common.{◌≡◌, ◌++◌, take}
use Rattle.std.specs.List.{flat_map}
use Rattle.asp_record.specs.Recording.{item_text}
use Rattle.asp_record.proofs.writing.push_items.Given as goal

abbrev pub invariant-loop-item : goal.invariant-loop-item
invariant-loop-item l = l.text ≡ l.initial.text ++ flat_map item_text (take l.item-index l.items)
