use Rattle.std.proofs.Common.{◌≡◌, ◌++◌, map, take}
use Rattle.vb_print.specs.Statements.{block_words}
use Rattle.vb_print.specs.Units as spec
use Rattle.vb_print.proofs.units.print_items.Given as goal

abbrev pub invariant-loop-item : goal.invariant-loop-item
invariant-loop-item l = l.words ≡ l.initial.words
    ++ block_words 1 (map spec.item_words (take l.item-index l.item-items))
