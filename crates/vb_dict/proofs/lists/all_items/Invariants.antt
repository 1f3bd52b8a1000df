use Rattle.std.proofs.Common.{◌≡◌, length, map, take}
use Rattle.vb_dict.specs.Entries.{pairs_of}
use Rattle.vb_heap.specs.Entries.{dictionary_of}
use Rattle.vb_dict.proofs.lists.all_items.Given as goal

abbrev pub invariant-loop-at : goal.invariant-loop-at
invariant-loop-at l = record {
  items : l.items ≡ map (λ pair. pair.item) (take l.at (pairs_of (dictionary_of l.dictionary l.heap)));
  count : length l.items ≡ l.at;
}
