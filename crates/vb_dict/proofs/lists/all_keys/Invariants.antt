use Rattle.std.proofs.Common.{◌≡◌, length, map, take}
use Rattle.vb_dict.specs.Entries.{pairs_of}
use Rattle.vb_heap.specs.Entries.{dictionary_of}
use Rattle.vb_dict.proofs.lists.all_keys.Given as goal

abbrev pub invariant-loop-at : goal.invariant-loop-at
invariant-loop-at l = record {
  keys : l.keys ≡ map (λ pair. pair.key) (take l.at (pairs_of (dictionary_of l.dictionary l.heap)));
  count : length l.keys ≡ l.at;
}
