-- Parts of entries, one after another.
use Rattle.std.proofs.Common.{◌≡◌, ℕ, zero, suc, ◌+◌, ◌<◌, List, [], ◌∷◌, ◌++◌, map, take, length, slice_get}
use Rattle.std.proofs.Common.{Result, Ok, Err, refl, ap, arith, add-one}
use Rattle.vb_value.specs.declared.fault.VbError.{VbError}
use Rattle.vb_value.specs.declared.session.Pair.{Pair}
use Rattle.vb_heap.specs.Dictionary.{Dictionary}
use Rattle.vb_heap.specs.DictionaryCalls.{item_in}
use Rattle.vb_heap.specs.Entries.{entry_at, entry_count_of}
use Rattle.vb_dict.specs.Entries.{key_in, pairs_of}

more_keys : (pairs : List Pair) (at : ℕ) → at < length pairs
    → map (λ pair. pair.key) (take (suc at) pairs)
    ≡ map (λ pair. pair.key) (take at pairs) ++ key_in (slice_get pairs at) ∷ []
more_keys [] at within = absurd (omega arith)
more_keys (pair ∷ pairs) zero within = refl
more_keys (pair ∷ pairs) (suc at) within = ap (λ keys. pair.key ∷ keys) (more_keys pairs at (omega arith))

more_items : (pairs : List Pair) (at : ℕ) → at < length pairs
    → map (λ pair. pair.item) (take (suc at) pairs)
    ≡ map (λ pair. pair.item) (take at pairs) ++ item_in (slice_get pairs at) ∷ []
more_items [] at within = absurd (omega arith)
more_items (pair ∷ pairs) zero within = refl
more_items (pair ∷ pairs) (suc at) within = ap (λ items. pair.item ∷ items) (more_items pairs at (omega arith))

-- the keys of one entry more
pub keys_more : (found : Result Dictionary VbError) (at : ℕ) → at < entry_count_of found
    → map (λ pair. pair.key) (take (at + 1) (pairs_of found))
    ≡ map (λ pair. pair.key) (take at (pairs_of found)) ++ key_in (entry_at at found) ∷ []
keys_more (Ok dictionary) at within = rw add-one (more_keys dictionary.pairs at within)
keys_more (Err error) at within = absurd (omega arith)

-- the items of one entry more
pub items_more : (found : Result Dictionary VbError) (at : ℕ) → at < entry_count_of found
    → map (λ pair. pair.item) (take (at + 1) (pairs_of found))
    ≡ map (λ pair. pair.item) (take at (pairs_of found)) ++ item_in (entry_at at found) ∷ []
items_more (Ok dictionary) at within = rw add-one (more_items dictionary.pairs at within)
items_more (Err error) at within = absurd (omega arith)
