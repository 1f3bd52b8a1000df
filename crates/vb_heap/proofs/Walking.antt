-- Things in a pool that are looked at by their keys.
use Rattle.std.proofs.Common.{◌≡◌, ℕ, ◌+◌, ◌<◌, ◌++◌, ◌∷◌, [], List, Some, None, length, take, get_or, sum_by, filter_map}
use Rattle.std.proofs.Common.{refl, ap, ◌∙◌, arith, append-nil}
use Rattle.std.proofs.lemmas.List.{take_more}
use Rattle.std.proofs.lemmas.List.Elements.{filter_map-append}
use Rattle.std.proofs.lemmas.List.Sums.{sum_by-append}
use Rattle.std.specs.List.{flat_map}
use Rattle.std.specs.Map.{values_of}
use Rattle.slot_pool.specs.declared.key.SlotKey.{SlotKey}
use Rattle.slot_pool.specs.Pool.{Pool, led_to, numbered}
use Rattle.vb_heap.specs.Counts.{count_of}
use Rattle.vb_heap.proofs.Numbered.{values_both}
use Rattle.vb_heap.proofs.ValueReferences.{counted_next}

module _ {T : Type 0} (pool : Pool T) (keys : List SlotKey) (at : ℕ) (default : SlotKey) (within : at < length keys) where
  -- the key at that place
  abbrev key : SlotKey
  key = get_or keys at default

  -- one key more
  pub one_more : filter_map (led_to pool) (take (at + 1) keys)
      ≡ filter_map (led_to pool) (take at keys) ++ filter_map (led_to pool) (key ∷ [])
  one_more =
      ap (filter_map (led_to pool)) (take_more keys at default within)
      ∙ filter_map-append (led_to pool) (take at keys) (key ∷ [])

  -- a key that leads to a thing
  pub led : (value : T) → numbered key.number pool ≡ Some value
      → values_of (filter_map (led_to pool) (take (at + 1) keys))
      ≡ values_of (filter_map (led_to pool) (take at keys)) ++ value ∷ []
  led value there =
      let last : filter_map (led_to pool) (key ∷ []) ≡ (key.number, value) ∷ [] = rw there refl in
      rw (one_more, last) (values_both (filter_map (led_to pool) (take at keys)) ((key.number, value) ∷ []))

  -- a key that leads nowhere
  pub not_led : numbered key.number pool ≡ None
      → values_of (filter_map (led_to pool) (take (at + 1) keys)) ≡ values_of (filter_map (led_to pool) (take at keys))
  not_led there =
      let last : filter_map (led_to pool) (key ∷ []) ≡ [] = rw there refl in
      rw (one_more, last) (ap values_of (append-nil (filter_map (led_to pool) (take at keys))))

  -- how many references there are with those of that thing
  pub led_count : (references : T → List ℕ) (object : ℕ) (value : T) → numbered key.number pool ≡ Some value
      → count_of object (flat_map references (values_of (filter_map (led_to pool) (take (at + 1) keys))))
      ≡ count_of object (flat_map references (values_of (filter_map (led_to pool) (take at keys))))
      + count_of object (references value)
  led_count references object value there =
      rw (led value there)
      (counted_next references object (values_of (filter_map (led_to pool) (take at keys))) value)

  -- what the things weigh with that one
  pub led_weight : (weight : T → ℕ) (value : T) → numbered key.number pool ≡ Some value
      → sum_by weight (values_of (filter_map (led_to pool) (take (at + 1) keys)))
      ≡ sum_by weight (values_of (filter_map (led_to pool) (take at keys))) + weight value
  led_weight weight value there =
      let values = values_of (filter_map (led_to pool) (take at keys)) in
      rw (led value there) (sum_by-append weight values (value ∷ []) ∙ omega arith)
