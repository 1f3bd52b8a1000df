-- One value more.
use Rattle.std.proofs.Common.{◌≡◌, ◌≢◌, ℕ, ◌+◌, ◌*◌, ◌<◌, ◌≤◌, List, [], ◌∷◌, ◌++◌, length, length-append, Some, None}
use Rattle.std.proofs.Common.{inl, inr, refl, sym, ap, ◌∙◌, arith}
use Rattle.std.proofs.lemmas.Bool.{cases_eq}
use Rattle.std.proofs.lemmas.List.Elements.{filter_map-append, Contains-append_left, Contains-push}
use Rattle.slab.specs.Slab.{Slab, get, slab_len, Updates}
use Rattle.slot_pool.specs.declared.key.SlotKey.{SlotKey}
use Rattle.slot_pool.specs.declared.slot.Slot.{Slot}
use Rattle.slot_pool.specs.Inside.{Rises, IsRising, IsListed, value_if, held, entries_of}
use Rattle.slot_pool.proofs.Keys.{rises_more, bounds}

module _ {T : Type 0} where
  -- a slot of another number holds nothing for a number
  pub other_number : (number : ℕ) (slot : Slot T) → slot.number ≢ number → value_if number (Some slot) ≡ None
  other_number number slot apart = elim (cases_eq slot.number number) [
    | inl same ↦ absurd (apart same)
    | inr other ↦ grind (arith)
  ]

  -- a slot of the number holds its value
  pub that_number : (slot : Slot T) → value_if slot.number (Some slot) ≡ Some (slot.number, slot.value)
  that_number slot = grind (arith)

  module _ (old new : Slab (Slot T)) (at : ℕ) (slot : Slot T) (was : get old at ≡ None)
      (updates : Updates old new at (Some slot)) where
    -- a key of a lower number leads where it led
    still : (key : SlotKey) → key.number < slot.number → held new key ≡ held old key
    still key below = elim (cases_eq key.slot at) [
      | inl here ↦ ap (λ n. value_if key.number (get new n)) here
          ∙ ap (value_if key.number) updates.changed
          ∙ other_number key.number slot (λ same. absurd (omega (arith, below, same)))
          ∙ sym (ap (λ n. value_if key.number (get old n)) here ∙ ap (value_if key.number) was)
      | inr other ↦ ap (value_if key.number) (updates.others key.slot other)
    ]

    -- keys of lower numbers lead to the entries that they led to
    kept : (keys : List SlotKey) (low : ℕ) → Rises low keys slot.number → entries_of new keys ≡ entries_of old keys
    kept [] low rises = refl
    kept (key ∷ keys) low rises =
        let later = bounds keys (key.number + 1) slot.number rises.1 in
        let here = still key (omega (arith, later)) in
        let rest = kept keys (key.number + 1) rises.1 in
        rw (here, rest) refl

    -- there is one entry more
    pub entries_put : (keys : List SlotKey) (key : SlotKey) → IsRising keys slot.number → key.number ≡ slot.number → key.slot ≡ at
        → entries_of new (keys ++ key ∷ []) ≡ entries_of old keys ++ (slot.number, slot.value) ∷ []
    entries_put keys key rising number place =
        let led : held new key ≡ Some (slot.number, slot.value) =
        rw (number, place, updates.changed) (that_number slot) in
        filter_map-append (held new) keys (key ∷ []) ∙ rw (kept keys 0 rising.rises, led) refl

    -- there are as many entries as values
    pub counted_put : (keys : List SlotKey) (key : SlotKey) → IsRising keys slot.number → key.number ≡ slot.number → key.slot ≡ at
        → length (entries_of old keys) ≡ slab_len old → slab_len new ≡ slab_len old + 1
        → length (entries_of new (keys ++ key ∷ [])) ≡ slab_len new
    counted_put keys key rising number place counted more =
        let one = ap length (entries_put keys key rising number place) in
        omega (arith, one, length-append (entries_of old keys) ((slot.number, slot.value) ∷ []), counted, more)

    -- each value has its key
    pub listed_put : (keys : List SlotKey) (key : SlotKey) → IsListed old keys → key.number ≡ slot.number → key.slot ≡ at
        → IsListed new (keys ++ key ∷ [])
    listed_put keys key listed number place = record {
      listed = λ n found is. elim (cases_eq n at) [
        | inl here ↦
            let one : Some found ≡ Some slot = sym is ∙ ap (get new) here ∙ updates.changed in
            let same : key ≡ record { number = found.number; slot = n } = grind (arith) in
            rw (← same) (Contains-push keys key)
        | inr other ↦ Contains-append_left keys (key ∷ []) _ (listed.listed n found (sym (updates.others n other) ∙ is))
      ];
    }

-- there is one key more, for one value more
pub keys_put : (keys : List SlotKey) (key : SlotKey) (old new : ℕ) → length keys ≤ 2 * old → new ≡ old + 1
    → length (keys ++ key ∷ []) ≤ 2 * new
keys_put keys key old new few more = omega (arith, length-append keys (key ∷ []), few, more)

-- the numbers rise still
pub rising_put : (keys : List SlotKey) (next : ℕ) (key : SlotKey) → IsRising keys next → key.number ≡ next
    → IsRising (keys ++ key ∷ []) (next + 1)
rising_put keys next key rising number = record { rises = rises_more keys 0 next key rising.rises number }
