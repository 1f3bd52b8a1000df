-- Another value in a slot.
use Rattle.std.proofs.Common.{◌≡◌, ◌≢◌, ℕ, zero, suc, ◌+◌, ◌-◌, ◌<◌, cond, List, [], ◌∷◌, length, get_or, Option}
use Rattle.std.proofs.Common.{Some, None, is_some, IfSome, inl, inr, refl, sym, ap, ◌∙◌, arith}
use Rattle.std.proofs.lemmas.Bool.{cases_eq}
use Rattle.std.proofs.lemmas.List.Sums.{sum_by-set}
use Rattle.std.proofs.lemmas.Map.{length-set_value}
use Rattle.std.specs.List.{cons_option}
use Rattle.std.specs.Map.{set_value}
use Rattle.std.specs.Ordering.{is_eq, nat_cmp}
use Rattle.slab.specs.Slab.{Slab, get, slab_len, Updates, with_value as with_slot}
use Rattle.slab.proofs.SlabLemmas.{Updates-with_value, ContainsKey-within}
use Rattle.slot_pool.specs.declared.key.SlotKey.{SlotKey}
use Rattle.slot_pool.specs.declared.slot.Slot.{Slot}
use Rattle.slot_pool.specs.Inside.{Rises, IsRising, IsListed, value_if, held, entries_of}
use Rattle.slot_pool.proofs.Entries.{differ, alike, named}
use Rattle.slot_pool.proofs.Keys.{within}
use Rattle.slot_pool.specs.Pool.{Pool, with_value}
use Rattle.slot_pool.proofs.Putting.{other_number, that_number}
use Rattle.slot_pool.proofs.Seen.{alike_seen}

module _ {T : Type 0} where
  abbrev the_pool : List (ℕ × T) → ℕ → ℕ → ℕ → Pool T
  the_pool entries free most next = record { entries = entries; free = free; most = most; next = next }

  -- entries with another value under a number
  abbrev pub with_number : ℕ → T → List (ℕ × T) → List (ℕ × T)
  with_number number value entries = set_value (λ other. is_eq (nat_cmp number other)) entries value

  -- an entry of another number stays
  stays : (number other : ℕ) (value : T) (entry : Option (ℕ × T)) (rest : List (ℕ × T)) → IfSome entry (λ e. e.0 ≡ other)
      → number ≢ other → with_number number value (cons_option entry rest) ≡ cons_option entry (with_number number value rest)
  stays number other value None rest named apart = refl
  stays number other value (Some entry) rest named apart = rw (differ number entry.0 (λ same. apart (same ∙ named))) refl

  module _ (old : Slab (Slot T)) (at : ℕ) (slot : Slot T) (was : get old at ≡ Some slot) (value : T) where
    -- the slab with that value in the slot
    abbrev pub written : Slab (Slot T)
    written = with_slot old at (record { number = slot.number; value = value })

    updates : Updates old written at (Some (record { number = slot.number; value = value }))
    updates = Updates-with_value old at (record { number = slot.number; value = value }) (ap is_some was)

    -- there are as many values
    pub length_written : slab_len written ≡ slab_len old
    length_written =
        let inside = ContainsKey-within old at (ap is_some was) in
        let sums = sum_by-set (λ (o : Option (Slot T)). cond (is_some o) 1 0) old.slots at
        (Some (record { number = slot.number; value = value })) None inside in
        let one : cond {A = ℕ} (is_some (get old at)) 1 0 ≡ 1 = rw was refl in
        omega (arith, sums, one)

    -- a key of another number leads where it led
    still : (key : SlotKey) → slot.number ≢ key.number → held written key ≡ held old key
    still key apart = elim (cases_eq key.slot at) [
      | inl here ↦ ap (λ n. value_if key.number (get written n)) here
          ∙ ap (value_if key.number) updates.changed
          ∙ other_number key.number (record { number = slot.number; value = value }) apart
          ∙ sym (ap (λ n. value_if key.number (get old n)) here ∙ ap (value_if key.number) was
          ∙ other_number key.number slot apart)
      | inr other ↦ ap (value_if key.number) (updates.others key.slot other)
    ]

    -- keys of greater numbers lead to the entries that they led to
    kept : (keys : List SlotKey) (low high : ℕ) → Rises low keys high → slot.number < low
        → entries_of written keys ≡ entries_of old keys
    kept [] low high rises above = refl
    kept (key ∷ keys) low high rises above =
        let here = still key (λ same. absurd (omega (arith, rises.0, above, same))) in
        let rest = kept keys (key.number + 1) high rises.1 (omega (arith, rises.0, above)) in
        rw (here, rest) refl

    changed : (keys : List SlotKey) (low high : ℕ) → Rises low keys high → (k : ℕ) → k < length keys
        → get_or keys k (record { number = slot.number; slot = at }) ≡ record { number = slot.number; slot = at }
        → entries_of written keys ≡ with_number slot.number value (entries_of old keys)
    changed [] low high rises k inside is = absurd (omega (arith, inside))
    changed (first ∷ keys) low high rises zero inside is =
        let number : first.number ≡ slot.number = ap (λ (key : SlotKey). key.number) is in
        let place : first.slot ≡ at = ap (λ (key : SlotKey). key.slot) is in
        let led : held old first ≡ Some (slot.number, slot.value) = rw (number, place, was) (that_number slot) in
        let now : held written first ≡ Some (slot.number, value) =
        rw (number, place, updates.changed) (that_number (record { number = slot.number; value = value })) in
        let rest = kept keys (first.number + 1) high rises.1 (omega (arith, number)) in
        rw (led, now, rest, alike slot.number) refl
    changed (first ∷ keys) low high rises (suc k) inside is =
        let later = within keys (first.number + 1) high k (record { number = slot.number; slot = at }) rises.1
        (omega (arith, inside)) in
        let number = ap (λ (key : SlotKey). key.number) is in
        let apart : slot.number ≢ first.number = λ same. absurd (omega (arith, later.0, number, same)) in
        rw (still first apart, changed keys (first.number + 1) high rises.1 k (omega (arith, inside)) is)
        (sym (stays slot.number first.number value (held old first) (entries_of old keys)
        (named first.number (get old first.slot)) apart))

    -- the entry of the number has that value
    pub entries_written : (keys : List SlotKey) (next : ℕ) → IsRising keys next → IsListed old keys
        → entries_of written keys ≡ with_number slot.number value (entries_of old keys)
    entries_written keys next rising listed =
        let there = listed.listed at slot was in
        changed keys 0 next rising.rises there.0 there.1 there.2

    -- there are as many entries as values
    pub counted_written : (keys : List SlotKey) (next : ℕ) → IsRising keys next → IsListed old keys
        → length (entries_of old keys) ≡ slab_len old → length (entries_of written keys) ≡ slab_len written
    counted_written keys next rising listed counted =
        let same = ap length (entries_written keys next rising listed) in
        let many = length-set_value (λ other. is_eq (nat_cmp slot.number other)) (entries_of old keys) value in
        omega (arith, same, many, counted, length_written)

    -- each value has its key
    pub listed_written : (keys : List SlotKey) → IsListed old keys → IsListed written keys
    listed_written keys listed = record {
      listed = λ n found is. elim (cases_eq n at) [
        | inl here ↦
            let one : Some found ≡ Some (record { number = slot.number; value = value }) = sym is
            ∙ ap (get written) here ∙ updates.changed in
            let number : found.number ≡ slot.number = grind (arith) in
            let there = listed.listed at slot was in
            rw (number, here) there
        | inr other ↦ listed.listed n found (sym (updates.others n other) ∙ is)
      ];
    }

    -- contracts see the pool with that value under the number
    pub seen_written : (keys : List SlotKey) (next made most number : ℕ) → IsRising keys next → IsListed old keys
        → slot.number ≡ number
        → the_pool (entries_of written keys) (made - slab_len written) most next
        ≡ with_value number (the_pool (entries_of old keys) (made - slab_len old) most next) value
    seen_written keys next made most number rising listed is =
        rw (← is) (alike_seen _ _ (entries_written keys next rising listed) (ap (λ n. made - n) length_written) refl refl)
