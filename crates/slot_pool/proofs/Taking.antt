-- One value less.
use Rattle.std.proofs.Common.{◌≡◌, ◌≢◌, ℕ, zero, suc, ◌+◌, ◌*◌, ◌<◌, ◌≤◌, Bool, true, false, cond, List, [], ◌∷◌}
use Rattle.std.proofs.Common.{length, get_or, Contains, Option, Some, None, is_some, IfSome, filter, nat_lt, inl, inr}
use Rattle.std.proofs.Common.{refl, sym, ap, ◌∙◌, arith}
use Rattle.std.proofs.lemmas.Bool.{cases_eq, cases_lt, lt-ltb, le-ltb}
use Rattle.std.specs.List.{cons_option}
use Rattle.std.specs.Map.{remove_entry}
use Rattle.std.specs.Ordering.{is_eq, nat_cmp}
use Rattle.slab.specs.Slab.{Slab, get, slab_len, Updates}
use Rattle.slot_pool.specs.declared.key.SlotKey.{SlotKey}
use Rattle.slot_pool.specs.declared.slot.Slot.{Slot}
use Rattle.slot_pool.specs.Inside.{Rises, IsRising, IsListed, value_if, held, entries_of, tidied}
use Rattle.slot_pool.specs.Pool.{Pool, found_in, numbered, without}
use Rattle.slot_pool.proofs.Entries.{differ, alike, named}
use Rattle.slot_pool.proofs.Keys.{within, rises_filtered}
use Rattle.slot_pool.proofs.Putting.{other_number, that_number}
use Rattle.slot_pool.proofs.Seen.{alike_seen}

module _ {T : Type 0} where
  -- entries without the one of a number
  abbrev pub without_number : ℕ → List (ℕ × T) → List (ℕ × T)
  without_number number entries = remove_entry (λ other. is_eq (nat_cmp number other)) entries

  -- an entry of another number stays
  stays : (number other : ℕ) (entry : Option (ℕ × T)) (rest : List (ℕ × T)) → IfSome entry (λ e. e.0 ≡ other) → number ≢ other
      → without_number number (cons_option entry rest) ≡ cons_option entry (without_number number rest)
  stays number other None rest named apart = refl
  stays number other (Some entry) rest named apart = rw (differ number entry.0 (λ same. apart (same ∙ named))) refl

  -- where the number isn't found nothing goes
  pub none_goes : (number : ℕ) (entries : List (ℕ × T)) → found_in number entries ≡ None → without_number number entries ≡ entries
  none_goes number [] none = refl
  none_goes number (entry ∷ entries) none = by (is_eq (nat_cmp number entry.0)) none (none_goes number entries)
    where
      by : (b : Bool) → cond b (Some entry.1) (found_in number entries) ≡ None
          → (found_in number entries ≡ None → without_number number entries ≡ entries)
          → cond b entries (entry ∷ without_number number entries) ≡ entry ∷ entries
      by true none rest = absurd (cc)
      by false none rest = ap (λ rest. entry ∷ rest) (rest none)

  -- where it is found one goes
  pub one_goes : (number : ℕ) (entries : List (ℕ × T)) (value : T) → found_in number entries ≡ Some value
      → length (without_number number entries) + 1 ≡ length entries
  one_goes number [] value found = absurd (cc)
  one_goes number (entry ∷ entries) value found = by (is_eq (nat_cmp number entry.0)) found (one_goes number entries value)
    where
      by : (b : Bool) → cond b (Some entry.1) (found_in number entries) ≡ Some value
          → (found_in number entries ≡ Some value → length (without_number number entries) + 1 ≡ length entries)
          → length (cond b entries (entry ∷ without_number number entries)) + 1 ≡ length (entry ∷ entries)
      by true found rest = omega arith
      by false found rest = let less = rest found in omega (arith, less)

  module _ (old new : Slab (Slot T)) (at : ℕ) (slot : Slot T) (was : get old at ≡ Some slot)
      (updates : Updates old new at None) where
    -- a key of another number leads where it led
    still : (key : SlotKey) → slot.number ≢ key.number → held new key ≡ held old key
    still key apart = elim (cases_eq key.slot at) [
      | inl here ↦ ap (λ n. value_if key.number (get new n)) here
          ∙ ap (value_if key.number) updates.changed
          ∙ sym (ap (λ n. value_if key.number (get old n)) here ∙ ap (value_if key.number) was
          ∙ other_number key.number slot apart)
      | inr other ↦ ap (value_if key.number) (updates.others key.slot other)
    ]

    -- keys of greater numbers lead to the entries that they led to
    kept : (keys : List SlotKey) (low high : ℕ) → Rises low keys high → slot.number < low
        → entries_of new keys ≡ entries_of old keys
    kept [] low high rises above = refl
    kept (key ∷ keys) low high rises above =
        let here = still key (λ same. absurd (omega (arith, rises.0, above, same))) in
        let rest = kept keys (key.number + 1) high rises.1 (omega (arith, rises.0, above)) in
        rw (here, rest) refl

    -- the entry of the value goes
    gone : (keys : List SlotKey) (low high : ℕ) → Rises low keys high → (k : ℕ) → k < length keys
        → get_or keys k (record { number = slot.number; slot = at }) ≡ record { number = slot.number; slot = at }
        → entries_of new keys ≡ without_number slot.number (entries_of old keys)
    gone [] low high rises k inside is = absurd (omega (arith, inside))
    gone (first ∷ keys) low high rises zero inside is =
        let number : first.number ≡ slot.number = ap (λ (key : SlotKey). key.number) is in
        let place : first.slot ≡ at = ap (λ (key : SlotKey). key.slot) is in
        let led : held old first ≡ Some (slot.number, slot.value) = rw (number, place, was) (that_number slot) in
        let left : held new first ≡ None = rw (place, updates.changed) refl in
        let rest = kept keys (first.number + 1) high rises.1 (omega (arith, number)) in
        rw (led, left, rest, alike slot.number) refl
    gone (first ∷ keys) low high rises (suc k) inside is =
        let later = within keys (first.number + 1) high k (record { number = slot.number; slot = at }) rises.1
        (omega (arith, inside)) in
        let number = ap (λ (key : SlotKey). key.number) is in
        let apart : slot.number ≢ first.number = λ same. absurd (omega (arith, later.0, number, same)) in
        rw (still first apart, gone keys (first.number + 1) high rises.1 k (omega (arith, inside)) is)
        (sym (stays slot.number first.number (held old first) (entries_of old keys)
        (named first.number (get old first.slot)) apart))

    pub entries_taken : (keys : List SlotKey) (next : ℕ) → IsRising keys next → IsListed old keys
        → entries_of new keys ≡ without_number slot.number (entries_of old keys)
    entries_taken keys next rising listed =
        let there = listed.listed at slot was in
        gone keys 0 next rising.rises there.0 there.1 there.2

    -- there are as many entries as values still
    pub counted_taken : (keys : List SlotKey) (next : ℕ) → IsRising keys next → IsListed old keys
        → found_in slot.number (entries_of old keys) ≡ Some slot.value → length (entries_of old keys) ≡ slab_len old
        → slab_len new + 1 ≡ slab_len old → length (entries_of new keys) ≡ slab_len new
    counted_taken keys next rising listed found counted less =
        let fewer = one_goes slot.number (entries_of old keys) slot.value found in
        let same = ap length (entries_taken keys next rising listed) in
        omega (arith, fewer, same, counted, less)

    -- each value has its key still
    pub listed_taken : (keys : List SlotKey) → IsListed old keys → IsListed new keys
    listed_taken keys listed = record {
      listed = λ n found is. elim (cases_eq n at) [
        | inl here ↦ absurd (cc (is, ap (get new) here, updates.changed))
        | inr other ↦ listed.listed n found (sym (updates.others n other) ∙ is)
      ];
    }

  module _ (slots : Slab (Slot T)) where
    -- whether a key leads to a value
    abbrev leads_on : SlotKey → Bool
    leads_on key = is_some (held slots key)

    -- keys that lead nowhere have no entries
    pub entries_swept : (keys : List SlotKey)
        → entries_of slots (filter (λ key. is_some (held slots key)) keys) ≡ entries_of slots keys
    entries_swept [] = refl
    entries_swept (key ∷ keys) = by (held slots key) refl (entries_swept keys)
      where
        by : (entry : Option (ℕ × T)) → held slots key ≡ entry
            → entries_of slots (filter (λ key. is_some (held slots key)) keys) ≡ entries_of slots keys
            → entries_of slots (cond (is_some entry) (key ∷ filter (λ key. is_some (held slots key)) keys)
            (filter (λ key. is_some (held slots key)) keys))
            ≡ cons_option entry (entries_of slots keys)
        by None is rest = rest
        by (Some entry) is rest = rw (is, rest) refl

    -- there are as many keys left as entries
    pub length_swept : (keys : List SlotKey)
        → length (filter (λ key. is_some (held slots key)) keys) ≡ length (entries_of slots keys)
    length_swept [] = refl
    length_swept (key ∷ keys) = by (held slots key) (length_swept keys)
      where
        by : (entry : Option (ℕ × T)) → length (filter (λ key. is_some (held slots key)) keys) ≡ length (entries_of slots keys)
            → length (cond (is_some entry) (key ∷ filter (λ key. is_some (held slots key)) keys)
            (filter (λ key. is_some (held slots key)) keys))
            ≡ length (cons_option entry (entries_of slots keys))
        by None rest = rest
        by (Some entry) rest = omega (arith, rest)

    -- a key that leads to a value stays
    stays_swept : (keys : List SlotKey) (key : SlotKey) → is_some (held slots key) ≡ true → Contains keys key
        → Contains (filter (λ key. is_some (held slots key)) keys) key
    stays_swept keys key led there = at keys there.0 there.1 there.2
      where
        more : (first : SlotKey) (rest : List SlotKey) (b : Bool) → Contains rest key → Contains (cond b (first ∷ rest) rest) key
        more first rest true there = (suc there.0, omega (arith, there.1), there.2)
        more first rest false there = there

        at : (keys : List SlotKey) (k : ℕ) → k < length keys → get_or keys k key ≡ key
            → Contains (filter (λ key. is_some (held slots key)) keys) key
        at [] k inside is = absurd (omega (arith, inside))
        at (first ∷ keys) zero inside is = rw (is, led) (0, omega arith, refl)
        at (first ∷ keys) (suc k) inside is = more first _ (is_some (held slots first)) (at keys k (omega (arith, inside)) is)

    -- each value has its key still
    pub listed_swept : (keys : List SlotKey) → IsListed slots keys
        → IsListed slots (filter (λ key. is_some (held slots key)) keys)
    listed_swept keys listed = record {
      listed = λ n found is.
          let led : held slots (record { number = found.number; slot = n })
          ≡ Some (found.number, found.value) = rw is (that_number found) in
          stays_swept keys _ (ap is_some led) (listed.listed n found is);
    }

    -- the entries of what is kept of keys
    pub entries_tidied : (keys : List SlotKey) → entries_of slots (tidied slots keys) ≡ entries_of slots keys
    entries_tidied keys = elim (nat_lt (2 * slab_len slots) (length keys))
        as (λ b. entries_of slots (cond b (filter (λ key. is_some (held slots key)) keys) keys) ≡ entries_of slots keys) [
          | true ↦ entries_swept keys
          | false ↦ refl
        ]

    -- each value has its key still
    pub listed_tidied : (keys : List SlotKey) → IsListed slots keys → IsListed slots (tidied slots keys)
    listed_tidied keys listed = elim (nat_lt (2 * slab_len slots) (length keys))
        as (λ b. IsListed slots (cond b (filter (λ key. is_some (held slots key)) keys) keys)) [
          | true ↦ listed_swept keys listed
          | false ↦ listed
        ]

    -- the numbers rise still
    pub rising_tidied : (keys : List SlotKey) (next : ℕ) → IsRising keys next → IsRising (tidied slots keys) next
    rising_tidied keys next rising = elim (nat_lt (2 * slab_len slots) (length keys))
        as (λ b. IsRising (cond b (filter (λ key. is_some (held slots key)) keys) keys) next) [
          | true ↦ record { rises = rises_filtered (λ key. is_some (held slots key)) keys 0 next rising.rises }
          | false ↦ rising
        ]

    -- at most half of the keys are of values that went
    pub few_tidied : (keys : List SlotKey) → length (entries_of slots keys) ≡ slab_len slots
        → length (tidied slots keys) ≤ 2 * slab_len slots
    few_tidied keys counted = elim (cases_lt (2 * slab_len slots) (length keys)) [
      | inl more ↦ rw (lt-ltb (2 * slab_len slots) (length keys) more) (omega (arith, length_swept keys, counted))
      | inr few ↦ rw (le-ltb (2 * slab_len slots) (length keys) few) few
    ]

-- one pool is another without a value that it has
pub left_one : {T : Type 0} (old new : Pool T) (number : ℕ) (value : T) → numbered number old ≡ Some value
    → new.entries ≡ without_number number old.entries → new.free ≡ old.free + 1 → new.most ≡ old.most → new.next ≡ old.next
    → new ≡ without number old
left_one old new number value found entries free most next =
    alike_seen new (without number old) entries (rw found free) most next

-- a pool without a value that it hasn't is as it was
pub left_none : {T : Type 0} (p : Pool T) (number : ℕ) → numbered number p ≡ None → p ≡ without number p
left_none p number none = alike_seen p (without number p) (sym (none_goes number p.entries none)) (rw none refl) refl refl
