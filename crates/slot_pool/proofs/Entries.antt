-- The values to which keys lead.
use Rattle.std.proofs.Common.{◌≡◌, ◌≢◌, ℕ, zero, suc, ◌+◌, ◌<◌, ◌≤◌, ◌==◌, Bool, true, false, cond, List, [], ◌∷◌}
use Rattle.std.proofs.Common.{length, get_or, All, Contains, filter_map, Option, Some, None, is_some, IsSome, IfSome, inl, inr}
use Rattle.std.proofs.Common.{refl, sym, ap, ◌∙◌, arith}
use Rattle.std.proofs.lemmas.Bool.{cases_eq}
use Rattle.std.proofs.lemmas.List.Elements.{All-head, All-tail}
use Rattle.std.specs.List.{cons_option}
use Rattle.std.specs.Option.{option_map}
use Rattle.std.specs.Ordering.{is_eq, nat_cmp}
use Rattle.slab.specs.Slab.{Slab, get}
use Rattle.slot_pool.specs.declared.key.SlotKey.{SlotKey}
use Rattle.slot_pool.specs.declared.slot.Slot.{Slot}
use Rattle.slot_pool.specs.Inside.{Rises, IsRising, IsListed, value_if, held, entries_of}
use Rattle.slot_pool.specs.Pool.{NumbersRise, found_in}
use Rattle.slot_pool.proofs.Keys.{within}

-- two numbers that differ don't compare as equal
pub differ : (a b : ℕ) → a ≢ b → is_eq (nat_cmp a b) ≡ false
differ a b other = grind (arith)

-- a number is itself
pub alike : (a : ℕ) → is_eq (nat_cmp a a) ≡ true
alike a = grind (arith)

module _ {T : Type 0} where
  -- what stands in a slot, taken for a number, has that number
  pub named : (number : ℕ) (slot : Option (Slot T)) → IfSome (value_if number slot) (λ e. e.0 ≡ number)
  named number None = tt
  named number (Some slot) = by (slot.number == number)
    where
      by : (b : Bool) → IfSome {T = ℕ × T} (cond b (Some (number, slot.value)) None) (λ e. e.0 ≡ number)
      by true = refl
      by false = tt

  -- an entry of another number is passed over
  skips : (number other : ℕ) (entry : Option (ℕ × T)) (rest : List (ℕ × T)) → IfSome entry (λ e. e.0 ≡ other) → number ≢ other
      → found_in number (cons_option entry rest) ≡ found_in number rest
  skips number other None rest named apart = refl
  skips number other (Some entry) rest named apart = rw (differ number entry.0 (λ same. apart (same ∙ named))) refl

  -- an entry of the number is found
  hits : (number : ℕ) (entry : Option (ℕ × T)) (rest : List (ℕ × T)) → IfSome entry (λ e. e.0 ≡ number)
      → found_in number rest ≡ None → found_in number (cons_option entry rest) ≡ option_map (λ e. e.1) entry
  hits number None rest named none = none
  hits number (Some entry) rest named none = rw (named, alike number) refl

  module _ (slots : Slab (Slot T)) where
    -- no key has the number, so no value is found
    pub lacks : (keys : List SlotKey) (number : ℕ) → All (λ (key : SlotKey). key.number ≢ number) keys
        → found_in number (entries_of slots keys) ≡ None
    lacks [] number none = refl
    lacks (key ∷ keys) number none =
        let first = All-head (λ (key : SlotKey). key.number ≢ number) key keys none in
        let rest = All-tail (λ (key : SlotKey). key.number ≢ number) key keys none in
        skips number key.number (held slots key) (entries_of slots keys) (named key.number (get slots key.slot))
        (λ same. first (sym same))
        ∙ lacks keys number rest

    -- what is found by the number of a key in the list is what it leads to
    pub leads : (keys : List SlotKey) (low high : ℕ) (key : SlotKey) → Rises low keys high → Contains keys key
        → found_in key.number (entries_of slots keys) ≡ option_map (λ e. e.1) (held slots key)
    leads keys low high key rises there = at keys low rises there.0 there.1 there.2
      where
        at : (keys : List SlotKey) (low : ℕ) → Rises low keys high → (k : ℕ) → k < length keys → get_or keys k key ≡ key
            → found_in key.number (entries_of slots keys) ≡ option_map (λ e. e.1) (held slots key)
        at [] low rises k inside is = absurd (omega (arith, inside))
        at (first ∷ keys) low rises zero inside is =
            rw (← is) (hits first.number (held slots first) (entries_of slots keys) (named first.number (get slots first.slot))
            (lacks keys first.number (λ k d within' same. let later = within keys (first.number + 1) high k d rises.1
            within' in absurd (omega (arith, later.0, same)))))
        at (first ∷ keys) low rises (suc k) inside is =
            let later = within keys (first.number + 1) high k key rises.1 (omega (arith, inside)) in
            let number = ap (λ (k : SlotKey). k.number) is in
            skips key.number first.number (held slots first) (entries_of slots keys) (named first.number (get slots first.slot))
            (λ same. absurd (omega (arith, later.0, number, same)))
            ∙ at keys (first.number + 1) rises.1 k (omega (arith, inside)) is

    -- what a key leads to is the value in its slot
    in_slot : (number : ℕ) (slot : Option (Slot T)) → is_some (value_if number slot) ≡ true
        → option_map (λ e. e.1) (value_if number slot) ≡ option_map (λ (slot : Slot T). slot.value) slot
    in_slot number None is = absurd (cc)
    in_slot number (Some slot) is = by (slot.number == number) is
      where
        by : (b : Bool) → is_some {T = ℕ × T} (cond b (Some (number, slot.value)) None) ≡ true
            → option_map (λ (e : ℕ × T). e.1) (cond b (Some (number, slot.value)) None) ≡ Some slot.value
        by true is = refl
        by false is = absurd (cc)

    -- a slot that holds the value of a number
    holding : (number : ℕ) (slot : Option (Slot T)) → is_some (value_if number slot) ≡ true
        → (found : Slot T) × (slot ≡ Some found) × (found.number ≡ number)
    holding number None is = absurd (cc)
    holding number (Some slot) is = elim (cases_eq slot.number number) [
      | inl same ↦ (slot, refl, same)
      | inr other ↦ absurd (grind (arith))
    ]

    -- a key that leads to a value finds it, whether it is in the list or not
    pub found_there : (keys : List SlotKey) (next : ℕ) (key : SlotKey) → IsRising keys next → IsListed slots keys
        → is_some (held slots key) ≡ true
        → found_in key.number (entries_of slots keys) ≡ option_map (λ (slot : Slot T). slot.value) (get slots key.slot)
    found_there keys next key rising listed is =
        let found = holding key.number (get slots key.slot) is in
        let there = listed.listed key.slot found.0 found.1 in
        leads keys 0 next key rising.rises (rw found.2 at there) ∙ in_slot key.number (get slots key.slot) is

    -- a key of the list that leads to nothing finds nothing
    pub missed : (keys : List SlotKey) (next : ℕ) (key : SlotKey) → IsRising keys next → Contains keys key
        → is_some (held slots key) ≡ false → found_in key.number (entries_of slots keys) ≡ None
    missed keys next key rising there not = leads keys 0 next key rising.rises there ∙ nothing (held slots key) not
      where
        nothing : (entry : Option (ℕ × T)) → is_some entry ≡ false → option_map (λ (e : ℕ × T). e.1) entry ≡ None
        nothing None not = refl
        nothing (Some entry) not = absurd (cc)

    -- a key of the list that leads to a value finds one
    pub found_held : (keys : List SlotKey) (next : ℕ) (key : SlotKey) → IsRising keys next → Contains keys key
        → is_some (held slots key) ≡ true → IsSome (found_in key.number (entries_of slots keys))
    found_held keys next key rising there is = rw (leads keys 0 next key rising.rises there) (something (held slots key) is)
      where
        something : (entry : Option (ℕ × T)) → is_some entry ≡ true → IsSome (option_map (λ (e : ℕ × T). e.1) entry)
        something None is = absurd (cc)
        something (Some entry) is = refl

    -- the numbers of entries rise from a lower number too
    from_lower : (entries : List (ℕ × T)) (low high other : ℕ) → other ≤ low → NumbersRise low entries high
        → NumbersRise other entries high
    from_lower [] low high other less rises = omega (arith, less, rises)
    from_lower (entry ∷ entries) low high other less rises = (omega (arith, less, rises.0), rises.1)

    -- the numbers of the entries rise as those of the keys
    pub entries_rise : (keys : List SlotKey) (low high : ℕ) → Rises low keys high → NumbersRise low (entries_of slots keys) high
    entries_rise [] low high rises = rises
    entries_rise (key ∷ keys) low high rises =
        by (held slots key) (named key.number (get slots key.slot)) (entries_rise keys (key.number + 1) high rises.1)
      where
        by : (entry : Option (ℕ × T)) → IfSome entry (λ e. e.0 ≡ key.number)
            → NumbersRise (key.number + 1) (entries_of slots keys) high
            → NumbersRise low (cons_option entry (entries_of slots keys)) high
        by None is later = from_lower (entries_of slots keys) (key.number + 1) high low (omega (arith, rises.0)) later
        by (Some entry) is later = (omega (arith, rises.0, is), rw is later)

    -- an entry by its number
    by_number : (number : ℕ) (entry : Option (ℕ × T)) → IfSome entry (λ e. e.0 ≡ number)
        → option_map (λ value. (number, value)) (option_map (λ (e : ℕ × T). e.1) entry) ≡ entry
    by_number number None named = refl
    by_number number (Some entry) named = rw (← named) refl

    -- what the keys of a list find is what they lead to
    pub all_led : (keys : List SlotKey) (next : ℕ) → IsRising keys next
        → filter_map (λ (key : SlotKey). option_map (λ (value : T). (key.number, value))
        (found_in key.number (entries_of slots keys))) keys ≡ entries_of slots keys
    all_led keys next rising = some keys (λ key there. there)
      where
        some : (others : List SlotKey) → ((key : SlotKey) → Contains others key → Contains keys key)
            → filter_map (λ (key : SlotKey). option_map (λ (value : T). (key.number, value))
            (found_in key.number (entries_of slots keys))) others ≡ entries_of slots others
        some [] inside = refl
        some (key ∷ others) inside =
            let there = inside key (zero, omega arith, refl) in
            let one = leads keys 0 next key rising.rises there in
            let same = by_number key.number (held slots key) (named key.number (get slots key.slot)) in
            let rest = some others (λ other is. inside other (suc is.0, omega (arith, is.1), is.2)) in
            rw (one, same, rest) refl
