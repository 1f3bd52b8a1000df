-- Keys whose numbers rise.
use Rattle.std.proofs.Common.{◌≡◌, ◌≢◌, ℕ, zero, suc, ◌+◌, ◌<◌, ◌≤◌, List, [], ◌∷◌, ◌++◌, length, get_or, All, inl}
use Rattle.std.proofs.Common.{inr, ap, ◌∙◌, arith, filter, Bool, true, false, cond}
use Rattle.std.proofs.lemmas.Bool.{cases_lt}
use Rattle.std.proofs.lemmas.List.Sorted.{IsNonDecreasingBy-from_all_adjacent}
use Rattle.std.proofs.Math.Nat.{eq-or-lt_of_le}
use Rattle.std.specs.List.Sorted.{IsNonDecreasingBy}
use Rattle.slot_pool.specs.declared.key.SlotKey.{SlotKey}
use Rattle.slot_pool.specs.Inside.{Rises, IsRising}

-- the lowest number is no higher than the highest
pub bounds : (keys : List SlotKey) (low high : ℕ) → Rises low keys high → low ≤ high
bounds [] low high rises = rises
bounds (key ∷ keys) low high rises =
    let later = bounds keys (key.number + 1) high rises.1 in
    omega (arith, rises.0, later)

-- each number is within the two
pub within : (keys : List SlotKey) (low high k : ℕ) (d : SlotKey) → Rises low keys high → k < length keys
    → (low ≤ (get_or keys k d).number) × ((get_or keys k d).number < high)
within [] low high k d rises inside = absurd (omega (arith, inside))
within (key ∷ keys) low high zero d rises inside =
    let later = bounds keys (key.number + 1) high rises.1 in
    (rises.0, omega (arith, later))
within (key ∷ keys) low high (suc k) d rises inside =
    let later = within keys (key.number + 1) high k d rises.1 (omega (arith, inside)) in
    (omega (arith, rises.0, later.0), later.1)

-- a later key has a greater number
pub apart : (keys : List SlotKey) (low high i j : ℕ) (d : SlotKey) → Rises low keys high → i < j → j < length keys
    → (get_or keys i d).number < (get_or keys j d).number
apart [] low high i j d rises before inside = absurd (omega (arith, inside))
apart (key ∷ keys) low high i zero d rises before inside = absurd (omega (arith, before))
apart (key ∷ keys) low high zero (suc j) d rises before inside =
    let later = within keys (key.number + 1) high j d rises.1 (omega (arith, inside)) in
    omega (arith, later.0)
apart (key ∷ keys) low high (suc i) (suc j) d rises before inside =
    apart keys (key.number + 1) high i j d rises.1 (omega (arith, before)) (omega (arith, inside))

-- the numbers don't fall
pub non_decreasing : (keys : List SlotKey) (next : ℕ) → IsRising keys next
    → IsNonDecreasingBy (λ (key : SlotKey). key.number) keys
non_decreasing keys next rising = IsNonDecreasingBy-from_all_adjacent (λ (key : SlotKey). key.number) keys
    (λ k d inside. let step = apart keys 0 next k (k + 1) d rising.rises (omega arith) inside in omega (arith, step))

-- a number to come is no key's
pub lacks_next : (keys : List SlotKey) (next number : ℕ) → IsRising keys next → next ≤ number
    → All (λ (key : SlotKey). key.number ≢ number) keys
lacks_next keys next number rising above = λ k d inside same.
    let bound = within keys 0 next k d rising.rises inside in
    absurd (omega (arith, bound.1, same, above))

-- a number is no key's where the keys before a place are below it, and that at the place, if there is one, is another
pub lacks_at : (keys : List SlotKey) (next number place : ℕ) → IsRising keys next
    → ((k : ℕ) (d : SlotKey) → k < place → (get_or keys k d).number < number)
    → ((k : ℕ) (d : SlotKey) → place ≤ k → k < length keys → number ≤ (get_or keys k d).number)
    → ((d : SlotKey) → place < length keys → (get_or keys place d).number ≢ number)
    → All (λ (key : SlotKey). key.number ≢ number) keys
lacks_at keys next number place rising before behind other = λ k d inside same.
    elim (cases_lt k place) [
      | inl earlier ↦ let one = before k d earlier in absurd (omega (arith, one, same))
      | inr later ↦ elim (eq-or-lt_of_le later) [
        | inl here ↦ other d (omega (arith, here, inside)) (ap (λ n. (get_or keys n d).number) here ∙ same)
        | inr past ↦
            let one = behind place d (omega arith) (omega (arith, past, inside)) in
            let two = apart keys 0 next place k d rising.rises past inside in
            absurd (omega (arith, one, two, same))
      ]
    ]

-- one more key
pub rises_more : (keys : List SlotKey) (low high : ℕ) (key : SlotKey) → Rises low keys high → key.number ≡ high
    → Rises low (keys ++ key ∷ []) (high + 1)
rises_more [] low high key rises is = (omega (arith, rises, is), omega (arith, is))
rises_more (first ∷ keys) low high key rises is = (rises.0, rises_more keys (first.number + 1) high key rises.1 is)

-- a lower bound
lower : (keys : List SlotKey) (low high other : ℕ) → other ≤ low → Rises low keys high → Rises other keys high
lower [] low high other less rises = omega (arith, less, rises)
lower (key ∷ keys) low high other less rises = (omega (arith, less, rises.0), rises.1)

-- keys of which some are left out
pub rises_filtered : (test : SlotKey → Bool) (keys : List SlotKey) (low high : ℕ) → Rises low keys high
    → Rises low (filter test keys) high
rises_filtered test [] low high rises = rises
rises_filtered test (key ∷ keys) low high rises =
    elim (test key) as (λ b. Rises low (cond b (key ∷ filter test keys) (filter test keys)) high) [
      | true ↦ (rises.0, rises_filtered test keys (key.number + 1) high rises.1)
      | false ↦ lower (filter test keys) (key.number + 1) high low (omega (arith, rises.0))
          (rises_filtered test keys (key.number + 1) high rises.1)
    ]
