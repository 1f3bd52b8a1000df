-- How far characters of a kind go on from the front of a text, found place by place.
use Rattle.std.proofs.Common.{◌≡◌, ℕ, ◌+◌, ◌<◌, ◌≤◌, Bool, true, false, List, length, get_or, drop, refl, ◌∙◌, ap}
use Rattle.std.proofs.Common.{arith}
use Rattle.std.proofs.Common.{drop-cons, add-one}
use Rattle.std.specs.Prelude.{cond}
use Rattle.std.specs.List.{prefix_len}
use Rattle.std.proofs.lemmas.List.Sums.{prefix_len-drop_all}

-- the place at which the text is read
front_step : (p : ℕ → Bool) (xs : List ℕ) (at c : ℕ) → at < length xs → c ≡ get_or xs at c
    → prefix_len p (drop at xs) ≡ cond (p c) (1 + prefix_len p (drop (at + 1) xs)) 0
front_step p xs at c within is =
    ap (prefix_len p) (drop-cons xs at c within)
    ∙ rw (← is, add-one) refl

-- one character more
pub front_more : (p : ℕ → Bool) (xs : List ℕ) (at c count : ℕ) → at < length xs → c ≡ get_or xs at c → p c ≡ true
    → count ≡ at + prefix_len p (drop at xs) → count ≡ (at + 1) + prefix_len p (drop (at + 1) xs)
front_more p xs at c count within is passes before =
    let step = front_step p xs at c within is in
    let more : prefix_len p (drop at xs) ≡ 1 + prefix_len p (drop (at + 1) xs) =
    step ∙ ap (λ (b : Bool). cond b (1 + prefix_len p (drop (at + 1) xs)) 0) passes in
    omega (arith, before, more)

-- the first character that is of another kind
pub front_stops : (p : ℕ → Bool) (xs : List ℕ) (at c count : ℕ) → at < length xs → c ≡ get_or xs at c → p c ≡ false
    → count ≡ at + prefix_len p (drop at xs) → at ≡ count
front_stops p xs at c count within is fails before =
    let none : prefix_len p (drop at xs) ≡ 0 =
    front_step p xs at c within is ∙ ap (λ (b : Bool). cond b (1 + prefix_len p (drop (at + 1) xs)) 0) fails in
    omega (arith, before, none)

-- the end of the text
pub front_ends : (p : ℕ → Bool) (xs : List ℕ) (at count : ℕ) → length xs ≤ at
    → count ≡ at + prefix_len p (drop at xs) → at ≡ count
front_ends p xs at count end before = omega (arith, before, prefix_len-drop_all p xs at end)
