-- How many items an array has by its bounds, up to a number past every length.
use Rattle.std.proofs.Common.{◌≡◌, ℕ, zero, suc, ◌+◌, ◌*◌, ◌<◌, List, [], ◌∷◌, ◌++◌, length, get_or, take}
use Rattle.std.proofs.Common.{min, ℤ, pos}
use Rattle.std.proofs.Common.{refl, sym, ap, ◌∙◌, arith, inl, inr, eqb}
use Rattle.std.proofs.lemmas.Bool.Decides.{nat_tests}
use Rattle.std.proofs.lemmas.Bool.{cases_lt}
use Rattle.std.proofs.lemmas.List.{take_more}
use Rattle.std.proofs.Math.Nat.{mul-suc, mul-zero, mul_assoc}
use Rattle.vb_value.specs.Sound.{places, product}

product_push : (bounds : List ℤ) (bound : ℤ) → product (bounds ++ bound ∷ []) ≡ product bounds * places bound
product_push [] bound = omega arith
product_push (first ∷ bounds) bound =
    ap (λ n. places first * n) (product_push bounds bound) ∙ sym
    (mul_assoc (places first) (product bounds) (places bound))

capped : (n times : ℕ) →
    min (min n 18446744073709551616 * times) 18446744073709551616 ≡ min (n * times) 18446744073709551616
capped n zero = rw (mul-zero n, mul-zero (min n 18446744073709551616)) refl
capped n (suc times) =
    let product = n * times in
    let more : n * suc times ≡ n * times + n = mul-suc n times in
    elim (cases_lt n 18446744073709551616) [
      | inl below ↦ let same : min n 18446744073709551616 ≡ n = omega arith in rw same refl
      | inr above ↦ let same : min n 18446744073709551616 ≡ 18446744073709551616 =
          omega arith in rw (same, more) (omega arith)
    ]

-- one bound more
pub count_more : (bounds : List ℤ) (i : ℕ) → i < length bounds
    → min (product (take (i + 1) bounds)) 18446744073709551616
    ≡ min (min (product (take i bounds)) 18446744073709551616 * places (get_or bounds i (pos 0))) 18446744073709551616
count_more bounds i within =
    ap (λ l. min (product l) 18446744073709551616) (take_more bounds i (pos 0) within)
    ∙ ap (λ n. min n 18446744073709551616) (product_push (take i bounds) (get_or bounds i (pos 0)))
    ∙ sym (capped (product (take i bounds)) (places (get_or bounds i (pos 0))))

-- a length is the number up to there where it is the number
pub same_count : (count n : ℕ) → count < 18446744073709551616 → eqb count (min n 18446744073709551616) ≡ eqb count n
same_count count n small =
    elim (cases_lt n 18446744073709551616) [
      | inl below ↦ let same : min n 18446744073709551616 ≡ n = omega arith in ap (eqb count) same
      | inr above ↦ grind (arith, nat_tests)
    ]
