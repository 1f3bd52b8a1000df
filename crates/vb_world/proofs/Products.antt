-- The product of the places of dimensions, where a great one saturates.
use Rattle.std.proofs.Common.{◌≡◌, ℕ, zero, suc, ◌*◌, ◌-◌, ◌^◌, ◌≤◌, ◌<◌, min, length, List, [], ◌∷◌, ℤ}
use Rattle.std.proofs.Common.{refl, ap, ◌∙◌, arith, inl, inr}
use Rattle.std.proofs.lemmas.Bool.{cases_lt}
use Rattle.std.proofs.Math.Nat.{mul-le-mul_right, mul_assoc}
use Rattle.vb_value.specs.Sound.{places, product}

-- the product of a number and the places of dimensions, from left to right
abbrev pub product_from : ℕ → List ℤ → ℕ
product_from so_far [] = so_far
product_from so_far (bound ∷ bounds) = product_from (min (so_far * places bound) (2 ^ 64 - 1)) bounds

-- a factor of a product that saturates may saturate first
factor_saturates : (a b most : ℕ) → min (min a most * b) most ≡ min (a * b) most
factor_saturates a zero most = grind arith
factor_saturates a (suc b) most = elim (cases_lt most a) [
  | inl above ↦
      let left : most ≤ most * suc b = grind arith in
      let right : most * suc b ≤ a * suc b = mul-le-mul_right {m = most} {n = a} (suc b) (omega arith) in
      let high : min a most ≡ most = omega arith in
      rw high (omega arith)
  | inr within ↦ let low : min a most ≡ a = omega arith in rw low refl
]

saturates : (so_far : ℕ) (bounds : List ℤ) → so_far ≤ 2 ^ 64 - 1
    → product_from so_far bounds ≡ min (so_far * product bounds) (2 ^ 64 - 1)
saturates so_far [] within = omega arith
saturates so_far (bound ∷ bounds) within =
    saturates (min (so_far * places bound) (2 ^ 64 - 1)) bounds (omega arith)
    ∙ (factor_saturates (so_far * places bound) (product bounds) (2 ^ 64 - 1)
    ∙ ap (λ n. min n (2 ^ 64 - 1)) (mul_assoc so_far (places bound) (product bounds)))

-- the product of the places of dimensions
pub product_saturates : (bounds : List ℤ) → product_from 1 bounds ≡ min (product bounds) (2 ^ 64 - 1)
product_saturates bounds = saturates 1 bounds (omega arith) ∙ omega arith

-- no dimension is left
pub no_dimension : (so_far : ℕ) (bounds : List ℤ) → length bounds < 1 → product_from so_far bounds ≡ so_far
no_dimension so_far [] none = refl
no_dimension so_far (bound ∷ bounds) none = absurd (omega arith)
