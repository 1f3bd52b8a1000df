-- Sums over lists that change at one place.
use Rattle.std.proofs.Common.{◌≡◌, ℕ, zero, suc, List, [], ◌∷◌, ◌++◌, refl, sym, ap, arith, ◌≢◌, ◌≤◌, ◌+◌, set}
use lib.ListN.{get_elem?}
use mathlib.Core.Option.{some, some-injective, some-ne-none}
use Rattle.turn_desk.specs.Histories.{total}

module _ {A : Type 0} (g : A → ℕ) where
  pub total-append : (l m : List A) → total g (l ++ m) ≡ total g l + total g m
  total-append [] m = omega arith
  total-append (x ∷ xs) m = omega (arith, total-append xs m)

  pub total-set : (l : List A) (j : ℕ) (v w : A) → get_elem? l j ≡ some v
      → total g (set l j w) + g v ≡ total g l + g w
  total-set [] j v w e = absurd (some-ne-none v (sym e))
  total-set (x ∷ xs) zero v w e = omega (arith, ap g (some-injective x v e))
  total-set (x ∷ xs) (suc j) v w e = omega (arith, total-set xs j v w e)

  pub term_le : (l : List A) (j : ℕ) (v : A) → get_elem? l j ≡ some v → g v ≤ total g l
  term_le [] j v e = absurd (some-ne-none v (sym e))
  term_le (x ∷ xs) zero v e = omega (arith, ap g (some-injective x v e))
  term_le (x ∷ xs) (suc j) v e = omega (arith, term_le xs j v e)

  pub terms_le : (l : List A) (j k : ℕ) (v u : A) → k ≢ j → get_elem? l j ≡ some v → get_elem? l k ≡ some u
      → g v + g u ≤ total g l
  terms_le [] j k v u n e d = absurd (some-ne-none v (sym e))
  terms_le (x ∷ xs) zero zero v u n e d = absurd (n refl)
  terms_le (x ∷ xs) zero (suc k) v u n e d = omega (arith, ap g (some-injective x v e), term_le xs k u d)
  terms_le (x ∷ xs) (suc j) zero v u n e d = omega (arith, ap g (some-injective x u d), term_le xs j v e)
  terms_le (x ∷ xs) (suc j) (suc k) v u n e d = omega (arith, terms_le xs j k v u (λ h. n (ap suc h)) e d)

  -- a sum whose terms are all 0
  pub total-zero : (l : List A) → ((j : ℕ) (v : A) → get_elem? l j ≡ some v → g v ≡ 0) → total g l ≡ 0
  total-zero [] h = refl
  total-zero (x ∷ xs) h = omega (arith, h 0 x refl, total-zero xs (λ j v e. h (suc j) v e))

  -- a sum that is no more than another, term by term
  pub total-le : (f : A → ℕ) (l : List A) → ((j : ℕ) (v : A) → get_elem? l j ≡ some v → g v ≤ f v)
      → total g l ≤ total f l
  total-le f [] h = omega arith
  total-le f (x ∷ xs) h = omega (arith, h 0 x refl, total-le f xs (λ j v e. h (suc j) v e))

-- where one item counts for all of a sum, it does so for each that counts no more
pub total-of_one : {A : Type 0} (g f : A → ℕ) (l : List A) (j : ℕ) (v : A) → get_elem? l j ≡ some v
    → total f l ≡ f v → ((u : A) → g u ≤ f u) → total g l ≡ g v
total-of_one g f [] j v e one less = absurd (some-ne-none v (sym e))
total-of_one g f (x ∷ xs) zero v e one less =
    let same = some-injective x v e in
    omega (arith, ap g same, ap f same, one, total-le g f xs (λ j u at. less u))
total-of_one g f (x ∷ xs) (suc j) v e one less =
    let part = term_le f xs j v e in
    let rest : total f xs ≡ f v = omega (arith, part, one) in
    omega (arith, one, rest, less x, total-of_one g f xs j v e rest less)
