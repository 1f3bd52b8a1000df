-- Where a test passes first in a list.
use Rattle.std.proofs.Common.{◌≡◌, ℕ, ◌<◌, List, length, refl, arith, true, false, cond, Some, None}
use Rattle.std.specs.Prelude.{Bool, not, ◌&&◌, position, nat_lt}
use Rattle.std.specs.List.{position_or_len}
use Rattle.std.proofs.lemmas.Bool.Decides.{nat_tests}
use Rattle.std.proofs.lemmas.List.Sums.{prefix_len-le-length}

-- what holds of a test that came out either way
pub by_cases : (P : Bool → Type 0) (t : Bool) → (t ≡ true → P true) → (t ≡ false → P false) → P t
by_cases P true on off = on refl
by_cases P false on off = off refl

module _ (p : ℕ → Bool) (xs : List ℕ) where
  -- the first place, where there is one
  pub place_is : (at : ℕ) → position p xs ≡ Some at → (position_or_len p xs ≡ at) × (at < length xs)
  place_is at found =
      by_cases (λ t. nat_lt (position_or_len p xs) (length xs) ≡ t → cond t (Some (position_or_len p xs)) None ≡ Some at
      → (position_or_len p xs ≡ at) × (at < length xs))
      (nat_lt (position_or_len p xs) (length xs))
      (λ _ within e. let same : position_or_len p xs ≡ at = cc in (same, grind (arith, nat_tests)))
      (λ _ _ e. absurd cc) refl found

  -- the end, where there is none
  pub no_place : position p xs ≡ None → position_or_len p xs ≡ length xs
  no_place none =
      let most = prefix_len-le-length (λ x. not (p x)) xs in
      by_cases (λ t. nat_lt (position_or_len p xs) (length xs) ≡ t → cond t (Some (position_or_len p xs)) None ≡ None
      → position_or_len p xs ≡ length xs)
      (nat_lt (position_or_len p xs) (length xs)) (λ _ _ e. absurd cc) (λ _ without _. grind (arith, nat_tests)) refl none

-- both of two tests that hold together
pub both_true : (p q : Bool) → (p && q) ≡ true → (p ≡ true) × (q ≡ true)
both_true true q e = (refl, e)
both_true false q e = absurd cc
