-- The ranges of the kinds of numbers.
use Rattle.std.proofs.Common.{◌≡◌, ℕ, zero, suc, ◌^◌, ◌<◌, ◌≤◌, nat_lt, Bool, true, false, if◌then◌else◌, pos}
use Rattle.std.proofs.Common.{Ok, Err, ◌⊎◌, inl, inr, min, refl, sym, ap, ◌∙◌, arith}
use Rattle.std.proofs.lemmas.Bool.Decides.{nat_tests}
use Rattle.vb_value.specs.Errors.{overflow}
use Rattle.vb_value.specs.Numbers.{as_currency}
use Rattle.vb_value.specs.NumericText.{signed}

beyond : (a : ℕ) → 10 ^ 19 ≤ a → nat_lt a (2 ^ 63) ≡ false
beyond a large = grind (arith, nat_tests)

too_large : (minus : Bool) (a : ℕ) → 10 ^ 19 ≤ a → as_currency (signed minus a) ≡ Err overflow
too_large false a large = ap (λ (within : Bool). if within then Ok (pos a) else Err overflow) (beyond a large)
too_large true zero large = absurd (omega arith)
too_large true (suc n) large =
    let within : nat_lt n (2 ^ 63) ≡ false = grind (arith, nat_tests) in
    rw within refl

or_else : (a b : ℕ) → (a < b) ⊎ (b ≤ a)
or_else a b = grind arith

-- two sizes from the most on overflow both
pub same_currency : (minus : Bool) (a b : ℕ) → min a (10 ^ 19) ≡ min b (10 ^ 19)
    → as_currency (signed minus a) ≡ as_currency (signed minus b)
same_currency minus a b same = elim (or_else a (10 ^ 19)) [
  | inl below ↦ ap (λ n. as_currency (signed minus n)) (omega arith)
  | inr large ↦ too_large minus a large ∙ sym (too_large minus b (omega arith))
]
