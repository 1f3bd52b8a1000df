-- The digits of a number.
use Rattle.std.proofs.Common.{◌≡◌, ℕ, ◌/◌, ◌%◌, ◌<◌, ◌≤◌, [], ◌∷◌, ◌++◌, map, ap, ◌∙◌}
use Rattle.std.specs.Int.Digits.{digits_of}
use Rattle.std.proofs.lemmas.Int.Digits.{digits_of_step}
use Rattle.std.proofs.lemmas.List.{map-append}
use Rattle.vb_funcs.specs.Bases.{digit_character}

-- the last digit stands behind those of the quotient
pub digits_more : (base n : ℕ) → 2 ≤ base → 0 < n → map digit_character (digits_of base n)
    ≡ map digit_character (digits_of base (n / base)) ++ digit_character (n % base) ∷ []
digits_more base n least some =
    ap (map digit_character) (digits_of_step base n least some)
    ∙ map-append digit_character (digits_of base (n / base)) (n % base ∷ [])
