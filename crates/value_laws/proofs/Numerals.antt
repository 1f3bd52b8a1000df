-- How numerals are read: what stands before and behind their point, and their sign.
use Rattle.std.proofs.Common.{◌≡◌, ℕ, ◌+◌, ◌<◌, ◌==◌, Bool, true, false, not, ◌||◌, if◌then◌else◌, List, [], ◌∷◌}
use Rattle.std.proofs.Common.{◌++◌, ◌⊎◌, inl, inr, length, take, drop, subst, append-nil, refl, sym, ap, ◌∙◌, arith}
use Rattle.std.specs.List.{list_all, before_first, after_first, position_or_len}
use Rattle.std.specs.Char.{is_ascii_digit}
use Rattle.std.proofs.lemmas.Bool.Decides.{nat_tests}
use Rattle.std.proofs.lemmas.List.{drop_all, take_all}
use Rattle.std.proofs.Math.Seq.{take-append_seam, drop-append-add}
use Rattle.vb_value.specs.Numbers.{as_currency}
use Rattle.vb_value.specs.Characters.{is_blank}
use Rattle.vb_value.specs.NumericText.{trimmed, has_minus, unsigned, is_point, whole_digits, decimal_digits}
use Rattle.vb_value.specs.NumericText.{is_numeral, numeral_size, signed, cur_of_text_of}
use Rattle.value_laws.proofs.AllPass.{both, weaker, all_append, place_none, place_at}

pub not_point : (c : ℕ) → is_ascii_digit c ≡ true → not (is_point c) ≡ true
not_point c digit = grind (arith, nat_tests)

pub not_blank : (c : ℕ) → is_ascii_digit c ≡ true → not (is_blank c) ≡ true
not_blank c digit = grind (arith, nat_tests)

pub not_sign : (c : ℕ) → is_ascii_digit c ≡ true → (c == 43 || c == 45) ≡ false
not_sign c digit = grind (arith, nat_tests)

pub not_minus : (c : ℕ) → is_ascii_digit c ≡ true → (c == 45) ≡ false
not_minus c digit = grind (arith, nat_tests)

-- what is read of the digits of a number and its decimals
pub record Parts (whole decimals text : List ℕ) : Type 0 where
  pub before : before_first is_point text ≡ whole
  pub behind : after_first is_point text ≡ decimals
  pub unblank : list_all (λ c. not (is_blank c)) text ≡ true

pub no_points : (whole : List ℕ) → list_all is_ascii_digit whole ≡ true → list_all (λ c. not (is_point c)) whole ≡ true
no_points whole digits = weaker is_ascii_digit (λ c. not (is_point c)) not_point whole digits

pub no_blanks : (whole : List ℕ) → list_all is_ascii_digit whole ≡ true → list_all (λ c. not (is_blank c)) whole ≡ true
no_blanks whole digits = weaker is_ascii_digit (λ c. not (is_blank c)) not_blank whole digits

split_none : (whole : List ℕ) → list_all is_ascii_digit whole ≡ true → Parts whole [] whole
split_none whole digits =
    let place : position_or_len is_point whole ≡ length whole = place_none is_point whole (no_points whole digits) in
    record {
      before = ap (λ n. take n whole) place ∙ take_all (length whole) whole (omega arith);
      behind = ap (λ n. drop (n + 1) whole) place ∙ drop_all (length whole + 1) whole (omega arith);
      unblank = no_blanks whole digits;
    }

split_some : (whole decimals : List ℕ) → list_all is_ascii_digit whole ≡ true
    → list_all is_ascii_digit decimals ≡ true
    → Parts whole decimals (whole ++ 46 ∷ decimals)
split_some whole decimals digits others =
    let place : position_or_len is_point (whole ++ 46 ∷ decimals) ≡ length whole =
    place_at is_point whole 46 decimals (no_points whole digits) refl in
    record {
      before = ap (λ n. take n (whole ++ 46 ∷ decimals)) place ∙ take-append_seam whole (46 ∷ decimals);
      behind = ap (λ n. drop (n + 1) (whole ++ 46 ∷ decimals)) place ∙ drop-append-add whole (46 ∷ decimals) 1;
      unblank = all_append (λ c. not (is_blank c)) whole (46 ∷ decimals) (no_blanks whole digits)
          (no_blanks decimals others);
    }

pub split : (whole decimals more : List ℕ) → list_all is_ascii_digit whole ≡ true
    → list_all is_ascii_digit decimals ≡ true
    → ((more ≡ []) × (decimals ≡ [])) ⊎ (more ≡ 46 ∷ decimals) → Parts whole decimals (whole ++ more)
split whole decimals more digits others (inl none) =
    rw (none.0, none.1) (subst (Parts whole []) (sym (append-nil whole)) (split_none whole digits))
split whole decimals more digits others (inr some) = rw some (split_some whole decimals digits others)

pub unsigned_digits : (whole more : List ℕ) → list_all is_ascii_digit whole ≡ true → 0 < length whole
    → (unsigned (whole ++ more) ≡ whole ++ more) × (has_minus (whole ++ more) ≡ false)
unsigned_digits [] more digits some = absurd (omega arith)
unsigned_digits (c ∷ whole) more digits some =
    let first : is_ascii_digit c ≡ true = (both (is_ascii_digit c) (list_all is_ascii_digit whole) digits).0 in
    (ap (λ (sign : Bool). if sign then whole ++ more else c ∷ (whole ++ more)) (not_sign c first), not_minus c first)

pub read : (text whole decimals : List ℕ) (minus : Bool) (size : ℕ) → whole_digits text ≡ whole
    → decimal_digits text ≡ decimals
    → has_minus (trimmed text) ≡ minus → is_numeral whole decimals ≡ true → numeral_size whole decimals ≡ size
    → cur_of_text_of text ≡ as_currency (signed minus size)
read text whole decimals minus size whole_is decimals_is minus_is numeral size_is =
    rw (whole_is, decimals_is, minus_is) (rw numeral (rw size_is refl))
