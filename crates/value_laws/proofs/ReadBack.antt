-- The text of a Currency reads as that Currency.
use Rattle.std.proofs.Common.{◌≡◌, ℕ, zero, suc, ◌+◌, ◌*◌, ◌/◌, ◌%◌, ◌^◌, ◌<◌, nat_lt, ◌==◌, Bool, true, false}
use Rattle.std.proofs.Common.{if◌then◌else◌, ℤ, pos, negsuc, Ok, Err, List, [], ◌∷◌, ◌⊎◌, inl}
use Rattle.std.proofs.Common.{inr, length, map, reverse, lit<, subst, refl, sym, ap}
use Rattle.std.proofs.Common.{◌∙◌, arith}
use Rattle.std.specs.List.{list_all, before_first, after_first}
use Rattle.std.specs.Char.{is_ascii_digit}
use Rattle.std.specs.Int.Digits.{digits_of, number_from_digits, AllBelowBase}
use Rattle.std.proofs.lemmas.Int.Digits.{all_below_base_digits_of, number_digits_of}
use Rattle.std.proofs.lemmas.Bool.Decides.{nat_tests}
use lib.Signed.{mag}
use Rattle.vb_value.specs.Errors.{overflow}
use Rattle.vb_value.specs.Numbers.{rounded, as_currency}
use Rattle.vb_value.specs.Characters.{is_blank}
use Rattle.vb_value.specs.NumericText.{without_last, trimmed, has_minus, unsigned, is_point}
use Rattle.vb_value.specs.NumericText.{is_numeral, digit_of, number_of}
use Rattle.vb_value.specs.NumericText.{numeral_size, cur_of_text_of, decimal_text, four_digits}
use Rattle.vb_value.specs.NumericText.{decimals_text, size_text}
use Rattle.vb_value.proofs.Rounding.{rounded_by}
use Rattle.vb_value.proofs.Digits.{numeral_parts, decimals_rounded, half_short, four_of}
use Rattle.value_laws.specs.Laws.{ReadsBack}
use Rattle.value_laws.proofs.AllPass.{all_without_last, none_both, joined}
use Rattle.value_laws.proofs.Numerals.{Parts, split, unsigned_digits, read}

-- ---- digits

back_digit : (d : ℕ) → d < 10 → digit_of (48 + d) ≡ d
back_digit d small = grind (arith, nat_tests)

is_digit : (d : ℕ) → d < 10 → is_ascii_digit (48 + d) ≡ true
is_digit d small = grind (arith, nat_tests)

map_back : (ds : List ℕ) → AllBelowBase 10 ds → map digit_of (map (λ d. 48 + d) ds) ≡ ds
map_back [] below = refl
map_back (d ∷ ds) below = rw (back_digit d below.0, map_back ds below.1) refl

all_digits : (ds : List ℕ) → AllBelowBase 10 ds → list_all is_ascii_digit (map (λ d. 48 + d) ds) ≡ true
all_digits [] below = refl
all_digits (d ∷ ds) below = joined _ _ (is_digit d below.0) (all_digits ds below.1)

-- the digits of a number are digits, one at least, and write it
pub record Written (n : ℕ) (text : List ℕ) : Type 0 where
  pub digits : list_all is_ascii_digit text ≡ true
  pub number : number_of text ≡ n
  pub filled : 0 < length text

filled_from : (text : List ℕ) → 0 < number_of text → 0 < length text
unfolding number_of
filled_from [] some = absurd (omega arith)
filled_from (c ∷ text) some = omega arith

number_back : (ds : List ℕ) → AllBelowBase 10 ds → number_of (map (λ d. 48 + d) ds) ≡ number_from_digits 10 ds
unfolding number_of
number_back ds below = ap (number_from_digits 10) (map_back ds below)

some_written : (n : ℕ) → 0 < n → Written n (map (λ d. 48 + d) (digits_of 10 n))
some_written n some =
    let below : AllBelowBase 10 (digits_of 10 n) = all_below_base_digits_of 10 n (omega arith) in
    let number : number_of (map (λ d. 48 + d) (digits_of 10 n)) ≡ n =
    number_back (digits_of 10 n) below ∙ number_digits_of 10 n (omega arith) in
    record { digits = all_digits (digits_of 10 n) below; number = number; filled = filled_from _ (omega arith) }

written : (n : ℕ) → Written n (decimal_text n)
unfolding number_of
written zero = record { digits = refl; number = refl; filled = lit< tt }
written (suc n) =
    let some : (suc n == 0) ≡ false = grind (arith, nat_tests) in
    subst (Written (suc n))
    (sym (ap (λ (none : Bool). if none then 48 ∷ [] else map (λ digit. 48 + digit) (digits_of 10 (suc n))) some))
    (some_written (suc n) (omega arith))

-- ---- decimals

-- four digits without the last ones that are marked
kept : Bool → Bool → Bool → Bool → ℕ → ℕ → ℕ → ℕ → List ℕ
kept za zb zc zd a b c d =
    reverse (if zd then (if zc then (if zb then (if za then [] else a ∷ []) else b ∷ a ∷ []) else c ∷ b ∷ a ∷ [])
    else d ∷ c ∷ b ∷ a ∷ [])

trail_by : (za zb zc zd : Bool) (a b c d : ℕ) → (za ≡ true → a ≡ 48) → (zb ≡ true → b ≡ 48)
    → (zc ≡ true → c ≡ 48) → (zd ≡ true → d ≡ 48)
    → (four_of (kept za zb zc zd a b c d) ≡ four_of (a ∷ b ∷ c ∷ d ∷ [])) × (length (kept za zb zc zd a b c d) < 5)
unfolding kept
trail_by za zb zc false a b c d fa fb fc fd = (refl, lit< tt)
trail_by za zb false true a b c d fa fb fc fd = (rw (fd refl) refl, lit< tt)
trail_by za false true true a b c d fa fb fc fd = (rw (fd refl, fc refl) refl, lit< tt)
trail_by false true true true a b c d fa fb fc fd = (rw (fd refl, fc refl, fb refl) refl, lit< tt)
trail_by true true true true a b c d fa fb fc fd = (rw (fd refl, fc refl, fb refl, fa refl) refl, lit< tt)

is_zero_digit : (c : ℕ) → (c == 48) ≡ true → c ≡ 48
is_zero_digit c is = grind (arith, nat_tests)

trail : (a b c d : ℕ) → (four_of (without_last (λ e. e == 48) (a ∷ b ∷ c ∷ d ∷ [])) ≡ four_of (a ∷ b ∷ c ∷ d ∷ []))
    × (length (without_last (λ e. e == 48) (a ∷ b ∷ c ∷ d ∷ [])) < 5)
unfolding kept
trail a b c d =
    trail_by (a == 48) (b == 48) (c == 48) (d == 48) a b c d (is_zero_digit a) (is_zero_digit b)
    (is_zero_digit c) (is_zero_digit d)

sum_of_digits : (n : ℕ) → 1000 * (n / 1000) + 100 * (n / 100 % 10) + 10 * (n / 10 % 10) + n % 10 ≡ n
sum_of_digits n = omega arith

four_is : (n : ℕ) → n < 10000 → four_of (four_digits n) ≡ n
four_is n small =
    let first : digit_of (48 + n / 1000) ≡ n / 1000 = back_digit _ (omega arith) in
    let second : digit_of (48 + n / 100 % 10) ≡ n / 100 % 10 = back_digit _ (omega arith) in
    let third : digit_of (48 + n / 10 % 10) ≡ n / 10 % 10 = back_digit _ (omega arith) in
    let fourth : digit_of (48 + n % 10) ≡ n % 10 = back_digit _ (omega arith) in
    rw (first, second, third, fourth) (sum_of_digits n)

four_are_digits : (n : ℕ) → n < 10000 → list_all is_ascii_digit (four_digits n) ≡ true
four_are_digits n small =
    joined _ _ (is_digit (n / 1000) (omega arith)) (joined _ _ (is_digit (n / 100 % 10) (omega arith))
    (joined _ _ (is_digit (n / 10 % 10) (omega arith)) (joined _ _ (is_digit (n % 10) (omega arith)) refl)))

-- decimals, four at most, as ten-thousandths
decimals_four : (text : List ℕ) → length text < 5 → rounded (10 ^ length text) (number_of text * 10000) ≡ four_of text
decimals_four text short =
    decimals_rounded text ∙ ap (λ order. rounded_by order (four_of text)) (half_short text short)

-- decimals without the zeros at their end are as many ten-thousandths
pub record Decimals (n : ℕ) (text decimals : List ℕ) : Type 0 where
  pub digits : list_all is_ascii_digit decimals ≡ true
  pub number : rounded (10 ^ length decimals) (number_of decimals * 10000) ≡ n
  pub shape : ((text ≡ []) × (decimals ≡ [])) ⊎ (text ≡ 46 ∷ decimals)

some_decimals : (n : ℕ) → n < 10000 → Decimals n (46 ∷ without_last (λ e. e == 48) (four_digits n))
    (without_last (λ e. e == 48) (four_digits n))
some_decimals n small =
    let ends = trail (48 + n / 1000) (48 + n / 100 % 10) (48 + n / 10 % 10) (48 + n % 10) in
    record {
      digits = all_without_last (λ e. e == 48) is_ascii_digit (four_digits n) (four_are_digits n small);
      number = decimals_four _ ends.1 ∙ (ends.0 ∙ four_is n small);
      shape = inr refl;
    }

no_decimals : Decimals 0 [] []
unfolding number_of rounded
no_decimals = record { digits = refl; number = refl; shape = inl (refl, refl) }

chosen : (none : Bool) (n : ℕ) (text : List ℕ) → (none ≡ true → n ≡ 0) → Decimals n (46 ∷ text) text
    → Decimals n (if none then [] else 46 ∷ text) (if none then [] else text)
chosen true n text zero_is some = rw (zero_is refl) no_decimals
chosen false n text zero_is some = some

is_nought : (n : ℕ) → (n == 0) ≡ true → n ≡ 0
is_nought n is = grind (arith, nat_tests)

decimals_are : (n : ℕ) → n < 10000
    → Decimals n (decimals_text n) (if n == 0 then [] else without_last (λ e. e == 48) (four_digits n))
decimals_are n small =
    chosen (n == 0) n (without_last (λ e. e == 48) (four_digits n)) (is_nought n) (some_decimals n small)

-- ---- the text

numeral_is : (whole decimals : List ℕ) → list_all is_ascii_digit whole ≡ true
    → list_all is_ascii_digit decimals ≡ true → 0 < length whole → is_numeral whole decimals ≡ true
numeral_is whole decimals digits others some =
    let filled : (length whole == 0) ≡ false = grind (arith, nat_tests) in
    joined _ _ (joined _ _ digits others) (rw filled refl)

pub record Reads (size : ℕ) (whole decimals : List ℕ) : Type 0 where
  pub parts : Parts whole decimals (size_text size)
  pub sign : (unsigned (size_text size) ≡ size_text size) × (has_minus (size_text size) ≡ false)
  pub numeral : is_numeral whole decimals ≡ true
  pub size_is : numeral_size whole decimals ≡ size

size_parts : (size whole rest : ℕ) → whole ≡ size / 10000 → rest ≡ size % 10000 → whole * 10000 + rest ≡ size
size_parts size whole rest is_whole is_rest = omega arith

reads_from : (size : ℕ) (decimals : List ℕ) → Decimals (size % 10000) (decimals_text (size % 10000)) decimals
    → Reads size (decimal_text (size / 10000)) decimals
reads_from size decimals rest =
    let whole : Written (size / 10000) (decimal_text (size / 10000)) = written (size / 10000) in
    record {
      parts = split (decimal_text (size / 10000)) decimals
          (decimals_text (size % 10000)) whole.digits rest.digits rest.shape;
      sign = unsigned_digits (decimal_text (size / 10000)) (decimals_text (size % 10000)) whole.digits whole.filled;
      numeral = numeral_is (decimal_text (size / 10000)) decimals whole.digits rest.digits whole.filled;
      size_is = numeral_parts (decimal_text (size / 10000)) decimals ∙ size_parts size _ _ whole.number rest.number;
    }

size_reads : (size : ℕ) → Reads size (decimal_text (size / 10000))
    (if size % 10000 == 0 then [] else without_last (λ e. e == 48) (four_digits (size % 10000)))
size_reads size =
    let small : size % 10000 < 10000 = omega arith in reads_from size _ (decimals_are (size % 10000) small)

positive : (size : ℕ) → cur_of_text_of (size_text size) ≡ as_currency (pos size)
positive size =
    let it = size_reads size in
    let trim : trimmed (size_text size) ≡ size_text size = none_both is_blank (size_text size) it.parts.unblank in
    read (size_text size) _ _ false size
    (ap (λ text. before_first is_point (unsigned text)) trim ∙
    (ap (before_first is_point) it.sign.0 ∙ it.parts.before))
    (ap (λ text. after_first is_point (unsigned text)) trim ∙ (ap (after_first is_point) it.sign.0 ∙ it.parts.behind))
    (ap has_minus trim ∙ it.sign.1) it.numeral it.size_is

negative : (less : ℕ) → cur_of_text_of (45 ∷ size_text (suc less)) ≡ as_currency (negsuc less)
negative less =
    let it = size_reads (suc less) in
    let trim : trimmed (45 ∷ size_text (suc less)) ≡ 45 ∷ size_text (suc less) =
    none_both is_blank (45 ∷ size_text (suc less)) (joined _ _ refl it.parts.unblank) in
    read (45 ∷ size_text (suc less)) _ _ true (suc less)
    (ap (λ text. before_first is_point (unsigned text)) trim ∙ it.parts.before)
    (ap (λ text. after_first is_point (unsigned text)) trim ∙ it.parts.behind)
    (ap has_minus trim) it.numeral it.size_is

fits_below : (n : ℕ) → n < 2 ^ 63 → nat_lt n (2 ^ 63) ≡ true
fits_below n small = grind (arith, nat_tests)

pub reads_back : (amount : ℤ) → mag amount < 2 ^ 63 → ReadsBack amount
reads_back (pos size) small =
    positive size ∙ ap (λ (fits : Bool). if fits then Ok (pos size) else Err overflow) (fits_below size small)
reads_back (negsuc less) small =
    negative less ∙ ap (λ (fits : Bool). if fits then Ok (negsuc less) else Err overflow) (fits_below less small)
