-- The texts of whole numbers read as those numbers.
use Rattle.std.proofs.Common.{◌≡◌, ℕ, suc, ◌+◌, ◌*◌, ◌/◌, ◌%◌, ◌^◌, ◌<◌, ◌≤◌, ◌==◌, Bool, true, false}
use Rattle.std.proofs.Common.{if◌then◌else◌, ℤ, pos, negsuc, neg_ℤ, ◌*ℤ◌, int_div, int_rem, [], ◌∷◌, ◌++◌, length}
use Rattle.std.proofs.Common.{map, Result, Ok, Err, refl, sym, ap, ◌∙◌, subst, arith, lit≤, SFits, FitsSigned, unsigned_abs}
use Rattle.std.specs.Int.Digits.{digits_of}
use Rattle.std.proofs.Math.IntN.{pos-*ℤ-pos}
use Rattle.std.proofs.lemmas.Bool.Decides.{nat_tests}
use Rattle.std.proofs.lemmas.Int.Digits.{length-digits_of-le}
use Rattle.std.proofs.lemmas.List.{length-map, append-nil}
use Rattle.std.specs.Int.{Width, w64, cast_signed, cast_unsigned}
use Rattle.std.proofs.lemmas.Int.{to_z-of_z, fits_signed_from_abs, unsigned_abs-mul}
use lib.Signed.{mag}
use Rattle.vb_value.specs.declared.fault.VbError.{VbError}
use Rattle.vb_value.specs.declared.function.PlainFn.TheVariants as function
use Rattle.vb_value.specs.declared.number.Number.TheVariants as number
use Rattle.vb_value.specs.declared.value.Value.{Value, Int, Long, Str}
use Rattle.vb_value.specs.Conversions.{to_number_of}
use Rattle.vb_value.specs.Errors.{and_then, overflow}
use Rattle.vb_value.specs.Numbers.{as_integer, as_long, is_within, least_number, whole_number, whole_of}
use Rattle.vb_value.specs.NumericText.{cur_of_text_of, currency_text, decimal_text, decimals_text, size_text, whole_text}
use Rattle.value_laws.specs.Laws.{ReadsBack}
use Rattle.vb_funcs.specs.Functions.{call_func_of}
use Rattle.function_laws.specs.Laws.{ReadsAgain}
use Rattle.function_laws.proofs.Floor.{below}
use Rattle.function_laws.proofs.ReadBack.{either, short_fits}

-- ---- the text of a whole number is that of a Currency

size_whole : (size n : ℕ) → size / 10000 ≡ n → size % 10000 ≡ 0 → size_text size ≡ decimal_text n
size_whole size n whole none =
    ap (λ rest. decimal_text (size / 10000) ++ decimals_text rest) none
    ∙ append-nil (decimal_text (size / 10000)) ∙ ap decimal_text whole

same_text : (n : ℤ) → currency_text (n *ℤ pos 10000) ≡ whole_text n
same_text (pos n) =
    ap currency_text (pos-*ℤ-pos n 10000) ∙ size_whole (n * 10000) n (omega arith) (omega arith)
same_text (negsuc k) =
    ap currency_text (below k)
    ∙ ap (λ text. 45 ∷ text) (size_whole (suc (k * 10000 + 9999)) (suc k) (omega arith) (omega arith))

decimal_short : (n : ℕ) → n < 10 ^ 19 → length (decimal_text n) ≤ 19
decimal_short n small =
    let digits : length (digits_of 10 n) ≤ 19 = length-digits_of-le 10 19 n (lit≤ tt) small in
    let written = length-map (digits_of 10 n) (λ d. 48 + d) in
    either (n == 0) (48 ∷ []) (map (λ d. 48 + d) (digits_of 10 n)) 19 (lit≤ tt) (omega (arith, digits, written))

whole_short : (n : ℤ) → mag n < 2 ^ 31 → length (whole_text n) ≤ 40
whole_short (pos n) small = let short = decimal_short n (omega (arith, small)) in omega (arith, short)
whole_short (negsuc k) small = let short = decimal_short (suc k) (omega (arith, small)) in omega (arith, short)

-- ---- a whole number of ten-thousandths is that number

whole_div : (n : ℤ) → int_div (n *ℤ pos 10000) (pos 10000) ≡ n
whole_div (pos n) =
    ap (λ z. int_div z (pos 10000)) (pos-*ℤ-pos n 10000) ∙ ap pos (omega arith)
whole_div (negsuc k) =
    ap (λ z. int_div z (pos 10000)) (below k)
    ∙ ap (λ n. neg_ℤ (pos n)) (quotient k)
  where
    quotient : (k : ℕ) → suc (k * 10000 + 9999) / 10000 ≡ suc k
    quotient k = omega arith

whole_rem : (n : ℤ) → int_rem (n *ℤ pos 10000) (pos 10000) ≡ pos 0
whole_rem (pos n) =
    ap (λ z. int_rem z (pos 10000)) (pos-*ℤ-pos n 10000) ∙ ap pos (omega arith)
whole_rem (negsuc k) =
    ap (λ z. int_rem z (pos 10000)) (below k) ∙ ap (λ n. neg_ℤ (pos n)) (rest k)
  where
    rest : (k : ℕ) → suc (k * 10000 + 9999) % 10000 ≡ 0
    rest k = omega arith

within_long : (n : ℤ) → mag n < 2 ^ 31 → is_within (2 ^ 31) n ≡ true
within_long (pos n) small = grind (arith, nat_tests)
within_long (negsuc n) small = grind (arith, nat_tests)

within_integer : (n : ℤ) → mag n < 2 ^ 15 → is_within (2 ^ 15) n ≡ true
within_integer (pos n) small = grind (arith, nat_tests)
within_integer (negsuc n) small = grind (arith, nat_tests)

least_is : (n : ℤ) → mag n < 2 ^ 31 → least_number (n *ℤ pos 10000) ≡ whole_number n
least_is n small = rw (whole_rem n, whole_div n, within_long n small) refl

whole_is : (integer : Bool) (n : ℤ) → whole_of (if integer then number.Int n else number.Long n) ≡ n
whole_is true n = refl
whole_is false n = refl

-- ---- the functions

-- a number behind its casts
abbrev cast : Width → ℤ → ℤ
cast width z = cast_signed width (cast_unsigned width z)

abs_small : (n : ℤ) → mag n < 2 ^ 31 → unsigned_abs n ≤ 2 ^ 31
abs_small (pos n) small = omega (arith, small)
abs_small (negsuc n) small = omega (arith, small)

product_fits : (n : ℤ) → mag n < 2 ^ 31 → FitsSigned w64 (n *ℤ pos 10000)
product_fits n small =
    let size = abs_small n small in
    let product : unsigned_abs (n *ℤ pos 10000) ≡ unsigned_abs n * 10000 = unsigned_abs-mul n (pos 10000) in
    fits_signed_from_abs w64 (n *ℤ pos 10000) (omega (arith, size, product))

number_fits : (n : ℤ) → mag n < 2 ^ 31 → FitsSigned w64 n
number_fits n small = let size = abs_small n small in fits_signed_from_abs w64 n (omega (arith, size))

pub cast_back : (width : Width) (n : ℤ) → SFits width n → mag n < 2 ^ 31
    → ReadsBack (cast w64 (cast w64 (cast width n) *ℤ pos 10000)) → ReadsBack (n *ℤ pos 10000)
cast_back width n fits small back =
    let inner : cast width n ≡ n = to_z-of_z width n fits in
    let number : cast w64 (cast width n) ≡ n = ap (cast w64) inner ∙ to_z-of_z w64 n (number_fits n small) in
    let amount : cast w64 (cast w64 (cast width n) *ℤ pos 10000) ≡ n *ℤ pos 10000 =
    ap (λ z. cast w64 (z *ℤ pos 10000)) number ∙ to_z-of_z w64 (n *ℤ pos 10000) (product_fits n small) in
    let Reads : ℤ → Type 0 = λ z. ReadsBack z in
    subst Reads amount back

text_reads : (n : ℤ) → mag n < 2 ^ 31 → ReadsBack (n *ℤ pos 10000)
    → to_number_of (Str (whole_text n)) ≡ Ok (whole_number n)
text_reads n small back =
    let read : cur_of_text_of (whole_text n) ≡ Ok (n *ℤ pos 10000) =
    ap cur_of_text_of (sym (same_text n)) ∙ back in
    ap (λ (given : Result ℤ VbError). and_then given (λ n. Ok (least_number n))) read ∙ ap Ok (least_is n small)

pub integer_again : (n : ℤ) → mag n < 2 ^ 15 → ReadsBack (n *ℤ pos 10000) → ReadsAgain function.CInt (Int n)
integer_again n small back =
    let text = short_fits (whole_text n) (whole_short n (omega (arith, small))) in
    let number = text_reads n (omega (arith, small)) back in
    let whole = whole_is (is_within (2 ^ 15) n) n in
    let fits = within_integer n small in
    ap (λ (given : Result Value VbError). and_then given (λ text. call_func_of function.CInt (text ∷ []))) text
    ∙ ap (λ given. and_then (and_then given (λ number. as_integer (whole_of number))) (λ n. Ok (Int n))) number
    ∙ ap (λ n. and_then (as_integer n) (λ n. Ok (Int n))) whole
    ∙ ap (λ (fits : Bool). and_then (if fits then Ok n else Err overflow) (λ n. Ok (Int n))) fits

pub long_again : (n : ℤ) → mag n < 2 ^ 31 → ReadsBack (n *ℤ pos 10000) → ReadsAgain function.CLng (Long n)
long_again n small back =
    let text = short_fits (whole_text n) (whole_short n small) in
    let number = text_reads n small back in
    let whole = whole_is (is_within (2 ^ 15) n) n in
    let fits = within_long n small in
    ap (λ (given : Result Value VbError). and_then given (λ text. call_func_of function.CLng (text ∷ []))) text
    ∙ ap (λ given. and_then (and_then given (λ number. as_long (whole_of number))) (λ n. Ok (Long n))) number
    ∙ ap (λ n. and_then (as_long n) (λ n. Ok (Long n))) whole
    ∙ ap (λ (fits : Bool). and_then (if fits then Ok n else Err overflow) (λ n. Ok (Long n))) fits
