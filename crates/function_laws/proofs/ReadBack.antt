-- Digits read back.
use Rattle.std.proofs.Common.{◌≡◌, ℕ, ◌≤◌, ◌<◌, List, [], ◌∷◌, map, ℤ, Some, Ok, refl, ap, ◌∙◌, arith}
use Rattle.std.proofs.Common.{SFits, zero-mul, Bool, true, false, ◌==◌, nat_le, nat_lt, if◌then◌else◌, pos, negsuc}
use Rattle.std.proofs.Common.{Result, Err, Option, length, lit≤, ◌^◌}
use Rattle.std.specs.Char.{digit_value}
use Rattle.std.specs.Int.{Width, cast_signed, cast_unsigned}
use Rattle.std.specs.Int.Digits.{digits_of, number_from_digits, AllBelowBase}
use Rattle.std.proofs.lemmas.Bool.Decides.{nat_tests}
use Rattle.std.proofs.lemmas.Int.{to_z-of_z}
use Rattle.std.proofs.lemmas.Int.Digits.{all_below_base_digits_of, number_digits_of}
use Rattle.std.specs.Int.{w16, w32}
use Rattle.std.proofs.lemmas.Int.Digits.{length-digits_of-le}
use Rattle.std.proofs.lemmas.List.{length-map}
use lib.Signed.{mag}
use Rattle.vb_value.specs.declared.fault.VbError.{VbError}
use Rattle.vb_value.specs.declared.function.PlainFn.TheVariants as function
use Rattle.vb_value.specs.declared.value.Value.{Int, Long, Str}
use Rattle.vb_value.specs.Errors.{and_then, out_of_string_space, overflow}
use Rattle.vb_value.specs.Numbers.{as_long}
use Rattle.vb_value.specs.TextLimit.{limited}
use Rattle.vb_funcs.specs.Bases.{digit_character, based_text}
use Rattle.function_laws.specs.Laws.{read, Writes}

digit_read : (d : ℕ) → d < 16 → digit_value (digit_character d) ≡ d
digit_read d below = grind (arith, nat_tests)

digits_read : (base : ℕ) (digits : List ℕ) → base ≤ 16 → AllBelowBase base digits
    → map digit_value (map digit_character digits) ≡ digits
digits_read base [] most all = refl
digits_read base (d ∷ digits) most all =
    let first : digit_value (digit_character d) ≡ d = digit_read d (omega (arith, all.0)) in
    let rest : map digit_value (map digit_character digits) ≡ digits = digits_read base digits most all.1 in
    rw first (rw rest refl)

-- the digits of a number read as that number, whether it is 0 or not
chosen_read : (none : Bool) (base n : ℕ) → (n == 0) ≡ none → 2 ≤ base → base ≤ 16 → number_from_digits base
    (map digit_value (if none then 48 ∷ [] else map digit_character (digits_of base n))) ≡ n
chosen_read true base n is least most = rw zero-mul (grind (arith, nat_tests))
chosen_read false base n is least most =
    ap (number_from_digits base)
    (digits_read base (digits_of base n) most (all_below_base_digits_of base n least))
    ∙ number_digits_of base n least

-- the digits of a number read as that number
pub text_read : (base n : ℕ) → 2 ≤ base → base ≤ 16
    → number_from_digits base (map digit_value (based_text base n)) ≡ n
text_read base n least most = chosen_read (n == 0) base n refl least most

-- the digits of a number's bits read as that number
pub bits_read : (base : ℕ) (width : Width) (n : ℤ) → 2 ≤ base → base ≤ 16 → SFits width n
    → read width base (Ok (Str (based_text base (cast_unsigned width n)))) ≡ Some n
bits_read base width n least most fits =
    ap (λ bits. Some (cast_signed width bits)) (text_read base (cast_unsigned width n) least most)
    ∙ ap Some (to_z-of_z width n fits)

-- ---- the texts are short

pub either : (first : Bool) (a b : List ℕ) (most : ℕ) → length a ≤ most → length b ≤ most
    → length (if first then a else b) ≤ most
either true a b most left right = left
either false a b most left right = right

pub short_fits : (text : List ℕ) → length text ≤ 40 → limited text ≡ Ok (Str text)
short_fits text short =
    let within : nat_le (length text) 1048576 ≡ true = grind (arith, nat_tests) in
    ap (λ (fits : Bool). if fits then Ok (Str text) else Err out_of_string_space) within

based_short : (base n : ℕ) → 2 ≤ base → n < base ^ 32 → length (based_text base n) ≤ 32
based_short base n least small =
    let digits : length (digits_of base n) ≤ 32 = length-digits_of-le base 32 n least small in
    let written = length-map (digits_of base n) digit_character in
    either (n == 0) (48 ∷ []) (map digit_character (digits_of base n)) 32 (lit≤ tt) (omega (arith, digits, written))

bits16 : (n : ℤ) → mag n < 2 ^ 15 → cast_unsigned w16 n < 2 ^ 32
bits16 (pos n) small = omega (arith, small)
bits16 (negsuc n) small = omega arith

bits32 : (n : ℤ) → mag n < 2 ^ 31 → cast_unsigned w32 n < 2 ^ 32
bits32 (pos n) small = omega (arith, small)
bits32 (negsuc n) small = omega arith

pub long_fits : (n : ℤ) → mag n < 2 ^ 31 → as_long n ≡ Ok n
long_fits (pos n) small =
    let within : nat_lt n (2 ^ 31) ≡ true = grind (arith, nat_tests) in
    ap (λ (fits : Bool). if fits then Ok (pos n) else Err overflow) within
long_fits (negsuc n) small =
    let within : nat_lt n (2 ^ 31) ≡ true = grind (arith, nat_tests) in
    ap (λ (fits : Bool). if fits then Ok (negsuc n) else Err overflow) within

limited_read : (base : ℕ) (width : Width) (n : ℤ) → 2 ≤ base → base ≤ 16 → SFits width n
    → cast_unsigned width n < base ^ 32
    → read width base (limited (based_text base (cast_unsigned width n))) ≡ Some n
limited_read base width n least most fits small =
    let short = based_short base (cast_unsigned width n) least small in
    ap (read width base) (short_fits (based_text base (cast_unsigned width n)) (omega (arith, short)))
    ∙ bits_read base width n least most fits

pub hex_of_integer : (n : ℤ) → SFits w16 n → Writes function.Hex 16 w16 (Int n) n
hex_of_integer n fits =
    let small = bits16 n fits.sfits in
    limited_read 16 w16 n (lit≤ tt) (lit≤ tt) fits (omega (arith, small))

pub oct_of_integer : (n : ℤ) → SFits w16 n → Writes function.Oct 8 w16 (Int n) n
oct_of_integer n fits =
    let small = bits16 n fits.sfits in
    limited_read 8 w16 n (lit≤ tt) (lit≤ tt) fits (omega (arith, small))

written_long : (base : ℕ) → ℤ → Result ℤ VbError → Option ℤ
written_long base n given = read w32 base
    (and_then (and_then given (λ z. Ok (cast_unsigned w32 z))) (λ bits. limited (based_text base bits)))

pub hex_of_long : (n : ℤ) → SFits w32 n → Writes function.Hex 16 w32 (Long n) n
unfolding written_long
hex_of_long n fits =
    let small = bits32 n fits.sfits in
    ap (written_long 16 n) (long_fits n fits.sfits)
    ∙ limited_read 16 w32 n (lit≤ tt) (lit≤ tt) fits (omega (arith, small))

pub oct_of_long : (n : ℤ) → SFits w32 n → Writes function.Oct 8 w32 (Long n) n
unfolding written_long
oct_of_long n fits =
    let small = bits32 n fits.sfits in
    ap (written_long 8 n) (long_fits n fits.sfits)
    ∙ limited_read 8 w32 n (lit≤ tt) (lit≤ tt) fits (omega (arith, small))
