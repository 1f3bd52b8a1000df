-- The texts of numbers are short, so those of sound values are sound.
use Rattle.std.proofs.Common.{◌≡◌, ◌<◌, ◌≤◌, ℕ, suc, ◌+◌, ◌/◌, ◌%◌, ◌^◌, Bool, true, false, ◌==◌, nat_lt, ℤ, pos}
use Rattle.std.proofs.Common.{negsuc, List, [], ◌∷◌, length, map, reverse, if◌then◌else◌, ◌∙◌}
use Rattle.std.proofs.Common.{arith, IfOk, lit≤}
use Rattle.std.specs.Int.Digits.{digits_of}
use Rattle.std.proofs.lemmas.Int.Digits.{length-digits_of-le}
use Rattle.std.proofs.lemmas.Bool.Decides.{nat_tests}
use Rattle.std.proofs.lemmas.List.{length-map, length-append, length-reverse}
use lib.Signed.{mag}
use Rattle.vb_value.specs.declared.value.Value.{Value, Empty, Null, Bool as Boolean, Int, Long, Cur, Str, Arr'}
use Rattle.vb_value.specs.declared.value.Value.{Obj, Nothing}
use Rattle.vb_value.specs.NumericText.{without_first, without_last, decimal_text, whole_text, four_digits}
use Rattle.vb_value.specs.NumericText.{decimals_text, size_text, currency_text}
use Rattle.vb_value.specs.Conversions.{number_text, to_number_of}
use Rattle.vb_value.specs.Sound.{IsSound}
use Rattle.vb_value.proofs.Soundness.{sound-Str}
use Rattle.value_laws.specs.Laws.{ReadsSoundly}

-- a short text is a sound String
sound_if_short : (text : List ℕ) → length text ≤ 40 → IsSound (Str text)
sound_if_short text short =
    let within : nat_lt (length text) (2 ^ 31) ≡ true = grind (arith, nat_tests) in sound-Str text ∙ within

-- one of two texts
either : (first : Bool) (a b : List ℕ) (most : ℕ) → length a ≤ most → length b ≤ most
    → length (if first then a else b) ≤ most
either true a b most left right = left
either false a b most left right = right

decimal_short : (n : ℕ) → n < 10 ^ 19 → length (decimal_text n) ≤ 19
decimal_short n small =
    let digits : length (digits_of 10 n) ≤ 19 = length-digits_of-le 10 19 n (lit≤ tt) small in
    let written = length-map (digits_of 10 n) (λ d. 48 + d) in
    either (n == 0) (48 ∷ []) (map (λ d. 48 + d) (digits_of 10 n)) 19 (lit≤ tt) (omega (arith, digits, written))

pub whole_short : (n : ℤ) → mag n < 2 ^ 63 → IsSound (Str (whole_text n))
whole_short (pos n) small =
    let short = decimal_short n (omega (arith, small)) in sound_if_short (decimal_text n) (omega arith)
whole_short (negsuc less) small =
    let short = decimal_short (suc less) (omega (arith, small)) in
    sound_if_short (45 ∷ decimal_text (suc less)) (omega arith)

fewer_first : (test : ℕ → Bool) (items : List ℕ) → length (without_first test items) ≤ length items
fewer_first test [] = lit≤ tt
fewer_first test (item ∷ items) =
    let rest = fewer_first test items in
    either (test item) (without_first test items) (item ∷ items) (length (item ∷ items))
    (omega (arith, rest)) (omega arith)

fewer_last : (test : ℕ → Bool) (items : List ℕ) → length (without_last test items) ≤ length items
fewer_last test items =
    let fewer = fewer_first test (reverse items) in
    let one = length-reverse items in
    let two = length-reverse (without_first test (reverse items)) in
    omega (arith, fewer, one, two)

decimals_short : (n : ℕ) → length (decimals_text n) ≤ 5
decimals_short n =
    let fewer = fewer_last (λ c. c == 48) (four_digits n) in
    either (n == 0) [] (46 ∷ without_last (λ c. c == 48) (four_digits n)) 5 (lit≤ tt) (omega (arith, fewer))

size_short : (size : ℕ) → size < 10 ^ 19 → length (size_text size) ≤ 24
size_short size small =
    let whole = decimal_short (size / 10000) (omega (arith, small)) in
    let rest = decimals_short (size % 10000) in
    let both = length-append (decimal_text (size / 10000)) (decimals_text (size % 10000)) in
    omega (arith, whole, rest, both)

pub currency_short : (n : ℤ) → mag n < 2 ^ 63 → IsSound (Str (currency_text n))
currency_short (pos n) small =
    let short = size_short n (omega (arith, small)) in sound_if_short (size_text n) (omega arith)
currency_short (negsuc less) small =
    let short = size_short (suc less) (omega (arith, small)) in
    sound_if_short (45 ∷ size_text (suc less)) (omega arith)

-- the text of a value is that of a number, or one of few
pub reads_soundly : (value : Value) → IfOk (to_number_of value) (λ number. IsSound (Str (number_text number)))
    → ReadsSoundly value
reads_soundly Empty short sound = sound_if_short [] (lit≤ tt)
reads_soundly Null short sound = tt
reads_soundly (Boolean true) short sound = sound_if_short _ (lit≤ tt)
reads_soundly (Boolean false) short sound = sound_if_short _ (lit≤ tt)
reads_soundly (Int n) short sound = short
reads_soundly (Long n) short sound = short
reads_soundly (Cur n) short sound = short
reads_soundly (Str text) short sound = sound
reads_soundly (Arr' bounds fixed shape items) short sound = tt
reads_soundly (Obj object) short sound = tt
reads_soundly Nothing short sound = tt
