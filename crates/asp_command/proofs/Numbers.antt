-- Numbers as decimal texts.
use Rattle.std.proofs.Common.{◌≡◌, ℕ, zero, suc, ◌≤◌, ◌<◌, ◌^◌, List, Result, Ok, Err, get_or}
use Rattle.std.proofs.Common.{arith, sym, subst, ap, ◌∙◌}
use Rattle.std.specs.Int.{IsInRange}
use Rattle.std.specs.Fmt.{decimal}
use Rattle.std.specs.Str.Parse.{AllDigits, ParsesUnsigned, digits_value}
use Rattle.std.proofs.lemmas.Str.Parse.{IsNumeralModel, numerals_by_value, tells_digits, parse_plain, digit_at}
use Rattle.std.proofs.lemmas.Fmt.{decimal_digit, decimal-digits_value, decimal_is_IsNumeral, first_decimal}
use Rattle.std.proofs.lemmas.Fmt.{parse-decimal}
use Rattle.asp_command.specs.Saying.{IsNoNumber, IsNumber}

own : IsNumeralModel (AllDigits 10) (digits_value 10)
own = numerals_by_value (AllDigits 10) tells_digits

-- the text of a number that is not 0 begins with a digit other than 0
text_begins : (number : ℕ) → 1 ≤ number → number < 2 ^ 64 → IsInRange 49 57 (get_or (decimal number) 0 0)
text_begins number some fits =
    let numeral = decimal_is_IsNumeral number fits in
    let digit = digit_at (decimal number) 0 numeral.0.1 numeral.0.0 in
    (first_decimal number some fits, digit.1)

-- such a word is the text of what is read of it
read_is_written : {E : Type 0} (word : List ℕ) (read : Result ℕ E) (number : ℕ) → ParsesUnsigned 32 10 word read
    → read ≡ Ok number → IsInRange 49 57 (get_or word 0 0) → word ≡ decimal number
read_is_written word read number parsed is begins =
    let plain = rw is at (parse_plain own 32 word read parsed (omega (arith, begins.0))) in
    let text = decimal-digits_value own word plain.0.0 plain.0.1
    (λ zero_first. absurd (omega (arith, zero_first, begins.0))) (omega (arith, plain.0.2)) in
    sym text ∙ ap decimal (sym plain.1)

-- what is read of such a word is not 0
read_is_some : (word : List ℕ) (number : ℕ) → word ≡ decimal number → IsInRange 49 57 (get_or word 0 0) → 1 ≤ number
read_is_some word zero written begins =
    absurd (omega (arith, begins.0, ap (λ (w : List ℕ). get_or w 0 0) (written ∙ decimal_digit 0 (omega arith))))
read_is_some word (suc number) written begins = omega arith

-- the number that is read of such a word
pub is_number : {E : Type 0} (most : ℕ) (word : List ℕ) (read : Result ℕ E) (number : ℕ)
    → ParsesUnsigned 32 10 word read → read ≡ Ok number → IsInRange 49 57 (get_or word 0 0) → number ≤ most
    → IsNumber most word number
is_number most word read number parsed is begins few =
    let written = read_is_written word read number parsed is begins in
    record { word_is = written; some = read_is_some word number written begins; few = few }

-- another word has none
pub no_text : (most : ℕ) (word : List ℕ) → most < 2 ^ 32 → ¬ (IsInRange 49 57 (get_or word 0 0)) → IsNoNumber most word
no_text most word fits begins number is =
    begins (subst (λ (w : List ℕ). IsInRange 49 57 (get_or w 0 0)) (sym is.word_is)
    (text_begins number is.some (omega arith)))

-- what is read of the text of a number
reads : {E : Type 0} (most : ℕ) (word : List ℕ) (read : Result ℕ E) (number : ℕ) → most < 2 ^ 32
    → ParsesUnsigned 32 10 word read → IsNumber most word number → read ≡ Ok number
reads most word read number fits parsed is =
    parse-decimal 32 number word read (omega arith) (omega arith) is.word_is parsed

-- a word of which a greater number is read has none
pub no_greater : {E : Type 0} (most : ℕ) (word : List ℕ) (read : Result ℕ E) (number : ℕ) → most < 2 ^ 32
    → ParsesUnsigned 32 10 word read → read ≡ Ok number → most < number → IsNoNumber most word
no_greater most word read number fits parsed is great other has =
    let same = reads most word read other fits parsed has in
    let one : number ≡ other = cc in
    absurd (omega (arith, one, has.few))

-- nor has one of which none is read
pub no_reading : {E : Type 0} (most : ℕ) (word : List ℕ) (read : Result ℕ E) (stop : E) → most < 2 ^ 32
    → ParsesUnsigned 32 10 word read → read ≡ Err stop → IsNoNumber most word
no_reading most word read stop fits parsed is other has =
    let same = reads most word read other fits parsed has in
    cc
