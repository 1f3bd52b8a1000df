-- Texts that are numbers, and the texts of numbers. We write numbers with digits alone: no
-- exponent, no separator of thousands, no hexadecimal.
use Rattle.std.specs.Prelude.{ℕ, suc, ◌+◌, ◌*◌, ◌-◌, ◌/◌, ◌%◌, ◌^◌, Bool, false, not, ◌&&◌, ◌||◌, ◌==◌}
use Rattle.std.specs.Prelude.{if◌then◌else◌, ℤ, pos, negsuc, neg_ℤ, List, [], ◌∷◌, ◌++◌, length, map, reverse}
use Rattle.std.specs.Prelude.{Result, Err}
use Rattle.std.specs.List.{before_first, after_first, list_all}
use Rattle.std.specs.Char.{is_ascii_digit}
use Rattle.std.specs.Int.Digits.{number_from_digits, digits_of}
use Rattle.vb_value.specs.declared.fault.VbError.{VbError}
use Rattle.vb_value.specs.Characters.{is_blank, plus_sign, minus_sign, full_stop, digit_zero}
use Rattle.vb_value.specs.Errors.{type_mismatch}
use Rattle.vb_value.specs.Numbers.{rounded, as_currency}

-- a list without the items at its beginning that pass the test
abbrev pub without_first : (ℕ → Bool) → List ℕ → List ℕ
without_first test [] = []
without_first test (first ∷ rest) = if test first then without_first test rest else first ∷ rest

-- a list without the items at its end that pass the test
abbrev pub without_last : (ℕ → Bool) → List ℕ → List ℕ
without_last test items = reverse (without_first test (reverse items))

-- ---- reading

-- a text without the blanks at its ends
abbrev pub trimmed : List ℕ → List ℕ
trimmed text = without_last is_blank (without_first is_blank text)

-- whether a `-` stands first
abbrev pub has_minus : List ℕ → Bool
has_minus [] = false
has_minus (first ∷ rest) = first == minus_sign

-- a text without the one `+` or `-` that stands first, if any
abbrev pub unsigned : List ℕ → List ℕ
unsigned [] = []
unsigned (first ∷ rest) = if first == plus_sign || first == minus_sign then rest else first ∷ rest

-- a point
abbrev pub is_point : ℕ → Bool
is_point c = c == full_stop

-- the characters before the first point
abbrev pub whole_digits : List ℕ → List ℕ
whole_digits text = before_first is_point (unsigned (trimmed text))

-- the characters behind the first point
abbrev pub decimal_digits : List ℕ → List ℕ
decimal_digits text = after_first is_point (unsigned (trimmed text))

-- digits alone, one at least, with a point before the decimals or at either end
abbrev pub is_numeral : List ℕ → List ℕ → Bool
is_numeral whole decimals = list_all is_ascii_digit whole && list_all is_ascii_digit decimals
    && not (length whole == 0 && length decimals == 0)

-- the number that a digit writes
abbrev pub digit_of : ℕ → ℕ
digit_of c = if is_ascii_digit c then c - digit_zero else 0

-- the number that digits write
unfoldable pub number_of : List ℕ → ℕ
number_of digits = number_from_digits 10 (map digit_of digits)

-- the size of a numeral in ten-thousandths: all its digits as one number, divided by 10 for each
-- decimal, rounded half to even at the fourth decimal
unfoldable pub numeral_size : List ℕ → List ℕ → ℕ
numeral_size whole decimals =
    rounded (10 ^ length decimals) (number_of (whole ++ decimals) * 10000)

-- a size with a sign
abbrev pub signed : Bool → ℕ → ℤ
signed minus size = if minus then neg_ℤ (pos size) else pos size

-- a numeric text as a Currency: blanks, a sign or none, a numeral, blanks. A Type mismatch for others
abbrev pub cur_of_text_of : List ℕ → Result ℤ VbError
cur_of_text_of text =
    if is_numeral (whole_digits text) (decimal_digits text) then as_currency
    (signed (has_minus (trimmed text)) (numeral_size (whole_digits text) (decimal_digits text)))
    else Err type_mismatch

-- ---- writing

-- the digits of a number, highest first and with no zero in front; `0` for 0
abbrev pub decimal_text : ℕ → List ℕ
decimal_text n = if n == 0 then digit_zero ∷ [] else map (λ digit. digit_zero + digit) (digits_of 10 n)

-- a whole number, with `-` in front of a negative one
abbrev pub whole_text : ℤ → List ℕ
whole_text (pos n) = decimal_text n
whole_text (negsuc n) = minus_sign ∷ decimal_text (suc n)

-- four digits
abbrev pub four_digits : ℕ → List ℕ
four_digits n =
    (digit_zero + n / 1000) ∷ (digit_zero + n / 100 % 10) ∷ (digit_zero + n / 10 % 10)
    ∷ (digit_zero + n % 10) ∷ []

-- a point and the decimals of so many ten-thousandths, without the zeros at their end; nothing for 0
abbrev pub decimals_text : ℕ → List ℕ
decimals_text n = if n == 0 then [] else full_stop ∷ without_last (λ c. c == digit_zero) (four_digits n)

-- the text of a size in ten-thousandths: its whole part, and its decimals if it has any
abbrev pub size_text : ℕ → List ℕ
size_text size = decimal_text (size / 10000) ++ decimals_text (size % 10000)

-- a Currency, with `-` in front of a negative one
abbrev pub currency_text : ℤ → List ℕ
currency_text (pos size) = size_text size
currency_text (negsuc less) = minus_sign ∷ size_text (suc less)
