-- Hex and Oct (VBScript 5.6, "Conversion Functions"): the bits of a value as digits. An Integer has 16 bits; any other
-- value, a text or a Boolean too, is made Long and has 32.
use Rattle.std.specs.Prelude.{ℕ, ◌+◌, ◌-◌, ◌==◌, nat_lt, if◌then◌else◌, List, [], ◌∷◌, map, Result, Ok}
use Rattle.std.specs.Int.{w16, w32, cast_unsigned}
use Rattle.std.specs.Int.Digits.{digits_of}
use Rattle.vb_value.specs.declared.fault.VbError.{VbError}
use Rattle.vb_value.specs.declared.value.Value.{Value, Int}
use Rattle.vb_value.specs.Characters.{digit_zero}
use Rattle.vb_value.specs.Conversions.{to_long_of}
use Rattle.vb_value.specs.Errors.{and_then}
use Rattle.vb_value.specs.TextLimit.{limited}
use Rattle.vb_value.specs.Arguments.{of_one, null_or}

-- `A`, behind which the other letters follow
abbrev pub letter_a : ℕ
letter_a = 65

-- the bits of a value
abbrev pub bits_of : Value → Result ℕ VbError
bits_of (Int n) = Ok (cast_unsigned w16 n)
bits_of value = and_then (to_long_of value) (λ n. Ok (cast_unsigned w32 n))

-- a digit: `0` to `9`, and from 10 on a capital letter
abbrev pub digit_character : ℕ → ℕ
digit_character digit = if nat_lt digit 10 then digit_zero + digit else letter_a + (digit - 10)

-- the digits of a number to a base, highest first and with no zero in front; `0` for 0
abbrev pub based_text : ℕ → ℕ → List ℕ
based_text base n = if n == 0 then digit_zero ∷ [] else map digit_character (digits_of base n)

-- the text of a value's bits to a base
abbrev pub bits_text : ℕ → Value → Result Value VbError
bits_text base x = and_then (bits_of x) (λ bits. limited (based_text base bits))

-- Hex(x)
abbrev pub hex_of : List Value → Result Value VbError
hex_of = of_one (null_or (bits_text 16))

-- Oct(x)
abbrev pub oct_of : List Value → Result Value VbError
oct_of = of_one (null_or (bits_text 8))
