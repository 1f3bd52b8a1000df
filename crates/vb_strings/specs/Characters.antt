-- Asc, AscW, Chr and ChrW (VBScript 5.6, "String Functions"). Characters are Unicode scalar values.
use Rattle.std.specs.Prelude.{ℕ, ◌-◌, nat_lt, if◌then◌else◌, ℤ, pos, negsuc, ◌-ℤ◌, List, [], ◌∷◌, Result, Ok, Err}
use lib.Utf8.{scalar}
use Rattle.vb_value.specs.declared.fault.VbError.{VbError}
use Rattle.vb_value.specs.declared.value.Value.{Value, Int, Long, Str}
use Rattle.vb_value.specs.Arguments.{of_one}
use Rattle.vb_value.specs.Conversions.{to_long_of, to_str_of}
use Rattle.vb_value.specs.Errors.{and_then, invalid_call}
use Rattle.vb_strings.specs.Repeating.{first_of}

-- the number of a character: an Integer, which from 32768 on is smaller by 65536, and a Long from 65536 on
abbrev pub number_of : ℕ → Value
number_of character =
    if nat_lt character 32768 then Int (pos character)
    else if nat_lt character 65536 then Int (pos character -ℤ pos 65536)
    else Long (pos character)

-- Asc(s) and AscW(s)
abbrev pub asc_of : List Value → Result Value VbError
asc_of = of_one (λ s. and_then (to_str_of s) (λ text.
    and_then (first_of text) (λ first. Ok (number_of first))))

-- the number of a character, where one from -32768 to -1 is smaller by 65536
abbrev pub code_of : ℤ → Result ℕ VbError
code_of (pos n) = Ok n
code_of (negsuc less) = if nat_lt less 32768 then Ok (65535 - less) else Err invalid_call

-- the character of a number, if it is one
abbrev pub character_of : ℕ → Result ℕ VbError
character_of code = if scalar code then Ok code else Err invalid_call

-- Chr(n) and ChrW(n)
abbrev pub chr_of : List Value → Result Value VbError
chr_of = of_one (λ n. and_then (to_long_of n) (λ number. and_then (code_of number) (λ code.
    and_then (character_of code) (λ character. Ok (Str (character ∷ []))))))
