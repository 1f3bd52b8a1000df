-- Space and String (VBScript 5.6, "String Functions").
use Rattle.std.specs.Prelude.{ℕ, ◌%◌, ◌||◌, if◌then◌else◌, ℤ, pos, negsuc, List, [], ◌∷◌, replicate}
use Rattle.std.specs.Prelude.{Result, Ok, Err}
use Rattle.vb_value.specs.declared.fault.VbError.{VbError}
use Rattle.vb_value.specs.declared.value.Value.{Value, Null, Str}
use Rattle.vb_value.specs.Arguments.{of_one, is_null}
use Rattle.vb_value.specs.Characters.{space}
use Rattle.vb_value.specs.Conversions.{to_long_of}
use Rattle.vb_value.specs.Errors.{wrong_number, and_then, invalid_call}
use Rattle.vb_strings.specs.Results.{count_of}

-- a character so many times
abbrev pub repeated : ℤ → ℕ → Result Value VbError
repeated number character = and_then (count_of number) (λ count. Ok (Str (replicate count character)))

-- Space(n)
abbrev pub space_of : List Value → Result Value VbError
space_of = of_one (λ n. and_then (to_long_of n) (λ number. repeated number space))

-- the first character of a text
abbrev pub first_of : List ℕ → Result ℕ VbError
first_of [] = Err invalid_call
first_of (first ∷ rest) = Ok first

-- the character of a number, above 255 taken Mod 256
abbrev pub low_character : ℤ → Result ℕ VbError
low_character (pos n) = Ok (n % 256)
low_character (negsuc less) = Err invalid_call

-- the character that String repeats: the first one of a text, or the one of a number
abbrev pub filling_of : Value → Result ℕ VbError
filling_of (Str text) = first_of text
filling_of value = and_then (to_long_of value) low_character

-- String(n, c) where neither is Null
abbrev pub filled : Value → Value → Result Value VbError
filled n c = and_then (to_long_of n) (λ number. and_then (filling_of c) (repeated number))

-- String(n, c): Null where either is Null
abbrev pub string_of : List Value → Result Value VbError
string_of (n ∷ c ∷ []) = if is_null n || is_null c then Ok Null else filled n c
string_of _ = Err wrong_number
