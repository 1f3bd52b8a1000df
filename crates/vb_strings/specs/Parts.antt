-- Len, Left, Right, Mid and the trims (VBScript 5.6, "String Functions").
use Rattle.std.specs.Prelude.{ℕ, ◌-◌, Bool, ◌==◌, List, [], ◌∷◌, length, take, drop, Result, Ok, Err}
use Rattle.vb_value.specs.declared.fault.VbError.{VbError}
use Rattle.vb_value.specs.declared.value.Value.{Value, Str}
use Rattle.vb_value.specs.Arguments.{of_one, null_or}
use Rattle.vb_value.specs.Characters.{space}
use Rattle.vb_value.specs.Conversions.{to_long_of, to_str_of}
use Rattle.vb_value.specs.Errors.{wrong_number, and_then}
use Rattle.vb_value.specs.NumericText.{without_first, without_last}
use Rattle.vb_strings.specs.Results.{count_of, before_place, long}

-- Len(s): the number of its characters
abbrev pub len_of : List Value → Result Value VbError
len_of = of_one (null_or (λ value. and_then (to_str_of value) (λ text. long (length text))))

-- at most so many characters from the front
abbrev pub front : List ℕ → ℕ → List ℕ
front text count = take count text

-- at most so many characters from the end
abbrev pub back : List ℕ → ℕ → List ℕ
back text count = drop (length text - count) text

-- a part of a text that a count measures
abbrev pub part : (List ℕ → ℕ → List ℕ) → Value → Value → Result Value VbError
part measured s n =
    and_then (to_str_of s) (λ text. and_then (to_long_of n) (λ number.
    and_then (count_of number) (λ count. Ok (Str (measured text count)))))

-- Left(s, n)
abbrev pub left_of : List Value → Result Value VbError
left_of (s ∷ n ∷ []) = null_or (λ value. part front value n) s
left_of _ = Err wrong_number

-- Right(s, n)
abbrev pub right_of : List Value → Result Value VbError
right_of (s ∷ n ∷ []) = null_or (λ value. part back value n) s
right_of _ = Err wrong_number

-- a text from a place on
abbrev pub rest : Value → Value → Result Value VbError
rest s i =
    and_then (to_str_of s) (λ text. and_then (to_long_of i) (λ place.
    and_then (before_place place) (λ skipped. Ok (Str (drop skipped text)))))

-- at most so many characters of a text from a place on
abbrev pub middle : Value → Value → Value → Result Value VbError
middle s i n =
    and_then (to_str_of s) (λ text. and_then (to_long_of i) (λ place. and_then (to_long_of n) (λ number.
    and_then (before_place place) (λ skipped. and_then (count_of number) (λ count.
    Ok (Str (take count (drop skipped text))))))))

-- Mid(s, i [, n])
abbrev pub mid_of : List Value → Result Value VbError
mid_of (s ∷ i ∷ []) = null_or (λ value. rest value i) s
mid_of (s ∷ i ∷ n ∷ []) = null_or (λ value. middle value i n) s
mid_of _ = Err wrong_number

-- a space
abbrev pub is_space : ℕ → Bool
is_space character = character == space

-- a text made of another
abbrev pub changed : (List ℕ → List ℕ) → Value → Result Value VbError
changed change s = and_then (to_str_of s) (λ text. Ok (Str (change text)))

-- LTrim(s): without the spaces at its beginning
abbrev pub ltrim_of : List Value → Result Value VbError
ltrim_of = of_one (null_or (changed (without_first is_space)))

-- RTrim(s): without the spaces at its end
abbrev pub rtrim_of : List Value → Result Value VbError
rtrim_of = of_one (null_or (changed (without_last is_space)))

-- Trim(s): without both
abbrev pub trim_of : List Value → Result Value VbError
trim_of = of_one (null_or (changed (λ text. without_last is_space (without_first is_space text))))
