-- Laws of the functions, for readers to hold the definitions against.
use Rattle.std.specs.Prelude.{◌≡◌, ℕ, true, ℤ, pos, ◌*ℤ◌, ◌≤ℤ◌, List, [], ◌∷◌, map, Option, Some, None}
use Rattle.std.specs.Prelude.{Result, Ok, IfOk}
use Rattle.std.specs.List.{list_all}
use Rattle.std.specs.Char.{digit_value}
use Rattle.std.specs.Int.{Width, cast_signed}
use Rattle.std.specs.Int.Digits.{number_from_digits}
use Rattle.vb_value.specs.declared.fault.VbError.{VbError}
use Rattle.vb_value.specs.declared.function.PlainFn.{PlainFn}
use Rattle.vb_value.specs.declared.function.PlainFn.TheVariants as function
use Rattle.vb_value.specs.declared.value.Value.{Value, Int, Cur, Str}
use Rattle.vb_value.specs.Conversions.{to_cur_of}
use Rattle.vb_value.specs.Errors.{and_then}
use Rattle.vb_value.specs.Numbers.{as_currency}
use Rattle.vb_value.specs.Sound.{IsSound, is_sound}
use Rattle.vb_funcs.specs.Functions.{call_func_of}

-- the number whose bits the digits of a text to a base are, for a number of so many bits; none where there
-- is no text
abbrev pub read : Width → ℕ → Result Value VbError → Option ℤ
read width base (Ok (Str text)) = Some (cast_signed width (number_from_digits base (map digit_value text)))
read width base _ = None

-- a function writes a value to a base, so that it reads as a number of so many bits
abbrev pub Writes : PlainFn → ℕ → Width → Value → ℤ → Type 0
Writes f base width value n = read width base (call_func_of f (value ∷ [])) ≡ Some n

-- floor is the greatest number of whole units, in ten-thousandths, that is at most z
pub record IsFloor (z floor : ℤ) : Type 0 where
  pub units : ℤ
  pub whole : floor ≡ units *ℤ pos 10000
  pub at_most : floor ≤ℤ z
  pub greatest : (other : ℤ) → (other *ℤ pos 10000) ≤ℤ z → (other *ℤ pos 10000) ≤ℤ floor

-- Int gives the floor of so many ten-thousandths, and Overflow where that is no Currency
abbrev pub Lowers : ℤ → Type 0
Lowers z = (floor : ℤ) → IsFloor z floor
    → call_func_of function.Int (Cur z ∷ []) ≡ and_then (as_currency floor) (λ n. Ok (Cur n))

-- Fix is Sgn times Int of Abs, by value, where Abs and Int are no Overflow
abbrev pub FixesBySize : Value → Type 0
FixesBySize x = (size whole : Value) (sign part : ℤ) → call_func_of function.Abs (x ∷ []) ≡ Ok size
    → call_func_of function.Int (size ∷ []) ≡ Ok whole → call_func_of function.Sgn (x ∷ []) ≡ Ok (Int sign)
    → to_cur_of whole ≡ Ok part → and_then (call_func_of function.Fix (x ∷ [])) to_cur_of ≡ Ok (sign *ℤ part)

-- what a function gives of the text of a value
abbrev pub of_text : PlainFn → Value → Result Value VbError
of_text f value = and_then (call_func_of function.CStr (value ∷ [])) (λ text. call_func_of f (text ∷ []))

-- the text of a value reads as that value
abbrev pub ReadsAgain : PlainFn → Value → Type 0
ReadsAgain f value = of_text f value ≡ Ok value

-- what the functions give of sound arguments is sound
abbrev pub GivesSound : Type 0
GivesSound = (f : PlainFn) (arguments : List Value) → list_all is_sound arguments ≡ true
    → IfOk (call_func_of f arguments) IsSound
