-- IsArray, IsEmpty, IsNull, IsObject, IsNumeric and VarType (VBScript 5.6, "Variants"). They take any value.
use Rattle.std.specs.Prelude.{Bool, true, false, ℤ, pos, List, Result, Ok, is_ok}
use Rattle.vb_value.specs.declared.fault.VbError.{VbError}
use Rattle.vb_value.specs.declared.value.Value.{Value, Empty, Null, Bool as Boolean, Int, Long, Cur, Str, Arr'}
use Rattle.vb_value.specs.declared.value.Value.{Obj, Nothing}
use Rattle.vb_value.specs.NumericText.{cur_of_text_of}
use Rattle.vb_value.specs.Arguments.{of_one}

-- what a test of one value gives
abbrev pub tested : (Value → Bool) → List Value → Result Value VbError
tested test = of_one (λ x. Ok (Boolean (test x)))

-- whether a value is an array
abbrev pub is_array : Value → Bool
is_array (Arr' bounds fixed shape items) = true
is_array _ = false

-- whether a value is an object or Nothing
abbrev pub is_object : Value → Bool
is_object (Obj object) = true
is_object Nothing = true
is_object _ = false

-- whether a value is Empty, a Boolean, a number, or a text that is a Currency
abbrev pub is_numeric : Value → Bool
is_numeric Empty = true
is_numeric (Boolean truth) = true
is_numeric (Int n) = true
is_numeric (Long n) = true
is_numeric (Cur n) = true
is_numeric (Str text) = is_ok (cur_of_text_of text)
is_numeric _ = false

-- the number of a value's kind
abbrev pub kind_of : Value → ℤ
kind_of Empty = pos 0
kind_of Null = pos 1
kind_of (Int n) = pos 2
kind_of (Long n) = pos 3
kind_of (Cur n) = pos 6
kind_of (Str text) = pos 8
kind_of (Obj object) = pos 9
kind_of Nothing = pos 9
kind_of (Boolean truth) = pos 11
kind_of (Arr' bounds fixed shape items) = pos 8204

-- VarType(x), an Integer
abbrev pub var_type_of : List Value → Result Value VbError
var_type_of = of_one (λ x. Ok (Int (kind_of x)))
