-- `&`, and `+` between texts (VBScript 5.6, "Concatenation Operators").
use Rattle.std.specs.Prelude.{ℕ, Bool, true, false, ◌&&◌, ◌||◌, if◌then◌else◌, List, [], ◌++◌, Result, Ok}
use Rattle.vb_value.specs.declared.fault.VbError.{VbError}
use Rattle.vb_value.specs.declared.value.Value.{Value, Null, Str}
use Rattle.vb_value.specs.Conversions.{to_str_of}
use Rattle.vb_value.specs.Errors.{and_then}
use Rattle.vb_value.specs.TextLimit.{limited}
use Rattle.vb_value.specs.Arguments.{is_empty, is_null}
use Rattle.vb_ops.specs.Arithmetic.{on_numbers, sum_of}

-- the text of a value, none for Null
abbrev pub text_of : Value → Result (List ℕ) VbError
text_of value = if is_null value then Ok [] else to_str_of value

-- two values joined as texts; Out of string space where that is too long
abbrev pub joined_values : Value → Value → Result Value VbError
joined_values a b = and_then (text_of a) (λ first. and_then (text_of b) (λ second. limited (first ++ second)))

-- a & b: Null for two Nulls
abbrev pub join_of : Value → Value → Result Value VbError
join_of a b = if is_null a && is_null b then Ok Null else joined_values a b

-- whether a value is a String
abbrev pub is_text : Value → Bool
is_text (Str text) = true
is_text _ = false

-- whether `+` joins its operands: two Strings, or a String and Empty
abbrev pub joins : Value → Value → Bool
joins a b = (is_text a && (is_text b || is_empty b)) || (is_empty a && is_text b)

-- a + b: texts are joined, anything else is added
abbrev pub add_of : Value → Value → Result Value VbError
add_of a b = if joins a b then joined_values a b else on_numbers sum_of a b
