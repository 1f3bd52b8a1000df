-- What a value is as a number, a text and a Boolean (VBScript 5.6, "Conversion Functions"), each in the
-- order: Empty, Null, Boolean, Integer, Long, Currency, String, array, object, Nothing.
use Rattle.std.specs.Prelude.{ℕ, Bool, true, false, not, if◌then◌else◌, ℤ, pos, negsuc, List, [], Option}
use Rattle.std.specs.Prelude.{Some, None, Result, Ok, Err, codes}
use Rattle.vb_value.specs.declared.fault.VbError.{VbError}
use Rattle.vb_value.specs.declared.number.Number.{Number}
use Rattle.vb_value.specs.declared.number.Number.TheVariants as number
use Rattle.vb_value.specs.declared.value.Value.{Value, Empty, Null, Bool as Boolean, Int, Long, Cur, Str, Arr'}
use Rattle.vb_value.specs.declared.value.Value.{Obj, Nothing}
use Rattle.vb_value.specs.Errors.{type_mismatch, unsupported, object_not_set, invalid_use_of_null, and_then}
use Rattle.vb_value.specs.Folding.{same_name}
use Rattle.vb_value.specs.Numbers.{amount_of, whole_of, as_integer, long_of, is_zero, least_number}
use Rattle.vb_value.specs.NumericText.{cur_of_text_of, whole_text, currency_text}

-- a number as a value
abbrev pub number_value : Number → Value
number_value (number.Int n) = Int n
number_value (number.Long n) = Long n
number_value (number.Cur n) = Cur n

-- a value as a number; that of a text is the first of Integer, Long and Currency that holds it
abbrev pub to_number_of : Value → Result Number VbError
to_number_of Empty = Ok (number.Int (pos 0))
to_number_of Null = Err invalid_use_of_null
to_number_of (Boolean truth) = Ok (number.Int (if truth then negsuc 0 else pos 0))
to_number_of (Int n) = Ok (number.Int n)
to_number_of (Long n) = Ok (number.Long n)
to_number_of (Cur n) = Ok (number.Cur n)
to_number_of (Str text) = and_then (cur_of_text_of text) (λ n. Ok (least_number n))
to_number_of (Arr' bounds fixed shape items) = Err type_mismatch
to_number_of (Obj object) = Err unsupported
to_number_of Nothing = Err object_not_set

-- a value as an Integer, half rounded to even
abbrev pub to_int_of : Value → Result ℤ VbError
to_int_of value = and_then (to_number_of value) (λ number. as_integer (whole_of number))

-- a value as a Long, half rounded to even
abbrev pub to_long_of : Value → Result ℤ VbError
to_long_of value = and_then (to_number_of value) long_of

-- a value as a Currency
abbrev pub to_cur_of : Value → Result ℤ VbError
to_cur_of value = and_then (to_number_of value) (λ number. Ok (amount_of number))

-- the Boolean whose name a text is
abbrev pub named_truth : List ℕ → Option Bool
named_truth text =
    if same_name (codes "true") text then Some true
    else if same_name (codes "false") text then Some false
    else None

-- the Boolean of that name, or else whether a number is not 0
abbrev pub truth_or : Option Bool → Result ℤ VbError → Result Bool VbError
truth_or (Some truth) number = Ok truth
truth_or None number = and_then number (λ n. Ok (not (is_zero n)))

-- a value as a Boolean: a text by its name, any other value by its number
abbrev pub to_bool_of : Value → Result Bool VbError
to_bool_of (Boolean truth) = Ok truth
to_bool_of (Str text) = truth_or (named_truth text) (cur_of_text_of text)
to_bool_of value = truth_or None (to_cur_of value)

-- the text of a number
abbrev pub number_text : Number → List ℕ
number_text (number.Int n) = whole_text n
number_text (number.Long n) = whole_text n
number_text (number.Cur n) = currency_text n

-- a value as a text: Empty as none, a Boolean by its name, any other value by its number
abbrev pub to_str_of : Value → Result (List ℕ) VbError
to_str_of Empty = Ok []
to_str_of (Boolean truth) = Ok (if truth then codes "True" else codes "False")
to_str_of (Str text) = Ok text
to_str_of value = and_then (to_number_of value) (λ n. Ok (number_text n))
