-- Array, UBound and LBound (VBScript 5.6, "Array Handling"). The least index of each dimension is 0.
use Rattle.std.specs.Prelude.{◌-◌, ◌==◌, false, if◌then◌else◌, ℤ, pos, negsuc, ◌-ℤ◌, List, [], ◌∷◌}
use Rattle.std.specs.Prelude.{length, Option, Some, None, Result, Ok, Err, slice_get}
use Rattle.vb_value.specs.declared.fault.VbError.{VbError}
use Rattle.vb_value.specs.declared.value.Value.{Value, Arr', Long}
use Rattle.vb_value.specs.declared.value.Value.TheViews.{Arr}
use Rattle.vb_value.specs.Conversions.{to_long_of}
use Rattle.vb_value.specs.Errors.{wrong_number, out_of_range, and_then, type_mismatch, invalid_use_of_null}
use Rattle.vb_value.specs.Arguments.{is_null}

-- Array(..): an array of one dimension that is not fixed, with these values in order
abbrev pub array_of : List Value → Value
array_of values =
    Arr (record { bounds = (pos (length values) -ℤ pos 1) ∷ []; fixed = false; items = values })

-- a bound that was found; Subscript out of range without one
abbrev pub found : Option ℤ → Result ℤ VbError
found (Some bound) = Ok bound
found None = Err out_of_range

-- the bound of a dimension, which counts from 1
abbrev pub bound_at : List ℤ → ℤ → Result ℤ VbError
bound_at bounds (pos n) = if n == 0 then Err out_of_range else found (slice_get bounds (n - 1))
bound_at bounds (negsuc less) = Err out_of_range

-- the bound of a dimension of a value; a Type mismatch where that is no array
abbrev pub bound_in : Value → ℤ → Result ℤ VbError
bound_in (Arr' bounds fixed shape items) dimension = bound_at bounds dimension
bound_in _ dimension = Err type_mismatch

-- the same where the dimension is still to be converted; the value may not be Null
abbrev pub bound_of : Value → Result ℤ VbError → Result ℤ VbError
bound_of value dimension =
    if is_null value then Err invalid_use_of_null else and_then dimension (bound_in value)

-- the bound that the arguments name: that of the first dimension where they name none
abbrev pub named_bound : List Value → Result ℤ VbError
named_bound (value ∷ []) = bound_of value (Ok (pos 1))
named_bound (value ∷ dimension ∷ []) = bound_of value (to_long_of dimension)
named_bound _ = Err wrong_number

-- UBound(a [, d]), a Long
abbrev pub ubound_of : List Value → Result Value VbError
ubound_of arguments = and_then (named_bound arguments) (λ bound. Ok (Long bound))

-- LBound(a [, d]), a Long
abbrev pub lbound_of : List Value → Result Value VbError
lbound_of arguments = and_then (named_bound arguments) (λ _. Ok (Long (pos 0)))
