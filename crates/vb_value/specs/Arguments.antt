-- What a function asks of its arguments before anything else. The order is our own: how many there are,
-- then Null where that gives Null, then each argument's conversion from left to right, then what else a function
-- asks.
use Rattle.std.specs.Prelude.{Bool, true, false, if◌then◌else◌, List, [], ◌∷◌, Result, Ok, Err}
use Rattle.vb_value.specs.declared.fault.VbError.{VbError}
use Rattle.vb_value.specs.declared.value.Value.{Value, Empty, Null, Arr', Obj, Nothing}
use Rattle.vb_value.specs.Errors.{wrong_number, type_mismatch, unsupported, object_not_set, and_then}

-- the argument of a function that takes one
abbrev pub the_argument : List Value → Result Value VbError
the_argument (argument ∷ []) = Ok argument
the_argument _ = Err wrong_number

-- what a function of one argument gives
abbrev pub of_one : (Value → Result Value VbError) → List Value → Result Value VbError
of_one function arguments = and_then (the_argument arguments) function

-- whether a value is Null
abbrev pub is_null : Value → Bool
is_null Null = true
is_null _ = false

-- whether a value is Empty
abbrev pub is_empty : Value → Bool
is_empty Empty = true
is_empty _ = false

-- the error of a value that is no text, number, Boolean, Empty or Null, which no conversion and no operator but `Is`
-- takes
abbrev pub checked : Value → Result (Unit {0}) VbError
checked (Arr' bounds fixed shape items) = Err type_mismatch
checked (Obj object) = Err unsupported
checked Nothing = Err object_not_set
checked _ = Ok tt

-- Null for Null, and what a function gives for another value
abbrev pub null_or : (Value → Result Value VbError) → Value → Result Value VbError
null_or function value = if is_null value then Ok Null else function value
