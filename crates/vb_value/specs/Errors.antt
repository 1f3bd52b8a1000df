-- The errors of the language, by their numbers (VBScript 5.6, "VBScript Run-time Errors").
use Rattle.std.specs.Prelude.{ℕ, pos, Result, Ok, Err}
use Rattle.vb_value.specs.declared.fault.VbError.{VbError}
use Rattle.vb_value.specs.declared.fault.VbFault.{VbFault}
use Rattle.vb_value.specs.declared.fault.VbFault.TheVariants.{Error}

-- the error of this number
abbrev pub error : ℕ → VbError
error number = record { number = pos number }

-- Invalid procedure call or argument
abbrev pub invalid_call : VbError
invalid_call = error 5

-- Overflow
abbrev pub overflow : VbError
overflow = error 6

-- Subscript out of range
abbrev pub out_of_range : VbError
out_of_range = error 9

-- This array is fixed or temporarily locked
abbrev pub array_is_fixed : VbError
array_is_fixed = error 10

-- Division by zero
abbrev pub division_by_zero : VbError
division_by_zero = error 11

-- Type mismatch
abbrev pub type_mismatch : VbError
type_mismatch = error 13

-- Out of string space
abbrev pub out_of_string_space : VbError
out_of_string_space = error 14

-- Out of stack space
abbrev pub out_of_stack_space : VbError
out_of_stack_space = error 28

-- Object variable not set
abbrev pub object_not_set : VbError
object_not_set = error 91

-- Invalid use of Null
abbrev pub invalid_use_of_null : VbError
invalid_use_of_null = error 94

-- Object required
abbrev pub object_required : VbError
object_required = error 424

-- ActiveX component can't create object
abbrev pub cannot_create_object : VbError
cannot_create_object = error 429

-- Object doesn't support this property or method
abbrev pub unsupported : VbError
unsupported = error 438

-- Wrong number of arguments or invalid property assignment
abbrev pub wrong_number : VbError
wrong_number = error 450

-- Object not a collection
abbrev pub not_a_collection : VbError
not_a_collection = error 451

-- This key is already associated with an element of this collection
abbrev pub key_exists : VbError
key_exists = error 457

-- Variable is undefined
abbrev pub undefined_variable : VbError
undefined_variable = error 500

-- Illegal assignment
abbrev pub illegal_assignment : VbError
illegal_assignment = error 501

-- Class not defined
abbrev pub undefined_class : VbError
undefined_class = error 506

-- Header Error
abbrev pub header_error : VbError
header_error = error 1156

-- Element not found
abbrev pub element_not_found : VbError
element_not_found = error 32811

-- an answer of the language, as a call reports it that may also run out of memory
abbrev pub reported : {T : Type 0} → Result T VbError → Result T VbFault
reported (Ok given) = Ok given
reported (Err refused) = Err (Error refused.number)

-- what is made of the value that an answer has; an error stays
abbrev pub and_then : {T U : Type 0} → Result T VbError → (T → Result U VbError) → Result U VbError
and_then (Ok given) next = next given
and_then (Err refused) next = Err refused
