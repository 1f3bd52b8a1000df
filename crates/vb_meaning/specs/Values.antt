-- Values that are written down, and copies of values (VBScript 5.6 language reference, "VBScript Data Types").
use Rattle.std.specs.Prelude.{suc, ℤ, negsuc, Bool, true, false, List, [], ◌∷◌, replicate}
use Rattle.std.specs.Prelude.{Result, Ok, Err, if◌then◌else◌}
use Rattle.std.specs.List.{list_any}
use Rattle.vb_value.specs.declared.fault.VbError.{VbError}
use Rattle.vb_value.specs.declared.operator.Op1.TheVariants.{Minus}
use Rattle.vb_value.specs.declared.value.Array.{Array, roll-Array}
use Rattle.vb_value.specs.declared.value.ObjNo.{ObjNo}
use Rattle.vb_value.specs.declared.value.Value.{Value, Empty, Null, Bool as Boolean, Int, Long, Str, Obj, Nothing}
use Rattle.vb_value.specs.declared.value.Value.{roll-Value}
use Rattle.vb_value.specs.declared.value.Value.TheFolds.{fold-Value, fold-Array}
use Rattle.vb_value.specs.declared.value.Value.TheOpen.{Value-F, Array-F}
use Rattle.vb_value.specs.declared.value.Value.TheViews.{Arr}
use Rattle.vb_value.specs.Errors.{out_of_range, object_required, object_not_set}
use Rattle.vb_value.specs.Sound.{item_count}
use Rattle.vb_syntax.specs.declared.declaration.ConstantValue.{ConstantValue}
use Rattle.vb_syntax.specs.declared.declaration.ConstantValue.TheVariants as constant
use Rattle.vb_syntax.specs.declared.expression.Literal.{Literal}
use Rattle.vb_syntax.specs.declared.expression.Literal.TheVariants as literal
use Rattle.vb_ops.specs.Operators.{apply1_of}

-- a value that is written down
abbrev pub literal_value : Literal → Value
literal_value literal.Empty = Empty
literal_value literal.Null = Null
literal_value (literal.Boolean truth) = Boolean truth
literal_value (literal.Integer number) = Int number
literal_value (literal.Long number) = Long number
literal_value (literal.Text text) = Str text

-- what a constant stands for; the negative of a number may be no number of its type, nor of Long
abbrev pub constant_value : ConstantValue → Result Value VbError
constant_value (constant.Literal written) = Ok (literal_value written)
constant_value (constant.NegativeInteger number) = apply1_of Minus (Int number)
constant_value (constant.NegativeLong number) = apply1_of Minus (Long number)

-- ---- copies

-- one value, with each array in it as a copy has it
abbrev pub value_copied : Value-F Value Array → Value
value_copied value = roll-Value value

-- one array, which is not fixed, with each item as a copy has it
abbrev pub array_copied : Array-F Value Array → Array
array_copied array = roll-Array (record array { fixed = false })

-- a copy of a value: an array in it, at any depth, is not fixed
abbrev pub copied : Value → Value
copied = fold-Value Value Array value_copied array_copied

-- a copy of an array
abbrev pub copied_array : Array → Array
copied_array = fold-Array Value Array value_copied array_copied

-- ---- arrays

-- an array of these bounds with the value Empty for each item
abbrev pub empty_array : Bool → List ℤ → Array
empty_array fixed bounds = record { bounds = bounds; fixed = fixed; items = replicate (item_count bounds) Empty }

-- whether a bound is below -1
abbrev pub is_bad_bound : ℤ → Bool
is_bad_bound (negsuc (suc below)) = true
is_bad_bound _ = false

-- an array that is declared: fixed where it has bounds, and to be sized later where it has none
abbrev pub declared_array : List ℤ → Result Value VbError
declared_array [] = Ok (Arr (empty_array false []))
declared_array (bound ∷ bounds) =
    if list_any is_bad_bound (bound ∷ bounds) then Err out_of_range else Ok (Arr (empty_array true (bound ∷ bounds)))

-- ---- objects

-- the object that a value is; Object required where it is a scalar or an array
abbrev pub object_in : Value → Result ObjNo VbError
object_in (Obj object) = Ok object
object_in Nothing = Err object_not_set
object_in _ = Err object_required
