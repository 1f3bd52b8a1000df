-- What each operator gives of values (VBScript 5.6, "Operators").
use Rattle.std.specs.Prelude.{Bool, true, false, if◌then◌else◌, Result, Ok}
use Rattle.vb_value.specs.declared.fault.VbError.{VbError}
use Rattle.vb_value.specs.declared.operator.Op1.{Op1}
use Rattle.vb_value.specs.declared.operator.Op1.TheVariants as operator1
use Rattle.vb_value.specs.declared.operator.Op2.{Op2}
use Rattle.vb_value.specs.declared.operator.Op2.TheVariants.{Multiply, Divide, Modulo, Add, Subtract, Join, Is}
use Rattle.vb_value.specs.declared.operator.Op2.TheVariants.{And, Or, Xor, Eqv, Imp}
use Rattle.vb_value.specs.declared.value.Value.{Value, Null}
use Rattle.vb_value.specs.Conversions.{number_value, to_number_of, to_bool_of}
use Rattle.vb_value.specs.Errors.{and_then}
use Rattle.vb_value.specs.Arguments.{checked, is_null}
use Rattle.vb_ops.specs.Arithmetic.{difference_of, product_of, quotient_of, remainder_of, negative_of, on_numbers}
use Rattle.vb_ops.specs.Joining.{join_of, add_of}
use Rattle.vb_ops.specs.Comparison.{comparison_of, is_of}
use Rattle.vb_ops.specs.Logic.{bits_of, bits_value, not_of, and_of, or_of, xor_of, eqv_of, imp_of, on_bits}

-- the negative of a value; Null of Null
abbrev pub minus_of : Value → Result Value VbError
minus_of value =
    if is_null value then Ok Null
    else and_then (to_number_of value) (λ n. and_then (negative_of n) (λ z. Ok (number_value z)))

-- an operator on one value
abbrev pub apply1_of : Op1 → Value → Result Value VbError
apply1_of operator1.Minus value = and_then (checked value) (λ _. minus_of value)
apply1_of operator1.Not value =
    and_then (checked value) (λ _. and_then (bits_of value) (λ bits. Ok (bits_value (not_of bits))))

-- an operator but `Is` on two values that are no arrays, objects or Nothing
abbrev pub scalars_of : Op2 → Value → Value → Result Value VbError
scalars_of Multiply a b = on_numbers product_of a b
scalars_of Divide a b = on_numbers quotient_of a b
scalars_of Modulo a b = on_numbers remainder_of a b
scalars_of Add a b = add_of a b
scalars_of Subtract a b = on_numbers difference_of a b
scalars_of Join a b = join_of a b
scalars_of And a b = on_bits and_of a b
scalars_of Or a b = on_bits or_of a b
scalars_of Xor a b = on_bits xor_of a b
scalars_of Eqv a b = on_bits eqv_of a b
scalars_of Imp a b = on_bits imp_of a b
scalars_of comparison a b = comparison_of comparison a b

-- whether an operator is `Is`
abbrev pub tests_objects : Op2 → Bool
tests_objects Is = true
tests_objects _ = false

-- an operator on two values; the left side's array, object or Nothing counts before the right side's
abbrev pub apply2_of : Op2 → Value → Value → Result Value VbError
apply2_of op a b =
    if tests_objects op then is_of a b
    else and_then (checked a) (λ _. and_then (checked b) (λ _. scalars_of op a b))

-- whether a condition holds: Null does not
abbrev pub truth_of : Value → Result Bool VbError
truth_of value = if is_null value then Ok false else to_bool_of value
