-- What the operators give is sound: numbers, Booleans, Null, and texts within the limit.
use Rattle.std.proofs.Common.{Bool, true, false, ◌&&◌, if◌then◌else◌, Option, Some, None, Result, Ok, IfOk, ◌++◌}
use Rattle.std.specs.declared.cmp.Ordering.{Ordering}
use Rattle.vb_value.specs.declared.fault.VbError.{VbError}
use Rattle.vb_value.specs.declared.number.Number.{Number}
use Rattle.vb_value.specs.declared.operator.Op1.TheVariants as operator1
use Rattle.vb_value.specs.declared.operator.Op2.{Op2}
use Rattle.vb_value.specs.declared.operator.Op2.TheVariants as operator
use Rattle.vb_value.specs.declared.value.Value.{Value, Null, Bool as Boolean}
use Rattle.vb_value.specs.Arguments.{checked, is_null}
use Rattle.vb_value.specs.Conversions.{number_value, to_number_of}
use Rattle.vb_value.specs.Errors.{and_then}
use Rattle.vb_value.specs.Sound.{IsSound}
use Rattle.vb_value.specs.TextLimit.{limited}
use Rattle.vb_value.proofs.Soundness.{sound-Bool, sound-Null, sound-Int, sound-Long, sound_number, sound_limited, each_ok}
use Rattle.vb_ops.specs.declared.logic.Bits.{Bits}
use Rattle.vb_ops.specs.declared.logic.Bits.TheVariants as bits
use Rattle.vb_ops.specs.Arithmetic.{applied, on_numbers, numbers_of, negative_of, sum_of, difference_of, product_of}
use Rattle.vb_ops.specs.Arithmetic.{quotient_of, remainder_of}
use Rattle.vb_ops.specs.Comparison.{comparison_value, holds, is_of, is_same, object_of, order_between}
use Rattle.vb_ops.specs.Joining.{joined_values, joins, text_of}
use Rattle.vb_ops.specs.Logic.{bits_of, bits_value, not_of, and_of, or_of, xor_of, eqv_of, imp_of, on_bits}
use Rattle.vb_ops.specs.Operators.{minus_of, scalars_of, tests_objects}
use Rattle.operator_laws.specs.Laws.{GivesSoundOfOne, GivesSoundOfTwo}

sound_bits : (a : Bits) → IsSound (bits_value a)
sound_bits (bits.Truth truth) = sound-Bool truth
sound_bits (bits.Integer n) = sound-Int n
sound_bits (bits.Long n) = sound-Long n
sound_bits bits.Unknown = sound-Null

one_of : (first : Bool) (a b : Result Value VbError) → IfOk a IsSound → IfOk b IsSound
    → IfOk (if first then a else b) IsSound
one_of true a b left right = left
one_of false a b left right = right

sound_applied : (operator : Number → Number → Result Number VbError) (numbers : Option (Number × Number))
    → IfOk (applied operator numbers) IsSound
sound_applied operator None = sound-Null
sound_applied operator (Some numbers) =
    each_ok (operator numbers.0 numbers.1) (λ z. Ok (number_value z)) IsSound sound_number

sound_numbers : (operator : Number → Number → Result Number VbError) (a b : Value)
    → IfOk (on_numbers operator a b) IsSound
sound_numbers operator a b = each_ok (numbers_of a b) (applied operator) IsSound (sound_applied operator)

sound_logic : (operator : Bits → Bits → Bits) (a b : Value) → IfOk (on_bits operator a b) IsSound
sound_logic operator a b =
    each_ok (bits_of a) (λ x. and_then (bits_of b) (λ y. Ok (bits_value (operator x y)))) IsSound
    (λ x. each_ok (bits_of b) (λ y. Ok (bits_value (operator x y))) IsSound (λ y. sound_bits (operator x y)))

sound_texts : (a b : Value) → IfOk (joined_values a b) IsSound
sound_texts a b =
    each_ok (text_of a) (λ first. and_then (text_of b) (λ second. limited (first ++ second))) IsSound
    (λ first. each_ok (text_of b) (λ second. limited (first ++ second)) IsSound
    (λ second. sound_limited (first ++ second)))

sound_comparison : (op : Op2) (order : Option Ordering) → IsSound (comparison_value op order)
sound_comparison op None = sound-Null
sound_comparison op (Some order) = sound-Bool (holds op order)

sound_is : (a b : Value) → IfOk (is_of a b) IsSound
sound_is a b =
    each_ok (object_of a) (λ x. and_then (object_of b) (λ y. Ok (Boolean (is_same x y)))) IsSound
    (λ x. each_ok (object_of b) (λ y. Ok (Boolean (is_same x y))) IsSound (λ y. sound-Bool (is_same x y)))

sound_scalars : (op : Op2) (a b : Value) → IfOk (scalars_of op a b) IsSound
sound_scalars operator.Multiply a b = sound_numbers product_of a b
sound_scalars operator.Divide a b = sound_numbers quotient_of a b
sound_scalars operator.Modulo a b = sound_numbers remainder_of a b
sound_scalars operator.Add a b =
    one_of (joins a b) (joined_values a b) (on_numbers sum_of a b) (sound_texts a b) (sound_numbers sum_of a b)
sound_scalars operator.Subtract a b = sound_numbers difference_of a b
sound_scalars operator.Join a b =
    one_of (is_null a && is_null b) (Ok Null) (joined_values a b) sound-Null (sound_texts a b)
sound_scalars operator.And a b = sound_logic and_of a b
sound_scalars operator.Or a b = sound_logic or_of a b
sound_scalars operator.Xor a b = sound_logic xor_of a b
sound_scalars operator.Eqv a b = sound_logic eqv_of a b
sound_scalars operator.Imp a b = sound_logic imp_of a b
sound_scalars comparison a b = sound_comparison comparison (order_between a b)

pub sound_of_two : GivesSoundOfTwo
sound_of_two op a b sound_a sound_b =
    one_of (tests_objects op) (is_of a b) (and_then (checked a) (λ _. and_then (checked b) (λ _. scalars_of op a b)))
    (sound_is a b)
    (each_ok (checked a) (λ _. and_then (checked b) (λ _. scalars_of op a b)) IsSound
    (λ _. each_ok (checked b) (λ _. scalars_of op a b) IsSound (λ _. sound_scalars op a b)))

sound_minus : (value : Value) → IfOk (minus_of value) IsSound
sound_minus value =
    one_of (is_null value) (Ok Null)
    (and_then (to_number_of value) (λ n. and_then (negative_of n) (λ z. Ok (number_value z)))) sound-Null
    (each_ok (to_number_of value) (λ n. and_then (negative_of n) (λ z. Ok (number_value z))) IsSound
    (λ n. each_ok (negative_of n) (λ z. Ok (number_value z)) IsSound sound_number))

pub sound_of_one : GivesSoundOfOne
sound_of_one operator1.Minus value sound =
    each_ok (checked value) (λ _. minus_of value) IsSound (λ _. sound_minus value)
sound_of_one operator1.Not value sound =
    each_ok (checked value) (λ _. and_then (bits_of value) (λ bits. Ok (bits_value (not_of bits)))) IsSound
    (λ _. each_ok (bits_of value) (λ bits. Ok (bits_value (not_of bits))) IsSound (λ bits. sound_bits (not_of bits)))
