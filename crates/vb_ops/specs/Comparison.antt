-- `=`, `<>`, `<`, `>`, `<=`, `>=` and `Is` (VBScript 5.6, "Comparison Operators"). That a number is less than any
-- String is our own.
use Rattle.std.specs.Prelude.{ℕ, Bool, true, false, ◌||◌, ◌==◌, if◌then◌else◌, ℤ, pos, negsuc, ◌*ℤ◌, List, []}
use Rattle.std.specs.Prelude.{Option, Some, None, Result, Ok, Err}
use Rattle.std.specs.declared.cmp.Ordering.{Ordering}
use Rattle.std.specs.declared.cmp.Ordering.TheVariants.{Less, Equal, Greater}
use Rattle.std.specs.Ordering.{nat_cmp, int_cmp}
use Rattle.std.specs.Cmp.Lexicographic.{slice_cmp}
use Rattle.vb_value.specs.declared.fault.VbError.{VbError}
use Rattle.vb_value.specs.declared.operator.Op2.{Op2}
use Rattle.vb_value.specs.declared.operator.Op2.TheVariants as operator
use Rattle.vb_value.specs.declared.value.ObjNo.{ObjNo}
use Rattle.vb_value.specs.declared.value.Value.{Value, Empty, Null, Bool as Boolean, Int, Long, Cur, Str, Obj}
use Rattle.vb_value.specs.declared.value.Value.{Nothing}
use Rattle.vb_value.specs.Errors.{and_then, object_required}
use Rattle.vb_value.specs.Arguments.{checked, is_null}

-- the value of a number, a Boolean or Empty in ten-thousandths
abbrev pub amount_in : Value → ℤ
amount_in (Boolean truth) = (if truth then negsuc 9999 else pos 0)
amount_in (Int n) = n *ℤ pos 10000
amount_in (Long n) = n *ℤ pos 10000
amount_in (Cur n) = n
amount_in _ = pos 0

-- a number against a value: it is less than a String, and two numbers compare by value
abbrev pub amount_order : ℤ → Value → Ordering
amount_order amount (Str text) = Less
amount_order amount value = int_cmp amount (amount_in value)

-- Empty against a value: it is "" beside a String, and else 0
abbrev pub empty_order : Value → Ordering
empty_order (Str text) = slice_cmp nat_cmp [] text
empty_order value = amount_order (pos 0) value

-- a String against a value: two compare by the numbers of their characters, and Empty is ""
abbrev pub text_order : List ℕ → Value → Ordering
text_order text (Str other) = slice_cmp nat_cmp text other
text_order text Empty = slice_cmp nat_cmp text []
text_order text value = Greater

-- how two values compare that are no arrays, objects, Nothing or Null
abbrev pub scalar_order : Value → Value → Ordering
scalar_order (Str text) b = text_order text b
scalar_order Empty b = empty_order b
scalar_order a b = amount_order (amount_in a) b

-- how two such values or Null compare; not at all beside Null
abbrev pub order_between : Value → Value → Option Ordering
order_between a b = if is_null a || is_null b then None else Some (scalar_order a b)

-- how two values compare
abbrev pub compare_of : Value → Value → Result (Option Ordering) VbError
compare_of a b = and_then (checked a) (λ _. and_then (checked b) (λ _. Ok (order_between a b)))

-- whether a comparison holds for an order; any other operator holds for none
abbrev pub holds : Op2 → Ordering → Bool
holds operator.Equal Equal = true
holds operator.Unequal Less = true
holds operator.Unequal Greater = true
holds operator.Less Less = true
holds operator.Greater Greater = true
holds operator.AtMost Less = true
holds operator.AtMost Equal = true
holds operator.AtLeast Greater = true
holds operator.AtLeast Equal = true
holds _ _ = false

-- what a comparison gives: Null beside Null, else a Boolean
abbrev pub comparison_value : Op2 → Option Ordering → Value
comparison_value op None = Null
comparison_value op (Some order) = Boolean (holds op order)

-- a comparison of two values that are no arrays, objects or Nothing
abbrev pub comparison_of : Op2 → Value → Value → Result Value VbError
comparison_of op a b = Ok (comparison_value op (order_between a b))

-- the object of a value, none for Nothing; Object required of another value
abbrev pub object_of : Value → Result (Option ObjNo) VbError
object_of (Obj object) = Ok (Some object)
object_of Nothing = Ok None
object_of _ = Err object_required

-- whether two are the same object, or both none
abbrev pub is_same : Option ObjNo → Option ObjNo → Bool
is_same (Some a) (Some b) = a.0 == b.0
is_same None None = true
is_same _ _ = false

-- a Is b
abbrev pub is_of : Value → Value → Result Value VbError
is_of a b = and_then (object_of a) (λ x. and_then (object_of b) (λ y. Ok (Boolean (is_same x y))))
