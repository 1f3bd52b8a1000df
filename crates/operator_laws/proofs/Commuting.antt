-- Operators whose operands may change sides.
use Rattle.std.proofs.Common.{◌≡◌, ℕ, Bool, true, false, ◌&&◌, ◌||◌, if◌then◌else◌, IsTrue, ℤ, pos, negsuc}
use Rattle.std.proofs.Common.{◌+ℤ◌, ◌*ℤ◌, ◌^◌, Result, Ok, Err, Some, None, refl, sym, ap, ◌∙◌}
use Rattle.std.proofs.Math.IntN.{+ℤ_comm, *ℤ_comm}
use Rattle.std.proofs.lemmas.Nat.{and_comm, or_comm, xor_comm}
use Rattle.std.specs.Int.{Width, w16, w32, cast_signed, cast_unsigned}
use Rattle.vb_value.specs.declared.fault.VbError.{VbError}
use Rattle.vb_value.specs.declared.number.Number.{Number}
use Rattle.vb_value.specs.declared.number.Number.TheVariants as number
use Rattle.vb_value.specs.declared.operator.Op2.{Op2}
use Rattle.vb_value.specs.declared.operator.Op2.TheVariants as operator
use Rattle.vb_value.specs.declared.value.Value.{Value, Empty, Null, Bool as Boolean, Int, Long, Cur, Str, Arr'}
use Rattle.vb_value.specs.declared.value.Value.{Obj, Nothing}
use Rattle.vb_value.specs.Conversions.{to_number_of}
use Rattle.vb_value.specs.Errors.{and_then, overflow}
use Rattle.vb_value.specs.Numbers.{amount_of, int_rounded, is_within}
use Rattle.vb_ops.specs.declared.logic.Bits.{Bits}
use Rattle.vb_ops.specs.declared.logic.Bits.TheVariants as bits
use Rattle.vb_value.specs.Arguments.{checked, is_empty, is_null}
use Rattle.vb_value.specs.Conversions.{number_value}
use Rattle.vb_ops.specs.Arithmetic.{aligned, combined, sum_of, product_of, applied, on_numbers, integer_or_long}
use Rattle.vb_ops.specs.Arithmetic.{long, currency}
use Rattle.vb_ops.specs.Joining.{add_of, joined_values, is_text}
use Rattle.vb_ops.specs.Logic.{number_in as bits_number, bits_of, paired, merged, at_width, and_of, or_of}
use Rattle.vb_ops.specs.Logic.{xor_of, eqv_of, not_of, differ, on_bits, bits_value}
use Rattle.vb_ops.specs.Operators.{apply2_of, scalars_of, tests_objects}
use Rattle.operator_laws.specs.Laws.{is_simple, Commutes}

-- ---- numbers

swapped_kinds : (whole amount : ℤ → ℤ → ℤ) → ((x y : ℤ) → whole x y ≡ whole y x)
    → ((x y : ℤ) → amount x y ≡ amount y x)
    → (a b : Number) → combined whole amount (aligned a b) ≡ combined whole amount (aligned b a)
swapped_kinds whole amount w c (number.Int a) (number.Int b) = ap integer_or_long (w a b)
swapped_kinds whole amount w c (number.Int a) (number.Long b) = ap long (w a b)
swapped_kinds whole amount w c (number.Int a) (number.Cur b) = ap currency (c (amount_of (number.Int a)) b)
swapped_kinds whole amount w c (number.Long a) (number.Int b) = ap long (w a b)
swapped_kinds whole amount w c (number.Long a) (number.Long b) = ap long (w a b)
swapped_kinds whole amount w c (number.Long a) (number.Cur b) = ap currency (c (amount_of (number.Long a)) b)
swapped_kinds whole amount w c (number.Cur a) (number.Int b) = ap currency (c a (amount_of (number.Int b)))
swapped_kinds whole amount w c (number.Cur a) (number.Long b) = ap currency (c a (amount_of (number.Long b)))
swapped_kinds whole amount w c (number.Cur a) (number.Cur b) = ap currency (c a b)

sums_swapped : (a b : Number) → sum_of a b ≡ sum_of b a
sums_swapped = swapped_kinds (λ x y. x +ℤ y) (λ x y. x +ℤ y) +ℤ_comm +ℤ_comm

products_swapped : (a b : Number) → product_of a b ≡ product_of b a
products_swapped =
    swapped_kinds (λ x y. x *ℤ y) (λ x y. int_rounded 10000 (x *ℤ y)) *ℤ_comm
    (λ x y. ap (int_rounded 10000) (*ℤ_comm x y))

-- the number of a simple value that is not Null
pub number_in : Value → Number
number_in (Boolean truth) = number.Int (if truth then negsuc 0 else pos 0)
number_in (Int n) = number.Int n
number_in (Long n) = number.Long n
number_in (Cur n) = number.Cur n
number_in _ = number.Int (pos 0)

pub record Known (value : Value) : Type 0 where
  pub fine : checked value ≡ Ok tt
  pub text : is_text value ≡ false
  pub number : is_null value ≡ false → to_number_of value ≡ Ok (number_in value)

known : (value : Value) → IsTrue (is_simple value) → Known value
unfolding number_in
known Empty simple = record { fine = refl; text = refl; number = λ _. refl }
known Null simple = record { fine = refl; text = refl; number = λ no. absurd (cc) }
known (Boolean truth) simple = record { fine = refl; text = refl; number = λ _. refl }
known (Int n) simple = record { fine = refl; text = refl; number = λ _. refl }
known (Long n) simple = record { fine = refl; text = refl; number = λ _. refl }
known (Cur n) simple = record { fine = refl; text = refl; number = λ _. refl }
known (Str text) simple = absurd (cc)
known (Arr' bounds fixed shape items) simple = absurd (cc)
known (Obj object) simple = absurd (cc)
known Nothing simple = absurd (cc)

numbers_case : (operator : Number → Number → Result Number VbError) → ((x y : Number) → operator x y ≡ operator y x)
    → (no_a no_b : Bool) (first second : Result Number VbError) (x y : Number)
    → (no_a ≡ false → first ≡ Ok x) → (no_b ≡ false → second ≡ Ok y)
    → and_then (if no_a || no_b then Ok None else and_then first (λ x. and_then second (λ y. Ok (Some (x, y)))))
    (applied operator)
    ≡ and_then (if no_b || no_a then Ok None else and_then second (λ y. and_then first (λ x. Ok (Some (y, x)))))
    (applied operator)
numbers_case operator swaps true true first second x y f g = refl
numbers_case operator swaps true false first second x y f g = refl
numbers_case operator swaps false true first second x y f g = refl
numbers_case operator swaps false false first second x y f g =
    let is_x : first ≡ Ok x = f refl in
    let is_y : second ≡ Ok y = g refl in
    rw (is_x, is_y) (ap (λ r. and_then r (λ z. Ok (number_value z))) (swaps x y))

-- an operator on numbers that may be swapped, at values
swapped_numbers : (operator : Number → Number → Result Number VbError)
    → ((x y : Number) → operator x y ≡ operator y x)
    → (a b : Value) → IsTrue (is_simple a) → IsTrue (is_simple b) → on_numbers operator a b ≡ on_numbers operator b a
swapped_numbers operator swaps a b simple_a simple_b =
    numbers_case operator swaps (is_null a) (is_null b) (to_number_of a) (to_number_of b) (number_in a) (number_in b)
    (known a simple_a).number (known b simple_b).number

-- an operator on two simple values is what it gives of scalars
scalars : (op : Op2) → tests_objects op ≡ false → (a b : Value) → IsTrue (is_simple a) → IsTrue (is_simple b)
    → apply2_of op a b ≡ scalars_of op a b
scalars op other a b simple_a simple_b = rw (other, (known a simple_a).fine, (known b simple_b).fine) refl

swapped : (op : Op2) → tests_objects op ≡ false
    → ((a b : Value) → IsTrue (is_simple a) → IsTrue (is_simple b) → scalars_of op a b ≡ scalars_of op b a)
    → Commutes op
swapped op other swaps a b simple_a simple_b =
    scalars op other a b simple_a simple_b ∙
    (swaps a b simple_a simple_b ∙ sym (scalars op other b a simple_b simple_a))

and_false : (b : Bool) → b && false ≡ false
and_false true = refl
and_false false = refl

no_texts : (text_a text_b empty_a empty_b : Bool) → text_a ≡ false → text_b ≡ false
    → ((text_a && (text_b || empty_b)) || (empty_a && text_b)) ≡ false
no_texts text_a text_b empty_a empty_b no_a no_b = rw (no_a, no_b) (and_false empty_a)

not_joined : (a b : Value) → IsTrue (is_simple a) → IsTrue (is_simple b) → add_of a b ≡ on_numbers sum_of a b
not_joined a b simple_a simple_b =
    ap (λ (joins : Bool). if joins then joined_values a b else on_numbers sum_of a b)
    (no_texts (is_text a) (is_text b) (is_empty a) (is_empty b) (known a simple_a).text (known b simple_b).text)

pub sum_commutes : Commutes operator.Add
sum_commutes = swapped operator.Add refl (λ a b simple_a simple_b.
    not_joined a b simple_a simple_b ∙
    (swapped_numbers sum_of sums_swapped a b simple_a simple_b ∙ sym (not_joined b a simple_b simple_a)))

pub product_commutes : Commutes operator.Multiply
product_commutes = swapped operator.Multiply refl (swapped_numbers product_of products_swapped)

-- ---- bits

width_swapped : (width : Width) (f : ℕ → ℕ → ℕ) → ((x y : ℕ) → f x y ≡ f y x) → (a b : ℤ)
    → at_width width f a b ≡ at_width width f b a
width_swapped width f swaps a b = ap (cast_signed width) (swaps (cast_unsigned width a) (cast_unsigned width b))

pairs_swapped : (truths : Bool → Bool → Bool) (f : ℕ → ℕ → ℕ) (lone : Bits → Bits)
    → ((x y : Bool) → truths x y ≡ truths y x) → ((x y : ℕ) → f x y ≡ f y x)
    → (a b : Bits) → merged truths f lone (paired a b) ≡ merged truths f lone (paired b a)
pairs_swapped truths f lone t c (bits.Truth a) (bits.Truth b) = ap bits.Truth (t a b)
pairs_swapped truths f lone t c (bits.Truth a) (bits.Integer b) =
    ap bits.Integer (width_swapped w16 f c (bits_number (bits.Truth a)) b)
pairs_swapped truths f lone t c (bits.Truth a) (bits.Long b) =
    ap bits.Long (width_swapped w32 f c (bits_number (bits.Truth a)) b)
pairs_swapped truths f lone t c (bits.Truth a) bits.Unknown = refl
pairs_swapped truths f lone t c (bits.Integer a) (bits.Truth b) =
    ap bits.Integer (width_swapped w16 f c a (bits_number (bits.Truth b)))
pairs_swapped truths f lone t c (bits.Integer a) (bits.Integer b) = ap bits.Integer (width_swapped w16 f c a b)
pairs_swapped truths f lone t c (bits.Integer a) (bits.Long b) = ap bits.Long (width_swapped w32 f c a b)
pairs_swapped truths f lone t c (bits.Integer a) bits.Unknown = refl
pairs_swapped truths f lone t c (bits.Long a) (bits.Truth b) =
    ap bits.Long (width_swapped w32 f c a (bits_number (bits.Truth b)))
pairs_swapped truths f lone t c (bits.Long a) (bits.Integer b) = ap bits.Long (width_swapped w32 f c a b)
pairs_swapped truths f lone t c (bits.Long a) (bits.Long b) = ap bits.Long (width_swapped w32 f c a b)
pairs_swapped truths f lone t c (bits.Long a) bits.Unknown = refl
pairs_swapped truths f lone t c bits.Unknown (bits.Truth b) = refl
pairs_swapped truths f lone t c bits.Unknown (bits.Integer b) = refl
pairs_swapped truths f lone t c bits.Unknown (bits.Long b) = refl
pairs_swapped truths f lone t c bits.Unknown bits.Unknown = refl

both_swapped : (x y : Bool) → (x && y) ≡ (y && x)
both_swapped true true = refl
both_swapped true false = refl
both_swapped false true = refl
both_swapped false false = refl

either_swapped : (x y : Bool) → (x || y) ≡ (y || x)
either_swapped true true = refl
either_swapped true false = refl
either_swapped false true = refl
either_swapped false false = refl

differ_swapped : (x y : Bool) → differ x y ≡ differ y x
differ_swapped true true = refl
differ_swapped true false = refl
differ_swapped false true = refl
differ_swapped false false = refl

refused_long : (fits : Bool) (z : ℤ) (e : VbError)
    → and_then (if fits then Ok z else Err overflow) (λ n. Ok (bits.Long n)) ≡ Err e → e ≡ overflow
refused_long true z e is = absurd (cc)
refused_long false z e is = cc

only_overflow : (value : Value) → IsTrue (is_simple value) → (e : VbError) → bits_of value ≡ Err e → e ≡ overflow
only_overflow Empty simple e is = absurd (cc)
only_overflow Null simple e is = absurd (cc)
only_overflow (Boolean truth) simple e is = absurd (cc)
only_overflow (Int n) simple e is = absurd (cc)
only_overflow (Long n) simple e is = absurd (cc)
only_overflow (Cur n) simple e is = refused_long (is_within (2 ^ 31) (int_rounded 10000 n)) (int_rounded 10000 n) e is
only_overflow (Str text) simple e is = absurd (cc)
only_overflow (Arr' bounds fixed shape items) simple e is = absurd (cc)
only_overflow (Obj object) simple e is = absurd (cc)
only_overflow Nothing simple e is = absurd (cc)

bits_case : (operator : Bits → Bits → Bits) → ((x y : Bits) → operator x y ≡ operator y x)
    → (first second : Result Bits VbError)
    → ((e : VbError) → first ≡ Err e → e ≡ overflow) → ((e : VbError) → second ≡ Err e → e ≡ overflow)
    → and_then first (λ x. and_then second (λ y. Ok (bits_value (operator x y))))
    ≡ and_then second (λ y. and_then first (λ x. Ok (bits_value (operator y x))))
bits_case operator swaps (Ok x) (Ok y) f g = ap (λ z. Ok (bits_value z)) (swaps x y)
bits_case operator swaps (Ok x) (Err e) f g = refl
bits_case operator swaps (Err e) (Ok y) f g = refl
bits_case operator swaps (Err e) (Err other) f g = ap Err (f e refl ∙ sym (g other refl))

swapped_bits : (operator : Bits → Bits → Bits) → ((x y : Bits) → operator x y ≡ operator y x)
    → (a b : Value) → IsTrue (is_simple a) → IsTrue (is_simple b) → on_bits operator a b ≡ on_bits operator b a
swapped_bits operator swaps a b simple_a simple_b =
    bits_case operator swaps (bits_of a) (bits_of b) (only_overflow a simple_a) (only_overflow b simple_b)

ands_swapped : (a b : Bits) → and_of a b ≡ and_of b a
ands_swapped = pairs_swapped _ _ _ both_swapped and_comm

ors_swapped : (a b : Bits) → or_of a b ≡ or_of b a
ors_swapped = pairs_swapped _ _ _ either_swapped or_comm

xors_swapped : (a b : Bits) → xor_of a b ≡ xor_of b a
xors_swapped = pairs_swapped _ _ _ differ_swapped xor_comm

pub and_commutes : Commutes operator.And
and_commutes = swapped operator.And refl (swapped_bits and_of ands_swapped)

pub or_commutes : Commutes operator.Or
or_commutes = swapped operator.Or refl (swapped_bits or_of ors_swapped)

pub xor_commutes : Commutes operator.Xor
xor_commutes = swapped operator.Xor refl (swapped_bits xor_of xors_swapped)

pub eqv_commutes : Commutes operator.Eqv
eqv_commutes = swapped operator.Eqv refl (swapped_bits eqv_of (λ a b. ap not_of (xors_swapped a b)))
