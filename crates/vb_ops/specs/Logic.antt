-- `Not`, `And`, `Or`, `Xor`, `Eqv` and `Imp`, with three values where Null is one operand (VBScript 5.6,
-- "Logical Operators").
use Rattle.std.specs.Prelude.{ℕ, Bool, true, false, not, ◌&&◌, ◌||◌, if◌then◌else◌, ℤ, pos, negsuc, ◌-ℤ◌, neg_ℤ}
use Rattle.std.specs.Prelude.{bit_and, bit_or, bit_xor, Option, Some, None, Result, Ok}
use Rattle.std.specs.Int.{Width, w16, w32, cast_signed, cast_unsigned}
use Rattle.vb_value.specs.declared.fault.VbError.{VbError}
use Rattle.vb_value.specs.declared.number.Number.{Number}
use Rattle.vb_value.specs.declared.number.Number.TheVariants as number
use Rattle.vb_value.specs.declared.value.Value.{Value, Null, Bool as Boolean, Int, Long as LongValue, Str}
use Rattle.vb_value.specs.Conversions.{to_number_of, named_truth}
use Rattle.vb_value.specs.Errors.{and_then}
use Rattle.vb_value.specs.Numbers.{long_of, is_zero}
use Rattle.vb_ops.specs.declared.logic.Bits.{Bits}
use Rattle.vb_ops.specs.declared.logic.Bits.TheVariants.{Truth, Integer, Long, Unknown}
use Rattle.vb_ops.specs.declared.logic.BitsPair.{BitsPair}
use Rattle.vb_ops.specs.declared.logic.BitsPair.TheVariants.{Truths, Integers, Longs, Beside}

-- ---- operands

-- a number as an operand: Integer stays, anything else is made Long
abbrev pub number_bits : Number → Result Bits VbError
number_bits (number.Int n) = Ok (Integer n)
number_bits (number.Long n) = Ok (Long n)
number_bits (number.Cur n) = and_then (long_of (number.Cur n)) (λ z. Ok (Long z))

-- the Boolean of a name, or else another operand
abbrev pub named_bits : Option Bool → Result Bits VbError → Result Bits VbError
named_bits (Some truth) other = Ok (Truth truth)
named_bits None other = other

-- a value as an operand: a Boolean, also one named by a text, Null, or else a number
abbrev pub bits_of : Value → Result Bits VbError
bits_of Null = Ok Unknown
bits_of (Boolean truth) = Ok (Truth truth)
bits_of (Str text) = named_bits (named_truth text) (and_then (to_number_of (Str text)) number_bits)
bits_of value = and_then (to_number_of value) number_bits

-- an operand as a value
abbrev pub bits_value : Bits → Value
bits_value (Truth truth) = Boolean truth
bits_value (Integer n) = Int n
bits_value (Long n) = LongValue n
bits_value Unknown = Null

-- an operand's bits as a number: True has all of them
abbrev pub number_in : Bits → ℤ
number_in (Truth truth) = if truth then negsuc 0 else pos 0
number_in (Integer n) = n
number_in (Long n) = n
number_in Unknown = pos 0

-- two operands of one kind: Long beside a Long, Integer for two Integers or an Integer and a Boolean
abbrev pub paired : Bits → Bits → BitsPair
paired (Truth a) (Truth b) = Truths a b
paired (Truth a) (Integer b) = Integers (number_in (Truth a)) b
paired (Truth a) (Long b) = Longs (number_in (Truth a)) b
paired (Integer a) (Truth b) = Integers a (number_in (Truth b))
paired (Integer a) (Integer b) = Integers a b
paired (Integer a) (Long b) = Longs a b
paired (Long a) (Truth b) = Longs a (number_in (Truth b))
paired (Long a) (Integer b) = Longs a b
paired (Long a) (Long b) = Longs a b
paired Unknown b = Beside b
paired a Unknown = Beside a

-- the bits of two numbers combined at a width
abbrev pub at_width : Width → (ℕ → ℕ → ℕ) → ℤ → ℤ → ℤ
at_width width bits a b = cast_signed width (bits (cast_unsigned width a) (cast_unsigned width b))

-- what two operands give, by what Booleans, bits, and an operand beside Null give
abbrev pub merged : (Bool → Bool → Bool) → (ℕ → ℕ → ℕ) → (Bits → Bits) → BitsPair → Bits
merged truths bits beside (Truths a b) = Truth (truths a b)
merged truths bits beside (Integers a b) = Integer (at_width w16 bits a b)
merged truths bits beside (Longs a b) = Long (at_width w32 bits a b)
merged truths bits beside (Beside known) = beside known

-- ---- the table

-- -n - 1, which turns every bit of n
abbrev pub complement : ℤ → ℤ
complement n = neg_ℤ n -ℤ pos 1

-- whether an operand has no bits: False and 0
abbrev pub has_none : Bits → Bool
has_none (Truth truth) = not truth
has_none (Integer n) = is_zero n
has_none (Long n) = is_zero n
has_none Unknown = false

-- whether an operand has all bits: True and -1
abbrev pub has_all : Bits → Bool
has_all (Truth truth) = truth
has_all (Integer n) = is_zero (complement n)
has_all (Long n) = is_zero (complement n)
has_all Unknown = false

-- Not a
abbrev pub not_of : Bits → Bits
not_of (Truth truth) = Truth (not truth)
not_of (Integer n) = Integer (complement n)
not_of (Long n) = Long (complement n)
not_of Unknown = Unknown

-- a And b: beside Null the operand without bits, else Null
abbrev pub and_of : Bits → Bits → Bits
and_of a b = merged (λ x y. x && y) bit_and (λ known. if has_none known then known else Unknown) (paired a b)

-- a Or b: beside Null the operand with all bits, else Null
abbrev pub or_of : Bits → Bits → Bits
or_of a b = merged (λ x y. x || y) bit_or (λ known. if has_all known then known else Unknown) (paired a b)

-- whether two Booleans differ
abbrev pub differ : Bool → Bool → Bool
differ true b = not b
differ false b = b

-- a Xor b: Null beside Null
abbrev pub xor_of : Bits → Bits → Bits
xor_of a b = merged differ bit_xor (λ known. Unknown) (paired a b)

-- a Eqv b is Not (a Xor b)
abbrev pub eqv_of : Bits → Bits → Bits
eqv_of a b = not_of (xor_of a b)

-- a Imp b is Not a Or b
abbrev pub imp_of : Bits → Bits → Bits
imp_of a b = or_of (not_of a) b

-- an operator on operands, at values
abbrev pub on_bits : (Bits → Bits → Bits) → Value → Value → Result Value VbError
on_bits operator a b = and_then (bits_of a) (λ x. and_then (bits_of b) (λ y. Ok (bits_value (operator x y))))
