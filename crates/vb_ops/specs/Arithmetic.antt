-- `+`, `-`, `*`, `\` and `Mod` of numbers (VBScript 5.6, "Arithmetic Operators"). Each result is exact and its
-- range is tested last; out of range is Overflow.
use Rattle.std.specs.Prelude.{◌||◌, if◌then◌else◌, ◌^◌, ℤ, pos, ◌+ℤ◌, ◌-ℤ◌, ◌*ℤ◌, int_div, int_rem, Option}
use Rattle.std.specs.Prelude.{Some, None, Result, Ok, Err}
use Rattle.vb_value.specs.declared.fault.VbError.{VbError}
use Rattle.vb_value.specs.declared.number.Number.{Number}
use Rattle.vb_value.specs.declared.number.Number.TheVariants.{Int, Long, Cur}
use Rattle.vb_value.specs.declared.value.Value.{Value, Null}
use Rattle.vb_value.specs.Conversions.{number_value, to_number_of}
use Rattle.vb_value.specs.Errors.{and_then, division_by_zero}
use Rattle.vb_value.specs.Numbers.{int_rounded, is_within, is_zero, as_long, as_currency, amount_of, long_of}
use Rattle.vb_ops.specs.declared.arithmetic.NumberPair.{NumberPair}
use Rattle.vb_ops.specs.declared.arithmetic.NumberPair.TheVariants.{Integers, Longs, Currencies}
use Rattle.vb_value.specs.Arguments.{is_null}

-- a Long of this value
unfoldable pub long : ℤ → Result Number VbError
long z = and_then (as_long z) (λ n. Ok (Long n))

-- an Integer of this value where that holds it, else a Long
unfoldable pub integer_or_long : ℤ → Result Number VbError
integer_or_long z = if is_within (2 ^ 15) z then Ok (Int z) else long z

-- a Currency of so many ten-thousandths
unfoldable pub currency : ℤ → Result Number VbError
currency z = and_then (as_currency z) (λ n. Ok (Cur n))

-- two numbers of one kind: Currency, in ten-thousandths, beside a Currency, Integer for two Integers, else Long
abbrev pub aligned : Number → Number → NumberPair
aligned (Int a) (Int b) = Integers a b
aligned (Int a) (Long b) = Longs a b
aligned (Long a) (Int b) = Longs a b
aligned (Long a) (Long b) = Longs a b
aligned (Cur a) b = Currencies a (amount_of b)
aligned a (Cur b) = Currencies (amount_of a) b

-- what two numbers of one kind give, by what whole numbers and what ten-thousandths give
abbrev pub combined : (ℤ → ℤ → ℤ) → (ℤ → ℤ → ℤ) → NumberPair → Result Number VbError
combined whole amount (Integers a b) = integer_or_long (whole a b)
combined whole amount (Longs a b) = long (whole a b)
combined whole amount (Currencies a b) = currency (amount a b)

-- a + b
abbrev pub sum_of : Number → Number → Result Number VbError
sum_of a b = combined (λ x y. x +ℤ y) (λ x y. x +ℤ y) (aligned a b)

-- a - b
abbrev pub difference_of : Number → Number → Result Number VbError
difference_of a b = combined (λ x y. x -ℤ y) (λ x y. x -ℤ y) (aligned a b)

-- a * b, in Currency rounded half to even at the fourth decimal
abbrev pub product_of : Number → Number → Result Number VbError
product_of a b = combined (λ x y. x *ℤ y) (λ x y. int_rounded 10000 (x *ℤ y)) (aligned a b)

-- a whole result: Integer where it fits and both numbers are Integers, else Long
unfoldable pub whole_result : Number → Number → ℤ → Result Number VbError
whole_result (Int a) (Int b) z = integer_or_long z
whole_result a b z = long z

-- what two numbers give as whole Longs, the second of them not 0
abbrev pub divided : (ℤ → ℤ → ℤ) → Number → Number → Result Number VbError
divided whole a b = and_then (long_of a) (λ x. and_then (long_of b) (λ y.
    if is_zero y then Err division_by_zero else whole_result a b (whole x y)))

-- a \ b, cut toward zero
abbrev pub quotient_of : Number → Number → Result Number VbError
quotient_of a b = divided int_div a b

-- a Mod b, with the sign of a
abbrev pub remainder_of : Number → Number → Result Number VbError
remainder_of a b = divided int_rem a b

-- -a, which is 0 - a
abbrev pub negative_of : Number → Result Number VbError
negative_of a = difference_of (Int (pos 0)) a

-- the numbers that two values are; none where a side is Null
abbrev pub numbers_of : Value → Value → Result (Option (Number × Number)) VbError
numbers_of a b =
    if is_null a || is_null b then Ok None
    else and_then (to_number_of a) (λ x. and_then (to_number_of b) (λ y. Ok (Some (x, y))))

-- an operator on those numbers; Null without them
abbrev pub applied : (Number → Number → Result Number VbError) → Option (Number × Number) → Result Value VbError
applied operator None = Ok Null
applied operator (Some numbers) = and_then (operator numbers.0 numbers.1) (λ z. Ok (number_value z))

-- an operator on numbers, at values
abbrev pub on_numbers : (Number → Number → Result Number VbError) → Value → Value → Result Value VbError
on_numbers operator a b = and_then (numbers_of a b) (applied operator)
