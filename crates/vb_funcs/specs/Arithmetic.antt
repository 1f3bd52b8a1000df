-- Abs, Int, Fix and Sgn (VBScript 5.6, "Math Functions"). Currency counts ten-thousandths. Each result is exact,
-- and one out of its kind's range is Overflow.
use Rattle.std.specs.Prelude.{◌+◌, ◌*◌, ◌/◌, ◌==◌, if◌then◌else◌, ℤ, pos, negsuc, neg_ℤ, ◌*ℤ◌, int_div}
use Rattle.std.specs.Prelude.{unsigned_abs, List, Result, Ok}
use Rattle.vb_value.specs.declared.fault.VbError.{VbError}
use Rattle.vb_value.specs.declared.number.Number.{Number}
use Rattle.vb_value.specs.declared.number.Number.TheVariants as number
use Rattle.vb_value.specs.declared.value.Value.{Value, Int, Long, Cur}
use Rattle.vb_value.specs.Conversions.{number_value, to_number_of, to_cur_of}
use Rattle.vb_value.specs.Errors.{and_then}
use Rattle.vb_value.specs.Numbers.{as_long, as_currency, whole_number}
use Rattle.vb_value.specs.Arguments.{of_one, null_or}

-- a Long of this value
abbrev pub long : ℤ → Result Value VbError
long z = and_then (as_long z) (λ n. Ok (Long n))

-- a Currency of so many ten-thousandths
abbrev pub currency : ℤ → Result Value VbError
currency z = and_then (as_currency z) (λ n. Ok (Cur n))

-- the size of a number, of its kind; that of the Integer -32768 is a Long
abbrev pub size_of : Number → Result Value VbError
size_of (number.Int n) = Ok (number_value (whole_number (pos (unsigned_abs n))))
size_of (number.Long n) = long (pos (unsigned_abs n))
size_of (number.Cur n) = currency (pos (unsigned_abs n))

-- Abs(x)
abbrev pub abs_of : List Value → Result Value VbError
abs_of = of_one (null_or (λ x. and_then (to_number_of x) size_of))

-- the greatest whole number at most so many ten-thousandths, in ten-thousandths
unfoldable pub floor_of : ℤ → ℤ
floor_of (pos n) = pos (n / 10000 * 10000)
floor_of (negsuc less) = neg_ℤ (pos ((less / 10000 + 1) * 10000))

-- a number made whole downward, of its kind
abbrev pub lowered : Number → Result Value VbError
lowered (number.Int n) = Ok (Int n)
lowered (number.Long n) = Ok (Long n)
lowered (number.Cur n) = currency (floor_of n)

-- Int(x)
abbrev pub int_of : List Value → Result Value VbError
int_of = of_one (null_or (λ x. and_then (to_number_of x) lowered))

-- a number without its decimals, of its kind
abbrev pub cut : Number → Value
cut (number.Int n) = Int n
cut (number.Long n) = Long n
cut (number.Cur n) = Cur (int_div n (pos 10000) *ℤ pos 10000)

-- Fix(x)
abbrev pub fix_of : List Value → Result Value VbError
fix_of = of_one (null_or (λ x. and_then (to_number_of x) (λ n. Ok (cut n))))

-- 1, 0 or -1 for a number above, at or below 0
abbrev pub sign_of : ℤ → ℤ
sign_of (pos n) = if n == 0 then pos 0 else pos 1
sign_of (negsuc less) = negsuc 0

-- Sgn(x), an Integer
abbrev pub sgn_of : List Value → Result Value VbError
sgn_of = of_one (λ x. and_then (to_cur_of x) (λ n. Ok (Int (sign_of n))))
