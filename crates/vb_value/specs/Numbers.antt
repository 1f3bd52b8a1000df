-- The numbers of the language: Integer has 16 bits, Long 32, and Currency 64 that count ten-thousandths
-- (VBScript 5.6, "VBScript Data Types"). Each result is computed exactly, and its range is tested last.
use Rattle.std.specs.Prelude.{ℕ, suc, ◌+◌, ◌*◌, ◌/◌, ◌%◌, ◌^◌, Bool, nat_lt, ◌==◌, ◌&&◌, false}
use Rattle.std.specs.Prelude.{if◌then◌else◌, ℤ, pos, negsuc, ◌*ℤ◌, neg_ℤ, int_div, int_rem, Result, Ok, Err}
use Rattle.vb_value.specs.declared.fault.VbError.{VbError}
use Rattle.vb_value.specs.declared.number.Number.{Number}
use Rattle.vb_value.specs.declared.number.Number.TheVariants.{Int, Long, Cur}
use Rattle.vb_value.specs.Errors.{overflow}

-- count / unit to the nearest whole number, and to the even one where two are as near
unfoldable pub rounded : ℕ → ℕ → ℕ
rounded unit count =
    if nat_lt (2 * (count % unit)) unit then count / unit
    else if nat_lt unit (2 * (count % unit)) then count / unit + 1
    else count / unit + count / unit % 2

-- the same of a signed count
abbrev pub int_rounded : ℕ → ℤ → ℤ
int_rounded unit (pos n) = pos (rounded unit n)
int_rounded unit (negsuc n) = neg_ℤ (pos (rounded unit (suc n)))

-- whether a number lies from -half to half - 1
abbrev pub is_within : ℕ → ℤ → Bool
is_within half (pos n) = nat_lt n half
is_within half (negsuc n) = nat_lt n half

-- a number as an Integer; Overflow where it is none
abbrev pub as_integer : ℤ → Result ℤ VbError
as_integer z = if is_within (2 ^ 15) z then Ok z else Err overflow

-- a number as a Long; Overflow where it is none
abbrev pub as_long : ℤ → Result ℤ VbError
as_long z = if is_within (2 ^ 31) z then Ok z else Err overflow

-- a number of ten-thousandths as a Currency; Overflow where it is none
abbrev pub as_currency : ℤ → Result ℤ VbError
as_currency z = if is_within (2 ^ 63) z then Ok z else Err overflow

-- the value of a number in ten-thousandths
abbrev pub amount_of : Number → ℤ
amount_of (Int n) = n *ℤ pos 10000
amount_of (Long n) = n *ℤ pos 10000
amount_of (Cur n) = n

-- a number rounded to a whole one, half to even
abbrev pub whole_of : Number → ℤ
whole_of (Int n) = n
whole_of (Long n) = n
whole_of (Cur n) = int_rounded 10000 n

-- a number as a whole Long, half rounded to even
abbrev pub long_of : Number → Result ℤ VbError
long_of number = as_long (whole_of number)

-- whether a number is 0
abbrev pub is_zero : ℤ → Bool
is_zero (pos n) = n == 0
is_zero (negsuc n) = false

-- a whole number: an Integer where that holds it, else a Long
abbrev pub whole_number : ℤ → Number
whole_number z = if is_within (2 ^ 15) z then Int z else Long z

-- a number of ten-thousandths: the first of Integer, Long and Currency that holds it
abbrev pub least_number : ℤ → Number
least_number z =
    if is_zero (int_rem z (pos 10000)) && is_within (2 ^ 31) (int_div z (pos 10000))
    then whole_number (int_div z (pos 10000)) else Cur z
