-- The value of digits, up to a number past every value.
use Rattle.std.proofs.Common.{◌≡◌, ℕ, ◌+◌, ◌*◌, ◌<◌, List, length}
use Rattle.std.proofs.Common.{get_or, take, min, arith}
use Rattle.std.specs.Char.{digit_value}
use Rattle.std.specs.Str.Parse.{digits_value}
use Rattle.std.proofs.lemmas.Int.Digits.{digits_value_more}

-- one digit more, where the value so far is cut
saturated : (value digit : ℕ) → min (min value 18446744073709551616 * 10 + digit) 18446744073709551616
    ≡ min (value * 10 + digit) 18446744073709551616
saturated value digit = omega arith

-- the value up to one digit more
pub value_more : (digits : List ℕ) (i : ℕ) → i < length digits
    → min (digits_value 10 (take (i + 1) digits)) 18446744073709551616
    ≡ min (min (digits_value 10 (take i digits)) 18446744073709551616 * 10 + digit_value (get_or digits i 0))
    18446744073709551616
value_more digits i within =
    let more = digits_value_more 10 digits i within in
    let cut = saturated (digits_value 10 (take i digits)) (digit_value (get_or digits i 0)) in
    cc
