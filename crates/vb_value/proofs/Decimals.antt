-- What std writes of a number is its digits.
use Rattle.std.proofs.Common.{◌≡◌, ℕ, zero, suc, ◌+◌, ◌^◌, ◌<◌, ◌==◌, Bool, false, if◌then◌else◌, List, [], ◌∷◌}
use Rattle.std.proofs.Common.{ℤ, pos, negsuc, map, sym, ap, ◌∙◌, arith}
use Rattle.std.specs.Fmt.{decimal, signed_decimal}
use Rattle.std.specs.Str.{chars}
use Rattle.std.specs.Int.Digits.{digits_of}
use lib.Signed.{mag}
use Rattle.std.proofs.lemmas.Bool.Decides.{nat_tests}
use Rattle.std.proofs.lemmas.Str.{chars-IsAscii}
use Rattle.std.proofs.lemmas.Fmt.{IsAscii-decimal, IsAscii-signed, decimal-digits_of, decimal_digit}
use Rattle.vb_value.specs.NumericText.{decimal_text, whole_text}

-- the text that std writes of a number
pub decimal_is : (n : ℕ) → n < 2 ^ 64 → decimal n ≡ decimal_text n
decimal_is zero small = decimal_digit 0 (omega arith)
decimal_is (suc n) small =
    let some : (suc n == 0) ≡ false = grind (arith, nat_tests) in
    decimal-digits_of (suc n) (omega arith) small
    ∙ sym (ap (λ (none : Bool). if none then 48 ∷ [] else map (λ digit. 48 + digit) (digits_of 10 (suc n))) some)

-- its characters
pub decimal_characters : (n : ℕ) (text : List ℕ) → n < 2 ^ 64 → text ≡ decimal n → chars text ≡ decimal_text n
decimal_characters n text small is =
    ap chars is ∙ (chars-IsAscii (decimal n) (IsAscii-decimal n small) ∙ decimal_is n small)

-- the same of a signed number
pub signed_is : (z : ℤ) → mag z < 2 ^ 63 → signed_decimal z ≡ whole_text z
signed_is (pos n) small = decimal_is n (omega arith)
signed_is (negsuc n) small = ap (λ text. 45 ∷ text) (decimal_is (suc n) (omega arith))

-- its characters
pub whole_characters : (z : ℤ) (text : List ℕ) → mag z < 2 ^ 63 → text ≡ signed_decimal z → chars text ≡ whole_text z
whole_characters z text small is =
    ap chars is ∙ (chars-IsAscii (signed_decimal z) (IsAscii-signed z small) ∙ signed_is z small)
