-- Quotients and their rests.
use Rattle.std.proofs.Common.{◌≡◌, ◌⊎◌, inl, inr, ◌<◌, ◌^◌, ℕ, zero, suc, ◌%◌, ℤ, pos, negsuc, neg_ℤ}
use Rattle.std.proofs.Common.{unsigned_abs, int_div, int_rem, Bool, true, false, if◌then◌else◌}
use Rattle.std.proofs.Common.{Result, Ok, Err, refl, sym, ap, ◌∙◌, subst, arith}
use Rattle.std.proofs.Common.{◌≢◌, ◌≤◌, ◌/◌, nat_lt, lit<}
use Rattle.std.proofs.Math.Nat.{mod-le, div-le_self}
use Rattle.std.proofs.lemmas.Bool.Decides.{nat_tests}
use Rattle.std.proofs.lemmas.Int.{quot-rem, rem_below}
use Rattle.vb_value.specs.declared.fault.VbError.{VbError}
use Rattle.vb_value.specs.declared.number.Number.{Number}
use Rattle.vb_value.specs.declared.number.Number.TheVariants as number
use Rattle.vb_value.specs.declared.operator.Op2.TheVariants as operator
use Rattle.vb_value.specs.declared.value.Value.{Value, Empty, Null, Bool as Boolean, Int, Long, Cur, Str, Arr'}
use Rattle.vb_value.specs.declared.value.Value.{Obj, Nothing}
use Rattle.vb_value.specs.Arguments.{checked, is_null}
use Rattle.vb_value.specs.Conversions.{number_value, to_number_of}
use Rattle.vb_value.specs.Errors.{and_then, division_by_zero, overflow}
use Rattle.vb_value.specs.Numbers.{is_within, is_zero, long_of, whole_of}
use Rattle.vb_ops.specs.Arithmetic.{divided, integer_or_long, long, quotient_of, remainder_of}
use Rattle.vb_ops.specs.Arithmetic.{whole_result}
use Rattle.vb_ops.specs.Operators.{apply2_of}
use Rattle.operator_laws.specs.Laws.{DividesAsLongs, IsDivision, is_negative}

-- ---- numbers

-- the whole of a number that an answer has
whole_in : Result Number VbError → ℤ
whole_in (Ok n) = whole_of n
whole_in (Err refused) = pos 0

fits_long : (fits : Bool) (z : ℤ) (n : Number)
    → and_then (if fits then Ok z else Err overflow) (λ n. Ok (number.Long n)) ≡ Ok n → whole_of n ≡ z
unfolding whole_in
fits_long true z n is = sym (ap whole_in is)
fits_long false z n is = absurd (cc)

long_is : (z : ℤ) (n : Number) → long z ≡ Ok n → whole_of n ≡ z
unfolding long
long_is z n is = fits_long (is_within (2 ^ 31) z) z n is

fits_integer : (fits : Bool) (z : ℤ) (n : Number) → (if fits then Ok (number.Int z) else long z) ≡ Ok n
    → whole_of n ≡ z
unfolding whole_in
fits_integer true z n is = sym (ap whole_in is)
fits_integer false z n is = long_is z n is

integer_is : (z : ℤ) (n : Number) → integer_or_long z ≡ Ok n → whole_of n ≡ z
unfolding integer_or_long
integer_is z n is = fits_integer (is_within (2 ^ 15) z) z n is

result_is : (a b : Number) (z : ℤ) (n : Number) → whole_result a b z ≡ Ok n → whole_of n ≡ z
unfolding whole_result
result_is (number.Int a) (number.Int b) z n is = integer_is z n is
result_is (number.Int a) (number.Long b) z n is = long_is z n is
result_is (number.Int a) (number.Cur b) z n is = long_is z n is
result_is (number.Long a) b z n is = long_is z n is
result_is (number.Cur a) b z n is = long_is z n is

divisor_some : (none : Bool) (a b : Number) (z : ℤ) (n : Number)
    → (if none then Err division_by_zero else whole_result a b z) ≡ Ok n → (none ≡ false) × (whole_of n ≡ z)
divisor_some true a b z n is = absurd (cc)
divisor_some false a b z n is = (refl, result_is a b z n is)

divided_is : (whole : ℤ → ℤ → ℤ) (a b n : Number) (x y : ℤ) → long_of a ≡ Ok x → long_of b ≡ Ok y
    → divided whole a b ≡ Ok n → (is_zero y ≡ false) × (whole_of n ≡ whole x y)
divided_is whole a b n x y is_x is_y is =
    let first = ap (λ (r : Result ℤ VbError). and_then r (λ x. and_then (long_of b) (λ y.
    if is_zero y then Err division_by_zero else whole_result a b (whole x y)))) is_x in
    let second = ap (λ (r : Result ℤ VbError). and_then r (λ y.
    if is_zero y then Err division_by_zero else whole_result a b (whole x y))) is_y in
    divisor_some (is_zero y) a b (whole x y) n (sym second ∙ (sym first ∙ is))

-- ---- values

-- the number of a value that is one
again : Value → Number
again (Int n) = number.Int n
again (Long n) = number.Long n
again (Cur n) = number.Cur n
again _ = number.Int (pos 0)

answered : Result Value VbError → Number
answered (Ok value) = again value
answered (Err refused) = number.Int (pos 0)

same_again : (n : Number) → again (number_value n) ≡ n
unfolding again
same_again (number.Int n) = refl
same_again (number.Long n) = refl
same_again (number.Cur n) = refl

number_given : (given : Result Number VbError) (n : Number)
    → and_then given (λ z. Ok (number_value z)) ≡ Ok (number_value n) → given ≡ Ok n
unfolding answered
number_given (Ok z) n is = ap Ok (sym (same_again z) ∙ (ap answered is ∙ same_again n))
number_given (Err refused) n is = absurd (cc)

has_long : (given : Result Number VbError) (x : ℤ) → and_then given long_of ≡ Ok x
    → (n : Number) × (given ≡ Ok n) × (long_of n ≡ Ok x)
has_long (Ok n) x is = (n, refl, is)
has_long (Err refused) x is = absurd (cc)

number_fine : (value : Value) (n : Number) → to_number_of value ≡ Ok n
    → (checked value ≡ Ok tt) × (is_null value ≡ false)
number_fine Empty n is = (refl, refl)
number_fine Null n is = absurd (cc)
number_fine (Boolean truth) n is = (refl, refl)
number_fine (Int i) n is = (refl, refl)
number_fine (Long i) n is = (refl, refl)
number_fine (Cur i) n is = (refl, refl)
number_fine (Str text) n is = (refl, refl)
number_fine (Arr' bounds fixed shape items) n is = absurd (cc)
number_fine (Obj object) n is = absurd (cc)
number_fine Nothing n is = absurd (cc)

given_number : {given : Result Number VbError} {n : Number} → given ≡ Ok n
    → and_then given (λ z. Ok (number_value z)) ≡ Ok (number_value n)
given_number is = ap (λ (r : Result Number VbError). and_then r (λ z. Ok (number_value z))) is

-- ---- rests

sign_of_negative : (n : ℕ) → (neg_ℤ (pos n) ≡ pos 0) ⊎ (is_negative (neg_ℤ (pos n)) ≡ true)
sign_of_negative zero = inl refl
sign_of_negative (suc n) = inr refl

rest_sign : (x y : ℤ) → (int_rem x y ≡ pos 0) ⊎ (is_negative (int_rem x y) ≡ is_negative x)
rest_sign (pos n) (pos m) = inr refl
rest_sign (pos n) (negsuc m) = inr refl
rest_sign (negsuc n) (pos m) = sign_of_negative (suc n % m)
rest_sign (negsuc n) (negsuc m) = sign_of_negative (suc n % suc m)

not_zero : (y : ℤ) → is_zero y ≡ false → 0 < unsigned_abs y
not_zero (pos zero) some = absurd (cc)
not_zero (pos (suc n)) some = omega arith
not_zero (negsuc n) some = omega arith

division : (x y q r : ℤ) → is_zero y ≡ false → q ≡ int_div x y → r ≡ int_rem x y → IsDivision x y q r
division x y q r some is_q is_r =
    let Q : ℤ → Type 0 = λ q. IsDivision x y q r in
    let R : ℤ → Type 0 = λ r. IsDivision x y (int_div x y) r in
    subst Q (sym is_q) (subst R (sym is_r) (record {
      whole = quot-rem x y;
      smaller = rem_below x y (not_zero y some);
      sign = rest_sign x y;
    }))

divide_is : (a b : Value) (n m : Number) → to_number_of a ≡ Ok n → to_number_of b ≡ Ok m
    → (checked a ≡ Ok tt) × (is_null a ≡ false) → (checked b ≡ Ok tt) × (is_null b ≡ false)
    → apply2_of operator.Divide a b ≡ and_then (quotient_of n m) (λ z. Ok (number_value z))
divide_is a b n m is_n is_m fine_a fine_b = rw (fine_a.0, fine_b.0, fine_a.1, fine_b.1, is_n, is_m) refl

modulo_is : (a b : Value) (n m : Number) → to_number_of a ≡ Ok n → to_number_of b ≡ Ok m
    → (checked a ≡ Ok tt) × (is_null a ≡ false) → (checked b ≡ Ok tt) × (is_null b ≡ false)
    → apply2_of operator.Modulo a b ≡ and_then (remainder_of n m) (λ z. Ok (number_value z))
modulo_is a b n m is_n is_m fine_a fine_b = rw (fine_a.0, fine_b.0, fine_a.1, fine_b.1, is_n, is_m) refl

-- ---- answers

long_answers : (fits : Bool) (z : ℤ) → fits ≡ true
    → (n : Number) × (and_then (if fits then Ok z else Err overflow) (λ n. Ok (number.Long n)) ≡ Ok n)
long_answers true z is = (number.Long z, refl)
long_answers false z is = absurd (cc)

long_given : (z : ℤ) → is_within (2 ^ 31) z ≡ true → (n : Number) × (long z ≡ Ok n)
unfolding long
long_given z within = long_answers (is_within (2 ^ 31) z) z within

integer_answers : (fits : Bool) (z : ℤ) → is_within (2 ^ 31) z ≡ true
    → (n : Number) × ((if fits then Ok (number.Int z) else long z) ≡ Ok n)
integer_answers true z within = (number.Int z, refl)
integer_answers false z within = long_given z within

integer_given : (z : ℤ) → is_within (2 ^ 31) z ≡ true → (n : Number) × (integer_or_long z ≡ Ok n)
unfolding integer_or_long
integer_given z within = integer_answers (is_within (2 ^ 15) z) z within

result_given : (a b : Number) (z : ℤ) → is_within (2 ^ 31) z ≡ true → (n : Number) × (whole_result a b z ≡ Ok n)
unfolding whole_result
result_given (number.Int a) (number.Int b) z within = integer_given z within
result_given (number.Int a) (number.Long b) z within = long_given z within
result_given (number.Int a) (number.Cur b) z within = long_given z within
result_given (number.Long a) b z within = long_given z within
result_given (number.Cur a) b z within = long_given z within

divided_given : (whole : ℤ → ℤ → ℤ) (a b : Number) (x y : ℤ) → long_of a ≡ Ok x → long_of b ≡ Ok y
    → is_zero y ≡ false → is_within (2 ^ 31) (whole x y) ≡ true → (n : Number) × (divided whole a b ≡ Ok n)
divided_given whole a b x y is_x is_y some within =
    let first = ap (λ (r : Result ℤ VbError). and_then r (λ x. and_then (long_of b) (λ y.
    if is_zero y then Err division_by_zero else whole_result a b (whole x y)))) is_x in
    let second = ap (λ (r : Result ℤ VbError). and_then r (λ y.
    if is_zero y then Err division_by_zero else whole_result a b (whole x y))) is_y in
    let third = ap (λ (none : Bool). if none then Err division_by_zero else whole_result a b (whole x y)) some in
    let answer = result_given a b (whole x y) within in
    (answer.0, first ∙ (second ∙ (third ∙ answer.1)))

below_half : (n : ℕ) → n < 2 ^ 31 → nat_lt n (2 ^ 31) ≡ true
below_half n small = grind (arith, nat_tests)

half_above : (n : ℕ) → nat_lt n (2 ^ 31) ≡ true → n < 2 ^ 31
half_above n within = grind (arith, nat_tests)

negative_within : (n : ℕ) → n ≤ 2 ^ 31 → is_within (2 ^ 31) (neg_ℤ (pos n)) ≡ true
negative_within zero small = below_half 0 (lit< tt)
negative_within (suc n) small = below_half n (omega (arith, small))

rest_within : (x y : ℤ) → is_within (2 ^ 31) x ≡ true → is_within (2 ^ 31) (int_rem x y) ≡ true
rest_within (pos n) (pos m) within =
    let less = mod-le n m in let small = half_above n within in below_half (n % m) (omega (arith, less, small))
rest_within (pos n) (negsuc m) within =
    let less = mod-le n (suc m) in
    let small = half_above n within in below_half (n % suc m) (omega (arith, less, small))
rest_within (negsuc n) (pos m) within =
    let less = mod-le (suc n) m in
    let small = half_above n within in negative_within (suc n % m) (omega (arith, less, small))
rest_within (negsuc n) (negsuc m) within =
    let less = mod-le (suc n) (suc m) in
    let small = half_above n within in negative_within (suc n % suc m) (omega (arith, less, small))

quotient_within : (x y : ℤ) → unsigned_abs x < 2 ^ 31 → is_within (2 ^ 31) (int_div x y) ≡ true
quotient_within (pos n) (pos m) small =
    let less = div-le_self n m in below_half (n / m) (omega (arith, less, small))
quotient_within (pos n) (negsuc m) small =
    let less = div-le_self n (suc m) in negative_within (n / suc m) (omega (arith, less, small))
quotient_within (negsuc n) (pos m) small =
    let less = div-le_self (suc n) m in negative_within (suc n / m) (omega (arith, less, small))
quotient_within (negsuc n) (negsuc m) small =
    let less = div-le_self (suc n) (suc m) in below_half (suc n / suc m) (omega (arith, less, small))

long_within : (fits : Bool) (whole x : ℤ) → is_within (2 ^ 31) whole ≡ fits
    → (if fits then Ok whole else Err overflow) ≡ Ok x → is_within (2 ^ 31) x ≡ true
long_within true whole x fits is =
    let same : x ≡ whole = cc in ap (is_within (2 ^ 31)) same ∙ fits
long_within false whole x fits is = absurd (cc)

is_some : (y : ℤ) → y ≢ pos 0 → is_zero y ≡ false
is_some (pos zero) some = absurd (some refl)
is_some (pos (suc n)) some = grind (arith, nat_tests)
is_some (negsuc n) some = refl

pub divides : DividesAsLongs
divides a b x y to_x to_y some_y =
    let n = has_long (to_number_of a) x to_x in
    let m = has_long (to_number_of b) y to_y in
    let fine_a = number_fine a n.0 n.1 in
    let fine_b = number_fine b m.0 m.1 in
    let some = is_some y some_y in
    let made_q = divide_is a b n.0 m.0 n.1 m.1 fine_a fine_b in
    let made_r = modulo_is a b n.0 m.0 n.1 m.1 fine_a fine_b in
    let within = long_within (is_within (2 ^ 31) (whole_of n.0)) (whole_of n.0) x refl n.2 in
    let rest = divided_given int_rem n.0 m.0 x y n.2 m.2 some (rest_within x y within) in
    let is_r = divided_is int_rem n.0 m.0 rest.0 x y n.2 m.2 rest.1 in
    record {
      rest = rest.0;
      rest_is = made_r ∙ given_number rest.1;
      answers = λ small.
          let quotient = divided_given int_div n.0 m.0 x y n.2 m.2 some (quotient_within x y small) in
          (quotient.0, made_q ∙ given_number quotient.1);
      division = λ q is.
          let is_q = divided_is int_div n.0 m.0 q x y n.2 m.2
          (number_given (quotient_of n.0 m.0) q (sym made_q ∙ is)) in
          division x y (whole_of q) (whole_of rest.0) some is_q.1 is_r.1;
    }
