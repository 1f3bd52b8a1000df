-- Fix by size and sign.
use Rattle.std.proofs.Common.{◌≡◌, ℕ, zero, suc, ◌+◌, ◌*◌, ◌/◌, ◌==◌, ◌^◌, Bool, true, false, if◌then◌else◌, ℤ, pos}
use Rattle.std.proofs.Common.{negsuc, neg_ℤ, ◌*ℤ◌, int_div, unsigned_abs, [], ◌∷◌, Result, Ok, Err, refl, sym, ap, ◌∙◌}
use Rattle.std.proofs.Common.{arith}
use Rattle.std.proofs.Math.IntN.{pos-*ℤ-pos, negsuc-*ℤ-pos}
use Rattle.std.proofs.lemmas.Bool.Decides.{nat_tests}
use Rattle.vb_value.specs.declared.fault.VbError.{VbError}
use Rattle.vb_value.specs.declared.function.PlainFn.TheVariants as function
use Rattle.vb_value.specs.declared.number.Number.{Number}
use Rattle.vb_value.specs.declared.number.Number.TheVariants as number
use Rattle.vb_value.specs.declared.value.Value.{Value, Empty, Null, Bool as Boolean, Int, Long, Cur, Str, Arr'}
use Rattle.vb_value.specs.declared.value.Value.{Obj, Nothing}
use Rattle.vb_value.specs.Arguments.{is_null}
use Rattle.vb_value.specs.Conversions.{number_value, to_cur_of, to_number_of}
use Rattle.vb_value.specs.Errors.{and_then, overflow}
use Rattle.vb_value.specs.Numbers.{amount_of, is_within}
use Rattle.vb_funcs.specs.Arithmetic.{cut, floor_of, sign_of, size_of}
use Rattle.vb_funcs.specs.Functions.{call_func_of}
use Rattle.function_laws.specs.Laws.{FixesBySize}
use Rattle.function_laws.proofs.Floor.{below}

-- ---- signs

positive : (m size : ℕ) → (m ≡ 0 → size ≡ 0) → pos size ≡ sign_of (pos m) *ℤ pos size
positive zero size none =
    let nothing = none refl in ap pos (omega (arith, nothing)) ∙ sym (pos-*ℤ-pos 0 size)
positive (suc m) size none =
    let some : (suc m == 0) ≡ false = grind (arith, nat_tests) in
    ap pos (omega arith) ∙ sym (pos-*ℤ-pos 1 size)
    ∙ ap (λ (zeroed : Bool). (if zeroed then pos 0 else pos 1) *ℤ pos size) (sym some)

negative : (less size : ℕ) → size ≡ suc less → negsuc less ≡ negsuc 0 *ℤ pos size
negative less size is =
    let times : suc less ≡ suc 0 * size = omega (arith, is) in
    ap (λ n. neg_ℤ (pos n)) times ∙ sym (negsuc-*ℤ-pos 0 size)

whole_sign : (k : ℤ) → k *ℤ pos 10000 ≡ sign_of (k *ℤ pos 10000) *ℤ (pos (unsigned_abs k) *ℤ pos 10000)
whole_sign (pos m) =
    let amount = pos-*ℤ-pos m 10000 in
    amount ∙ positive (m * 10000) (m * 10000) (λ none. none)
    ∙ ap (λ z. sign_of z *ℤ pos (m * 10000)) (sym amount) ∙ ap (λ z. sign_of (pos m *ℤ pos 10000) *ℤ z) (sym amount)
whole_sign (negsuc k) =
    let amount = below k in
    let size = pos-*ℤ-pos (suc k) 10000 in
    amount ∙ negative (k * 10000 + 9999) (suc k * 10000) (omega arith)
    ∙ ap (λ z. sign_of z *ℤ pos (suc k * 10000)) (sym amount) ∙ ap (λ z. sign_of (negsuc k *ℤ pos 10000) *ℤ z) (sym size)

units : (q : ℕ) → neg_ℤ (pos q) *ℤ pos 10000 ≡ negsuc 0 *ℤ pos (q * 10000)
units zero = pos-*ℤ-pos 0 10000 ∙ sym (negsuc-*ℤ-pos 0 (0 * 10000))
units (suc q) =
    let times : suc q * 10000 ≡ suc 0 * (suc q * 10000) = omega arith in
    negsuc-*ℤ-pos q 10000 ∙ ap (λ n. neg_ℤ (pos n)) times ∙ sym (negsuc-*ℤ-pos 0 (suc q * 10000))

cut_sign : (k : ℤ) → int_div k (pos 10000) *ℤ pos 10000 ≡ sign_of k *ℤ floor_of (pos (unsigned_abs k))
unfolding floor_of
cut_sign (pos m) =
    pos-*ℤ-pos (m / 10000) 10000 ∙ positive m (m / 10000 * 10000) (λ none. omega (arith, none))
cut_sign (negsuc k) = units (suc k / 10000)

-- ---- numbers

-- the amount of what Int gives of a size
part_of : Result Value VbError → Result ℤ VbError
part_of size = and_then (and_then size (λ size. call_func_of function.Int (size ∷ []))) to_cur_of

part_in : Result ℤ VbError → ℤ
part_in (Ok part) = part
part_in (Err refused) = pos 0

part_fits : (fits : Bool) (z part : ℤ) → part_of (and_then (if fits then Ok z else Err overflow) (λ n. Ok (Long n))) ≡ Ok part
    → part ≡ z *ℤ pos 10000
unfolding part_of part_in
part_fits true z part is = sym (ap part_in is)
part_fits false z part is = absurd (cc)

part_small : (small : Bool) (z part : ℤ)
    → part_of (Ok (number_value (if small then number.Int z else number.Long z))) ≡ Ok part → part ≡ z *ℤ pos 10000
unfolding part_of part_in
part_small true z part is = sym (ap part_in is)
part_small false z part is = sym (ap part_in is)

part_floor : (fits : Bool) (floor part : ℤ)
    → and_then (and_then (if fits then Ok floor else Err overflow) (λ n. Ok (Cur n))) to_cur_of ≡ Ok part → part ≡ floor
unfolding part_in
part_floor true floor part is = sym (ap part_in is)
part_floor false floor part is = absurd (cc)

part_cur : (fits : Bool) (z part : ℤ) → part_of (and_then (if fits then Ok z else Err overflow) (λ n. Ok (Cur n))) ≡ Ok part
    → part ≡ floor_of z
unfolding part_of
part_cur true z part is = part_floor (is_within (2 ^ 63) (floor_of z)) (floor_of z) part is
part_cur false z part is = absurd (cc)

by_part : (n : Number) (part : ℤ) → part_of (size_of n) ≡ Ok part
    → to_cur_of (cut n) ≡ Ok (sign_of (amount_of n) *ℤ part)
by_part (number.Int k) part is =
    let whole = part_small (is_within (2 ^ 15) (pos (unsigned_abs k))) (pos (unsigned_abs k)) part is in
    ap Ok (whole_sign k ∙ ap (λ z. sign_of (k *ℤ pos 10000) *ℤ z) (sym whole))
by_part (number.Long k) part is =
    let whole = part_fits (is_within (2 ^ 31) (pos (unsigned_abs k))) (pos (unsigned_abs k)) part is in
    ap Ok (whole_sign k ∙ ap (λ z. sign_of (k *ℤ pos 10000) *ℤ z) (sym whole))
by_part (number.Cur k) part is =
    let whole = part_cur (is_within (2 ^ 63) (pos (unsigned_abs k))) (pos (unsigned_abs k)) part is in
    ap Ok (cut_sign k ∙ ap (λ z. sign_of k *ℤ z) (sym whole))

-- ---- values

not_null : (x : Value) (n : Number) → to_number_of x ≡ Ok n → is_null x ≡ false
not_null Empty n is = refl
not_null Null n is = absurd (cc)
not_null (Boolean truth) n is = refl
not_null (Int i) n is = refl
not_null (Long i) n is = refl
not_null (Cur i) n is = refl
not_null (Str text) n is = refl
not_null (Arr' bounds fixed shape items) n is = refl
not_null (Obj object) n is = refl
not_null Nothing n is = refl

abs_is : (x : Value) (n : Number) → to_number_of x ≡ Ok n → is_null x ≡ false
    → call_func_of function.Abs (x ∷ []) ≡ size_of n
abs_is x n is known = rw (known, is) refl

fix_is : (x : Value) (n : Number) → to_number_of x ≡ Ok n → is_null x ≡ false
    → call_func_of function.Fix (x ∷ []) ≡ Ok (cut n)
fix_is x n is known = rw (known, is) refl

sign_in : Result Value VbError → ℤ
sign_in (Ok (Int sign)) = sign
sign_in _ = pos 0

has_sign : (given : Result Number VbError) (sign : ℤ)
    → and_then (and_then given (λ n. Ok (amount_of n))) (λ n. Ok (Int (sign_of n))) ≡ Ok (Int sign)
    → (n : Number) × (given ≡ Ok n) × (sign_of (amount_of n) ≡ sign)
unfolding sign_in
has_sign (Ok n) sign is = (n, refl, ap sign_in is)
has_sign (Err refused) sign is = absurd (cc)

pub fixes_by_size : (x : Value) → FixesBySize x
unfolding part_of
fixes_by_size x size whole sign part abs int sgn amount =
    let n = has_sign (to_number_of x) sign sgn in
    let known = not_null x n.0 n.1 in
    let size_is : size_of n.0 ≡ Ok size = sym (abs_is x n.0 n.1 known) ∙ abs in
    let part_is : part_of (size_of n.0) ≡ Ok part =
    ap part_of size_is ∙ (ap (λ (given : Result Value VbError). and_then given to_cur_of) int ∙ amount) in
    ap (λ (given : Result Value VbError). and_then given to_cur_of) (fix_is x n.0 n.1 known)
    ∙ (by_part n.0 part part_is ∙ ap (λ z. Ok (z *ℤ part)) n.2)
