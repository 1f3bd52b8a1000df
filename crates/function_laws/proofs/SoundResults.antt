-- What the functions give is sound: numbers, Booleans, texts within the limit, and arrays of their arguments.
use Rattle.std.proofs.Common.{◌≡◌, ℕ, zero, suc, ◌+◌, ◌*◌, Bool, true, false, ◌==◌, int_le, if◌then◌else◌}
use Rattle.std.proofs.Common.{pos, negsuc, ◌-ℤ◌, unsigned_abs, List, length, map, Result, Ok, IfOk}
use Rattle.std.proofs.Common.{refl, ap, ◌∙◌, arith}
use Rattle.std.specs.List.{list_all}
use Rattle.std.proofs.Math.IntN.{ -ℤ_one}
use Rattle.std.proofs.lemmas.Bool.Decides.{nat_tests}
use Rattle.std.proofs.lemmas.List.{length-map}
use Rattle.std.proofs.lemmas.List.Folds.{list_all-map}
use Rattle.vb_value.specs.declared.fault.VbError.{VbError}
use Rattle.vb_value.specs.declared.function.PlainFn.TheVariants.{Abs, Int as IntFunction, Fix, Sgn, CBool, CCur, CInt}
use Rattle.vb_value.specs.declared.function.PlainFn.TheVariants.{CLng, CStr, Hex, Oct, IsArray, IsEmpty, IsNull}
use Rattle.vb_value.specs.declared.function.PlainFn.TheVariants.{IsObject, IsNumeric, VarType, Array, UBound, LBound}
use Rattle.vb_value.specs.declared.number.Number.{Number}
use Rattle.vb_value.specs.declared.number.Number.TheVariants as number
use Rattle.vb_value.specs.declared.value.Value.{Value, Null, Bool as Boolean, Int, Long, Cur}
use Rattle.vb_value.specs.Arguments.{is_empty, is_null, null_or, of_one, the_argument}
use Rattle.vb_value.specs.Conversions.{to_number_of, to_int_of, to_long_of, to_cur_of, to_bool_of, to_str_of}
use Rattle.vb_value.specs.Numbers.{as_long, as_currency, whole_number}
use Rattle.vb_value.specs.Sound.{IsSound, is_sound, places}
use Rattle.vb_value.specs.TextLimit.{limited}
use Rattle.vb_value.proofs.Soundness.{sound-Bool, sound-Null, sound-Int, sound-Long, sound-Cur, sound-Arr}
use Rattle.vb_value.proofs.Soundness.{sound_number, sound_limited, each_ok}
use Rattle.vb_funcs.specs.Arithmetic.{cut, floor_of, lowered, sign_of, size_of}
use Rattle.vb_funcs.specs.Arrays.{array_of, named_bound}
use Rattle.vb_funcs.specs.Bases.{based_text, bits_of, bits_text}
use Rattle.vb_funcs.specs.Testing.{is_array, is_numeric, is_object, kind_of}
use Rattle.function_laws.specs.Laws.{GivesSound}

-- ---- one argument

sound_one : (f : Value → Result Value VbError) → ((x : Value) → IfOk (f x) IsSound) → (arguments : List Value)
    → IfOk (of_one f arguments) IsSound
sound_one f each arguments = each_ok (the_argument arguments) f IsSound each

one_of : (first : Bool) (a b : Result Value VbError) → IfOk a IsSound → IfOk b IsSound
    → IfOk (if first then a else b) IsSound
one_of true a b left right = left
one_of false a b left right = right

sound_beside_null : (f : Value → Result Value VbError) → ((x : Value) → IfOk (f x) IsSound) → (x : Value)
    → IfOk (null_or f x) IsSound
sound_beside_null f each x = one_of (is_null x) (Ok Null) (f x) sound-Null (each x)

sound_size : (n : Number) → IfOk (size_of n) IsSound
sound_size (number.Int n) = sound_number (whole_number (pos (unsigned_abs n)))
sound_size (number.Long n) = each_ok (as_long (pos (unsigned_abs n))) (λ n. Ok (Long n)) IsSound sound-Long
sound_size (number.Cur n) = each_ok (as_currency (pos (unsigned_abs n))) (λ n. Ok (Cur n)) IsSound sound-Cur

sound_lowered : (n : Number) → IfOk (lowered n) IsSound
sound_lowered (number.Int n) = sound-Int n
sound_lowered (number.Long n) = sound-Long n
sound_lowered (number.Cur n) = each_ok (as_currency (floor_of n)) (λ n. Ok (Cur n)) IsSound sound-Cur

sound_cut : (n : Number) → IsSound (cut n)
sound_cut (number.Int n) = sound-Int n
sound_cut (number.Long n) = sound-Long n
sound_cut (number.Cur n) = sound-Cur _

sound_bits : (base : ℕ) (x : Value) → IfOk (bits_text base x) IsSound
sound_bits base x =
    each_ok (bits_of x) (λ bits. limited (based_text base bits)) IsSound (λ bits. sound_limited (based_text base bits))

-- ---- arrays

bound_is : (n : ℕ) → (int_le (negsuc 0) (pos n -ℤ pos 1) ≡ true) × (places (pos n -ℤ pos 1) * 1 ≡ n)
bound_is zero = (refl, refl)
bound_is (suc n) =
    let before : pos (suc n) -ℤ pos 1 ≡ pos n = -ℤ_one (pos (suc n)) in
    (ap (int_le (negsuc 0)) before, ap (λ bound. places bound * 1) before ∙ times)
  where
    times : (n + 1) * 1 ≡ suc n
    times = omega arith

sound_array : (values : List Value) → list_all is_sound values ≡ true → IsSound (array_of values)
sound_array values all =
    let bound = bound_is (length values) in
    let items : list_all (λ sound. sound) (map is_sound values) ≡ true =
    list_all-map (λ sound. sound) is_sound values ∙ all in
    let count : (length (map is_sound values) == places (pos (length values) -ℤ pos 1) * 1) ≡ true =
    rw (length-map values is_sound, bound.1) (grind (arith, nat_tests)) in
    sound-Arr _ ∙ rw (bound.0, count, items) refl

-- ---- each function

pub gives_sound : GivesSound
gives_sound Abs arguments all =
    sound_one _ (sound_beside_null _ (λ x. each_ok (to_number_of x) size_of IsSound sound_size)) arguments
gives_sound IntFunction arguments all =
    sound_one _ (sound_beside_null _ (λ x. each_ok (to_number_of x) lowered IsSound sound_lowered)) arguments
gives_sound Fix arguments all =
    sound_one _ (sound_beside_null _ (λ x. each_ok (to_number_of x) (λ n. Ok (cut n)) IsSound sound_cut)) arguments
gives_sound Sgn arguments all =
    sound_one _ (λ x. each_ok (to_cur_of x) (λ n. Ok (Int (sign_of n))) IsSound (λ n. sound-Int (sign_of n))) arguments
gives_sound CBool arguments all =
    sound_one _ (λ x. each_ok (to_bool_of x) (λ truth. Ok (Boolean truth)) IsSound sound-Bool) arguments
gives_sound CCur arguments all =
    sound_one _ (λ x. each_ok (to_cur_of x) (λ n. Ok (Cur n)) IsSound sound-Cur) arguments
gives_sound CInt arguments all =
    sound_one _ (λ x. each_ok (to_int_of x) (λ n. Ok (Int n)) IsSound sound-Int) arguments
gives_sound CLng arguments all =
    sound_one _ (λ x. each_ok (to_long_of x) (λ n. Ok (Long n)) IsSound sound-Long) arguments
gives_sound CStr arguments all =
    sound_one _ (λ x. each_ok (to_str_of x) limited IsSound sound_limited) arguments
gives_sound Hex arguments all = sound_one _ (sound_beside_null _ (sound_bits 16)) arguments
gives_sound Oct arguments all = sound_one _ (sound_beside_null _ (sound_bits 8)) arguments
gives_sound IsArray arguments all = sound_one _ (λ x. sound-Bool (is_array x)) arguments
gives_sound IsEmpty arguments all = sound_one _ (λ x. sound-Bool (is_empty x)) arguments
gives_sound IsNull arguments all = sound_one _ (λ x. sound-Bool (is_null x)) arguments
gives_sound IsObject arguments all = sound_one _ (λ x. sound-Bool (is_object x)) arguments
gives_sound IsNumeric arguments all = sound_one _ (λ x. sound-Bool (is_numeric x)) arguments
gives_sound VarType arguments all = sound_one _ (λ x. sound-Int (kind_of x)) arguments
gives_sound Array arguments all = sound_array arguments all
gives_sound UBound arguments all = each_ok (named_bound arguments) (λ bound. Ok (Long bound)) IsSound sound-Long
gives_sound LBound arguments all =
    each_ok (named_bound arguments) (λ _. Ok (Long (pos 0))) IsSound (λ _. sound-Long (pos 0))
