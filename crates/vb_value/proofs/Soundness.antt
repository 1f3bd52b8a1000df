-- Which values are sound, kind by kind, and which answers.
use Rattle.std.proofs.Common.{◌≡◌, ℕ, ◌^◌, Bool, true, false, nat_le, nat_lt, ℤ, List, map, length, refl, sym, ap}
use Rattle.std.proofs.Common.{◌∙◌, arith, if◌then◌else◌, Result, Ok, Err, IfOk}
use Rattle.std.proofs.lemmas.Bool.Decides.{nat_tests}
use Rattle.vb_value.specs.declared.fault.VbError.{VbError}
use Rattle.vb_value.specs.declared.number.Number.{Number}
use Rattle.vb_value.specs.declared.number.Number.TheVariants as number
use Rattle.vb_value.specs.declared.value.Array.{Array}
use Rattle.vb_value.specs.declared.value.ObjNo.{ObjNo}
use Rattle.vb_value.specs.declared.value.Value.{Empty, Null, Bool as Boolean, Int, Long, Cur, Str}
use Rattle.vb_value.specs.declared.value.Value.{Obj, Nothing}
use Rattle.vb_value.specs.declared.value.Value.TheViews.{Arr, rolls-Empty, rolls-Null, rolls-Bool, rolls-Int}
use Rattle.vb_value.specs.declared.value.Value.TheViews.{rolls-Long, rolls-Cur, rolls-Str, rolls-Obj, rolls-Nothing}
use Rattle.vb_value.specs.declared.value.Value.TheOpen.{Value-F}
use Rattle.vb_value.specs.declared.value.Value.TheFolds.{fold-roll-Value}
use Rattle.vb_value.specs.Conversions.{number_value}
use Rattle.vb_value.specs.Errors.{and_then, out_of_string_space}
use Rattle.vb_value.specs.Sound.{IsSound, is_sound, value_sound, array_sound}
use Rattle.vb_value.specs.TextLimit.{limited}
use Rattle.vb_value.proofs.Arrays.{fold-Arr}

pub sound-Empty : is_sound Empty ≡ true
sound-Empty = ap is_sound (sym rolls-Empty) ∙ fold-roll-Value Bool Bool value_sound array_sound Value-F.Empty

pub sound-Null : is_sound Null ≡ true
sound-Null = ap is_sound (sym rolls-Null) ∙ fold-roll-Value Bool Bool value_sound array_sound Value-F.Null

pub sound-Bool : (truth : Bool) → is_sound (Boolean truth) ≡ true
sound-Bool truth =
    ap is_sound (sym (rolls-Bool truth)) ∙ fold-roll-Value Bool Bool value_sound array_sound (Value-F.Bool truth)

pub sound-Int : (n : ℤ) → is_sound (Int n) ≡ true
sound-Int n = ap is_sound (sym (rolls-Int n)) ∙ fold-roll-Value Bool Bool value_sound array_sound (Value-F.Int n)

pub sound-Long : (n : ℤ) → is_sound (Long n) ≡ true
sound-Long n = ap is_sound (sym (rolls-Long n)) ∙ fold-roll-Value Bool Bool value_sound array_sound (Value-F.Long n)

pub sound-Cur : (n : ℤ) → is_sound (Cur n) ≡ true
sound-Cur n = ap is_sound (sym (rolls-Cur n)) ∙ fold-roll-Value Bool Bool value_sound array_sound (Value-F.Cur n)

pub sound-Str : (text : List ℕ) → is_sound (Str text) ≡ nat_lt (length text) (2 ^ 31)
sound-Str text =
    ap is_sound (sym (rolls-Str text)) ∙ fold-roll-Value Bool Bool value_sound array_sound (Value-F.Str text)

pub sound-Obj : (object : ObjNo) → is_sound (Obj object) ≡ true
sound-Obj object =
    ap is_sound (sym (rolls-Obj object)) ∙ fold-roll-Value Bool Bool value_sound array_sound (Value-F.Obj object)

pub sound-Nothing : is_sound Nothing ≡ true
sound-Nothing =
    ap is_sound (sym rolls-Nothing) ∙ fold-roll-Value Bool Bool value_sound array_sound Value-F.Nothing

-- an array is sound where its bounds are, and its items are as many as they say, each of them sound
pub sound-Arr : (array : Array) → is_sound (Arr array)
    ≡ array_sound (record { bounds = array.bounds; fixed = array.fixed; items = map is_sound array.items })
sound-Arr array = fold-Arr Bool Bool value_sound array_sound array

-- the value of a number is sound
pub sound_number : (n : Number) → IsSound (number_value n)
sound_number (number.Int n) = sound-Int n
sound_number (number.Long n) = sound-Long n
sound_number (number.Cur n) = sound-Cur n

within_limit : (text : List ℕ) (fits : Bool) → nat_le (length text) 1048576 ≡ fits
    → IfOk (if fits then Ok (Str text) else Err out_of_string_space) IsSound
within_limit text true fits =
    let within : nat_lt (length text) (2 ^ 31) ≡ true = grind (arith, nat_tests) in sound-Str text ∙ within
within_limit text false fits = tt

-- a text within the limit is sound
pub sound_limited : (text : List ℕ) → IfOk (limited text) IsSound
sound_limited text = within_limit text (nat_le (length text) 1048576) refl

-- what is made of a value is sound where it is so of each
pub each_ok : {T U : Type 0} (given : Result T VbError) (next : T → Result U VbError) (fact : U → Type 0)
    → ((x : T) → IfOk (next x) fact) → IfOk (and_then given next) fact
each_ok (Ok x) next fact each = each x
each_ok (Err refused) next fact each = tt
