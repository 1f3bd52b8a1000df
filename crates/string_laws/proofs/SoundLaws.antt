-- What the functions give is sound.
use Rattle.std.proofs.Common.{◌≡◌, ℕ, suc, ◌+◌, ◌*◌, ◌≤◌, ◌^◌, nat_le, Bool, true, false, if◌then◌else◌, ℤ, pos, negsuc}
use Rattle.std.proofs.Common.{◌-ℤ◌, List, [], ◌∷◌, Result, Ok, Err, IfOk, map, length, refl, sym, ◌∙◌, subst, arith}
use Rattle.std.specs.List.{list_all}
use Rattle.std.proofs.lemmas.Int.{ints}
use Rattle.std.proofs.lemmas.Bool.{lt-ltb, eq-eqb, and_parts, leb-true}
use Rattle.std.proofs.lemmas.List.{length-map}
use Rattle.vb_value.specs.declared.fault.VbError.{VbError}
use Rattle.vb_value.specs.declared.function.StrFn.TheVariants.{Len, Left, Right, Mid, InStr, InStrRev, LCase}
use Rattle.vb_value.specs.declared.function.StrFn.TheVariants.{UCase, Trim, LTrim, RTrim, Replace, Split, Join}
use Rattle.vb_value.specs.declared.function.StrFn.TheVariants.{StrReverse, Space, String, StrComp, Asc, AscW}
use Rattle.vb_value.specs.declared.function.StrFn.TheVariants.{Chr, ChrW}
use Rattle.vb_value.specs.declared.value.Value.{Value, Str}
use Rattle.vb_value.specs.Conversions.{to_str_of, to_long_of}
use Rattle.vb_value.specs.Errors.{and_then, wrong_number, overflow}
use Rattle.vb_value.specs.Numbers.{as_long, is_within}
use Rattle.vb_value.specs.Sound.{IsSound, is_sound, array_sound}
use Rattle.vb_value.specs.TextLimit.{most_characters}
use Rattle.vb_value.proofs.Soundness.{sound-Null, sound-Int, sound-Long, sound-Str, sound-Arr, sound_limited}
use Rattle.vb_strings.specs.declared.comparing.Comparison.{Comparison}
use Rattle.vb_strings.specs.declared.comparing.Comparison.TheVariants.{Exact}
use Rattle.vb_strings.specs.Comparing.{comparison_of}
use Rattle.string_laws.specs.Laws.{GivesSound}
use Rattle.vb_strings.specs.Results.{bounded}
use Rattle.vb_strings.specs.Splitting.{split, split_value, split_of, array_of, are_short, one_space}
use Rattle.vb_strings.proofs.AnswerKinds.{then_all, len_all, in_str_of_all, in_str_rev_of_all, str_comp_of_all}
use Rattle.vb_strings.proofs.AnswerKinds.{asc_of_all, chr_of_all, left_of_all, right_of_all, mid_of_all}
use Rattle.vb_strings.proofs.AnswerKinds.{ltrim_of_all, rtrim_of_all, trim_of_all, lcase_of_all, ucase_of_all}
use Rattle.vb_strings.proofs.AnswerKinds.{str_reverse_of_all, space_of_all, string_of_all, replace_of_all, join_of_all}
use Rattle.vb_strings.proofs.Bounds.{texts_array, array_short, array_long}

abbrev Sound : Result Value VbError → Type 0
Sound answer = IfOk (bounded answer) IsSound

refused : (e : VbError) → Sound (Err e)
refused e = tt

-- texts none of which is too long are sound
items_sound : (texts : List (List ℕ)) → are_short texts ≡ true
    → list_all (λ sound. sound) (map is_sound (map Str texts)) ≡ true
items_sound [] short = refl
items_sound (text ∷ texts) short =
    let both : (nat_le (length text) most_characters ≡ true) × (are_short texts ≡ true) =
    and_parts (nat_le (length text) most_characters) (are_short texts) short in
    let within : length text ≤ most_characters = leb-true (length text) most_characters both.0 in
    let first : is_sound (Str text) ≡ true =
    sound-Str text ∙ lt-ltb (length text) (2 ^ 31) (omega arith) in
    rw first (items_sound texts both.1)

bound_is : (z bound : ℤ) → as_long z ≡ Ok bound → z ≡ bound
bound_is z bound is =
    let split : (within : Bool)
    → ◌≡◌ {A = Result ℤ VbError} (if within then Ok z else Err overflow) (Ok bound) → z ≡ bound =
    elim [ true ↦ λ same. cc | false ↦ λ same. absurd (cc) ] in
    split (is_within (2 ^ 31) z) is

-- the test of an array of texts
bounds_match : (texts : List (List ℕ)) (bound : ℤ) → are_short texts ≡ true → pos (length texts) -ℤ pos 1 ≡ bound
    → array_sound (record { bounds = bound ∷ []; fixed = false; items = map is_sound (map Str texts) }) ≡ true
bounds_match [] bound short is =
    subst (λ z. array_sound (record { bounds = z ∷ []; fixed = false; items = [] }) ≡ true) is refl
bounds_match (text ∷ texts) bound short is =
    let back : pos (suc (length texts)) -ℤ pos 1 ≡ pos (length texts) = omega (arith, ints) in
    let count : length (map is_sound (map Str (text ∷ texts))) ≡ (length texts + 1) * 1 =
    length-map (map Str (text ∷ texts)) is_sound ∙ length-map (text ∷ texts) Str ∙ omega arith in
    subst (λ z. array_sound (record
    { bounds = z ∷ []; fixed = false; items = map is_sound (map Str (text ∷ texts)) }) ≡ true) (sym back ∙ is)
    (rw (eq-eqb (length (map is_sound (map Str (text ∷ texts)))) ((length texts + 1) * 1) count)
    (items_sound (text ∷ texts) short))

array_is_sound : (texts : List (List ℕ)) (bound : ℤ) → as_long (pos (length texts) -ℤ pos 1) ≡ Ok bound
    → (short : Bool) → are_short texts ≡ short → Sound (Ok (texts_array bound texts))
array_is_sound texts bound is true short =
    subst (λ answer. IfOk answer IsSound) (sym (array_short bound texts short))
    (sound-Arr (record { bounds = bound ∷ []; fixed = false; items = map Str texts })
    ∙ bounds_match texts bound short (bound_is (pos (length texts) -ℤ pos 1) bound is))
array_is_sound texts bound is false long =
    subst (λ answer. IfOk answer IsSound) (sym (array_long bound texts long)) tt

array_of_sound : (texts : List (List ℕ)) → Sound (array_of texts)
array_of_sound texts =
    let split : (bound : Result ℤ VbError) → as_long (pos (length texts) -ℤ pos 1) ≡ bound
    → Sound (and_then bound (λ given. Ok (texts_array given texts))) =
    elim [
      | Ok given ↦ λ is. array_is_sound texts given is (are_short texts) refl
      | Err stop ↦ λ is. tt
    ] in
    split (as_long (pos (length texts) -ℤ pos 1)) refl

split_sound : (s d : Value) (n : Result ℤ VbError) (comparison : Result Comparison VbError)
    → Sound (split_value s d n comparison)
split_sound s d n comparison =
    then_all Sound refused (to_str_of s) _ (λ text. then_all Sound refused (to_str_of d) _ (λ separator.
    then_all Sound refused n _ (λ number. then_all Sound refused comparison _ (λ chosen.
    then_all Sound refused (split chosen text separator number) array_of array_of_sound))))

split_of_sound : (arguments : List Value) → Sound (split_of arguments)
split_of_sound [] = refused wrong_number
split_of_sound (s ∷ []) = split_sound s one_space (Ok (negsuc 0)) (Ok Exact)
split_of_sound (s ∷ d ∷ []) = split_sound s d (Ok (negsuc 0)) (Ok Exact)
split_of_sound (s ∷ d ∷ n ∷ []) = split_sound s d (to_long_of n) (Ok Exact)
split_of_sound (s ∷ d ∷ n ∷ c ∷ []) = split_sound s d (to_long_of n) (comparison_of c)
split_of_sound (s ∷ d ∷ n ∷ c ∷ e ∷ more) = refused wrong_number

pub results_are_sound : GivesSound
results_are_sound Len = len_all Sound refused sound-Null sound-Int sound-Long
results_are_sound Left = left_of_all Sound refused sound-Null sound_limited
results_are_sound Right = right_of_all Sound refused sound-Null sound_limited
results_are_sound Mid = mid_of_all Sound refused sound-Null sound_limited
results_are_sound InStr = in_str_of_all Sound refused sound-Null sound-Int sound-Long
results_are_sound InStrRev = in_str_rev_of_all Sound refused sound-Null sound-Int sound-Long
results_are_sound LCase = lcase_of_all Sound refused sound-Null sound_limited
results_are_sound UCase = ucase_of_all Sound refused sound-Null sound_limited
results_are_sound Trim = trim_of_all Sound refused sound-Null sound_limited
results_are_sound LTrim = ltrim_of_all Sound refused sound-Null sound_limited
results_are_sound RTrim = rtrim_of_all Sound refused sound-Null sound_limited
results_are_sound Replace = replace_of_all Sound refused sound-Null sound_limited
results_are_sound Split = split_of_sound
results_are_sound Join = join_of_all Sound refused sound-Null sound_limited
results_are_sound StrReverse = str_reverse_of_all Sound refused sound-Null sound_limited
results_are_sound Space = space_of_all Sound refused sound-Null sound_limited
results_are_sound String = string_of_all Sound refused sound-Null sound_limited
results_are_sound StrComp = str_comp_of_all Sound refused sound-Null sound-Int sound-Long
results_are_sound Asc = asc_of_all Sound refused sound-Null sound-Int sound-Long
results_are_sound AscW = asc_of_all Sound refused sound-Null sound-Int sound-Long
results_are_sound Chr = chr_of_all Sound refused (λ character. sound_limited (character ∷ []))
results_are_sound ChrW = chr_of_all Sound refused (λ character. sound_limited (character ∷ []))
