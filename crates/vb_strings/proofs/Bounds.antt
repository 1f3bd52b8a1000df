-- The limit on texts: the answers that it lets be.
use Rattle.std.proofs.Common.{◌-ℤ◌, pos, ◌≡◌, ℕ, true, false, if◌then◌else◌, ℤ, List, [], ◌∷◌, Result, Ok, Err}
use Rattle.std.proofs.Common.{map, length, nat_le, ◌&&◌, refl, ap, ◌∙◌}
use Rattle.std.proofs.Common.{◌≤◌}
use Rattle.std.specs.List.{list_all}
use Rattle.std.proofs.lemmas.Bool.{le-leb}
use Rattle.vb_value.specs.declared.fault.VbError.{VbError}
use Rattle.vb_value.specs.declared.value.Value.{Value, Str}
use Rattle.vb_value.specs.declared.value.Value.TheViews.{Arr, outs-Arr}
use Rattle.vb_value.specs.Errors.{and_then, reported, out_of_string_space}
use Rattle.vb_value.specs.Numbers.{as_long}
use Rattle.vb_value.specs.TextLimit.{most_characters, limited}
use Rattle.vb_strings.specs.Results.{bounded, is_short, items_short}
use Rattle.vb_strings.specs.Characters.{asc_of, chr_of}
use Rattle.vb_strings.specs.Comparing.{str_comp_of}
use Rattle.vb_strings.specs.Parts.{len_of}
use Rattle.vb_strings.specs.Searching.{in_str_of, in_str_rev_of}
use Rattle.vb_strings.specs.Splitting.{are_short, array_of}
use Rattle.vb_strings.proofs.AnswerKinds.{then_all, len_all, in_str_of_all, in_str_rev_of_all, str_comp_of_all}
use Rattle.vb_strings.proofs.AnswerKinds.{asc_of_all, chr_of_all}

-- a text that is not too long as an answer
pub limited_fits : (text : List ℕ) → length text ≤ most_characters → limited text ≡ Ok (Str text)
limited_fits text short = rw (le-leb (length text) most_characters short) refl

-- texts as items of an array
short_items : (texts : List (List ℕ)) → list_all is_short (map Str texts) ≡ are_short texts
short_items [] = refl
short_items (text ∷ texts) = ap (λ rest. nat_le (length text) most_characters && rest) (short_items texts)

-- an array of one dimension of texts
abbrev pub texts_array : ℤ → List (List ℕ) → Value
texts_array bound texts = Arr (record { bounds = bound ∷ []; fixed = false; items = map Str texts })

-- such an array as an answer
pub array_bounded : (bound : ℤ) (texts : List (List ℕ)) → bounded (Ok (texts_array bound texts))
    ≡ (if are_short texts then Ok (texts_array bound texts) else Err out_of_string_space)
array_bounded bound texts =
    ap (λ level. if items_short level then Ok (texts_array bound texts) else Err out_of_string_space)
    (outs-Arr (record { bounds = bound ∷ []; fixed = false; items = map Str texts }))
    ∙ ap (λ short. if short then Ok (texts_array bound texts) else Err out_of_string_space) (short_items texts)

pub array_short : (bound : ℤ) (texts : List (List ℕ)) → are_short texts ≡ true
    → bounded (Ok (texts_array bound texts)) ≡ Ok (texts_array bound texts)
array_short bound texts short =
    array_bounded bound texts ∙ ap (λ v. if v then Ok (texts_array bound texts) else Err out_of_string_space) short

pub array_long : (bound : ℤ) (texts : List (List ℕ)) → are_short texts ≡ false
    → bounded (Ok (texts_array bound texts)) ≡ Err out_of_string_space
array_long bound texts long =
    array_bounded bound texts ∙ ap (λ v. if v then Ok (texts_array bound texts) else Err out_of_string_space) long

-- what gives no texts, or one character alone, is the same with the limit
abbrev Same : Result Value VbError → Type 0
Same answer = bounded answer ≡ answer

pub len_same : (arguments : List Value) → bounded (len_of arguments) ≡ len_of arguments
len_same = len_all Same (λ e. refl) refl (λ n. refl) (λ n. refl)

pub in_str_same : (arguments : List Value) → bounded (in_str_of arguments) ≡ in_str_of arguments
in_str_same = in_str_of_all Same (λ e. refl) refl (λ n. refl) (λ n. refl)

pub in_str_rev_same : (arguments : List Value) → bounded (in_str_rev_of arguments) ≡ in_str_rev_of arguments
in_str_rev_same = in_str_rev_of_all Same (λ e. refl) refl (λ n. refl) (λ n. refl)

pub str_comp_same : (arguments : List Value) → bounded (str_comp_of arguments) ≡ str_comp_of arguments
str_comp_same = str_comp_of_all Same (λ e. refl) refl (λ n. refl) (λ n. refl)

pub asc_same : (arguments : List Value) → bounded (asc_of arguments) ≡ asc_of arguments
asc_same = asc_of_all Same (λ e. refl) refl (λ n. refl) (λ n. refl)

pub chr_same : (arguments : List Value) → bounded (chr_of arguments) ≡ chr_of arguments
chr_same = chr_of_all Same (λ e. refl) (λ character. refl)

-- the functions that give none of the texts that have a limit
pub ruleset same_answers = (len_same, in_str_same, in_str_rev_same, str_comp_same, asc_same, chr_same)

-- an array of texts none of which is too long
pub array_same : (texts : List (List ℕ)) → are_short texts ≡ true → bounded (array_of texts) ≡ array_of texts
array_same texts short =
    then_all (λ answer. bounded answer ≡ answer) (λ e. refl) (as_long (pos (length texts) -ℤ pos 1))
    (λ bound. Ok (texts_array bound texts)) (λ bound. array_short bound texts short)

-- one of texts of which one is too long
pub array_refused : (texts : List (List ℕ)) (array : Value) → are_short texts ≡ false
    → reported (array_of texts) ≡ Ok array → reported (bounded (array_of texts)) ≡ reported (Err out_of_string_space)
array_refused texts array long is =
    let split : (bound : Result ℤ VbError)
    → reported (and_then bound (λ given. Ok (texts_array given texts))) ≡ Ok array
    → reported (bounded (and_then bound (λ given. Ok (texts_array given texts)))) ≡ reported (Err out_of_string_space) =
    elim [
      | Ok given ↦ λ made. ap reported (array_long given texts long)
      | Err refused ↦ λ made. absurd (cc)
    ] in
    split (as_long (pos (length texts) -ℤ pos 1)) is
