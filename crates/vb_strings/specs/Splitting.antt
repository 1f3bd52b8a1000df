-- Split (VBScript 5.6, "String Functions").
use Rattle.std.specs.Prelude.{Bool, nat_le, ℕ, zero, suc, ◌+◌, ◌-◌, ◌==◌, false, if◌then◌else◌, ℤ, pos, negsuc, ◌-ℤ◌}
use Rattle.std.specs.Prelude.{List, [], ◌∷◌, length, take, drop, map, Option, Some, None, Result, Ok, Err}
use Rattle.std.specs.List.{list_all}
use Rattle.vb_value.specs.declared.fault.VbError.{VbError}
use Rattle.vb_value.specs.declared.value.Value.{Value, Str}
use Rattle.vb_value.specs.declared.value.Value.TheViews.{Arr}
use Rattle.vb_value.specs.Characters.{space}
use Rattle.vb_value.specs.Conversions.{to_long_of, to_str_of}
use Rattle.vb_value.specs.Errors.{wrong_number, and_then}
use Rattle.vb_value.specs.Numbers.{as_long}
use Rattle.vb_value.specs.TextLimit.{most_characters}
use Rattle.vb_strings.specs.declared.comparing.Comparison.{Comparison}
use Rattle.vb_strings.specs.declared.comparing.Comparison.TheVariants.{Exact}
use Rattle.vb_strings.specs.Comparing.{comparison_of}
use Rattle.vb_strings.specs.Results.{most_of}
use Rattle.vb_strings.specs.Searching.{first_in}

-- a text cut where a separator of that width stands behind so many characters; what follows has its own parts
abbrev pub cut : ℕ → (List ℕ → List (List ℕ)) → List ℕ → Option ℕ → List (List ℕ)
cut width parts_of text None = text ∷ []
cut width parts_of text (Some before) = take before text ∷ parts_of (drop (before + width) text)

-- the parts of a text between the first so many of its separators, none of which overlaps another
abbrev pub parts : Comparison → List ℕ → ℕ → List ℕ → List (List ℕ)
parts comparison separator zero text = text ∷ []
parts comparison separator (suc cuts) text =
    cut (length separator) (parts comparison separator cuts) text (first_in comparison text separator)

-- at most so many parts, the last of which has the rest of the text
abbrev pub most_parts : Comparison → List ℕ → List ℕ → ℕ → List (List ℕ)
most_parts comparison separator text most =
    if most == 0 then [] else parts comparison separator (most - 1) text

-- the parts of a text: none of one without characters, one where the separator has none, and else at most as many
-- as are wanted. All are one more than the text has characters at most.
unfoldable pub split : Comparison → List ℕ → List ℕ → ℤ → Result (List (List ℕ)) VbError
split comparison text separator number =
    if length text == 0 then Ok []
    else if length separator == 0 then Ok (text ∷ [])
    else and_then (most_of (length text + 1) number) (λ most. Ok (most_parts comparison separator text most))

-- texts as an array of one dimension that is not fixed
abbrev pub array_of : List (List ℕ) → Result Value VbError
array_of texts = and_then (as_long (pos (length texts) -ℤ pos 1)) (λ bound.
    Ok (Arr (record { bounds = bound ∷ []; fixed = false; items = map Str texts })))

-- whether none of the texts is too long for an answer
abbrev pub are_short : List (List ℕ) → Bool
are_short = list_all (λ text. nat_le (length text) most_characters)

-- the parts of a text as an array
abbrev pub split_array : Comparison → List ℕ → List ℕ → ℤ → Result Value VbError
split_array comparison text separator number = and_then (split comparison text separator number) array_of

-- Split with all its arguments
abbrev pub split_value : Value → Value → Result ℤ VbError → Result Comparison VbError → Result Value VbError
split_value s d n comparison =
    and_then (to_str_of s) (λ text. and_then (to_str_of d) (λ separator. and_then n (λ number.
    and_then comparison (λ chosen. split_array chosen text separator number))))

-- the separator of Split and Join where none is given: one space
abbrev pub one_space : Value
one_space = Str (space ∷ [])

-- Split(s [, d [, n [, cmp]]]): all the parts where n is left out
abbrev pub split_of : List Value → Result Value VbError
split_of (s ∷ []) = split_value s one_space (Ok (negsuc 0)) (Ok Exact)
split_of (s ∷ d ∷ []) = split_value s d (Ok (negsuc 0)) (Ok Exact)
split_of (s ∷ d ∷ n ∷ []) = split_value s d (to_long_of n) (Ok Exact)
split_of (s ∷ d ∷ n ∷ comparison ∷ []) = split_value s d (to_long_of n) (comparison_of comparison)
split_of _ = Err wrong_number
