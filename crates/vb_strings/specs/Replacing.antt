-- Replace (VBScript 5.6, "String Functions").
use Rattle.std.specs.Prelude.{ℕ, ◌==◌, if◌then◌else◌, ℤ, pos, negsuc, List, [], ◌∷◌, length, drop}
use Rattle.std.specs.Prelude.{Result, Ok, Err}
use Rattle.vb_value.specs.declared.fault.VbError.{VbError}
use Rattle.vb_value.specs.declared.value.Value.{Value, Str}
use Rattle.vb_value.specs.Conversions.{to_long_of, to_str_of}
use Rattle.vb_value.specs.Errors.{wrong_number, and_then}
use Rattle.vb_strings.specs.declared.comparing.Comparison.{Comparison}
use Rattle.vb_strings.specs.declared.comparing.Comparison.TheVariants.{Exact}
use Rattle.vb_strings.specs.Comparing.{comparison_of}
use Rattle.vb_strings.specs.Results.{before_place, most_of}
use Rattle.vb_strings.specs.Splitting.{parts}
use Rattle.vb_strings.specs.Joining.{joined}

-- what stands around the first so many occurrences of a pattern in a text, none of which overlaps another; the
-- whole text for a pattern without characters
abbrev pub around : Comparison → List ℕ → ℕ → List ℕ → List (List ℕ)
around comparison pattern most text =
    if length pattern == 0 then text ∷ [] else parts comparison pattern most text

-- a text with the first so many occurrences of a pattern as another text
abbrev pub replaced : Comparison → List ℕ → List ℕ → ℕ → List ℕ → List ℕ
replaced comparison pattern other most text = joined other (around comparison pattern most text)

-- the same from a place on
abbrev pub replaced_from : Comparison → List ℕ → List ℕ → List ℕ → ℤ → ℤ → Result Value VbError
replaced_from comparison text pattern other place number =
    and_then (before_place place) (λ skipped. and_then (most_of (length text) number) (λ most.
    Ok (Str (replaced comparison pattern other most (drop skipped text)))))

-- Replace with all its arguments
abbrev pub replace_value : Value → Value → Value → Result ℤ VbError → Result ℤ VbError
    → Result Comparison VbError → Result Value VbError
replace_value s a b i n comparison =
    and_then (to_str_of s) (λ text. and_then (to_str_of a) (λ pattern. and_then (to_str_of b) (λ other.
    and_then i (λ place. and_then n (λ number. and_then comparison (λ chosen.
    replaced_from chosen text pattern other place number))))))

-- Replace(s, a, b [, i [, n [, cmp]]]): from the first place, and all where i and n are left out
abbrev pub replace_of : List Value → Result Value VbError
replace_of (s ∷ a ∷ b ∷ []) = replace_value s a b (Ok (pos 1)) (Ok (negsuc 0)) (Ok Exact)
replace_of (s ∷ a ∷ b ∷ i ∷ []) = replace_value s a b (to_long_of i) (Ok (negsuc 0)) (Ok Exact)
replace_of (s ∷ a ∷ b ∷ i ∷ n ∷ []) = replace_value s a b (to_long_of i) (to_long_of n) (Ok Exact)
replace_of (s ∷ a ∷ b ∷ i ∷ n ∷ comparison ∷ []) =
    replace_value s a b (to_long_of i) (to_long_of n) (comparison_of comparison)
replace_of _ = Err wrong_number
