-- InStr and InStrRev (VBScript 5.6, "String Functions"). Places count from 1, and 0 says that there is none.
use Rattle.std.specs.Prelude.{ℕ, ◌+◌, Bool, true, false, ◌&&◌, ◌||◌, ◌==◌, nat_lt, if◌then◌else◌, ℤ, pos, negsuc}
use Rattle.std.specs.Prelude.{List, [], ◌∷◌, length, take, drop, reverse, Option, Some, None, Result, Ok, Err}
use Rattle.std.specs.List.{find, range_with_len}
use Rattle.vb_value.specs.declared.fault.VbError.{VbError}
use Rattle.vb_value.specs.declared.value.Value.{Value, Null}
use Rattle.vb_value.specs.Arguments.{is_null}
use Rattle.vb_value.specs.Conversions.{to_long_of, to_str_of}
use Rattle.vb_value.specs.Errors.{wrong_number, and_then, invalid_call}
use Rattle.vb_strings.specs.declared.comparing.Comparison.{Comparison}
use Rattle.vb_strings.specs.declared.comparing.Comparison.TheVariants.{Exact}
use Rattle.vb_strings.specs.Comparing.{same, comparison_of}
use Rattle.vb_strings.specs.Results.{before_place, most_of, long}

-- whether a text begins with a pattern
abbrev pub begins : Comparison → List ℕ → List ℕ → Bool
begins comparison text [] = true
begins comparison [] (letter ∷ pattern) = false
begins comparison (character ∷ text) (letter ∷ pattern) =
    same comparison character letter && begins comparison text pattern

-- whether a pattern stands in a text behind so many characters
abbrev pub stands : Comparison → List ℕ → List ℕ → ℕ → Bool
stands comparison text pattern before = begins comparison (drop before text) pattern

-- how many characters stand before each of a text's characters
abbrev pub places_in : List ℕ → List ℕ
places_in text = range_with_len 0 (length text)

-- how many characters stand before the first place at which a pattern stands in a text
abbrev pub first_in : Comparison → List ℕ → List ℕ → Option ℕ
first_in comparison text pattern = find (stands comparison text pattern) (places_in text)

-- how many characters stand before the last such place
abbrev pub last_in : Comparison → List ℕ → List ℕ → Option ℕ
last_in comparison text pattern = find (stands comparison text pattern) (reverse (places_in text))

-- the place behind so many characters and those that were skipped, 0 where there is none
abbrev pub place_of : ℕ → Option ℕ → ℕ
place_of skipped (Some before) = skipped + before + 1
place_of skipped None = 0

-- the first place of a pattern in what follows the skipped characters. That is the next one for a pattern without
-- characters, and none where no character follows.
abbrev pub place_behind : Comparison → ℕ → List ℕ → List ℕ → ℕ
place_behind comparison skipped text pattern =
    place_of skipped (first_in comparison (drop skipped text) pattern)

-- a search of a text from a place on
unfoldable pub search_from : Comparison → List ℕ → List ℕ → ℤ → Result Value VbError
search_from comparison text pattern place =
    and_then (before_place place) (λ skipped. long (place_behind comparison skipped text pattern))

-- InStr with all its arguments; Null where a text is Null
abbrev pub in_str : Result ℤ VbError → Value → Value → Result Comparison VbError → Result Value VbError
in_str from a b comparison =
    if is_null a || is_null b then Ok Null
    else and_then from (λ place. and_then (to_str_of a) (λ text. and_then (to_str_of b) (λ pattern.
    and_then comparison (λ chosen. search_from chosen text pattern place))))

-- InStr([i,] a, b [, cmp]): from the first place where i is left out
abbrev pub in_str_of : List Value → Result Value VbError
in_str_of (a ∷ b ∷ []) = in_str (Ok (pos 1)) a b (Ok Exact)
in_str_of (i ∷ a ∷ b ∷ []) = in_str (to_long_of i) a b (Ok Exact)
in_str_of (i ∷ a ∷ b ∷ comparison ∷ []) = in_str (to_long_of i) a b (comparison_of comparison)
in_str_of _ = Err wrong_number

-- the place at which a search toward the front begins: that of the last character for -1
abbrev pub end_of : List ℕ → ℤ → Result ℕ VbError
end_of text (pos place) = if place == 0 then Err invalid_call else Ok place
end_of text (negsuc less) = most_of (length text) (negsuc less)

-- the last place of a pattern that ends at or before a place: it stands in the characters up to there. That is the
-- place itself for a pattern without characters, and none where the text does not reach it.
abbrev pub place_up_to : Comparison → ℕ → List ℕ → List ℕ → ℕ
place_up_to comparison last text pattern =
    if nat_lt (length text) last then 0
    else place_of 0 (last_in comparison (take last text) pattern)

-- a search of a text up to a place, toward the front
unfoldable pub search_up_to : Comparison → List ℕ → List ℕ → ℤ → Result Value VbError
search_up_to comparison text pattern place =
    and_then (end_of text place) (λ last. long (place_up_to comparison last text pattern))

-- InStrRev with all its arguments; Null where a text is Null
abbrev pub in_str_rev : Value → Value → Result ℤ VbError → Result Comparison VbError → Result Value VbError
in_str_rev a b from comparison =
    if is_null a || is_null b then Ok Null
    else and_then (to_str_of a) (λ text. and_then (to_str_of b) (λ pattern. and_then from (λ place.
    and_then comparison (λ chosen. search_up_to chosen text pattern place))))

-- InStrRev(a, b [, i [, cmp]]): from the end where i is left out
abbrev pub in_str_rev_of : List Value → Result Value VbError
in_str_rev_of (a ∷ b ∷ []) = in_str_rev a b (Ok (negsuc 0)) (Ok Exact)
in_str_rev_of (a ∷ b ∷ i ∷ []) = in_str_rev a b (to_long_of i) (Ok Exact)
in_str_rev_of (a ∷ b ∷ i ∷ comparison ∷ []) = in_str_rev a b (to_long_of i) (comparison_of comparison)
in_str_rev_of _ = Err wrong_number
