-- Marks of a page, each in any ASCII case, blanks, and what stands up to a mark.
use Rattle.std.specs.Prelude.{ℕ, ◌+◌, Bool, ◌||◌, ◌==◌, if◌then◌else◌, List, [], ◌∷◌, take, drop, length, bytes_eq}
use Rattle.std.specs.Prelude.{Option, None, Some}
use Rattle.std.specs.List.{prefix_len}
use Rattle.std.specs.Option.{option_map}
use Rattle.vb_value.specs.Folding.{folded}

-- space, tab, CR, LF
abbrev pub is_blank : ℕ → Bool
is_blank c = (c == 32 || c == 9) || (c == 13 || c == 10)

-- the text behind the blanks at its front
abbrev pub unblanked : List ℕ → List ℕ
unblanked text = drop (prefix_len is_blank text) text

-- the text has nothing but blanks
abbrev pub is_blank_text : List ℕ → Bool
is_blank_text text = prefix_len is_blank text == length text

-- the text begins with the mark, which has no capital letters
abbrev pub begins : List ℕ → List ℕ → Bool
begins mark text = bytes_eq (take (length mark) (folded text)) mark

-- what stands behind the mark, where the text begins with it
abbrev pub behind : List ℕ → List ℕ → Option (List ℕ)
behind mark text = if begins mark text then Some (drop (length mark) text) else None

-- the first place at which the mark stands
unfoldable pub place_of : List ℕ → List ℕ → Option ℕ
place_of mark [] = None
place_of mark (c ∷ text) = if begins mark (c ∷ text) then Some 0 else option_map (λ at. at + 1) (place_of mark text)

-- what stands before the first such mark, and what stands behind it
abbrev pub cut_by : List ℕ → List ℕ → Option (List ℕ × List ℕ)
cut_by mark text = option_map (λ at. (take at text, drop (at + length mark) text)) (place_of mark text)
