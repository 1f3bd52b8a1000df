-- The attributes of a directive and of a tag: names, each with a value or without one, and blanks before each.
use Rattle.std.specs.Prelude.{ℕ, zero, suc, ◌+◌, Bool, not, ◌||◌, ◌==◌, if◌then◌else◌, List, [], ◌∷◌, take, drop}
use Rattle.std.specs.Prelude.{length}
use Rattle.std.specs.Prelude.{Option, None, Some}
use Rattle.std.specs.List.{prefix_len}
use Rattle.std.specs.Option.{option_map, option_and_then}
use Rattle.page_read.specs.declared.attribute.Attribute.{Attribute}
use Rattle.page_read.specs.Marks.{is_blank, unblanked, cut_by}

-- a character of a name, and of a value without quotes: no blank, no quote, none of `<`, `=` and `>`
abbrev pub is_plain : ℕ → Bool
is_plain c = not ((is_blank c || (c == 34 || c == 39)) || (c == 60 || (c == 61 || c == 62)))

-- the plain characters at the front
abbrev pub word : List ℕ → List ℕ
word text = take (prefix_len is_plain text) text

-- what stands behind them
abbrev pub behind_word : List ℕ → List ℕ
behind_word text = drop (prefix_len is_plain text) text

-- the word at the front and what stands behind it, where there is one
abbrev pub first_word : List ℕ → Option (List ℕ × List ℕ)
first_word text = if prefix_len is_plain text == 0 then None else Some (word text, behind_word text)

-- the value at the front, in `"` or in `'` or a word, and what stands behind it
abbrev pub first_value : List ℕ → Option (List ℕ × List ℕ)
first_value [] = None
first_value (c ∷ text) = if c == 34 || c == 39 then cut_by (c ∷ []) text else first_word (c ∷ text)

-- the value behind a `=`, or no character where there is no `=`, and what stands behind it
abbrev pub assigned : List ℕ → List ℕ → Option (List ℕ × List ℕ)
assigned text [] = Some ([], text)
assigned text (c ∷ more) = if c == 61 then first_value (unblanked more) else Some ([], text)

-- the attribute of this name, with the value that stands behind it, and what follows
abbrev pub named : List ℕ × List ℕ → Option (Attribute × List ℕ)
named found = option_map (λ (value : List ℕ × List ℕ). (record { name = found.0; value = value.0 }, value.1))
    (assigned found.1 (unblanked found.1))

-- the attribute at the front, which has a blank before it, and what follows
abbrev pub first_attribute : List ℕ → Option (Attribute × List ℕ)
first_attribute text = if prefix_len is_blank text == 0 then None else option_and_then named (first_word (unblanked
    text))

-- the attributes of a text that has at most so many
unfoldable pub attributes_within : ℕ → List ℕ → Option (List Attribute)
attributes_within zero text = None
attributes_within (suc most) text =
    if prefix_len is_blank text == length text then Some []
    else option_and_then (λ (first : Attribute × List ℕ). option_map (λ more. first.0 ∷ more)
    (attributes_within most first.1)) (first_attribute text)

-- the attributes of a text, where it has nothing else but blanks; it has no more of them than characters
abbrev pub attributes_of : List ℕ → Option (List Attribute)
attributes_of text = attributes_within (length text + 1) text
