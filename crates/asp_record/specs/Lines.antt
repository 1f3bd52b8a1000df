-- How recordings and journals write numbers and bytes. It is our own.
use Rattle.std.specs.Prelude.{ℕ, ◌/◌, ◌%◌, Bool, false, if◌then◌else◌, List, [], ◌∷◌, ◌++◌, codes}
use Rattle.std.specs.Fmt.{decimal, digit_glyph}
use Rattle.std.specs.List.{flat_map}

-- a line ends in LF
abbrev pub line : List ℕ → List ℕ
line text = text ++ 10 ∷ []

-- a field behind the first of a line: a space stands before it
abbrev pub field : List ℕ → List ℕ
field text = 32 ∷ text

-- a number there, without leading zeros
abbrev pub number : ℕ → List ℕ
number n = field (decimal n)

-- a byte as two hexadecimal digits, in lower case
abbrev pub hex_byte : ℕ → List ℕ
hex_byte byte = digit_glyph false (byte / 16) ∷ digit_glyph false (byte % 16) ∷ []

-- bytes so
unfoldable pub hex : List ℕ → List ℕ
hex bytes = flat_map hex_byte bytes

-- what stands before one more text: `,` behind another
abbrev pub mark : Bool → List ℕ
mark more = if more then codes "," else []

-- texts with `,` between them
unfoldable pub with_commas : List (List ℕ) → List ℕ
with_commas [] = []
with_commas (text ∷ texts) = text ++ flat_map (λ other. codes "," ++ other) texts
