-- How each word is written. A token's text, from its start to its end, is written so. The bounds on numbers, names and
-- strings stand in Numbers.antt, Names.antt and Strings.antt.
use Rattle.std.specs.Prelude.{◌≡◌, ℕ, ◌<◌, ◌≤◌, ◌⊎◌, Bool, true, false, List, [], ◌∷◌, ◌++◌, length, Some, ℤ, pos}
use Rattle.std.specs.Prelude.{if◌then◌else◌, ◌==◌, codes, slice_index, slice_range}
use Rattle.std.specs.Char.{is_ascii_alphabetic}
use Rattle.std.specs.Int.{w16, w32, cast_signed}
use Rattle.std.specs.List.{flat_map, list_all}
use Rattle.std.specs.Str.Parse.{digits_value}
use Rattle.vb_value.specs.declared.token.Symbol.{Symbol}
use Rattle.vb_value.specs.declared.token.Symbol.TheVariants as s
use Rattle.vb_value.specs.declared.token.Token.{Token}
use Rattle.vb_value.specs.declared.token.TokenKind.{TokenKind}
use Rattle.vb_value.specs.declared.token.TokenKind.TheVariants as kind
use Rattle.vb_value.specs.Characters.{carriage_return}
use Rattle.vb_lex.specs.Characters.{ampersand, capital_h, capital_o, close_bracket, is_bracketed}
use Rattle.vb_value.specs.Characters.{line_feed}
use Rattle.vb_lex.specs.Characters.{is_decimal, is_hexadecimal, is_name_part, is_octal, open_bracket}
use Rattle.vb_lex.specs.Characters.{quote, small_h, small_o}
use Rattle.vb_value.specs.Lines.{line_at}
use Rattle.vb_lex.specs.Names.{keyword}

-- the characters of a symbol
abbrev pub symbol_text : Symbol → List ℕ
symbol_text s.Ampersand = codes "&"
symbol_text s.AtMost = codes "<="
symbol_text s.AtLeast = codes ">="
symbol_text s.Backslash = codes "\\"
symbol_text s.Close = codes ")"
symbol_text s.Colon = codes ":"
symbol_text s.Comma = codes ","
symbol_text s.Equal = codes "="
symbol_text s.Greater = codes ">"
symbol_text s.Less = codes "<"
symbol_text s.Minus = codes "-"
symbol_text s.NotEqual = codes "<>"
symbol_text s.Open = codes "("
symbol_text s.Plus = codes "+"
symbol_text s.Star = codes "*"
symbol_text s.PathPoint = codes "."
symbol_text s.WithPoint = codes "."

-- the characters with each quote twice
abbrev pub doubled : List ℕ → List ℕ
doubled = flat_map (λ c. if c == quote then quote ∷ quote ∷ [] else c ∷ [])

-- The text is `&`, a letter in one of its cases, and digits.
pub record IsBased (capital small : ℕ) (is_digit : ℕ → Bool) (text digits : List ℕ) : Type 0 where
  pub letter : ℕ
  pub written : text ≡ ampersand ∷ letter ∷ digits
  pub either : (letter ≡ capital) ⊎ (letter ≡ small)
  pub some : 0 < length digits
  pub all : list_all is_digit digits ≡ true

-- The text is a number of base 16 or 8 with this value.
abbrev pub HasValue : List ℕ → ℕ → Type 0
HasValue text value =
    ((digits : List ℕ) × IsBased capital_h small_h is_hexadecimal text digits × (value ≡ digits_value 16 digits))
    ⊎ ((digits : List ℕ) × IsBased capital_o small_o is_octal text digits × (value ≡ digits_value 8 digits))

-- The text is a decimal number with this value.
abbrev pub IsDecimal : List ℕ → ℕ → Type 0
IsDecimal text value =
    (0 < length text) × (list_all is_decimal text ≡ true) × (value ≡ digits_value 10 text)

-- The text is a number of the type Integer with this value.
abbrev pub IsInteger : List ℕ → ℤ → Type 0
IsInteger text value =
    ((n : ℕ) × IsDecimal text n × (value ≡ pos n)) ⊎ ((n : ℕ) × HasValue text n × (value ≡ cast_signed w16 n))

-- The text is a number of the type Long with this value, where a `&` may stand last.
abbrev pub IsLong : List ℕ → ℤ → Type 0
IsLong text value =
    ((n : ℕ) × IsDecimal text n × (value ≡ pos n))
    ⊎ ((n : ℕ) × HasValue text n × (value ≡ cast_signed w32 n))
    ⊎ ((front : List ℕ) × (n : ℕ) × (text ≡ front ++ ampersand ∷ []) × HasValue front n
    × (value ≡ cast_signed w32 n))

-- The text is a line end, or an edge.
abbrev pub IsLineEnd : List ℕ → Type 0
IsLineEnd text =
    (text ≡ []) ⊎ (text ≡ carriage_return ∷ line_feed ∷ []) ⊎ (text ≡ carriage_return ∷ [])
    ⊎ (text ≡ line_feed ∷ [])

-- The text is the word.
abbrev pub IsSpelled : TokenKind → List ℕ → Type 0
IsSpelled (kind.Keyword word) text = keyword text ≡ Some word
IsSpelled (kind.Symbol symbol) text = text ≡ symbol_text symbol
IsSpelled (kind.Name name false) text =
    (text ≡ name) × (is_ascii_alphabetic (slice_index text 0) ≡ true) × (list_all is_name_part text ≡ true)
IsSpelled (kind.Name name true) text =
    (text ≡ open_bracket ∷ name ++ close_bracket ∷ []) × (list_all is_bracketed name ≡ true)
IsSpelled (kind.Integer value) text = IsInteger text value
IsSpelled (kind.Long value) text = IsLong text value
IsSpelled (kind.String value) text = text ≡ quote ∷ doubled value ++ quote ∷ []
IsSpelled kind.LineEnd text = IsLineEnd text
IsSpelled (kind.PageText text) _ = ⊥
IsSpelled kind.PageWrite text = ⊥

-- From a place on the tokens stand in the text one behind another, each on its line and with its text.
abbrev pub IsLaid : List ℕ → ℕ → List Token → Type 0
IsLaid text from [] = Unit {0}
IsLaid text from (token ∷ tokens) =
    (from ≤ token.start) × (token.start ≤ token.end) × (token.end ≤ length text)
    × (token.line ≡ line_at text token.start)
    × IsSpelled token.kind (slice_range text token.start token.end) × IsLaid text token.end tokens

-- No longer front of what is left at a token's start is a word. The two edges have no characters.
abbrev pub AreLongest : List ℕ → List Token → Type 0
AreLongest text [] = Unit {0}
AreLongest text (token ∷ tokens) =
    (token.start < token.end → (other : TokenKind) (end : ℕ) → token.end < end → end ≤ length text
    → IsSpelled other (slice_range text token.start end) → ⊥)
    × AreLongest text tokens
