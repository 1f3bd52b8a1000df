-- Operators that are no words, and the marks of punctuation.
use Rattle.std.specs.Prelude.{ℕ, List, [], ◌∷◌, if◌then◌else◌, ◌==◌, slice_index}
use Rattle.vb_value.specs.declared.token.Symbol.{Symbol}
use Rattle.vb_value.specs.declared.token.Symbol.TheVariants as s
use Rattle.vb_value.specs.declared.token.TokenKind.TheVariants.{Symbol as SymbolKind}
use Rattle.vb_lex.specs.declared.fault.LexFault.TheVariants.{BadCharacter, BadNumber, BadOperator, DateLiteral}
use Rattle.vb_lex.specs.declared.place.Behind.{Behind}
use Rattle.vb_lex.specs.declared.place.Behind.TheVariants as behind
use Rattle.vb_lex.specs.declared.piece.Piece.{Piece}
use Rattle.vb_lex.specs.declared.piece.Piece.TheVariants.{Word, Fault}
use Rattle.vb_lex.specs.Characters as c

-- A `.` directly behind a name, `Me` or `)` goes on with a path.
abbrev pub point_kind : Behind → Symbol
point_kind behind.Path = s.PathPoint
point_kind _ = s.WithPoint

-- A `.` may not stand directly before a digit.
abbrev pub point_word : Behind → List ℕ → Piece
point_word before text =
    if c.is_decimal (slice_index text 1) then Fault BadNumber else Word (SymbolKind (point_kind before)) 1

-- a comparison, which may have two characters
abbrev pub less_word : ℕ → Piece
less_word second =
    if second == c.greater then Word (SymbolKind s.NotEqual) 2
    else (if second == c.equal then Word (SymbolKind s.AtMost) 2 else Word (SymbolKind s.Less) 1)

abbrev pub greater_word : ℕ → Piece
greater_word second = if second == c.equal then Word (SymbolKind s.AtLeast) 2 else Word (SymbolKind s.Greater) 1

-- the words of one character, and the characters that are refused
abbrev pub one_character : List (ℕ × Piece)
one_character =
    (c.equal, Word (SymbolKind s.Equal) 1) ∷ (c.open_parenthesis, Word (SymbolKind s.Open) 1)
    ∷ (c.close_parenthesis, Word (SymbolKind s.Close) 1) ∷ (c.comma, Word (SymbolKind s.Comma) 1)
    ∷ (c.colon, Word (SymbolKind s.Colon) 1) ∷ (c.plus, Word (SymbolKind s.Plus) 1)
    ∷ (c.minus, Word (SymbolKind s.Minus) 1) ∷ (c.star, Word (SymbolKind s.Star) 1)
    ∷ (c.backslash, Word (SymbolKind s.Backslash) 1) ∷ (c.slash, Fault BadOperator)
    ∷ (c.circumflex, Fault BadOperator) ∷ (c.number_sign, Fault DateLiteral) ∷ []

-- what stands beside a character in a table
abbrev pub beside : List (ℕ × Piece) → ℕ → Piece
beside [] character = Fault BadCharacter
beside (entry ∷ entries) character = if character == entry.0 then entry.1 else beside entries character

-- the operator or mark at the front of a text
unfoldable pub symbol : ℕ → ℕ → Piece
symbol first second =
    if first == c.less then less_word second
    else (if first == c.greater then greater_word second else beside one_character first)
