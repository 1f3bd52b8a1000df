-- The words that the grammar quotes, and those that stand for themselves.
use Rattle.std.specs.Prelude.{ℕ, ◌+◌, List, ◌∷◌, true, false, Option, Some, None, if◌then◌else◌, ◌==◌}
use denote.Enum.Declared.{tag_of}
use Rattle.vb_value.specs.declared.token.Keyword.{Keyword}
use Rattle.vb_value.specs.declared.token.Keyword.TheVariants as k
use Rattle.vb_value.specs.contracts.token.Keyword as keywords
use Rattle.vb_value.specs.declared.token.Symbol.{Symbol}
use Rattle.vb_value.specs.declared.token.Symbol.TheVariants as s
use Rattle.vb_value.specs.contracts.token.Symbol as symbols
use Rattle.vb_value.specs.declared.token.Token.{Token}
use Rattle.vb_value.specs.declared.token.TokenKind.{TokenKind}
use Rattle.vb_value.specs.declared.token.TokenKind.TheVariants as kind
use Rattle.vb_syntax.specs.declared.expression.Literal.{Literal}
use Rattle.vb_syntax.specs.declared.expression.Literal.TheVariants as literal
use Rattle.vb_syntax.specs.grammar.Rules.{Rule, pure, ◌>>=◌, ◌>>◌, one, many}

-- A number for each kind of word: that of a keyword or a symbol is its place among the keywords or symbols.
abbrev pub tag : TokenKind → ℕ
tag (kind.Keyword keyword) = tag_of keywords.the_type keyword
tag (kind.Symbol symbol) = 100 + tag_of symbols.the_type symbol
tag (kind.Name text bracketed) = 200
tag (kind.Integer number) = 201
tag (kind.Long number) = 202
tag (kind.String text) = 203
tag kind.LineEnd = 204
tag (kind.PageText text) = 205
tag kind.PageWrite = 206

-- the line of a token whose kind has this number
abbrev pub line_of : ℕ → Token → Option ℕ
line_of number token = if tag token.kind == number then Some token.line else None

-- a word of this kind, which gives its line
abbrev pub word : TokenKind → Rule ℕ
word kind = one (line_of (tag kind))

-- a keyword
abbrev pub keyword : Keyword → Rule ℕ
keyword quoted = word (kind.Keyword quoted)

-- an operator or a mark of punctuation
abbrev pub symbol : Symbol → Rule ℕ
symbol quoted = word (kind.Symbol quoted)

-- things with commas between: x { "," x }
abbrev pub list_of : {A : Type 0} → Rule A → Rule (List A)
list_of rule = do
  first ← rule
  more ← many (symbol s.Comma >> rule)
  pure (first ∷ more)

-- what a name is
abbrev pub name_of_kind : TokenKind → Option (List ℕ)
name_of_kind (kind.Name text bracketed) = Some text
name_of_kind _ = None

-- any name
abbrev pub name_of : Token → Option (List ℕ)
name_of token = name_of_kind token.kind

-- the values that are keywords
abbrev pub literal_of_keyword : Keyword → Option Literal
literal_of_keyword k.True = Some (literal.Boolean true)
literal_of_keyword k.False = Some (literal.Boolean false)
literal_of_keyword k.Empty = Some literal.Empty
literal_of_keyword k.Null = Some literal.Null
literal_of_keyword _ = None

-- number | string | "True" | "False" | "Empty" | "Null"
abbrev pub literal_of_kind : TokenKind → Option Literal
literal_of_kind (kind.Keyword keyword) = literal_of_keyword keyword
literal_of_kind (kind.Integer number) = Some (literal.Integer number)
literal_of_kind (kind.Long number) = Some (literal.Long number)
literal_of_kind (kind.String text) = Some (literal.Text text)
literal_of_kind _ = None

-- a value that is written down
abbrev pub literal_of : Token → Option Literal
literal_of token = literal_of_kind token.kind
