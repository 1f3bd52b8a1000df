-- How words are printed. What the grammar leaves free is chosen here: every word of a statement stands in the line of
-- the statement, at no place of its own, and each name stands in brackets, so that no name is read as a quoted word.
use Rattle.std.specs.Prelude.{ℕ, Bool, true, false, List, [], ◌∷◌, ◌++◌}
use Rattle.std.specs.List.{flat_map}
use Rattle.vb_value.specs.declared.operator.Op2.{Op2}
use Rattle.vb_value.specs.declared.operator.Op2.TheVariants as op
use Rattle.vb_value.specs.declared.token.Keyword.{Keyword}
use Rattle.vb_value.specs.declared.token.Keyword.TheVariants as k
use Rattle.vb_value.specs.declared.token.Symbol.{Symbol}
use Rattle.vb_value.specs.declared.token.Symbol.TheVariants as s
use Rattle.vb_value.specs.declared.token.Token.{Token}
use Rattle.vb_value.specs.declared.token.TokenKind.{TokenKind}
use Rattle.vb_value.specs.declared.token.TokenKind.TheVariants as kind
use Rattle.vb_syntax.specs.declared.expression.Literal.{Literal}
use Rattle.vb_syntax.specs.declared.expression.Literal.TheVariants as literal
use Rattle.vb_syntax.specs.grammar.Rules.{Tokens}

-- ---- which words

-- True or False
abbrev pub truth_word : Bool → Keyword
truth_word true = k.True
truth_word false = k.False

-- the word of a value that is written down
abbrev pub literal_word : Literal → TokenKind
literal_word literal.Empty = kind.Keyword k.Empty
literal_word literal.Null = kind.Keyword k.Null
literal_word (literal.Boolean truth) = kind.Keyword (truth_word truth)
literal_word (literal.Integer number) = kind.Integer number
literal_word (literal.Long number) = kind.Long number
literal_word (literal.Text text) = kind.String text

-- the word of an operator on two values
abbrev pub operator_word : Op2 → TokenKind
operator_word op.Multiply = kind.Symbol s.Star
operator_word op.Divide = kind.Symbol s.Backslash
operator_word op.Modulo = kind.Keyword k.Mod
operator_word op.Add = kind.Symbol s.Plus
operator_word op.Subtract = kind.Symbol s.Minus
operator_word op.Join = kind.Symbol s.Ampersand
operator_word op.Equal = kind.Symbol s.Equal
operator_word op.Unequal = kind.Symbol s.NotEqual
operator_word op.Less = kind.Symbol s.Less
operator_word op.Greater = kind.Symbol s.Greater
operator_word op.AtMost = kind.Symbol s.AtMost
operator_word op.AtLeast = kind.Symbol s.AtLeast
operator_word op.Is = kind.Keyword k.Is
operator_word op.And = kind.Keyword k.And
operator_word op.Or = kind.Keyword k.Or
operator_word op.Xor = kind.Keyword k.Xor
operator_word op.Eqv = kind.Keyword k.Eqv
operator_word op.Imp = kind.Keyword k.Imp

-- ---- words in a line

-- a word in a line
abbrev pub printed : ℕ → TokenKind → Token
printed line kind = record { kind = kind; line = line; start = 0; end = 0 }

-- a keyword
abbrev pub keyword : ℕ → Keyword → Token
keyword line word = printed line (kind.Keyword word)

-- an operator or a mark of punctuation
abbrev pub symbol : ℕ → Symbol → Token
symbol line word = printed line (kind.Symbol word)

-- a name, in brackets
abbrev pub name : ℕ → List ℕ → Token
name line text = printed line (kind.Name text true)

-- a word that is a name elsewhere, which is never in brackets
abbrev pub quoted : ℕ → List ℕ → Token
quoted line text = printed line (kind.Name text false)

-- things with a word between: x { word x }
abbrev pub joined : Token → List Tokens → Tokens
joined word [] = []
joined word (first ∷ more) = first ++ flat_map (λ (x : Tokens). word ∷ x) more

-- things with commas between
abbrev pub listed : ℕ → List Tokens → Tokens
listed line = joined (symbol line s.Comma)
