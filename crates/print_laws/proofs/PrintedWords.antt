-- Words that a rule asks for are printed as they are.
use Rattle.std.proofs.Common.{◌≡◌, ℕ, ◌<◌, ◌==◌, Bool, true, false, cond, List, [], ◌∷◌, Option}
use Rattle.std.proofs.Common.{Some, None, refl, ap, ◌∙◌, arith}
use Rattle.std.proofs.lemmas.Bool.{eqb-true}
use denote.Enum.Declared.{tag_of, variants}
use denote.Enum.Enum.{tag_below}
use denote.Enum.Bare.{tag_one}
use Rattle.vb_value.specs.declared.operator.Op2.{Op2}
use Rattle.vb_value.specs.declared.operator.Op2.TheVariants as op
use Rattle.vb_value.specs.declared.token.Keyword.{Keyword}
use Rattle.vb_value.specs.declared.token.Keyword.TheVariants as k
use Rattle.vb_value.specs.contracts.token.Keyword as keywords
use Rattle.vb_value.specs.declared.token.Symbol.{Symbol}
use Rattle.vb_value.specs.declared.token.Symbol.TheVariants as s
use Rattle.vb_value.specs.contracts.token.Symbol as symbols
use Rattle.vb_value.specs.declared.token.Token.{Token}
use Rattle.vb_value.specs.declared.token.TokenKind.{TokenKind}
use Rattle.vb_value.specs.declared.token.TokenKind.TheVariants as kind
use Rattle.vb_syntax.specs.declared.expression.Literal.{Literal}
use Rattle.vb_syntax.specs.declared.expression.Literal.TheVariants as literal
use Rattle.vb_syntax.specs.grammar.Rules.{Tokens, one}
use Rattle.vb_syntax.specs.grammar.Words.{tag, line_of, name_of, name_of_kind, literal_of, literal_of_kind, literal_of_keyword}
use Rattle.vb_syntax.specs.grammar.Words as words
use Rattle.vb_syntax.specs.grammar.Expressions.{operator_of, keyword_operator, symbol_operator, operator_at, at_level}
use Rattle.vb_print.specs.Words.{literal_word, operator_word}
use Rattle.print_laws.proofs.Alike.{plain, kinds}

keyword_below : (keyword : Keyword) → tag_of keywords.the_type keyword < 54
keyword_below keyword = tag_below (variants keywords.the_type) (keywords.the_type.to keyword)

symbol_below : (symbol : Symbol) → tag_of symbols.the_type symbol < 17
symbol_below symbol = tag_below (variants symbols.the_type) (symbols.the_type.to symbol)

pub keyword_same : (found : TokenKind) (keyword : Keyword) → tag found ≡ tag (kind.Keyword keyword)
    → found ≡ kind.Keyword keyword
keyword_same (kind.Keyword other) keyword e = ap kind.Keyword (tag_one keywords.the_type tt other keyword e)
keyword_same (kind.Symbol other) keyword e = let b = keyword_below keyword in absurd (omega arith)
keyword_same _ keyword e = let b = keyword_below keyword in absurd (omega arith)

pub symbol_same : (found : TokenKind) (symbol : Symbol) → tag found ≡ tag (kind.Symbol symbol)
    → found ≡ kind.Symbol symbol
symbol_same (kind.Symbol other) symbol e = ap kind.Symbol (tag_one symbols.the_type tt other symbol (omega arith))
symbol_same (kind.Keyword other) symbol e = let b = keyword_below other in absurd (omega arith)
symbol_same _ symbol e = let b = symbol_below symbol in absurd (omega arith)

tag_passes : (number : ℕ) (token : Token) (line : ℕ) → line_of number token ≡ Some line → tag token.kind ≡ number
tag_passes number token line h = go (tag token.kind == number) refl h
  where
    go : (t : Bool) → (tag token.kind == number) ≡ t → cond t (Some token.line) None ≡ Some line
        → tag token.kind ≡ number
    go true is h = eqb-true _ _ is
    go false is h = absurd cc

-- what the words are that a rule spells
pub kinds-keyword : (keyword : Keyword) (tokens : Tokens) (line : ℕ) → words.keyword keyword tokens line
    → kinds tokens ≡ kind.Keyword keyword ∷ []
kinds-keyword keyword tokens line h = ap kinds h.alone ∙ ap (λ (found : TokenKind). plain found ∷ [])
    (keyword_same h.token.kind keyword (tag_passes _ h.token line h.passes))

pub kinds-symbol : (symbol : Symbol) (tokens : Tokens) (line : ℕ) → words.symbol symbol tokens line
    → kinds tokens ≡ kind.Symbol symbol ∷ []
kinds-symbol symbol tokens line h = ap kinds h.alone ∙ ap (λ (found : TokenKind). plain found ∷ [])
    (symbol_same h.token.kind symbol (tag_passes _ h.token line h.passes))

name_same : (found : TokenKind) (name : List ℕ) → name_of_kind found ≡ Some name → plain found ≡ kind.Name name true
name_same (kind.Name text bracketed) name e = let same : text ≡ name = cc in ap (λ t. kind.Name t true) same
name_same _ name e = absurd cc

pub kinds-name : (tokens : Tokens) (name : List ℕ) → one name_of tokens name
    → kinds tokens ≡ kind.Name name true ∷ []
kinds-name tokens name h = ap kinds h.alone ∙ ap (λ (found : TokenKind). found ∷ [])
    (name_same h.token.kind name h.passes)

literal_keyword : (keyword : Keyword) (found : Literal) → literal_of_keyword keyword ≡ Some found
    → kind.Keyword keyword ≡ literal_word found
literal_keyword k.True found e = let same : literal.Boolean true ≡ found = cc in ap literal_word same
literal_keyword k.False found e = let same : literal.Boolean false ≡ found = cc in ap literal_word same
literal_keyword k.Empty found e = let same : literal.Empty ≡ found = cc in ap literal_word same
literal_keyword k.Null found e = let same : literal.Null ≡ found = cc in ap literal_word same
literal_keyword _ found e = absurd cc

literal_same : (token : TokenKind) (found : Literal) → literal_of_kind token ≡ Some found
    → plain token ≡ literal_word found
literal_same (kind.Keyword keyword) found e = literal_keyword keyword found e
literal_same (kind.Integer number) found e = let same : literal.Integer number ≡ found = cc in ap literal_word same
literal_same (kind.Long number) found e = let same : literal.Long number ≡ found = cc in ap literal_word same
literal_same (kind.String text) found e = let same : literal.Text text ≡ found = cc in ap literal_word same
literal_same _ found e = absurd cc

pub kinds-literal : (tokens : Tokens) (found : Literal) → one literal_of tokens found
    → kinds tokens ≡ literal_word found ∷ []
kinds-literal tokens found h = ap kinds h.alone ∙ ap (λ (found : TokenKind). found ∷ [])
    (literal_same h.token.kind found h.passes)

second : Op2 → Option (ℕ × Op2) → Op2
second other None = other
second other (Some found) = found.1

keyword_operator_same : (keyword : Keyword) (found : ℕ × Op2) → keyword_operator keyword ≡ Some found
    → kind.Keyword keyword ≡ operator_word found.1
unfolding second
keyword_operator_same k.Mod found e = ap (λ o. operator_word (second op.Add o)) e
keyword_operator_same k.Is found e = ap (λ o. operator_word (second op.Add o)) e
keyword_operator_same k.And found e = ap (λ o. operator_word (second op.Add o)) e
keyword_operator_same k.Or found e = ap (λ o. operator_word (second op.Add o)) e
keyword_operator_same k.Xor found e = ap (λ o. operator_word (second op.Add o)) e
keyword_operator_same k.Eqv found e = ap (λ o. operator_word (second op.Add o)) e
keyword_operator_same k.Imp found e = ap (λ o. operator_word (second op.Add o)) e
keyword_operator_same _ found e = absurd cc

symbol_operator_same : (symbol : Symbol) (found : ℕ × Op2) → symbol_operator symbol ≡ Some found
    → kind.Symbol symbol ≡ operator_word found.1
unfolding second
symbol_operator_same s.Star found e = ap (λ o. operator_word (second op.Add o)) e
symbol_operator_same s.Backslash found e = ap (λ o. operator_word (second op.Add o)) e
symbol_operator_same s.Plus found e = ap (λ o. operator_word (second op.Add o)) e
symbol_operator_same s.Minus found e = ap (λ o. operator_word (second op.Add o)) e
symbol_operator_same s.Ampersand found e = ap (λ o. operator_word (second op.Add o)) e
symbol_operator_same s.Equal found e = ap (λ o. operator_word (second op.Add o)) e
symbol_operator_same s.NotEqual found e = ap (λ o. operator_word (second op.Add o)) e
symbol_operator_same s.Less found e = ap (λ o. operator_word (second op.Add o)) e
symbol_operator_same s.Greater found e = ap (λ o. operator_word (second op.Add o)) e
symbol_operator_same s.AtMost found e = ap (λ o. operator_word (second op.Add o)) e
symbol_operator_same s.AtLeast found e = ap (λ o. operator_word (second op.Add o)) e
symbol_operator_same _ found e = absurd cc

operator_same : (token : TokenKind) (found : ℕ × Op2) → operator_of token ≡ Some found
    → plain token ≡ operator_word found.1
operator_same (kind.Keyword keyword) found e = keyword_operator_same keyword found e
operator_same (kind.Symbol symbol) found e = symbol_operator_same symbol found e
operator_same _ found e = absurd cc

of_level : (level : ℕ) (token : TokenKind) (operator : Op2) (found : Option (ℕ × Op2)) → operator_of token ≡ found
    → at_level level found ≡ Some operator → plain token ≡ operator_word operator
of_level level token operator None is e = absurd cc
of_level level token operator (Some found) is e = go (found.0 == level) e
  where
    go : (t : Bool) → cond t (Some found.1) None ≡ Some operator → plain token ≡ operator_word operator
    go true e = let same : found.1 ≡ operator = cc in operator_same token found is ∙ ap operator_word same
    go false e = absurd cc

pub kinds-operator : (level : ℕ) (tokens : Tokens) (operator : Op2) → one (operator_at level) tokens operator
    → kinds tokens ≡ operator_word operator ∷ []
kinds-operator level tokens operator h = ap kinds h.alone ∙ ap (λ (found : TokenKind). found ∷ [])
    (of_level level h.token.kind operator (operator_of h.token.kind) refl h.passes)
