-- Readers of expressions and of what opens, before what may stand behind them.
use Rattle.std.proofs.Common.{◌≡◌, ℕ, pos, zero, suc, ◌<◌, ◌==◌, Bool, true, false, cond, List, [], ◌∷◌, ◌++◌}
use Rattle.std.proofs.Common.{Option, Some, None, if◌then◌else◌, refl, ap, ◌∙◌}
use Rattle.std.proofs.lemmas.Bool.{eqb-true}
use Rattle.vb_value.specs.declared.token.Keyword.TheVariants as k
use Rattle.vb_value.specs.declared.token.Symbol.TheVariants as s
use Rattle.vb_value.specs.declared.token.Token.{Token}
use Rattle.vb_value.specs.declared.token.TokenKind.TheVariants as kind
use Rattle.vb_syntax.specs.grammar.Rules.{Tokens, Rule}
use Rattle.vb_syntax.specs.grammar.Words.{tag}
use Rattle.vb_syntax.specs.grammar.Expressions as grammar
use Rattle.vb_syntax.specs.grammar.Expressions.{operator_of, operator_at}
use Rattle.vb_syntax.specs.grammar.Declarations as declarations
use Rattle.vb_read.specs.Reader.{Reader, next, passes}
use Rattle.vb_read.specs.ReadExpressions as spec
use Rattle.vb_read.specs.ReadExpressions.{goes_on_path}
use Rattle.vb_read.specs.ReadDeclarations as read_declarations
use Rattle.vb_read.specs.Depths.{opens, inside}
use Rattle.vb_read.proofs.Taking.{Follow, Takes, takes_narrow}
use Rattle.vb_read.proofs.Beginning.{other_level, level_tag, tag_level, tag_is_literal}
use Rattle.vb_read.proofs.ExpressionEnds.{Ends, positive_differs, tag_is_expression}
use Rattle.vb_read.proofs.ExpressionTaking.{expressions_taken}
use Rattle.vb_read.proofs.Tags.{or_last, among, among_both, all_have, among_has}
use Rattle.vb_read.proofs.Following.{next_in, Before, BeginsIn, Closed}

-- ---- what ends an expression

-- a token with this number goes on neither with a path nor with an operator
abbrev EndsAt : ℕ → Type 0
EndsAt n = ((n == tag (kind.Symbol s.PathPoint)) ≡ false) × ((n == tag (kind.Symbol s.Open)) ≡ false)
    × (tag_level n ≡ 0)

abbrev pub tag_ends : ℕ → Bool
tag_ends n = if n == tag (kind.Symbol s.PathPoint) then false
    else (if n == tag (kind.Symbol s.Open) then false else tag_level n == 0)

ends_facts : (n : ℕ) → tag_ends n ≡ true → EndsAt n
ends_facts n is = go (n == tag (kind.Symbol s.PathPoint)) refl (n == tag (kind.Symbol s.Open)) refl is
  where
    go : (a : Bool) → (n == tag (kind.Symbol s.PathPoint)) ≡ a → (b : Bool) → (n == tag (kind.Symbol s.Open)) ≡ b
        → cond a false (cond b false (tag_level n == 0)) ≡ true → EndsAt n
    go true at b _ is = absurd cc
    go false point true at is = absurd cc
    go false point false paren is = (point, paren, eqb-true (tag_level n) 0 is)

-- before such tokens an expression ends
pub ends_before : (v : List ℕ) → all_have tag_ends v ≡ true → (rest : Tokens) → Before v rest → Ends 12 rest
ends_before v all rest b = record {
  path = path (next rest) b.fits;
  quiet = λ n some less. quiet n some
      (next rest) b.fits;
}
  where
    facts : (token : Token) → among v (tag token.kind) ≡ true → EndsAt (tag token.kind)
    facts token is = ends_facts (tag token.kind) (among_has tag_ends v all (tag token.kind) is)

    path : (token : Option Token) → next_in (among v) token ≡ true → goes_on_path token ≡ false
    path None is = refl
    path (Some token) is = let found = facts token is in rw (found.0, found.1) refl

    quiet : (n : ℕ) → 0 < n → (token : Option Token) → next_in (among v) token ≡ true
        → passes (operator_at n) token ≡ false
    quiet n some None is = refl
    quiet n some (Some token) is = other_level n (operator_of token.kind) (ap (λ l. l == n) (level_tag token.kind
        ∙ (facts token is).2) ∙ positive_differs n some)

-- ---- expressions

-- an expression, before tokens that end it
pub takes_expression : (depth : ℕ) {v : List ℕ} → all_have tag_ends v ≡ true
    → Takes (spec.expressions depth).expression (grammar.expressions depth).expression (Before v)
takes_expression depth {v} all = takes_narrow (ends_before v all) ((expressions_taken depth).expression refl)

-- the numbers of the tokens that are values
abbrev pub literal_heads : List ℕ
literal_heads = tag (kind.Keyword k.Empty) ∷ tag (kind.Keyword k.False) ∷ tag (kind.Keyword k.Null)
    ∷ tag (kind.Keyword k.True) ∷ tag (kind.Integer (pos 0)) ∷ tag (kind.Long (pos 0)) ∷ tag (kind.String []) ∷ []

-- the numbers of the other words that are operands, or begin one
abbrev pub word_heads : List ℕ
word_heads = tag (kind.Keyword k.Nothing) ∷ tag (kind.Keyword k.New) ∷ []

-- the numbers of the marks that begin an operand
abbrev pub mark_heads : List ℕ
mark_heads = tag (kind.Symbol s.Open) ∷ tag (kind.Symbol s.Minus) ∷ []

-- the numbers of the tokens that begin a path
abbrev pub path_heads : List ℕ
path_heads = tag (kind.Name [] false) ∷ tag (kind.Keyword k.Me) ∷ tag (kind.Symbol s.WithPoint) ∷ []

-- the numbers of the tokens that begin an expression
abbrev pub expression_heads : List ℕ
expression_heads = tag (kind.Keyword k.Not) ∷ ((literal_heads ++ word_heads) ++ (path_heads ++ mark_heads))

pub heads_literal : (n : ℕ) → among literal_heads n ≡ tag_is_literal n
heads_literal n = rw (or_last (n == tag (kind.String []))) refl

heads_expression : (n : ℕ) → among expression_heads n ≡ tag_is_expression n
heads_expression n = rw (
  among_both (literal_heads ++ word_heads) (path_heads ++ mark_heads) n,
  among_both literal_heads word_heads n,
  among_both path_heads mark_heads n,
  or_last (n == tag (kind.String [])),
  or_last (n == tag (kind.Keyword k.New)),
  or_last (n == tag (kind.Symbol s.WithPoint)),
  or_last (n == tag (kind.Symbol s.Minus)),
) refl

pub begins_expression : (depth : ℕ) → BeginsIn expression_heads (grammar.expressions depth).expression
begins_expression depth = record {
  head = λ front x h. let w = (expressions_taken depth).begins.head front x h in
      (w.0, w.1, w.2, heads_expression (tag w.0.kind) ∙ w.3);
}

-- an expression inside a construct
pub takes_inside : (depth : ℕ) {v : List ℕ} → all_have tag_ends v ≡ true
    → Takes (inside depth).expression (declarations.opened depth (λ within. (grammar.expressions within).expression))
    (Before v)
takes_inside zero all = record { takes = λ front rest x h ok. absurd h }
takes_inside (suc depth) all = takes_expression depth all

pub begins_inside : (depth : ℕ) → BeginsIn expression_heads (declarations.opened depth
    (λ within. (grammar.expressions within).expression))
begins_inside zero = record { head = λ front x h. absurd h }
begins_inside (suc depth) = begins_expression depth

-- ---- constructs that open

-- a construct that opens
pub takes_opened : {A : Type 0} (depth : ℕ) {p : ℕ → Reader A} {r : ℕ → Rule A} {v : Follow}
    → ((within : ℕ) → Takes (p within) (r within) v) → Takes (read_declarations.opened depth p)
    (declarations.opened depth r) v
takes_opened zero takes = record { takes = λ front rest x h ok. absurd h }
takes_opened (suc depth) takes = takes depth

pub begins_opened : {A : Type 0} (depth : ℕ) {r : ℕ → Rule A} {l : List ℕ} → ((within : ℕ) → BeginsIn l (r within))
    → BeginsIn l (declarations.opened depth r)
begins_opened zero begins = record { head = λ front x h. absurd h }
begins_opened (suc depth) begins = begins depth

-- what opens needs that one more may open
pub closed_opened : {A : Type 0} (depth : ℕ) (r : ℕ → Rule A) → Closed (opens depth) (declarations.opened depth r)
closed_opened zero r = record { none = λ shut front x h. h }
closed_opened (suc depth) r = record { none = λ shut front x h. absurd cc }

pub closed_inside : (depth : ℕ) → Closed (opens depth) (declarations.opened depth
    (λ within. (grammar.expressions within).expression))
closed_inside depth = closed_opened depth (λ within. (grammar.expressions within).expression)
