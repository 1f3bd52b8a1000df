-- With which tokens a rule begins, by the numbers of their kinds.
use Rattle.std.proofs.Common.{◌≡◌, ℕ, pos, ◌==◌, ◌||◌, inl, inr, Bool, true, false, cond, List, [], ◌∷◌, ◌++◌, Option}
use Rattle.std.proofs.Common.{Some, None, if◌then◌else◌, refl, sym, ap, ◌∙◌}
use Rattle.std.proofs.lemmas.Bool.{eqb-true}
use Rattle.vb_value.specs.declared.operator.Op2.{Op2}
use Rattle.vb_value.specs.declared.token.Keyword.TheVariants as k
use Rattle.vb_value.specs.declared.token.Symbol.TheVariants as s
use Rattle.vb_value.specs.declared.token.Token.{Token}
use Rattle.vb_value.specs.declared.token.TokenKind.{TokenKind}
use Rattle.vb_value.specs.declared.token.TokenKind.TheVariants as kind
use Rattle.vb_syntax.specs.grammar.Rules.{Tokens, Rule}
use Rattle.vb_syntax.specs.grammar.Rules as rule
use Rattle.vb_syntax.specs.grammar.Words as words
use Rattle.vb_syntax.specs.grammar.Words.{tag, line_of, name_of, name_of_kind, literal_of, literal_of_kind}
use Rattle.vb_syntax.specs.grammar.Expressions.{operator_of, at_level}
use Rattle.vb_read.specs.Reader.{next, sees, is_some}

-- a token comes first whose number has the property
abbrev pub HeadIn : (ℕ → Bool) → Tokens → Type 0
HeadIn has front = (token : Token) × (back : Tokens) × (front ≡ token ∷ back) × (has (tag token.kind) ≡ true)

-- what the rule spells begins with a token whose number has the property
pub record Begins {A : Type 0} (has : ℕ → Bool) (r : Rule A) : Type 0 where
  pub head : (front : Tokens) (x : A) → r front x → HeadIn has front

pub begins_wider : {A : Type 0} {f g : ℕ → Bool} {r : Rule A} → ((n : ℕ) → f n ≡ true → g n ≡ true)
    → Begins f r → Begins g r
begins_wider wider begins = record { head = λ front x h. let w = begins.head front x h in (w.0, w.1, w.2, wider _ w.3) }

pub begins_bind : {A B : Type 0} {f : ℕ → Bool} {r : Rule A} {s : A → Rule B} → Begins f r → Begins f (rule.◌>>=◌ r s)
begins_bind {A} {B} {f} {r} {s} begins = record {
  head = λ front x h. let w = begins.head h.front h.thing
      h.first_spells in (w.0, w.1 ++ h.back, h.split ∙ ap (λ t. t ++ h.back) w.2, w.3);
}

pub begins_or : {A : Type 0} {f : ℕ → Bool} {r s : Rule A} → Begins f r → Begins f s → Begins f (rule.◌or◌ r s)
begins_or {A} {f} {r} {s} a b = record { head = go }
  where
    go : (front : Tokens) (x : A) → rule.◌or◌ r s front x → HeadIn f front
    go front x (inl h) = a.head front x h
    go front x (inr h) = b.head front x h

pub begins_where : {A : Type 0} {f : ℕ → Bool} {r : Rule A} {opens : Bool} → Begins f r
    → Begins f (rule.where_true opens r)
begins_where begins = record { head = λ front x h. begins.head front x h.1 }

line_of-tag : (n : ℕ) (token : Token) (line : ℕ) → line_of n token ≡ Some line → (tag token.kind == n) ≡ true
line_of-tag n token line e = go (tag token.kind == n) refl e
  where
    go : (b : Bool) → (tag token.kind == n) ≡ b → cond b (Some token.line) None ≡ Some line
        → (tag token.kind == n) ≡ true
    go true is _ = is
    go false _ e = absurd cc

pub begins_word : (kind : TokenKind) → Begins (λ n. n == tag kind) (words.word kind)
begins_word kind = record { head = λ front x h. (h.token, [], h.alone, line_of-tag (tag kind) h.token x h.passes) }

name-tag : (word : TokenKind) (name : List ℕ) → name_of_kind word ≡ Some name
    → (tag word == tag (kind.Name [] false)) ≡ true
name-tag (kind.Name text bracketed) name e = refl
name-tag _ name e = absurd cc

pub begins_name : Begins (λ n. n == tag (kind.Name [] false)) (rule.one name_of)
begins_name = record { head = λ front x h. (h.token, [], h.alone, name-tag h.token.kind x h.passes) }

-- a property of numbers at the one that it is asked of
pub has_at : (f : ℕ → Bool) (m : ℕ) → f m ≡ true → (n : ℕ) → (n == m) ≡ true → f n ≡ true
has_at f m is n e = ap f (eqb-true n m e) ∙ is

pub differs : (f : ℕ → Bool) (n m : ℕ) → f n ≡ true → f m ≡ false → (n == m) ≡ false
differs f n m is not = go (n == m) refl
  where
    go : (b : Bool) → (n == m) ≡ b → (n == m) ≡ false
    go true e = let clash : true ≡ false = sym is ∙ ap f (eqb-true n m e) ∙ not in absurd cc
    go false e = e

pub sees_true : (kind : TokenKind) (front rest : Tokens) → HeadIn (λ n. n == tag kind) front
    → sees kind (next (front ++ rest)) ≡ true
sees_true kind front rest w = rw w.2 w.3

pub sees_false : (f : ℕ → Bool) (kind : TokenKind) (front rest : Tokens) → HeadIn f front
    → f (tag kind) ≡ false → sees kind (next (front ++ rest)) ≡ false
sees_false f kind front rest w not = rw w.2 (differs f (tag w.0.kind) (tag kind) w.3 not)

-- ---- the numbers of some kinds of words

-- the values that are written down
abbrev pub tag_is_literal : ℕ → Bool
tag_is_literal n = n == tag (kind.Keyword k.Empty) || (n == tag (kind.Keyword k.False)
    || (n == tag (kind.Keyword k.Null) || (n == tag (kind.Keyword k.True)
    || (n == tag (kind.Integer (pos 0)) || (n == tag (kind.Long (pos 0)) || n == tag (kind.String []))))))

pub literal_tag : (kind : TokenKind) → is_some (literal_of_kind kind) ≡ tag_is_literal (tag kind)
literal_tag (kind.Keyword k.True) = refl
literal_tag (kind.Keyword _) = refl
literal_tag (kind.Symbol s.Open) = refl
literal_tag (kind.Symbol _) = refl
literal_tag _ = refl

pub name_tag : (word : TokenKind) → is_some (name_of_kind word) ≡ (tag word == tag (kind.Name [] false))
name_tag (kind.Keyword k.And) = refl
name_tag (kind.Keyword _) = refl
name_tag (kind.Symbol s.Open) = refl
name_tag (kind.Symbol _) = refl
name_tag _ = refl

-- the operators that compare
abbrev pub tag_is_comparison : ℕ → Bool
tag_is_comparison n = n == tag (kind.Symbol s.Equal) || (n == tag (kind.Symbol s.NotEqual)
    || (n == tag (kind.Symbol s.Less) || (n == tag (kind.Symbol s.Greater)
    || (n == tag (kind.Symbol s.AtMost) || (n == tag (kind.Symbol s.AtLeast) || n == tag (kind.Keyword k.Is))))))

-- the levels of the operators
abbrev pub tag_level : ℕ → ℕ
tag_level n =
    if n == tag (kind.Symbol s.Star) then 1
    else (if n == tag (kind.Symbol s.Backslash) then 2
    else (if n == tag (kind.Keyword k.Mod) then 3
    else (if n == tag (kind.Symbol s.Plus) || n == tag (kind.Symbol s.Minus) then 4
    else (if n == tag (kind.Symbol s.Ampersand) then 5
    else (if tag_is_comparison n then 6
    else (if n == tag (kind.Keyword k.And) then 8
    else (if n == tag (kind.Keyword k.Or) then 9
    else (if n == tag (kind.Keyword k.Xor) then 10
    else (if n == tag (kind.Keyword k.Eqv) then 11
    else (if n == tag (kind.Keyword k.Imp) then 12 else 0))))))))))

abbrev pub level_of : Option (ℕ × Op2) → ℕ
level_of None = 0
level_of (Some found) = found.0

pub level_tag : (kind : TokenKind) → level_of (operator_of kind) ≡ tag_level (tag kind)
level_tag (kind.Keyword k.And) = refl
level_tag (kind.Keyword _) = refl
level_tag (kind.Symbol s.Open) = refl
level_tag (kind.Symbol _) = refl
level_tag _ = refl

-- no operator of a level that is another than the token's
pub other_level : (level : ℕ) (found : Option (ℕ × Op2)) → (level_of found == level) ≡ false
    → is_some (at_level level found) ≡ false
other_level level None e = refl
other_level level (Some found) e = rw e refl

pub this_level : (level : ℕ) (found : Option (ℕ × Op2)) (o : Op2) → at_level level found ≡ Some o
    → level_of found ≡ level
this_level level None o e = absurd cc
this_level level (Some found) o e = go (found.0 == level) refl e
  where
    go : (b : Bool) → (found.0 == level) ≡ b → cond b (Some found.1) None ≡ Some o → found.0 ≡ level
    go true is _ = eqb-true _ _ is
    go false _ e = absurd cc
