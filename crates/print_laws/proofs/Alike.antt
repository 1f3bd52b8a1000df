-- Words that are alike: they differ in their places, lines and brackets alone. Rules that ask for nothing else spell
-- the same with words that are alike.
use Rattle.std.proofs.Common.{◌≡◌, ℕ, Bool, true, false, List, [], ◌∷◌, ◌++◌, map, cond, ◌==◌, Option, Some, None}
use Rattle.std.proofs.Common.{inl, inr, refl, sym, ap, ◌∙◌}
use Rattle.std.proofs.lemmas.List.{map-append}
use Rattle.vb_value.specs.declared.token.Keyword.{Keyword}
use Rattle.vb_value.specs.declared.token.Symbol.{Symbol}
use Rattle.vb_value.specs.declared.token.Token.{Token}
use Rattle.vb_value.specs.declared.token.TokenKind.{TokenKind}
use Rattle.vb_value.specs.declared.token.TokenKind.TheVariants as kind
use Rattle.vb_syntax.specs.grammar.Rules.{Tokens, Rule, pure, none, ◌>>=◌, ◌>>◌, ◌or◌, one, many, where_true}
use Rattle.vb_syntax.specs.grammar.Words.{word, line_of, tag, keyword, symbol}

-- what a word is, as if each name stood in brackets
abbrev pub plain : TokenKind → TokenKind
plain (kind.Name text bracketed) = kind.Name text true
plain found = found

abbrev pub plain_kind : Token → TokenKind
plain_kind token = plain token.kind

-- what the words are
abbrev pub kinds : Tokens → List TokenKind
kinds tokens = map plain_kind tokens

pub kinds-append : (front back : Tokens) → kinds (front ++ back) ≡ kinds front ++ kinds back
kinds-append front back = map-append plain_kind front back

-- words that are alike to two parts, as two parts
pub record Parts (front back tokens : Tokens) : Type 0 where
  pub before : Tokens
  pub after : Tokens
  pub split : tokens ≡ before ++ after
  pub first : kinds before ≡ kinds front
  pub second : kinds after ≡ kinds back

-- two lists that are one have one head and one rest
abbrev head_or : TokenKind → List TokenKind → TokenKind
head_or found [] = found
head_or found (first ∷ rest) = first

abbrev rest_of : List TokenKind → List TokenKind
rest_of [] = []
rest_of (first ∷ rest) = rest

pub parts : (front back tokens : Tokens) → kinds tokens ≡ kinds front ++ kinds back → Parts front back tokens
parts [] back tokens e = record { before = []; after = tokens; split = refl; first = refl; second = e }
parts (x ∷ front) back [] e = absurd cc
parts (x ∷ front) back (t ∷ tokens) e = go (parts front back tokens (ap rest_of e))
  where
    go : Parts front back tokens → Parts (x ∷ front) back (t ∷ tokens)
    go inner = record {
      before = t ∷ inner.before;
      after = inner.after;
      split = ap (λ l. t ∷ l) inner.split;
      first = ap (λ a. a ∷ kinds inner.before) (ap (head_or (plain_kind t)) e)
          ∙ ap (λ l. plain_kind x ∷ l) inner.first;
      second = inner.second;
    }

-- words that are alike to one word, as one word
pub record Alone (token : Token) (tokens : Tokens) : Type 0 where
  pub token_of : Token
  pub alone : tokens ≡ token_of ∷ []
  pub same : plain token_of.kind ≡ plain token.kind

pub alone : (token : Token) (tokens : Tokens) → kinds tokens ≡ kinds (token ∷ []) → Alone token tokens
alone token [] e = absurd cc
alone token (t ∷ []) e = record { token_of = t; alone = refl; same = ap (head_or (plain_kind t)) e }
alone token (t ∷ x ∷ tokens) e = let clash : kinds (x ∷ tokens) ≡ [] = ap rest_of e in absurd cc

pub empty : (tokens : Tokens) → kinds tokens ≡ [] → tokens ≡ []
empty [] e = refl
empty (t ∷ tokens) e = absurd cc

-- ---- rules that look at nothing else

-- with words that are alike the rule spells the same
pub record Blind {A : Type 0} (r : Rule A) : Type 0 where
  pub moved : (tokens other : Tokens) (x : A) → kinds other ≡ kinds tokens → r tokens x → r other x

-- where the one rule spells something, the other does with words that are alike
pub record Turns {A B : Type 0} (r : Rule A) (s : Rule B) : Type 0 where
  pub moved : (tokens other : Tokens) (x : A) → kinds other ≡ kinds tokens → r tokens x → (y : B) × s other y

pub blind_pure : {A : Type 0} (x : A) → Blind (pure x)
blind_pure x = record { moved = λ tokens other y e h. (empty other (e ∙ ap kinds h.0), h.1) }

pub blind_none : {A : Type 0} → Blind (none {A = A})
blind_none = record { moved = λ tokens other y e h. absurd h }

pub blind_one : {A : Type 0} (test : Token → Option A) → ((a b : Token) → plain a.kind ≡ plain b.kind
    → test a ≡ test b) → Blind (one test)
blind_one {A} test same = record { moved = go }
  where
    go : (tokens other : Tokens) (x : A) → kinds other ≡ kinds tokens → one test tokens x → one test other x
    go tokens other x e h = let found = alone h.token other (e ∙ ap kinds h.alone) in record {
      token = found.token_of;
      alone = found.alone;
      passes = same found.token_of h.token found.same ∙ h.passes;
    }

pub blind_bind : {A B : Type 0} {r : Rule A} {s : A → Rule B} → Blind r → ((x : A) → Blind (s x))
    → Blind (r >>= s)
blind_bind {A} {B} {r} {s} first next = record { moved = go }
  where
    go : (tokens other : Tokens) (y : B) → kinds other ≡ kinds tokens → (r >>= s) tokens y → (r >>= s) other y
    go tokens other y e h =
        let cut = parts h.front h.back other (e ∙ ap kinds h.split ∙ kinds-append h.front h.back) in record {
          front = cut.before;
          back = cut.after;
          thing = h.thing;
          split = cut.split;
          first_spells = first.moved h.front cut.before h.thing cut.first h.first_spells;
          next_spells = (next h.thing).moved h.back cut.after y cut.second h.next_spells;
        }

pub blind_after : {A B : Type 0} {r : Rule A} {s : Rule B} → Turns r r → Blind s → Blind (r >> s)
blind_after {A} {B} {r} {s} first next = record { moved = go }
  where
    go : (tokens other : Tokens) (y : B) → kinds other ≡ kinds tokens → (r >> s) tokens y → (r >> s) other y
    go tokens other y e h =
        let cut = parts h.front h.back other (e ∙ ap kinds h.split ∙ kinds-append h.front h.back) in
        let found = first.moved h.front cut.before h.thing cut.first h.first_spells in record {
          front = cut.before;
          back = cut.after;
          thing = found.0;
          split = cut.split;
          first_spells = found.1;
          next_spells = next.moved h.back cut.after y cut.second h.next_spells;
        }

pub blind_or : {A : Type 0} {r s : Rule A} → Blind r → Blind s → Blind (r or s)
blind_or {A} {r} {s} a b = record { moved = go }
  where
    go : (tokens other : Tokens) (x : A) → kinds other ≡ kinds tokens → (r or s) tokens x → (r or s) other x
    go tokens other x e (inl h) = inl (a.moved tokens other x e h)
    go tokens other x e (inr h) = inr (b.moved tokens other x e h)

pub blind_where : {A : Type 0} {fact : Bool} {r : Rule A} → Blind r → Blind (where_true fact r)
blind_where a = record { moved = λ tokens other x e h. (h.0, a.moved tokens other x e h.1) }

pub blind_many : {A : Type 0} {r : Rule A} → Blind r → Blind (many r)
blind_many {A} {r} a = record { moved = go }
  where
    go : (tokens other : Tokens) (xs : List A) → kinds other ≡ kinds tokens → many r tokens xs → many r other xs
    go tokens other [] e h = empty other (e ∙ ap kinds h)
    go tokens other (x ∷ xs) e h =
        let cut = parts h.front h.back other (e ∙ ap kinds h.split ∙ kinds-append h.front h.back) in record {
          front = cut.before;
          back = cut.after;
          split = cut.split;
          first = a.moved h.front cut.before x cut.first h.first;
          second = go h.back cut.after xs cut.second h.second;
        }

-- ---- words

pub tag-plain : (found : TokenKind) → tag (plain found) ≡ tag found
tag-plain (kind.Name text bracketed) = refl
tag-plain found = refl

same_tag : (a b : TokenKind) → plain a ≡ plain b → tag a ≡ tag b
same_tag a b e = sym (tag-plain a) ∙ ap tag e ∙ tag-plain b

line_moved : (number : ℕ) (a b : Token) (line : ℕ) → plain a.kind ≡ plain b.kind → line_of number b ≡ Some line
    → line_of number a ≡ Some a.line
line_moved number a b line e h = go (tag b.kind == number) refl h
  where
    go : (t : Bool) → (tag b.kind == number) ≡ t → cond t (Some b.line) None ≡ Some line
        → line_of number a ≡ Some a.line
    go true is h = ap (λ t. cond t (Some a.line) None) (ap (λ n. n == number) (same_tag a.kind b.kind e) ∙ is)
    go false is h = absurd cc

pub turns_word : (found : TokenKind) → Turns (word found) (word found)
turns_word found = record { moved = go }
  where
    go : (tokens other : Tokens) (x : ℕ) → kinds other ≡ kinds tokens → word found tokens x
        → (y : ℕ) × word found other y
    go tokens other x e h = let w = alone h.token other (e ∙ ap kinds h.alone) in (
      w.token_of.line,
      record {
        token = w.token_of;
        alone = w.alone;
        passes = line_moved (tag found) w.token_of h.token x w.same h.passes;
      },
    )

pub blind_keyword : {B : Type 0} {s : Rule B} (found : Keyword) → Blind s → Blind (keyword found >> s)
blind_keyword found next = blind_after (turns_word (kind.Keyword found)) next

pub blind_symbol : {B : Type 0} {s : Rule B} (found : Symbol) → Blind s → Blind (symbol found >> s)
blind_symbol found next = blind_after (turns_word (kind.Symbol found)) next

-- ---- rules that spell something

pub turns : {A : Type 0} {r : Rule A} → Blind r → Turns r r
turns blind = record { moved = λ tokens other x e h. (x, blind.moved tokens other x e h) }

pub turns_one : {A B : Type 0} (r : Token → Option A) (s : Token → Option B) → ((a b : Token) (x : A)
    → plain a.kind ≡ plain b.kind → r b ≡ Some x → (y : B) × (s a ≡ Some y)) → Turns (one r) (one s)
turns_one {A} {B} r s passes = record { moved = go }
  where
    go : (tokens other : Tokens) (x : A) → kinds other ≡ kinds tokens → one r tokens x → (y : B) × one s other y
    go tokens other x e h =
        let w = alone h.token other (e ∙ ap kinds h.alone) in
        let found = passes w.token_of h.token x w.same h.passes in (
          found.0,
          record {
            token = w.token_of;
            alone = w.alone;
            passes = found.1;
          },
        )

pub turns_pure : {A B : Type 0} (x : A) (y : B) → Turns (pure x) (pure y)
turns_pure x y = record { moved = λ tokens other z e h. (y, (empty other (e ∙ ap kinds h.0), refl)) }

pub turns_bind : {A B C D : Type 0} {r : Rule A} {q : Rule B} {s : A → Rule C} {t : B → Rule D} → Turns r q
    → ((x : A) (y : B) → Turns (s x) (t y)) → Turns (r >>= s) (q >>= t)
turns_bind {A} {B} {C} {D} {r} {q} {s} {t} first next = record { moved = go }
  where
    go : (tokens other : Tokens) (z : C) → kinds other ≡ kinds tokens → (r >>= s) tokens z
        → (w : D) × (q >>= t) other w
    go tokens other z e h =
        let cut = parts h.front h.back other (e ∙ ap kinds h.split ∙ kinds-append h.front h.back) in
        let found = first.moved h.front cut.before h.thing cut.first h.first_spells in
        let rest = (next h.thing found.0).moved h.back cut.after z cut.second h.next_spells in (
          rest.0,
          record {
            front = cut.before;
            back = cut.after;
            thing = found.0;
            split = cut.split;
            first_spells = found.1;
            next_spells = rest.1;
          },
        )

pub turns_or : {A B : Type 0} {r s : Rule A} {q t : Rule B} → Turns r q → Turns s t → Turns (r or s) (q or t)
turns_or {A} {B} {r} {s} {q} {t} a b = record { moved = go }
  where
    go : (tokens other : Tokens) (x : A) → kinds other ≡ kinds tokens → (r or s) tokens x
        → (y : B) × (q or t) other y
    go tokens other x e (inl h) = let found = a.moved tokens other x e h in (found.0, inl found.1)
    go tokens other x e (inr h) = let found = b.moved tokens other x e h in (found.0, inr found.1)
