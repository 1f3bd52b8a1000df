-- The blank texts that a script begins with, as the grammar passes over them and as its first items.
use Rattle.std.proofs.Common.{◌≡◌, ℕ, inl, inr, Bool, true, false, List, [], ◌∷◌, ◌++◌, Option, Some, None, refl, sym}
use Rattle.std.proofs.Common.{ap, ◌∙◌, append_assoc, append-nil, codes, if◌then◌else◌}
use Rattle.std.specs.List.{list_all}
use Rattle.vb_value.specs.declared.token.Keyword.TheVariants as k
use Rattle.vb_value.specs.declared.token.Token.{Token}
use Rattle.vb_value.specs.declared.token.TokenKind.{TokenKind}
use Rattle.vb_value.specs.declared.token.TokenKind.TheVariants as kind
use Rattle.vb_syntax.specs.declared.statement.Statement.{Statement}
use Rattle.vb_syntax.specs.declared.statement.StatementKind.TheVariants as st
use Rattle.vb_syntax.specs.declared.unit.Item.{Item}
use Rattle.vb_syntax.specs.declared.unit.Item.TheVariants as item
use Rattle.vb_syntax.specs.grammar.Rules.{Tokens, Rule}
use Rattle.vb_syntax.specs.grammar.Rules as rule
use Rattle.vb_syntax.specs.grammar.Words as words
use Rattle.vb_syntax.specs.grammar.Words.{tag}
use Rattle.vb_syntax.specs.grammar.SimpleStatements as simple
use Rattle.vb_syntax.specs.grammar.SimpleStatements.{text_at, text_of_kind}
use Rattle.vb_syntax.specs.grammar.Statements as statements
use Rattle.vb_syntax.specs.grammar.Statements.{passed, passed_kind, passed_text, passed_texts, says_nothing}
use Rattle.vb_read.specs.Reader.{is_some}
use Rattle.vb_read.specs.ReadUnits.{blank_at, text_where}
use Rattle.vb_read.proofs.Binding.{Within, within_then, bind_wider, bind_left, bind_right, pure_in, pure_out}
use Rattle.vb_read.proofs.Taking.{only}
use Rattle.vb_read.proofs.Tags.{among}
use Rattle.vb_read.proofs.Following.{Only}

-- ---- blank texts

-- the number of the tokens that are texts of the page
abbrev pub text_head : List ℕ
text_head = tag (kind.PageText []) ∷ []

-- a text that is passed over is a text
pub passed_only : (any : Bool) → Only (passed any) text_head
passed_only any = record { only = λ token x e. go token.kind x e }
  where
    go : (kind : TokenKind) (x : Unit {0}) → passed_kind any kind ≡ Some x → among text_head (tag kind) ≡ true
    go (kind.PageText text) x e = refl
    go (kind.Keyword keyword) x e = absurd cc
    go (kind.Symbol symbol) x e = absurd cc
    go _ x e = absurd cc

-- a text is passed over where it is blank
pub passed_where : (found : Bool) (text : List ℕ) → found ≡ list_all says_nothing text
    → found ≡ is_some (passed_kind false (kind.PageText text))
passed_where found text is = is ∙ go (list_all says_nothing text)
  where
    go : (b : Bool) → b ≡ is_some (if b then Some (tt {0}) else None)
    go true = refl
    go false = refl

-- a blank text is a text
pub blank_is_text : (token : Token) (x : ℕ × List ℕ) → blank_at token ≡ Some x → text_at token ≡ Some x
blank_is_text token x e = go (passed false token) e
  where
    go : (o : Option (Unit {0})) → text_where o (text_at token) ≡ Some x → text_at token ≡ Some x
    go (Some y) e = e
    go None e = absurd cc

-- a blank text is passed over
pub blank_is_passed : (token : Token) (x : ℕ × List ℕ) → blank_at token ≡ Some x → passed false token ≡ Some tt
blank_is_passed token x e = go (passed false token) refl e
  where
    go : (o : Option (Unit {0})) → passed false token ≡ o → text_where o (text_at token) ≡ Some x
        → passed false token ≡ Some tt
    go (Some tt) is e = is
    go None is e = absurd cc

pub blank_only : Only blank_at text_head
blank_only = record { only = λ token x e. (passed_only false).only token tt (blank_is_passed token x e) }

-- what is passed over where blank texts alone are is a blank text
pub passed_is_blank : (token : Token) (x : Unit {0}) → passed false token ≡ Some x
    → (found : ℕ × List ℕ) × (blank_at token ≡ Some found)
passed_is_blank token x e = go token.kind e
  where
    go : (kind : TokenKind) → passed_kind false kind ≡ Some x
        → (found : ℕ × List ℕ) × (text_where (passed_kind false kind) (text_of_kind kind token.line) ≡ Some found)
    go (kind.PageText text) e = ((token.line, text), ap (λ o. text_where o (Some (token.line, text))) e)
    go (kind.Keyword keyword) e = absurd cc
    go (kind.Symbol symbol) e = absurd cc
    go _ e = absurd cc

-- ---- as items

-- a blank text as a statement of the page
abbrev pub blank_statement : ℕ × List ℕ → Statement
blank_statement found = simple.statement found.0 (st.PageText found.1)

-- a blank text as an item, and its end
abbrev pub blank_line : Rule Item
blank_line = rule.◌>>=◌ (rule.one blank_at) (λ found. rule.◌>>◌ statements.«end» (rule.pure (item.Statement
    (blank_statement found))))

-- the same without the item
texts_of : (xs : List Item) (front : Tokens) → rule.many blank_line front xs
    → (us : List (Unit {0})) × rule.many (passed_text false) front us
texts_of [] front h = ([], h)
texts_of (x ∷ xs) front h = let more = texts_of xs h.back h.second in let first = h.first in (
  tt ∷ more.0,
  record {
    front = h.front;
    back = h.back;
    split = h.split;
    first = record {
      front = first.front;
      back = first.back;
      thing = tt;
      split = first.split;
      first_spells = record {
        token = first.first_spells.token;
        alone = first.first_spells.alone;
        passes = blank_is_passed first.first_spells.token first.thing first.first_spells.passes;
      };
      next_spells = only statements.«end» (λ _. item.Statement (blank_statement first.thing)) first.back x
          first.next_spells;
    };
    second = more.1;
  },
)

-- the same with the item
items_of : (us : List (Unit {0})) (front : Tokens) → rule.many (passed_text false) front us
    → (xs : List Item) × rule.many blank_line front xs
items_of [] front h = ([], h)
items_of (u ∷ us) front h =
    let more = items_of us h.back h.second in
    let first = h.first in
    let found = passed_is_blank first.first_spells.token first.thing first.first_spells.passes in (
      item.Statement (blank_statement found.0) ∷ more.0,
      record {
        front = h.front;
        back = h.back;
        split = h.split;
        first = record {
          front = first.front;
          back = first.back;
          thing = found.0;
          split = first.split;
          first_spells = record {
            token = first.first_spells.token;
            alone = first.first_spells.alone;
            passes = found.1;
          };
          next_spells = record {
            front = first.back;
            back = [];
            thing = tt;
            split = sym (append-nil first.back);
            first_spells = first.next_spells;
            next_spells = (refl, refl);
          };
        };
        second = more.1;
      },
    )

-- blank texts before a rule, as items and passed over
pub as_texts : {B : Type 0} {s : Rule B} → Within (rule.◌>>=◌ (rule.many blank_line) (λ _. s))
    (rule.◌>>=◌ (passed_texts false) (λ _. s))
as_texts front x h = let texts = texts_of h.thing h.front h.first_spells in record {
  front = h.front;
  back = h.back;
  thing = tt;
  split = h.split;
  first_spells = record {
    front = h.front;
    back = [];
    thing = texts.0;
    split = sym (append-nil h.front);
    first_spells = texts.1;
    next_spells = (refl, refl);
  };
  next_spells = h.next_spells;
}

pub as_items : {B : Type 0} {s : Rule B} → Within (rule.◌>>=◌ (passed_texts false) (λ _. s))
    (rule.◌>>=◌ (rule.many blank_line) (λ _. s))
as_items front x h =
    let texts = items_of h.first_spells.thing h.front (only (rule.many (passed_text false)) (λ _. tt) h.front h.thing
    h.first_spells) in
    record {
      front = h.front;
      back = h.back;
      thing = texts.0;
      split = h.split;
      first_spells = texts.1;
      next_spells = h.next_spells;
    }

-- ---- items behind others

many_append : {A : Type 0} {r s : Rule A} → Within r s → (xs ys : List A) (front back : Tokens) → rule.many r front xs
    → rule.many s back ys → rule.many s (front ++ back) (xs ++ ys)
many_append {A} {r} {s} wider [] ys front back h g = rw h g
many_append wider (x ∷ xs) ys front back h g = record {
  front = h.front;
  back = h.back ++ back;
  split = ap (λ t. t ++ back) h.split ∙ append_assoc h.front h.back back;
  first = wider h.front x h.first;
  second = many_append wider xs ys h.back back h.second g;
}

-- things and further things are things, where what spells the first spells the others too
pub many_joined : {A B : Type 0} {r s : Rule A} {g : List A → B} → Within r s
    → Within (rule.◌>>=◌ (rule.many r) (λ first. rule.◌>>=◌ (rule.many s) (λ found. rule.pure (g (first ++ found)))))
    (rule.◌>>=◌ (rule.many s) (λ all. rule.pure (g all)))
many_joined {A} {B} {r} {s} {g} wider front x h = let next = h.next_spells in record {
  front = h.front ++ next.front;
  back = next.back;
  thing = h.thing ++ next.thing;
  split = h.split ∙ ap (λ t. h.front ++ t) next.split ∙ sym (append_assoc h.front next.front next.back);
  first_spells = many_append wider h.thing next.thing h.front next.front h.first_spells next.first_spells;
  next_spells = next.next_spells;
}

-- ---- Option Explicit

-- "Option" "Explicit" end, and what stands behind it
abbrev pub explicit_word : Rule Bool
explicit_word = rule.◌>>◌ (words.keyword k.Option) (rule.◌>>◌ (simple.quoted (codes "explicit"))
    (rule.◌>>◌ statements.«end» (rule.pure true)))

abbrev pub behind_explicit : {B : Type 0} → Rule B → Rule B
behind_explicit s = rule.◌>>◌ (words.keyword k.Option) (rule.◌>>◌ (simple.quoted (codes "explicit"))
    (rule.◌>>◌ statements.«end» s))

pub explicit_open : {B : Type 0} {s : Bool → Rule B} → Within (rule.◌>>=◌ explicit_word s) (behind_explicit (s true))
explicit_open = within_then bind_right (bind_wider (λ _. within_then bind_right (bind_wider (λ _. within_then bind_right
    (bind_wider (λ _. pure_out))))))

pub explicit_closed : {B : Type 0} {s : Bool → Rule B} → Within (behind_explicit (s true)) (rule.◌>>=◌ explicit_word s)
explicit_closed = within_then (bind_wider (λ _. within_then (bind_wider (λ _. within_then (bind_wider (λ _. pure_in {y =
    true})) bind_left)) bind_left)) bind_left
