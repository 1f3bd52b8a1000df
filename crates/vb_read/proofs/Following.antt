-- What may stand behind a rule, and with what it begins, by the numbers of the kinds of tokens.
use Rattle.std.proofs.Common.{◌≡◌, ℕ, ◌==◌, ◌||◌, inl, inr, Bool, true, false, List, [], ◌∷◌, ◌++◌, Option, Some}
use Rattle.std.proofs.Common.{None, refl, sym, ap, ◌∙◌, append_assoc, append-nil, subst, arith}
use Rattle.vb_value.specs.declared.token.Token.{Token}
use Rattle.vb_value.specs.declared.token.TokenKind.{TokenKind}
use Rattle.vb_value.specs.declared.token.TokenKind.TheVariants as kind
use Rattle.vb_syntax.specs.grammar.Rules.{Tokens, Rule, Then}
use Rattle.vb_syntax.specs.grammar.Rules as rule
use Rattle.vb_syntax.specs.grammar.Words as words
use Rattle.vb_syntax.specs.grammar.Words.{tag, line_of, name_of}
use Rattle.vb_read.specs.Reader.{next, Look, sees, passes, is_some}
use Rattle.vb_read.proofs.Reading.{NoEmpty}
use Rattle.vb_read.proofs.Taking.{Follow, Starts}
use Rattle.vb_read.proofs.Beginning.{HeadIn, Begins, begins_word, begins_name, name_tag}
use Rattle.vb_read.proofs.Tags.{or_last, among, outside, all_have, among_has, not_true, among_left, among_right}
use Rattle.vb_read.proofs.Tags.{among_both}

-- ---- what comes next

-- no token, or one whose number has the property
abbrev pub next_in : (ℕ → Bool) → Option Token → Bool
next_in f None = true
next_in f (Some token) = f (tag token.kind)

-- no token comes next, or one of the kinds with these numbers
pub record Before (l : List ℕ) (rest : Tokens) : Type 0 where
  pub fits : next_in (among l) (next rest) ≡ true

-- a token of the set comes first
pub before_head : (l : List ℕ) (front rest : Tokens) → HeadIn (among l) front → Before l (front ++ rest)
before_head l front rest w = rw w.2 (record { fits = w.3 })

-- the same by a wider property
pub next_has : (f g : ℕ → Bool) (token : Option Token) → ((n : ℕ) → f n ≡ true → g n ≡ true)
    → next_in f token ≡ true → next_in g token ≡ true
next_has f g None wider is = refl
next_has f g (Some token) wider is = wider (tag token.kind) is

-- a set within another
pub before_wider : (l m : List ℕ) → all_have (among m) l ≡ true → (rest : Tokens) → Before l rest → Before m rest
before_wider l m all rest b = record {
  fits = next_has (among l) (among m) (next rest) (among_has
      (among m) l all) b.fits;
}

-- What the rule spells begins with a token of one of the kinds with these numbers.
pub record BeginsIn {A : Type 0} (l : List ℕ) (r : Rule A) : Type 0 where
  pub head : (front : Tokens) (x : A) → r front x → HeadIn (among l) front

-- what the rule spells begins so, or what stands behind it does
pub record Leads {A : Type 0} (l : List ℕ) (r : Rule A) (v : Follow) : Type 0 where
  pub leads : (front rest : Tokens) (x : A) → r front x → v rest → Before l (front ++ rest)

-- a rule that is never empty leads to what it begins with
pub leads_begins : {A : Type 0} {l : List ℕ} {r : Rule A} {v : Follow} → BeginsIn l r → Leads l r v
leads_begins {A} {l} {r} {v} begins = record {
  leads = λ front rest x h ok. before_head l front rest
      (begins.head front x h);
}

-- nothing leads to what stands behind it
pub leads_pure : {A : Type 0} {l : List ℕ} {x : A} → Leads l (rule.pure x) (Before l)
leads_pure = record { leads = λ front rest y h ok. rw h.0 ok }

-- a set within another
pub leads_wider : {A : Type 0} {l m : List ℕ} {r : Rule A} {v : Follow} → all_have (among m) l ≡ true
    → Leads l r v → Leads m r v
leads_wider {A} {l} {m} {r} {v} all leads = record {
  leads = λ front rest x h ok. before_wider l m all (front ++ rest) (leads.leads front rest x h ok);
}

-- a choice leads to what the one or the other leads to
pub leads_or : {A : Type 0} {l m : List ℕ} {r s : Rule A} {v : Follow} → Leads l r v → Leads m s v
    → Leads (l ++ m) (rule.◌or◌ r s) v
leads_or {A} {l} {m} {r} {s} {v} one other = record { leads = go }
  where
    left_in : (rest : Tokens) → Before l rest → Before (l ++ m) rest
    left_in rest b = record { fits = next_has (among l) (among (l ++ m)) (next rest) (among_left l m) b.fits }

    right_in : (rest : Tokens) → Before m rest → Before (l ++ m) rest
    right_in rest b = record { fits = next_has (among m) (among (l ++ m)) (next rest) (among_right l m) b.fits }

    go : (front rest : Tokens) (x : A) → rule.◌or◌ r s front x → v rest → Before (l ++ m) (front ++ rest)
    go front rest x (inl h) ok = left_in (front ++ rest) (one.leads front rest x h ok)
    go front rest x (inr h) ok = right_in (front ++ rest) (other.leads front rest x h ok)

-- two rules, where the second leads to what the first wants behind it
pub leads_bind : {A B : Type 0} {l m : List ℕ} {r : Rule A} {s : A → Rule B} {v : Follow} → Leads l r (Before m)
    → ((x : A) → Leads m (s x) v) → Leads l (rule.◌>>=◌ r s) v
leads_bind {A} {B} {l} {m} {r} {s} {v} one other = record {
  leads = λ front rest x h ok. rw (h.split, append_assoc h.front h.back rest)
      (one.leads h.front (h.back ++ rest) h.thing h.first_spells
      ((other h.thing).leads h.back rest x h.next_spells ok));
}

-- any number of things lead to one of them, or to what stands behind them
pub leads_many : {A : Type 0} {l m : List ℕ} {r : Rule A} → BeginsIn m r → Leads (m ++ l) (rule.many r) (Before l)
leads_many {A} {l} {m} {r} begins = record { leads = go }
  where
    go : (front rest : Tokens) (xs : List A) → rule.many r front xs → Before l rest → Before (m ++ l) (front ++ rest)
    go front rest [] h ok = rw h (record {
      fits = next_has (among l) (among (m ++ l)) (next rest) (among_right m l) ok.fits;
    })
    go front rest (x ∷ xs) h ok = let w = begins.head h.front x h.first in
        rw (h.split, append_assoc h.front h.back rest, w.2) (record { fits = among_left m l (tag w.0.kind) w.3 })

-- ---- with what a rule begins

-- from a property of numbers to a set of them
pub begins_in : {A : Type 0} {f : ℕ → Bool} (l : List ℕ) {r : Rule A} → ((n : ℕ) → f n ≡ true → among l n ≡ true)
    → Begins f r → BeginsIn l r
begins_in l wider begins = record {
  head = λ front x h. let w = begins.head front x h in (w.0, w.1, w.2, wider (tag w.0.kind) w.3);
}

pub one_among : (m n : ℕ) → (n == m) ≡ true → among (m ∷ []) n ≡ true
one_among m n is = rw is refl

-- a word begins with itself
pub begins_kind : (kind : TokenKind) → BeginsIn (tag kind ∷ []) (words.word kind)
begins_kind kind = begins_in (tag kind ∷ []) (one_among (tag kind)) (begins_word kind)

-- the number of the tokens that are names
abbrev pub name_head : List ℕ
name_head = tag (kind.Name [] false) ∷ []

pub name_begins : BeginsIn name_head (rule.one name_of)
name_begins = begins_in name_head (one_among (tag (kind.Name [] false))) begins_name

-- a choice begins as the one or the other does
pub begins_either : {A : Type 0} {l m : List ℕ} {r s : Rule A} → BeginsIn l r → BeginsIn m s
    → BeginsIn (l ++ m) (rule.◌or◌ r s)
begins_either {A} {l} {m} {r} {s} one other = record { head = go }
  where
    go : (front : Tokens) (x : A) → rule.◌or◌ r s front x → HeadIn (among (l ++ m)) front
    go front x (inl h) = let w = one.head front x h in (w.0, w.1, w.2, among_left l m (tag w.0.kind) w.3)
    go front x (inr h) = let w = other.head front x h in (w.0, w.1, w.2, among_right l m (tag w.0.kind) w.3)

-- a rule that may be empty, before one that isn't
pub begins_leads : {A B : Type 0} {l m : List ℕ} {r : Rule A} {s : A → Rule B}
    → Leads l r (Before m) → ((x : A) → BeginsIn m (s x)) → BeginsIn l (rule.◌>>=◌ r s)
begins_leads {A} {B} {l} {m} {r} {s} one other = record { head = go }
  where
    some : (front : Tokens) (token : Token) (back : Tokens) → Before l front → front ≡ token ∷ back
        → HeadIn (among l) front
    some front token back b e = (token, back, e, sym (ap (λ t. next_in (among l) (next t)) e) ∙ b.fits)

    first : (front back : Tokens) → HeadIn (among m) back → (token : Token) × (rest : Tokens) ×
        (front ++ back ≡ token ∷ rest)
    first [] back w = (w.0, w.1, w.2)
    first (t ∷ front) back w = (t, front ++ back, refl)

    go : (front : Tokens) (x : B) → rule.◌>>=◌ r s front x → HeadIn (among l) front
    go front x h =
        let w = (other h.thing).head h.back x h.next_spells in
        let behind : Before m h.back = subst (λ t. Before m t) (append-nil h.back) (before_head m h.back [] w) in
        let f = first h.front h.back w in
        some front f.0 f.1 (subst (λ t. Before l t) (sym h.split)
        (one.leads h.front h.back h.thing h.first_spells behind))
        (h.split ∙ f.2)

-- two rules begin as the first does
pub begins_then : {A B : Type 0} {l : List ℕ} {r : Rule A} {s : A → Rule B} → BeginsIn l r
    → BeginsIn l (rule.◌>>=◌ r s)
begins_then {A} {B} {l} {r} {s} begins = record {
  head = λ front x h. let w = begins.head h.front h.thing h.first_spells in
      (w.0, w.1 ++ h.back, h.split ∙ ap (λ t. t ++ h.back) w.2, w.3);
}

pub begins_word_then : {B : Type 0} (kind : TokenKind) {s : ℕ → Rule B} → BeginsIn (tag kind ∷ [])
    (rule.◌>>=◌ (words.word kind) s)
begins_word_then kind = begins_then (begins_kind kind)

-- what begins with a token is not empty
pub full_begins : {A : Type 0} {l : List ℕ} (r : Rule A) → BeginsIn l r → NoEmpty r
full_begins r begins front x h = let w = begins.head front x h in rw w.2 (omega arith)

-- a rule within another begins as that does
pub begins_within : {A : Type 0} {l : List ℕ} {r s : Rule A} → ((front : Tokens) (x : A) → r front x → s front x)
    → BeginsIn l s → BeginsIn l r
begins_within wider begins = record { head = λ front x h. begins.head front x (wider front x h) }

-- a rule within another leads to what that leads to
pub leads_within : {A : Type 0} {l : List ℕ} {r s : Rule A} {v : Follow} → ((front : Tokens) (x : A) → r front x
    → s front x) → Leads l s v → Leads l r v
leads_within wider leads = record { leads = λ front rest x h ok. leads.leads front rest x (wider front x h) ok }

-- ---- a token ahead

-- a token comes next, of one of the kinds with these numbers
pub record Ahead (l : List ℕ) (rest : Tokens) : Type 0 where
  pub head : HeadIn (among l) rest

-- before any number of things and a token of the set one comes next
pub ahead_many : {A : Type 0} {l : List ℕ} {r : Rule A} → BeginsIn l r → (xs : List A) (front behind : Tokens)
    → rule.many r front xs → Ahead l behind → Ahead l (front ++ behind)
ahead_many begins [] front behind h ok = rw h ok
ahead_many {A} {l} {r} begins (x ∷ xs) front behind h ok = let w = begins.head h.front x h.first in
    record {
      head = (
        w.0,
        w.1 ++ (h.back ++ behind),
        ap (λ t. t ++ behind) h.split ∙ append_assoc h.front h.back behind
            ∙ ap (λ t. t ++ (h.back ++ behind)) w.2,
        w.3,
      );
    }

-- a set within another
pub begins_more : {A : Type 0} {l m : List ℕ} {r : Rule A} → all_have (among m) l ≡ true → BeginsIn l r → BeginsIn m r
begins_more {A} {l} {m} {r} all begins = record {
  head = λ front x h. let w = begins.head front x h in
      (w.0, w.1, w.2, among_has (among m) l all (tag w.0.kind) w.3);
}

-- ---- where nothing opens

-- a rule that nothing is spelled by where nothing opens
pub record Closed {A : Type 0} (opens : Bool) (r : Rule A) : Type 0 where
  pub none : opens ≡ false → (front : Tokens) (x : A) → r front x → ⊥

-- two rules, of which the first needs what opens
pub closed_first : {A B : Type 0} {opens : Bool} {r : Rule A} {s : A → Rule B} → Closed opens r
    → Closed opens (rule.◌>>=◌ r s)
closed_first closed = record { none = λ shut front x h. closed.none shut h.front h.thing h.first_spells }

-- two rules, of which the second needs what opens
pub closed_next : {A B : Type 0} {opens : Bool} {r : Rule A} {s : A → Rule B} → ((x : A) → Closed opens (s x))
    → Closed opens (rule.◌>>=◌ r s)
closed_next closed = record { none = λ shut front x h. (closed h.thing).none shut h.back x h.next_spells }

-- a choice of two that need what opens
pub closed_or : {A : Type 0} {opens : Bool} {r s : Rule A} → Closed opens r → Closed opens s
    → Closed opens (rule.◌or◌ r s)
closed_or {A} {opens} {r} {s} one other = record { none = go }
  where
    go : opens ≡ false → (front : Tokens) (x : A) → rule.◌or◌ r s front x → ⊥
    go shut front x (inl h) = one.none shut front x h
    go shut front x (inr h) = other.none shut front x h

-- ---- questions to the next token

-- the question is whether it is of one of the kinds with these numbers
pub record Asks (look : Look) (l : List ℕ) : Type 0 where
  pub none : look None ≡ false
  pub some : (token : Token) → look (Some token) ≡ among l (tag token.kind)

-- whether a word comes next
pub asks_kind : (kind : TokenKind) → Asks (sees kind) (tag kind ∷ [])
asks_kind kind = record { none = refl; some = λ token. sym (or_last (tag token.kind == tag kind)) }

-- whether a name comes next
pub asks_name : Asks (passes name_of) name_head
asks_name = record {
  none = refl;
  some = λ token. name_tag token.kind ∙ sym (or_last (tag token.kind == tag (kind.Name [] false)));
}

-- only tokens of the kinds with these numbers pass the test
pub record Only {A : Type 0} (test : Token → Option A) (l : List ℕ) : Type 0 where
  pub only : (token : Token) (x : A) → test token ≡ Some x → among l (tag token.kind) ≡ true

pub begins_only : {A : Type 0} {test : Token → Option A} {l : List ℕ} → Only test l → BeginsIn l (rule.one test)
begins_only only = record { head = λ front x h. (h.token, [], h.alone, only.only h.token x h.passes) }

-- no token that passes the test comes next
pub passes_no : {A : Type 0} {test : Token → Option A} {a l : List ℕ} → Only test a → all_have (outside a) l ≡ true
    → (rest : Tokens) → Before l rest → passes test (next rest) ≡ false
passes_no {A} {test} {a} {l} only none rest b = go (next rest) b.fits
  where
    refused : (token : Token) → among a (tag token.kind) ≡ false → (o : Option A) → test token ≡ o → is_some o ≡ false
    refused token differs None is = refl
    refused token differs (Some x) is = let clash : true ≡ false = sym (only.only token x is) ∙ differs in absurd cc

    go : (token : Option Token) → next_in (among l) token ≡ true → passes test token ≡ false
    go None is = refl
    go (Some token) is = refused token (not_true (among a (tag token.kind))
        (among_has (outside a) l none (tag token.kind) is)) (test token) refl

-- the one question or the other
pub asks_either : {f g : Look} {l m : List ℕ} → Asks f l → Asks g m → Asks (λ token. f token || g token) (l ++ m)
asks_either {f} {g} {l} {m} one other = record {
  none = rw (one.none, other.none) refl;
  some = λ token. rw (one.some token, other.some token) (sym (among_both l m (tag token.kind)));
}

-- what the rule begins with is asked
pub starts : {A : Type 0} {look : Look} {a l : List ℕ} {r : Rule A} → Asks look a → BeginsIn l r
    → all_have (among a) l ≡ true → Starts look r
starts {A} {look} {a} {l} {r} asks begins all front rest x h = let w = begins.head front x h in
    rw w.2 (asks.some w.0 ∙ among_has (among a) l all (tag w.0.kind) w.3)

-- a token that passes the test comes next
pub starts_one : {A B : Type 0} {test : Token → Option A} {s : A → Rule B} → Starts (passes test)
    (rule.◌>>=◌ (rule.one test) s)
starts_one {A} {B} {test} {s} front rest x h = rw (h.split, h.first_spells.alone) (ap is_some h.first_spells.passes)

-- the question is answered with no before what the rule spells
abbrev pub Skips : {A : Type 0} → Look → Rule A → Follow → Type 0
Skips {A} look r v = (front rest : Tokens) (x : A) → r front x → v rest → look (next (front ++ rest)) ≡ false

-- what comes next is not asked
pub asks_no : {look : Look} {a l : List ℕ} → Asks look a → all_have (outside a) l ≡ true → (rest : Tokens)
    → Before l rest → look (next rest) ≡ false
asks_no {look} {a} {l} asks all rest b = go (next rest) b.fits
  where
    go : (token : Option Token) → next_in (among l) token ≡ true → look token ≡ false
    go None is = asks.none
    go (Some token) is = asks.some token
        ∙ not_true (among a (tag token.kind)) (among_has (outside a) l all (tag token.kind) is)

-- what the rule leads to is not asked
pub skips : {A : Type 0} {look : Look} {a l : List ℕ} {r : Rule A} {v : Follow} → Asks look a → Leads l r v
    → all_have (outside a) l ≡ true → Skips look r v
skips {A} {look} {a} {l} {r} {v} asks leads all front rest x h ok =
    asks_no asks all (front ++ rest) (leads.leads front rest x h ok)
