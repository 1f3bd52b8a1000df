-- A reader reads a rule: what it reads is spelled so, a fault stands behind tokens that go on, and both depend on
-- no token behind the next one.
use Rattle.std.proofs.Common.{◌≡◌, inl, inr, Bool, true, false, IsTrue, [], ◌∷◌, ◌++◌, Option, Some, None, Ok, Err}
use Rattle.std.proofs.Common.{refl, sym, ap, ◌∙◌, append_assoc}
use Rattle.vb_value.specs.declared.token.Token.{Token}
use Rattle.vb_syntax.specs.grammar.Rules.{Tokens, Rule, Then}
use Rattle.vb_syntax.specs.grammar.Rules as rule
use Rattle.vb_read.specs.Reader.{Outcome, Reader, and_then, one_by, next, Look}
use Rattle.vb_read.specs.Reader as reader

-- two outcomes that are one
pub ok_tail : {A : Type 0} (x y : A) (a b : Tokens) → Path (Outcome A) (Ok (x, a)) (Ok (y, b)) → a ≡ b
ok_tail {A} x y a b e = let same : Path (A × Tokens) (x, a) (y, b) = cc in ap (λ (q : A × Tokens). q.1) same

pub ok_thing : {A : Type 0} (x y : A) (a b : Tokens) → Path (Outcome A) (Ok (x, a)) (Ok (y, b)) → x ≡ y
ok_thing {A} x y a b e = let same : Path (A × Tokens) (x, a) (y, b) = cc in ap (λ (q : A × Tokens). q.0) same

pub record Good {A : Type 0} (p : Reader A) (r : Rule A) (tokens : Tokens) (x : A) (rest : Tokens) : Type 0 where
  pub front : Tokens
  pub split : tokens ≡ front ++ rest
  pub spells : r front x
  pub again : (more : Tokens) → next more ≡ next rest → p (front ++ more) ≡ Ok (x, more)

pub record Bad {A : Type 0} (p : Reader A) (r : Rule A) (tokens : Tokens) (rest : Tokens) : Type 0 where
  pub front : Tokens
  pub split : tokens ≡ front ++ rest
  pub more : Tokens
  pub thing : A
  pub goes_on : r (front ++ more) thing
  pub again : (more : Tokens) → next more ≡ next rest → p (front ++ more) ≡ Err more

abbrev pub Meets : {A : Type 0} → Reader A → Rule A → Tokens → Outcome A → Type 0
Meets p r tokens (Ok q) = Good p r tokens q.0 q.1
Meets p r tokens (Err rest) = Bad p r tokens rest

abbrev pub ReadsAt : {A : Type 0} → Reader A → Rule A → Tokens → Type 0
ReadsAt p r tokens = Meets p r tokens (p tokens)

-- something is spelled by the rule
pub record Lives {A : Type 0} (r : Rule A) : Type 0 where
  pub tokens : Tokens
  pub thing : A
  pub spells : r tokens thing

-- The reader reads what the rule spells, and something is spelled so.
pub record Reads {A : Type 0} (p : Reader A) (r : Rule A) : Type 0 where
  pub meets : (tokens : Tokens) → ReadsAt p r tokens
  pub lives : Lives r

next-append : (front a b : Tokens) → next a ≡ next b → next (front ++ a) ≡ next (front ++ b)
next-append [] a b e = e
next-append (t ∷ front) a b e = refl

pub reads_pure : {A : Type 0} (x : A) → Reads (reader.pure x) (rule.pure x)
reads_pure x = record {
  meets = λ tokens. record {
    front = [];
    split = refl;
    spells = (refl, refl);
    again = λ more _. refl;
  };
  lives = record { tokens = []; thing = x; spells = (refl, refl) };
}

pub reads_refuse : {A : Type 0} (r : Rule A) → Lives r → Reads reader.refuse r
reads_refuse r lives = record {
  meets = λ tokens. record {
    front = [];
    split = refl;
    more = lives.tokens;
    thing = lives.thing;
    goes_on = lives.spells;
    again = λ more _. refl;
  };
  lives = lives;
}

-- the same reader, at a wider rule
pub wider_at : {A : Type 0} (p : Reader A) (r s : Rule A) (tokens : Tokens) → ((front : Tokens) (x : A)
    → r front x → s front x) → ReadsAt p r tokens → ReadsAt p s tokens
wider_at {A} p r s tokens wider reads = go (p tokens) reads
  where
    go : (o : Outcome A) → Meets p r tokens o → Meets p s tokens o
    go (Ok q) g = record { front = g.front; split = g.split; spells = wider _ _ g.spells; again = g.again }
    go (Err rest) b = record {
      front = b.front;
      split = b.split;
      more = b.more;
      thing = b.thing;
      goes_on = wider _ _ b.goes_on;
      again = b.again;
    }

pub reads_wider : {A : Type 0} {p : Reader A} {r s : Rule A} → ((front : Tokens) (x : A) → r front x
    → s front x) → Reads p r → Reads p s
reads_wider {A} {p} {r} {s} wider reads = record {
  meets = λ tokens. wider_at p r s tokens wider (reads.meets
      tokens);
  lives = record {
    tokens = reads.lives.tokens;
    thing = reads.lives.thing;
    spells = wider _ _ reads.lives.spells;
  };
}

pub bind_at : {A B : Type 0} (p : Reader A) (f : A → Reader B) (r : Rule A) (s : A
    → Rule B) (tokens : Tokens) → ReadsAt p r tokens → ((x : A) (rest : Tokens) → p tokens ≡ Ok (x, rest)
    → ReadsAt (f x) (s x) rest) → ((x : A) → Lives (s x)) → ReadsAt (reader.◌>>=◌ p f) (rule.◌>>=◌ r s) tokens
bind_at {A} {B} p f r s tokens reads next_reads lives = go (p tokens) refl reads
  where
    behind : (q : A × Tokens) → Good p r tokens q.0 q.1 → (o : Outcome B) → Meets (f q.0) (s q.0) q.1 o
        → Meets (reader.◌>>=◌ p f) (rule.◌>>=◌ r s) tokens o
    behind q g (Ok w) h = record {
      front = g.front ++ h.front;
      split = g.split ∙ ap (λ t. g.front ++ t) h.split ∙ sym (append_assoc g.front h.front w.1);
      spells = record {
        front = g.front;
        back = h.front;
        thing = q.0;
        split = refl;
        first_spells = g.spells;
        next_spells = h.spells;
      };
      again = λ more e. ap (λ t. and_then (p t) f) (append_assoc g.front h.front more)
          ∙ ap (λ o. and_then o f) (g.again (h.front ++ more) (next-append h.front more w.1 e
          ∙ ap next (sym h.split))) ∙ h.again more e;
    }
    behind q g (Err rest) h = record {
      front = g.front ++ h.front;
      split = g.split ∙ ap (λ t. g.front ++ t) h.split ∙ sym (append_assoc g.front h.front rest);
      more = h.more;
      thing = h.thing;
      goes_on = record {
        front = g.front;
        back = h.front ++ h.more;
        thing = q.0;
        split = append_assoc g.front h.front h.more;
        first_spells = g.spells;
        next_spells = h.goes_on;
      };
      again = λ more e. ap (λ t. and_then (p t) f) (append_assoc g.front h.front more)
          ∙ ap (λ o. and_then o f) (g.again (h.front ++ more) (next-append h.front more rest e
          ∙ ap next (sym h.split))) ∙ h.again more e;
    }

    go : (o : Outcome A) → p tokens ≡ o → Meets p r tokens o
        → Meets (reader.◌>>=◌ p f) (rule.◌>>=◌ r s) tokens (and_then o f)
    go (Ok q) e g = behind q g (f q.0 q.1) (next_reads q.0 q.1 e)
    go (Err rest) e b = record {
      front = b.front;
      split = b.split;
      more = b.more ++ (lives b.thing).tokens;
      thing = (lives b.thing).thing;
      goes_on = record {
        front = b.front ++ b.more;
        back = (lives b.thing).tokens;
        thing = b.thing;
        split = sym (append_assoc b.front b.more _);
        first_spells = b.goes_on;
        next_spells = (lives b.thing).spells;
      };
      again = λ more e. ap (λ o. and_then o f) (b.again more e);
    }

pub lives_bind : {A B : Type 0} (r : Rule A) (s : A → Rule B) → Lives r → ((x : A) → Lives (s x))
    → Lives (rule.◌>>=◌ r s)
lives_bind r s a b = record {
  tokens = a.tokens ++ (b a.thing).tokens;
  thing = (b a.thing).thing;
  spells = record {
    front = a.tokens;
    back = (b a.thing).tokens;
    thing = a.thing;
    split = refl;
    first_spells = a.spells;
    next_spells = (b a.thing).spells;
  };
}

pub reads_bind : {A B : Type 0} {p : Reader A} {f : A → Reader B} {r : Rule A} {s : A → Rule B} → Reads p r
    → ((x : A) → Reads (f x) (s x)) → Reads (reader.◌>>=◌ p f) (rule.◌>>=◌ r s)
reads_bind {A} {B} {p} {f} {r} {s} reads next_reads = record {
  meets = λ tokens. bind_at p f r s tokens
      (reads.meets tokens) (λ x rest _. (next_reads x).meets rest) (λ x. (next_reads x).lives);
  lives = lives_bind r s reads.lives (λ x. (next_reads x).lives);
}

pub one_meets : {A : Type 0} (test : Token → Option A) (token : Token) (x : A) → test token ≡ Some x
    → (tokens : Tokens) → ReadsAt (reader.one test) (rule.one test) tokens
one_meets test token x e [] = record {
  front = [];
  split = refl;
  more = token ∷ [];
  thing = x;
  goes_on = record { token = token; alone = refl; passes = e };
  again = go;
}
  where
    go : (more : Tokens) → next more ≡ next [] → reader.one test more ≡ Err more
    go [] _ = refl
    go (t ∷ more) e = absurd cc
one_meets {A} test token x e (t ∷ rest) = go (test t) refl
  where
    stuck : (more : Tokens) → next more ≡ Some t → test t ≡ None → reader.one test more ≡ Err more
    stuck [] e _ = absurd cc
    stuck (u ∷ more) e none = let same : u ≡ t = cc in let gone : test u ≡ None = ap test same
        ∙ none in ap (λ o. one_by o u more) gone

    go : (o : Option A) → test t ≡ o → Meets (reader.one test) (rule.one test) (t ∷ rest) (one_by o t rest)
    go (Some y) is = record {
      front = t ∷ [];
      split = refl;
      spells = record {
        token = t;
        alone = refl;
        passes = is;
      };
      again = λ more _. ap (λ o. one_by o t more) is;
    }
    go None is = record {
      front = [];
      split = refl;
      more = token ∷ [];
      thing = x;
      goes_on = record { token = token; alone = refl; passes = e };
      again = λ more same. stuck more same is;
    }

pub reads_one : {A : Type 0} (test : Token → Option A) (token : Token) (x : A) → test token ≡ Some x
    → Reads (reader.one test) (rule.one test)
reads_one test token x e = record {
  meets = one_meets test token x e;
  lives = record {
    tokens = token ∷ [];
    thing = x;
    spells = record { token = token; alone = refl; passes = e };
  };
}

-- what is asked of the next token is the same where the tokens differ behind it alone
look-again : (look : Look) (tokens front rest more : Tokens) (b : Bool) → tokens ≡ front ++ rest
    → next more ≡ next rest → look (next tokens) ≡ b → look (next (front ++ more)) ≡ b
look-again look tokens front rest more b split e is = ap look (next-append front more rest e ∙ ap next (sym split)) ∙ is

pub case_true : {A : Type 0} (look : Look) (p q : Reader A) (r : Rule A) (tokens : Tokens)
    → look (next tokens) ≡ true → ReadsAt p r tokens → ReadsAt (reader.case look p q) r tokens
case_true {A} look p q r tokens is reads = rw is (go (p tokens) reads)
  where
    go : (o : Outcome A) → Meets p r tokens o → Meets (reader.case look p q) r tokens o
    go (Ok w) g = record {
      front = g.front;
      split = g.split;
      spells = g.spells;
      again = λ more e. rw (look-again look tokens g.front w.1 more true g.split e is) (g.again more e);
    }
    go (Err rest) b = record {
      front = b.front;
      split = b.split;
      more = b.more;
      thing = b.thing;
      goes_on = b.goes_on;
      again = λ more e. rw (look-again look tokens b.front rest more true b.split e
          is) (b.again more e);
    }

pub case_false : {A : Type 0} (look : Look) (p q : Reader A) (r : Rule A) (tokens : Tokens)
    → look (next tokens) ≡ false → ReadsAt q r tokens → ReadsAt (reader.case look p q) r tokens
case_false {A} look p q r tokens is reads = rw is (go (q tokens) reads)
  where
    go : (o : Outcome A) → Meets q r tokens o → Meets (reader.case look p q) r tokens o
    go (Ok w) g = record {
      front = g.front;
      split = g.split;
      spells = g.spells;
      again = λ more e. rw (look-again look tokens g.front w.1 more false g.split e is) (g.again more e);
    }
    go (Err rest) b = record {
      front = b.front;
      split = b.split;
      more = b.more;
      thing = b.thing;
      goes_on = b.goes_on;
      again = λ more e. rw (look-again look tokens b.front rest more false b.split e
          is) (b.again more e);
    }

pub case_at : {A : Type 0} (look : Look) (p q : Reader A) (r : Rule A) (tokens : Tokens)
    → (look (next tokens) ≡ true → ReadsAt p r tokens) → (look (next tokens) ≡ false → ReadsAt q r tokens)
    → ReadsAt (reader.case look p q) r tokens
case_at look p q r tokens on off = go (look (next tokens)) refl
  where
    go : (b : Bool) → look (next tokens) ≡ b → ReadsAt (reader.case look p q) r tokens
    go true is = case_true look p q r tokens is (on is)
    go false is = case_false look p q r tokens is (off is)

pub reads_both : {A : Type 0} (look : Look) {p q : Reader A} {r : Rule A} → Reads p r → Reads q r
    → Reads (reader.case look p q) r
reads_both {A} look {p} {q} {r} on off = record {
  meets = λ tokens. case_at look p q r tokens (λ _. on.meets
      tokens) (λ _. off.meets tokens);
  lives = on.lives;
}

pub reads_choice : {A : Type 0} (look : Look) {p q : Reader A} {r s : Rule A} → Reads p r → Reads q s
    → Reads (reader.case look p q) (rule.◌or◌ r s)
reads_choice look on off = reads_both look (reads_wider (λ _ _ h. inl h) on) (reads_wider (λ _ _ h. inr h) off)

pub reads_gate : {A : Type 0} (opens : Bool) {p : Reader A} {r s : Rule A} → Lives s
    → ((front : Tokens) (x : A) → rule.where_true opens r front x → s front x) → (IsTrue opens → Reads p r)
    → Reads (reader.gate opens p) s
reads_gate true lives wider reads = reads_wider (λ front x h. wider front x (refl, h)) (reads refl)
reads_gate false {p} {r} {s} lives wider reads = reads_refuse s lives

-- two readers that always do the same
pub reads_same : {A : Type 0} (p q : Reader A) (r : Rule A) (tokens : Tokens) → ((ts : Tokens)
    → p ts ≡ q ts) → ReadsAt q r tokens → ReadsAt p r tokens
reads_same {A} p q r tokens same reads = rw (same tokens) (go (q tokens) reads)
  where
    go : (o : Outcome A) → Meets q r tokens o → Meets p r tokens o
    go (Ok w) g = record {
      front = g.front;
      split = g.split;
      spells = g.spells;
      again = λ more e. same _
          ∙ g.again more e;
    }
    go (Err rest) b = record {
      front = b.front;
      split = b.split;
      more = b.more;
      thing = b.thing;
      goes_on = b.goes_on;
      again = λ more e. same _ ∙ b.again more e;
    }
