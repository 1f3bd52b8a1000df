-- A reader takes what a rule spells, whatever fits behind it.
use Rattle.std.proofs.Common.{◌≡◌, inl, inr, Bool, true, false, IsTrue, cond, List, [], ◌∷◌, ◌++◌, Option, None, Ok}
use Rattle.std.proofs.Common.{refl, sym, ap, ◌∙◌, append_assoc, append-nil, subst}
use Rattle.vb_value.specs.declared.token.Token.{Token}
use Rattle.vb_syntax.specs.grammar.Rules.{Tokens, Rule, Then, One}
use Rattle.vb_syntax.specs.grammar.Rules as rule
use Rattle.vb_read.specs.Reader.{Outcome, Reader, and_then, one_by, next, Look}
use Rattle.vb_read.specs.Reader as reader
use Rattle.vb_read.proofs.Reading.{Moves, more_with, many_step}

-- what may stand behind
abbrev pub Follow : Type 1
Follow = Tokens → Type 0

abbrev pub Any : Follow
Any rest = Unit {0}

pub record Takes {A : Type 0} (p : Reader A) (r : Rule A) (f : Follow) : Type 0 where
  pub takes : (front rest : Tokens) (x : A) → r front x → f rest → p (front ++ rest) ≡ Ok (x, rest)

pub takes_pure : {A : Type 0} (x : A) (f : Follow) → Takes (reader.pure x) (rule.pure x) f
takes_pure {A} x f = record { takes = λ front rest y h _. rw (h.0, h.1) refl }

pub takes_one : {A : Type 0} (test : Token → Option A) (f : Follow) → Takes (reader.one test) (rule.one test) f
takes_one test f = record { takes = λ front rest x h _. rw h.alone (ap (λ o. one_by o h.token rest) h.passes) }

pub takes_bind : {A B : Type 0} {p : Reader A} {f : A → Reader B} {r : Rule A} {s : A
    → Rule B} {u v : Follow} → Takes p r u → ((x : A) → Takes (f x) (s x) v)
    → ((x : A) (y : B) (back rest : Tokens) → s x back y → v rest → u (back ++ rest))
    → Takes (reader.◌>>=◌ p f) (rule.◌>>=◌ r s) v
takes_bind {A} {B} {p} {f} {r} {s} {u} {v} first second fits = record {
  takes = λ front rest y h ok.
      ap (λ t. and_then (p t) f) (ap (λ t. t ++ rest) h.split ∙ append_assoc h.front h.back rest)
      ∙ ap (λ o. and_then o f) (first.takes h.front (h.back ++ rest) h.thing h.first_spells (fits h.thing y
      h.back rest h.next_spells ok))
      ∙ (second h.thing).takes h.back rest y h.next_spells ok;
}

pub takes_narrow : {A : Type 0} {p : Reader A} {r : Rule A} {u v : Follow} → ((rest : Tokens) → v rest
    → u rest) → Takes p r u → Takes p r v
takes_narrow narrow t = record { takes = λ front rest x h ok. t.takes front rest x h (narrow rest ok) }

-- each thing begins where the look says so
abbrev pub Starts : {A : Type 0} → Look → Rule A → Type 0
Starts {A} look r = (front rest : Tokens) (x : A) → r front x → look (next (front ++ rest)) ≡ true

pub takes_many : {A : Type 0} (look : Look) {p : Reader A} {r : Rule A} {u v : Follow} → Takes p r u
    → Moves p → look None ≡ false → Starts look r → ((front rest : Tokens) (x : A) → r front x
    → u (front ++ rest)) → ((rest : Tokens) → v rest → u rest × (look (next rest) ≡ false))
    → Takes (reader.many look p) (rule.many r) v
takes_many {A} look {p} {r} {u} {v} one mv quiet starts again stops = record {
  takes = λ front rest xs h ok.
      go xs front rest h ok;
}
  where
    fits : (xs : List A) (back rest : Tokens) → rule.many r back xs → v rest → u (back ++ rest)
    fits [] back rest h ok = rw h ((stops rest ok).0)
    fits (x ∷ xs) back rest h ok = rw (
      h.split,
      append_assoc h.front h.back rest,
    ) (again h.front (h.back ++ rest) x h.first)

    go : (xs : List A) (front rest : Tokens) → rule.many r front xs → v rest
        → reader.many look p (front ++ rest) ≡ Ok (xs, rest)
    go [] front rest h ok = ap (λ t. reader.many look p (t ++ rest)) h ∙ many_step look p mv quiet rest
        ∙ ap (λ b. cond b (and_then (p rest) (λ x. more_with x (reader.many look p))) (Ok (
          [],
          rest,
        ))) (stops rest ok).1
    go (x ∷ xs) front rest h ok =
        let whole : Tokens = h.front ++ (h.back ++ rest) in
        ap (reader.many look p) (ap (λ t. t ++ rest) h.split ∙ append_assoc h.front h.back rest)
        ∙ many_step look p mv quiet whole
        ∙ ap (λ b. cond b (and_then (p whole) (λ x. more_with x (reader.many look p))) (Ok (
          [],
          whole,
        ))) (starts h.front (h.back ++ rest) x h.first)
        ∙ ap (λ o. and_then o (λ x. more_with x (reader.many look p)))
        (one.takes h.front (h.back ++ rest) x h.first (fits xs h.back rest h.second ok))
        ∙ ap (λ o. and_then o (λ xs. reader.pure (x ∷ xs))) (go xs h.back rest h.second ok)

-- a choice, where the look tells the two rules apart
pub takes_case : {A : Type 0} (look : Look) {p q : Reader A} {r s : Rule A} {u : Follow} → Takes p r u
    → Takes q s u → ((front rest : Tokens) (x : A) → r front x → u rest
    → look (next (front ++ rest)) ≡ true) → ((front rest : Tokens) (x : A) → s front x → u rest
    → look (next (front ++ rest)) ≡ false) → Takes (reader.case look p q) (rule.◌or◌ r s) u
takes_case {A} look {p} {q} {r} {s} {u} on off is other = record { takes = go }
  where
    go : (front rest : Tokens) (x : A) → rule.◌or◌ r s front x → u rest
        → reader.case look p q (front ++ rest) ≡ Ok (x, rest)
    go front rest x (inl h) ok = rw (is front rest x h ok) (on.takes front rest x h ok)
    go front rest x (inr h) ok = rw (other front rest x h ok) (off.takes front rest x h ok)

pub takes_gate : {A : Type 0} (opens : Bool) {p : Reader A} {r : Rule A} {u : Follow} → (IsTrue opens
    → Takes p r u) → Takes (reader.gate opens p) (rule.where_true opens r) u
takes_gate true t = record { takes = λ front rest x h ok. (t refl).takes front rest x h.1 ok }
takes_gate false t = record { takes = λ front rest x h ok. absurd cc }

-- what holds before one thing and at the end holds before any number of things
pub before_many : {A : Type 0} (r : Rule A) (u : Follow) (xs : List A) (back rest : Tokens)
    → rule.many r back xs → u rest → ((front rest : Tokens) (x : A) → r front x → u (front ++ rest))
    → u (back ++ rest)
before_many r u [] back rest h ok each = rw h ok
before_many r u (x ∷ xs) back rest h ok each = rw (
  h.split,
  append_assoc h.front h.back rest,
) (each h.front (h.back ++ rest) x h.first)

-- what the rule spells whose thing is only turned into another
pub only : {A B : Type 0} (r : Rule A) (f : A
    → B) (front : Tokens) (y : B) (h : Then r (λ x. rule.pure (f x)) front y) → r front h.thing
only r f front y h = subst (λ t. r t h.thing) (sym (h.split ∙ ap (λ t. h.front ++ t) h.next_spells.0
    ∙ append-nil h.front)) h.first_spells
