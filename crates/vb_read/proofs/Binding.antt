-- Rules that are put together in another way, and spell the same.
use Rattle.std.proofs.Common.{inl, inr, [], ◌++◌, refl, sym, ap, ◌∙◌, append_assoc, append-nil, subst}
use Rattle.vb_syntax.specs.grammar.Rules.{Tokens, Rule, Then}
use Rattle.vb_syntax.specs.grammar.Rules as rule

-- what the one rule spells, the other spells too
abbrev pub Within : {A : Type 0} → Rule A → Rule A → Type 0
Within {A} r s = (front : Tokens) (x : A) → r front x → s front x

pub within_then : {A : Type 0} {r s t : Rule A} → Within r s → Within s t → Within r t
within_then one other front x h = other front x (one front x h)

-- behind the same rule, a wider one
pub bind_wider : {A B : Type 0} {r : Rule A} {f g : A → Rule B} → ((y : A) → Within (f y) (g y))
    → Within (rule.◌>>=◌ r f) (rule.◌>>=◌ r g)
bind_wider wider front x h = record {
  front = h.front;
  back = h.back;
  thing = h.thing;
  split = h.split;
  first_spells = h.first_spells;
  next_spells = wider h.thing h.back x h.next_spells;
}

-- before the same rule, a wider one
pub first_wider : {A B : Type 0} {r s : Rule A} {f : A → Rule B} → Within r s
    → Within (rule.◌>>=◌ r f) (rule.◌>>=◌ s f)
first_wider wider front x h = record {
  front = h.front;
  back = h.back;
  thing = h.thing;
  split = h.split;
  first_spells = wider h.front h.thing h.first_spells;
  next_spells = h.next_spells;
}

-- the last of three rules behind the two others as one
pub bind_left : {A B C : Type 0} {r : Rule A} {f : A → Rule B} {g : B → Rule C}
    → Within (rule.◌>>=◌ r (λ y. rule.◌>>=◌ (f y) g)) (rule.◌>>=◌ (rule.◌>>=◌ r f) g)
bind_left front x h = let next = h.next_spells in record {
  front = h.front ++ next.front;
  back = next.back;
  thing = next.thing;
  split = h.split ∙ ap (λ t. h.front ++ t) next.split ∙ sym (append_assoc h.front next.front next.back);
  first_spells = record {
    front = h.front;
    back = next.front;
    thing = h.thing;
    split = refl;
    first_spells = h.first_spells;
    next_spells = next.first_spells;
  };
  next_spells = next.next_spells;
}

-- the first of three rules before the two others as one
pub bind_right : {A B C : Type 0} {r : Rule A} {f : A → Rule B} {g : B → Rule C}
    → Within (rule.◌>>=◌ (rule.◌>>=◌ r f) g) (rule.◌>>=◌ r (λ y. rule.◌>>=◌ (f y) g))
bind_right front x h = let first = h.first_spells in record {
  front = first.front;
  back = first.back ++ h.back;
  thing = first.thing;
  split = h.split ∙ ap (λ t. t ++ h.back) first.split ∙ append_assoc first.front first.back h.back;
  first_spells = first.first_spells;
  next_spells = record {
    front = first.back;
    back = h.back;
    thing = h.thing;
    split = refl;
    first_spells = first.next_spells;
    next_spells = h.next_spells;
  };
}

-- before a rule, nothing
pub pure_in : {A B : Type 0} {y : A} {f : A → Rule B} → Within (f y) (rule.◌>>=◌ (rule.pure y) f)
pure_in {A} {B} {y} {f} front x h = record {
  front = [];
  back = front;
  thing = y;
  split = refl;
  first_spells = (refl, refl);
  next_spells = h;
}

pub pure_out : {A B : Type 0} {y : A} {f : A → Rule B} → Within (rule.◌>>=◌ (rule.pure y) f) (f y)
pure_out {A} {B} {y} {f} front x h =
    subst (λ t. f y t x) (sym (h.split ∙ ap (λ t. t ++ h.back) h.first_spells.0))
    (subst (λ z. f z h.back x) h.first_spells.1 h.next_spells)

-- behind a rule, nothing
pub pure_behind : {A : Type 0} {r : Rule A} → Within r (rule.◌>>=◌ r rule.pure)
pure_behind front x h = record {
  front = front;
  back = [];
  thing = x;
  split = sym (append-nil front);
  first_spells = h;
  next_spells = (refl, refl);
}

-- a choice before a rule
pub or_out : {A B : Type 0} {r s : Rule A} {f : A → Rule B}
    → Within (rule.◌>>=◌ (rule.◌or◌ r s) f) (rule.◌or◌ (rule.◌>>=◌ r f) (rule.◌>>=◌ s f))
or_out {A} {B} {r} {s} {f} front x h = go h.first_spells
  where
    go : rule.◌or◌ r s h.front h.thing → rule.◌or◌ (rule.◌>>=◌ r f) (rule.◌>>=◌ s f) front x
    go (inl w) = inl (record {
      front = h.front;
      back = h.back;
      thing = h.thing;
      split = h.split;
      first_spells = w;
      next_spells = h.next_spells;
    })
    go (inr w) = inr (record {
      front = h.front;
      back = h.back;
      thing = h.thing;
      split = h.split;
      first_spells = w;
      next_spells = h.next_spells;
    })

-- the one rule or the other, where both are within a third
pub or_within : {A : Type 0} {r s t : Rule A} → Within r t → Within s t → Within (rule.◌or◌ r s) t
or_within one other front x (inl h) = one front x h
or_within one other front x (inr h) = other front x h

pub pure_gone : {A : Type 0} {r : Rule A} → Within (rule.◌>>=◌ r rule.pure) r
pure_gone {A} {r} front x h =
    subst (λ y. r front y) (sym h.next_spells.1) (subst (λ t. r t h.thing) (sym (h.split ∙ ap (λ t. h.front ++ t)
    h.next_spells.0 ∙ append-nil h.front)) h.first_spells)

-- a choice behind a rule
pub bind_or : {A B : Type 0} {r : Rule A} {f g : A → Rule B}
    → Within (rule.◌>>=◌ r (λ y. rule.◌or◌ (f y) (g y))) (rule.◌or◌ (rule.◌>>=◌ r f) (rule.◌>>=◌ r g))
bind_or {A} {B} {r} {f} {g} front x h = go h.next_spells
  where
    go : rule.◌or◌ (f h.thing) (g h.thing) h.back x → rule.◌or◌ (rule.◌>>=◌ r f) (rule.◌>>=◌ r g) front x
    go (inl w) = inl (record {
      front = h.front;
      back = h.back;
      thing = h.thing;
      split = h.split;
      first_spells = h.first_spells;
      next_spells = w;
    })
    go (inr w) = inr (record {
      front = h.front;
      back = h.back;
      thing = h.thing;
      split = h.split;
      first_spells = h.first_spells;
      next_spells = w;
    })

-- a choice of two that are each within another
pub or_wider : {A : Type 0} {r s t u : Rule A} → Within r t → Within s u → Within (rule.◌or◌ r s) (rule.◌or◌ t u)
or_wider one other front x (inl h) = inl (one front x h)
or_wider one other front x (inr h) = inr (other front x h)
