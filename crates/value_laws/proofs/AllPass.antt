-- Lists whose items all pass a test.
use Rattle.std.proofs.Common.{◌≡◌, ℕ, Bool, true, false, not, ◌&&◌, if◌then◌else◌, List, [], ◌∷◌, ◌++◌, length}
use Rattle.std.proofs.Common.{reverse, refl, ap, ◌∙◌, arith}
use Rattle.std.specs.List.{list_all, position_or_len}
use Rattle.std.proofs.lemmas.List.{reverse-append}
use Rattle.std.proofs.lemmas.List.Folds.{list_all-append}
use Rattle.vb_value.specs.NumericText.{without_first, without_last}

-- both tests of a pair
pub both : (a b : Bool) → a && b ≡ true → (a ≡ true) × (b ≡ true)
both true b all = (refl, all)
both false b all = absurd (cc)

pub joined : (a b : Bool) → a ≡ true → b ≡ true → a && b ≡ true
joined a b is_a is_b = rw (is_a, is_b) refl

pub negated : (b : Bool) → not b ≡ true → b ≡ false
negated true fails = absurd (cc)
negated false fails = refl

-- a weaker test
pub weaker : (p q : ℕ → Bool) → ((c : ℕ) → p c ≡ true → q c ≡ true) → (items : List ℕ)
    → list_all p items ≡ true → list_all q items ≡ true
weaker p q implies [] all = refl
weaker p q implies (c ∷ items) all =
    let parts = both (p c) (list_all p items) all in
    joined (q c) (list_all q items) (implies c parts.0) (weaker p q implies items parts.1)

pub all_append : (p : ℕ → Bool) (front back : List ℕ) → list_all p front ≡ true → list_all p back ≡ true
    → list_all p (front ++ back) ≡ true
all_append p front back first second =
    list_all-append p front back ∙ joined (list_all p front) (list_all p back) first second

pub all_reverse : (p : ℕ → Bool) (items : List ℕ) → list_all p items ≡ true → list_all p (reverse items) ≡ true
all_reverse p [] all = refl
all_reverse p (c ∷ items) all =
    let parts = both (p c) (list_all p items) all in
    rw (reverse-append (c ∷ []) items)
    (all_append p (reverse items) (c ∷ []) (all_reverse p items parts.1) (joined (p c) true parts.0 refl))

dropped : (b : Bool) (test p : ℕ → Bool) (c : ℕ) (items : List ℕ) → list_all p (c ∷ items) ≡ true
    → list_all p (without_first test items) ≡ true
    → list_all p (if b then without_first test items else c ∷ items) ≡ true
dropped true test p c items all rest = rest
dropped false test p c items all rest = all

all_without_first : (test p : ℕ → Bool) (items : List ℕ) → list_all p items ≡ true
    → list_all p (without_first test items) ≡ true
all_without_first test p [] all = refl
all_without_first test p (c ∷ items) all =
    dropped (test c) test p c items all (all_without_first test p items (both (p c) (list_all p items) all).1)

-- what is left of a list whose items pass
pub all_without_last : (test p : ℕ → Bool) (items : List ℕ) → list_all p items ≡ true
    → list_all p (without_last test items) ≡ true
all_without_last test p items all =
    all_reverse p _ (all_without_first test p (reverse items) (all_reverse p items all))

-- nothing is dropped where no item passes
pub none_first : (test : ℕ → Bool) (items : List ℕ) → list_all (λ c. not (test c)) items ≡ true
    → without_first test items ≡ items
none_first test [] none = refl
none_first test (c ∷ items) none =
    ap (λ (b : Bool). if b then without_first test items else c ∷ items)
    (negated (test c) (both (not (test c)) (list_all (λ c. not (test c)) items) none).0)

reverse_twice : (items : List ℕ) → reverse (reverse items) ≡ items
reverse_twice [] = refl
reverse_twice (c ∷ items) =
    ap reverse (reverse-append (c ∷ []) items) ∙
    (reverse-append (reverse items) (c ∷ []) ∙ ap (λ rest. c ∷ rest) (reverse_twice items))

pub none_both : (test : ℕ → Bool) (items : List ℕ) → list_all (λ c. not (test c)) items ≡ true
    → without_last test (without_first test items) ≡ items
none_both test items none =
    ap (without_last test) (none_first test items none)
    ∙ (ap reverse (none_first test (reverse items) (all_reverse (λ c. not (test c)) items none))
    ∙ reverse_twice items)

-- the place of the first item that passes
pub place_none : (test : ℕ → Bool) (items : List ℕ) → list_all (λ c. not (test c)) items ≡ true
    → position_or_len test items ≡ length items
place_none test [] none = refl
place_none test (c ∷ items) none =
    let parts = both (not (test c)) (list_all (λ c. not (test c)) items) none in
    rw (parts.0) (omega (arith, place_none test items parts.1))

pub place_at : (test : ℕ → Bool) (items : List ℕ) (c : ℕ) (rest : List ℕ)
    → list_all (λ c. not (test c)) items ≡ true → test c ≡ true
    → position_or_len test (items ++ c ∷ rest) ≡ length items
place_at test [] c rest none passes = rw passes refl
place_at test (d ∷ items) c rest none passes =
    let parts = both (not (test d)) (list_all (λ c. not (test c)) items) none in
    rw (parts.0) (omega (arith, place_at test items c rest parts.1 passes))
