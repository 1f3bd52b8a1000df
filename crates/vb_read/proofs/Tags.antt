-- Sets of the numbers of kinds of tokens.
use Rattle.std.proofs.Common.{◌≡◌, ℕ, ◌==◌, ◌||◌, Bool, true, false, not, cond, List, [], ◌∷◌, ◌++◌, if◌then◌else◌}
use Rattle.std.proofs.Common.{refl, ap, ◌∙◌}
use Rattle.std.proofs.lemmas.Bool.{eqb-true, eq-eqb}

-- one of the numbers
abbrev pub among : List ℕ → ℕ → Bool
among [] n = false
among (m ∷ more) n = n == m || among more n

-- none of the numbers
abbrev pub outside : List ℕ → ℕ → Bool
outside l n = not (among l n)

-- whether each of the numbers has the property
abbrev pub all_have : (ℕ → Bool) → List ℕ → Bool
all_have f [] = true
all_have f (m ∷ more) = if f m then all_have f more else false

-- what each number of a set has, a number among them has
pub among_has : (f : ℕ → Bool) (l : List ℕ) → all_have f l ≡ true → (n : ℕ) → among l n ≡ true → f n ≡ true
among_has f [] all n is = absurd cc
among_has f (m ∷ more) all n is = go (f m) refl (n == m) refl all is (λ all is. among_has f more all n is)
  where
    go : (b : Bool) → f m ≡ b → (c : Bool) → (n == m) ≡ c → cond b (all_have f more) false ≡ true
        → (c || among more n) ≡ true → (all_have f more ≡ true → among more n ≡ true → f n ≡ true) → f n ≡ true
    go true has true at _ _ later = ap f (eqb-true n m at) ∙ has
    go true has false at all is later = later all is
    go false has c at all is later = absurd cc

pub or_last : (b : Bool) → (b || false) ≡ b
or_last true = refl
or_last false = refl

pub not_true : (b : Bool) → not b ≡ true → b ≡ false
not_true true e = absurd cc
not_true false e = refl

-- a number of the first set is one of both
pub among_left : (l m : List ℕ) (n : ℕ) → among l n ≡ true → among (l ++ m) n ≡ true
among_left [] m n is = absurd cc
among_left (a ∷ l) m n is = go (n == a) is (among_left l m n)
  where
    go : (b : Bool) → (b || among l n) ≡ true → (among l n ≡ true → among (l ++ m) n ≡ true)
        → (b || among (l ++ m) n) ≡ true
    go true _ later = refl
    go false is later = later is

-- a number of the second set is one of both
pub among_right : (l m : List ℕ) (n : ℕ) → among m n ≡ true → among (l ++ m) n ≡ true
among_right [] m n is = is
among_right (a ∷ l) m n is = go (n == a) (among_right l m n is)
  where
    go : (b : Bool) → among (l ++ m) n ≡ true → (b || among (l ++ m) n) ≡ true
    go true later = refl
    go false later = later

-- the numbers of both sets are those of the one and those of the other
pub among_both : (l m : List ℕ) (n : ℕ) → among (l ++ m) n ≡ (among l n || among m n)
among_both [] m n = refl
among_both (a ∷ l) m n = go (n == a) (among_both l m n)
  where
    go : (b : Bool) → among (l ++ m) n ≡ (among l n || among m n)
        → (b || among (l ++ m) n) ≡ ((b || among l n) || among m n)
    go true later = refl
    go false later = later

-- what each number has, it has by a wider property too
pub all_more : (f g : ℕ → Bool) (l : List ℕ) → ((n : ℕ) → f n ≡ true → g n ≡ true) → all_have f l ≡ true
    → all_have g l ≡ true
all_more f g [] wider all = refl
all_more f g (m ∷ l) wider all = go (f m) refl all (all_more f g l wider)
  where
    go : (b : Bool) → f m ≡ b → cond b (all_have f l) false ≡ true → (all_have f l ≡ true → all_have g l ≡ true)
        → cond (g m) (all_have g l) false ≡ true
    go true has all later = rw (wider m has) (later all)
    go false has all later = absurd cc

-- each number of a set is among them
pub all_own : (l : List ℕ) → all_have (among l) l ≡ true
all_own [] = refl
all_own (m ∷ l) = rw (eq-eqb m m refl) (all_more (among l) (among (m ∷ l)) l (λ n is. among_right (m ∷ []) l n is)
    (all_own l))
