-- Cells by their numbers, of which one is changed.
use Rattle.std.proofs.Common.{ℕ, ◌≡◌, ◌≢◌, ◌<◌, Bool, true, false, cond, List, [], ◌∷◌, Some}
use Rattle.std.proofs.Common.{refl, sym, ap, ◌∙◌, inl, inr, arith}
use Rattle.std.proofs.lemmas.Bool.{cases_lt}
use Rattle.std.specs.Cmp.{nat_cmp_is}
use Rattle.std.specs.Ordering.{is_eq, nat_cmp}
use Rattle.std.specs.declared.cmp.Ordering.TheVariants.{Greater, Less}
use Rattle.vb_value.specs.declared.value.Value.{Value}
use Rattle.vb_heap.specs.Store.{is_number, numbered, replaced}

less : (m n : ℕ) → m < n → is_number m n ≡ false
less m n below = let is : nat_cmp m n ≡ Less = sym (nat_cmp_is m n Less below) in ap is_eq is

more : (m n : ℕ) → n < m → is_number m n ≡ false
more m n above = let is : nat_cmp m n ≡ Greater = sym (nat_cmp_is m n Greater above) in ap is_eq is

-- two numbers that differ
pub differ : (m n : ℕ) → m ≢ n → is_number m n ≡ false
differ m n apart = elim (cases_lt m n) [
  | inl below ↦ less m n below
  | inr above ↦ elim (cases_lt n m) [
    | inl strictly ↦ more m n strictly
    | inr below ↦ let same : m ≡ n = omega arith in absurd (apart same)
  ]
]

-- two numbers that are one
pub one : (m n : ℕ) → is_number m n ≡ true → m ≡ n
one m n same = elim (cases_lt m n) [
  | inl below ↦ absurd (cc (less m n below))
  | inr above ↦ elim (cases_lt n m) [
    | inl strictly ↦ absurd (cc (more m n strictly))
    | inr below ↦ omega arith
  ]
]

there_at : (first : ℕ × Value) (others : List (ℕ × Value)) (cell : ℕ) (new old : Value) (b : Bool)
    → is_number cell first.0 ≡ b → cond b (Some first.1) (numbered cell others) ≡ Some old
    → (numbered cell others ≡ Some old → numbered cell (replaced cell new others) ≡ Some new)
    → numbered cell (cond b ((first.0, new) ∷ others) (first ∷ replaced cell new others)) ≡ Some new
there_at first others cell new old true is there rest = rw is refl
there_at first others cell new old false is there rest = rw is (rest there)

-- the value of a cell that was changed
pub there : (cells : List (ℕ × Value)) (cell : ℕ) (new old : Value) → numbered cell cells ≡ Some old
    → numbered cell (replaced cell new cells) ≡ Some new
there [] cell new old is = absurd (cc)
there (first ∷ others) cell new old is =
    there_at first others cell new old (is_number cell first.0) refl is (there others cell new old)

elsewhere_at : (first : ℕ × Value) (others : List (ℕ × Value)) (cell other : ℕ) (new : Value) (b : Bool)
    → is_number cell first.0 ≡ b → cell ≢ other
    → numbered other (replaced cell new others) ≡ numbered other others
    → numbered other (cond b ((first.0, new) ∷ others) (first ∷ replaced cell new others))
    ≡ numbered other (first ∷ others)
elsewhere_at first others cell other new true is apart rest =
    let not_here : is_number other first.0 ≡ false =
    differ other first.0 (λ same. apart (one cell first.0 is ∙ sym same)) in
    rw not_here refl
elsewhere_at first others cell other new false is apart rest =
    ap (λ found. cond (is_number other first.0) (Some first.1) found) rest

-- the value of another cell
pub elsewhere : (cells : List (ℕ × Value)) (cell other : ℕ) (new : Value) → cell ≢ other
    → numbered other (replaced cell new cells) ≡ numbered other cells
elsewhere [] cell other new apart = refl
elsewhere (first ∷ others) cell other new apart =
    elsewhere_at first others cell other new (is_number cell first.0) refl apart
    (elsewhere others cell other new apart)
