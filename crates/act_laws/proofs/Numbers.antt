-- Things by their numbers, of which one is changed, added or taken away.
use Rattle.std.proofs.Common.{ℕ, ◌+◌, ◌≡◌, ◌≢◌, ◌<◌, ◌≤◌, Bool, true, false, cond, List, [], ◌∷◌, ◌++◌, length}
use Rattle.std.proofs.Common.{Option, Some, None, refl, sym, ap, ◌∙◌, inl, inr, ◌⊎◌, arith}
use Rattle.std.proofs.lemmas.Bool.{cases_lt}
use Rattle.std.specs.Cmp.{nat_cmp_is}
use Rattle.std.specs.Ordering.{is_eq, nat_cmp}
use Rattle.std.specs.declared.cmp.Ordering.TheVariants.{Equal, Greater, Less}
use Rattle.vb_heap.specs.Below.{EachBelow}
use Rattle.vb_heap.specs.Store.{is_number, numbered, replaced, without}

-- ---- numbers

less : (m n : ℕ) → m < n → is_number m n ≡ false
less m n below = let is : nat_cmp m n ≡ Less = sym (nat_cmp_is m n Less below) in ap is_eq is

more : (m n : ℕ) → n < m → is_number m n ≡ false
more m n above = let is : nat_cmp m n ≡ Greater = sym (nat_cmp_is m n Greater above) in ap is_eq is

-- a number is itself
pub itself : (n : ℕ) → is_number n n ≡ true
itself n = let is : nat_cmp n n ≡ Equal = sym (nat_cmp_is n n Equal refl) in ap is_eq is

-- two numbers are one, or they differ
pub compared : (m n : ℕ) → (m ≡ n) ⊎ ((m ≢ n) × (is_number m n ≡ false) × (is_number n m ≡ false))
compared m n = elim (cases_lt m n) [
  | inl below ↦ inr (λ same. absurd (omega (arith, below, same)), less m n below, more n m below)
  | inr above ↦ elim (cases_lt n m) [
    | inl strictly ↦ inr (λ same. absurd (omega (arith, strictly, same)), more m n strictly, less n m strictly)
    | inr below ↦ inl (omega arith)
  ]
]

-- two numbers that differ
pub differ : (m n : ℕ) → m ≢ n → is_number m n ≡ false
differ m n apart = elim (compared m n) [
  | inl same ↦ absurd (apart same)
  | inr other ↦ other.1
]

module _ {T : Type 0} where
  -- ---- a thing that is not there

  missed : (b : Bool) (thing : T) (found : Option T) → cond b (Some thing) found ≡ None
      → (b ≡ false) × (found ≡ None)
  missed true thing found is = absurd (cc)
  missed false thing found is = (refl, is)

  pub none_replaced : (things : List (ℕ × T)) (at number : ℕ) (thing : T) → numbered number things ≡ None
      → numbered number (replaced at thing things) ≡ None
  none_replaced [] at number thing none = refl
  none_replaced (first ∷ others) at number thing none =
      let parts = missed (is_number number first.0) first.1 (numbered number others) none in
      elim (is_number at first.0)
      as (λ b. numbered number (cond b ((first.0, thing) ∷ others) (first ∷ replaced at thing others)) ≡ None) [
        | true ↦ rw parts.0 parts.1
        | false ↦ rw parts.0 (none_replaced others at number thing parts.1)
      ]

  pub none_without : (things : List (ℕ × T)) (gone number : ℕ) → numbered number things ≡ None
      → numbered number (without gone things) ≡ None
  none_without [] gone number none = refl
  none_without (first ∷ others) gone number none =
      let parts = missed (is_number number first.0) first.1 (numbered number others) none in
      elim (is_number gone first.0) as (λ b. numbered number (cond b others (first ∷ without gone others)) ≡ None) [
        | true ↦ parts.1
        | false ↦ rw parts.0 (none_without others gone number parts.1)
      ]

  pub none_above : (things : List (ℕ × T)) (made number : ℕ) → EachBelow made things → made ≤ number
      → numbered number things ≡ None
  none_above [] made number below above = refl
  none_above (first ∷ others) made number below above =
      let apart : is_number number first.0 ≡ false = more number first.0 (omega (arith, below.0, above)) in
      rw apart (none_above others made number below.1 above)

  -- ---- another number

  pub other_replaced : (things : List (ℕ × T)) (at number : ℕ) (thing : T) → is_number number at ≡ false
      → numbered number (replaced at thing things) ≡ numbered number things
  other_replaced [] at number thing apart = refl
  other_replaced (first ∷ others) at number thing apart = elim (compared at first.0) [
    | inl same ↦ let here : is_number at first.0 ≡ true = ap (is_number at) (sym same) ∙ itself at in
        let elsewhere : is_number number first.0 ≡ false = ap (is_number number) (sym same) ∙ apart in
        rw (here, elsewhere) refl
    | inr away ↦ rw (away.1) (ap (λ found. cond (is_number number first.0) (Some first.1) found)
        (other_replaced others at number thing apart))
  ]

  pub other_without : (things : List (ℕ × T)) (gone number : ℕ) → is_number number gone ≡ false
      → numbered number (without gone things) ≡ numbered number things
  other_without [] gone number apart = refl
  other_without (first ∷ others) gone number apart = elim (compared gone first.0) [
    | inl same ↦ let here : is_number gone first.0 ≡ true = ap (is_number gone) (sym same) ∙ itself gone in
        let elsewhere : is_number number first.0 ≡ false = ap (is_number number) (sym same) ∙ apart in
        rw (here, elsewhere) refl
    | inr away ↦ rw (away.1) (ap (λ found. cond (is_number number first.0) (Some first.1) found)
        (other_without others gone number apart))
  ]

  -- a thing more behind
  pub with_one_more : (things : List (ℕ × T)) (last number : ℕ) (thing : T) → is_number number last ≡ false
      → numbered number (things ++ (last, thing) ∷ []) ≡ numbered number things
  with_one_more [] last number thing apart = rw apart refl
  with_one_more (first ∷ others) last number thing apart =
      ap (λ found. cond (is_number number first.0) (Some first.1) found) (with_one_more others last number thing apart)

  -- ---- that number

  there_at : (first : ℕ × T) (others : List (ℕ × T)) (at : ℕ) (old thing : T) (b : Bool) → is_number at first.0 ≡ b
      → (numbered at others ≡ Some old → numbered at (replaced at thing others) ≡ Some thing)
      → cond b (Some first.1) (numbered at others) ≡ Some old
      → numbered at (cond b ((first.0, thing) ∷ others) (first ∷ replaced at thing others)) ≡ Some thing
  there_at first others at old thing true here rest found = rw here refl
  there_at first others at old thing false away rest found = rw away (rest found)

  pub there_replaced : (things : List (ℕ × T)) (at : ℕ) (old thing : T) → numbered at things ≡ Some old
      → numbered at (replaced at thing things) ≡ Some thing
  there_replaced [] at old thing is = absurd (cc)
  there_replaced (first ∷ others) at old thing is =
      there_at first others at old thing (is_number at first.0) refl (there_replaced others at old thing) is

  length_at : (first : ℕ × T) (others : List (ℕ × T)) (gone : ℕ) (thing : T) (b : Bool)
      → (numbered gone others ≡ Some thing → length others ≡ length (without gone others) + 1)
      → cond b (Some first.1) (numbered gone others) ≡ Some thing
      → length (first ∷ others) ≡ length (cond b others (first ∷ without gone others)) + 1
  length_at first others gone thing true rest found = omega arith
  length_at first others gone thing false rest found = let less = rest found in omega (arith, less)

  pub length_without : (things : List (ℕ × T)) (gone : ℕ) (thing : T) → numbered gone things ≡ Some thing
      → length things ≡ length (without gone things) + 1
  length_without [] gone thing is = absurd (cc)
  length_without (first ∷ others) gone thing is =
      length_at first others gone thing (is_number gone first.0) (length_without others gone thing) is
