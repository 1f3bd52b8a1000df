-- Numbers that rise, what is kept of each, and tests of the numbers from 1 on.
use Rattle.std.proofs.Common.{◌≡◌, ℕ, zero, suc, ◌+◌, ◌<◌, ◌≤◌, ◌==◌, ◌&&◌, ◌||◌, ◌⊎◌, Bool, true, false, not}
use Rattle.std.proofs.Common.{if◌then◌else◌, nat_eq, List, [], ◌∷◌, ◌++◌, filter, map, Some, None, refl}
use Rattle.std.proofs.Common.{ap, sym, ◌∙◌, arith, inl, inr}
use Rattle.std.specs.List.{list_any}
use Rattle.std.specs.Map.{lookup, remove_entry, keys_of}
use Rattle.std.proofs.lemmas.Bool.{cases_Bool, eqb-true}
use Rattle.std.proofs.lemmas.List.{map-append}
use Rattle.std.proofs.lemmas.List.Elements.{filter-append}
use Rattle.std.proofs.lemmas.List.Folds.{list_any-append}
use Rattle.asp_job.specs.Runs.{numbers}
use Rattle.asp_session.specs.declared.key.KeyState.{KeyState}
use Rattle.asp_session.specs.declared.key.Waiter.{Waiter}
use Rattle.asp_session.specs.Steps.{changed, ends_next, without_first}

-- ---- numbers that rise

-- each is greater than the one before, the first than `low`
abbrev pub IsRising : ℕ → List ℕ → Type 0
IsRising low [] = Unit {0}
IsRising low (x ∷ xs) = (low < x) × IsRising x xs

-- none is greater than `top`
abbrev AreUpTo : ℕ → List ℕ → Type 0
AreUpTo top [] = Unit {0}
AreUpTo top (x ∷ xs) = (x ≤ top) × AreUpTo top xs

up_to_more : (top high : ℕ) (xs : List ℕ) → top ≤ high → AreUpTo top xs → AreUpTo high xs
up_to_more top high [] l a = tt
up_to_more top high (x ∷ xs) l a = let here = a.0 in (omega arith, up_to_more top high xs l a.1)

up_to_push : (top x : ℕ) (xs : List ℕ) → AreUpTo top xs → x ≤ top → AreUpTo top (xs ++ x ∷ [])
up_to_push top x [] a l = (l, tt)
up_to_push top x (y ∷ ys) a l = (a.0, up_to_push top x ys a.1 l)

up_to_numbers : (n : ℕ) → AreUpTo n (numbers n)
up_to_numbers zero = tt
up_to_numbers (suc n) =
    up_to_push (suc n) (suc n) (numbers n) (up_to_more n (suc n) (numbers n) (omega arith) (up_to_numbers n))
    (omega arith)

rising_push : (low top x : ℕ) (xs : List ℕ) → IsRising low xs → AreUpTo top xs → low ≤ top → top < x
    → IsRising low (xs ++ x ∷ [])
rising_push low top x [] r a l m = (omega arith, tt)
rising_push low top x (y ∷ ys) r a l m = (r.0, rising_push y top x ys r.1 a.1 a.0 m)

rising_numbers : (n : ℕ) → IsRising 0 (numbers n)
rising_numbers zero = tt
rising_numbers (suc n) =
    rising_push 0 n (suc n) (numbers n) (rising_numbers n) (up_to_numbers n) (omega arith) (omega arith)

rising_lower : (low high : ℕ) (xs : List ℕ) → low ≤ high → IsRising high xs → IsRising low xs
rising_lower low high [] l r = tt
rising_lower low high (x ∷ xs) l r = let here = r.0 in (omega arith, r.1)

rising_if : (b : Bool) (low x : ℕ) (xs : List ℕ) → low < x → IsRising x xs
    → IsRising low (if b then x ∷ xs else xs)
rising_if true low x xs l r = (l, r)
rising_if false low x xs l r = rising_lower low x xs (omega arith) r

rising_filter : (p : ℕ → Bool) (low : ℕ) (xs : List ℕ) → IsRising low xs → IsRising low (filter p xs)
rising_filter p low [] r = tt
rising_filter p low (x ∷ xs) r = rising_if (p x) low x (filter p xs) r.0 (rising_filter p x xs r.1)

-- the numbers from 1 on that pass
pub passing_rise : (p : ℕ → Bool) (n : ℕ) → IsRising 0 (filter p (numbers n))
passing_rise p n = rising_filter p 0 (numbers n) (rising_numbers n)

not_above : (key x : ℕ) → key < x → (key == x) ≡ false
not_above key x l = grind arith

-- ---- what is kept of each, where it changes of one of them

abbrev with_change : (KeyState → KeyState) → ℕ → (ℕ → KeyState) → ℕ → ℕ × KeyState
with_change f key g k = (k, if key == k then f (g k) else g k)

above_same : (f : KeyState → KeyState) (key low : ℕ) (g : ℕ → KeyState) (xs : List ℕ) → key ≤ low → IsRising low xs
    → map (λ k. (k, g k)) xs ≡ map (with_change f key g) xs
above_same f key low g [] l r = refl
above_same f key low g (x ∷ xs) l r =
    let here = r.0 in
    let other : (key == x) ≡ false = not_above key x (omega arith) in
    let rest = above_same f key x g xs (omega arith) r.1 in
    rw other (ap (λ (es : List (ℕ × KeyState)). (x, g x) ∷ es) rest)

pub changed_map : (f : KeyState → KeyState) (key low : ℕ) (g : ℕ → KeyState) (xs : List ℕ) → IsRising low xs
    → changed f key (map (λ k. (k, g k)) xs) ≡ map (with_change f key g) xs
changed_map f key low g [] r = refl
changed_map f key low g (x ∷ xs) r = elim (cases_Bool (key == x)) [
  | inl same ↦ (let is : key ≡ x = eqb-true key x same in
      let rest = above_same f key x g xs (omega arith) r.1 in
      rw same (ap (λ (es : List (ℕ × KeyState)). (x, f (g x)) ∷ es) rest))
  | inr other ↦ rw other (ap (λ (es : List (ℕ × KeyState)). (x, g x) ∷ es) (changed_map f key x g xs r.1))
]

-- a change that leaves each state leaves all
pub changed_none : (f : KeyState → KeyState) (key : ℕ) → ((state : KeyState) → f state ≡ state)
    → (entries : List (ℕ × KeyState)) → changed f key entries ≡ entries
changed_none f key same [] = refl
changed_none f key same (entry ∷ entries) = elim (cases_Bool (nat_eq key entry.0)) [
  | inl here ↦ rw here (ap (λ (s : KeyState). (entry.0, s) ∷ entries) (same entry.1))
  | inr other ↦ rw other (ap (λ (es : List (ℕ × KeyState)). entry ∷ es) (changed_none f key same entries))
]

-- ---- one number is taken out

above_all : (key low : ℕ) (xs : List ℕ) → key ≤ low → IsRising low xs → xs ≡ filter (λ x. not (key == x)) xs
above_all key low [] l r = refl
above_all key low (x ∷ xs) l r =
    let here = r.0 in
    let other : (key == x) ≡ false = not_above key x (omega arith) in
    rw other (ap (λ (ys : List ℕ). x ∷ ys) (above_all key x xs (omega arith) r.1))

pub removed_map : (key low : ℕ) (g : ℕ → KeyState) (xs : List ℕ) → IsRising low xs
    → remove_entry (nat_eq key) (map (λ k. (k, g k)) xs) ≡ map (λ k. (k, g k)) (filter (λ x. not (key == x)) xs)
removed_map key low g [] r = refl
removed_map key low g (x ∷ xs) r = elim (cases_Bool (key == x)) [
  | inl same ↦ (let is : key ≡ x = eqb-true key x same in
      rw same (ap (map (λ k. (k, g k))) (above_all key x xs (omega arith) r.1)))
  | inr other ↦ rw other (ap (λ (es : List (ℕ × KeyState)). (x, g x) ∷ es) (removed_map key x g xs r.1))
]

pub filter_twice : (p q : ℕ → Bool) (xs : List ℕ) → filter q (filter p xs) ≡ filter (λ x. p x && q x) xs
filter_twice p q [] = refl
filter_twice p q (x ∷ xs) = elim (cases_Bool (p x)) [
  | inl passes ↦ rw passes (ap (λ (ys : List ℕ). if q x then x ∷ ys else ys) (filter_twice p q xs))
  | inr stops ↦ rw stops (filter_twice p q xs)
]

-- ---- what is kept of one of them

pub lookup_map : (key : ℕ) (g : ℕ → KeyState) (xs : List ℕ)
    → lookup (nat_eq key) (map (λ k. (k, g k)) xs) ≡ (if list_any (λ x. key == x) xs then Some (g key) else None)
lookup_map key g [] = refl
lookup_map key g (x ∷ xs) = elim (cases_Bool (key == x)) [
  | inl same ↦ (let is : key ≡ x = eqb-true key x same in rw same (ap (λ k. Some (g k)) (sym is)))
  | inr other ↦ rw other (lookup_map key g xs)
]

pub keys_of_map : (g : ℕ → KeyState) (xs : List ℕ) → keys_of (map (λ k. (k, g k)) xs) ≡ xs
keys_of_map g [] = refl
keys_of_map g (x ∷ xs) = ap (λ (ys : List ℕ). x ∷ ys) (keys_of_map g xs)

-- ---- tests of the numbers from 1 to n

pub or_none : (b : Bool) → (b || false) ≡ b
or_none true = refl
or_none false = refl

any_last : (p : ℕ → Bool) (n : ℕ) → list_any p (numbers (suc n)) ≡ (list_any p (numbers n) || p (suc n))
any_last p n = list_any-append p (numbers n) (suc n ∷ []) ∙ ap (λ b. list_any p (numbers n) || b) (or_none (p (suc n)))

pub any_more : (p : ℕ → Bool) (n : ℕ) → list_any p (numbers (n + 1)) ≡ (list_any p (numbers n) || p (n + 1))
any_more p n = let next : n + 1 ≡ suc n = omega arith in
    ap (λ k. list_any p (numbers k)) next ∙ any_last p n ∙ ap (λ k. list_any p (numbers n) || p k) (sym next)

or_right : (a b : Bool) → b ≡ true → (a || b) ≡ true
or_right true b e = refl
or_right false b e = e

or_false : (a b : Bool) → (a || b) ≡ false → (a ≡ false) × (b ≡ false)
or_false true b e = absurd cc
or_false false b e = (refl, e)

below : (r n : ℕ) → r ≤ suc n → (r == suc n) ≡ false → r ≤ n
below r n l e = grind arith

pub any_same : (p q : ℕ → Bool) (n : ℕ) → ((r : ℕ) → 0 < r → r ≤ n → p r ≡ q r)
    → list_any p (numbers n) ≡ list_any q (numbers n)
any_same p q zero h = refl
any_same p q (suc n) h =
    let front = any_same p q n (λ r l m. h r l (omega arith)) in
    let last = h (suc n) (omega arith) (omega arith) in
    any_last p n ∙ ap (λ b. b || p (suc n)) front ∙ ap (λ b. list_any q (numbers n) || b) last ∙ sym (any_last q n)

pub any_none : (p : ℕ → Bool) (n : ℕ) → ((r : ℕ) → 0 < r → r ≤ n → p r ≡ false) → list_any p (numbers n) ≡ false
any_none p zero h = refl
any_none p (suc n) h =
    let front = any_none p n (λ r l m. h r l (omega arith)) in
    let last = h (suc n) (omega arith) (omega arith) in
    any_last p n ∙ ap (λ b. b || p (suc n)) front ∙ last

pub any_found : (p : ℕ → Bool) (n r : ℕ) → 0 < r → r ≤ n → p r ≡ true → list_any p (numbers n) ≡ true
any_found p zero r l m e = absurd (omega arith)
any_found p (suc n) r l m e = elim (cases_Bool (r == suc n)) [
  | inl same ↦ (let is : r ≡ suc n = eqb-true r (suc n) same in
      any_last p n ∙ or_right (list_any p (numbers n)) (p (suc n)) (ap p (sym is) ∙ e))
  | inr other ↦ any_last p n
      ∙ ap (λ b. b || p (suc n)) (any_found p n r l (below r n m other) e)
]

pub none_of_any : (p : ℕ → Bool) (n r : ℕ) → list_any p (numbers n) ≡ false → 0 < r → r ≤ n → p r ≡ false
none_of_any p zero r e l m = absurd (omega arith)
none_of_any p (suc n) r e l m =
    let parts = or_false (list_any p (numbers n)) (p (suc n)) (sym (any_last p n) ∙ e) in
    elim (cases_Bool (r == suc n)) [
      | inl same ↦ (let is : r ≡ suc n = eqb-true r (suc n) same in ap p is ∙ parts.1)
      | inr other ↦ none_of_any p n r parts.0 l (below r n m other)
    ]

-- whether a number is among those that pass
pub among : (p : ℕ → Bool) (n key : ℕ) → 0 < key → key ≤ n → p key ≡ true
    → list_any (λ x. key == x) (filter p (numbers n)) ≡ true
among p zero key l m e = absurd (omega arith)
among p (suc n) key l m e =
    let parts : list_any (λ x. key == x) (filter p (numbers (suc n)))
    ≡ (list_any (λ x. key == x) (filter p (numbers n)) || list_any (λ x. key == x) (filter p (suc n ∷ []))) =
    ap (list_any (λ x. key == x)) (filter-append p (numbers n) (suc n ∷ []))
    ∙ list_any-append (λ x. key == x) (filter p (numbers n)) (filter p (suc n ∷ [])) in
    elim (cases_Bool (key == suc n)) [
      | inl same ↦ (let is : key ≡ suc n = eqb-true key (suc n) same in
          let passes : p (suc n) ≡ true = ap p (sym is) ∙ e in
          let last : list_any (λ x. key == x) (filter p (suc n ∷ [])) ≡ true = rw (passes, same) refl in
          parts ∙ or_right (list_any (λ x. key == x) (filter p (numbers n))) _ last)
      | inr other ↦ parts ∙ ap (λ b. b || list_any (λ x. key == x) (filter p (suc n ∷ [])))
          (among p n key l (below key n m other) e)
    ]

if_none : (p : ℕ → Bool) (x key : ℕ) → (p x ≡ true → (key == x) ≡ false)
    → list_any (λ y. key == y) (filter p (x ∷ [])) ≡ false
if_none p x key h = elim (cases_Bool (p x)) [
  | inl passes ↦ (let other = h passes in rw (passes, other) refl)
  | inr stops ↦ rw stops refl
]

pub not_among : (p : ℕ → Bool) (n key : ℕ) → ((r : ℕ) → 0 < r → r ≤ n → p r ≡ true → (key == r) ≡ false)
    → list_any (λ x. key == x) (filter p (numbers n)) ≡ false
not_among p zero key h = refl
not_among p (suc n) key h =
    ap (list_any (λ x. key == x)) (filter-append p (numbers n) (suc n ∷ []))
    ∙ list_any-append (λ x. key == x) (filter p (numbers n)) (filter p (suc n ∷ []))
    ∙ ap (λ b. b || list_any (λ x. key == x) (filter p (suc n ∷ [])))
    (not_among p n key (λ r l m. h r l (omega arith)))
    ∙ if_none p (suc n) key (h (suc n) (omega arith) (omega arith))

pub pass_same : (p q : ℕ → Bool) (n : ℕ) → ((r : ℕ) → 0 < r → r ≤ n → p r ≡ q r)
    → filter p (numbers n) ≡ filter q (numbers n)
pass_same p q zero h = refl
pass_same p q (suc n) h =
    let front = pass_same p q n (λ r l m. h r l (omega arith)) in
    let last : p (suc n) ≡ q (suc n) = h (suc n) (omega arith) (omega arith) in
    filter-append p (numbers n) (suc n ∷ []) ∙ cc (front, last) ∙ sym (filter-append q (numbers n) (suc n ∷ []))

-- two tests that agree, and two functions that agree on what passes
map_if : {Y : Type 0} → (h j : ℕ → Y) (p q : ℕ → Bool) (x : ℕ) → p x ≡ q x → (p x ≡ true → h x ≡ j x)
    → map h (filter p (x ∷ [])) ≡ map j (filter q (x ∷ []))
map_if h j p q x e f = elim (cases_Bool (p x)) [
  | inl passes ↦ (let other : q x ≡ true = sym e ∙ passes in rw (passes, other) (ap (λ y. y ∷ []) (f passes)))
  | inr stops ↦ (let other : q x ≡ false = sym e ∙ stops in rw (stops, other) refl)
]

pub map_same : {Y : Type 0} → (h j : ℕ → Y) (p q : ℕ → Bool) (n : ℕ) → ((r : ℕ) → 0 < r → r ≤ n → p r ≡ q r)
    → ((r : ℕ) → 0 < r → r ≤ n → p r ≡ true → h r ≡ j r)
    → map h (filter p (numbers n)) ≡ map j (filter q (numbers n))
map_same h j p q zero e f = refl
map_same h j p q (suc n) e f =
    ap (map h) (filter-append p (numbers n) (suc n ∷ [])) ∙ map-append h (filter p (numbers n)) (filter p (suc n ∷ []))
    ∙ ap (λ ys. ys ++ map h (filter p (suc n ∷ []))) (map_same h j p q n (λ r l m. e r l (omega arith))
    (λ r l m. f r l (omega arith)))
    ∙ ap (λ ys. map j (filter q (numbers n)) ++ ys) (map_if h j p q (suc n) (e (suc n) (omega arith) (omega arith))
    (f (suc n) (omega arith) (omega arith)))
    ∙ sym (map-append j (filter q (numbers n)) (filter q (suc n ∷ [])))
    ∙ ap (map j) (sym (filter-append q (numbers n) (suc n ∷ [])))

-- ---- the first that waits for a key

abbrev IsIn : ℕ → List ℕ → Type 0
IsIn x [] = ⊥
IsIn x (y ∷ ys) = (x ≡ y) ⊎ IsIn x ys

in_front : (x : ℕ) (xs ys : List ℕ) → IsIn x xs → IsIn x (xs ++ ys)
in_front x [] ys i = absurd i
in_front x (y ∷ xs) ys (inl here) = inl here
in_front x (y ∷ xs) ys (inr there) = inr (in_front x xs ys there)

in_back : (x : ℕ) (xs ys : List ℕ) → IsIn x ys → IsIn x (xs ++ ys)
in_back x [] ys i = i
in_back x (y ∷ xs) ys i = inr (in_back x xs ys i)

pub in_passing : (p : ℕ → Bool) (n x : ℕ) → 0 < x → x ≤ n → p x ≡ true → IsIn x (filter p (numbers n))
in_passing p zero x l m e = absurd (omega arith)
in_passing p (suc n) x l m e = elim (cases_Bool (x == suc n)) [
  | inl same ↦ (let is : x ≡ suc n = eqb-true x (suc n) same in
      let passes : p (suc n) ≡ true = ap p (sym is) ∙ e in
      let one : filter p (suc n ∷ []) ≡ suc n ∷ [] = rw passes refl in
      rw (filter-append p (numbers n) (suc n ∷ []), one) (in_back x (filter p (numbers n)) (suc n ∷ []) (inl is)))
  | inr other ↦ rw (filter-append p (numbers n) (suc n ∷ [])) (in_front x (filter p (numbers n)) (filter p (suc n ∷ []))
      (in_passing p n x l (below x n m other) e))
]

in_above : (x low : ℕ) (xs : List ℕ) → IsRising low xs → IsIn x xs → low < x
in_above x low [] r i = absurd i
in_above x low (y ∷ ys) r (inl here) = let first = r.0 in omega arith
in_above x low (y ∷ ys) r (inr there) = let first = r.0 in let rest = in_above x y ys r.1 there in omega arith

-- none before the run waits for the key
abbrev NoneBefore : (ℕ → Waiter) → ℕ → ℕ → List ℕ → Type 0
NoneBefore w run key [] = Unit {0}
NoneBefore w run key (x ∷ xs) = (x < run → ((w x).key == key) ≡ false) × NoneBefore w run key xs

none_append : (w : ℕ → Waiter) (run key : ℕ) (xs ys : List ℕ) → NoneBefore w run key xs → NoneBefore w run key ys
    → NoneBefore w run key (xs ++ ys)
none_append w run key [] ys a b = b
none_append w run key (x ∷ xs) ys a b = (a.0, none_append w run key xs ys a.1 b)

none_if : (w : ℕ → Waiter) (run key x : ℕ) (b : Bool) → (b ≡ true → x < run → ((w x).key == key) ≡ false)
    → NoneBefore w run key (if b then x ∷ [] else [])
none_if w run key x true h = (h refl, tt)
none_if w run key x false h = tt

pub none_before : (w : ℕ → Waiter) (run key : ℕ) (p : ℕ → Bool) (n : ℕ)
    → ((r : ℕ) → 0 < r → r ≤ n → p r ≡ true → r < run → ((w r).key == key) ≡ false)
    → NoneBefore w run key (filter p (numbers n))
none_before w run key p zero h = tt
none_before w run key p (suc n) h =
    rw (filter-append p (numbers n) (suc n ∷ [])) (none_append w run key (filter p (numbers n)) (filter p (suc n ∷ []))
    (none_before w run key p n (λ r l m. h r l (omega arith)))
    (none_if w run key (suc n) (p (suc n)) (h (suc n) (omega arith) (omega arith))))

before : (run x : ℕ) (xs : List ℕ) → IsRising x xs → (run ≡ x) ⊎ IsIn run xs → (run == x) ≡ false → x < run
before run x xs r (inl here) other = absurd (let same : (run == x) ≡ true = grind arith in cc)
before run x xs r (inr there) other = in_above run x xs r there

rest_of : (run x : ℕ) (xs : List ℕ) → (run ≡ x) ⊎ IsIn run xs → (run == x) ≡ false → IsIn run xs
rest_of run x xs (inl here) other = absurd (let same : (run == x) ≡ true = grind arith in cc)
rest_of run x xs (inr there) other = there

pub first_map : (w : ℕ → Waiter) (run key low : ℕ) (xs : List ℕ) → IsRising low xs → IsIn run xs
    → NoneBefore w run key xs → ((w run).key == key) ≡ true
    → (without_first key (map w xs) ≡ map w (filter (λ x. not (run == x)) xs))
    × (ends_next key (map w xs) ≡ (w run).last)
first_map w run key low [] r i none own = absurd i
first_map w run key low (x ∷ xs) r i none own = elim (cases_Bool (run == x)) [
  | inl same ↦ (let is : run ≡ x = eqb-true run x same in
      let mine : ((w x).key == key) ≡ true = ap (λ y. (w y).key == key) (sym is) ∙ own in (
        rw (same, mine) (ap (map w) (above_all run x xs (omega arith) r.1)),
        rw mine (ap (λ y. (w y).last) (sym is)),
      ))
  | inr other ↦ (let less = before run x xs r.1 i other in
      let not_mine : ((w x).key == key) ≡ false = none.0 less in
      let rest = first_map w run key x xs r.1 (rest_of run x xs i other) none.1 own in (
        rw (other, not_mine) (ap (λ (ws : List Waiter). w x ∷ ws) rest.0),
        rw not_mine rest.1,
      ))
]
