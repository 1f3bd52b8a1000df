-- Lists of numbers that are gone through with a test, and tests that pass less than others.
use Rattle.std.proofs.Common.{◌≡◌, ℕ, zero, suc, ◌+◌, ◌<◌, ◌≤◌, ◌==◌, ◌||◌, ◌&&◌, Bool, true, false, if◌then◌else◌, not}
use Rattle.std.proofs.Common.{List, [], ◌∷◌, ◌++◌, length, filter, take, get_or, Option, Some, None, refl, ap, sym, ◌∙◌}
use Rattle.std.proofs.Common.{arith, inl, inr, subst}
use Rattle.std.specs.List.{find, list_any}
use Rattle.std.specs.Option.{option_or}
use Rattle.std.specs.Prelude.{IfNone, IfSome}
use Rattle.std.proofs.lemmas.Bool.{cases_Bool, cases_lt}
use Rattle.std.proofs.Common.{append-nil, length-append}
use Rattle.std.proofs.lemmas.Grind.{common_steps}
use Rattle.std.proofs.lemmas.List.{take_more}
use Rattle.std.proofs.lemmas.List.Elements.{filter-append}
use Rattle.asp_job.specs.Runs.{numbers}

-- ---- q passes only what p passes

stops_too : (p q : ℕ → Bool) → ((r : ℕ) → q r ≡ true → p r ≡ true) → (r : ℕ) → p r ≡ false → q r ≡ false
stops_too p q h r e = elim (cases_Bool (q r)) [
  | inl passes ↦ absurd (let other = h r passes in cc)
  | inr stops ↦ stops
]

pub filter_narrow : (p q : ℕ → Bool) → ((r : ℕ) → q r ≡ true → p r ≡ true) → (xs : List ℕ)
    → filter q (filter p xs) ≡ filter q xs
filter_narrow p q h [] = refl
filter_narrow p q h (x ∷ xs) = elim (cases_Bool (p x)) [
  | inl passes ↦ rw passes (ap (λ ys. if q x then x ∷ ys else ys) (filter_narrow p q h xs))
  | inr stops ↦ (let none = stops_too p q h x stops in rw (stops, none) (filter_narrow p q h xs))
]

pub any_narrow : (p q : ℕ → Bool) → ((r : ℕ) → q r ≡ true → p r ≡ true) → (xs : List ℕ)
    → list_any q (filter p xs) ≡ list_any q xs
any_narrow p q h [] = refl
any_narrow p q h (x ∷ xs) = elim (cases_Bool (p x)) [
  | inl passes ↦ rw passes (ap (λ b. q x || b) (any_narrow p q h xs))
  | inr stops ↦ (let none = stops_too p q h x stops in rw (stops, none) (any_narrow p q h xs))
]

pub find_narrow : (p q : ℕ → Bool) → ((r : ℕ) → q r ≡ true → p r ≡ true) → (xs : List ℕ)
    → find q (filter p xs) ≡ find q xs
find_narrow p q h [] = refl
find_narrow p q h (x ∷ xs) = elim (cases_Bool (p x)) [
  | inl passes ↦ rw passes (ap (λ found. if q x then Some x else found) (find_narrow p q h xs))
  | inr stops ↦ (let none = stops_too p q h x stops in rw (stops, none) (find_narrow p q h xs))
]

-- q passes what p passes, but not r
pub filter_without : (p q : ℕ → Bool) (r : ℕ) → ((x : ℕ) → q x ≡ (p x && not (x == r))) → (xs : List ℕ)
    → filter q xs ≡ filter (λ x. not (x == r)) (filter p xs)
filter_without p q r h [] = refl
filter_without p q r h (x ∷ xs) = elim (cases_Bool (p x)) [
  | inl passes ↦ (let same : q x ≡ not (x == r) = h x ∙ ap (λ b. b && not (x == r)) passes in
      rw (passes, same) (ap (λ ys. if not (x == r) then x ∷ ys else ys) (filter_without p q r h xs)))
  | inr stops ↦ (let none : q x ≡ false = h x ∙ ap (λ b. b && not (x == r)) stops in
      rw (stops, none) (filter_without p q r h xs))
]

-- ---- one number more

any_append : (p : ℕ → Bool) (xs : List ℕ) (x : ℕ) → list_any p (xs ++ x ∷ []) ≡ list_any p xs || p x
any_append p xs x = grind (arith, common_steps)

any_take : (p : ℕ → Bool) (xs : List ℕ) (i d : ℕ) → i < length xs
    → list_any p (take (i + 1) xs) ≡ list_any p (take i xs) || p (get_or xs i d)
any_take p xs i d h = ap (list_any p) (take_more xs i d h) ∙ any_append p (take i xs) (get_or xs i d)

-- what passes is found among all, and none is found where none passes
pub any_here : (p : ℕ → Bool) (xs : List ℕ) (i d : ℕ) → i < length xs → p (get_or xs i d) ≡ true → list_any p xs ≡ true
any_here p [] i d l passes = absurd (omega arith)
any_here p (x ∷ xs) zero d l passes = rw passes refl
any_here p (x ∷ xs) (suc i) d l passes = elim (cases_Bool (p x)) [
  | inl one ↦ rw one refl
  | inr other ↦ rw other (any_here p xs i d (omega arith) passes)
]

pub any_next : (p : ℕ → Bool) (xs : List ℕ) (i d : ℕ) → i < length xs → list_any p (take i xs) ≡ false
    → p (get_or xs i d) ≡ false → list_any p (take (i + 1) xs) ≡ false
any_next p xs i d l none stops = any_take p xs i d l ∙ ap (λ b. b || p (get_or xs i d)) none ∙ stops

pub count_take : (p : ℕ → Bool) (xs : List ℕ) (i d : ℕ) → i < length xs
    → length (filter p (take (i + 1) xs))
    ≡ (if p (get_or xs i d) then length (filter p (take i xs)) + 1 else length (filter p (take i xs)))
count_take p xs i d h =
    let x = get_or xs i d in
    let of : filter p (take (i + 1) xs) ≡ filter p (take i xs) ++ filter p (x ∷ []) =
    ap (filter p) (take_more xs i d h) ∙ filter-append p (take i xs) (x ∷ []) in
    elim (cases_Bool (p x)) [
      | inl passes ↦ (let one : filter p (x ∷ []) ≡ x ∷ [] = rw passes refl in
          let long : length (filter p (take (i + 1) xs)) ≡ length (filter p (take i xs)) + 1 =
          ap length (of ∙ ap (λ ys. filter p (take i xs) ++ ys) one) ∙ length-append (filter p (take i xs)) (x ∷ []) in
          rw passes long)
      | inr stops ↦ (let none : filter p (x ∷ []) ≡ [] = rw stops refl in
          let same : length (filter p (take (i + 1) xs)) ≡ length (filter p (take i xs)) =
          ap length (of ∙ ap (λ ys. filter p (take i xs) ++ ys) none ∙ append-nil (filter p (take i xs))) in
          rw stops same)
    ]

-- ---- what is found first

find_append : (p : ℕ → Bool) (xs : List ℕ) (x : ℕ)
    → find p (xs ++ x ∷ []) ≡ option_or (find p xs) (if p x then Some x else None)
find_append p [] x = refl
find_append p (y ∷ xs) x = elim (cases_Bool (p y)) [
  | inl passes ↦ rw passes refl
  | inr stops ↦ rw stops (find_append p xs x)
]

pub find_take : (p : ℕ → Bool) (xs : List ℕ) (i d : ℕ) → i < length xs
    → find p (take (i + 1) xs)
    ≡ option_or (find p (take i xs)) (if p (get_or xs i d) then Some (get_or xs i d) else None)
find_take p xs i d h = ap (find p) (take_more xs i d h) ∙ find_append p (take i xs) (get_or xs i d)

pub find_here : (p : ℕ → Bool) (xs : List ℕ) (i d : ℕ) → i < length xs → find p (take i xs) ≡ None
    → p (get_or xs i d) ≡ true → find p xs ≡ Some (get_or xs i d)
find_here p [] i d l none passes = absurd (omega arith)
find_here p (x ∷ xs) zero d l none passes = rw passes refl
find_here p (x ∷ xs) (suc i) d l none passes = elim (cases_Bool (p x)) [
  | inl one ↦ absurd (let first : find p (take (suc i) (x ∷ xs)) ≡ Some x = rw one refl in cc)
  | inr other ↦ (let rest : find p (take (suc i) (x ∷ xs)) ≡ find p (take i xs) = rw other refl in
      rw other (find_here p xs i d (omega arith) (sym rest ∙ none) passes))
]

pub find_next : (p : ℕ → Bool) (xs : List ℕ) (i d : ℕ) → i < length xs → find p (take i xs) ≡ None
    → p (get_or xs i d) ≡ false → find p (take (i + 1) xs) ≡ None
find_next p xs i d l none stops = find_take p xs i d l
    ∙ ap (λ found. option_or found (if p (get_or xs i d) then Some (get_or xs i d) else None)) none
    ∙ ap (λ b. if b then Some (get_or xs i d) else None) stops

pub all_taken : (xs : List ℕ) (i : ℕ) → length xs ≤ i → take i xs ≡ xs
all_taken [] zero l = refl
all_taken [] (suc i) l = refl
all_taken (x ∷ xs) zero l = absurd (omega arith)
all_taken (x ∷ xs) (suc i) l = ap (λ ys. x ∷ ys) (all_taken xs i (omega arith))

-- what is found among the numbers to n
abbrev pub FindsIn : (ℕ → Bool) → ℕ → Option ℕ → Type 0
FindsIn p n None = (r : ℕ) → r < n → p (r + 1) ≡ false
FindsIn p n (Some r) = (p r ≡ true) × (r ≤ n) × ((other : ℕ) → other + 1 < r → p (other + 1) ≡ false)

finds_more : (p : ℕ → Bool) (n : ℕ) (found : Option ℕ) → FindsIn p n found
    → FindsIn p (suc n) (option_or found (if p (suc n) then Some (suc n) else None))
finds_more p n None h = elim (cases_Bool (p (suc n))) [
  | inl passes ↦ (let low : suc n ≤ suc n = omega arith in
      let least : (other : ℕ) → other + 1 < suc n → p (other + 1) ≡ false = λ other l. h other (omega arith) in
      subst (λ b. FindsIn p (suc n) (if b then Some (suc n) else None)) (sym passes) (passes, low, least))
  | inr stops ↦ (let none : (r : ℕ) → r < suc n → p (r + 1) ≡ false = λ r l. elim (cases_lt r n) [
    | inl less ↦ h r less
    | inr last ↦ (let is : r + 1 ≡ suc n = omega arith in ap p is ∙ stops)
  ] in
      subst (λ b. FindsIn p (suc n) (if b then Some (suc n) else None)) (sym stops) none)
]
finds_more p n (Some r) h = let low = h.1 in (h.0, omega arith, h.2)

pub finds : (p : ℕ → Bool) (n : ℕ) → FindsIn p n (find p (numbers n))
finds p zero = λ r l. absurd (omega arith)
finds p (suc n) = subst (FindsIn p (suc n)) (sym (find_append p (numbers n) (suc n)))
    (finds_more p n (find p (numbers n)) (finds p n))

none_in : (p : ℕ → Bool) (n : ℕ) (found : Option ℕ) → FindsIn p n found
    → IfNone found ((r : ℕ) → r < n → p (r + 1) ≡ false)
none_in p n None h = h
none_in p n (Some r) h = tt

some_in : (p : ℕ → Bool) (n : ℕ) (found : Option ℕ) → FindsIn p n found → IfSome found (λ r. p r ≡ true)
some_in p n None h = tt
some_in p n (Some r) h = h.0

within_in : (p : ℕ → Bool) (n : ℕ) (found : Option ℕ) → FindsIn p n found → IfSome found (λ r. r ≤ n)
within_in p n None h = tt
within_in p n (Some r) h = h.1

least_in : (p : ℕ → Bool) (n : ℕ) (found : Option ℕ) → FindsIn p n found
    → IfSome found (λ r. (other : ℕ) → other + 1 < r → p (other + 1) ≡ false)
least_in p n None h = tt
least_in p n (Some r) h = h.2

pub finds_none : (p : ℕ → Bool) (n : ℕ) (found : Option ℕ) → found ≡ find p (numbers n)
    → IfNone found ((r : ℕ) → r < n → p (r + 1) ≡ false)
finds_none p n found e = none_in p n found (subst (FindsIn p n) (sym e) (finds p n))

pub finds_some : (p : ℕ → Bool) (n : ℕ) (found : Option ℕ) → found ≡ find p (numbers n)
    → IfSome found (λ r. p r ≡ true)
finds_some p n found e = some_in p n found (subst (FindsIn p n) (sym e) (finds p n))

pub finds_within : (p : ℕ → Bool) (n : ℕ) (found : Option ℕ) → found ≡ find p (numbers n)
    → IfSome found (λ r. r ≤ n)
finds_within p n found e = within_in p n found (subst (FindsIn p n) (sym e) (finds p n))

pub finds_least : (p : ℕ → Bool) (n : ℕ) (found : Option ℕ) → found ≡ find p (numbers n)
    → IfSome found (λ r. (other : ℕ) → other + 1 < r → p (other + 1) ≡ false)
finds_least p n found e = least_in p n found (subst (FindsIn p n) (sym e) (finds p n))
