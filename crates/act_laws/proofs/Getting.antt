-- Elements of lists, and lists that begin with others.
use Rattle.std.proofs.Common.{ℕ, zero, suc, ◌+◌, ◌≡◌, ◌≤◌, List, [], ◌∷◌, ◌++◌, length, slice_get, Some, None}
use Rattle.std.proofs.Common.{refl, sym, ap, subst, ◌∙◌, arith}

-- what stands behind a list
get_behind : {A : Type 0} (xs : List A) (x : A) → slice_get (xs ++ x ∷ []) (length xs) ≡ Some x
get_behind [] x = refl
get_behind (first ∷ xs) x = get_behind xs x

-- the same, where its length is known
pub get_last : {A : Type 0} (xs : List A) (x : A) (n : ℕ) → length xs ≡ n → slice_get (xs ++ x ∷ []) n ≡ Some x
get_last xs x n is = subst (λ k. slice_get (xs ++ x ∷ []) k ≡ Some x) is (get_behind xs x)

-- an element stays where more stands behind
pub get_kept : {A : Type 0} (xs : List A) (x other : A) (n : ℕ) → slice_get xs n ≡ Some x
    → slice_get (xs ++ other ∷ []) n ≡ Some x
get_kept [] x other n is = absurd (cc)
get_kept (first ∷ xs) x other zero is = is
get_kept (first ∷ xs) x other (suc n) is = get_kept xs x other n is

same_some : {A : Type 0} (x y : A) → Some x ≡ Some y → x ≡ y
same_some x y is = cc

-- a list that begins with another, all of whose elements it has
pub begins_with : {A : Type 0} (xs ys : List A) (n : ℕ) → length xs ≤ n + 1
    → ((k : ℕ) → k ≤ n → slice_get xs k ≡ slice_get ys k) → (rest : List A) × (ys ≡ xs ++ rest)
begins_with [] ys n few same = (ys, refl)
begins_with (x ∷ xs) [] n few same = let first : Some x ≡ None = same zero (omega arith) in absurd (cc)
begins_with (x ∷ []) (y ∷ ys) zero few same =
    (ys, ap (λ z. z ∷ ys) (same_some y x (sym (same zero (omega arith)))))
begins_with (x ∷ next ∷ xs) (y ∷ ys) zero few same = absurd (omega arith)
begins_with (x ∷ xs) (y ∷ ys) (suc n) few same =
    let more = begins_with xs ys n (omega arith) (λ k within. same (suc k) (omega arith)) in
    let first : y ≡ x = same_some y x (sym (same zero (omega arith))) in
    (more.0, ap (λ z. z ∷ ys) first ∙ ap (λ zs. x ∷ zs) more.1)
