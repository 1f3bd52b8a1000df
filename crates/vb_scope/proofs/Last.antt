-- Lists whose last item is known.
use Rattle.std.proofs.Common.{◌≡◌, Bool, true, false, List, [], ◌∷◌, ◌++◌, map, refl, sym, ap, ◌∙◌}
use Rattle.std.proofs.lemmas.Bool.{false≢true}

-- whether there is no item
abbrev is_none : {A : Type 0} → List A → Bool
is_none [] = true
is_none (x ∷ xs) = false

-- the first item, or else another
abbrev first_or : {A : Type 0} → A → List A → A
first_or other [] = other
first_or other (x ∷ xs) = x

-- the items behind the first
abbrev behind : {A : Type 0} → List A → List A
behind [] = []
behind (x ∷ xs) = xs

never_empty : {A : Type 0} (xs : List A) (x : A) → is_none (xs ++ x ∷ []) ≡ false
never_empty [] x = refl
never_empty (first ∷ xs) x = refl

-- what is made of the items with one more
pub map_push : {A B : Type 0} (f : A → B) (xs : List A) (x : A) → map f (xs ++ x ∷ []) ≡ map f xs ++ f x ∷ []
map_push f [] x = refl
map_push f (first ∷ xs) x = ap (λ l. f first ∷ l) (map_push f xs x)

-- what is said of the items before the last and of the last
pub last_apart : {A B : Type 0} (f : A → B) (xs : List A) (x : A) (ys : List B) (y : B)
    → map f (xs ++ x ∷ []) ≡ ys ++ y ∷ [] → (map f xs ≡ ys) × (f x ≡ y)
last_apart f [] x [] y is = (refl, ap (first_or y) is)
last_apart f [] x (b ∷ ys) y is = absurd (false≢true (sym (never_empty ys y) ∙ sym (ap (λ l. is_none (behind l)) is)))
last_apart f (a ∷ []) x [] y is = absurd (false≢true (ap (λ l. is_none (behind l)) is))
last_apart f (a ∷ b ∷ xs) x [] y is = absurd (false≢true (ap (λ l. is_none (behind l)) is))
last_apart f (a ∷ xs) x (b ∷ ys) y is =
    let more = last_apart f xs x ys y (ap behind is) in
    (ap (λ l. f a ∷ l) more.0 ∙ ap (λ first. first ∷ ys) (ap (first_or b) is), more.1)
