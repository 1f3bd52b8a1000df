-- The first cookie among the pieces of more headers.
use Rattle.std.proofs.Common.{◌≡◌, ℕ, ◌+◌, ◌<◌, List, [], ◌∷◌, ◌++◌, length, take, get_or}
use Rattle.std.proofs.Common.{ap, ◌∙◌, arith, Bool, Some, None, if◌then◌else◌, map, drop, refl}
use Rattle.std.specs.List.{flat_map, find}
use Rattle.std.specs.Option.{option_or}
use Rattle.std.proofs.lemmas.List.{take_more, drop_all}
use Rattle.std.proofs.lemmas.List.{append-nil, map-append}
use Rattle.std.proofs.lemmas.List.Folds.{find-append}
use Rattle.std.proofs.lemmas.Grind.{flat_map-append}

-- what is found in one list more
pub find_more : {X A : Type 0} → (p : A → Bool) (f : X → List A) (xs : List X) (i : ℕ) (d : X) → i < length xs
    → find p (flat_map f (take (i + 1) xs)) ≡ option_or (find p (flat_map f (take i xs))) (find p (f (get_or xs i d)))
find_more p f xs i d h =
    let x = get_or xs i d in
    ap (λ l. find p (flat_map f l)) (take_more xs i d h) ∙ ap (find p) (flat_map-append f (take i xs) (x ∷ []))
    ∙ find-append p (flat_map f (take i xs)) (flat_map f (x ∷ []))
    ∙ ap (λ l. option_or (find p (flat_map f (take i xs))) (find p l)) (append-nil (f x))

-- what is found among one piece more
pub find_push : {A B : Type 0} → (p : B → Bool) (f : A → B) (xs : List A) (x : A) → find p (map f (xs ++ x ∷ []))
    ≡ option_or (find p (map f xs)) (if p (f x) then Some (f x) else None)
find_push p f xs x = ap (find p) (map-append f xs (x ∷ [])) ∙ find-append p (map f xs) (f x ∷ [])

pub map_twice : {A B C : Type 0} → (f : A → B) (g : B → C) (xs : List A) → map g (map f xs) ≡ map (λ x. g (f x)) xs
map_twice f g [] = refl
map_twice f g (x ∷ xs) = ap (λ l. g (f x) ∷ l) (map_twice f g xs)

pub none_behind : (xs : List ℕ) → length xs < 20 → drop 20 xs ≡ []
none_behind xs l = drop_all 20 xs (omega arith)
