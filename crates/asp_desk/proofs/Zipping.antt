-- What holds of the elements of two lists at each place.
use Rattle.std.proofs.Common.{◌≡◌, ℕ, ◌<◌, suc, List, [], ◌∷◌, length, All, slice_index_or, arith}
use Rattle.std.specs.List.{AllByRecursion, AllZip}
use Rattle.std.proofs.lemmas.List.Elements.{All-from_recursion}

module _ {X : Type 0} (R : X → X → Type 0) where
  pub zipped : (xs ys : List X) → length ys ≡ length xs
      → ((k : ℕ) (d : X) → k < length xs → R (slice_index_or xs k d) (slice_index_or ys k d)) → AllZip R xs ys
  zipped [] [] long each = tt
  zipped [] (y ∷ ys) long each = absurd (omega (arith, long))
  zipped (x ∷ xs) [] long each = absurd (omega (arith, long))
  zipped (x ∷ xs) (y ∷ ys) long each =
      (each 0 x (omega arith), zipped xs ys (omega (arith, long)) (λ k d low. each (suc k) d (omega (arith, low))))

module _ {A B : Type 0} (R : A → B → Type 0) (P : B → Type 0) (gives : (x : A) (y : B) → R x y → P y) where
  rights : (xs : List A) (ys : List B) → AllZip R xs ys → AllByRecursion P ys
  rights [] [] zip = tt
  rights [] (y ∷ ys) zip = absurd zip
  rights (x ∷ xs) [] zip = absurd zip
  rights (x ∷ xs) (y ∷ ys) zip = (gives x y zip.0, rights xs ys zip.1)

  pub all_right : (xs : List A) (ys : List B) → AllZip R xs ys → All P ys
  all_right xs ys zip = All-from_recursion P ys (rights xs ys zip)
