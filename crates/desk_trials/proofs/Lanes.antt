-- Lists from which the last is taken, and to which one is added.
use Rattle.std.proofs.Common.{◌≡◌, List, [], ◌∷◌, ◌++◌, All, subst}
use Rattle.std.proofs.lemmas.List.Elements.{All-push, All-same}
use Rattle.turn_desk.proofs.Gathering.{All-front, All-last}

module _ {A : Type 0} (Fact : A → Type 0) where
  -- what all had, those that are left have
  pub left : (whole items : List A) (last : A) → whole ≡ items ++ last ∷ [] → All Fact whole → All Fact items
  left whole items last is all = All-front Fact items last (subst (λ xs. All Fact xs) is all)

  -- and so has the one that was taken
  pub taken : (whole items : List A) (last : A) → whole ≡ items ++ last ∷ [] → All Fact whole → Fact last
  taken whole items last is all = All-last Fact items last (subst (λ xs. All Fact xs) is all)

  -- with one that has it too, all have it
  pub joined : (whole items : List A) (last : A) → whole ≡ items ++ last ∷ [] → All Fact items → Fact last → All Fact whole
  joined whole items last is all one = All-same Fact whole (items ++ last ∷ []) is (All-push Fact items last all one)
