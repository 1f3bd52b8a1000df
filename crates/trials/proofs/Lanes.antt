-- A list of lanes from which the last is taken, and a turn that adds nothing.
use Rattle.std.proofs.Common.{◌≡◌, sym, ◌∙◌, ℕ, List, [], ◌∷◌, ◌++◌, All, append-nil, subst}
use Rattle.std.proofs.lemmas.List.Elements.{All-nil}
use Rattle.turn_desk.proofs.Gathering.{All-front, All-last}
use Rattle.turn_desk.specs.Histories.{GrowsBy}

module _ {A : Type 0} (Fact : A → Type 0) where
  -- what all had, those that are left have
  pub left : (whole items : List A) (last : A) → whole ≡ items ++ last ∷ [] → All Fact whole → All Fact items
  left whole items last is all = All-front Fact items last (subst (λ xs. All Fact xs) is all)

  -- and so has the one that was taken
  pub taken : (whole items : List A) (last : A) → whole ≡ items ++ last ∷ [] → All Fact whole → Fact last
  taken whole items last is all = All-last Fact items last (subst (λ xs. All Fact xs) is all)

-- a history that stays as it was has grown by no entry
pub added_nothing : {E : Type 0} (lane_of : E → ℕ) (lane : ℕ) (before after : List E) → after ≡ before
    → GrowsBy lane_of lane before after
added_nothing lane_of lane before after same =
    ([], same ∙ sym (append-nil before), All-nil (λ entry. lane_of entry ≡ lane))
