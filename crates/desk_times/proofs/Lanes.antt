-- A lane's own entries with one more.
use Rattle.std.proofs.Common.{◌≡◌, refl, ◌∙◌, ap, ℕ, List, [], ◌∷◌, ◌++◌}
use Rattle.std.proofs.lemmas.List.Elements.{All-nil, All-cons}
use Rattle.turn_desk.proofs.Parts.{own_part-grows}
use Rattle.turn_desk.specs.Histories.{own_part}

-- where a lane's entry comes behind a history, it comes behind the lane's own
pub one_more : (number : ℕ) (seen own after : List ℕ) → own_part (λ lane. lane) number seen ≡ own
    → after ≡ seen ++ number ∷ [] → own_part (λ lane. lane) number after ≡ own ++ number ∷ []
one_more number seen own after is e = ap (own_part (λ lane. lane) number) e
    ∙ own_part-grows (λ lane. lane) number seen (number ∷ []) (
    All-cons (λ lane. lane ≡ number) number [] refl (All-nil (λ lane. lane ≡ number)))
    ∙ ap (λ l. l ++ number ∷ []) is
