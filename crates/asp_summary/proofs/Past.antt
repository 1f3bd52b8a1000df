-- The past of a journal.
use Rattle.std.proofs.Common.{◌≡◌, ℕ, ◌+◌, ◌<◌, List, [], ◌∷◌, length, take, reverse, get_or, ap, ◌∙◌}
use Rattle.std.proofs.lemmas.List.{reverse-append, take_more}

-- a journal read one entry further
pub past_more : {A : Type 0} → (journal : List A) (i : ℕ) (d : A) → i < length journal
    → reverse (take (i + 1) journal) ≡ get_or journal i d ∷ reverse (take i journal)
past_more journal i d h = ap reverse (take_more journal i d h)
    ∙ reverse-append (take i journal) (get_or journal i d ∷ [])
