-- Pairs that were added one by one.
use Rattle.std.proofs.Common.{◌≡◌, List, [], ◌∷◌, ◌++◌, ◌∙◌, append_assoc}
use Rattle.asp_request.specs.Pairs.{Pair}

pub two : (pairs : List Pair) (a b : Pair) → (pairs ++ a ∷ []) ++ b ∷ [] ≡ pairs ++ (a ∷ b ∷ [])
two pairs a b = append_assoc pairs (a ∷ []) (b ∷ [])

pub five : (pairs : List Pair) (a b c d e : Pair)
    → ((((pairs ++ a ∷ []) ++ b ∷ []) ++ c ∷ []) ++ d ∷ []) ++ e ∷ [] ≡ pairs ++ (a ∷ b ∷ c ∷ d ∷ e ∷ [])
five pairs a b c d e =
    append_assoc (((pairs ++ a ∷ []) ++ b ∷ []) ++ c ∷ []) (d ∷ []) (e ∷ [])
    ∙ append_assoc ((pairs ++ a ∷ []) ++ b ∷ []) (c ∷ []) (d ∷ e ∷ [])
    ∙ append_assoc (pairs ++ a ∷ []) (b ∷ []) (c ∷ d ∷ e ∷ [])
    ∙ append_assoc pairs (a ∷ []) (b ∷ c ∷ d ∷ e ∷ [])
