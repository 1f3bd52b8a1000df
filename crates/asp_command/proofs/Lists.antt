-- Lists of words by their items.
use Rattle.std.proofs.Common.{◌≡◌, List, [], ◌∷◌, length, get_or, arith}

-- a list of two items
pub two_items : {X : Type 0} (items : List X) (a b : X) → length items ≡ 2
    → a ≡ get_or items 0 a → b ≡ get_or items 1 b → items ≡ a ∷ b ∷ []
two_items [] a b two first second = absurd (omega (arith, two))
two_items (x ∷ []) a b two first second = absurd (omega (arith, two))
two_items (x ∷ y ∷ []) a b two first second = cc
two_items (x ∷ y ∷ z ∷ rest) a b two first second = absurd (omega (arith, two))

-- a list of three items
pub three_items : {X : Type 0} (items : List X) (a b c : X) → length items ≡ 3
    → a ≡ get_or items 0 a → b ≡ get_or items 1 b → c ≡ get_or items 2 c → items ≡ a ∷ b ∷ c ∷ []
three_items [] a b c three first second third = absurd (omega (arith, three))
three_items (x ∷ []) a b c three first second third = absurd (omega (arith, three))
three_items (x ∷ y ∷ []) a b c three first second third = absurd (omega (arith, three))
three_items (x ∷ y ∷ z ∷ []) a b c three first second third = cc
three_items (x ∷ y ∷ z ∷ w ∷ rest) a b c three first second third = absurd (omega (arith, three))
