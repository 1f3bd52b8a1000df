-- Which seconds a clock in memory may give.
use Rattle.std.specs.Prelude.{◌≡◌, ℕ, List, [], ◌∷◌, Contains}

-- one of those in its list, and 0 alone where there is none
abbrev pub MayGive : List ℕ → ℕ → Type 0
MayGive [] second = second ≡ 0
MayGive (first ∷ others) second = Contains (first ∷ others) second
