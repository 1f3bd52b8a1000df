-- Which paths of a folder are those of its site. Paths compare without ASCII case. The order of texts is that of their
-- first different character, which is also the order of their bytes in UTF-8.
use Rattle.std.specs.Prelude.{◌≡◌, ℕ, List}
use Rattle.std.specs.Cmp.Lexicographic.{slice_cmp}
use Rattle.std.specs.List.{All, AllPairs, Contains}
use Rattle.std.specs.declared.cmp.Ordering.{Ordering}
use Rattle.std.specs.declared.cmp.Ordering.TheVariants.{Less}
use Rattle.std.specs.Ordering.{nat_cmp}
use Rattle.vb_value.specs.Folding.{folded}

-- the order of texts
abbrev pub compared : List ℕ → List ℕ → Ordering
compared = slice_cmp nat_cmp

-- the text comes before the other
abbrev pub IsBefore : List ℕ → List ℕ → Type 0
IsBefore text other = compared text other ≡ Less

-- of the paths that compare equal to this one, it comes first
pub record IsChosen (paths : List (List ℕ)) (path : List ℕ) : Type 0 where
  pub there : Contains paths path
  pub first : (other : List ℕ) → Contains paths other → folded other ≡ folded path → ¬ (IsBefore other path)

-- the paths are the chosen ones of the names, in the order of their folded paths
pub record AreChosen (names paths : List (List ℕ)) : Type 0 where
  pub each : All (IsChosen names) paths
  pub all : (path : List ℕ) → IsChosen names path → Contains paths path
  pub ordered : AllPairs (λ path other. IsBefore (folded path) (folded other)) paths
