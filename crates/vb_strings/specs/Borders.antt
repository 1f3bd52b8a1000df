-- The borders of a pattern (Knuth, Morris and Pratt, "Fast Pattern Matching in Strings").
use Rattle.std.specs.Prelude.{◌≡◌, ◌<◌, ℕ, ◌+◌, ◌-◌, List, length, get_or}
use Rattle.vb_strings.specs.declared.comparing.Comparison.{Comparison}
use Rattle.vb_strings.specs.Comparing.{counted}

-- what the character of a text behind so many others counts as
abbrev pub letter : Comparison → List ℕ → ℕ → ℕ
letter comparison text place = counted comparison (get_or text place 0)

-- the first `width` characters of a pattern end as they begin, with the same `border` characters
abbrev pub IsBorder : Comparison → List ℕ → ℕ → ℕ → Type 0
IsBorder comparison pattern width border = (k : ℕ) → k < border
    → letter comparison pattern (width - border + k) ≡ letter comparison pattern k

-- the longest border of the first `width` characters that is shorter than they are
pub record IsLongestBorder (comparison : Comparison) (pattern : List ℕ) (width border : ℕ) : Type 0 where
  pub shorter : border < width
  pub stands : IsBorder comparison pattern width border
  pub longest : (other : ℕ) → border < other → other < width → ¬ (IsBorder comparison pattern width other)

-- the longest border of each beginning of a pattern that has characters
pub record AreBorders (comparison : Comparison) (pattern borders : List ℕ) : Type 0 where
  pub one_each : length borders ≡ length pattern
  pub each : (before : ℕ) → before < length pattern
      → IsLongestBorder comparison pattern (before + 1) (get_or borders before 0)
