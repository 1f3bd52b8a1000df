-- Numbers that are still to come.
use Rattle.std.specs.Prelude.{ℕ, ◌<◌, List, [], ◌∷◌}

-- whether each thing has a number below that one
abbrev pub EachBelow : {T : Type 0} → ℕ → List (ℕ × T) → Type 0
EachBelow number [] = Unit {0}
EachBelow number (thing ∷ things) = (thing.0 < number) × EachBelow number things

-- each thing has a number below that one
pub record AreBelow {T : Type 0} (number : ℕ) (things : List (ℕ × T)) : Type 0 where
  pub each : EachBelow number things
