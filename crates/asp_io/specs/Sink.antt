-- What a write adds to the bytes held.
use Rattle.std.specs.Prelude.{◌≡◌, ℕ, ◌<◌, ◌≤◌, Option, List, ◌++◌, length, take, option_map}

-- what is held once these bytes were added, where it is told
abbrev pub with_bytes : Option (List ℕ) → List ℕ → Option (List ℕ)
with_bytes held bytes = option_map (λ before. before ++ bytes) held

-- A write has added the first `count` bytes of the piece, and at least one where there is one.
pub record Writes (old new : Option (List ℕ)) (piece : List ℕ) (count : ℕ) : Type 0 where
  pub within : count ≤ length piece
  pub some : 0 < length piece → 0 < count
  pub added : new ≡ with_bytes old (take count piece)
