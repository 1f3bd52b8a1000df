-- What is held after a piece was written in part.
use Rattle.std.specs.Prelude.{◌≡◌, ℕ, ◌≤◌, Option, List, length, take}
use Rattle.asp_io.specs.Sink.{with_bytes}

-- some first part of the piece was added, maybe none of it and maybe all
pub record AddsPart (old new : Option (List ℕ)) (piece : List ℕ) : Type 0 where
  pub count : ℕ
  pub within : count ≤ length piece
  pub added : new ≡ with_bytes old (take count piece)
