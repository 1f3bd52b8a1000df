-- This crate's own: what holds of the fields of a reader.
use Rattle.std.specs.Prelude.{ℕ, ◌+◌, ◌≤◌, List, length, drop}
use Rattle.http_front.specs.Found.{Waits}
use Rattle.http_front.specs.Mark.{IsMarked}

-- the bytes taken are among those kept, few are left behind them, nothing comes before there are need bytes there,
-- and reading can go on at the mark
pub record IsReader (bytes : List ℕ) (taken need mark : ℕ) : Type 0 where
  pub within : taken ≤ length bytes
  pub few : length bytes ≤ taken + 1130496
  pub waits : Waits (drop taken bytes) need
  pub marked : IsMarked (drop taken bytes) mark
