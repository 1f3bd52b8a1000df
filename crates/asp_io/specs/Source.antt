-- What a read takes from the bytes that are left.
use Rattle.std.specs.Prelude.{◌≡◌, ℕ, ◌-◌, ◌^◌, ◌<◌, ◌≤◌, Option, IfSome}
use Rattle.std.specs.Prelude.{List, [], ◌++◌, length, take, drop, min, option_map}

-- A read has put the next `count` bytes at the front of the slice, and kept the rest of the slice.
pub record Reads (left rest : Option (List ℕ)) (old new : List ℕ) (count : ℕ) : Type 0 where
  pub within : count ≤ length old
  pub kept : new ≡ take count new ++ drop count old
  -- what was left is what has come, and then what is left now
  pub came : left ≡ option_map (λ after. take count new ++ after) rest
  -- into a slice that is not empty, no byte comes at the end of input alone
  pub ends : 0 < length old → count ≡ 0 → IfSome left (λ bytes. bytes ≡ [])

-- how many of these bytes a call moves where there is this much room
abbrev pub moved : ℕ → ℕ → ℕ
moved bytes room = min (min bytes room) (2 ^ 32 - 1)
