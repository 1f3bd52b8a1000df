-- How things by their numbers stand in a pool.
use Rattle.std.specs.Prelude.{◌≡◌, ℕ}
use Rattle.slot_pool.specs.Pool.{Pool}

-- a pool gives the numbers that another one gives, and as many values may be there
abbrev pub IsPooled : {T : Type 0} → Pool T → Pool T → Type 0
IsPooled old new = (new.next ≡ old.next) × (new.most ≡ old.most)

-- how many cells and how many objects may be there at once: as many as the least of them weigh together
abbrev pub most_there : ℕ
most_there = 524288

-- the next number is that of how many were made
pub record IsPoolOf {T : Type 0} (made : ℕ) (pool : Pool T) : Type 0 where
  pub next : pool.next ≡ made
  pub most : pool.most ≡ most_there
