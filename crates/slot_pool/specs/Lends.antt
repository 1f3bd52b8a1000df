-- What a pool and its slots end as, where a `&mut` to a value is returned.
use Rattle.std.specs.Prelude.{ℕ, Option}
use Rattle.std.specs.Borrow.{LendsIf, Fml, RattleType, MutBor}
use Rattle.slot_pool.specs.Pool.{Pool, with_value}
use Rattle.slot_pool.specs.contracts.pool.Pool.{the_row as pool_row}

module _ (T : RattleType) (p : MutBor (Pool T.Denot)) (number : ℕ) where
  -- once the borrow ends, the number has the last value written through it; at `None` the pool stays as it is
  abbrev pub lends_value : Option (MutBor T.Denot) → Fml
  lends_value r = LendsIf (pool_row T) T p r (with_value number p.now) p.now
