-- What contracts see of a pool.
use Rattle.std.proofs.Common.{◌≡◌, refl}
use Rattle.slot_pool.specs.Pool.{Pool}

-- two pools with the same entries and as many free slots, as many values at most and the same next number
pub alike_seen : {T : Type 0} (one other : Pool T) → one.entries ≡ other.entries → one.free ≡ other.free → one.most ≡ other.most
    → one.next ≡ other.next → one ≡ other
alike_seen one other entries free most next = rw (entries, free, most, next) refl
