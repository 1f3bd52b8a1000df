-- How the code keeps a pool.
use Rattle.std.specs.Prelude.{◌≡◌, ℕ, ◌+◌, ◌-◌, ◌*◌, ◌^◌, ◌<◌, ◌≤◌, ◌==◌, List, [], ◌∷◌, length, Option, Some, None}
use Rattle.std.specs.Prelude.{is_some, if◌then◌else◌, filter, filter_map, Contains, nat_lt, vec_capacity}
use Rattle.slab.specs.Slab.{Slab, get, slab_len}
use Rattle.slot_pool.specs.declared.key.SlotKey.{SlotKey}
use Rattle.slot_pool.specs.declared.pool.Pool.TheInside.{Inside}
use Rattle.slot_pool.specs.declared.slot.Slot.{Slot}
use Rattle.slot_pool.specs.Pool.{Pool}

-- keys whose numbers rise, from one number to below another
abbrev pub Rises : ℕ → List SlotKey → ℕ → Type 0
Rises low [] high = low ≤ high
Rises low (key ∷ keys) high = (low ≤ key.number) × Rises (key.number + 1) keys high

-- the numbers of the keys rise, and stay below the next one
pub record IsRising (keys : List SlotKey) (next : ℕ) : Type 0 where
  pub rises : Rises 0 keys next

module _ {T : Type 0} where
  -- the value of a slot, if it is the one with that number
  abbrev pub value_if : ℕ → Option (Slot T) → Option (ℕ × T)
  value_if number None = None
  value_if number (Some slot) = if slot.number == number then Some (number, slot.value) else None

  -- what a key leads to
  abbrev pub held : Slab (Slot T) → SlotKey → Option (ℕ × T)
  held slots key = value_if key.number (get slots key.slot)

  -- the values to which keys lead
  abbrev pub entries_of : Slab (Slot T) → List SlotKey → List (ℕ × T)
  entries_of slots keys = filter_map (held slots) keys

  -- what is kept of keys: those that lead to values, where more than half lead nowhere
  abbrev pub tidied : Slab (Slot T) → List SlotKey → List SlotKey
  tidied slots keys =
      if nat_lt (2 * slab_len slots) (length keys) then filter (λ key. is_some (held slots key)) keys else keys

  -- each value has its key in the list
  pub record IsListed (slots : Slab (Slot T)) (keys : List SlotKey) : Type 0 where
    pub listed : (at : ℕ) (slot : Slot T) → get slots at ≡ Some slot → Contains keys (record { number = slot.number; slot = at })

  -- what contracts see
  abbrev pub pool_of : Inside T → Pool T
  pool_of inside = record {
    entries = entries_of inside.slots inside.order.items;
    free = inside.made - slab_len inside.slots;
    most = inside.most;
    next = inside.next;
  }

  -- the keys rise, each value has one, there is room for as many as slots are made, and at most half of the keys are of values that went
  pub record IsKept (inside : Inside T) : Type 0 where
    pub rising : IsRising inside.order.items inside.next
    pub listed : IsListed inside.slots inside.order.items
    pub counted : length (entries_of inside.slots inside.order.items) ≡ slab_len inside.slots
    pub within : slab_len inside.slots ≤ inside.made
    pub few : inside.made ≤ inside.most
    pub room : inside.made ≤ inside.slots.capacity
    pub keys : length inside.order.items ≤ 2 * slab_len inside.slots
    pub key_room : 2 * inside.made ≤ vec_capacity inside.order
    pub next_fits : inside.next < 2 ^ 64
    pub most_fits : inside.most < 2 ^ 32
