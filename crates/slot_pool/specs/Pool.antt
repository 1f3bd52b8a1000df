-- What a contract sees of a pool.
use Rattle.std.specs.Prelude.{◌≡◌, ℕ, ◌+◌, ◌-◌, ◌^◌, ◌≤◌, ◌==◌, ◌||◌, true, false, Bool, List, [], ◌∷◌, ◌++◌, length}
use Rattle.std.specs.Prelude.{min, max, Option, is_some, if◌then◌else◌, refl}
use Rattle.std.specs.Coded.{Coded, code_by, coded×, coded_ℕ, coded_list}
use Rattle.std.specs.Map.{lookup, remove_entry, set_value}
use Rattle.std.specs.Option.{option_map}
use Rattle.std.specs.Ordering.{is_eq, nat_cmp}
use Rattle.slot_pool.specs.declared.key.PoolStop.{PoolStop}
use Rattle.slot_pool.specs.declared.key.PoolStop.TheVariants.{Full, Memory}
use Rattle.slot_pool.specs.declared.key.SlotKey.{SlotKey}

-- a pool
pub record Pool (T : Type 0) : Type 0 where
  -- each value that is there, by its number, in the order of the putting
  pub entries : List (ℕ × T)
  -- how many slots are made and hold nothing
  pub free : ℕ
  -- how many values may be there at once
  pub most : ℕ
  -- the number of the next value
  pub next : ℕ

-- a pool is stored as the tuple of its fields
abbrev pub pool_code : {T : Type 0} → Coded T → Coded (Pool T)
pool_code {T} code =
    code_by
    (List (ℕ × T) × (ℕ × (ℕ × ℕ)))
    (coded× (coded_list (coded× coded_ℕ code)) (coded× coded_ℕ (coded× coded_ℕ coded_ℕ)))
    (λ p. (p.entries, (p.free, (p.most, p.next))))
    (λ t. record { entries = t.0; free = t.1.0; most = t.1.1.0; next = t.1.1.1 })
    (λ _. refl)

-- how many numbers there are between two times at which a pool is emptied
abbrev pub numbers : ℕ
numbers = 2 ^ 64 - 1

module _ {T : Type 0} where
  -- the value with a number, among values by their numbers
  abbrev pub found_in : ℕ → List (ℕ × T) → Option T
  found_in number entries = lookup (λ other. is_eq (nat_cmp number other)) entries

  -- the value with a number
  abbrev pub numbered : ℕ → Pool T → Option T
  numbered number p = found_in number p.entries

  -- a pool that has as many slots and holds nothing
  abbrev pub made : ℕ → ℕ → Pool T
  made slots most = record { entries = []; free = slots; most = most; next = 0 }

  -- the entry to which a key leads
  abbrev pub led_to : Pool T → SlotKey → Option (ℕ × T)
  led_to p key = option_map (λ value. (key.number, value)) (numbered key.number p)

  -- the numbers of entries rise, from one number to below another
  abbrev pub NumbersRise : ℕ → List (ℕ × T) → ℕ → Type 0
  NumbersRise low [] high = low ≤ high
  NumbersRise low (entry ∷ entries) high = (low ≤ entry.0) × NumbersRise (entry.0 + 1) entries high

  -- no further value may be there, or there is no number for one
  abbrev pub is_full : Pool T → Bool
  is_full p = (length p.entries == p.most) || (p.next == numbers)

  -- how many values can be put with no memory
  abbrev pub spare : Pool T → ℕ
  spare p = min p.free (numbers - p.next)

  -- a pool with one more value
  abbrev pub with_put : T → Pool T → Pool T
  with_put value p = record {
    entries = p.entries ++ (p.next, value) ∷ [];
    free = p.free - 1;
    most = p.most;
    next = p.next + 1;
  }

  -- a pool with slots for so many more values, or for as many as it had if these are more
  abbrev pub with_room : ℕ → Pool T → Pool T
  with_room count p = record p { free = max p.free count }

  -- a pool with another value under a number that is there
  abbrev pub with_value : ℕ → Pool T → T → Pool T
  with_value number p value = record p { entries = set_value (λ other. is_eq (nat_cmp number other)) p.entries value }

  -- a pool without the value that has a number, if there is one
  abbrev pub without : ℕ → Pool T → Pool T
  without number p = record p {
    entries = remove_entry (λ other. is_eq (nat_cmp number other)) p.entries;
    free = if is_some (numbered number p) then p.free + 1 else p.free;
  }

  -- a pool that is emptied: its slots stay, and the numbers begin anew
  abbrev pub emptied : Pool T → Pool T
  emptied p = made (p.free + length p.entries) p.most

  -- that a pool takes no further value has this cause
  abbrev pub Stops : PoolStop → Pool T → Type 0
  Stops Full p = is_full p ≡ true
  Stops Memory p = (is_full p ≡ false) × (spare p ≡ 0)
