-- How the code keeps the counts: the numbers of objects that may have no reference stand in a heap, each once.
use Rattle.std.specs.Prelude.{◌≡◌, ℕ, ◌+◌, ◌-◌, ◌^◌, ◌<◌, ◌≤◌, ◌==◌, ◌&&◌, not, true, false, Bool, if◌then◌else◌, min}
use Rattle.std.specs.Prelude.{List, [], ◌∷◌, Contains}
use Rattle.std.specs.BinaryHeap.{IsHeap, heap_capacity, heap_items, heap_len}
use Rattle.std.specs.Option.{option_map_or}
use Rattle.std.specs.Ordering.{nat_cmp}
use Rattle.vb_heap.specs.declared.counts.Count.{Count}
use Rattle.vb_heap.specs.declared.counts.Counts.TheInside.{Inside}
use Rattle.vb_heap.specs.Counted.{parts_of}
use Rattle.vb_heap.specs.Store.{numbered, replaced}
use Rattle.vb_heap.specs.Tally.{Tally}

-- a number as it stands in the heap, where the greatest comes first
abbrev pub turned : ℕ → ℕ
turned number = 2 ^ 32 - 1 - number

-- how many references each count tells
abbrev pub counts_of : List (ℕ × Count) → List (ℕ × ℕ)
counts_of entries = parts_of (λ count. count.count) entries

-- which objects are ending
abbrev pub ends_of : List (ℕ × Count) → List (ℕ × Bool)
ends_of entries = parts_of (λ count. count.ends) entries

-- a number stands in the heap where its count says so, and it does where the object is live without references
pub record Stands (loose : List ℕ) (number : ℕ) (count : Count) : Type 0 where
  pub fits : number < 2 ^ 32
  pub waits : count.count ≡ 0 → count.ends ≡ false → count.waits ≡ true
  pub there : count.waits ≡ true → Contains loose (turned number)

-- each number does
abbrev pub EachStands : List ℕ → List (ℕ × Count) → Type 0
EachStands loose [] = Unit {0}
EachStands loose (first ∷ others) = Stands loose first.0 first.1 × EachStands loose others

-- 1 for a number that doesn't stand in the heap
abbrev pub if_apart : Count → ℕ
if_apart count = if count.waits then 0 else 1

-- how many don't stand in the heap
abbrev pub apart : List (ℕ × Count) → ℕ
apart [] = 0
apart (first ∷ others) = if_apart first.1 + apart others

-- the numbers stand in the order of a heap, and each that must stand there does
pub record StandRight (loose : List ℕ) (entries : List (ℕ × Count)) : Type 0 where
  pub ordered : IsHeap nat_cmp loose
  pub each : EachStands loose entries

-- counts of which the one with a number is changed, if it is there
abbrev pub changed : ℕ → (Count → Count) → List (ℕ × Count) → List (ℕ × Count)
changed number change entries =
    option_map_or (λ count. replaced number (change count) entries) (numbered number entries) entries

-- one reference more, 2^32 - 1 at most
abbrev pub raised : Count → Count
raised count = record count { count = min (count.count + 1) (2 ^ 32 - 1) }

-- one reference less: the number stands in the heap from then on, if none is left
abbrev pub lowered : Count → Count
lowered count = record count {
  count = count.count - 1;
  waits = if count.count - 1 == 0 then true else count.waits;
}

-- whether the number has to be put into the heap then
abbrev pub falls : Count → Bool
falls count = (count.count - 1 == 0) && not count.waits

-- the terminator begins
abbrev pub ended : Count → Count
ended count = record count { ends = true }

-- whether an object is live and has no references
abbrev pub is_free : Count → Bool
is_free count = not count.ends && (count.count == 0)

-- the number is taken out of the heap: the terminator begins if there are no references
abbrev pub settled : Count → Count
settled count = record count { waits = false; ends = if count.count == 0 then true else count.ends }

-- what contracts see
abbrev pub tally_of : Inside → Tally
tally_of inside = record {
  entries = counts_of inside.pool.entries;
  ends = ends_of inside.pool.entries;
  free = min inside.pool.free (heap_capacity inside.loose - (heap_len inside.loose + apart inside.pool.entries));
  most = inside.pool.most;
  next = inside.pool.next;
}

-- the numbers stand right, and there is room in the heap for those that don't stand there
pub record AreKept (inside : Inside) : Type 0 where
  pub stand : StandRight (heap_items inside.loose) inside.pool.entries
  pub room : heap_len inside.loose + apart inside.pool.entries ≤ heap_capacity inside.loose
