-- What a contract sees of the counts of references.
use Rattle.std.specs.Prelude.{◌≡◌, ℕ, ◌==◌, ◌&&◌, not, true, Bool, if◌then◌else◌, List, ◌∷◌, Option, Some, None}
use Rattle.vb_heap.specs.Pooled.{most_there}
use Rattle.vb_heap.specs.Store.{replaced}

-- the counts of references by the objects' numbers
pub record Tally : Type 0 where
  -- how many references there are to each object
  pub entries : List (ℕ × ℕ)
  -- whether the terminator of each has begun
  pub ends : List (ℕ × Bool)
  -- for how many counts more there is room
  pub free : ℕ
  -- how many counts may be there at once
  pub most : ℕ
  -- the number of the next count
  pub next : ℕ

-- counts with the same next number, of which as many may be there
abbrev pub IsTallied : Tally → Tally → Type 0
IsTallied old new = (new.next ≡ old.next) × (new.most ≡ old.most)

-- the next number is that of how many were made
pub record IsTallyOf (made : ℕ) (tally : Tally) : Type 0 where
  pub next : tally.next ≡ made
  pub most : tally.most ≡ most_there

-- the first number without references whose object isn't ending
abbrev pub oldest_waiting : List (ℕ × ℕ) → List (ℕ × Bool) → Option ℕ
oldest_waiting (count ∷ counts) (end ∷ ends) =
    if not end.1 && (count.1 == 0) then Some count.0 else oldest_waiting counts ends
oldest_waiting _ _ = None

-- the object that is named, if one is, is ending
abbrev pub with_end : Option ℕ → List (ℕ × Bool) → List (ℕ × Bool)
with_end (Some number) ends = replaced number true ends
with_end None ends = ends
