-- The data of a page.
use Rattle.std.specs.Prelude.{ℕ, Bool, List, [], Option}
use Rattle.std.specs.Ordering.{is_eq, nat_cmp}
use Rattle.std.specs.Map.{lookup, remove_entry, set_value}
use Rattle.vb_value.specs.declared.value.Value.{Value}
use Rattle.vb_heap.specs.declared.object.Object.{Object}

-- What a page has. Cells and objects are numbered from 0, each kind by itself, in the order in which they are
-- made, and stand in that order. An object that was made and is not here any more has ended.
pub record Store : Type 0 where
  -- each cell that there is, by its number
  pub cells : List (ℕ × Value)
  -- each object that has not ended, by its number
  pub objects : List (ℕ × Object)
  -- the references in the values that expressions hold, by the objects' numbers, in the order of their holding
  pub held : List ℕ
  -- how many cells were made
  pub cells_made : ℕ
  -- how many objects were made
  pub objects_made : ℕ

-- the data with which a page begins
abbrev pub no_data : Store
no_data = record { cells = []; objects = []; held = []; cells_made = 0; objects_made = 0 }

-- whether a number is that one
abbrev pub is_number : ℕ → ℕ → Bool
is_number number other = is_eq (nat_cmp number other)

-- what has a number, among things by their numbers
abbrev pub numbered : {T : Type 0} → ℕ → List (ℕ × T) → Option T
numbered number things = lookup (is_number number) things

-- things by their numbers without that one
abbrev pub without : {T : Type 0} → ℕ → List (ℕ × T) → List (ℕ × T)
without number things = remove_entry (is_number number) things

-- things by their numbers with another one in the place of that one
abbrev pub replaced : {T : Type 0} → ℕ → T → List (ℕ × T) → List (ℕ × T)
replaced number thing things = set_value (is_number number) things thing
