-- A dictionary: its entries in the order of their insertion, and how its keys compare.
use Rattle.std.specs.Prelude.{◌≢◌, ℕ, ℤ, pos, List, [], Option}
use Rattle.std.specs.List.{AllPairs, position}
use Rattle.vb_value.specs.declared.session.Pair.{Pair}
use Rattle.vb_heap.specs.declared.key.Key.{Key}
use Rattle.vb_heap.specs.Keys.{key_of, says}

-- the entries of a dictionary in the order of their insertion, and its CompareMode
pub record Dictionary : Type 0 where
  pub mode : ℤ
  pub pairs : List Pair

-- a dictionary without entries, which tells upper case from lower
abbrev pub no_entries : Dictionary
no_entries = record { mode = pos 0; pairs = [] }

-- where the entry of a key stands
abbrev pub entry_of : Key → Dictionary → Option ℕ
entry_of key dictionary = position (λ pair. says key (key_of dictionary.mode pair.key)) dictionary.pairs

-- no key of a dictionary says what a later one says
abbrev pub KeysDiffer : Dictionary → Type 0
KeysDiffer dictionary =
    AllPairs (λ pair later. key_of dictionary.mode pair.key ≢ key_of dictionary.mode later.key) dictionary.pairs
