-- How the code finds the entries of a dictionary: by what their keys say.
use Rattle.std.specs.Prelude.{◌≡◌, ℤ, List, [], ◌∷◌, Some}
use Rattle.indexmap.specs.IndexMap.{values}
use Rattle.vb_value.specs.declared.session.Pair.{Pair}
use Rattle.vb_heap.specs.declared.key.Key.{Key}
use Rattle.vb_heap.specs.declared.table.Table.TheInside.{Inside}
use Rattle.vb_heap.specs.Dictionary.{Dictionary}
use Rattle.vb_heap.specs.Keys.{key_of}
use Rattle.vb_heap.specs.PairWeight.{entries_weight}

-- the dictionary
abbrev pub dictionary_in : Inside → Dictionary
dictionary_in table = record { mode = table.mode; pairs = values table.pairs }

-- each entry stands under what its key says
abbrev pub SayTheirKeys : ℤ → List (Key × Pair) → Type 0
SayTheirKeys mode [] = Unit {0}
SayTheirKeys mode (entry ∷ entries) = (key_of mode entry.1.key ≡ Some entry.0) × SayTheirKeys mode entries

-- each entry stands under what its key says, and the weight of all is told
pub record IsIndexed (table : Inside) : Type 0 where
  pub said : SayTheirKeys table.mode table.pairs.entries
  pub weighed : table.weight ≡ entries_weight (values table.pairs)
