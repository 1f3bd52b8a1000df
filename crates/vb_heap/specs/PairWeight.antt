-- What the entries of a dictionary weigh.
use Rattle.std.specs.Prelude.{ℕ, ◌+◌, List, sum_by, Result, Ok, Err}
use Rattle.vb_value.specs.declared.fault.VbError.{VbError}
use Rattle.vb_value.specs.declared.session.Pair.{Pair}
use Rattle.vb_value.specs.Weight.{weight_of}

-- an entry weighs what its key and its item weigh
abbrev pub pair_weight : Pair → ℕ
pair_weight pair = weight_of pair.key + weight_of pair.item

-- the weight of the entries of a dictionary
abbrev pub entries_weight : List Pair → ℕ
entries_weight pairs = sum_by pair_weight pairs

-- what the item of an entry weighs, nothing where there is no entry
abbrev pub item_weight : Result Pair VbError → ℕ
item_weight (Ok pair) = weight_of pair.item
item_weight (Err error) = 0
