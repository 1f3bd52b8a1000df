-- The weight of a value, by which a page, a session and the application are bounded. It is our own.
use Rattle.std.specs.Prelude.{ℕ, ◌+◌, ◌*◌, length, sum}
use Rattle.vb_value.specs.declared.value.Value.{Value}
use Rattle.vb_value.specs.declared.value.Value.TheOpen.{Value-F, Array-F}
use Rattle.vb_value.specs.declared.value.Value.TheFolds.{fold-Value}

-- one value, with the weight of an array in its place: a text weighs 32 and 4 for each character
abbrev pub value_weight : Value-F ℕ ℕ → ℕ
value_weight (Value-F.Str text) = 32 + 4 * length text
value_weight (Value-F.Arr weight) = weight
value_weight _ = 32

-- one array, with the weight of each item in its place: 32 and its items
abbrev pub array_weight : Array-F ℕ ℕ → ℕ
array_weight array = 32 + sum array.items

-- the weight of a value
abbrev pub weight_of : Value → ℕ
weight_of = fold-Value ℕ ℕ value_weight array_weight
