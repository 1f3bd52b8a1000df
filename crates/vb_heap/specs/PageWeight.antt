-- What the data of a page weigh.
use Rattle.std.specs.Prelude.{ℕ, ◌+◌, sum_by, Option}
use Rattle.std.specs.Option.{option_map_or}
use Rattle.std.specs.Map.{values_of}
use Rattle.vb_value.specs.Weight.{weight_of}
use Rattle.vb_heap.specs.declared.object.Content.{Content}
use Rattle.vb_heap.specs.declared.object.Content.TheVariants.{Fields, Entries}
use Rattle.vb_heap.specs.declared.object.Object.{Object}
use Rattle.vb_heap.specs.PairWeight.{entries_weight}
use Rattle.vb_heap.specs.Store.{Store}

-- the weight of what an object consists of but its fields
abbrev pub content_weight : Content → ℕ
content_weight (Fields class cells) = 0
content_weight (Entries dictionary) = entries_weight dictionary.pairs

-- an object weighs 32 until it has ended, and its entries; its fields are cells
abbrev pub object_weight : Object → ℕ
object_weight object = 32 + content_weight object.content

-- what an object weighs, nothing where there is none
abbrev pub found_weight : Option Object → ℕ
found_weight found = option_map_or object_weight found 0

-- the weight of all cells, objects and entries: a cell weighs what its value weighs
abbrev pub weight_of_page : Store → ℕ
weight_of_page store =
    sum_by weight_of (values_of store.cells) + sum_by object_weight (values_of store.objects)
