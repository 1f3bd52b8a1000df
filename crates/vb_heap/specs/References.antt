-- References to objects. They are found by looking everywhere: in each cell and each item of a dictionary with
-- the items of its arrays at any depth, and among the held ones. The fields of an object are cells.
use Rattle.std.specs.Prelude.{ℕ, ◌≡◌, List, [], ◌∷◌, ◌++◌, Some}
use Rattle.std.specs.List.{concat, flat_map}
use Rattle.std.specs.Map.{values_of}
use Rattle.vb_value.specs.declared.value.Value.{Value}
use Rattle.vb_value.specs.declared.value.Value.TheOpen.{Value-F, Array-F}
use Rattle.vb_value.specs.declared.value.Value.TheFolds.{fold-Value}
use Rattle.vb_heap.specs.declared.object.Content.{Content}
use Rattle.vb_heap.specs.declared.object.Content.TheVariants.{Fields, Entries}
use Rattle.vb_heap.specs.declared.object.Object.{Object}
use Rattle.vb_heap.specs.Counts.{count_of}
use Rattle.vb_heap.specs.Store.{Store, numbered}

-- one value, with the references of an array in its place
abbrev pub value_references : Value-F (List ℕ) (List ℕ) → List ℕ
value_references (Value-F.Obj object) = object.0 ∷ []
value_references (Value-F.Arr inside) = inside
value_references _ = []

-- one array, with the references of each item in its place
abbrev pub array_references : Array-F (List ℕ) (List ℕ) → List ℕ
array_references array = concat array.items

-- each occurrence of an object in a value, at any depth, by the object's number
abbrev pub references : Value → List ℕ
references = fold-Value (List ℕ) (List ℕ) value_references array_references

-- the references of what an object consists of but its fields, which are cells
abbrev pub content_references : Content → List ℕ
content_references (Fields class cells) = []
content_references (Entries dictionary) = flat_map (λ pair. references pair.item) dictionary.pairs

-- the same of an object
abbrev pub object_references : Object → List ℕ
object_references object = content_references object.content

-- all references that there are
abbrev pub all_references : Store → List ℕ
all_references store =
    flat_map references (values_of store.cells) ++ flat_map object_references (values_of store.objects)
    ++ store.held

-- how many references there are to an object
abbrev pub references_to : ℕ → Store → ℕ
references_to object store = count_of object (all_references store)

-- no cell refers to an object
pub record RefersNowhere (store : Store) : Type 0 where
  pub each : (cell : ℕ) (value : Value) → numbered cell store.cells ≡ Some value → references value ≡ []
