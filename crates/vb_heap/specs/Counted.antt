-- Counts of references, kept beside the objects. References come and go as lists of the objects' numbers.
use Rattle.std.specs.Prelude.{ℕ, ◌+◌, ◌-◌, ◌^◌, ◌<◌, ◌≤◌, ◌≡◌, nat_le, Bool, List, [], ◌∷◌, ◌++◌}
use Rattle.std.specs.Prelude.{map, count_by, Some, Result, Ok, Err}
use Rattle.std.specs.List.{flat_map}
use Rattle.std.specs.Option.{option_map_or}
use Rattle.vb_value.specs.declared.fault.VbError.{VbError}
use Rattle.vb_value.specs.declared.session.Pair.{Pair}
use Rattle.vb_value.specs.declared.value.Value.{Value}
use Rattle.vb_heap.specs.declared.object.Content.{Content}
use Rattle.vb_heap.specs.declared.object.Content.TheVariants.{Entries, Fields}
use Rattle.vb_heap.specs.declared.place.CellNo.{CellNo}
use Rattle.vb_heap.specs.Counts.{count_of}
use Rattle.vb_heap.specs.Dictionary.{Dictionary}
use Rattle.vb_heap.specs.References.{all_references, references, references_to}
use Rattle.vb_heap.specs.Store.{Store, numbered, without}

-- things by their numbers, of each of which one part is seen
abbrev pub parts_of : {S T : Type 0} → (S → T) → List (ℕ × S) → List (ℕ × T)
parts_of part things = map (λ thing. (thing.0, part thing.1)) things

-- counts by the objects' numbers, after these references came
abbrev pub counts_more : List ℕ → List (ℕ × ℕ) → List (ℕ × ℕ)
counts_more came counts = map (λ count. (count.0, count.1 + count_of count.0 came)) counts

-- the same after they went
abbrev pub counts_less : List ℕ → List (ℕ × ℕ) → List (ℕ × ℕ)
counts_less gone counts = map (λ count. (count.0, count.1 - count_of count.0 gone)) counts

-- how many references there are to each object
abbrev pub counts_in : Store → List (ℕ × ℕ)
counts_in store = map (λ thing. (thing.0, references_to thing.0 store)) store.objects

-- how many of some numbers are that one or a greater one
abbrev pub reaching : ℕ → List ℕ → ℕ
reaching top numbers = count_by (λ number. nat_le top number) numbers

-- the counts are those of the data, and all references are to numbers below that one
pub record AreRight (counts : List (ℕ × ℕ)) (top : ℕ) (store : Store) : Type 0 where
  pub each : counts ≡ counts_in store
  pub below : reaching top (all_references store) ≡ 0

-- no count reaches 2^32 when these references come
pub record HaveRoom (came : List ℕ) (counts : List (ℕ × ℕ)) : Type 0 where
  pub each : (number count : ℕ) → numbered number counts ≡ Some count → count + count_of number came < 2 ^ 32

-- each of these references is counted
pub record AreCounted (gone : List ℕ) (counts : List (ℕ × ℕ)) : Type 0 where
  pub each : (number count : ℕ) → numbered number counts ≡ Some count → count_of number gone ≤ count

-- the references in the items of a dictionary
abbrev pub item_references : Dictionary → List ℕ
item_references dictionary = flat_map (λ pair. references pair.item) dictionary.pairs

-- the references in the item of an entry, none where there is no entry
abbrev pub item_there : Result Pair VbError → List ℕ
item_there (Ok pair) = references pair.item
item_there (Err error) = []

-- the same of all items of a dictionary, none where there is no dictionary
abbrev pub items_there : Result Dictionary VbError → List ℕ
items_there (Ok dictionary) = item_references dictionary
items_there (Err error) = []

-- the references in the values of some cells, each of which goes once it was seen
abbrev pub field_references : List CellNo → List (ℕ × Value) → List ℕ
field_references [] cells = []
field_references (first ∷ others) cells =
    option_map_or references (numbered first.0 cells) [] ++ field_references others (without first.0 cells)

-- the references that go with what an object consists of, when it ends: those of its fields or of its items
abbrev pub content_gone : Content → List (ℕ × Value) → List ℕ
content_gone (Fields class fields) cells = field_references fields cells
content_gone (Entries dictionary) cells = item_references dictionary

-- All references after a change are those before it, less what went and with what came, whichever of them are asked
-- for.
abbrev pub ReferencesMove : List ℕ → List ℕ → Store → Store → Type 0
ReferencesMove gone came old new = (test : ℕ → Bool)
    → count_by test (all_references new) + count_by test gone
    ≡ count_by test (all_references old) + count_by test came
