-- Laws of the data of a page.
use Rattle.std.specs.Prelude.{ℕ, ◌+◌, ◌≡◌, ◌≢◌, ◌⊎◌, ℤ, List, [], ◌∷◌, sum_by, Ok}
use Rattle.std.specs.Map.{values_of}
use Rattle.vb_value.specs.declared.value.Value.{Value}
use Rattle.vb_heap.specs.declared.place.Place.{Place}
use Rattle.vb_heap.specs.Cells.{read_of, with_stored}
use Rattle.vb_heap.specs.Counts.{count_of}
use Rattle.vb_heap.specs.References.{object_references, references, references_to}
use Rattle.vb_heap.specs.Store.{Store}

-- what is stored at a place that there is, is read there
abbrev pub StoredIsRead : Type 0
StoredIsRead = (place : Place) (new old : Value) (store : Store) → read_of place store ≡ Ok old
    → read_of place (with_stored place new store) ≡ Ok new

-- the indices of two places in one cell differ before either place is reached
abbrev pub Part : List (List ℤ) → List (List ℤ) → Type 0
Part (indices ∷ steps) (others ∷ more) = (indices ≢ others) ⊎ ((indices ≡ others) × Part steps more)
Part [] more = ⊥
Part (indices ∷ steps) [] = ⊥

-- two places do not overlap: they lie in two cells, or their indices differ
abbrev pub AreApart : Place → Place → Type 0
AreApart place other =
    (place.cell.0 ≢ other.cell.0) ⊎ ((place.cell.0 ≡ other.cell.0) × Part place.steps other.steps)

-- what is stored at a place changes nothing that is read at another one apart from it
abbrev pub OthersStay : Type 0
OthersStay = (place other : Place) (new : Value) (store : Store) → AreApart place other
    → read_of other (with_stored place new store) ≡ read_of other store

-- the references to an object are those in each cell, in each dictionary, and held
abbrev pub ReferencesAddUp : Type 0
ReferencesAddUp = (object : ℕ) (store : Store) → references_to object store
    ≡ sum_by (λ value. count_of object (references value)) (values_of store.cells)
    + sum_by (λ thing. count_of object (object_references thing)) (values_of store.objects)
    + count_of object store.held
