-- What is read of the data of a page after something was stored.
use Rattle.std.proofs.Common.{◌≡◌, Option, Some, None, Ok, refl, sym, inl, inr}
use Rattle.std.specs.Option.{option_map_or}
use Rattle.vb_value.specs.declared.value.Value.{Value}
use Rattle.vb_value.specs.Errors.{and_then}
use Rattle.vb_heap.specs.declared.place.Place.{Place}
use Rattle.vb_heap.specs.Cells.{value_there}
use Rattle.vb_heap.specs.Places.{value_in, with_value}
use Rattle.vb_heap.specs.Store.{Store, numbered, replaced}
use Rattle.heap_laws.specs.Laws.{AreApart, OthersStay, StoredIsRead}
use Rattle.heap_laws.proofs.Cells.{elsewhere, there}
use Rattle.heap_laws.proofs.Reading.{read_elsewhere, read_there}

in_cell : (place : Place) (new old : Value) (store : Store) (found : Option Value)
    → numbered place.cell.0 store.cells ≡ found → and_then (value_there found) (value_in place.steps) ≡ Ok old
    → and_then (value_there (numbered place.cell.0
    (option_map_or (λ value. replaced place.cell.0 (with_value place.steps new value) store.cells) found store.cells)))
    (value_in place.steps) ≡ Ok new
in_cell place new old store (Some value) here is =
    rw (there store.cells place.cell.0 (with_value place.steps new value) value here)
    (read_there place.steps new value old is)
in_cell place new old store None here is = absurd (cc)

-- what is stored is read
pub stored : StoredIsRead
stored place new old store is = in_cell place new old store (numbered place.cell.0 store.cells) refl is

other_cell : (place other : Place) (new : Value) (store : Store) (found : Option Value)
    → numbered place.cell.0 store.cells ≡ found → AreApart place other
    → and_then (value_there (numbered other.cell.0
    (option_map_or (λ value. replaced place.cell.0 (with_value place.steps new value) store.cells) found store.cells)))
    (value_in other.steps)
    ≡ and_then (value_there (numbered other.cell.0 store.cells)) (value_in other.steps)
other_cell place other new store (Some value) here (inl differ) =
    rw (elsewhere store.cells place.cell.0 other.cell.0 (with_value place.steps new value) differ) refl
other_cell place other new store (Some value) here (inr apart) =
    rw (sym apart.0, there store.cells place.cell.0 (with_value place.steps new value) value here, here)
    (read_elsewhere place.steps other.steps new value apart.1)
other_cell place other new store None here apart = refl

-- what is read elsewhere stays
pub others : OthersStay
others place other new store apart = other_cell place other new store (numbered place.cell.0 store.cells) refl apart
