-- What is read after something was stored.
use Rattle.std.proofs.Common.{ℕ, ◌≡◌, ◌≢◌, ℤ, List, [], ◌∷◌, slice_get, slice_set, Option, Some, None, Ok}
use Rattle.std.proofs.Common.{refl, sym, ap, ◌∙◌, inl, inr}
use Rattle.vb_value.specs.declared.value.Array.{Array}
use Rattle.vb_value.specs.declared.value.Value.{Value, out-Value, out-roll-Value}
use Rattle.vb_value.specs.declared.value.Value.TheOpen.{Value-F}
use Rattle.vb_value.specs.declared.value.Value.TheViews.{Arr, rolls-Arr}
use Rattle.vb_value.specs.Errors.{and_then}
use Rattle.vb_heap.specs.Places.{value_in, with_value, item_of, item_changed, item_at, in_range, position}
use Rattle.vb_heap.specs.Places.{array_changed, items_changed}
use Rattle.heap_laws.specs.Laws.{Part}
use Rattle.heap_laws.proofs.Indices.{one_item, set_elsewhere, set_there}

out_arr : (array : Array) → out-Value (Arr array) ≡ Value-F.Arr array
out_arr array = ap out-Value (sym (rolls-Arr array)) ∙ out-roll-Value (Value-F.Arr array)

-- what is read at a place after another value was put there
Reads : List (List ℤ) → Value → Type 0
Reads steps new = (value old : Value) → value_in steps value ≡ Ok old
    → value_in steps (with_value steps new value) ≡ Ok new

same_item : (steps : List (List ℤ)) (indices : List ℤ) (new old : Value) → Reads steps new → (array : Array) (at : ℕ)
    → position array.bounds indices ≡ Some at → (found : Option Value) → slice_get array.items at ≡ found
    → and_then (in_range found) (value_in steps) ≡ Ok old
    → and_then (item_of indices (out-Value
    (Arr (record array { items = items_changed (with_value steps new) array.items at found })))) (value_in steps)
    ≡ Ok new
unfolding Reads
same_item steps indices new old reads array at here (Some item) there is =
    rw (out_arr, here, set_there array.items at item (with_value steps new item) there) (reads item old is)
same_item steps indices new old reads array at here None there is = absurd (cc)

same_array : (steps : List (List ℤ)) (indices : List ℤ) (new old : Value) → Reads steps new → (array : Array)
    (place : Option ℕ) → position array.bounds indices ≡ place
    → and_then (in_range (item_at array.items place)) (value_in steps) ≡ Ok old
    → and_then (item_of indices (out-Value (Arr (array_changed (with_value steps new) array place)))) (value_in steps)
    ≡ Ok new
same_array steps indices new old reads array (Some at) here is =
    same_item steps indices new old reads array at here (slice_get array.items at) refl is
same_array steps indices new old reads array None here is = absurd (cc)

same_part : (steps : List (List ℤ)) (indices : List ℤ) (new value old : Value) → Reads steps new
    → (part : Value-F Value Array) → and_then (item_of indices part) (value_in steps) ≡ Ok old
    → and_then (item_of indices (out-Value (item_changed (with_value steps new) indices value part))) (value_in steps)
    ≡ Ok new
same_part steps indices new value old reads (Value-F.Arr array) is =
    same_array steps indices new old reads array (position array.bounds indices) refl is
same_part steps indices new value old reads _ is = absurd (cc)

reads : (steps : List (List ℤ)) (new : Value) → Reads steps new
unfolding Reads
reads [] new value old is = refl
reads (indices ∷ steps) new value old is =
    same_part steps indices new value old (reads steps new) (out-Value value) is

-- what is read at a place after another value was put there
pub read_there : (steps : List (List ℤ)) (new value old : Value) → value_in steps value ≡ Ok old
    → value_in steps (with_value steps new value) ≡ Ok new
unfolding Reads
read_there steps new value old is = reads steps new value old is

-- what is read elsewhere after another value was put at a place
Stays : List (List ℤ) → List (List ℤ) → Value → Type 0
Stays steps more new = (value : Value) → Part steps more
    → value_in more (with_value steps new value) ≡ value_in more value

other_item : (more : List (List ℤ)) (items : List Value) (at : ℕ) (new : Value) (named : Option ℕ) → named ≢ Some at
    → and_then (in_range (item_at (slice_set items at new) named)) (value_in more)
    ≡ and_then (in_range (item_at items named)) (value_in more)
other_item more items at new (Some other) apart =
    rw (set_elsewhere items at other new (λ same. apart (ap Some (sym same)))) refl
other_item more items at new None apart = refl

apart_item : (steps more : List (List ℤ)) (indices other : List ℤ) (new : Value) → Stays steps more new
    → (array : Array) (at : ℕ) → position array.bounds indices ≡ Some at → (found : Option Value)
    → slice_get array.items at ≡ found → Part (indices ∷ steps) (other ∷ more)
    → and_then (item_of other (out-Value
    (Arr (record array { items = items_changed (with_value steps new) array.items at found })))) (value_in more)
    ≡ and_then (item_of other (Value-F.Arr array)) (value_in more)
unfolding Stays
apart_item steps more indices other new stays array at here None there apart = rw (out_arr array) refl
apart_item steps more indices other new stays array at here (Some item) there (inl differ) =
    rw (out_arr (record array { items = slice_set array.items at (with_value steps new item) }))
    (other_item more array.items at (with_value steps new item) (position array.bounds other)
    (λ same. differ (one_item array.bounds indices other at here same)))
apart_item steps more indices other new stays array at here (Some item) there (inr part) =
    let named : position array.bounds other ≡ Some at = ap (position array.bounds) (sym part.0) ∙ here in
    rw (
      out_arr (record array { items = slice_set array.items at (with_value steps new item) }),
      named,
      set_there array.items at item (with_value steps new item) there,
      there,
    ) (stays item part.1)

apart_array : (steps more : List (List ℤ)) (indices other : List ℤ) (new : Value) → Stays steps more new
    → (array : Array) (place : Option ℕ) → position array.bounds indices ≡ place
    → Part (indices ∷ steps) (other ∷ more)
    → and_then (item_of other (out-Value (Arr (array_changed (with_value steps new) array place)))) (value_in more)
    ≡ and_then (item_of other (Value-F.Arr array)) (value_in more)
apart_array steps more indices other new stays array (Some at) here apart =
    apart_item steps more indices other new stays array at here (slice_get array.items at) refl apart
apart_array steps more indices other new stays array None here apart = rw (out_arr array) refl

apart_part : (steps more : List (List ℤ)) (indices other : List ℤ) (new value : Value) → Stays steps more new
    → (part : Value-F Value Array) → out-Value value ≡ part → Part (indices ∷ steps) (other ∷ more)
    → and_then (item_of other (out-Value (item_changed (with_value steps new) indices value part))) (value_in more)
    ≡ and_then (item_of other part) (value_in more)
apart_part steps more indices other new value stays (Value-F.Arr array) is apart =
    apart_array steps more indices other new stays array (position array.bounds indices) refl apart
apart_part steps more indices other new value stays _ is apart = rw is refl

-- what is read elsewhere after another value was put at a place
stays_all : (steps more : List (List ℤ)) (new : Value) → Stays steps more new
unfolding Stays
stays_all [] more new value apart = absurd apart
stays_all (indices ∷ steps) [] new value apart = absurd apart
stays_all (indices ∷ steps) (other ∷ more) new value apart =
    apart_part steps more indices other new value (stays_all steps more new) (out-Value value) refl apart

-- the same
pub read_elsewhere : (steps more : List (List ℤ)) (new value : Value) → Part steps more
    → value_in more (with_value steps new value) ≡ value_in more value
unfolding Stays
read_elsewhere steps more new value apart = stays_all steps more new value apart
