-- The weight of objects.
use Rattle.std.proofs.Common.{◌≡◌, ℕ, ◌+◌, ◌≤◌, ◌-◌, ◌^◌, min, List, sum_by, Option, Some, None, sym, refl, arith}
use Rattle.std.proofs.lemmas.Map.Entries.{sum_by-remove_entry, sum_by-set_value}
use Rattle.std.specs.Map.{values_of}
use Rattle.std.specs.Option.{option_map_or}
use Rattle.vb_heap.specs.declared.object.Object.{Object}
use Rattle.vb_heap.specs.PageWeight.{object_weight}
use Rattle.vb_heap.specs.Releases.{ending, objects_ending}
use Rattle.vb_heap.specs.Store.{is_number, numbered, without, replaced}

-- what an object that was there weighed
pub object_there : (objects : List (ℕ × Object)) (number weight : ℕ) (object : Object)
    → Some object ≡ numbered number objects → sum_by object_weight (values_of objects) ≤ 16777216
    → weight ≡ min (object_weight object) (2 ^ 64 - 1)
    → weight + sum_by object_weight (values_of (without number objects)) ≡ sum_by object_weight (values_of objects)
object_there objects number weight object is light weighed =
    let both = sum_by-remove_entry object_weight (is_number number) objects in
    let whole = rw (sym is) at both in
    omega arith

-- where no object was
pub nothing_there : (objects : List (ℕ × Object)) (number : ℕ) → None ≡ numbered number objects
    → sum_by object_weight (values_of (without number objects)) ≡ sum_by object_weight (values_of objects)
nothing_there objects number is =
    let both = sum_by-remove_entry object_weight (is_number number) objects in
    let whole = rw (sym is) at both in
    omega arith

-- an object weighs no more than all
pub object_within : (objects : List (ℕ × Object)) (number : ℕ) (object : Object) → Some object ≡ numbered number objects
    → object_weight object ≤ sum_by object_weight (values_of objects)
object_within objects number object is =
    let both = sum_by-remove_entry object_weight (is_number number) objects in
    let whole = rw (sym is) at both in
    omega arith

-- what all objects weigh with another one in the place of one
pub object_other : (objects : List (ℕ × Object)) (number : ℕ) (object new : Object)
    → Some object ≡ numbered number objects
    → sum_by object_weight (values_of (replaced number new objects)) + object_weight object
    ≡ sum_by object_weight (values_of objects) + object_weight new
object_other objects number object new is =
    sum_by-set_value object_weight (is_number number) objects object new (sym is)

ending_found : (objects : List (ℕ × Object)) (number : ℕ) (found : Option Object) → found ≡ numbered number objects
    → sum_by object_weight
    (values_of (option_map_or (λ object. replaced number (ending object) objects) found objects))
    ≡ sum_by object_weight (values_of objects)
ending_found objects number (Some object) is =
    let other = object_other objects number object (ending object) is in
    let same : object_weight (ending object) ≡ object_weight object = refl in
    omega arith
ending_found objects number None is = refl

-- an object that is ending weighs as before
pub ending_weighs : (objects : List (ℕ × Object)) (number : ℕ)
    → sum_by object_weight (values_of (objects_ending number objects)) ≡ sum_by object_weight (values_of objects)
ending_weighs objects number = ending_found objects number (numbered number objects) refl
