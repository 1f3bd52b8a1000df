-- Declarations in parts.
use Rattle.std.proofs.Common.{◌≡◌, ◌+◌, ◌*◌, ◌-◌, ◌^◌, min, nat_lt, Bool, true, List, refl, sym}
use Rattle.std.proofs.Common.{ap}
use Rattle.std.proofs.Common.{ℤ, Option, Some, None, Result, Ok, Err}
use Rattle.vb_value.specs.declared.fault.VbError.{VbError}
use Rattle.vb_value.specs.declared.limit.LimitKind.TheVariants.{Data}
use Rattle.vb_value.specs.declared.value.Value.{Value}
use Rattle.vb_value.specs.declared.value.Value.TheViews.{Arr}
use Rattle.vb_value.specs.Sound.{item_count}
use Rattle.vb_syntax.specs.declared.program.unit.Constant.{Constant}
use Rattle.vb_heap.specs.Limits.{most_weight}
use Rattle.vb_heap.specs.PageWeight.{weight_of_page}
use Rattle.vb_meaning.specs.declared.constant_fault.ConstantFault.{ConstantFault}
use Rattle.vb_meaning.specs.declared.stop.Stop.TheVariants as stop
use Rattle.vb_meaning.specs.World.{World}
use Rattle.vb_meaning.specs.Declaring.{fault_or}
use Rattle.vb_meaning.specs.Places.{new_cell}
use Rattle.vb_meaning.specs.State.{store_answer, with_store}
use Rattle.vb_meaning.specs.Step.{Ends}
use Rattle.vb_meaning.specs.Values.{empty_array}
use Rattle.vb_heap.specs.Cells.{with_new_cell}
use Rattle.vb_world.proofs.EmptyArrays.{no_room}

-- a constant that stands for a value leaves the fault of a later one
pub no_fault : (constant : Constant) (answer : Result Value VbError) (later : Option ConstantFault)
    → None ≡ fault_or constant answer None → fault_or constant answer later ≡ later
no_fault constant (Ok value) later none = refl
no_fault constant (Err error) later none = absurd (cc)

-- the fault of a constant comes before that of a later one
pub first_fault_stays : (constant : Constant) (answer : Result Value VbError) (later : Option ConstantFault)
    (fault : ConstantFault) → Some fault ≡ fault_or constant answer None → fault_or constant answer later ≡ Some fault
first_fault_stays constant (Ok value) later fault some = absurd (cc)
first_fault_stays constant (Err error) later fault some = sym some

-- a cell with an array that weighs too much is refused
pub refused_cell : (fixed : Bool) (bounds : List ℤ) (world : World)
    → nat_lt most_weight (weight_of_page world.store + (32 + 32 * min (item_count bounds) (2 ^ 64 - 1))) ≡ true
    → new_cell (Arr (empty_array fixed bounds)) world ≡ Ends (stop.Limit Data None) world
unfolding new_cell
refused_cell fixed bounds world heavy =
    let array = Arr (empty_array fixed bounds) in
    ap (λ answer. store_answer answer (with_store (with_new_cell array) world) world)
    (no_room fixed bounds world.store heavy)
