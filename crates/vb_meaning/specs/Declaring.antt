-- Declarations: what they make at the start of their scope (VBScript 5.6 language reference, "Dim Statement", "Const
-- Statement"), each in its place. What goes wrong with one arises there, with the line of the declaration, and of
-- several the one that stands first counts.
use Rattle.std.specs.Prelude.{◌++◌, ℕ, ℤ, nat_lt, if◌then◌else◌, List, [], ◌∷◌, length, Option, Some, None}
use Rattle.std.specs.Prelude.{Result, Ok, Err}
use Rattle.vb_value.specs.declared.fault.VbError.{VbError}
use Rattle.vb_value.specs.declared.value.Value.{Value, Empty}
use Rattle.vb_syntax.specs.declared.program.unit.Constant.{Constant}
use Rattle.vb_syntax.specs.declared.program.unit.Variable.{Variable}
use Rattle.vb_heap.specs.declared.place.CellNo.{CellNo}
use Rattle.vb_meaning.specs.declared.constant_fault.ConstantFault.{ConstantFault}
use Rattle.vb_meaning.specs.World.{World}
use Rattle.vb_meaning.specs.Errors.{in_line}
use Rattle.vb_meaning.specs.Places.{new_cell}
use Rattle.vb_meaning.specs.Step.{Run, ◌>>=◌, ◌>>◌, pure, given, fails}
use Rattle.vb_meaning.specs.Values.{constant_value, declared_array}

-- the fault of a constant, or else another one
abbrev pub fault_or : Constant → Result Value VbError → Option ConstantFault → Option ConstantFault
fault_or constant (Err error) later =
    Some (record { before = constant.before; line = constant.line; error = error })
fault_or constant (Ok value) later = later

-- the first constant that stands for no value
abbrev pub first_fault : List Constant → Option ConstantFault
first_fault [] = None
first_fault (constant ∷ constants) = fault_or constant (constant_value constant.value) (first_fault constants)

-- a fault, in its line
abbrev pub faulty : {A : Type 0} → ℕ → VbError → Run World A
faulty line error world = in_line line (fails error world)

-- the fault of a constant that stands before the variable of this number
abbrev pub fault_before : Option ConstantFault → ℕ → Run World (Unit {0})
fault_before (Some fault) number = if nat_lt number fault.before then pure tt else faulty fault.line fault.error
fault_before None number = pure tt

-- what a declared variable holds at first: Empty, or the array that it is declared as
abbrev pub first_value : Option (List ℤ) → Result Value VbError
first_value (Some bounds) = declared_array bounds
first_value None = Ok Empty

-- a cell for a variable that is declared so
abbrev pub first_cell : Option (List ℤ) → Run World CellNo
first_cell bounds = given (first_value bounds) >>= new_cell

-- a declared variable; a fault of its bounds, and that it would be too much for the page, are in its line
abbrev pub declared_cell : Variable → Run World CellNo
declared_cell variable world = in_line variable.line (first_cell variable.bounds world)

-- the cells of declared variables in their order, behind those so far
abbrev pub declared_cells : List CellNo → Option ConstantFault → List Variable → Run World (List CellNo)
declared_cells done fault [] = pure done
declared_cells done fault (first ∷ others) =
    fault_before fault (length done) >> declared_cell first >>= (λ cell.
    declared_cells (done ++ cell ∷ []) fault others)

-- the value of a constant
abbrev pub constant_made : Constant → Run World Value
constant_made constant world = in_line constant.line (given (constant_value constant.value) world)

-- the values of constants in their order, behind those so far
abbrev pub constants_from : List Value → List Constant → Run World (List Value)
constants_from done [] = pure done
constants_from done (constant ∷ constants) =
    constant_made constant >>= (λ value. constants_from (done ++ value ∷ []) constants)

-- the values of constants, in their order
abbrev pub constants_made : List Constant → Run World (List Value)
constants_made constants = constants_from [] constants
