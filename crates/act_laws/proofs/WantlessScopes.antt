-- Declarations, procedures and statements that change the world alone want no call, and keep the account of
-- objects.
use Rattle.std.proofs.Common.{ℕ, ◌+◌, nat_lt, codes, drop, length, Bool, true, false, List, [], ◌∷◌, ◌++◌, slice_get}
use Rattle.std.proofs.Common.{ℤ, Option, Some, None, Ok, refl}
use Rattle.vb_value.specs.declared.value.ObjNo.{ObjNo}
use Rattle.vb_value.specs.declared.value.Value.{Value, Obj, Nothing, Empty, Str, out-Value}
use Rattle.vb_value.specs.declared.value.Value.TheViews.{Arr}
use Rattle.vb_value.specs.Conversions.{to_str_of, number_value}
use Rattle.vb_value.specs.Errors.{type_mismatch, cannot_create_object, wrong_number, undefined_variable, and_then}
use Rattle.vb_value.specs.Folding.{same_name}
use Rattle.vb_value.specs.Numbers.{amount_of}
use Rattle.vb_value.specs.declared.operator.Op2.TheVariants.{Add}
use Rattle.vb_syntax.specs.declared.program.Program.{Program}
use Rattle.vb_syntax.specs.declared.program.expression.Expression.TheOpen.{Expression-F}
use Rattle.vb_syntax.specs.declared.program.expression.Head.{Head}
use Rattle.vb_syntax.specs.declared.program.expression.Head.TheVariants as head
use Rattle.vb_syntax.specs.declared.program.name.Named.{Named}
use Rattle.vb_syntax.specs.declared.program.name.Named.TheVariants as named
use Rattle.vb_syntax.specs.declared.program.unit.Constant.{Constant}
use Rattle.vb_syntax.specs.declared.program.unit.Field.{Field}
use Rattle.vb_syntax.specs.declared.program.unit.Procedure.{Procedure}
use Rattle.vb_syntax.specs.declared.program.unit.Unit.{Unit as Code}
use Rattle.vb_syntax.specs.declared.program.unit.Variable.{Variable}
use Rattle.vb_funcs.specs.TypeNames.{type_name_of}
use Rattle.vb_ops.specs.Operators.{apply2_of, truth_of}
use Rattle.vb_heap.specs.declared.place.CellNo.{CellNo}
use Rattle.vb_heap.specs.declared.place.Place.{Place}
use Rattle.vb_heap.specs.Cells.{store_of, with_stored}
use Rattle.vb_heap.specs.Entries.{new_table_of, with_new_table}
use Rattle.vb_heap.specs.declared.object.Content.TheVariants.{Entries, Fields}
use Rattle.vb_heap.specs.Dictionary.{no_entries}
use Rattle.vb_heap.specs.Objects.{cells_from, field_of, new_object_of, with_fields, with_new_object}
use Rattle.vb_heap.specs.Store.{numbered}
use Rattle.vb_meaning.specs.declared.constant_fault.ConstantFault.{ConstantFault}
use Rattle.vb_meaning.specs.declared.range.Range.{Range}
use Rattle.vb_meaning.specs.declared.reached.Argument.{Argument}
use Rattle.vb_meaning.specs.declared.reached.Argument.TheVariants.{Place as OfPlace, Value as OfValue}
use Rattle.vb_meaning.specs.Acts.{page_begins}
use Rattle.vb_meaning.specs.Calling.{own_variable, parameter, parameters, variables, result_cell, begins, result_value}
use Rattle.vb_meaning.specs.Calling.{gives_value, with_own, with_place}
use Rattle.vb_meaning.specs.Declaring.{fault_before, first_fault, first_value, declared_cell}
use Rattle.vb_meaning.specs.Declaring.{declared_cells, constants_from}
use Rattle.vb_meaning.specs.Expressions.{Said, constant_at, written_value}
use Rattle.vb_meaning.specs.Loops.{comparison_by, is_within, set_variable, add_step}
use Rattle.vb_meaning.specs.Making as making
use Rattle.vb_meaning.specs.Objects.{name_of_class}
use Rattle.vb_meaning.specs.Places.{cell_place, hold, indices_of}
use Rattle.vb_meaning.specs.Reading.{created, create_object, type_name_in, constant_of, value_of_constant}
use Rattle.vb_meaning.specs.Statements as statements
use Rattle.vb_meaning.specs.State.{on_store}
use Rattle.vb_meaning.specs.Step.{◌>>=◌, ◌>>◌, pure, given}
use Rattle.vb_meaning.specs.Values.{constant_value, declared_array, literal_value}
use Rattle.act_laws.proofs.Holding.{carried_still, held_same}
use Rattle.act_laws.proofs.Wantless.{Wantless, then_wantless, pure_wantless, fails_wantless, given_wantless}
use Rattle.act_laws.proofs.Wantless.{seeing_wantless, heap_wantless, choice_wantless, line_wantless}
use Rattle.act_laws.proofs.Wantless.{changing_wantless, framed_wantless, settling_wantless}
use Rattle.act_laws.proofs.Roomy.{object_roomy, store_roomy, table_roomy}
use Rattle.act_laws.proofs.Marks.{object_settles, object_stays, table_settles}
use Rattle.act_laws.proofs.WantlessPlaces.{new_cell_wantless, hold_wantless, variable_wantless}
use Rattle.act_laws.proofs.WantlessPlaces.{target_wantless, held_wantless, read_wantless, store_wantless}

-- ---- declarations

fault_before_wantless : (fault : Option ConstantFault) (number : ℕ) → Wantless (fault_before fault number)
fault_before_wantless (Some fault) number = choice_wantless (nat_lt number fault.before) (pure_wantless tt)
    (line_wantless fault.line (fails_wantless fault.error))
fault_before_wantless None number = pure_wantless tt

declared_cell_wantless : (variable : Variable) → Wantless (declared_cell variable)
declared_cell_wantless variable = line_wantless variable.line
    (then_wantless (given_wantless (first_value variable.bounds)) new_cell_wantless)

declared_cells_wantless : (done : List CellNo) (fault : Option ConstantFault) (variables : List Variable)
    → Wantless (declared_cells done fault variables)
declared_cells_wantless done fault [] = pure_wantless done
declared_cells_wantless done fault (first ∷ others) =
    then_wantless (then_wantless (fault_before_wantless fault (length done)) (λ done. declared_cell_wantless first))
    (λ cell. declared_cells_wantless (done ++ cell ∷ []) fault others)

constants_from_wantless : (done : List Value) (constants : List Constant) → Wantless (constants_from done constants)
constants_from_wantless done [] = pure_wantless done
constants_from_wantless done (constant ∷ constants) =
    then_wantless (line_wantless constant.line (given_wantless (constant_value constant.value)))
    (λ value. constants_from_wantless (done ++ value ∷ []) constants)

pub page_begins_wantless : (unit : Code) → Wantless (page_begins unit)
page_begins_wantless unit =
    then_wantless (declared_cells_wantless [] (first_fault unit.constants) unit.variables) (λ cells.
    changing_wantless (λ world. record world { page = cells }) (λ world. refl) carried_still
    (then_wantless (constants_from_wantless [] unit.constants) (λ constants. pure_wantless tt)))

-- ---- procedures

own_variable_wantless : (value : Value) → Wantless (own_variable value)
own_variable_wantless value =
    then_wantless (new_cell_wantless value) (λ cell. framed_wantless (with_own cell))

parameter_wantless : (by_value : Bool) (argument : Argument) → Wantless (parameter by_value argument)
parameter_wantless by_value (OfValue value) = own_variable_wantless value
parameter_wantless true (OfPlace place) = then_wantless (read_wantless place) own_variable_wantless
parameter_wantless false (OfPlace place) = framed_wantless (with_place place)

parameters_wantless : (by_value : List Bool) (arguments : List Argument) → Wantless (parameters by_value arguments)
parameters_wantless (by_value ∷ others) (argument ∷ rest) =
    then_wantless (parameter_wantless by_value argument) (λ done. parameters_wantless others rest)
parameters_wantless [] arguments = pure_wantless tt
parameters_wantless (by_value ∷ others) [] = pure_wantless tt

variables_wantless : (fault : Option ConstantFault) (number : ℕ) (all : List Variable)
    → Wantless (variables fault number all)
variables_wantless fault number [] = pure_wantless tt
variables_wantless fault number (first ∷ others) =
    then_wantless (then_wantless (fault_before_wantless fault number) (λ done.
    then_wantless (declared_cell_wantless first) (λ cell. framed_wantless (with_own cell))))
    (λ done. variables_wantless fault (number + 1) others)

result_cell_wantless : (gives : Bool) → Wantless (result_cell gives)
result_cell_wantless true =
    then_wantless (new_cell_wantless Empty) (λ cell.
    framed_wantless (λ frame. record frame { result = Some cell }))
result_cell_wantless false = pure_wantless tt

pub begins_wantless : (procedure : Procedure) (arguments : List Argument) → Wantless (begins procedure arguments)
begins_wantless procedure arguments = then_wantless
    (then_wantless (then_wantless (then_wantless (result_cell_wantless (gives_value procedure.kind))
    (λ done. parameters_wantless procedure.by_value arguments))
    (λ done. variables_wantless (first_fault procedure.constants) (length procedure.by_value)
    (drop (length procedure.by_value) procedure.variables)))
    (λ done. constants_from_wantless [] procedure.constants))
    (λ constants. framed_wantless (λ frame. record frame { constants = constants }))

pub result_wantless : (cell : Option CellNo) → Wantless (result_value cell)
result_wantless (Some cell) = read_wantless (cell_place cell)
result_wantless None = pure_wantless Empty

-- ---- objects

created_wantless : (name : List ℕ) → Wantless (created name)
created_wantless name = choice_wantless (same_name (codes "scripting.dictionary") name)
    (then_wantless (settling_wantless new_table_of with_new_table table_roomy (λ world right fitting.
    table_settles world.store world.finished right fitting) (object_stays (Entries no_entries))
    (λ store. held_same store.held))
    (λ object. pure_wantless (Obj object)))
    (fails_wantless cannot_create_object)

pub create_object_wantless : (arguments : List Value) → Wantless (create_object arguments)
create_object_wantless [] = fails_wantless wrong_number
create_object_wantless (name ∷ []) = then_wantless (given_wantless (to_str_of name)) created_wantless
create_object_wantless (name ∷ more ∷ others) = fails_wantless wrong_number

pub type_name_wantless : (program : Program) (arguments : List Value) → Wantless (type_name_in program arguments)
type_name_wantless program [] = fails_wantless wrong_number
type_name_wantless program (value ∷ []) = seeing_wantless
    (λ world. given (and_then (name_of_class program world.store value) (λ class. Ok (Str (type_name_of value class)))))
    (λ world. given_wantless
    (and_then (name_of_class program world.store value) (λ class. Ok (Str (type_name_of value class)))))
type_name_wantless program (value ∷ more ∷ others) = fails_wantless wrong_number

field_sized_wantless : (object : ObjNo) (field : ℕ) (bounds : Option (List ℤ))
    → Wantless (making.field_sized object field bounds)
field_sized_wantless object field (Some bounds) =
    then_wantless (seeing_wantless (λ world. given (field_of field (numbered object.0 world.store.objects)))
    (λ world. given_wantless (field_of field (numbered object.0 world.store.objects)))) (λ cell.
    then_wantless (given_wantless (declared_array bounds)) (λ value.
    heap_wantless (store_of (cell_place cell) value) (with_stored (cell_place cell) value)
    (store_roomy (cell_place cell) value) (λ store count. refl) (λ store. held_same store.held)))
field_sized_wantless object field None = pure_wantless tt

field_made_wantless : (object : ObjNo) (field : ℕ) (variable : Variable)
    → Wantless (making.field_made object field variable)
field_made_wantless object field variable =
    line_wantless variable.line (field_sized_wantless object field variable.bounds)

pub fields_made_wantless : (object : ObjNo) (number : ℕ) (fields : List Field)
    → Wantless (making.fields_made object number fields)
fields_made_wantless object number [] = pure_wantless tt
fields_made_wantless object number (field ∷ fields) =
    then_wantless (field_made_wantless object number field.variable)
    (λ done. fields_made_wantless object (number + 1) fields)

pub object_made_wantless : (number : ℕ) (fields : List Field) → Wantless (
    on_store (new_object_of number (length fields)) (with_new_object number (length fields)) >>= (λ object.
    hold (Obj object) >> making.fields_made object 0 fields >> pure object))
object_made_wantless number fields =
    then_wantless (settling_wantless (new_object_of number (length fields)) (with_new_object number (length fields))
    (object_roomy number (length fields)) (λ world right fitting.
    object_settles number (length fields) world.store world.finished right fitting) (λ store.
    object_stays (Fields number (cells_from store.cells_made (length fields)))
    (with_fields (cells_from store.cells_made (length fields)) (length fields) store))
    (λ store. held_same store.held))
    (λ object. then_wantless (then_wantless (hold_wantless (Obj object)) (λ done. fields_made_wantless object 0 fields))
    (λ done. pure_wantless object))

-- ---- constants

constant_at_wantless : (program : Program) (found : Head) → Wantless (constant_at program found)
constant_at_wantless program (head.Named (named.Value literal)) = pure_wantless (literal_value literal)
constant_at_wantless program (head.Named (named.PageConstant number)) =
    given_wantless (constant_of (slice_get program.unit.constants number))
constant_at_wantless program (head.Named (named.LocalConstant number)) =
    seeing_wantless (λ world. given (value_of_constant (slice_get world.frame.constants number)))
    (λ world. given_wantless (value_of_constant (slice_get world.frame.constants number)))
constant_at_wantless program _ = fails_wantless undefined_variable

pub written_wantless : (program : Program) (said : Said) → Wantless (written_value program said)
written_wantless program (Expression-F.Literal literal) = pure_wantless (literal_value literal)
written_wantless program Expression-F.Nothing = pure_wantless Nothing
written_wantless program (Expression-F.Path path) = constant_at_wantless program path.head
written_wantless program _ = fails_wantless undefined_variable

-- ---- statements

pub resize_wantless : (preserve : Bool) (bounds : List Value) (place : Place) (old : Value)
    → Wantless (statements.resize preserve bounds place old)
resize_wantless preserve bounds place old =
    then_wantless (then_wantless (given_wantless (statements.not_fixed (out-Value old)))
    (λ done. given_wantless (indices_of bounds))) (λ found.
    then_wantless (then_wantless (given_wantless (statements.good_bounds found))
    (λ done. given_wantless (statements.resized_array preserve (out-Value old) found))) (λ array.
    heap_wantless (store_of place (Arr array)) (with_stored place (Arr array)) (store_roomy place (Arr array))
    (λ store count. refl) (λ store. held_same store.held)))

erase_wantless : (found : Named) → Wantless (statements.erase found)
erase_wantless (named.Place found) = then_wantless (variable_wantless found) (λ place.
    then_wantless (held_wantless place) (λ old.
    then_wantless (given_wantless (statements.erased (out-Value old))) (λ value.
    heap_wantless (store_of place value) (with_stored place value) (store_roomy place value) (λ store count. refl)
    (λ store. held_same store.held))))
erase_wantless named.Unknown = fails_wantless undefined_variable
erase_wantless _ = fails_wantless type_mismatch

pub erase_all_wantless : (names : List Named) → Wantless (statements.erase_all names)
erase_all_wantless [] = pure_wantless tt
erase_all_wantless (first ∷ others) =
    then_wantless (erase_wantless first) (λ done. erase_all_wantless others)

-- ---- loops

pub within_wantless : (variable : Named) (range : Range) → Wantless (is_within variable range)
within_wantless variable range = then_wantless (target_wantless variable) (λ place.
    then_wantless (read_wantless place) (λ value.
    then_wantless (given_wantless (apply2_of (comparison_by (amount_of range.step)) value (number_value range.to)))
    (λ compared. given_wantless (truth_of compared))))

pub set_variable_wantless : (variable : Named) (value : Value) → Wantless (set_variable variable value)
set_variable_wantless variable value =
    then_wantless (target_wantless variable) (λ place. store_wantless place value)

pub add_step_wantless : (variable : Named) (range : Range) → Wantless (add_step variable range)
add_step_wantless variable range = then_wantless (target_wantless variable) (λ place.
    then_wantless (read_wantless place) (λ value.
    then_wantless (given_wantless (apply2_of Add value (number_value range.step))) (store_wantless place)))
