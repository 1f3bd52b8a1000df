-- What a procedure makes before its first statement holds nothing, and the value that it gives is held.
use Rattle.std.proofs.Common.{ℕ, ◌+◌, nat_lt, Bool, true, false, if◌then◌else◌, List, [], ◌∷◌, ◌++◌, length, drop}
use Rattle.std.proofs.Common.{◌≡◌, Option, Some, None, Result, Ok, Err, refl, ap, ◌∙◌}
use Rattle.vb_value.specs.declared.fault.VbError.{VbError}
use Rattle.vb_value.specs.declared.value.Value.{Value, Empty}
use Rattle.vb_syntax.specs.declared.program.unit.Constant.{Constant}
use Rattle.vb_syntax.specs.declared.program.unit.Procedure.{Procedure}
use Rattle.vb_syntax.specs.declared.program.unit.Variable.{Variable}
use Rattle.vb_heap.specs.declared.fault.HeapStop.{HeapStop}
use Rattle.vb_heap.specs.declared.fault.HeapStop.TheVariants as heap
use Rattle.vb_heap.specs.declared.place.CellNo.{CellNo}
use Rattle.vb_heap.specs.declared.place.Place.{Place}
use Rattle.vb_heap.specs.Cells.{new_cell_of, read_of, with_new_cell}
use Rattle.vb_heap.specs.Held.{hold_of, with_held}
use Rattle.vb_heap.specs.References.{references}
use Rattle.vb_meaning.specs.declared.constant_fault.ConstantFault.{ConstantFault}
use Rattle.vb_meaning.specs.declared.reached.Argument.{Argument}
use Rattle.vb_meaning.specs.declared.reached.Argument.TheVariants.{Place as OfPlace, Value as OfValue}
use Rattle.vb_meaning.specs.declared.stop.Stop.TheVariants as stop
use Rattle.vb_meaning.specs.declared.world.Frame.{Frame}
use Rattle.vb_meaning.specs.World.{World}
use Rattle.vb_meaning.specs.Calling as calling
use Rattle.vb_meaning.specs.Declaring.{constants_from, declared_cell, fault_before, first_fault, first_value}
use Rattle.vb_meaning.specs.Errors.{in_line}
use Rattle.vb_meaning.specs.Places.{cell_place, held_at, hold, holding, new_cell, read_place}
use Rattle.vb_meaning.specs.State.{store_answer, with_store}
use Rattle.vb_meaning.specs.Step.{Step, Returns, Ends, Run, and_then, ◌>>=◌, pure, given, state_of}
use Rattle.vb_meaning.specs.Values.{constant_value, copied}
use Rattle.act_laws.proofs.Holding.{Carried}

-- what is done to a world holds nothing and lets nothing go, and the page has ended as before, or not
abbrev pub Unheld : {A : Type 0} → World → Step World A → Type 0
Unheld before step =
    ((state_of step).store.held ≡ before.store.held) × ((state_of step).page_ended ≡ before.page_ended)

pub record Stills {A : Type 0} (run : Run World A) : Type 0 where
  pub still : (world : World) → Unheld world (run world)

then_stills : {A B : Type 0} {first : Run World A} {next : A → Run World B} → Stills first
    → ((value : A) → Stills (next value)) → Stills (first >>= next)
then_stills {A} {B} {first} {next} one other = record { still = λ world. go world (first world) (one.still world) }
  where
    go : (world : World) (step : Step World A) → Unheld world step → Unheld world (and_then step next)
    go world (Returns value after) still =
        (((other value).still after).0 ∙ still.0, ((other value).still after).1 ∙ still.1)
    go world (Ends why after) still = still

pure_stills : {A : Type 0} (value : A) → Stills (pure value)
pure_stills value = record { still = λ world. (refl, refl) }

given_stills : {A : Type 0} (answer : Result A VbError) → Stills (given answer)
given_stills (Ok value) = record { still = λ world. (refl, refl) }
given_stills (Err error) = record { still = λ world. (refl, refl) }

line_stills : {A : Type 0} (line : ℕ) {run : Run World A} → Stills run → Stills (λ world. in_line line (run world))
line_stills {A} line {run} one = record { still = λ world. go world (run world) (one.still world) }
  where
    go : (world : World) (step : Step World A) → Unheld world step → Unheld world (in_line line step)
    go world (Returns value after) still = still
    go world (Ends why after) still = still

frame_stills : (change : Frame → Frame) → Stills (calling.in_frame change)
frame_stills change = record { still = λ world. (refl, refl) }

new_cell_stills : (value : Value) → Stills (new_cell value)
unfolding new_cell
new_cell_stills value = record { still = λ world. go world (new_cell_of value world.store) }
  where
    go : (world : World) (found : Result CellNo HeapStop)
        → Unheld world (store_answer found (with_store (with_new_cell value) world) world)
    go world (Ok cell) = (refl, refl)
    go world (Err why) = (refl, refl)

held_stills : (place : Place) → Stills (held_at place)
held_stills place = record { still = λ world. (given_stills (read_of place world.store)).still world }

read_stills : (place : Place) → Stills (read_place place)
unfolding read_place
read_stills place = then_stills (held_stills place) (λ value. pure_stills (copied value))

-- ---- what is declared

choice_stills : {A : Type 0} (test : Bool) {one other : Run World A} → Stills one → Stills other
    → Stills (if test then one else other)
choice_stills true first second = first
choice_stills false first second = second

fault_stills : (fault : Option ConstantFault) (number : ℕ) → Stills (fault_before fault number)
fault_stills (Some fault) number = choice_stills (nat_lt number fault.before) (pure_stills tt)
    (line_stills fault.line (given_stills {A = Unit {0}} (Err fault.error)))
fault_stills None number = pure_stills tt

declared_stills : (variable : Variable) → Stills (declared_cell variable)
declared_stills variable = line_stills variable.line
    (then_stills (given_stills (first_value variable.bounds)) new_cell_stills)

constants_stills : (done : List Value) (constants : List Constant) → Stills (constants_from done constants)
constants_stills done [] = pure_stills done
constants_stills done (constant ∷ constants) =
    then_stills (line_stills constant.line (given_stills (constant_value constant.value)))
    (λ value. constants_stills (done ++ value ∷ []) constants)

own_stills : (value : Value) → Stills (calling.own_variable value)
own_stills value = then_stills (new_cell_stills value) (λ cell. frame_stills (calling.with_own cell))

parameter_stills : (by_value : Bool) (argument : Argument) → Stills (calling.parameter by_value argument)
parameter_stills by_value (OfValue value) = own_stills value
parameter_stills true (OfPlace place) = then_stills (read_stills place) own_stills
parameter_stills false (OfPlace place) = frame_stills (calling.with_place place)

parameters_stills : (by_value : List Bool) (arguments : List Argument)
    → Stills (calling.parameters by_value arguments)
parameters_stills (by_value ∷ others) (argument ∷ rest) =
    then_stills (parameter_stills by_value argument) (λ done. parameters_stills others rest)
parameters_stills [] arguments = pure_stills tt
parameters_stills (by_value ∷ others) [] = pure_stills tt

variables_stills : (fault : Option ConstantFault) (number : ℕ) (all : List Variable)
    → Stills (calling.variables fault number all)
variables_stills fault number [] = pure_stills tt
variables_stills fault number (first ∷ others) =
    then_stills (then_stills (fault_stills fault number) (λ done.
    then_stills (declared_stills first) (λ cell. frame_stills (calling.with_own cell))))
    (λ done. variables_stills fault (number + 1) others)

result_stills : (gives : Bool) → Stills (calling.result_cell gives)
result_stills true = then_stills (new_cell_stills Empty)
    (λ cell. frame_stills (λ frame. record frame { result = Some cell }))
result_stills false = pure_stills tt

pub begins_unheld : (procedure : Procedure) (arguments : List Argument) → Stills (calling.begins procedure arguments)
begins_unheld procedure arguments = then_stills
    (then_stills (then_stills (then_stills (result_stills (calling.gives_value procedure.kind))
    (λ done. parameters_stills procedure.by_value arguments))
    (λ done. variables_stills (first_fault procedure.constants) (length procedure.by_value)
    (drop (length procedure.by_value) procedure.variables)))
    (λ done. constants_stills [] procedure.constants))
    (λ constants. frame_stills (λ frame. record frame { constants = constants }))

-- ---- what is given

-- what comes to its end may hold something; an error holds nothing
abbrev pub GivesHeld : World → Step World Value → Type 0
GivesHeld before (Returns value after) = Carried before after
GivesHeld before (Ends (stop.Error what line) after) =
    (after.store.held ≡ before.store.held) × (after.page_ended ≡ before.page_ended)
GivesHeld before (Ends stop.Page after) = Unit {0}
GivesHeld before (Ends (stop.Limit kind line) after) = Unit {0}
GivesHeld before (Ends (stop.Wants call) after) = Unit {0}
GivesHeld before (Ends stop.Memory after) = Unit {0}

result_value_stills : (cell : Option CellNo) → Stills (calling.result_value cell)
result_value_stills (Some cell) = read_stills (cell_place cell)
result_value_stills None = pure_stills Empty

module _ (before : World) where
  holding_held : (value : Value) (world : World) → Unheld {A = Value} before (Returns value world)
      → GivesHeld before (holding value world)
  unfolding hold
  holding_held value world still = go (hold_of value world.store)
    where
      go : (found : Result (Unit {0}) HeapStop) → GivesHeld before
          (and_then (store_answer found (with_store (with_held value) world) world) (λ done. pure value))
      go (Ok done) = ((references value, ap (λ held. held ++ references value) still.0), still.1)
      go (Err (heap.Error number)) = still
      go (Err (heap.Limit kind)) = tt
      go (Err heap.Memory) = tt

  then_held : (step : Step World Value) → Unheld before step → GivesHeld before (and_then step holding)
  then_held (Returns value world) still = holding_held value world still
  then_held (Ends (stop.Error what line) world) still = still
  then_held (Ends stop.Page world) still = tt
  then_held (Ends (stop.Limit kind line) world) still = tt
  then_held (Ends (stop.Wants call) world) still = tt
  then_held (Ends stop.Memory world) still = tt

pub given_held : (world : World) → GivesHeld world (calling.given_value world)
given_held world = then_held world (calling.result_value world.frame.result world)
    ((result_value_stills world.frame.result).still world)
