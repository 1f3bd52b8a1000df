-- Procedures: how they are entered with their arguments, and how they are left (VBScript 5.6 language reference, "Sub
-- Statement", "Function Statement", "Property Get Statement").
use Rattle.std.specs.Prelude.{ℕ, ◌+◌, ◌==◌, nat_lt, Bool, true, false, if◌then◌else◌, List, [], ◌∷◌, ◌++◌}
use Rattle.std.specs.Prelude.{length, drop, Option, Some, None}
use Rattle.vb_value.specs.declared.value.Value.{Value, Empty}
use Rattle.vb_value.specs.Errors.{wrong_number}
use Rattle.vb_syntax.specs.declared.program.unit.Procedure.{Procedure}
use Rattle.vb_syntax.specs.declared.program.unit.ProcedureKind.{ProcedureKind}
use Rattle.vb_syntax.specs.declared.program.unit.ProcedureKind.TheVariants as kind
use Rattle.vb_syntax.specs.declared.program.unit.Variable.{Variable}
use Rattle.vb_heap.specs.declared.place.CellNo.{CellNo}
use Rattle.vb_heap.specs.declared.place.Place.{Place}
use Rattle.vb_meaning.specs.declared.constant_fault.ConstantFault.{ConstantFault}
use Rattle.vb_meaning.specs.declared.stop.Stop.TheVariants as stop
use Rattle.vb_meaning.specs.declared.world.Frame.{Frame}
use Rattle.vb_meaning.specs.World.{World}
use Rattle.vb_meaning.specs.Blocks.{block}
use Rattle.vb_meaning.specs.Declaring.{declared_cell, first_fault, fault_before, constants_made}
use Rattle.vb_meaning.specs.Errors.{tick, too_deep}
use Rattle.vb_meaning.specs.Inner.{Inner, Owner}
use Rattle.vb_meaning.specs.declared.reached.Argument.{Argument}
use Rattle.vb_meaning.specs.declared.reached.Argument.TheVariants.{Place as OfPlace, Value as OfValue}
use Rattle.vb_meaning.specs.Places.{new_cell, read_place, cell_place, cells_dropped, holding, letting_go}
use Rattle.vb_meaning.specs.Releases.{settle, in_world}
use Rattle.vb_meaning.specs.State.{State, Does, on_world, with_frame, with_store}
use Rattle.vb_meaning.specs.Step.{Step, Returns, Ends, Run, ◌>>=◌, ◌>>◌, pure, fails}

-- how many procedures may be open
abbrev pub most_calls : ℕ
most_calls = 200

-- ---- how a procedure begins

-- the names of a procedure that is entered: none yet, and no handler
abbrev pub fresh_frame : Owner → Frame
fresh_frame owner =
    record { places = []; own = []; result = None; constants = []; owner = owner; resumes = false; subjects = [] }

-- the world in which a procedure is entered
abbrev pub entered : Owner → World → World
entered owner world = record world { frame = fresh_frame owner; calls = world.calls + 1 }

-- a variable more, at a place of its own
abbrev pub with_own : CellNo → Frame → Frame
with_own cell frame =
    record frame { places = frame.places ++ cell_place cell ∷ []; own = frame.own ++ cell ∷ [] }

-- a variable more, which is the caller's place
abbrev pub with_place : Place → Frame → Frame
with_place place frame = record frame { places = frame.places ++ place ∷ [] }

-- the world with the names of the procedure changed
abbrev pub in_frame : (Frame → Frame) → Run World (Unit {0})
in_frame change world = Returns tt (with_frame change world)

-- a variable more, of this value
abbrev pub own_variable : Value → Run World (Unit {0})
own_variable value = new_cell value >>= (λ cell. in_frame (with_own cell))

-- a parameter and its argument; ByVal makes a copy
abbrev pub parameter : Bool → Argument → Run World (Unit {0})
parameter by_value (OfValue value) = own_variable value
parameter true (OfPlace place) = read_place place >>= own_variable
parameter false (OfPlace place) = in_frame (with_place place)

-- the parameters and their arguments
abbrev pub parameters : List Bool → List Argument → Run World (Unit {0})
parameters (by_value ∷ others) (argument ∷ rest) = parameter by_value argument >> parameters others rest
parameters _ _ = pure tt

-- the declared variables of a procedure in their order, from a number on
abbrev pub variables : Option ConstantFault → ℕ → List Variable → Run World (Unit {0})
variables fault number [] = pure tt
variables fault number (first ∷ others) =
    fault_before fault number >> (declared_cell first >>= (λ cell. in_frame (with_own cell)))
    >> variables fault (number + 1) others

-- whether a procedure gives a value of its own
abbrev pub gives_value : ProcedureKind → Bool
gives_value kind.Function = true
gives_value kind.Get = true
gives_value _ = false

-- the cell of the value that a procedure is to give
abbrev pub result_cell : Bool → Run World (Unit {0})
result_cell true = new_cell Empty >>= (λ cell. in_frame (λ frame. record frame { result = Some cell }))
result_cell false = pure tt

-- what a procedure makes before its first statement
abbrev pub begins : Procedure → List Argument → Run World (Unit {0})
begins procedure arguments = result_cell (gives_value procedure.kind)
    >> parameters procedure.by_value arguments
    >> variables (first_fault procedure.constants) (length procedure.by_value)
    (drop (length procedure.by_value) procedure.variables)
    >> constants_made procedure.constants >>= (λ constants. in_frame (λ frame. record frame { constants = constants }))

-- ---- how it is left

-- the value that a procedure gives
abbrev pub result_value : Option CellNo → Run World Value
result_value (Some cell) = read_place (cell_place cell)
result_value None = pure Empty

-- the same, which is held
abbrev pub given_value : Run World Value
given_value world = (result_value world.frame.result >>= holding) world

-- the cell of a value, if there is one
abbrev pub cell_of : Option CellNo → List CellNo
cell_of (Some cell) = cell ∷ []
cell_of None = []

-- the world with a procedure's names gone in the order of their declaration, and the caller's there again
abbrev pub left : World → World → World
left caller world = record (with_store (cells_dropped (world.frame.own ++ cell_of world.frame.result)) world) {
  frame = caller.frame;
  calls = caller.calls;
}

module _ (E : Type 0) (m : Inner E) where
  -- the procedure's own part, and the value that it gives, which is held
  abbrev pub runs : Procedure → List Argument → Does E Value
  runs procedure arguments =
      on_world (begins procedure arguments) >> block E m procedure.body >> on_world given_value

  -- How a procedure is left, by how its own part ended: its names go and objects end, while its value is held. An error is
  -- one of the caller's statement.
  abbrev pub abandoned : World → Step (State E) Value → Step (State E) Value
  abandoned caller (Returns value s) = (settle E m >> pure value) (in_world E (left caller s.world) s)
  abandoned caller (Ends (stop.Error what line) s) =
      (settle E m >> Ends (stop.Error what line)) (in_world E (left caller s.world) s)
  abandoned caller (Ends stop.Page s) = Ends stop.Page (in_world E (left caller s.world) s)
  abandoned caller (Ends (stop.Limit kind line) s) = Ends (stop.Limit kind line) s
  abandoned caller (Ends (stop.Wants call) s) = Ends (stop.Wants call) s
  abandoned caller (Ends stop.Memory s) = Ends stop.Memory s

  -- a procedure from its first name to its last
  abbrev pub called : Owner → Procedure → List Argument → Does E Value
  called owner procedure arguments s =
      abandoned s.world (runs procedure arguments (in_world E (entered owner s.world) s))

  -- one more call, while not too many are open: it costs a tick, and behind it its value is held no more
  abbrev pub opened : Owner → Procedure → List Argument → Does E Value
  opened owner procedure arguments s = if nat_lt s.world.calls most_calls
      then (tick >> letting_go (called owner procedure arguments)) s else on_world too_deep s

  -- a procedure with its arguments: their number comes first
  unfoldable pub enter_of : Owner → Procedure → List Argument → Does E Value
  enter_of owner procedure arguments = if length arguments == length procedure.by_value
      then opened owner procedure arguments else fails wrong_number
