-- Values of variables and of their elements where they lie.
use Rattle.std.specs.Prelude.{◌≡◌, Bool, true, false, List, [], ◌∷◌, ℕ, Result, Ok}
use Rattle.vb_value.specs.declared.function.PlainFn.{PlainFn}
use Rattle.vb_value.specs.declared.function.PlainFn.TheVariants as function
use Rattle.vb_value.specs.declared.value.Array.{Array}
use Rattle.vb_value.specs.declared.fault.VbError.{VbError}
use Rattle.vb_value.specs.declared.value.Value.{Value}
use Rattle.vb_syntax.specs.declared.program.Program.{Program}
use Rattle.vb_syntax.specs.declared.program.expression.Expression.{Expression, out-Expression}
use Rattle.vb_syntax.specs.declared.program.expression.Expression.TheOpen.{Expression-F}
use Rattle.vb_syntax.specs.declared.program.expression.Head.TheVariants as head
use Rattle.vb_syntax.specs.declared.program.expression.Operation.{Operation}
use Rattle.vb_syntax.specs.declared.program.expression.Step.{Step}
use Rattle.vb_syntax.specs.declared.program.name.Named.TheVariants as named
use Rattle.vb_syntax.specs.declared.program.name.Slot.{Slot}
use Rattle.vb_heap.specs.declared.place.Place.{Place}
use Rattle.vb_heap.specs.Cells.{read_of}
use Rattle.vb_heap.specs.Limits.{if_fits}
use Rattle.vb_heap.specs.References.{references}
use Rattle.vb_heap.specs.Store.{Store}
use Rattle.vb_meaning.specs.Asking.{Host}
use Rattle.vb_meaning.specs.Expressions.{operations}
use Rattle.vb_meaning.specs.Meaning.{value, inside}
use Rattle.vb_meaning.specs.Reading.{values}
use Rattle.vb_meaning.specs.State.{State, on_world}
use Rattle.vb_meaning.specs.Step.{Returns, ◌>>=◌, given}
use Rattle.vb_meaning.specs.Values.{copied}

-- an expression is a variable, and nothing stands behind its name
abbrev pub IsVariable : Expression → Slot → Type 0
IsVariable expression slot =
    out-Expression expression ≡ Expression-F.Path (record { head = head.Named (named.Place slot); steps = [] })

-- an expression is a path of one step behind a variable
abbrev pub IsElement : Expression → Slot → Step → Type 0
IsElement expression slot step =
    out-Expression expression ≡ Expression-F.Path (record { head = head.Named (named.Place slot); steps = step ∷ [] })

-- the data keep within their limits, so that a value may be held in which no object occurs
abbrev pub MayHold : Store → Type 0
MayHold store = if_fits store (tt {0}) ≡ Ok tt

-- an expression yields this value and changes nothing
abbrev pub Yields : (E : Type 0) → Host E → Program → ℕ → Expression → State E → Value → Type 0
Yields E host program levels expression s found = value E host program levels expression s ≡ Returns found s

-- an expression yields a copy of what a place holds, if no object occurs in it, and changes nothing
abbrev pub Reaches : (E : Type 0) → Host E → Program → ℕ → Expression → State E → Place → Type 0
Reaches E host program levels expression s place = (found : Value) → read_of place s.world.store ≡ Ok found
    → references (copied found) ≡ [] → Yields E host program levels expression s (copied found)

-- a value is neither an array nor an object: it is its own copy, and no object occurs in it
pub record IsPlain (value : Value) : Type 0 where
  pub own : copied value ≡ value
  pub free : references value ≡ []

-- a function of the language gives this value of its arguments, and nothing changes
abbrev pub GivesAtOnce : (E : Type 0) → Host E → Program → ℕ → (List Value → Result Value VbError) → List Expression
    → State E → Value → Type 0
GivesAtOnce E host program levels applied supplied s found =
    (values E (inside E host program levels) [] supplied >>= (λ arguments. on_world (given (applied arguments)))) s
    ≡ Returns found s

-- the first operator behind an operand gives this value, with which the operators behind it go on, and nothing changes
abbrev pub OperatesAtOnce : (E : Type 0) → Host E → Program → ℕ → Expression → Operation → State E → Value → Type 0
OperatesAtOnce E host program levels first operation s found = (others : List Operation)
    → (value E host program levels first >>= (λ left. operations E (inside E host program levels) left
    (operation ∷ others))) s
    ≡ operations E (inside E host program levels) found others s

-- an array of the same bounds without items
abbrev pub shape_of : Array → Array
shape_of array = record { bounds = array.bounds; fixed = false; items = [] }

-- whether what a function gives of an array follows from its bounds
abbrev pub is_by_shape : PlainFn → Bool
is_by_shape function.UBound = true
is_by_shape function.LBound = true
is_by_shape function.IsArray = true
is_by_shape function.VarType = true
is_by_shape function.IsEmpty = true
is_by_shape _ = false
