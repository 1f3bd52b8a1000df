-- What variables and their elements yield whose values are lent.
use Rattle.std.proofs.Common.{◌≡◌, ℕ, ℤ, ◌-◌, ◌<◌, List, [], ◌∷◌, Result, Ok, true, ap, sym, subst, ◌∙◌, refl}
use Rattle.std.proofs.lemmas.List.{append-nil}
use Rattle.vb_value.specs.declared.value.Value.{Value, Empty}
use Rattle.vb_value.specs.declared.value.Value.TheViews.{rolls-Empty}
use Rattle.vb_value.specs.declared.value.Value.TheOpen.{Value-F}
use Rattle.vb_value.specs.declared.value.Value.TheFolds.{fold-roll-Value}
use Rattle.vb_syntax.specs.declared.program.Program.{Program}
use Rattle.vb_syntax.specs.declared.program.expression.Expression.{Expression, out-Expression}
use Rattle.vb_syntax.specs.declared.program.expression.Expression.TheOpen.{Step-F}
use Rattle.vb_syntax.specs.declared.program.expression.Operation.{Operation, out-Operation}
use Rattle.vb_syntax.specs.declared.program.expression.Step.{Step, out-Step}
use Rattle.vb_syntax.specs.declared.program.name.Slot.{Slot}
use Rattle.vb_heap.specs.Cells.{read_of}
use Rattle.vb_heap.specs.Held.{with_held}
use Rattle.vb_heap.specs.References.{references, value_references, array_references}
use Rattle.vb_heap.specs.Store.{Store}
use Rattle.vb_heap.specs.declared.place.Place.{Place}
use Rattle.vb_ops.specs.Operators.{apply2_of}
use Rattle.vb_meaning.specs.Asking.{Host}
use Rattle.vb_meaning.specs.Expressions.{bare, value_of, is_written, written_value}
use Rattle.vb_meaning.specs.Meaning.{inside}
use Rattle.vb_meaning.specs.declared.reached.Kind.TheVariants as kind
use Rattle.vb_meaning.specs.Paths.{element, kind_of, reached_value}
use Rattle.vb_meaning.specs.Places.{element_place, hold, holding, indices_of, read_place, variable}
use Rattle.vb_meaning.specs.Reading.{reached, values}
use Rattle.vb_meaning.specs.State.{State}
use Rattle.vb_meaning.specs.Step.{Returns, raising}
use Rattle.vb_value.specs.declared.fault.VbError.{VbError}
use Rattle.vb_meaning.specs.Values.{copied}
use Rattle.vb_meaning.specs.World.{World}
use Rattle.vb_meaning.proofs.Down.{value_more}
use Rattle.vb_plain.specs.Lent.{GivesAtOnce, IsElement, IsPlain, IsVariable, MayHold, OperatesAtOnce, Reaches, Yields}

-- Empty has no reference
free_empty : references Empty ≡ []
free_empty = ap references (sym rolls-Empty)
    ∙ fold-roll-Value (List ℕ) (List ℕ) value_references array_references Value-F.Empty

-- where nothing is held, nothing changes
pub held_none : (store : Store) → with_held Empty store ≡ store
held_none store = rw (free_empty, append-nil store.held) refl

-- nor is there a change where a value is held in which no object occurs
pub holding_free : (value : Value) (w : World) → references value ≡ [] → MayHold w.store
    → holding value w ≡ Returns value w
unfolding hold
holding_free value w free may = rw (free, append-nil w.store.held, may) refl

-- an expression without parentheses around it
pub bare_variable : (e : Expression) (slot : Slot) → IsVariable e slot → bare e ≡ e
bare_variable e slot is = rw is refl

-- a copy of what a variable holds
variable_valued : (E : Type 0) (host : Host E) (p : Program) (levels : ℕ) (e : Expression) (slot : Slot)
    (place : Place) (found : Value) (s : State E) → IsVariable e slot → variable slot s.world ≡ Returns place s.world
    → read_of place s.world.store ≡ Ok found → references (copied found) ≡ [] → MayHold s.world.store
    → value_of E (inside E host p levels) e s ≡ Returns (copied found) s
unfolding value_of reached reached_value read_place
variable_valued E host p levels e slot place found s is at read free may =
    rw (is, at, read, holding_free (copied found) s.world free may) refl

-- what a variable reaches
pub variable_reaches : (E : Type 0) (host : Host E) (p : Program) (levels : ℕ) (e : Expression) (slot : Slot)
    (place : Place) (s : State E) → 0 < levels → IsVariable e slot → variable slot s.world ≡ Returns place s.world
    → MayHold s.world.store → Reaches E host p levels e s place
variable_reaches E host p levels e slot place s some is at may found read free =
    rw (value_more E host p levels e s some, bare_variable e slot is, is)
    (variable_valued E host p (levels - 1) e slot place found s is at read free may)

-- the value at a place that is neither an array nor an object
pub plain_yields : (E : Type 0) (host : Host E) (p : Program) (levels : ℕ) (e : Expression) (place : Place)
    (found : Value) (s : State E) → Reaches E host p levels e s place → read_of place s.world.store ≡ Ok found
    → IsPlain found → Yields E host p levels e s found
plain_yields E host p levels e place found s reaches read plain =
    subst (λ value. Yields E host p levels e s value) plain.own
    (reaches found read (ap references plain.own ∙ plain.free))

-- and of one that is neither an array nor an object
pub variable_yields : (E : Type 0) (host : Host E) (p : Program) (levels : ℕ) (e : Expression) (slot : Slot)
    (place : Place) (found : Value) (s : State E) → 0 < levels → IsVariable e slot
    → variable slot s.world ≡ Returns place s.world
    → read_of place s.world.store ≡ Ok found → IsPlain found → MayHold s.world.store
    → Yields E host p levels e s found
variable_yields E host p levels e slot place found s some is at read plain may =
    plain_yields E host p levels e place found s (variable_reaches E host p levels e slot place s some is at may) read
    plain

-- an expression that is an element has no parentheses around it
bare_element : (e : Expression) (slot : Slot) (step : Step) → IsElement e slot step → bare e ≡ e
bare_element e slot step is = rw is refl

-- a copy of what an element of a variable holds
element_valued : (E : Type 0) (host : Host E) (p : Program) (levels : ℕ) (e : Expression) (slot : Slot) (step : Step)
    (indices : List Expression) (place : Place) (whole : Value) (given : List Value) (numbers : List ℤ)
    (found : Value) (s : State E) → IsElement e slot step → out-Step step ≡ Step-F.Group indices
    → variable slot s.world ≡ Returns place s.world
    → values E (inside E host p levels) [] indices s ≡ Returns given s
    → read_of place s.world.store ≡ Ok whole → kind_of whole ≡ kind.Array → raising (indices_of given) ≡ Ok numbers
    → read_of (element_place place numbers) s.world.store ≡ Ok found → references (copied found) ≡ []
    → MayHold s.world.store → value_of E (inside E host p levels) e s ≡ Returns (copied found) s
unfolding value_of reached reached_value read_place element
element_valued E host p levels e slot step indices place whole given numbers found s is group at all holds array are
    read free may =
    rw (is, group, at, all, holds, array, are, read, read, holding_free (copied found) s.world free may) refl

-- what an element of a variable reaches
pub element_reaches : (E : Type 0) (host : Host E) (p : Program) (levels : ℕ) (e : Expression) (slot : Slot)
    (step : Step) (indices : List Expression) (place : Place) (whole : Value) (given : List Value) (numbers : List ℤ)
    (element : Place) (s : State E) → 0 < levels → IsElement e slot step → out-Step step ≡ Step-F.Group indices
    → variable slot s.world ≡ Returns place s.world
    → values E (inside E host p (levels - 1)) [] indices s ≡ Returns given s
    → read_of place s.world.store ≡ Ok whole → kind_of whole ≡ kind.Array → raising (indices_of given) ≡ Ok numbers
    → element ≡ element_place place numbers → MayHold s.world.store → Reaches E host p levels e s element
element_reaches E host p levels e slot step indices place whole given numbers element s some is group at all holds
    array are that may found read free =
    rw (value_more E host p levels e s some, bare_element e slot step is, is)
    (element_valued E host p (levels - 1) e slot step indices place whole given numbers found s is group at all holds
    array are (subst (λ there. read_of there s.world.store ≡ Ok found) that read) free may)

-- the value of what is written down
pub written_yields : (E : Type 0) (host : Host E) (p : Program) (levels : ℕ) (e : Expression) (found : Value)
    (s : State E) → 0 < levels → is_written (out-Expression (bare e)) ≡ true
    → written_value p (out-Expression (bare e)) s.world ≡ Returns found s.world
    → Yields E host p levels e s found
written_yields E host p levels e found s some written is =
    rw (value_more E host p levels e s some, written, is) refl

module _ (E : Type 0) (host : Host E) (p : Program) (levels : ℕ) (applied : List Value → Result Value VbError)
    (s : State E) where
  -- a function of one argument
  pub one_argument : (e : Expression) (a found : Value) → Yields E host p levels e s a
      → raising (applied (a ∷ [])) ≡ Ok found → GivesAtOnce E host p levels applied (e ∷ []) s found
  one_argument e a found yields gives = rw (yields, gives) refl

  -- of two
  pub two_arguments : (e f : Expression) (a b found : Value) → Yields E host p levels e s a
      → Yields E host p levels f s b → raising (applied (a ∷ b ∷ [])) ≡ Ok found
      → GivesAtOnce E host p levels applied (e ∷ f ∷ []) s found
  two_arguments e f a b found first second gives = rw (first, second, gives) refl

  -- and of three
  pub three_arguments : (e f g : Expression) (a b c found : Value) → Yields E host p levels e s a
      → Yields E host p levels f s b → Yields E host p levels g s c → raising (applied (a ∷ b ∷ c ∷ [])) ≡ Ok found
      → GivesAtOnce E host p levels applied (e ∷ f ∷ g ∷ []) s found
  three_arguments e f g a b c found first second third gives = rw (first, second, third, gives) refl

-- an operator between two operands
pub two_operands : (E : Type 0) (host : Host E) (p : Program) (levels : ℕ) (s : State E) (e : Expression)
    (operation : Operation) (a b found : Value) → Yields E host p levels e s a
    → Yields E host p levels (out-Operation operation).operand s b
    → raising (apply2_of (out-Operation operation).operator a b) ≡ Ok found
    → OperatesAtOnce E host p levels e operation s found
two_operands E host p levels s e operation a b found first second gives others = rw (first, second, gives) refl
