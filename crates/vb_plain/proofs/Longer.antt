-- Assignments `x = x & ..` by which the text of a variable grows where it lies.
use Rattle.std.proofs.Common.{◌≡◌, ◌≢◌, ℕ, ℤ, ◌+◌, ◌-◌, ◌<◌, ◌≤◌, List, [], ◌∷◌, ◌++◌, length, Result, Ok, true, false, if◌then◌else◌, nat_le}
use Rattle.std.proofs.Common.{ap, sym, subst, ◌∙◌, refl, arith}
use Rattle.std.proofs.lemmas.List.{append_assoc, append-nil, length-append}
use Rattle.std.proofs.lemmas.Bool.Decides.{nat_tests}
use Rattle.vb_value.specs.Arguments.{checked}
use Rattle.vb_value.specs.Errors.{type_mismatch}
use Rattle.vb_value.specs.declared.operator.Op2.TheVariants.{Join}
use Rattle.vb_value.specs.declared.value.Array.{Array}
use Rattle.vb_value.specs.declared.value.Value.{Value, Str}
use Rattle.vb_value.specs.declared.value.Value.TheViews.{rolls-Str, outs-Str}
use Rattle.vb_value.specs.declared.value.Value.TheOpen.{Value-F}
use Rattle.vb_value.specs.declared.value.Value.TheFolds.{fold-roll-Value}
use Rattle.vb_value.specs.TextLimit.{limited}
use Rattle.vb_ops.specs.Joining.{text_of}
use Rattle.vb_ops.specs.Operators.{apply2_of}
use Rattle.vb_syntax.specs.declared.program.Program.{Program}
use Rattle.vb_syntax.specs.declared.program.expression.Expression.{Expression, out-Expression}
use Rattle.vb_syntax.specs.declared.program.expression.Expression.TheOpen.{Expression-F}
use Rattle.vb_syntax.specs.declared.program.expression.Head.TheVariants as head
use Rattle.vb_syntax.specs.declared.program.expression.Operation.{Operation, out-Operation}
use Rattle.vb_syntax.specs.declared.program.expression.Path.{Path}
use Rattle.vb_syntax.specs.declared.program.name.Named.TheVariants as named
use Rattle.vb_syntax.specs.declared.program.name.Slot.{Slot}
use Rattle.vb_syntax.specs.declared.program.name.Slot.TheVariants as slot
use Rattle.vb_heap.specs.Appended.{append_of, with_appended}
use Rattle.vb_heap.specs.Cells.{read_of, store_of, with_stored}
use Rattle.vb_heap.specs.Store.{Store}
use Rattle.vb_heap.specs.References.{references, value_references, array_references}
use Rattle.vb_heap.specs.declared.place.CellNo.{CellNo}
use Rattle.vb_heap.specs.declared.place.Place.{Place}
use Rattle.vb_meaning.specs.declared.reached.Assigned.TheVariants as assigned
use Rattle.vb_meaning.specs.declared.stop.Stop.{Stop}
use Rattle.vb_meaning.specs.declared.stop.Stop.TheVariants as stop
use Rattle.vb_meaning.specs.declared.world.Exit.TheVariants.{Next}
use Rattle.vb_meaning.specs.Asking.{Host}
use Rattle.vb_meaning.specs.Inner.{Inner}
use Rattle.vb_meaning.specs.Assigning.{assign_to, into_slot, into_place}
use Rattle.vb_meaning.specs.Expressions.{bare, value_of, operations}
use Rattle.vb_meaning.specs.Meaning.{value, inside}
use Rattle.vb_meaning.specs.Places.{cell_place, variable, store_place, is_fixed, is_fixed_layer}
use Rattle.vb_meaning.specs.State.{State, on_world, on_store, store_answer}
use Rattle.vb_meaning.specs.Statements.{assignment}
use Rattle.vb_meaning.specs.Step.{Run, Returns, Ends, ◌>>=◌, and_then, given, fails, pure}
use Rattle.vb_meaning.specs.Values.{copied, value_copied, array_copied}
use Rattle.vb_meaning.specs.World.{World}
use Rattle.vb_meaning.proofs.Down.{value_more, assign_more}
use Rattle.vb_plain.specs.Growing.{Lengthens, Grows}
use Rattle.vb_plain.specs.Lent.{IsVariable, IsPlain, MayHold, Yields}
use Rattle.vb_plain.proofs.Lending.{holding_free, variable_yields}

-- the parts of an assignment that makes a text longer
pub lengthens : (target : Path) (given first : Expression) (slot : Slot) (rest : List Operation)
    → target.head ≡ head.Named (named.Place slot) → target.steps ≡ [] → IsVariable first slot
    → out-Expression given ≡ Expression-F.Chain first rest → Lengthens target given slot rest
lengthens target given first slot rest at alone is chain =
    record { at = at; alone = alone; first = first; variable = is; chain = chain }

-- a text and a value that is joined to it
joins : (text more : List ℕ) (value : Value) → checked value ≡ Ok tt → text_of value ≡ Ok more
    → nat_le (length (text ++ more)) 1048576 ≡ true → apply2_of Join (Str text) value ≡ Ok (Str (text ++ more))
joins text more value is joined fits = rw (is, joined, fits) refl

module _ (E : Type 0) (host : Host E) (p : Program) where
  -- one operation that joins a value to a text, and changes nothing
  pub joins_more : (levels : ℕ) (s : State E) (operation : Operation) (held before more : List ℕ) (value : Value)
      → (out-Operation operation).operator ≡ Join → Yields E host p levels (out-Operation operation).operand s value
      → checked value ≡ Ok tt → text_of value ≡ Ok more → length held + length before + length more ≤ 1048576
      → (others : List Operation)
      → operations E (inside E host p levels) (Str (held ++ before)) (operation ∷ others) s
      ≡ operations E (inside E host p levels) (Str (held ++ (before ++ more))) others s
  joins_more levels s operation held before more value join yields is joined fits others =
      let within : nat_le (length ((held ++ before) ++ more)) 1048576 ≡ true =
      rw (length-append (held ++ before) more, length-append held before) (grind (arith, nat_tests)) in
      rw (join, yields, joins (held ++ before) more value is joined within, append_assoc held before more) refl

-- a text has no reference
free_text : (text : List ℕ) → references (Str text) ≡ []
free_text text = ap references (sym (rolls-Str text))
    ∙ fold-roll-Value (List ℕ) (List ℕ) value_references array_references (Value-F.Str text)

-- a text is no array of a fixed size
text_moves : (text : List ℕ) → is_fixed (Str text) ≡ false
text_moves text = ap is_fixed_layer (outs-Str text)

-- where a longer text is stored, it is appended
stored_answer : (cell : CellNo) (text more : List ℕ) (store : Store) → read_of (cell_place cell) store ≡ Ok (Str text)
    → store_of (cell_place cell) (Str (text ++ more)) store ≡ append_of cell more store
stored_answer cell text more store there = rw there refl

stored_data : (cell : CellNo) (text more : List ℕ) (store : Store) → read_of (cell_place cell) store ≡ Ok (Str text)
    → with_stored (cell_place cell) (Str (text ++ more)) store ≡ with_appended cell more store
stored_data cell text more store there = rw there refl

-- the place of a text takes another value
text_goes : (text : List ℕ) (other : Run World (Unit {0})) (w : World)
    → and_then (given (Ok (Str text)) w) (λ old. if is_fixed old then fails type_mismatch else other) ≡ other w
text_goes text other w = rw (text_moves text) refl

stored_place : (cell : CellNo) (text : List ℕ) (new : Value) (w : World)
    → read_of (cell_place cell) w.store ≡ Ok (Str text)
    → store_place (cell_place cell) new w ≡ on_store (store_of (cell_place cell) new) (with_stored (cell_place cell) new) w
unfolding store_place
stored_place cell text new w there =
    let run : Run World (Unit {0}) = on_store (store_of (cell_place cell) new) (with_stored (cell_place cell) new) in
    ap (λ found. and_then (given found w) (λ old. if is_fixed old then fails type_mismatch else run)) there
    ∙ text_goes text run w

pub stores : (cell : CellNo) (text more : List ℕ) (w : World) → read_of (cell_place cell) w.store ≡ Ok (Str text)
    → store_place (cell_place cell) (Str (text ++ more)) w ≡ on_store (append_of cell more) (with_appended cell more) w
stores cell text more w there =
    let longer : Store = with_stored (cell_place cell) (Str (text ++ more)) w.store in
    stored_place cell text (Str (text ++ more)) w there
    ∙ (ap (λ answer. store_answer answer (record w { store = longer }) w) (stored_answer cell text more w.store there)
    ∙ ap (λ store. store_answer (append_of cell more w.store) (record w { store = store }) w)
    (stored_data cell text more w.store there))

-- a text is its own copy
own_text : (text : List ℕ) → copied (Str text) ≡ Str text
own_text text = ap copied (sym (rolls-Str text))
    ∙ (fold-roll-Value Value Array value_copied array_copied (Value-F.Str text) ∙ rolls-Str text)

plain_text : (text : List ℕ) → IsPlain (Str text)
plain_text text = record { own = own_text text; free = free_text text }

-- a chain that changes nothing and comes to a text
chained : (E : Type 0) (host : Host E) (p : Program) (levels : ℕ) (given first : Expression) (rest : List Operation)
    (text longer : List ℕ) (s : State E) → out-Expression given ≡ Expression-F.Chain first rest
    → Yields E host p levels first s (Str text)
    → operations E (inside E host p levels) (Str text) rest s ≡ Returns (Str longer) s → MayHold s.world.store
    → value_of E (inside E host p levels) given s ≡ Returns (Str longer) s
unfolding value_of
chained E host p levels given first rest text longer s chain yields joined may =
    rw (chain, yields, joined, holding_free (Str longer) s.world (free_text longer) may) refl

chain_yields : (E : Type 0) (host : Host E) (p : Program) (levels : ℕ) (given first : Expression)
    (rest : List Operation) (text longer : List ℕ) (s : State E) → 0 < levels
    → out-Expression given ≡ Expression-F.Chain first rest → Yields E host p (levels - 1) first s (Str text)
    → operations E (inside E host p (levels - 1)) (Str text) rest s ≡ Returns (Str longer) s → MayHold s.world.store
    → Yields E host p levels given s (Str longer)
chain_yields E host p levels given first rest text longer s some chain yields joined may =
    let alone : bare given ≡ given = rw chain refl in
    rw (value_more E host p levels given s some, alone, chain)
    (chained E host p (levels - 1) given first rest text longer s chain yields joined may)

-- a value into a variable alone
into_variable : (E : Type 0) (m : Inner E) (found : Slot) (value : Value) (s : State E)
    → into_slot E m assigned.Let found [] value s
    ≡ (on_world (variable found) >>= into_place E m assigned.Let [] value) s
into_variable E m (slot.Page number) value s = refl
into_variable E m (slot.Local number) value s = refl
into_variable E m (slot.Field number) value s = refl
into_variable E m slot.Result value s = refl

into_target : (E : Type 0) (m : Inner E) (target : Path) (found : Slot) (place : Place) (value : Value) (s : State E)
    → target.head ≡ head.Named (named.Place found) → target.steps ≡ []
    → variable found s.world ≡ Returns place s.world
    → assign_to E m assigned.Let target value s ≡ on_world (store_place place value) s
unfolding assign_to
into_target E m target found place value s at alone is =
    rw (at, alone, into_variable E m found value s, is) refl

-- the whole assignment
assigned_text : (E : Type 0) (host : Host E) (p : Program) (levels : ℕ) (target : Path) (given : Expression)
    (found : Slot) (place : Place) (text : List ℕ) (s : State E) → 0 < levels
    → target.head ≡ head.Named (named.Place found) → target.steps ≡ []
    → variable found s.world ≡ Returns place s.world → Yields E host p levels given s (Str text)
    → assignment E (inside E host p levels) assigned.Let target given s
    ≡ and_then (on_world (store_place place (Str text)) s) (λ _. pure Next)
unfolding assignment
assigned_text E host p levels target given found place text s some at alone is yields =
    rw (
      yields,
      assign_more E host p levels assigned.Let target (Str text) s some,
      into_target E (inside E host p (levels - 1)) target found place (Str text) s at alone is,
    ) refl

-- an element of what a cell holds
abbrev place_of : CellNo → List (List ℤ) → Place
place_of cell steps = record { cell = cell; steps = steps }

-- what makes an assignment one by which a text grows
pub grows : (E : Type 0) (host : Host E) (p : Program) (levels : ℕ) (target : Path) (given : Expression)
    (found : Slot) (rest : List Operation) (place : Place) (text more : List ℕ) (s : State E) → 2 ≤ levels
    → Lengthens target given found rest → variable found s.world ≡ Returns place s.world → place.steps ≡ []
    → read_of place s.world.store ≡ Ok (Str text)
    → operations E (inside E host p (levels - 1)) (Str text) rest s ≡ Returns (Str (text ++ more)) s
    → MayHold s.world.store → Grows E host p levels target given s place.cell more
grows E host p levels target given found rest place text more s some parts is alone read joined may =
    let cell : cell_place place.cell ≡ place = ap (λ steps. place_of place.cell steps) (sym alone) in
    let first : Yields E host p (levels - 1) parts.first s (Str text) =
    variable_yields E host p (levels - 1) parts.first found place (Str text) s (omega arith) parts.variable is read
    (plain_text text) may in
    let whole : Yields E host p levels given s (Str (text ++ more)) =
    chain_yields E host p levels given parts.first rest text (text ++ more) s (omega arith) parts.chain first joined
    may in
    record {
      text = text;
      there = ap (λ at. read_of at s.world.store) cell ∙ read;
      does = assigned_text E host p levels target given found place (text ++ more) s (omega arith) parts.at parts.alone
          is whole
          ∙ ap (λ at. and_then (on_world (store_place at (Str (text ++ more))) s) (λ _. pure Next)) (sym cell);
    }

module _ (E : Type 0) (host : Host E) (p : Program) (levels : ℕ) (target : Path) (given : Expression) (s : State E)
    (cell : CellNo) (more : List ℕ) (world : World) (grown : Grows E host p levels target given s cell more) where
  -- where the longer text is stored, the assignment is done
  pub assigns : ((text : List ℕ) → read_of (cell_place cell) s.world.store ≡ Ok (Str text)
      → store_place (cell_place cell) (Str (text ++ more)) s.world ≡ Returns tt world)
      → assignment E (inside E host p levels) assigned.Let target given s ≡ Returns Next (record s { world = world })
  assigns stored = grown.does ∙ rw (stored grown.text grown.there) refl

  -- and where that is refused, it ends so
  pub refuses : (why : Stop) → ((text : List ℕ) → read_of (cell_place cell) s.world.store ≡ Ok (Str text)
      → why ≢ stop.Memory → store_place (cell_place cell) (Str (text ++ more)) s.world ≡ Ends why world)
      → why ≢ stop.Memory
      → assignment E (inside E host p levels) assigned.Let target given s ≡ Ends why (record s { world = world })
  refuses why stored some = grown.does ∙ rw (stored grown.text grown.there some) refl

pub ruleset assigning = (assigns, refuses)
