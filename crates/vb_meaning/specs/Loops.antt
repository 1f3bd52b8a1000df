-- Loops (VBScript 5.6 language reference, "Do...Loop Statement", "While...Wend Statement", "For...Next Statement", "For
-- Each...Next Statement"). Each turn takes a tick, so no loop turns more often than there are ticks.
use Rattle.std.specs.Prelude.{ℕ, zero, suc, ◌+◌, Bool, true, false, not, if◌then◌else◌, ℤ, pos, negsuc, List, [], ◌∷◌}
use Rattle.std.specs.Prelude.{Option, Some, None, Result, Ok, Err, map}
use Rattle.vb_value.specs.declared.fault.VbError.{VbError}
use Rattle.vb_value.specs.declared.limit.LimitKind.TheVariants.{Ticks}
use Rattle.vb_value.specs.declared.operator.Op2.{Op2}
use Rattle.vb_value.specs.declared.operator.Op2.TheVariants.{Add, AtMost, AtLeast}
use Rattle.vb_value.specs.declared.value.Array.{Array}
use Rattle.vb_value.specs.declared.value.ObjNo.{ObjNo}
use Rattle.vb_value.specs.declared.value.Value.{Value, Int, out-Value}
use Rattle.vb_value.specs.declared.value.Value.TheOpen.{Value-F}
use Rattle.vb_value.specs.Conversions.{to_number_of, number_value}
use Rattle.vb_value.specs.Errors.{not_a_collection, unsupported, object_not_set, and_then}
use Rattle.vb_value.specs.Numbers.{amount_of}
use Rattle.vb_syntax.specs.declared.program.expression.Expression.{Expression}
use Rattle.vb_syntax.specs.declared.program.name.Named.{Named}
use Rattle.vb_syntax.specs.declared.program.statement.Condition.{Condition}
use Rattle.vb_syntax.specs.declared.program.statement.Repetition.{Repetition}
use Rattle.vb_syntax.specs.declared.program.statement.Repetition.TheVariants as repetition
use Rattle.vb_syntax.specs.declared.program.statement.Statement.{Statement}
use Rattle.vb_syntax.specs.declared.statement.ExitKind.{ExitKind}
use Rattle.vb_syntax.specs.declared.statement.ExitKind.TheVariants as left
use Rattle.vb_ops.specs.Operators.{apply2_of, truth_of}
use Rattle.vb_heap.specs.Entries.{dictionary_of}
use Rattle.vb_heap.specs.Store.{Store}
use Rattle.vb_meaning.specs.declared.range.Range.{Range}
use Rattle.vb_meaning.specs.declared.stop.Stop.TheVariants as stop
use Rattle.vb_meaning.specs.declared.world.Exit.{Exit}
use Rattle.vb_meaning.specs.declared.world.Exit.TheVariants.{Next, Leave}
use Rattle.vb_meaning.specs.World.{World}
use Rattle.vb_meaning.specs.Blocks.{block}
use Rattle.vb_meaning.specs.Errors.{in_line, tick}
use Rattle.vb_meaning.specs.Inner.{Inner}
use Rattle.vb_meaning.specs.Places.{target_variable, read_place, store_place}
use Rattle.vb_meaning.specs.Statements.{in_head, condition}
use Rattle.vb_meaning.specs.Stored.{class_of}
use Rattle.vb_meaning.specs.State.{Does, on_world}
use Rattle.vb_meaning.specs.Step.{Run, ◌>>=◌, ◌>>◌, pure, ends, given}
use Rattle.vb_meaning.specs.Values.{copied}

-- ---- what an Exit leaves

-- whether an Exit leaves a Do, or a For
abbrev pub leaves_do : ExitKind → Bool
leaves_do left.Do = true
leaves_do _ = false

abbrev pub leaves_for : ExitKind → Bool
leaves_for left.For = true
leaves_for _ = false

-- no Exit leaves a While alone
abbrev pub leaves_none : ExitKind → Bool
leaves_none _ = false

-- ---- For

-- the three values are made numbers from left to right
abbrev pub range_of : Value → Value → Value → Result Range VbError
range_of from to step = and_then (to_number_of from) (λ first. and_then (to_number_of to) (λ last.
    and_then (to_number_of step) (λ by. Ok (record { from = first; to = last; step = by }))))

-- how the variable is compared with the last value, by the sign of the step; 0 counts as positive
abbrev pub comparison_by : ℤ → Op2
comparison_by (pos amount) = AtMost
comparison_by (negsuc amount) = AtLeast

-- whether the variable has not passed the last value
abbrev pub is_within : Named → Range → Run World Bool
is_within variable range = target_variable variable >>= (λ place. read_place place >>= (λ value.
    given (apply2_of (comparison_by (amount_of range.step)) value (number_value range.to)) >>= (λ compared.
    given (truth_of compared))))

-- a number into the variable
abbrev pub set_variable : Named → Value → Run World (Unit {0})
set_variable variable value = target_variable variable >>= (λ place. store_place place value)

-- the step is added to the variable
abbrev pub add_step : Named → Range → Run World (Unit {0})
add_step variable range = target_variable variable >>= (λ place. read_place place >>= (λ value.
    given (apply2_of Add value (number_value range.step)) >>= store_place place))

-- ---- For Each

-- the keys of a dictionary; an object of a class has no items
abbrev pub keys_of : ObjNo → Store → Option ℕ → Result (List Value) VbError
keys_of object store None = and_then (dictionary_of object store) (λ found. Ok (map (λ pair. pair.key) found.pairs))
keys_of object store (Some class) = Err unsupported

-- what a For Each goes over: the items of an array, or the keys of a dictionary
abbrev pub items_of : Store → Value-F Value Array → Result (List Value) VbError
items_of store (Value-F.Arr array) = Ok array.items
items_of store (Value-F.Obj object) = and_then (class_of object store) (keys_of object store)
items_of store Value-F.Nothing = Err object_not_set
items_of store _ = Err not_a_collection

module _ (E : Type 0) (m : Inner E) where
  -- how a loop goes on after its body: an Exit that leaves it goes on behind it
  abbrev pub next_turn : (ExitKind → Bool) → Does E Exit → Exit → Does E Exit
  next_turn leaves more Next = more
  next_turn leaves more (Leave kind) = if leaves kind then pure Next else pure (Leave kind)

  -- a turn: a tick, the body, and what follows
  abbrev pub turn : (ExitKind → Bool) → List Statement → Does E Exit → Does E Exit
  turn leaves body more = tick >> block E m body >>= next_turn leaves more

  -- ---- Do and While

  -- whether a Do goes on: While its condition holds, Until it does not
  abbrev pub goes_on : Condition → Does E Bool
  goes_on asked = condition E m asked.test >>= (λ holds. pure (if asked.is_until then not holds else holds))

  -- a loop whose test stands before each turn, at most so many more turns
  abbrev pub before_turns : ℕ → (ExitKind → Bool) → Does E Bool → List Statement → Does E Exit
  before_turns zero leaves test body = ends (stop.Limit Ticks None)
  before_turns (suc more) leaves test body = test >>= (λ holds.
      if holds then turn leaves body (before_turns more leaves test body) else pure Next)

  -- a loop whose test stands after each turn, at most so many more turns
  abbrev pub after_turns : ℕ → Does E Bool → List Statement → Does E Exit
  after_turns zero test body = ends (stop.Limit Ticks None)
  after_turns (suc more) test body = turn leaves_do body (test >>= (λ holds.
      if holds then after_turns more test body else pure Next))

  -- a Do, by where its condition stands; one behind Loop has a line of its own
  abbrev pub do_turns : ℕ → Repetition → List Statement → Does E Exit
  do_turns most repetition.Endless body = before_turns most leaves_do (pure true) body
  do_turns most (repetition.Before asked) body = before_turns most leaves_do (goes_on asked) body
  do_turns most (repetition.After line asked) body = after_turns most (λ s. in_line line (goes_on asked s)) body

  unfoldable pub do_statement : Repetition → List Statement → Does E Exit
  do_statement repeated body s = do_turns (s.ticks + 1) repeated body s

  unfoldable pub while_statement : Expression → List Statement → Does E Exit
  while_statement test body s = before_turns (s.ticks + 1) leaves_none (condition E m test) body s

  -- ---- For

  -- the expression of the step, which is 1 where it is left out
  abbrev pub step_value : Option Expression → Does E Value
  step_value (Some step) = m.value step
  step_value None = pure (Int (pos 1))

  -- the three expressions are the head, from left to right
  abbrev pub range : Expression → Expression → Option Expression → Does E Range
  range from to step = in_head E m (m.value from >>= (λ first. m.value to >>= (λ last.
      step_value step >>= (λ by. given (range_of first last by)))))

  -- at most so many more turns: the test, the body, and the step
  abbrev pub for_turns : ℕ → Named → Range → List Statement → Does E Exit
  for_turns zero variable range body = ends (stop.Limit Ticks None)
  for_turns (suc more) variable range body = on_world (is_within variable range) >>= (λ within.
      if within then turn leaves_for body (on_world (add_step variable range) >> for_turns more variable range body)
      else pure Next)

  unfoldable pub for_statement : Named → Expression → Expression → Option Expression → List Statement → Does E Exit
  for_statement variable from to step body = range from to step >>= (λ found.
      on_world (set_variable variable (number_value found.from)) >>
      (λ s. for_turns (s.ticks + 1) variable found body s))

  -- ---- For Each

  -- item by item
  abbrev pub each_turns : Named → List Value → List Statement → Does E Exit
  each_turns variable [] body = pure Next
  each_turns variable (item ∷ items) body = on_world (set_variable variable (copied item)) >>
      turn leaves_for body (each_turns variable items body)

  -- what is gone over is held to the end of the whole statement
  unfoldable pub for_each_statement : Named → Expression → List Statement → Does E Exit
  for_each_statement variable group body = m.value group >>= (λ value.
      on_world (λ world. given (items_of world.store (out-Value value)) world) >>= (λ items.
      each_turns variable items body))
