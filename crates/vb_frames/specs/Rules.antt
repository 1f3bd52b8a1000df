-- What each frame does with what reaches it, and what each next step is.
use Rattle.std.specs.Prelude.{ℕ, Bool, true, false, not, if◌then◌else◌, drop}
use Rattle.vb_value.specs.declared.value.Value.{Value}
use Rattle.vb_syntax.specs.declared.program.Program.{Program}
use Rattle.vb_syntax.specs.declared.program.statement.Repetition.{Repetition}
use Rattle.vb_syntax.specs.declared.program.statement.Repetition.TheVariants as repetition
use Rattle.vb_syntax.specs.declared.program.statement.StatementKind.{out-StatementKind}
use Rattle.vb_syntax.specs.declared.program.statement.StatementKind.TheOpen.{StatementKind-F}
use Rattle.vb_syntax.specs.declared.statement.ExitKind.{ExitKind}
use Rattle.vb_ops.specs.Operators.{apply1_of, apply2_of, truth_of}
use Rattle.vb_meaning.specs.declared.reached.Assigned.TheVariants.{Let as ByLet, Set as BySet}
use Rattle.vb_meaning.specs.declared.stop.Stop.TheVariants as stop
use Rattle.vb_meaning.specs.declared.world.Exit.{Exit}
use Rattle.vb_meaning.specs.declared.world.Exit.TheVariants as exit
use Rattle.vb_meaning.specs.Asking.{Host}
use Rattle.vb_meaning.specs.Assigning.{assignable}
use Rattle.vb_meaning.specs.Blocks.{after, block}
use Rattle.vb_meaning.specs.Errors.{in_line, resumed, tick}
use Rattle.vb_meaning.specs.Executing.{does, Said as Stated}
use Rattle.vb_meaning.specs.Expressions.{operations}
use Rattle.vb_meaning.specs.Loops.{before_turns, next_turn, turn, goes_on, leaves_do, leaves_none}
use Rattle.vb_meaning.specs.Meaning.{value, assign, statement, inside}
use Rattle.vb_meaning.specs.Places.{holding}
use Rattle.vb_meaning.specs.Releases.{release}
use Rattle.vb_meaning.specs.State.{State, Does, on_world}
use Rattle.vb_meaning.specs.Statements.{condition}
use Rattle.vb_meaning.specs.Step.{Step, and_then, ◌>>=◌, ◌>>◌, pure, ends, given}
use Rattle.vb_frames.specs.declared.frame.ExpressionFrame.{ExpressionFrame}
use Rattle.vb_frames.specs.declared.frame.ExpressionFrame.TheVariants as expression
use Rattle.vb_frames.specs.declared.frame.StatementFrame.{StatementFrame}
use Rattle.vb_frames.specs.declared.frame.StatementFrame.TheVariants as stated
use Rattle.vb_frames.specs.declared.frame.Frame.{Frame}
use Rattle.vb_frames.specs.declared.frame.Frame.TheVariants as frame
use Rattle.vb_frames.specs.declared.got.Got.{Got}
use Rattle.vb_frames.specs.declared.got.Got.TheVariants as got
use Rattle.vb_frames.specs.declared.next.Next.{Next}
use Rattle.vb_frames.specs.declared.next.Next.TheVariants as next
use Rattle.vb_frames.specs.declared.next.Go.{Go}
use Rattle.vb_frames.specs.declared.next.Go.TheVariants as go
use Rattle.vb_frames.specs.Caught.{mapped, as_value, as_truth, as_exit, step_of}
use Rattle.vb_frames.specs.Places.{At, OfExpression, OfStatement, part, operations_of, block_of, body_in, body_at}

-- a thing that doesn't fit
abbrev pub misfit : {E A : Type 0} → Does E A
misfit = ends stop.Memory

-- the value that a frame keeps
abbrev pub kept_value : {E : Type 0} → Got → Does E Value
kept_value kept s = as_value (step_of kept s)

-- a value, which is held
abbrev pub held : {E : Type 0} → Step (State E) Value → Step (State E) Value
held st = and_then st (λ found. on_world (holding found))

-- ---- loops with their test before each turn

-- which Exit leaves a loop
abbrev pub leaves_in : Stated → ExitKind → Bool
leaves_in (StatementKind-F.Do repeated body) = leaves_do
leaves_in _ = leaves_none

abbrev pub leaves_at : At → ExitKind → Bool
leaves_at (OfStatement found) = leaves_in (out-StatementKind found.kind)
leaves_at _ = leaves_none

-- whether a loop ends where its condition holds
abbrev pub until_of : Repetition → Bool
until_of (repetition.Before asked) = asked.is_until
until_of _ = false

abbrev pub until_in : Stated → Bool
until_in (StatementKind-F.Do repeated body) = until_of repeated
until_in _ = false

abbrev pub until_at : At → Bool
until_at (OfStatement found) = until_in (out-StatementKind found.kind)
until_at _ = false

module _ (E : Type 0) (host : Host E) (p : Program) where
  -- ---- what a node does, where so many more levels may be begun

  abbrev pub value_at : ℕ → At → Does E Value
  value_at levels (OfExpression found) = value E host p levels found
  value_at levels _ = misfit

  abbrev pub statement_at : ℕ → At → Does E Exit
  statement_at levels (OfStatement found) = statement E host p levels found
  statement_at levels _ = misfit

  abbrev pub does_at : ℕ → At → Does E Exit
  does_at levels (OfStatement found) = does E (inside E host p levels) (out-StatementKind found.kind)
  does_at levels _ = misfit

  abbrev pub condition_at : ℕ → At → Does E Bool
  condition_at levels (OfExpression found) = condition E (inside E host p levels) found
  condition_at levels _ = misfit

  -- a value is assigned
  abbrev pub assigns_in : ℕ → Stated → Value → Does E Exit
  assigns_in levels (StatementKind-F.Assign target found) given_value =
      given (assignable ByLet given_value) >> assign E host p levels ByLet target given_value >> pure exit.Next
  assigns_in levels (StatementKind-F.Set target found) given_value =
      given (assignable BySet given_value) >> assign E host p levels BySet target given_value >> pure exit.Next
  assigns_in levels _ given_value = misfit

  abbrev pub assigns_at : ℕ → At → Value → Does E Exit
  assigns_at levels (OfStatement found) = assigns_in levels (out-StatementKind found.kind)
  assigns_at levels _ = λ given_value. misfit

  -- statements from one of them on
  abbrev pub block_from : ℕ → ℕ → At → Does E Exit
  block_from levels at here = block E (inside E host p levels) (drop at (block_of here))

  abbrev pub test_of : ℕ → Repetition → Does E Bool
  test_of levels repetition.Endless = pure true
  test_of levels (repetition.Before asked) = goes_on E (inside E host p levels) asked
  test_of levels (repetition.After line asked) = misfit

  abbrev pub test_in : ℕ → Stated → Does E Bool
  test_in levels (StatementKind-F.Do repeated body) = test_of levels repeated
  test_in levels (StatementKind-F.While asked body) = condition E (inside E host p levels) asked
  test_in levels _ = misfit

  -- the turns of a loop, at most so many
  abbrev pub turns_in : ℕ → ℕ → Stated → Does E Exit
  turns_in levels more said =
      before_turns E (inside E host p levels) more (leaves_in said) (test_in levels said) (block_of (body_in said))

  abbrev pub turns_at : ℕ → ℕ → At → Does E Exit
  turns_at levels more (OfStatement found) = turns_in levels more (out-StatementKind found.kind)
  turns_at levels more _ = misfit

  -- ---- what a frame does with what reaches it, at its node

  abbrev pub expression_rule : ExpressionFrame → Got → At → Step (State E) Got → Step (State E) Got
  expression_rule expression.Hold kept here st = mapped got.Value (held (as_value st))
  expression_rule (expression.Prefix operator) kept here st =
      mapped got.Value (held (and_then (as_value st) (λ found. given (apply1_of operator found))))
  expression_rule (expression.ChainFirst levels) kept here st = mapped got.Value (held (and_then (as_value st)
      (λ left. operations E (inside E host p levels) left (operations_of here))))
  expression_rule (expression.ChainNext operator levels at) kept here st = mapped got.Value (held (and_then (as_value st)
      (λ right. kept_value kept >>= (λ left. given (apply2_of operator left right) >>= (λ found.
      operations E (inside E host p levels) found (drop at (operations_of here)))))))

  abbrev pub statement_rule : StatementFrame → Got → At → Step (State E) Got → Step (State E) Got
  statement_rule (stated.Whole mark line levels) kept here st = mapped got.Exit
      (in_line line (release E (inside E host p levels) mark (resumed exit.Next (as_exit st))))
  statement_rule (stated.Test mark levels) kept here st = mapped got.Truth
      (release E (inside E host p levels) mark (and_then (as_value st) (λ found. given (truth_of found))))
  statement_rule (stated.Assigns levels) kept here st = mapped got.Exit (and_then (as_value st) (assigns_at levels here))
  statement_rule (stated.Block levels at) kept here st = mapped got.Exit (and_then (as_exit st)
      (after E (inside E host p levels) (block_from levels at here)))
  statement_rule (stated.LoopTest levels more) kept here st = mapped got.Exit (and_then (as_truth st) (λ holds.
      if (if until_at here then not holds else holds) then turn E (inside E host p levels) (leaves_at here)
      (block_of (body_at p here)) (turns_at levels more here) else pure exit.Next))
  statement_rule (stated.Turn levels more) kept here st = mapped got.Exit (and_then (as_exit st)
      (next_turn E (inside E host p levels) (leaves_at here) (turns_at levels more here)))

  abbrev pub rule : Frame → Got → At → Step (State E) Got → Step (State E) Got
  rule (frame.Expression found) = expression_rule found
  rule (frame.Statement found) = statement_rule found

  -- ---- what comes next, at a node, where this was got

  abbrev pub starts : Next → Got → At → State E → Step (State E) Got
  starts (next.Value levels) found here s = mapped got.Value (value_at levels here s)
  starts (next.Run levels) found here s = mapped got.Exit (block_from levels 0 here s)
  starts (next.Statement levels) found here s = mapped got.Exit (statement_at levels here s)
  starts (next.Condition levels) found here s = mapped got.Truth (condition_at levels here s)
  starts (next.Turns levels more) found here s = mapped got.Exit (turns_at levels more here s)
  starts (next.TickDoes levels) found here s = mapped got.Exit ((tick >> does_at levels here) s)
  starts (next.TickBody levels) found here s = mapped got.Exit ((tick >> block_from levels 0 here) s)
  starts next.Done found here s = step_of found s

  -- where a step at a node leads, if a frame keeps the first of these and the other was got
  abbrev pub leads : Go → Got → Got → At → State E → Step (State E) Got
  leads (go.Same follows) kept found here s = starts follows found here s
  leads (go.Under above follows below) kept found here s = rule above kept here (starts follows found (part p below here) s)
