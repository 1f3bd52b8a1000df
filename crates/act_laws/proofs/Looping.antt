-- Loops, in two environments side by side.
use Rattle.std.proofs.Common.{ℕ, zero, suc, ◌+◌, Bool, true, not, if◌then◌else◌, pos, List, [], ◌∷◌, Option, Some, None}
use Rattle.vb_value.specs.declared.limit.LimitKind.TheVariants.{Ticks}
use Rattle.vb_value.specs.declared.value.Value.{Value, Int, out-Value}
use Rattle.vb_value.specs.Conversions.{number_value}
use Rattle.vb_syntax.specs.declared.program.expression.Expression.{Expression}
use Rattle.vb_syntax.specs.declared.program.name.Named.{Named}
use Rattle.vb_syntax.specs.declared.program.statement.Condition.{Condition}
use Rattle.vb_syntax.specs.declared.program.statement.Repetition.{Repetition}
use Rattle.vb_syntax.specs.declared.program.statement.Repetition.TheVariants as repetition
use Rattle.vb_syntax.specs.declared.program.statement.Statement.{Statement}
use Rattle.vb_syntax.specs.declared.statement.ExitKind.{ExitKind}
use Rattle.vb_meaning.specs.declared.range.Range.{Range}
use Rattle.vb_meaning.specs.declared.world.Exit.{Exit}
use Rattle.vb_meaning.specs.declared.world.Exit.TheVariants.{Next, Leave}
use Rattle.vb_meaning.specs.Loops as loops
use Rattle.vb_meaning.specs.State.{Does}
use Rattle.vb_meaning.specs.Statements.{condition}
use Rattle.vb_meaning.specs.Step.{given}
use Rattle.vb_meaning.specs.Values.{copied}
use Rattle.act_laws.proofs.Calling.{block_fits}
use Rattle.act_laws.proofs.Inside.{Inners, one, two, Same, counted_fits}
use Rattle.act_laws.proofs.Joined.{Link}
use Rattle.act_laws.proofs.Linked.{Fits, turned, then_fits, value_fits, limit_fits, given_fits, world_fits}
use Rattle.act_laws.proofs.Linked.{choice_fits, tick_fits}
use Rattle.act_laws.proofs.Statements.{in_head_fits, condition_fits}
use Rattle.act_laws.proofs.Turning.{line_turns}
use Rattle.act_laws.proofs.Wantless.{seeing_wantless, given_wantless}
use Rattle.act_laws.proofs.WantlessScopes.{within_wantless, set_variable_wantless, add_step_wantless}

module _ (l : Link) (i : Inners l) where
  next_turn_fits : {first : Does l.E Exit} {second : Does l.F Exit} (leaves : ExitKind → Bool) → Fits l first second
      → (exit : Exit)
      → Fits l (loops.next_turn l.E (one i) leaves first exit) (loops.next_turn l.F (two i) leaves second exit)
  next_turn_fits leaves fit Next = fit
  next_turn_fits leaves fit (Leave kind) =
      choice_fits (leaves kind) (value_fits l Next) (value_fits l (Leave kind))

  turn_fits : {first : Does l.E Exit} {second : Does l.F Exit} (leaves : ExitKind → Bool) (body : List Statement)
      → Fits l first second
      → Fits l (loops.turn l.E (one i) leaves body first) (loops.turn l.F (two i) leaves body second)
  turn_fits leaves body fit = then_fits
      (then_fits (tick_fits l) (λ done. block_fits l i body)) (next_turn_fits leaves fit)

  -- ---- Do and While

  goes_on_fits : (asked : Condition) → Same l i (λ E m. loops.goes_on E m asked)
  goes_on_fits asked = then_fits (condition_fits l i asked.test)
      (λ holds. value_fits l (if asked.is_until then not holds else holds))

  before_turns_fit : {first : Does l.E Bool} {second : Does l.F Bool} (most : ℕ) (leaves : ExitKind → Bool)
      (body : List Statement) → Fits l first second
      → Fits l (loops.before_turns l.E (one i) most leaves first body)
      (loops.before_turns l.F (two i) most leaves second body)
  before_turns_fit zero leaves body fit = limit_fits l Ticks None
  before_turns_fit (suc more) leaves body fit = then_fits fit (λ holds.
      choice_fits holds (turn_fits leaves body (before_turns_fit more leaves body fit)) (value_fits l Next))

  after_turns_fit : {first : Does l.E Bool} {second : Does l.F Bool} (most : ℕ) (body : List Statement)
      → Fits l first second
      → Fits l (loops.after_turns l.E (one i) most first body) (loops.after_turns l.F (two i) most second body)
  after_turns_fit zero body fit = limit_fits l Ticks None
  after_turns_fit (suc more) body fit = turn_fits loops.leaves_do body (then_fits fit (λ holds.
      choice_fits holds (after_turns_fit more body fit) (value_fits l Next)))

  do_turns_fit : (most : ℕ) (repeated : Repetition) (body : List Statement)
      → Same l i (λ E m. loops.do_turns E m most repeated body)
  do_turns_fit most repetition.Endless body = before_turns_fit most loops.leaves_do body (value_fits l true)
  do_turns_fit most (repetition.Before asked) body =
      before_turns_fit most loops.leaves_do body (goes_on_fits asked)
  do_turns_fit most (repetition.After line asked) body =
      after_turns_fit most body (turned (line_turns l line) (goes_on_fits asked))

  pub do_fits : (repeated : Repetition) (body : List Statement)
      → Same l i (λ E m. loops.do_statement E m repeated body)
  unfolding loops.do_statement
  do_fits repeated body = counted_fits l i (λ E m ticks. loops.do_turns E m (ticks + 1) repeated body)
      (λ ticks. do_turns_fit (ticks + 1) repeated body)

  pub while_fits : (test : Expression) (body : List Statement)
      → Same l i (λ E m. loops.while_statement E m test body)
  unfolding loops.while_statement
  while_fits test body = counted_fits l i
      (λ E m ticks. loops.before_turns E m (ticks + 1) loops.leaves_none (condition E m test) body)
      (λ ticks. before_turns_fit (ticks + 1) loops.leaves_none body (condition_fits l i test))

  -- ---- For

  step_value_fits : (step : Option Expression) → Same l i (λ E m. loops.step_value E m step)
  step_value_fits (Some step) = i.value_fits step
  step_value_fits None = value_fits l (Int (pos 1))

  range_fits : (from to : Expression) (step : Option Expression) → Same l i (λ E m. loops.range E m from to step)
  range_fits from to step = in_head_fits l i (then_fits (i.value_fits from) (λ first.
      then_fits (i.value_fits to) (λ last. then_fits (step_value_fits step) (λ by.
      given_fits l (loops.range_of first last by)))))

  for_turns_fit : (most : ℕ) (variable : Named) (range : Range) (body : List Statement)
      → Same l i (λ E m. loops.for_turns E m most variable range body)
  for_turns_fit zero variable range body = limit_fits l Ticks None
  for_turns_fit (suc more) variable range body = then_fits (world_fits l (within_wantless variable range)) (λ within.
      choice_fits within (turn_fits loops.leaves_for body (then_fits (world_fits l (add_step_wantless variable range))
      (λ done. for_turns_fit more variable range body))) (value_fits l Next))

  pub for_fits : (variable : Named) (from to : Expression) (step : Option Expression) (body : List Statement)
      → Same l i (λ E m. loops.for_statement E m variable from to step body)
  unfolding loops.for_statement
  for_fits variable from to step body = then_fits (range_fits from to step) (λ found.
      then_fits (world_fits l (set_variable_wantless variable (number_value found.from))) (λ done. counted_fits l i
      (λ E m ticks. loops.for_turns E m (ticks + 1) variable found body)
      (λ ticks. for_turns_fit (ticks + 1) variable found body)))

  -- ---- For Each

  each_turns_fit : (variable : Named) (items : List Value) (body : List Statement)
      → Same l i (λ E m. loops.each_turns E m variable items body)
  each_turns_fit variable [] body = value_fits l Next
  each_turns_fit variable (item ∷ items) body =
      then_fits (world_fits l (set_variable_wantless variable (copied item)))
      (λ done. turn_fits loops.leaves_for body (each_turns_fit variable items body))

  pub for_each_fits : (variable : Named) (group : Expression) (body : List Statement)
      → Same l i (λ E m. loops.for_each_statement E m variable group body)
  unfolding loops.for_each_statement
  for_each_fits variable group body = then_fits (i.value_fits group) (λ value.
      then_fits (world_fits l (seeing_wantless (λ world. given (loops.items_of world.store (out-Value value)))
      (λ world. given_wantless (loops.items_of world.store (out-Value value)))))
      (λ items. each_turns_fit variable items body))
