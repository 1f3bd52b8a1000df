-- Statements as a whole, and the meaning of a program level by level, in two environments side by side.
use Rattle.std.proofs.Common.{ℕ, zero, suc, true, false, if◌then◌else◌, List, ◌≡◌, refl}
use Rattle.vb_value.specs.declared.value.Value.{Value, Str}
use Rattle.vb_syntax.specs.declared.member.Member.{Member}
use Rattle.vb_syntax.specs.declared.program.Program.{Program}
use Rattle.vb_syntax.specs.declared.program.expression.Expression.{Expression, out-Expression}
use Rattle.vb_syntax.specs.declared.program.expression.Path.{Path}
use Rattle.vb_syntax.specs.declared.program.statement.Statement.{Statement}
use Rattle.vb_syntax.specs.declared.program.statement.StatementKind.{out-StatementKind}
use Rattle.vb_syntax.specs.declared.program.statement.StatementKind.TheOpen.{StatementKind-F}
use Rattle.vb_syntax.specs.declared.program.unit.Procedure.{Procedure}
use Rattle.vb_syntax.specs.declared.statement.ExitKind.{ExitKind}
use Rattle.vb_meaning.specs.declared.reached.Argument.{Argument}
use Rattle.vb_meaning.specs.declared.reached.Argument.TheVariants.{Value as OfValue}
use Rattle.vb_meaning.specs.declared.reached.Assigned.{Assigned}
use Rattle.vb_meaning.specs.declared.reached.Assigned.TheVariants.{Let as ByLet, Set as BySet}
use Rattle.vb_meaning.specs.declared.world.Exit.{Exit}
use Rattle.vb_meaning.specs.declared.world.Exit.TheVariants.{Next, Leave}
use Rattle.vb_meaning.specs.World.{World}
use Rattle.vb_meaning.specs.Asking.{ask}
use Rattle.vb_meaning.specs.Errors.{cleared}
use Rattle.vb_meaning.specs.Executing as executing
use Rattle.vb_meaning.specs.Expressions.{bare}
use Rattle.vb_meaning.specs.Inner.{Owner}
use Rattle.vb_meaning.specs.Meaning as meaning
use Rattle.vb_meaning.specs.State.{Does}
use Rattle.vb_meaning.specs.Statements.{clears_err}
use Rattle.act_laws.proofs.Keeping.{told}
use Rattle.act_laws.proofs.Assigning.{assign_to_fits}
use Rattle.act_laws.proofs.Calling.{enter_of_fits}
use Rattle.act_laws.proofs.Expressions.{valued_fits, argument_of_fits, written_or_fits}
use Rattle.act_laws.proofs.Inside.{Inners, one, two, Same}
use Rattle.act_laws.proofs.Joined.{Link}
use Rattle.act_laws.proofs.Linked.{Fits, turned, then_fits, value_fits, tick_fits, world_fits}
use Rattle.act_laws.proofs.Looping.{do_fits, while_fits, for_fits, for_each_fits}
use Rattle.act_laws.proofs.Holding.{Carried, carried_still}
use Rattle.act_laws.proofs.Releasing.{release_fits}
use Rattle.act_laws.proofs.Statements.{redim_fits, assignment_fits, if_fits, select_fits, with_fits, call_of_fits}
use Rattle.act_laws.proofs.Statements.{write_fits, handles_fit}
use Rattle.act_laws.proofs.Turning.{line_turns, resumed_turns}
use Rattle.act_laws.proofs.Wantless.{deep_wantless, change_wantless}
use Rattle.act_laws.proofs.WantlessScopes.{erase_all_wantless}

-- ---- statements

-- what an Exit does to Err leaves the account of objects
left_still : (kind : ExitKind) (world : World)
    → told (if clears_err kind then cleared world else world) ≡ told world
left_still kind world = elim (clears_err kind)
    as (λ b. told (if b then cleared world else world) ≡ told world) [
      | true ↦ refl
      | false ↦ refl
    ]

-- and what is held
left_carried : (kind : ExitKind) (world : World)
    → Carried world (if clears_err kind then cleared world else world)
left_carried kind world = elim (clears_err kind)
    as (λ b. Carried world (if b then cleared world else world)) [
      | true ↦ carried_still world
      | false ↦ carried_still world
    ]

module _ (l : Link) (i : Inners l) where
  pub does_fits : (said : executing.Said) → Same l i (λ E m. executing.does E m said)
  does_fits StatementKind-F.Declaration = value_fits l Next
  does_fits StatementKind-F.Dim = value_fits l Next
  does_fits (StatementKind-F.ReDim preserve arrays) =
      then_fits (redim_fits l i preserve arrays) (λ done. value_fits l Next)
  does_fits (StatementKind-F.Set target value) = assignment_fits l i BySet target value
  does_fits (StatementKind-F.Assign target value) = assignment_fits l i ByLet target value
  does_fits (StatementKind-F.Call callee) = then_fits (i.call_fits callee) (λ done. value_fits l Next)
  does_fits (StatementKind-F.If test branch others otherwise) = if_fits l i test branch others otherwise
  does_fits (StatementKind-F.Select subject cases otherwise) = select_fits l i subject cases otherwise
  does_fits (StatementKind-F.For variable from to step body) = for_fits l i variable from to step body
  does_fits (StatementKind-F.ForEach variable group body) = for_each_fits l i variable group body
  does_fits (StatementKind-F.Do repeated body) = do_fits l i repeated body
  does_fits (StatementKind-F.While test body) = while_fits l i test body
  does_fits (StatementKind-F.With subject body) = with_fits l i subject body
  does_fits (StatementKind-F.Exit kind) = world_fits l
      (change_wantless (Leave kind) (λ world. if clears_err kind then cleared world else world) (left_still kind)
      (left_carried kind))
  does_fits StatementKind-F.OnErrorResumeNext = handles_fit l i true
  does_fits StatementKind-F.OnErrorGoToZero = handles_fit l i false
  does_fits (StatementKind-F.Erase arrays) =
      then_fits (world_fits l (erase_all_wantless arrays)) (λ done. value_fits l Next)
  does_fits (StatementKind-F.PageText text) = write_fits l i (Str text)
  does_fits (StatementKind-F.PageWrite value) = then_fits (i.value_fits value) (write_fits l i)

  whole_fits : {first : Does l.E Exit} {second : Does l.F Exit} (line : ℕ) → Fits l first second
      → Fits l (executing.whole l.E (one i) line first) (executing.whole l.F (two i) line second)
  whole_fits line fit = turned (line_turns l line) (release_fits l i (turned (resumed_turns l Next) fit))

  executed_fits : (line : ℕ) (said : executing.Said) → Same l i (λ E m. executing.executed E m line said)
  executed_fits line StatementKind-F.Declaration = value_fits l Next
  executed_fits line said = whole_fits line (then_fits (tick_fits l) (λ done. does_fits said))

  pub statement_of_fits : (found : Statement) → Same l i (λ E m. executing.statement_of E m found)
  unfolding executing.statement_of
  statement_of_fits found = executed_fits found.line (out-StatementKind found.kind)

pub refused_fits : (l : Link) (line : ℕ) (said : executing.Said)
    → Fits l (executing.refused line said) (executing.refused line said)
refused_fits l line StatementKind-F.Declaration = value_fits l Next
refused_fits l line said =
    turned (line_turns l line) (turned (resumed_turns l Next) (world_fits l deep_wantless))

-- ---- levels

-- the constructs of a program, where so many more may be begun
pub record Levels (l : Link) (program : Program) (levels : ℕ) : Type 0 where
  pub value : (x : Expression)
      → Fits l (meaning.value l.E l.host program levels x) (meaning.value l.F l.other program levels x)
  pub argument : (x : Expression)
      → Fits l (meaning.argument l.E l.host program levels x) (meaning.argument l.F l.other program levels x)
  pub assign : (how : Assigned) (path : Path) (found : Value)
      → Fits l (meaning.assign l.E l.host program levels how path found)
      (meaning.assign l.F l.other program levels how path found)
  pub call : (path : Path)
      → Fits l (meaning.call l.E l.host program levels path) (meaning.call l.F l.other program levels path)
  pub statement : (x : Statement)
      → Fits l (meaning.statement l.E l.host program levels x) (meaning.statement l.F l.other program levels x)
  pub enter : (owner : Owner) (procedure : Procedure) (arguments : List Argument)
      → Fits l (meaning.enter l.E l.host program levels owner procedure arguments)
      (meaning.enter l.F l.other program levels owner procedure arguments)

module _ (l : Link) (silent : l.tells → ⊥) (asks : (member : Member) (arguments : List Value)
    → Fits l (ask l.host member arguments) (ask l.other member arguments)) (program : Program) where
  -- the same as what the rules of a construct stand on
  abbrev pub inners : (levels : ℕ) → Levels l program levels → Inners l
  inners levels known = record {
    program = program;
    value = meaning.value l.E l.host program levels;
    argument = meaning.argument l.E l.host program levels;
    assign = meaning.assign l.E l.host program levels;
    call = meaning.call l.E l.host program levels;
    statement = meaning.statement l.E l.host program levels;
    enter = meaning.enter l.E l.host program levels;
    other_value = meaning.value l.F l.other program levels;
    other_argument = meaning.argument l.F l.other program levels;
    other_assign = meaning.assign l.F l.other program levels;
    other_call = meaning.call l.F l.other program levels;
    other_statement = meaning.statement l.F l.other program levels;
    other_enter = meaning.enter l.F l.other program levels;
    value_fits = known.value;
    argument_fits = known.argument;
    assign_fits = known.assign;
    call_fits = known.call;
    statement_fits = known.statement;
    enter_fits = known.enter;
    same_program = λ noting. absurd (silent noting);
    enters = λ noting. absurd (silent noting);
    asks = asks;
  }

  no_level : Levels l program zero
  unfolding meaning.value meaning.argument meaning.assign meaning.call meaning.statement meaning.enter
  no_level = record {
    value = λ x. written_or_fits program (out-Expression (bare x)) (world_fits l deep_wantless);
    argument = λ x. then_fits (written_or_fits program (out-Expression (bare x)) (world_fits l deep_wantless))
        (λ found. value_fits l (OfValue found));
    assign = λ how path found. world_fits l deep_wantless;
    call = λ path. world_fits l deep_wantless;
    statement = λ x. refused_fits l x.line (out-StatementKind x.kind);
    enter = λ owner procedure arguments. world_fits l deep_wantless;
  }

  one_more : (levels : ℕ) → Levels l program levels → Levels l program (suc levels)
  unfolding meaning.value meaning.argument meaning.assign meaning.call meaning.statement meaning.enter
  one_more levels known = record {
    value = valued_fits l (inners levels known);
    argument = argument_of_fits l (inners levels known);
    assign = λ how. assign_to_fits l (inners levels known) how;
    call = call_of_fits l (inners levels known);
    statement = statement_of_fits l (inners levels known);
    enter = enter_of_fits l (inners levels known);
  }

  pub each_level : (levels : ℕ) → Levels l program levels
  each_level zero = no_level
  each_level (suc levels) = one_more levels (each_level levels)
