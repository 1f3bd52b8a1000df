-- A statement as a whole: its tick, what it does by what it says, what becomes of an error in it, and the release point
-- at its end (VBScript 5.6 language reference, "Statements").
use Rattle.std.specs.Prelude.{ℕ, true, false}
use Rattle.vb_value.specs.declared.value.Value.{Str}
use Rattle.vb_syntax.specs.declared.program.statement.Case.{Case}
use Rattle.vb_syntax.specs.declared.program.statement.ElseIf.{ElseIf}
use Rattle.vb_syntax.specs.declared.program.statement.Statement.{Statement}
use Rattle.vb_syntax.specs.declared.program.statement.StatementKind.{StatementKind, out-StatementKind}
use Rattle.vb_syntax.specs.declared.program.statement.StatementKind.TheOpen.{StatementKind-F}
use Rattle.vb_meaning.specs.declared.world.Exit.{Exit}
use Rattle.vb_meaning.specs.declared.world.Exit.TheVariants.{Next}
use Rattle.vb_meaning.specs.Errors.{in_line, resumed, tick, too_deep}
use Rattle.vb_meaning.specs.Inner.{Inner}
use Rattle.vb_meaning.specs.declared.reached.Assigned.TheVariants.{Let as ByLet, Set as BySet}
use Rattle.vb_meaning.specs.Loops.{do_statement, while_statement, for_statement, for_each_statement}
use Rattle.vb_meaning.specs.Places.{held_so_far}
use Rattle.vb_meaning.specs.Releases.{release}
use Rattle.vb_meaning.specs.State.{Does, on_world}
use Rattle.vb_meaning.specs.Statements.{redim, assignment, if_statement, select_statement, with_statement, leave}
use Rattle.vb_meaning.specs.Statements.{erase_all, write, handles}
use Rattle.vb_meaning.specs.Step.{◌>>=◌, ◌>>◌, pure}

-- what a statement says, with its parts
abbrev pub Said : Type 0
Said = StatementKind-F StatementKind Case ElseIf Statement

module _ (E : Type 0) (m : Inner E) where
  -- what a statement does, by what it says
  abbrev pub does : Said → Does E Exit
  does StatementKind-F.Declaration s = pure Next s
  does StatementKind-F.Dim s = pure Next s
  does (StatementKind-F.ReDim preserve arrays) s = (redim E m preserve arrays >> pure Next) s
  does (StatementKind-F.Set target value) s = assignment E m BySet target value s
  does (StatementKind-F.Assign target value) s = assignment E m ByLet target value s
  does (StatementKind-F.Call callee) s = (m.call callee >> pure Next) s
  does (StatementKind-F.If test branch others otherwise) s = if_statement E m test branch others otherwise s
  does (StatementKind-F.Select subject cases otherwise) s = select_statement E m subject cases otherwise s
  does (StatementKind-F.For variable from to step body) s = for_statement E m variable from to step body s
  does (StatementKind-F.ForEach variable group body) s = for_each_statement E m variable group body s
  does (StatementKind-F.Do repeated body) s = do_statement E m repeated body s
  does (StatementKind-F.While test body) s = while_statement E m test body s
  does (StatementKind-F.With subject body) s = with_statement E m subject body s
  does (StatementKind-F.Exit kind) s = on_world (leave kind) s
  does StatementKind-F.OnErrorResumeNext s = handles E m true s
  does StatementKind-F.OnErrorGoToZero s = handles E m false s
  does (StatementKind-F.Erase arrays) s = (on_world (erase_all arrays) >> pure Next) s
  does (StatementKind-F.PageText text) s = write E m (Str text) s
  does (StatementKind-F.PageWrite value) s = (m.value value >>= write E m) s

  -- A statement: a tick, and what it does. Under On Error Resume Next an error in it only changes Err. At its end what
  -- it held is let go, and objects end. A limit or an error that arose in it has its line.
  abbrev pub whole : ℕ → Does E Exit → Does E Exit
  whole line run s = in_line line (release E m (held_so_far s.world) (resumed Next (run s)))

  -- a declaration is no statement, and any other is one
  abbrev pub executed : ℕ → Said → Does E Exit
  executed line StatementKind-F.Declaration = pure Next
  executed line said = whole line (tick >> does said)

  unfoldable pub statement_of : Statement → Does E Exit
  statement_of statement = executed statement.line (out-StatementKind statement.kind)

-- a statement that is one construct too many, which is an error in it
abbrev pub refused : {E : Type 0} → ℕ → Said → Does E Exit
refused line StatementKind-F.Declaration s = pure Next s
refused line said s = in_line line (resumed Next (on_world too_deep s))
