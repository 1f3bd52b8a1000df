-- What the rules of a construct stand on, in two environments side by side.
use Rattle.std.proofs.Common.{ℕ, List, ◌≡◌}
use Rattle.vb_value.specs.declared.value.Value.{Value}
use Rattle.vb_syntax.specs.declared.member.Member.{Member}
use Rattle.vb_syntax.specs.declared.program.Program.{Program}
use Rattle.vb_syntax.specs.declared.program.expression.Expression.{Expression}
use Rattle.vb_syntax.specs.declared.program.expression.Path.{Path}
use Rattle.vb_syntax.specs.declared.program.statement.Statement.{Statement}
use Rattle.vb_syntax.specs.declared.program.unit.Procedure.{Procedure}
use Rattle.vb_meaning.specs.declared.reached.Argument.{Argument}
use Rattle.vb_meaning.specs.declared.reached.Assigned.{Assigned}
use Rattle.vb_meaning.specs.declared.world.Exit.{Exit}
use Rattle.vb_meaning.specs.World.{World}
use Rattle.vb_meaning.specs.Asking.{ask}
use Rattle.vb_meaning.specs.Inner.{Inner, Owner}
use Rattle.vb_meaning.specs.State.{Does}
use Rattle.act_laws.proofs.Joined.{Link}
use Rattle.act_laws.proofs.Entered.{NotesEntries}
use Rattle.act_laws.proofs.Linked.{Fits, counting_fits, seeing_fits}

-- what the constructs inside do in the one and in the other
pub record Inners (l : Link) : Type 0 where
  pub program : Program
  pub value : Expression → Does l.E Value
  pub argument : Expression → Does l.E Argument
  pub assign : Assigned → Path → Value → Does l.E (Unit {0})
  pub call : Path → Does l.E (Unit {0})
  pub statement : Statement → Does l.E Exit
  pub enter : Owner → Procedure → List Argument → Does l.E Value
  pub other_value : Expression → Does l.F Value
  pub other_argument : Expression → Does l.F Argument
  pub other_assign : Assigned → Path → Value → Does l.F (Unit {0})
  pub other_call : Path → Does l.F (Unit {0})
  pub other_statement : Statement → Does l.F Exit
  pub other_enter : Owner → Procedure → List Argument → Does l.F Value
  pub value_fits : (x : Expression) → Fits l (value x) (other_value x)
  pub argument_fits : (x : Expression) → Fits l (argument x) (other_argument x)
  pub assign_fits : (how : Assigned) (path : Path) (found : Value)
      → Fits l (assign how path found) (other_assign how path found)
  pub call_fits : (path : Path) → Fits l (call path) (other_call path)
  pub statement_fits : (x : Statement) → Fits l (statement x) (other_statement x)
  pub enter_fits : (owner : Owner) (procedure : Procedure) (arguments : List Argument)
      → Fits l (enter owner procedure arguments) (other_enter owner procedure arguments)
  -- the program is that whose terminators are noted, and what is entered as a terminator is noted
  pub same_program : (noting : l.tells) → (l.telling noting).program ≡ program
  pub enters : (noting : l.tells) → NotesEntries (l.telling noting) other_enter
  pub asks : (member : Member) (arguments : List Value)
      → Fits l (ask l.host member arguments) (ask l.other member arguments)

-- the first of the two
abbrev pub one : {l : Link} → Inners l → Inner l.E
one {l} i = record {
  host = l.host;
  program = i.program;
  value = i.value;
  argument = i.argument;
  assign = i.assign;
  call = i.call;
  statement = i.statement;
  enter = i.enter;
}

-- the second
abbrev pub two : {l : Link} → Inners l → Inner l.F
two {l} i = record {
  host = l.other;
  program = i.program;
  value = i.other_value;
  argument = i.other_argument;
  assign = i.other_assign;
  call = i.other_call;
  statement = i.other_statement;
  enter = i.other_enter;
}

-- a rule does in the one what it does in the other
abbrev pub Same : {A : Type 0} (l : Link) → Inners l → ((E : Type 0) → Inner E → Does E A) → Type 0
Same l i rule = Fits l (rule l.E (one i)) (rule l.F (two i))

-- a rule by how many ticks are left
pub counted_fits : {A : Type 0} (l : Link) (i : Inners l) (rule : (E : Type 0) → Inner E → ℕ → Does E A)
    → ((ticks : ℕ) → Same l i (λ E m. rule E m ticks)) → Same l i (λ E m s. rule E m s.ticks s)
counted_fits l i rule each = counting_fits (rule l.E (one i)) (rule l.F (two i)) each

-- a rule as the world has it
pub seen_fits : {A : Type 0} (l : Link) (i : Inners l) (rule : (E : Type 0) → Inner E → World → Does E A)
    → ((world : World) → Same l i (λ E m. rule E m world)) → Same l i (λ E m s. rule E m s.world s)
seen_fits l i rule each = seeing_fits (rule l.E (one i)) (rule l.F (two i)) each
