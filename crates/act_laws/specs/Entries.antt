-- The terminators that are entered, noted as each is entered, which changes nothing else.
use Rattle.std.specs.Prelude.{◌≡◌, ◌≤◌, ℕ, zero, suc, Bool, true, false, if◌then◌else◌, List, [], ◌∷◌, ◌++◌, map}
use Rattle.std.specs.Prelude.{Option, Some, None, Ok, Err}
use Rattle.vb_value.specs.declared.application.AppReply.{AppReply}
use Rattle.vb_value.specs.declared.value.Value.{Value}
use Rattle.vb_syntax.specs.declared.act.Act.{Act}
use Rattle.vb_syntax.specs.declared.program.Program.{Program}
use Rattle.vb_syntax.specs.declared.program.expression.Expression.{Expression, out-Expression}
use Rattle.vb_syntax.specs.declared.program.expression.Path.{Path}
use Rattle.vb_syntax.specs.declared.program.statement.Statement.{Statement}
use Rattle.vb_syntax.specs.declared.program.statement.StatementKind.{out-StatementKind}
use Rattle.vb_syntax.specs.declared.program.unit.Procedure.{Procedure}
use Rattle.vb_heap.specs.declared.object.Object.{Object}
use Rattle.vb_heap.specs.Objects.{class_in}
use Rattle.vb_heap.specs.Releases.{ends_now}
use Rattle.vb_heap.specs.Store.{is_number, numbered}
use Rattle.vb_meaning.specs.declared.plain_end.PlainEnd.{PlainEnd}
use Rattle.vb_meaning.specs.declared.reached.Argument.{Argument}
use Rattle.vb_meaning.specs.declared.reached.Argument.TheVariants.{Value as OfValue}
use Rattle.vb_meaning.specs.declared.reached.Assigned.{Assigned}
use Rattle.vb_meaning.specs.declared.stop.Stop.TheVariants as stop
use Rattle.vb_meaning.specs.World.{World}
use Rattle.vb_meaning.specs.Acts.{act_in, fresh_world, most_ticks, page_begins, part}
use Rattle.vb_meaning.specs.Asking.{Host, Said}
use Rattle.vb_meaning.specs.Assigning.{assign_to}
use Rattle.vb_meaning.specs.Calling.{enter_of}
use Rattle.vb_meaning.specs.Errors.{too_deep}
use Rattle.vb_meaning.specs.Executing.{refused, statement_of}
use Rattle.vb_meaning.specs.Expressions.{argument_of, bare, valued, written_or}
use Rattle.vb_meaning.specs.Inner.{Inner, Owner}
use Rattle.vb_meaning.specs.Meaning.{most_levels}
use Rattle.vb_meaning.specs.Objects.{class_at}
use Rattle.vb_meaning.specs.Releases.{end_all, settle, settle_last, terminator_in}
use Rattle.vb_meaning.specs.State.{Does, State, on_world}
use Rattle.vb_meaning.specs.Statements.{call_of}
use Rattle.vb_meaning.specs.Step.{Step, Returns, Ends, ◌>>=◌, ◌>>◌, pure}
use Rattle.act_laws.specs.Objects.{AddsUp, HasBegun, IsEnding, account_of}
use Rattle.vb_meaning.specs.Step.{state_of}

-- ---- notes

-- What was entered as the terminator of an object, each with the object's number, in the order of entering; and the
-- objects whose terminators are being run.
pub record Notes : Type 0 where
  pub entered : List (ℕ × Procedure)
  pub running : List ℕ

abbrev pub no_notes : Notes
no_notes = record { entered = []; running = [] }

-- an environment with notes
abbrev pub Noted : Type 0 → Type 0
Noted E = E × Notes

-- what an environment says, with the notes as they were
abbrev pub said_beside : {E : Type 0} → Notes → Said E → Said (Noted E)
said_beside notes (Ok (what, env)) = Ok (what, (env, notes))
said_beside notes (Err (why, env)) = Err (why, (env, notes))

-- the same objects, which leave the notes as they are
abbrev pub beside_notes : {E : Type 0} → Host E → Host (Noted E)
beside_notes host = record {
  asked = λ member arguments env. said_beside env.1 (host.asked member arguments env.0);
  answered = λ member arguments reply env. said_beside env.1 (host.answered member arguments reply env.0);
}

-- whether a number is one of those
abbrev pub is_among : ℕ → List ℕ → Bool
is_among number [] = false
is_among number (first ∷ others) = if is_number number first then true else is_among number others

-- The object whose terminator a procedure is entered as, if it is: that whose method it is, where that object is ending
-- and its terminator is not being run already. What the script itself calls of an object is not entered as its
-- terminator.
abbrev pub ends_by : Owner → World → Notes → Option ℕ
ends_by None world notes = None
ends_by (Some (object, class)) world notes = if ends_now (numbered object.0 world.store.objects)
    then (if is_among object.0 notes.running then None else Some object.0) else None

-- the notes with that
abbrev pub noted_entry : Option ℕ → Procedure → Notes → Notes
noted_entry (Some object) procedure notes = record {
  entered = notes.entered ++ (object, procedure) ∷ [];
  running = object ∷ notes.running;
}
noted_entry None procedure notes = notes

-- a step behind which these are being run
abbrev pub running_again : {E A : Type 0} → List ℕ → Step (State (Noted E)) A → Step (State (Noted E)) A
running_again running (Returns value s) =
    Returns value (record s { env = (s.env.0, record s.env.1 { running = running }) })
running_again running (Ends why s) = Ends why (record s { env = (s.env.0, record s.env.1 { running = running }) })

-- a procedure is entered, which is noted where it is entered as a terminator
abbrev pub entering : {E : Type 0} → (Owner → Procedure → List Argument → Does (Noted E) Value)
    → Owner → Procedure → List Argument → Does (Noted E) Value
entering enter owner procedure arguments s = running_again s.env.1.running (enter owner procedure arguments (record s {
  env = (s.env.0, noted_entry (ends_by owner s.world s.env.1) procedure s.env.1);
}))

-- ---- the meaning of a program with its notes: each construct by its rule, on what is inside it

-- where no construct more may be begun
abbrev pub noted_last : (E : Type 0) → Host E → Program → Inner (Noted E)
noted_last E host program = record {
  host = beside_notes host;
  program = program;
  value = λ x. written_or program (out-Expression (bare x)) (on_world too_deep);
  argument = λ x. written_or program (out-Expression (bare x)) (on_world too_deep)
      >>= (λ found. pure (OfValue found));
  assign = λ how path found. on_world too_deep;
  call = λ path. on_world too_deep;
  statement = λ x. refused x.line (out-StatementKind x.kind);
  enter = entering (λ owner procedure arguments. on_world too_deep);
}

-- the same constructs, of that program
abbrev pub of_program : {E : Type 0} → Host E → Program → Inner (Noted E) → Inner (Noted E)
of_program host program inside = record inside { host = beside_notes host; program = program }

-- one level more
abbrev pub noted_next : (E : Type 0) → Host E → Program → Inner (Noted E) → Inner (Noted E)
noted_next E host program inside = record {
  host = beside_notes host;
  program = program;
  value = valued (Noted E) (of_program host program inside);
  argument = argument_of (Noted E) (of_program host program inside);
  assign = assign_to (Noted E) (of_program host program inside);
  call = call_of (Noted E) (of_program host program inside);
  statement = statement_of (Noted E) (of_program host program inside);
  enter = entering (enter_of (Noted E) (of_program host program inside));
}

abbrev pub noted_levels : (E : Type 0) → Host E → Program → ℕ → Inner (Noted E)
noted_levels E host program zero = noted_last E host program
noted_levels E host program (suc levels) = noted_next E host program (noted_levels E host program levels)

-- the constructs inside one, where so many more may be begun
abbrev pub noted_inside : (E : Type 0) → Host E → Program → ℕ → Inner (Noted E)
noted_inside E host program levels = of_program host program (noted_levels E host program levels)

-- an act with its notes
abbrev pub noted_act : (E : Type 0) → Host E → Program → Act → E → List AppReply → Option PlainEnd × Noted E
noted_act E host program which env replies = act_in (Noted E) (noted_inside E host program most_levels) which
    (record { world = fresh_world; ticks = most_ticks; env = (env, no_notes); replies = replies })

-- ---- what the notes say

-- what was entered as the terminator of that object, in the order of entering
abbrev pub entries_of : ℕ → List (ℕ × Procedure) → List Procedure
entries_of number [] = []
entries_of number (first ∷ others) =
    if is_number number first.0 then first.1 ∷ entries_of number others else entries_of number others

-- a procedure that there is
abbrev pub listed : Option Procedure → List Procedure
listed (Some procedure) = procedure ∷ []
listed None = []

-- the terminator of a class, if the program has the class and the class has one
abbrev pub terminators : Program → Option ℕ → List Procedure
terminators program class = listed (terminator_in (class_at program class))

-- what a world says of an object that is there: whether its terminator has begun, and its class
abbrev pub standings : List (ℕ × Object) → List (ℕ × (Bool × Option ℕ))
standings objects = map (λ object. (object.0, (object.1.ending, class_in object.1.content))) objects

abbrev pub standing : ℕ → World → Option (Bool × Option ℕ)
standing number world = numbered number (standings world.store.objects)

-- Notes that belong to a world: the objects whose terminators have begun and that have not ended are those whose
-- terminators are being run.
pub record AreOf (world : World) (notes : Notes) : Type 0 where
  pub adds_up : AddsUp (account_of world)
  pub ending : (number : ℕ) → IsEnding number (account_of world) → is_among number notes.running ≡ true
  pub running : (number : ℕ) → is_among number notes.running ≡ true → HasBegun number (account_of world)

-- From a world and its notes to later ones: terminators are entered so.
pub record EntersEach (program : Program) (before : World) (noted : Notes) (after : World) (notes : Notes)
    : Type 0 where
  -- what was entered stays noted, and what is entered later stands behind it
  pub grows : (more : List (ℕ × Procedure)) × (notes.entered ≡ noted.entered ++ more)
  -- nothing is entered for an object that has not begun to end
  pub not_yet : (number : ℕ) → (HasBegun number (account_of after) → ⊥)
      → entries_of number notes.entered ≡ entries_of number noted.entered
  -- nor for one that had begun before
  pub no_more : (number : ℕ) → HasBegun number (account_of before)
      → entries_of number notes.entered ≡ entries_of number noted.entered
  -- for a live object that has begun to end since, the terminator of its class is entered once, if there is one
  pub once : (number : ℕ) (class : Option ℕ) → standing number before ≡ Some (false, class)
      → HasBegun number (account_of after)
      → entries_of number notes.entered ≡ entries_of number noted.entered ++ terminators program class
  -- and so is that of an object that was made and began to end since
  pub made : (number : ℕ) → before.store.objects_made ≤ number → HasBegun number (account_of after)
      → (class : Option ℕ)
      × (entries_of number notes.entered ≡ entries_of number noted.entered ++ terminators program class)
  -- an object keeps its class
  pub classes : (number : ℕ) (begun again : Bool) (class other : Option ℕ)
      → standing number before ≡ Some (begun, class) → standing number after ≡ Some (again, other) → other ≡ class

-- behind a step the notes belong to the world, unless a limit or a call that is wanted ended it: these leave terminators
-- that have not come to their end
abbrev pub NotesStay : {E A : Type 0} → Step (State (Noted E)) A → Type 0
NotesStay (Returns value s) = AreOf s.world s.env.1
NotesStay (Ends (stop.Error what line) s) = AreOf s.world s.env.1
NotesStay (Ends stop.Page s) = AreOf s.world s.env.1
NotesStay (Ends (stop.Limit kind line) s) = Unit {0}
NotesStay (Ends (stop.Wants call) s) = Unit {0}
NotesStay (Ends stop.Memory s) = Unit {0}

-- what is done enters terminators so
abbrev pub EntersBy : {E A : Type 0} → Program → State (Noted E) → Does (Noted E) A → Type 0
EntersBy program s run =
    EntersEach program s.world s.env.1 (state_of (run s)).world (state_of (run s)).env.1 × NotesStay (run s)

-- from a state, all that is done enters terminators so
pub record EntersAll (E : Type 0) (program : Program) (m : Inner (Noted E)) (s : State (Noted E)) : Type 0 where
  pub value : (x : Expression) → EntersBy program s (m.value x)
  pub argument : (x : Expression) → EntersBy program s (m.argument x)
  pub assign : (how : Assigned) (path : Path) (found : Value) → EntersBy program s (m.assign how path found)
  pub call : (path : Path) → EntersBy program s (m.call path)
  pub statement : (x : Statement) → EntersBy program s (m.statement x)
  pub enter : (owner : Owner) (procedure : Procedure) (arguments : List Argument)
      → EntersBy program s (m.enter owner procedure arguments)
  pub settle : EntersBy program s (settle (Noted E) m)
  -- an act up to the page's end, and the page's end
  pub part : (which : Act) → EntersBy program s (on_world (page_begins program.unit) >> part (Noted E) m which)
  pub page_end : EntersBy program s (settle_last (Noted E) m >> end_all (Noted E) m)
