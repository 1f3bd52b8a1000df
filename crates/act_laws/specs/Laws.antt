-- Laws of an act, of the replies that it is given, and of the objects that it makes, for the objects of a host whatever
-- they do.
use Rattle.std.specs.Prelude.{ℕ, ◌≡◌, ◌≢◌, Bool, Option, IsTrue, List, [], ◌∷◌, ◌++◌, length, slice_get, Some, None}
use Rattle.std.specs.Prelude.{Ok, Err, false}
use Rattle.vb_value.specs.declared.application.AppCall.{AppCall}
use Rattle.vb_value.specs.declared.application.AppReply.{AppReply}
use Rattle.vb_value.specs.declared.value.Value.{Value, Str}
use Rattle.vb_syntax.specs.declared.act.Act.{Act}
use Rattle.vb_syntax.specs.declared.act.Act.TheVariants as act
use Rattle.vb_syntax.specs.declared.act.ActDone.{ActDone}
use Rattle.vb_syntax.specs.declared.act.ActEnd.TheVariants as end
use Rattle.vb_syntax.specs.declared.act.AskStop.TheVariants as why
use Rattle.vb_syntax.specs.declared.act.Given.TheVariants as given
use Rattle.vb_syntax.specs.declared.member.Member.{Member}
use Rattle.vb_syntax.specs.declared.member.Member.TheVariants.{ResponseWrite}
use Rattle.vb_syntax.specs.declared.program.Program.{Program}
use Rattle.vb_syntax.specs.declared.program.statement.Statement.{Statement}
use Rattle.vb_syntax.specs.declared.program.statement.StatementKind.{out-StatementKind}
use Rattle.vb_syntax.specs.declared.program.statement.StatementKind.TheOpen.{StatementKind-F}
use Rattle.vb_heap.specs.Releases.{oldest_loose, with_ending}
use Rattle.vb_meaning.specs.declared.plain_end.PlainEnd.TheVariants.{Ends}
use Rattle.vb_meaning.specs.declared.stop.Stop.TheVariants as stop
use Rattle.vb_meaning.specs.Acts.{act_of, fresh_world}
use Rattle.vb_meaning.specs.Asking.{Host}
use Rattle.vb_meaning.specs.Inner.{Inner}
use Rattle.vb_meaning.specs.Meaning.{inside}
use Rattle.vb_meaning.specs.Releases.{in_world, settle, terminate}
use Rattle.vb_meaning.specs.State.{State, with_store}
use Rattle.vb_meaning.specs.Step.{Step, Returns, Ends as Ends_of, ◌>>◌}
use Rattle.act_laws.specs.Calls.{LeavesOnly, Noting, WantsOnly, calls_of, noting, wanted}
use Rattle.act_laws.specs.Entries.{AreOf, EntersAll, Noted, entries_of, noted_act, noted_inside, terminators, no_notes}
use Rattle.act_laws.specs.Held.{HeldLeft, HeldStays, LeavesHeld}
use Rattle.act_laws.specs.Numbers.{GivesNew}
use Rattle.act_laws.specs.Objects.{AddsUp, account_at, account_of}
use Rattle.act_laws.specs.Terminators.{HaveEnded, KeepsAll, RunsEach}
use Rattle.act_laws.specs.Ticks.{NoneComeBack}

-- an act that wants no call ends the same, and leaves the same environment, where more replies stand behind
abbrev pub RepliesBeyond : Type 0 → Type 0
RepliesBeyond E = (host : Host E) (program : Program) (which : Act) (env : E) (replies more : List AppReply)
    → wanted (act_of E host program which env replies).0 ≡ None
    → act_of E host program which env (replies ++ more) ≡ act_of E host program which env replies

-- with the first of its replies an act wants the call that it makes next with all of them, and none if it makes no more
abbrev pub CallsInOrder : Type 0 → Type 0
CallsInOrder E = (host : Host E) (program : Program) (which : Act) (env : E) (first more : List AppReply)
    → wanted (act_of E host program which env first).0
    ≡ slice_get (calls_of E host program which env (first ++ more)) (length first)

-- the calls that an act makes with more replies begin with those that it makes without them
abbrev pub CallsStay : Type 0 → Type 0
CallsStay E = (host : Host E) (program : Program) (which : Act) (env : E) (replies more : List AppReply)
    → (rest : List AppCall) × (calls_of E host program which env (replies ++ more)
    ≡ calls_of E host program which env replies ++ rest)

-- that its calls are noted changes nothing of an act
abbrev pub NotesChangeNothing : Type 0 → Type 0
NotesChangeNothing E = (host : Host E) (program : Program) (which : Act) (env : E) (replies : List AppReply)
    → act_of (Noting E) (noting host) program which (env, []) replies
    ≡ (
      (act_of E host program which env replies).0,
      ((act_of E host program which env replies).1, calls_of E host program which env replies),
    )

-- An act wants only calls that the objects of the page want: where all of those pass a test, so does the act's.
abbrev pub OnlyObjectsWant : Type 0 → Type 0
OnlyObjectsWant E = (host : Host E) (test : AppCall → Bool)
    → ((member : Member) (arguments : List Value) (env : E) → WantsOnly test (host.asked member arguments env))
    → ((member : Member) (arguments : List Value) (reply : AppReply) (env : E)
    → WantsOnly test (host.answered member arguments reply env))
    → (program : Program) (which : Act) (env : E) (replies : List AppReply) (call : AppCall)
    → wanted (act_of E host program which env replies).0 ≡ Some call → IsTrue (test call)

-- An act changes the objects of the page only by asking them: what each question keeps true of them is true at its end.
abbrev pub OnlyAskingChanges : Type 0 → Type 0
OnlyAskingChanges E = (host : Host E) (test : E → Bool)
    → ((member : Member) (arguments : List Value) (env : E) → IsTrue (test env)
    → LeavesOnly test (host.asked member arguments env))
    → ((member : Member) (arguments : List Value) (reply : AppReply) (env : E) → IsTrue (test env)
    → LeavesOnly test (host.answered member arguments reply env))
    → (program : Program) (which : Act) (env : E) (replies : List AppReply) → IsTrue (test env)
    → IsTrue (test (act_of E host program which env replies).1)

-- Memory runs out in an act only where it runs out for the objects of the page: where it never does, the act has ended
-- or wants a call.
abbrev pub OnlyObjectsLack : Type 0 → Type 0
OnlyObjectsLack E = (host : Host E)
    → ((member : Member) (arguments : List Value) (env after : E)
    → host.asked member arguments env ≢ Err (why.Memory, after))
    → ((member : Member) (arguments : List Value) (reply : AppReply) (env after : E)
    → host.answered member arguments reply env ≢ Err (why.Memory, after))
    → (program : Program) (which : Act) (env : E) (replies : List AppReply)
    → (act_of E host program which env replies).0 ≢ None

-- When an act has ended, all objects that it made have ended, unless a limit ended it; then no more than were made.
abbrev pub ObjectsEnd : Type 0 → Type 0
ObjectsEnd E = (host : Host E) (program : Program) (which : Act) (env : E) (replies : List AppReply) (done : ActDone)
    → (act_of E host program which env replies).0 ≡ Some (Ends done) → HaveEnded done.end done.made done.finished

-- Each object's terminator is run once: at each level of a program, and from each state whose account adds up. That of
-- the world in which an act begins does.
abbrev pub TerminatorsRunOnce : Type 0 → Type 0
TerminatorsRunOnce E = AddsUp (account_of fresh_world) × ((host : Host E) (program : Program) (levels : ℕ) (s : State E)
    → AddsUp (account_at s)
    → RunsEach E (inside E host program levels) s × KeepsAll E (inside E host program levels) s)

-- a step that comes to its end, or stops the page, leaves Err as it was, and whether a terminator is being run
abbrev pub LeavesErr : {E : Type 0} → State E → Step (State E) (Unit {0}) → Type 0
LeavesErr before (Returns done s) =
    (s.world.err ≡ before.world.err) × (s.world.terminates ≡ before.world.terminates)
LeavesErr before (Ends_of stop.Page s) =
    (s.world.err ≡ before.world.err) × (s.world.terminates ≡ before.world.terminates)
LeavesErr before (Ends_of (stop.Error what line) s) = Unit {0}
LeavesErr before (Ends_of (stop.Limit kind line) s) = Unit {0}
LeavesErr before (Ends_of (stop.Wants call) s) = Unit {0}
LeavesErr before (Ends_of stop.Memory s) = Unit {0}

-- a step that comes to its end, or to an error, or stops the page, leaves the procedure that runs, with its names, and how
-- many procedures are open
abbrev pub LeavesPlace : {E A : Type 0} → State E → Step (State E) A → Type 0
LeavesPlace before (Returns value s) =
    (s.world.frame ≡ before.world.frame) × (s.world.calls ≡ before.world.calls)
LeavesPlace before (Ends_of stop.Page s) =
    (s.world.frame ≡ before.world.frame) × (s.world.calls ≡ before.world.calls)
LeavesPlace before (Ends_of (stop.Error what line) s) =
    (s.world.frame ≡ before.world.frame) × (s.world.calls ≡ before.world.calls)
LeavesPlace before (Ends_of (stop.Limit kind line) s) = Unit {0}
LeavesPlace before (Ends_of (stop.Wants call) s) = Unit {0}
LeavesPlace before (Ends_of stop.Memory s) = Unit {0}

-- A release point where each live object has a reference does nothing, and neither does a second one right behind the
-- first. Where a live object has none, the oldest such ends, and behind its terminator stands a release point again.
-- It leaves Err, and the place in the script, and before the page's end what is held.
pub record ReleasesOnce (E : Type 0) (m : Inner E) (s : State E) : Type 0 where
  pub still : oldest_loose s.world.store ≡ None → settle E m s ≡ Returns tt s
  pub next : AddsUp (account_at s) → (object : ℕ) → oldest_loose s.world.store ≡ Some object
      → settle E m s
      ≡ (terminate E m object >> settle E m) (in_world E (with_store (with_ending (Some object)) s.world) s)
  pub leaves : LeavesErr s (settle E m s)
  pub place : LeavesPlace s (settle E m s)
  pub held : s.world.page_ended ≡ false → LeavesHeld s (settle E m s)
  pub again : AddsUp (account_at s) → (after : State E) → settle E m s ≡ Returns tt after
      → settle E m after ≡ Returns tt after

abbrev pub ReleasePointsSettle : Type 0 → Type 0
ReleasePointsSettle E = (host : Host E) (program : Program) (levels : ℕ) (s : State E)
    → ReleasesOnce E (inside E host program levels) s

-- Ticks never come back: at each level of a program, and from each state, nothing that is done gives one back.
abbrev pub TicksNeverComeBack : Type 0 → Type 0
TicksNeverComeBack E = (host : Host E) (program : Program) (levels : ℕ) (s : State E)
    → NoneComeBack E (inside E host program levels) s

-- What is held stays held: at each level of a program, and from each state, nothing that is done lets go what was held
-- before it. Where the page has not ended, a statement, a procedure, a terminator and a release point leave what is held.
abbrev pub WhatIsHeldStays : Type 0 → Type 0
WhatIsHeldStays E = (host : Host E) (program : Program) (levels : ℕ) (s : State E)
    → HeldStays E (inside E host program levels) s
    × (s.world.page_ended ≡ false → HeldLeft E (inside E host program levels) s)

-- a page that is one text: no variables, no constants, and no statement but that
pub record IsOneText (program : Program) (text : List ℕ) : Type 0 where
  pub statement : Statement
  pub body : program.unit.body ≡ statement ∷ []
  pub says : out-StatementKind statement.kind ≡ StatementKind-F.PageText text
  pub variables : program.unit.variables ≡ []
  pub constants : program.unit.constants ≡ []

-- A page of one text asks Response.Write once, with that text. Where that gives a value, the act has ended, by its end
-- and without an object, and leaves the objects of the page as Response.Write did.
abbrev pub OneTextIsWritten : Type 0 → Type 0
OneTextIsWritten E = (host : Host E) (program : Program) (text : List ℕ) → IsOneText program text
    → (env after : E) (replies : List AppReply) (value : Value)
    → host.asked ResponseWrite (Str text ∷ []) env ≡ Ok (given.Value value, after)
    → act_of E host program act.Body env replies
    ≡ (Some (Ends (record { end = end.Done; made = 0; finished = 0 })), after)

-- That the terminators which are entered are noted changes nothing of an act.
abbrev pub EntriesChangeNothing : Type 0 → Type 0
EntriesChangeNothing E = (host : Host E) (program : Program) (which : Act) (env : E) (replies : List AppReply)
    → noted_act E host program which env replies
    ≡ (
      (act_of E host program which env replies).0,
      ((act_of E host program which env replies).1, (noted_act E host program which env replies).1.1),
    )

-- At each level of a program, and from each state whose notes belong to it, all that is done enters the terminator of a
-- live object once where the object begins to end and its class has one, and enters no other. Those of the world in
-- which an act begins do.
abbrev pub TerminatorsAreEntered : Type 0 → Type 0
TerminatorsAreEntered E = AreOf fresh_world no_notes
    × ((host : Host E) (program : Program) (levels : ℕ) (s : State (Noted E))
    → AreOf s.world s.env.1 → EntersAll E program (noted_inside E host program levels) s)

-- Of each object, what an act enters as its terminator is that of a class, once, or nothing.
abbrev pub NoneEnteredTwice : Type 0 → Type 0
NoneEnteredTwice E = (host : Host E) (program : Program) (which : Act) (env : E) (replies : List AppReply)
    (object : ℕ) → (class : Option ℕ)
    × (entries_of object (noted_act E host program which env replies).1.1.entered ≡ terminators program class)

-- What New and CreateObject give is an object with a number that no object had before it.
abbrev pub NewNumbersAreFree : Type 0 → Type 0
NewNumbersAreFree E = (host : Host E) (program : Program) (levels : ℕ) (s : State E) → AddsUp (account_at s)
    → GivesNew E (inside E host program levels) s
