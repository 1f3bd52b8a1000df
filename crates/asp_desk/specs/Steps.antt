-- How a run begins, makes its call, and ends, in a turn of its lane. All of it is the product's own.
use Rattle.std.specs.Prelude.{◌≡◌, ℕ, Bool, List, [], ◌∷◌, ◌++◌, reverse, Option, Some, None, Result, Ok, Err}
use Rattle.vb_value.specs.declared.application.AppCall.{AppCall}
use Rattle.asp_job.specs.declared.entry.EndKind.{EndKind}
use Rattle.asp_job.specs.declared.entry.EndKind.TheVariants as kind
use Rattle.asp_job.specs.declared.entry.Entry.{Entry}
use Rattle.asp_job.specs.Application.{blocker_of}
use Rattle.asp_job.specs.History.{call_entry, held_by}
use Rattle.asp_job.specs.Journal.{begin_entry, end_entry}
use Rattle.asp_job.specs.Rules.{Rules}
use Rattle.asp_job.specs.Turns.{IsBegin, serial_of}
use Rattle.asp_core.specs.declared.run.Progress.{Progress}
use Rattle.asp_core.specs.declared.run.Progress.TheVariants as progress
use Rattle.asp_core.specs.declared.stop.BeginStop.{BeginStop}
use Rattle.asp_core.specs.declared.stop.BeginStop.TheVariants as stop
use Rattle.asp_core.specs.Kernel.{IsBeginTooMuch, IsIdle, IsTooMuch, NextFits, RunView, wanted_by}
use Rattle.asp_core.specs.Ready.{HasBodyRoom}
use Rattle.asp_desk.specs.declared.steps.Stepped.{Stepped}
use Rattle.asp_desk.specs.declared.steps.Stepped.TheVariants as step

-- ---- how a run begins

-- the run that began, and its number or why none did
abbrev pub run_of : {Run E : Type 0} → Result Run E → Option Run
run_of (Ok run) = Some run
run_of (Err refused) = None

abbrev pub begun_of : {State Store : Type 0} → Result (RunView State) (Store × BeginStop) → Result ℕ BeginStop
begun_of (Ok run) = Ok run.number
begun_of (Err refused) = Err refused.1

-- A begin: the entry of the run that is next. Or nothing: where none is next, or there is no room for one more body;
-- where its entry would be too much; or memory ran out for one that fits.
abbrev pub Begins : Rules → ℕ → List Entry → Result ℕ BeginStop → List Entry → Type 0
Begins rules lane before (Ok run) after =
    IsBegin rules (reverse before) run (serial_of rules (reverse before) run)
    × HasBodyRoom rules (reverse before) × (after ≡ before ++ begin_entry rules (reverse before) lane run ∷ [])
Begins rules lane before (Err stop.Idle) after = (after ≡ before) × IsIdle rules (reverse before)
Begins rules lane before (Err (stop.JournalFull full)) after =
    (after ≡ before) × IsBeginTooMuch rules (reverse before) lane full
Begins rules lane before (Err stop.Memory) after = (after ≡ before) × NextFits rules (reverse before) lane

-- ---- how it goes on

-- the end of a run that has paused, and whose call, if it wants one, is not made: by itself, or for want of memory
abbrev pub end_at : Progress → EndKind
end_at progress.Ended = kind.Done
end_at _ = kind.Memory

-- the run wants this call, which the lock of this run, if it is one, keeps out under the rule
abbrev pub WantsFrom : {State : Type 0} → Bool → List Entry → RunView State → AppCall → Option ℕ → Type 0
WantsFrom strict past run call holder =
    (wanted_by run.progress ≡ Some call) × (blocker_of strict (held_by past) run.number call ≡ holder)

-- A step of a run that has paused: the call that it wants, where the lock lets it through; its End; nothing, where the
-- lock of another run keeps its call out; or its End because the call, which the lock lets through, would be too much.
abbrev pub Steps : {State : Type 0} → Rules → ℕ → RunView State → List Entry → Stepped → List Entry → Type 0
Steps rules lane run before step.Called after =
    (call : AppCall) × WantsFrom rules.strict (reverse before) run call None
    × (after ≡ before ++ call_entry (reverse before) lane run.number call ∷ [])
Steps rules lane run before step.Ended after =
    after ≡ before ++ end_entry rules (reverse before) lane run.number (end_at run.progress) ∷ []
Steps rules lane run before (step.Blocked holder) after =
    (call : AppCall) × WantsFrom rules.strict (reverse before) run call (Some holder) × (after ≡ before)
Steps rules lane run before (step.JournalFull full) after =
    (call : AppCall) × WantsFrom rules.strict (reverse before) run call None
    × IsTooMuch (call_entry (reverse before) lane run.number call ∷ reverse before) full
    × (after ≡ before ++ end_entry rules (reverse before) lane run.number kind.JournalFull ∷ [])

-- what is then in hand: after its call the run, which may go on; where it is kept out the run as it was; else none
abbrev pub Leaves : {State : Type 0} → RunView State → Stepped → Option (RunView State) → Type 0
Leaves {State} run step.Called held =
    (next : RunView State) × (held ≡ Some next) × (next.number ≡ run.number) × (next.progress ≡ progress.Going)
Leaves run (step.Blocked holder) held = held ≡ Some run
Leaves run _ held = held ≡ None
