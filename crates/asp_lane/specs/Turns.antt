-- What a turn of a lane adds to a core, where no other lane has a run. All of it is our own.
use Rattle.std.specs.Prelude.{◌≡◌, ◌⊎◌, ℕ, List, [], ◌∷◌, Option, Some, None}
use Rattle.vb_value.specs.declared.application.AppCall.{AppCall}
use Rattle.asp_job.specs.declared.entry.EndKind.TheVariants as kind
use Rattle.asp_job.specs.declared.entry.Entry.{Entry}
use Rattle.asp_job.specs.Application.{blocker_of}
use Rattle.asp_job.specs.History.{call_entry, held_by}
use Rattle.asp_job.specs.Journal.{begin_entry, end_entry, MayEnd}
use Rattle.asp_job.specs.Keys.{told}
use Rattle.asp_job.specs.Rules.{Rules}
use Rattle.asp_job.specs.Runs.{unfinished}
use Rattle.asp_job.specs.Told.{Meaning, Told, Wants}
use Rattle.asp_job.specs.Turns.{IsBegin, IsRunning, serial_of}
use Rattle.asp_journal.specs.declared.full.Full.{Full}
use Rattle.asp_core.specs.declared.run.Progress.TheVariants as progress
use Rattle.asp_core.specs.declared.stop.BeginStop.{BeginStop}
use Rattle.asp_core.specs.declared.stop.BeginStop.TheVariants as stop
use Rattle.asp_core.specs.Kernel.{CoreView, RunView, IsRunOf, IsIdle, IsTooMuch, IsBeginTooMuch, past_of, rules_of}
use Rattle.asp_core.specs.Kernel.{grown}
use Rattle.asp_lane.specs.declared.turn.Load.{Load}
use Rattle.asp_lane.specs.declared.turn.Load.TheVariants as load
use Rattle.asp_lane.specs.declared.turn.TurnEnd.{TurnEnd}
use Rattle.asp_lane.specs.declared.turn.TurnEnd.TheVariants as turn

-- ---- what is in hand

-- the run in hand, if there is one
abbrev pub run_in : {R Site Store State : Type 0} → Load R Site Store State → Option (RunView State)
run_in (load.Free store) = None
run_in (load.Runs run) = Some run

-- the run is one of the core's, of that lane, and no other is unfinished
pub record IsAlone {R Site State : Type 0} (meaning : R → Site → Meaning)
    (stands : R → Site → State → Told → ℕ → Type 0) (core : CoreView R Site) (lane : ℕ) (run : RunView State) :
    Type 0 where
  pub is_of : IsRunOf meaning stands core lane run
  pub alone : unfinished (past_of core) ≡ run.number ∷ []

-- What is in hand is all that is unfinished: no run, or one that may go on.
abbrev pub Fits : {R Site State : Type 0} → (R → Site → Meaning) → (R → Site → State → Told → ℕ → Type 0) →
    CoreView R Site → ℕ → Option (RunView State) → Type 0
Fits meaning stands core lane None = unfinished (past_of core) ≡ []
Fits meaning stands core lane (Some run) = IsAlone meaning stands core lane run × (run.progress ≡ progress.Going)

-- ---- what a turn adds

-- what a turn comes to where no run begins
abbrev pub turn_of : BeginStop → TurnEnd
turn_of stop.Idle = turn.Idle
turn_of (stop.JournalFull full) = turn.JournalFull full
turn_of stop.Memory = turn.Memory

-- The run is unfinished, and has begun on this lane. With the call that its meaning wants, which no lock keeps out, it
-- would be so full: too many entries or too heavy.
pub record IsCallTooMuch (rules : Rules) (past : List Entry) (lane run : ℕ) (full : Full) : Type 0 where
  pub running : IsRunning past lane run
  pub call : AppCall
  pub wants : rules.meaning.does (told rules past run) ≡ Wants call
  pub free : blocker_of rules.strict (held_by past) run call ≡ None
  pub much : IsTooMuch (call_entry past lane run call ∷ past) full

-- Where no run is in hand: the Begin of the next run; or nothing, where none is next, where that Begin does not fit, or
-- for want of memory.
abbrev pub AddsBegin : Rules → List Entry → ℕ → List Entry → TurnEnd → Type 0
AddsBegin rules past lane entries turn.Done =
    (run : ℕ) × IsBegin rules past run (serial_of rules past run) × (entries ≡ begin_entry rules past lane run ∷ [])
AddsBegin rules past lane entries turn.More = ⊥
AddsBegin rules past lane entries turn.Idle = IsIdle rules past × (entries ≡ [])
AddsBegin rules past lane entries (turn.JournalFull full) =
    IsBeginTooMuch rules past lane full × (entries ≡ [])
AddsBegin rules past lane entries turn.Memory = entries ≡ []

-- the entry is the call that the run's meaning wants, the End that the meaning has, or an End for want of memory
abbrev pub IsStep : Rules → List Entry → ℕ → ℕ → Entry → Type 0
IsStep rules past lane run entry =
    ((call : AppCall) × (rules.meaning.does (told rules past run) ≡ Wants call)
    × (entry ≡ call_entry past lane run call))
    ⊎ (MayEnd rules past lane run kind.Done × (entry ≡ end_entry rules past lane run kind.Done))
    ⊎ (entry ≡ end_entry rules past lane run kind.Memory)

-- Where a run is in hand: its next call or its End; nothing, where it has more to do; or its End because its next call
-- does not fit.
abbrev pub AddsStep : Rules → List Entry → ℕ → ℕ → List Entry → TurnEnd → Type 0
AddsStep rules past lane run entries turn.Done =
    (entry : Entry) × IsStep rules past lane run entry × (entries ≡ entry ∷ [])
AddsStep rules past lane run entries turn.More = entries ≡ []
AddsStep rules past lane run entries turn.Idle = ⊥
AddsStep rules past lane run entries (turn.JournalFull full) =
    IsCallTooMuch rules past lane run full × (entries ≡ end_entry rules past lane run kind.JournalFull ∷ [])
AddsStep rules past lane run entries turn.Memory = ⊥

-- the entries of a turn, oldest first, where this run is in hand
abbrev pub AddsTurn : {State : Type 0} → Rules → List Entry → ℕ → Option (RunView State) → List Entry → TurnEnd → Type 0
AddsTurn rules past lane None entries turn = AddsBegin rules past lane entries turn
AddsTurn rules past lane (Some run) entries turn = AddsStep rules past lane run.number entries turn

-- The new core is the old one with the entries of the turn, and what is in hand then fits it.
pub record IsTurn {R Site State : Type 0} (meaning : R → Site → Meaning)
    (stands : R → Site → State → Told → ℕ → Type 0) (lane : ℕ) (old : CoreView R Site)
    (in_hand : Option (RunView State)) (new : CoreView R Site) (then_in_hand : Option (RunView State)) (turn : TurnEnd) :
    Type 0 where
  pub entries : List Entry
  pub new_is : new ≡ grown old entries
  pub adds : AddsTurn (rules_of meaning old) (past_of old) lane in_hand entries turn
  pub fits : Fits meaning stands new lane then_in_hand
