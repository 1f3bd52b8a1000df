-- Where the course of a run stands. It is the crate's own, for its parts.
use Rattle.std.specs.Prelude.{◌≡◌, ⊤, ℕ, ◌==◌, Bool, false, List, [], ◌∷◌, Option, Some, None}
use Rattle.asp_journal.specs.declared.full.Full.{Full}
use Rattle.asp_core.specs.declared.stop.BeginStop.{BeginStop}
use Rattle.asp_core.specs.declared.stop.BeginStop.TheVariants as begin
use Rattle.asp_core.specs.Kernel.{CoreView, grown}
use Rattle.asp_job.specs.declared.entry.EndKind.TheVariants as kind
use Rattle.asp_job.specs.declared.entry.Entry.{Entry}
use Rattle.asp_job.specs.declared.entry.What.{What}
use Rattle.asp_job.specs.declared.entry.What.TheVariants as what
use Rattle.asp_job.specs.Journal.{IsValidJournal, MayEnd, end_entry}
use Rattle.asp_job.specs.Rules.{Rules}
use Rattle.asp_lane.specs.Course.{Calls, IsRunTooMuch}
use Rattle.asp_lane.specs.declared.stop.RunStop.{RunStop}
use Rattle.asp_lane.specs.declared.stop.RunStop.TheVariants as stop
use Rattle.asp_lane.specs.declared.turn.TurnEnd.{TurnEnd}
use Rattle.asp_lane.specs.declared.turn.TurnEnd.TheVariants as turn
use Rattle.asp_lane.specs.Turns.{IsCallTooMuch}

-- ---- stops

-- why a run does not go on after a turn that came to this
abbrev pub turn_stop : TurnEnd → Option RunStop
turn_stop turn.Done = None
turn_stop turn.More = None
turn_stop turn.Idle = Some stop.Memory
turn_stop (turn.JournalFull full) = Some (stop.JournalFull full)
turn_stop turn.Memory = Some stop.Memory

-- why a run did not begin
abbrev pub begin_stop : BeginStop → RunStop
begin_stop begin.Idle = stop.Memory
begin_stop (begin.JournalFull full) = stop.JournalFull full
begin_stop begin.Memory = stop.Memory

-- the core has some entries more
abbrev pub Grows : {R Site : Type 0} → CoreView R Site → CoreView R Site → Type 0
Grows old new = (entries : List Entry) × (new ≡ grown old entries)

-- ---- a run

-- whether the entry is the end of the run, by itself
abbrev pub is_end_of : ℕ → What → Bool
is_end_of r (what.End run kind.Done status size made finished) = run == r
is_end_of r _ = false

-- whether the newest entry is
abbrev pub has_just_ended : ℕ → List Entry → Bool
has_just_ended run [] = false
has_just_ended run (entry ∷ past) = is_end_of run entry.what

-- the run that is under way made calls and ended by itself
pub record GoesOn (rules : Rules) (lane : ℕ) (from : List Entry) (run : ℕ) (to : List Entry) : Type 0 where
  pub mid : List Entry
  pub count : ℕ
  pub calls : Calls rules lane run count from mid
  pub ends : MayEnd rules mid lane run kind.Done
  pub to_is : to ≡ end_entry rules mid lane run kind.Done ∷ mid

-- after some calls of the run its next one would be too much
pub record IsNextTooMuch (rules : Rules) (lane : ℕ) (from : List Entry) (run : ℕ) (full : Full) : Type 0 where
  pub mid : List Entry
  pub count : ℕ
  pub calls : Calls rules lane run count from mid
  pub valid : IsValidJournal rules mid
  pub much : IsCallTooMuch rules mid lane run full

-- why a run that is under way did not end by itself
abbrev pub IsGoingStop : Rules → ℕ → List Entry → ℕ → RunStop → Type 0
IsGoingStop rules lane from run (stop.JournalFull full) = IsNextTooMuch rules lane from run full
IsGoingStop rules lane from run stop.Memory = ⊤

-- why a run did not go through
abbrev pub IsRunStop : Rules → ℕ → List Entry → RunStop → Type 0
IsRunStop rules lane from (stop.JournalFull full) = IsRunTooMuch rules lane from full
IsRunStop rules lane from stop.Memory = ⊤
