-- What one turn of a lane does to the journal, oldest entry first: each relation is between the journal that the turn
-- finds, the call's answer, and the journal that it leaves. All of it is the product's own.
use Rattle.std.specs.Prelude.{◌≡◌, ℕ, ◌≤◌, ◌<◌, true, false, List, [], ◌∷◌, ◌++◌, length, reverse}
use Rattle.std.specs.Prelude.{Option, Some, None, Result, Ok, Err}
use Rattle.turn_desk.specs.Shown.{LaneView}
use Rattle.turn_desk.specs.Turns.{IsOneTurn}
use Rattle.asp_job.specs.declared.answer.Answer.{Answer}
use Rattle.asp_job.specs.declared.entry.Entry.{Entry}
use Rattle.asp_job.specs.declared.entry.TheConstants.{MOST_WAITING}
use Rattle.asp_job.specs.declared.entry.What.{What}
use Rattle.asp_job.specs.declared.entry.What.TheVariants.{App, Begin, End, Halt, Take}
use Rattle.asp_job.specs.declared.job.Job.{Job}
use Rattle.asp_job.specs.History.{entries_in, with_lane}
use Rattle.asp_job.specs.Journal.{admit_entries, past_after, stop_entries, tick_entries}
use Rattle.asp_job.specs.Output.{answer_of_run}
use Rattle.asp_job.specs.Rules.{Rules}
use Rattle.asp_job.specs.Runs.{is_halted, is_stopping, moment_of, unfinished, waiting}
use Rattle.asp_job.specs.Turns.{waiting_pages}
use Rattle.asp_journal.specs.Telling.{admitted, end_kind}
use Rattle.asp_core.specs.declared.admitted.Admitted.{Admitted}
use Rattle.asp_core.specs.declared.stop.AdmitStop.{AdmitStop}
use Rattle.asp_core.specs.declared.stop.AdmitStop.TheVariants as admit
use Rattle.asp_core.specs.declared.stop.CollectStop.{CollectStop}
use Rattle.asp_core.specs.declared.stop.EventStop.{EventStop}
use Rattle.asp_core.specs.declared.stop.EventStop.TheVariants as event
use Rattle.asp_core.specs.Drawing.{entry_then, told_of}
use Rattle.asp_core.specs.Kernel.{IsTooMuch, expired}
use Rattle.asp_core.specs.Laws.{AreOfLane}
use Rattle.asp_core.specs.Ready.{collect_stop, first_for, ready}
use Rattle.asp_core.specs.Start.{start_fail}
use Rattle.asp_desk.specs.declared.looking.Looked.{Looked}

-- the call is one turn of the lane
abbrev pub IsTurn : {F A : Type 0} → (List Entry → A → List Entry → Type 0) → LaneView Entry F → A →
    LaneView Entry F → Type 0
IsTurn does old answer new = IsOneTurn (λ entry. entry.lane) does old answer new

-- ---- calls that leave runs as they are

-- the entry begins no run and ends none, and is no call
abbrev pub IsEvent : What → Type 0
IsEvent (Begin run serial) = ⊥
IsEvent (App run call reply) = ⊥
IsEvent (End run kind status size made finished) = ⊥
IsEvent _ = Unit {0}

abbrev pub AreEvents : List Entry → Type 0
AreEvents [] = Unit {0}
AreEvents (entry ∷ entries) = IsEvent entry.what × AreEvents entries

-- such entries come behind, each with this lane
pub record AddsEvents (lane : ℕ) (before after : List Entry) : Type 0 where
  pub entries : List Entry
  pub after_is : after ≡ before ++ entries
  pub of_lane : AreOfLane lane entries
  pub events : AreEvents entries

-- the entry begins a run, is its call or ends it
abbrev pub IsWork : What → Type 0
IsWork (Begin run serial) = Unit {0}
IsWork (App run call reply) = Unit {0}
IsWork (End run kind status size made finished) = Unit {0}
IsWork _ = ⊥

abbrev pub AreWork : List Entry → Type 0
AreWork [] = Unit {0}
AreWork (entry ∷ entries) = IsWork entry.what × AreWork entries

module _ (rules : Rules) (lane : ℕ) where
  -- A tick: its entries, and of how many keys the sessions end. Or nothing, where the moment is greater and they are
  -- too many or too heavy, or memory ran out.
  abbrev pub Ticks : ℕ → List Entry → Result ℕ EventStop → List Entry → Type 0
  Ticks moment before (Ok count) after =
      (after ≡ before ++ tick_entries rules (reverse before) lane moment)
      × (count ≡ expired rules (reverse before) moment)
  Ticks moment before (Err (event.JournalFull full)) after =
      (after ≡ before) × (moment_of (reverse before) < moment)
      × IsTooMuch (past_after (reverse before) (tick_entries rules (reverse before) lane moment)) full
  Ticks moment before (Err event.Memory) after = (after ≡ before) × (moment_of (reverse before) < moment)

  -- An admission: the entries of the job, a Tick first where its moment is greater, and what the job is told. Or
  -- nothing: after a Stop; where as many runs of pages wait as may; where they are too many or too heavy; or memory ran
  -- out.
  abbrev pub Admits : Job → List Entry → Result Admitted AdmitStop → List Entry → Type 0
  Admits job before (Ok told) after =
      (after ≡ before ++ admit_entries rules (reverse before) lane job)
      × (told ≡ told_of (entry_then rules (reverse before) lane job).what)
      × (is_stopping (reverse before) ≡ false)
  Admits job before (Err admit.Stopping) after = (after ≡ before) × (is_stopping (reverse before) ≡ true)
  Admits job before (Err admit.WaitingFull) after =
      (after ≡ before) × (is_stopping (reverse before) ≡ false)
      × (MOST_WAITING ≤ length (waiting_pages (reverse before)))
  Admits job before (Err (admit.JournalFull full)) after =
      (after ≡ before) × (is_stopping (reverse before) ≡ false)
      × IsTooMuch (past_after (reverse before) (admit_entries rules (reverse before) lane job)) full
  Admits job before (Err admit.Memory) after = (after ≡ before) × (is_stopping (reverse before) ≡ false)

  -- A stop: its entries where no Stop stands, and else nothing. Or nothing, where none stands and they are too many or
  -- too heavy, or memory ran out.
  abbrev pub Stops : {A : Type 0} → List Entry → Result A EventStop → List Entry → Type 0
  Stops before (Ok done) after =
      (is_stopping (reverse before) ≡ false → after ≡ before ++ stop_entries rules (reverse before) lane)
      × (is_stopping (reverse before) ≡ true → after ≡ before)
  Stops before (Err (event.JournalFull full)) after =
      (after ≡ before) × (is_stopping (reverse before) ≡ false)
      × IsTooMuch (past_after (reverse before) (stop_entries rules (reverse before) lane)) full
  Stops before (Err event.Memory) after = (after ≡ before) × (is_stopping (reverse before) ≡ false)

  -- a hand-out: its entry, and the answer of the run; or nothing, with the first cause that holds
  abbrev pub Collects : ℕ → List Entry → Result Answer CollectStop → List Entry → Type 0
  Collects run before (Ok answer) after =
      (after ≡ before ++ with_lane lane (Take run) ∷ [])
      × (answer_of_run rules (reverse before) run ≡ Some answer)
      × (collect_stop (reverse before) lane run ≡ None)
  Collects run before (Err stop) after = (after ≡ before) × (collect_stop (reverse before) lane run ≡ Some stop)

  -- the hand-out of the first answer that waits for the lane; or nothing, where none does
  abbrev pub CollectsFirst : List Entry → Option (ℕ × Answer) → List Entry → Type 0
  CollectsFirst before (Some given) after =
      (after ≡ before ++ with_lane lane (Take given.0) ∷ [])
      × (answer_of_run rules (reverse before) given.0 ≡ Some given.1)
      × (first_for (reverse before) lane (ready rules (reverse before)) ≡ Some given)
  CollectsFirst before None after =
      (after ≡ before) × (first_for (reverse before) lane (ready rules (reverse before)) ≡ None)

-- a halt: its entry where no Halt stands, and else nothing
abbrev pub Halts : ℕ → List Entry → Unit {0} → List Entry → Type 0
Halts lane before done after =
    (is_halted (reverse before) ≡ false → after ≡ before ++ with_lane lane Halt ∷ [])
    × (is_halted (reverse before) ≡ true → after ≡ before)

-- ---- what a journal tells

abbrev pub looked_of : Rules → List Entry → Looked
looked_of rules past = record {
  waiting = length (waiting past);
  waiting_pages = length (waiting_pages past);
  unfinished = length (unfinished past);
  moment = moment_of past;
  admitted = admitted past;
  entries = entries_in past;
  stopping = is_stopping past;
  halted = is_halted past;
  start_kind = end_kind past 1;
  start_fail = start_fail rules past;
}

-- a look: nothing is added
abbrev pub Looks : Rules → List Entry → Looked → List Entry → Type 0
Looks rules before looked after = (after ≡ before) × (looked ≡ looked_of rules (reverse before))
