-- What it means that one request was answered, and why one was not. All of it is the product's own.
use Rattle.std.specs.Prelude.{◌≡◌, ⊤, ℕ, List, Some, None}
use Rattle.asp_journal.specs.declared.full.Full.{Full}
use Rattle.asp_core.specs.Drawing.{entry_then, told_of}
use Rattle.asp_core.specs.Kernel.{IsTooMuch, IsWithin}
use Rattle.asp_job.specs.declared.answer.Answer.{Answer}
use Rattle.asp_job.specs.declared.answer.Fail.{Fail}
use Rattle.asp_job.specs.declared.entry.Entry.{Entry}
use Rattle.asp_job.specs.declared.job.Job.{Job}
use Rattle.asp_job.specs.Journal.{IsValidJournal, admit_entries, past_after}
use Rattle.asp_job.specs.Output.{answer_of_run}
use Rattle.asp_job.specs.Rules.{Rules}
use Rattle.asp_lane.specs.Course.{GoesThrough, IsRunTooMuch}
use Rattle.asp_lane.specs.First.{HasBegun, first_past}
use Rattle.asp_get.specs.declared.stop.GetStop.{GetStop}
use Rattle.asp_get.specs.declared.stop.GetStop.TheVariants as stop

-- ---- the job

-- the journal with the entries of the job
abbrev pub with_job : Rules → List Entry → Job → List Entry
with_job rules past job = past_after past (admit_entries rules past 0 job)

-- the number of its run
abbrev pub run_for : Rules → List Entry → Job → ℕ
run_for rules past job = (told_of (entry_then rules past 0 job).what).run

-- The first run has gone through and did not fail, and then the job came, for which there is room.
pub record IsReadyFor (rules : Rules) (job : Job) (past : List Entry) : Type 0 where
  pub begun : HasBegun rules 0 None past
  pub within : IsWithin (with_job rules past job)

-- ---- answered

-- The history of one lane: the first run goes through and does not fail, the job comes, and its run goes through, with
-- this answer.
pub record HasAnswered (rules : Rules) (job : Job) (answer : Answer) : Type 0 where
  pub past : List Entry
  pub came : IsReadyFor rules job past
  pub last : List Entry
  pub through : GoesThrough rules 0 (with_job rules past job) (run_for rules past job) last
  pub valid : IsValidJournal rules last
  pub answer_is : answer_of_run rules last (run_for rules past job) ≡ Some answer

-- ---- not answered

-- the first run goes through and fails so; the job does not come
abbrev pub HasFailed : Rules → Fail → Type 0
HasFailed rules fail = (past : List Entry) × HasBegun rules 0 (Some fail) past

-- At some point of that history it would be so full with what comes next: an entry of the first run, the job, or an
-- entry of its run.
pub data WasTooMuch (rules : Rules) (job : Job) (full : Full) : Type 0 where
  OfFirst : IsRunTooMuch rules 0 (first_past 0) full → WasTooMuch rules job full
  OfJob : (past : List Entry) → HasBegun rules 0 None past → IsTooMuch (with_job rules past job) full
      → WasTooMuch rules job full
  OfPage : (past : List Entry) → IsReadyFor rules job past
      → IsRunTooMuch rules 0 (with_job rules past job) full → WasTooMuch rules job full

-- Why the job was not answered. Nothing is said where memory ran out.
abbrev pub IsGetStop : Rules → Job → GetStop → Type 0
IsGetStop rules job (stop.StartFailed fail) = HasFailed rules fail
IsGetStop rules job (stop.JournalFull full) = WasTooMuch rules job full
IsGetStop rules job stop.Memory = ⊤
