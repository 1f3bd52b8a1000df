-- Where the answering of a request stands. It is the crate's own, for its parts.
use Rattle.std.specs.Prelude.{◌≡◌, ℕ, ◌==◌, Bool, true, false, List, [], None, Result, Ok, Err}
use Rattle.asp_core.specs.declared.stop.AdmitStop.{AdmitStop}
use Rattle.asp_core.specs.declared.stop.AdmitStop.TheVariants as admit
use Rattle.asp_job.specs.declared.entry.Entry.{Entry}
use Rattle.asp_job.specs.declared.job.Job.{Job}
use Rattle.asp_job.specs.Journal.{IsValidJournal}
use Rattle.asp_job.specs.Rules.{Rules}
use Rattle.asp_job.specs.Runs.{unfinished}
use Rattle.asp_lane.specs.Course.{GoesThrough}
use Rattle.asp_lane.specs.declared.stop.RunStop.{RunStop}
use Rattle.asp_lane.specs.declared.stop.RunStop.TheVariants as lane
use Rattle.asp_lane.specs.First.{HasBegun}
use Rattle.asp_get.specs.declared.stop.GetStop.{GetStop}
use Rattle.asp_get.specs.declared.stop.GetStop.TheVariants as stop
use Rattle.asp_get.specs.Answered.{IsReadyFor, run_for, with_job}

-- ---- stops

-- why a job was not admitted
abbrev pub admit_stop : AdmitStop → GetStop
admit_stop (admit.JournalFull full) = stop.JournalFull full
admit_stop admit.Memory = stop.Memory
admit_stop admit.Stopping = stop.Memory
admit_stop admit.WaitingFull = stop.Memory

-- why a run did not go through
abbrev pub run_stop : RunStop → GetStop
run_stop (lane.JournalFull full) = stop.JournalFull full
run_stop lane.Memory = stop.Memory

-- ---- the job

-- a job may come: the first run has gone through and did not fail, and no run is unfinished
pub record IsReady (rules : Rules) (past : List Entry) : Type 0 where
  pub begun : HasBegun rules 0 None past
  pub free : unfinished past ≡ []

-- the number of the run, where it is that of the run that went through
abbrev pub number_if : Bool → ℕ → Result ℕ GetStop
number_if true run = Ok run
number_if false run = Err stop.Memory

abbrev pub number_back : {T : Type 0} → ℕ → Result (ℕ × T) RunStop → Result ℕ GetStop
number_back run (Ok gone) = number_if (gone.0 == run) run
number_back run (Err ended) = Err (run_stop ended)

-- the job came to the first journal, and its run, which has this number, has gone through and left the other
pub record IsAsked (rules : Rules) (job : Job) (past : List Entry) (run : ℕ) (last : List Entry) : Type 0 where
  pub ready : IsReadyFor rules job past
  pub run_is : run ≡ run_for rules past job
  pub through : GoesThrough rules 0 (with_job rules past job) run last
  pub valid : IsValidJournal rules last
