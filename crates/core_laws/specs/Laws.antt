-- What holds of a run that is ended since memory ran out.
use Rattle.std.specs.Prelude.{◌≡◌, ◌≢◌, ℕ, nat_eq, true, List, ◌∷◌, Some, None}
use Rattle.std.specs.Map.{lookup}
use Rattle.asp_job.specs.declared.entry.EndKind.TheVariants.{Memory}
use Rattle.asp_job.specs.declared.entry.Entry.{Entry}
use Rattle.asp_job.specs.History.{held_by}
use Rattle.asp_job.specs.Journal.{IsValidJournal, end_entry}
use Rattle.asp_job.specs.Output.{answer_of_run}
use Rattle.asp_job.specs.Rules.{Rules}
use Rattle.asp_job.specs.Running.{is_page}
use Rattle.asp_job.specs.Runs.{asking_lane_of, has_ended, job_of}
use Rattle.asp_core.specs.Kernel.{IsWithin}
use Rattle.asp_core.specs.Ready.{collect_stop, ready}

-- the journal with the End which says that memory ran out for the run
abbrev pub ended : Rules → List Entry → ℕ → ℕ → List Entry
ended rules past lane run = end_entry rules past lane run Memory ∷ past

-- The End may come and fits, and with it the run has ended and has no lock. Its answer is among those that wait, and
-- nothing keeps the lane that asked for a page from being handed it.
pub record IsEndedWithoutMemory (rules : Rules) (past : List Entry) (lane run : ℕ) : Type 0 where
  pub valid : IsValidJournal rules (ended rules past lane run)
  pub within : IsWithin (ended rules past lane run)
  pub over : has_ended (ended rules past lane run) run ≡ true
  pub free : (held_by (ended rules past lane run)).holder ≢ Some run
  pub waits : lookup (nat_eq run) (ready rules (ended rules past lane run))
      ≡ answer_of_run rules (ended rules past lane run) run
  pub handed : (asking : ℕ) → asking_lane_of past run ≡ Some asking → is_page (job_of past run).work ≡ true
      → collect_stop (ended rules past lane run) asking run ≡ None
