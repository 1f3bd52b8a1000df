-- What a job leaves of a core, and why it is not taken.
use Rattle.std.specs.Prelude.{◌≡◌, ℕ, ◌++◌, if◌then◌else◌, List, length, Option, Some, None, nat_le}
use Rattle.asp_job.specs.declared.entry.Entry.{Entry}
use Rattle.asp_job.specs.declared.entry.TheConstants.{MOST_WAITING}
use Rattle.asp_job.specs.declared.job.Job.{Job}
use Rattle.asp_job.specs.Journal.{admit_entries}
use Rattle.asp_job.specs.Rules.{Rules}
use Rattle.asp_job.specs.Runs.{is_stopping}
use Rattle.asp_job.specs.Turns.{waiting_pages}
use Rattle.asp_core.specs.declared.stop.AdmitStop.{AdmitStop}
use Rattle.asp_core.specs.declared.stop.AdmitStop.TheVariants.{Stopping, WaitingFull}
use Rattle.asp_core.specs.Drawing.{answer_for, entry_then, told_of}
use Rattle.asp_core.specs.Book.{BookView, past_in}
use Rattle.asp_core.specs.Kernel.{IsWithin}
use Rattle.asp_core.specs.Ready.{with_answer}
use Rattle.asp_core.specs.Sessions.{account_grown}
use Rattle.asp_session.specs.Account.{Account}

-- why a job is not taken, before its entries are looked at: the first cause that holds
abbrev pub refused_before : List Entry → Option AdmitStop
refused_before past =
    if is_stopping past then Some Stopping
    else if nat_le MOST_WAITING (length (waiting_pages past)) then Some WaitingFull else None

-- what a job leaves of a book and of the account of the session keys
pub record HasTaken (rules : Rules) (lane : ℕ) (job : Job) (old : BookView) (account : Account) (new : BookView)
    (then_account : Account) : Type 0 where
  pub items_are : new.items ≡ old.items ++ admit_entries rules (past_in old) lane job
  pub account_is :
      then_account ≡ account_grown rules (past_in old) (admit_entries rules (past_in old) lane job) account
  pub answers_are :
      new.answers ≡ with_answer old.answers (told_of (entry_then rules (past_in old) lane job).what).run
      (answer_for (entry_then rules (past_in old) lane job).what)
  pub within : IsWithin (past_in new)
