-- Why the first run failed. All of it is our own.
use Rattle.std.specs.Prelude.{ℕ, ◌==◌, if◌then◌else◌, List, [], ◌∷◌, Option, None}
use Rattle.asp_job.specs.declared.answer.Fail.{Fail}
use Rattle.asp_job.specs.declared.entry.EndKind.{EndKind}
use Rattle.asp_job.specs.declared.entry.EndKind.TheVariants as kind
use Rattle.asp_job.specs.declared.entry.Entry.{Entry}
use Rattle.asp_job.specs.declared.entry.What.TheVariants.{End}
use Rattle.asp_job.specs.Keys.{told}
use Rattle.asp_job.specs.Rules.{Rules}
use Rattle.asp_job.specs.Told.{Outcome, Wants, Ends}

-- why a run failed that comes to this
abbrev pub fail_in : Outcome → Option Fail
fail_in (Wants call) = None
fail_in (Ends finished) = finished.fail

-- why a run failed that ends so
abbrev pub fail_by : Rules → List Entry → ℕ → EndKind → Option Fail
fail_by rules past run kind.Done = fail_in (rules.meaning.does (told rules past run))
fail_by rules past run kind.Memory = None
fail_by rules past run kind.JournalFull = None

-- why the first run failed, after the end of a run that failed so
abbrev pub fail_after : Option Fail → ℕ → Option Fail → Option Fail
fail_after before run fail = if run == 1 then fail else before

-- why the first run failed: nothing before its end, and where it did not fail
abbrev pub start_fail : Rules → List Entry → Option Fail
start_fail rules [] = None
start_fail rules (entry ∷ past) = elim entry.what [
  | End run kind status size made finished ↦ fail_after (start_fail rules past) run (fail_by rules past run kind)
  | _ ↦ start_fail rules past
]
