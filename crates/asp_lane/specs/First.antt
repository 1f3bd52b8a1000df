-- The first run of a host, which comes before all others. All of it is the product's own.
use Rattle.std.specs.Prelude.{◌≡◌, ℕ, List, [], ◌∷◌, Option}
use Rattle.asp_core.specs.Start.{start_fail}
use Rattle.asp_job.specs.declared.answer.Fail.{Fail}
use Rattle.asp_job.specs.declared.entry.Entry.{Entry}
use Rattle.asp_job.specs.declared.entry.What.TheVariants.{Queue}
use Rattle.asp_job.specs.declared.job.Work.TheVariants as work
use Rattle.asp_job.specs.History.{with_lane}
use Rattle.asp_job.specs.Journal.{IsValidJournal}
use Rattle.asp_job.specs.Rules.{Rules}
use Rattle.asp_lane.specs.Course.{GoesThrough}

-- the journal of a host that was just made: its first run waits
abbrev pub first_past : ℕ → List Entry
first_past lane = with_lane lane (Queue 1 work.Start 0) ∷ []

-- The first run goes through, and leaves this journal. It failed so, or not.
pub record HasBegun (rules : Rules) (lane : ℕ) (fail : Option Fail) (past : List Entry) : Type 0 where
  pub through : GoesThrough rules lane (first_past lane) 1 past
  pub valid : IsValidJournal rules past
  pub fail_is : start_fail rules past ≡ fail
