-- What a turn of the crate's own calls leaves. All of it is the product's own.
use Rattle.std.specs.Prelude.{ℕ, ◌<◌, ◌^◌, List, length, reverse, Option, IfSome}
use Rattle.asp_job.specs.declared.entry.Entry.{Entry}
use Rattle.asp_job.specs.Journal.{IsValidJournal}
use Rattle.asp_job.specs.Told.{Meaning, Told}
use Rattle.asp_core.specs.Kernel.{CoreView, RunView}
use Rattle.asp_desk.specs.Calls.{AddsEvents}
use Rattle.asp_desk.specs.Hands.{Holds, HostView, IsSameHouse, IsUnderWay, core_at, rules_at}

-- A turn of a lane of this number, which held this and found this journal, leaves this core, and has left runs as they
-- were.
pub record LeavesRuns {R Site State : Type 0} (meaning : R → Site → Meaning)
    (stands : R → Site → State → Told → ℕ → Type 0) (host : HostView R Site) (number : ℕ) (found : List Entry)
    (core : CoreView R Site) (held : Option (RunView State)) : Type 0 where
  pub house : IsSameHouse (core_at host found) core
  pub adds : AddsEvents number found core.journal
  pub valid : IsValidJournal (rules_at meaning host) (reverse core.journal)
  pub short : length core.journal < 2 ^ 32
  pub holds : Holds meaning stands (core_at host found) number held
  pub rests : IfSome held (λ run. IsUnderWay run.progress)
