-- The course of a run that one lane takes to its end, and how it comes to be too much. All of it is the product's own.
use Rattle.std.specs.Prelude.{◌≡◌, ℕ, zero, suc, List, [], ◌∷◌}
use Rattle.vb_value.specs.declared.application.AppCall.{AppCall}
use Rattle.asp_journal.specs.declared.full.Full.{Full}
use Rattle.asp_core.specs.Kernel.{IsBeginTooMuch, IsWithin}
use Rattle.asp_job.specs.declared.entry.EndKind.TheVariants as kind
use Rattle.asp_job.specs.declared.entry.Entry.{Entry}
use Rattle.asp_job.specs.History.{call_entry}
use Rattle.asp_job.specs.Journal.{IsValidJournal, MayEnd, begin_entry, end_entry}
use Rattle.asp_job.specs.Keys.{told}
use Rattle.asp_job.specs.Rules.{Rules}
use Rattle.asp_job.specs.Runs.{unfinished}
use Rattle.asp_job.specs.Told.{Wants}
use Rattle.asp_job.specs.Turns.{IsBegin, serial_of}
use Rattle.asp_lane.specs.Turns.{IsCallTooMuch}

-- ---- to the end

-- so many calls of the run, each the one that its meaning wants, and each with room for it
abbrev pub Calls : Rules → ℕ → ℕ → ℕ → List Entry → List Entry → Type 0
Calls rules lane run zero from to = to ≡ from
Calls rules lane run (suc n) from to =
    (call : AppCall) × (rules.meaning.does (told rules from run) ≡ Wants call)
    × IsWithin (call_entry from lane run call ∷ from) × Calls rules lane run n (call_entry from lane run call ∷ from) to

-- no run is unfinished, the run is the next to begin, and there is room for its Begin
pub record Begins (rules : Rules) (lane : ℕ) (from : List Entry) (run : ℕ) : Type 0 where
  pub free : unfinished from ≡ []
  pub next : IsBegin rules from run (serial_of rules from run)
  pub within : IsWithin (begin_entry rules from lane run ∷ from)

-- the run has begun, and made some calls
pub record IsUnderWay (rules : Rules) (lane : ℕ) (from : List Entry) (run : ℕ) (to : List Entry) : Type 0 where
  pub begins : Begins rules lane from run
  pub count : ℕ
  pub calls : Calls rules lane run count (begin_entry rules from lane run ∷ from) to

-- so it has, and then it has ended by itself
pub record GoesThrough (rules : Rules) (lane : ℕ) (from : List Entry) (run : ℕ) (to : List Entry) : Type 0 where
  pub mid : List Entry
  pub under_way : IsUnderWay rules lane from run mid
  pub ends : MayEnd rules mid lane run kind.Done
  pub to_is : to ≡ end_entry rules mid lane run kind.Done ∷ mid

-- ---- too much

-- with the Begin of the next run, or with the next call of a run that is under way, it would be so full: too many
-- entries or too heavy
pub data IsRunTooMuch (rules : Rules) (lane : ℕ) (from : List Entry) (full : Full) : Type 0 where
  OfBegin : IsValidJournal rules from → IsBeginTooMuch rules from lane full → IsRunTooMuch rules lane from full
  OfCall : (run : ℕ) (mid : List Entry) → IsUnderWay rules lane from run mid → IsValidJournal rules mid
      → IsCallTooMuch rules mid lane run full → IsRunTooMuch rules lane from full
