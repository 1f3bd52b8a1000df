-- How a host ends that serves a site. All of it is the product's own.
use Rattle.std.specs.Prelude.{◌≡◌, ℕ, ◌≤◌, Bool, true, false, IsTrue, List, [], ◌∷◌, Option, Some, None, IfSome, reverse}
use Rattle.std.specs.Prelude.{Result, Ok, Err}
use Rattle.asp_journal.specs.declared.full.Full.{Full}
use Rattle.asp_core.specs.Kernel.{RunView}
use Rattle.asp_core.specs.Start.{start_fail}
use Rattle.asp_desk.specs.Hands.{Fixed, HandView, HostView, rules_at}
use Rattle.asp_job.specs.declared.answer.Fail.{Fail}
use Rattle.asp_job.specs.declared.entry.EndKind.TheVariants as kind
use Rattle.asp_job.specs.declared.entry.Entry.{Entry}
use Rattle.asp_job.specs.declared.entry.What.{What}
use Rattle.asp_job.specs.declared.entry.What.TheVariants as what
use Rattle.asp_job.specs.Journal.{IsValidJournal}
use Rattle.asp_job.specs.Rules.{Rules}
use Rattle.asp_job.specs.Runs.{unfinished, waiting}
use Rattle.asp_job.specs.Told.{Meaning, Told}
use Rattle.asp_journal.specs.Telling.{admitted, end_kind}
use Rattle.asp_serve.specs.declared.hosting.ServeStop.{ServeStop}
use Rattle.asp_serve.specs.declared.hosting.ServeStop.TheVariants as stop
use Rattle.asp_serve.specs.declared.visits.Early.{Early}
use Rattle.asp_serve.specs.declared.visits.Early.TheVariants as early
use Rattle.asp_serve.specs.Visits.{IsEarly, IsFreeHand, WasTooMuch}

-- ---- the end of a host

-- whether the entry ends a run for which the journal was full
abbrev pub is_full_end : What → Bool
is_full_end (what.End run kind.JournalFull status size made finished) = true
is_full_end _ = false

-- no run waits, none is unfinished, and none ended because the journal was full
pub record IsWhole (past : List Entry) : Type 0 where
  pub none_waits : waiting past ≡ []
  pub none_runs : unfinished past ≡ []
  pub none_full : (run : ℕ) → end_kind past run ≡ Some kind.JournalFull → ⊥

-- A host served to its end with this journal, which is a right account of all runs: its first run did not fail, nothing
-- is left undone, and so many requests came at least, unless the wire may come to an end.
pub record HasRunOut (rules : Rules) (ends : Bool) (requests : ℕ) : Type 0 where
  pub past : List Entry
  pub account : IsValidJournal rules past
  pub started : start_fail rules past ≡ None
  pub whole : IsWhole past
  pub enough : ends ≡ false → requests ≤ admitted past

-- there is a right account of all runs, in which the first run failed so
pub record HasFailedToStart (rules : Rules) (fail : Fail) : Type 0 where
  pub past : List Entry
  pub account : IsValidJournal rules past
  pub failed : start_fail rules past ≡ Some fail

-- there is one in which the first run did not fail, and at some point something did not fit
pub record HasFilled (rules : Rules) (full : Full) : Type 0 where
  pub past : List Entry
  pub account : IsValidJournal rules past
  pub started : start_fail rules past ≡ None
  pub much : WasTooMuch rules past full

-- why a host did not serve to its end, where this is why a wire may fail
abbrev pub IsStop : Type 0 → Rules → ServeStop → Type 0
IsStop fails rules (stop.StartFailed fail) = HasFailedToStart rules fail
IsStop fails rules (stop.JournalFull full) = HasFilled rules full
IsStop fails rules stop.AcceptFault = fails
IsStop fails rules stop.Memory = Unit {0}

-- how it ended
abbrev pub HasServed : Type 0 → Rules → Bool → ℕ → Result (Unit {0}) ServeStop → Type 0
HasServed fails rules ends requests (Ok done) = HasRunOut rules ends requests
HasServed fails rules ends requests (Err why) = IsStop fails rules why

-- ---- its parts

-- the first run has ended so, by what was found of its failing: the hand is free where all is well
abbrev pub HasStarted : Bool → Option Fail → Result (Unit {0}) ServeStop → Type 0
HasStarted free found (Ok done) = IsTrue free
HasStarted free found (Err (stop.StartFailed fail)) = found ≡ Some fail
HasStarted free found (Err stop.Memory) = Unit {0}
HasStarted free found (Err _) = ⊥

abbrev pub stop_of : Early → ServeStop
stop_of (early.JournalFull full) = stop.JournalFull full
stop_of early.AcceptFault = stop.AcceptFault
stop_of early.Memory = stop.Memory

abbrev pub first_early : List (Option Early) → Option Early
first_early [] = None
first_early (None ∷ made) = first_early made
first_early (Some early ∷ made) = Some early

-- a worker has come to its end: its hand is free, and where it ended early there is a cause
pub record HasWorked {R Site State : Type 0} (meaning : R → Site → Meaning)
    (stands : R → Site → State → Told → ℕ → Type 0) (host : HostView R Site) (fails : Type 0)
    (hand : HandView Entry (Fixed R Site) (RunView State)) (made : Option Early) : Type 0 where
  pub free : IsFreeHand meaning stands host hand
  pub cause : IfSome made (IsEarly fails (rules_at meaning host) (reverse hand.lane.seen))
