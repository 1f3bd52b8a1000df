-- What contracts see of a host and of its hands. All of it is the product's own.
use Rattle.std.specs.Prelude.{◌≡◌, ℕ, List, [], Option, Some, None, IfSome}
use Rattle.atomic_table.specs.Seated.{TableId}
use Rattle.turn_desk.specs.Shown.{DeskView, LaneView, IsLaneOf}
use Rattle.asp_job.specs.declared.entry.Entry.{Entry}
use Rattle.asp_job.specs.Journal.{IsValidJournal}
use Rattle.asp_job.specs.Rules.{Rules}
use Rattle.asp_job.specs.Told.{Meaning, Told}
use Rattle.asp_job.specs.Turns.{IsRunning}
use Rattle.asp_core.specs.declared.run.Progress.{Progress}
use Rattle.asp_core.specs.declared.run.Progress.TheVariants as progress
use Rattle.asp_core.specs.declared.setting.Setting.{Setting}
use Rattle.asp_core.specs.Kernel.{CoreView, IsRunOf, RunView, past_of, rules_by, rules_of}
use Rattle.asp_desk.specs.declared.hand.Load.{Load}
use Rattle.asp_desk.specs.declared.hand.Load.TheVariants as load

-- ---- hosts

-- what stays the same of a core on a desk
abbrev pub Fixed : Type 0 → Type 0 → Type 0
Fixed R Site = R × Site × Setting

abbrev pub fixed_of : {R Site : Type 0} → R → Site → Setting → Fixed R Site
fixed_of runner site setting = (runner, site, setting)

-- a host: its desk, and the runner, the site and the setting of its core
pub record HostView (R Site : Type 0) : Type 0 where
  pub desk : DeskView (Fixed R Site)
  pub runner : R
  pub site : Site
  pub setting : Setting

-- the core of the host where this is its journal
abbrev pub core_at : {R Site : Type 0} → HostView R Site → List Entry → CoreView R Site
core_at host journal =
    record { journal = journal; runner = host.runner; site = host.site; setting = host.setting }

-- what the host's journal is held against
abbrev pub rules_at : {R Site : Type 0} → (R → Site → Meaning) → HostView R Site → Rules
rules_at meaning host = rules_by (meaning host.runner host.site) host.setting

-- two cores that differ in their journals alone
pub record IsSameHouse {R Site : Type 0} (old new : CoreView R Site) : Type 0 where
  pub runner : new.runner ≡ old.runner
  pub site : new.site ≡ old.site
  pub setting : new.setting ≡ old.setting

-- ---- hands

-- a hand: its lane, and the run that it holds, if it holds one
pub record HandView (E F Run : Type 0) : Type 0 where
  pub lane : LaneView E F
  pub run : Option Run

abbrev no_desk : TableId
no_desk = record { words = 0; slots = 0; views_name = 0; atom = 0; block = 0; offset = 0; slot_names = [] }

-- the lane of a hand; while a turn of it lasts, one of no desk
abbrev pub lane_in : {E F : Type 0} → Option (LaneView E F) → LaneView E F
lane_in None = record { desk = no_desk; number = 0; seen = []; own = []; fixed = None }
lane_in (Some lane) = lane

-- the run of a load
abbrev pub load_run : {Store Run : Type 0} → Load Store Run → Option Run
load_run (load.Free store) = None
load_run (load.Runs run) = Some run

abbrev pub run_in : {Store Run : Type 0} → Option (Load Store Run) → Option Run
run_in None = None
run_in (Some load) = load_run load

-- the number of a run that is held
abbrev pub held_number : {State : Type 0} → Option (RunView State) → Option ℕ
held_number None = None
held_number (Some run) = Some run.number

-- The core's journal is valid. The run that a lane of this number holds, if it holds one, is one of the core's and was
-- told what the journal says, and no other run of the lane is unfinished.
pub record Holds {R Site State : Type 0} (meaning : R → Site → Meaning)
    (stands : R → Site → State → Told → ℕ → Type 0) (core : CoreView R Site) (lane : ℕ)
    (held : Option (RunView State)) : Type 0 where
  pub valid : IsValidJournal (rules_of meaning core) (past_of core)
  pub run_is : IfSome held (IsRunOf meaning stands core lane)
  pub alone : (run : ℕ) → IsRunning (past_of core) lane run → held_number held ≡ Some run

-- it may go on, or waits for its call
abbrev pub IsUnderWay : Progress → Type 0
IsUnderWay progress.Going = Unit {0}
IsUnderWay (progress.Wants call) = Unit {0}
IsUnderWay progress.Ended = ⊥
IsUnderWay progress.Dead = ⊥

-- A hand of the host: the journal that its lane has seen is valid, and the run in the hand, which is under way, is the
-- one unfinished run of the lane.
abbrev pub IsHandOf : {R Site State : Type 0} → (R → Site → Meaning) → (R → Site → State → Told → ℕ → Type 0) →
    HostView R Site → HandView Entry (Fixed R Site) (RunView State) → Type 0
IsHandOf meaning stands host hand =
    IsLaneOf host.desk hand.lane × Holds meaning stands (core_at host hand.lane.seen) hand.lane.number hand.run
    × IfSome hand.run (λ run. IsUnderWay run.progress)
