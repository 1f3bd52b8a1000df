-- A slice of a hand's work: at most two turns, and between them what a run does by itself. All of it is the product's
-- own.
use Rattle.std.specs.Prelude.{◌≡◌, ◌≢◌, ◌⊎◌, ℕ, Bool, true, false, List, Option, Some, None, Result, Ok, Err, IfOk}
use Rattle.std.specs.Prelude.{IsSome}
use Rattle.vb_value.specs.declared.application.AppCall.{AppCall}
use Rattle.vb_value.specs.declared.memory.Memory.{Memory}
use Rattle.asp_job.specs.declared.entry.Entry.{Entry}
use Rattle.asp_job.specs.declared.runner.Step.{Step}
use Rattle.asp_job.specs.declared.runner.Step.TheVariants as runner
use Rattle.asp_job.specs.Running.{Pace}
use Rattle.asp_job.specs.Told.{Meaning, Told}
use Rattle.asp_core.specs.declared.run.Progress.TheVariants as progress
use Rattle.asp_core.specs.declared.stop.BeginStop.{BeginStop}
use Rattle.asp_core.specs.declared.stop.BeginStop.TheVariants as stop
use Rattle.asp_core.specs.Kernel.{IsRunOf, RunView, progress_of, turns_after}
use Rattle.asp_core.specs.Slice as ticks
use Rattle.asp_desk.specs.declared.slices.Slice.{Slice}
use Rattle.asp_desk.specs.declared.slices.Slice.TheVariants as slice
use Rattle.asp_job.specs.declared.entry.TheConstants.{QUANTUM}
use Rattle.asp_desk.specs.declared.steps.Stepped.{Stepped}
use Rattle.asp_desk.specs.declared.steps.Stepped.TheVariants as step
use Rattle.asp_desk.specs.Calls.{IsTurn}
use Rattle.asp_desk.specs.Hands.{Fixed, HandView, HostView, core_at, held_number, rules_at}
use Rattle.asp_desk.specs.Steps.{Begins, Leaves, Steps}

-- ---- what a slice comes to

-- where no run begins
abbrev pub stopped : BeginStop → Slice
stopped stop.Idle = slice.Idle
stopped (stop.JournalFull full) = slice.JournalFull full
stopped stop.Memory = slice.Memory

-- where a run has paused
abbrev pub slice_of : Stepped → Slice
slice_of step.Called = slice.Worked
slice_of step.Ended = slice.Worked
slice_of (step.Blocked holder) = slice.Blocked holder
slice_of (step.JournalFull full) = slice.JournalFull full

-- the run has more to do
abbrev pub is_more : Result Step Memory → Bool
is_more (Ok runner.More) = true
is_more _ = false

-- ---- the run

-- the hand holds this run, which has just begun
pub record HasBegun {State : Type 0} (held : Option (RunView State)) (number : ℕ) : Type 0 where
  pub run : RunView State
  pub held_is : held ≡ Some run
  pub number_is : run.number ≡ number
  pub going : run.progress ≡ progress.Going
  pub turns : run.turns ≡ 0

-- a run is held that does not go on by itself
pub record HasPaused {State : Type 0} (held : Option (RunView State)) : Type 0 where
  pub run : RunView State
  pub held_is : held ≡ Some run
  pub paused : run.progress ≢ progress.Going

-- The run has gone on by itself. It came to its step within so many ticks as a slice has, and has spent those that the
-- step leaves.
pub record HasGone {State : Type 0} (pace : Pace) (meaning : Meaning) (stands : State → Told → ℕ → Type 0)
    (run next : RunView State) (result : Result Step Memory) : Type 0 where
  pub was_going : run.progress ≡ progress.Going
  pub number : next.number ≡ run.number
  pub progress : next.progress ≡ progress_of result
  pub turns : next.turns ≡ turns_after run.turns result
  pub slice : IfOk result (ticks.IsSlice pace meaning stands QUANTUM run.state next.state)

-- A run that may go on has done so, and has more to do or has paused. One that waits for its call is as it was.
abbrev pub Goes : {State : Type 0} → Pace → Meaning → (State → Told → ℕ → Type 0) → RunView State → Bool →
    RunView State → Type 0
Goes pace meaning stands run more next =
    ((result : Result Step Memory) × HasGone pace meaning stands run next result × (more ≡ is_more result))
    ⊎ ((call : AppCall) × (run.progress ≡ progress.Wants call) × (next ≡ run) × (more ≡ false))

-- ---- the slice

module _ {R Site State : Type 0} (pace : R → Pace) (meaning : R → Site → Meaning)
    (stands : R → Site → State → Told → ℕ → Type 0) (host : HostView R Site) where
  abbrev Hand : Type 0
  Hand = HandView Entry (Fixed R Site) (RunView State)

  -- the hand held no run, and none began, in a turn
  pub record IsRefused (old : Hand) (why : BeginStop) (new : Hand) : Type 0 where
    pub was_free : old.run ≡ None
    pub turn : IsTurn (Begins (rules_at meaning host) old.lane.number) old.lane (Err why) new.lane
    pub is_free : new.run ≡ None

  -- the hand held no run, and this one began, in a turn
  pub record IsBegun (old : Hand) (number : ℕ) (new : Hand) : Type 0 where
    pub was_free : old.run ≡ None
    pub turn : IsTurn (Begins (rules_at meaning host) old.lane.number) old.lane (Ok number) new.lane
    pub begun : HasBegun new.run number

  -- a run is in hand, as it was, or has begun
  abbrev pub IsReady : Hand → Hand → Type 0
  IsReady old new = (IsSome old.run × (new ≡ old)) ⊎ ((number : ℕ) × IsBegun old number new)

  -- the gate holds the run in hand back, as it may
  pub record IsHeldBack (may_hold : ℕ → Type 0) (old new : Hand) : Type 0 where
    pub number : ℕ
    pub number_is : held_number old.run ≡ Some number
    pub may : may_hold number
    pub same : new ≡ old

  -- the run in hand has gone on without a turn, and has more to do or has paused
  pub record HasGoneOn (old : Hand) (more : Bool) (new : Hand) : Type 0 where
    pub run : RunView State
    pub was : old.run ≡ Some run
    pub next : RunView State
    pub goes : Goes (pace host.runner) (meaning host.runner host.site) (stands host.runner host.site) run more next
    pub is : new.run ≡ Some next
    pub lane : new.lane ≡ old.lane

  -- a step of this run, where it is one of the runs of the journal that the turn finds
  abbrev pub StepsHere : RunView State → ℕ → List Entry → Stepped → List Entry → Type 0
  StepsHere run lane before stepped after = Steps (rules_at meaning host) lane run before stepped after
      × IsRunOf meaning stands (core_at host before) lane run

  -- the run in hand, which has paused, has made its call or ended or was kept out, in a turn
  pub record HasStepped (old : Hand) (stepped : Stepped) (new : Hand) : Type 0 where
    pub run : RunView State
    pub was : old.run ≡ Some run
    pub turn : IsTurn (StepsHere run old.lane.number) old.lane stepped new.lane
    pub leaves : Leaves run stepped new.run

  -- what the run in hand does where it passes the gate: it has more to do; or it pauses, and makes a step
  abbrev pub Passes : Hand → Slice → Hand → Type 0
  Passes old came_to new =
      (HasGoneOn old true new × (came_to ≡ slice.Worked))
      ⊎ ((paused : Hand) × (stepped : Stepped) × HasGoneOn old false paused × HasStepped paused stepped new
      × (came_to ≡ slice_of stepped))

  -- what it does: it is held back, or passes
  abbrev pub Works : (ℕ → Type 0) → Hand → Slice → Hand → Type 0
  Works may_hold old came_to new =
      (IsHeldBack may_hold old new × (came_to ≡ slice.Held)) ⊎ Passes old came_to new

  -- no run is in hand and none begins; or one is, or begins, and the rest of the slice is its
  abbrev pub IsSlice : (ℕ → Type 0) → Hand → Slice → Hand → Type 0
  IsSlice may_hold old came_to new =
      ((why : BeginStop) × IsRefused old why new × (came_to ≡ stopped why))
      ⊎ ((ready : Hand) × IsReady old ready × Works may_hold ready came_to new)
