-- What a worker of a host does who takes connections. All of it is the product's own.
use Rattle.std.specs.Prelude.{◌≡◌, ℕ, List, ◌∷◌, ◌++◌, reverse, Option, Some, None, IfSome}
use Rattle.turn_desk.specs.Histories.{BeginsWith}
use Rattle.turn_desk.specs.Shown.{LaneView}
use Rattle.vb_value.specs.declared.application.AppCall.{AppCall}
use Rattle.asp_journal.specs.declared.full.Full.{Full}
use Rattle.asp_core.specs.declared.stop.EventStop.{EventStop}
use Rattle.asp_core.specs.declared.stop.EventStop.TheVariants as event
use Rattle.asp_core.specs.Kernel.{IsBeginTooMuch, IsTooMuch, RunView}
use Rattle.asp_job.specs.declared.entry.Entry.{Entry}
use Rattle.asp_job.specs.declared.job.Job.{Job}
use Rattle.asp_job.specs.History.{call_entry}
use Rattle.asp_job.specs.Journal.{admit_entries, past_after, stop_entries}
use Rattle.asp_job.specs.Rules.{Rules}
use Rattle.asp_job.specs.Told.{Meaning, Told}
use Rattle.asp_desk.specs.declared.slices.Slice.{Slice}
use Rattle.asp_desk.specs.declared.slices.Slice.TheVariants as slice
use Rattle.asp_desk.specs.declared.worker.WorkerOf.{WorkerOf}
use Rattle.asp_desk.specs.Hands.{Fixed, HandView, HostView, IsHandOf, rules_at}
use Rattle.asp_serve.specs.declared.ending.LinkEnd.{LinkEnd}
use Rattle.asp_serve.specs.declared.ending.LinkEnd.TheVariants as link
use Rattle.asp_serve.specs.declared.visits.Early.{Early}
use Rattle.asp_serve.specs.declared.visits.Early.TheVariants as early
use Rattle.asp_serve.specs.declared.visits.Next.{Next}
use Rattle.asp_serve.specs.declared.visits.Next.TheVariants as next

-- ---- what did not fit

-- With the entries of a job, of the Stop, of a Begin or of a call it would be so full: too many or too heavy.
pub data IsTooMuchHere (rules : Rules) (past : List Entry) (full : Full) : Type 0 where
  OfJob : (lane : ℕ) (job : Job) → IsTooMuch (past_after past (admit_entries rules past lane job)) full
      → IsTooMuchHere rules past full
  OfStop : (lane : ℕ) → IsTooMuch (past_after past (stop_entries rules past lane)) full → IsTooMuchHere rules past full
  OfBegin : (lane : ℕ) → IsBeginTooMuch rules past lane full → IsTooMuchHere rules past full
  OfCall : (lane run : ℕ) (call : AppCall) → IsTooMuch (call_entry past lane run call ∷ past) full
      → IsTooMuchHere rules past full

-- at some point of the journal it was so
abbrev pub WasTooMuch : Rules → List Entry → Full → Type 0
WasTooMuch rules past full =
    (later : List Entry) × (earlier : List Entry) × (past ≡ later ++ earlier) × IsTooMuchHere rules earlier full

-- ---- a worker

-- a moment of a lane, and a later one
pub record IsLater {F : Type 0} (old new : LaneView Entry F) : Type 0 where
  pub seen : BeginsWith new.seen old.seen
  pub number : new.number ≡ old.number

-- why a worker ended early: something did not fit into the journal that it has seen, memory ran out, or the wire failed
abbrev pub IsEarly : Type 0 → Rules → List Entry → Early → Type 0
IsEarly fails rules past (early.JournalFull full) = WasTooMuch rules past full
IsEarly fails rules past early.Memory = Unit {0}
IsEarly fails rules past early.AcceptFault = fails

-- some value of the wire's type has a count of faults
abbrev pub MayFail : {W : Type 0} → (W → ℕ) → Type 0
MayFail {W} faults = (((wire : W) → faults wire ≡ 0) → ⊥)

-- what a worker finds at the wire: where it failed, the wire may fail
abbrev pub Finds : {L : Type 0} → Type 0 → Next L → Type 0
Finds fails next.Failed = fails
Finds fails _ = Unit {0}

-- from one moment of the lane to a later one, with the cause where something ended early
pub record Ends {F : Type 0} (fails : Type 0) (rules : Rules) (old : LaneView Entry F) (early : Option Early)
    (new : LaneView Entry F) : Type 0 where
  pub later : IsLater old new
  pub cause : IfSome early (IsEarly fails rules (reverse new.seen))

-- the worker goes on, or ends so
abbrev pub Comes : {F : Type 0} → Type 0 → Rules → LaneView Entry F → Option (Option Early) → LaneView Entry F → Type 0
Comes fails rules old None new = IsLater old new
Comes fails rules old (Some early) new = Ends fails rules old early new

-- whether it ends where its connection ended so, and then why, if early; where its slices came to this; where the host
-- could not be stopped
abbrev pub link_end : LinkEnd → Option (Option Early)
link_end (link.JournalFull full) = Some (Some (early.JournalFull full))
link_end link.Memory = Some (Some early.Memory)
link_end link.Drained = Some None
link_end _ = None

abbrev pub early_slice : Slice → Option Early
early_slice (slice.JournalFull full) = Some (early.JournalFull full)
early_slice slice.Memory = Some early.Memory
early_slice _ = None

abbrev pub early_stop : EventStop → Early
early_stop (event.JournalFull full) = early.JournalFull full
early_stop event.Memory = early.Memory

module _ {R Site State : Type 0} (meaning : R → Site → Meaning) (stands : R → Site → State → Told → ℕ → Type 0)
    (host : HostView R Site) where
  abbrev Hand : Type 0
  Hand = HandView Entry (Fixed R Site) (RunView State)

  -- a free hand of the host
  abbrev pub IsFreeHand : Hand → Type 0
  IsFreeHand hand = IsHandOf meaning stands host hand × (hand.run ≡ None)

  -- The worker has come to its end: its hand is free, has seen what it had seen and more, and if the worker ended early
  -- there is a cause.
  pub record HasVisited (fails : Type 0) (old new : WorkerOf Hand (Option Early)) : Type 0 where
    pub hand : IsFreeHand new.hand
    pub ends : Ends fails (rules_at meaning host) old.hand.lane new.made new.hand.lane
