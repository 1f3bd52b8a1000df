-- Hands that work in threads, each with a place for what comes of it. All of it is the product's own.
use Rattle.std.specs.Prelude.{ℕ}
use Rattle.asp_job.specs.Running.{Pace}
use Rattle.asp_job.specs.declared.entry.Entry.{Entry}
use Rattle.asp_job.specs.Told.{Meaning, Told}
use Rattle.asp_core.specs.Kernel.{RunView}
use Rattle.asp_desk.specs.declared.slices.Slice.{Slice}
use Rattle.asp_desk.specs.declared.worker.WorkerOf.{WorkerOf}
use Rattle.asp_desk.specs.Hands.{Fixed, HandView, HostView, IsHandOf}
use Rattle.asp_desk.specs.Loops.{HasLooped}

-- a hand with this in its place
abbrev pub with_place : {H T : Type 0} → T → H → WorkerOf H T
with_place start hand = record { hand = hand; made = start }

module _ {R Site State : Type 0} (pace : R → Pace) (meaning : R → Site → Meaning)
    (stands : R → Site → State → Told → ℕ → Type 0) (may_hold : ℕ → Type 0) (host : HostView R Site) where
  abbrev Looper : Type 0
  Looper = WorkerOf (HandView Entry (Fixed R Site) (RunView State)) Slice

  -- the hand has taken slices until nothing was left to do, and what the last one came to is in its place
  pub record LoopsOn (old new : Looper) : Type 0 where
    pub hand : IsHandOf meaning stands host new.hand
    pub slices : HasLooped pace meaning stands host may_hold old.hand new.made new.hand
