-- Slices one after another, until there is nothing more to do. All of it is the product's own.
use Rattle.std.specs.Prelude.{◌≡◌, ◌⊎◌, ℕ, zero, suc, ◌==◌, ◌&&◌, ◌||◌, Bool, true, false, reverse}
use Rattle.asp_job.specs.declared.entry.Entry.{Entry}
use Rattle.asp_job.specs.Running.{Pace}
use Rattle.asp_job.specs.Told.{Meaning, Told}
use Rattle.asp_core.specs.Kernel.{RunView}
use Rattle.asp_desk.specs.declared.looking.Looked.{Looked}
use Rattle.asp_desk.specs.declared.slices.Slice.{Slice}
use Rattle.asp_desk.specs.declared.slices.Slice.TheVariants as slice
use Rattle.asp_desk.specs.Calls.{IsTurn, Looks, looked_of}
use Rattle.asp_desk.specs.Hands.{Fixed, HandView, HostView, rules_at}
use Rattle.asp_desk.specs.Slices.{IsSlice}

-- nothing is left to do: a Stop stands and no run waits or is unfinished, or a Halt stands and none is unfinished
abbrev pub is_over : Looked → Bool
is_over looked = (looked.stopping && looked.waiting == 0 || looked.halted) && looked.unfinished == 0

-- more slices do not help: an entry did not fit, or memory ran out
abbrev pub is_last : Slice → Bool
is_last (slice.JournalFull full) = true
is_last slice.Memory = true
is_last _ = false

module _ {R Site State : Type 0} (pace : R → Pace) (meaning : R → Site → Meaning)
    (stands : R → Site → State → Told → ℕ → Type 0) (host : HostView R Site) where
  abbrev Hand : Type 0
  Hand = HandView Entry (Fixed R Site) (RunView State)

  -- a look, in a turn
  pub record IsLook (old : Hand) (looked : Looked) (new : Hand) : Type 0 where
    pub turn : IsTurn (Looks (rules_at meaning host)) old.lane looked new.lane
    pub run : new.run ≡ old.run

  -- a slice after which more help, or a look
  abbrev pub IsRound : (ℕ → Type 0) → Hand → Hand → Type 0
  IsRound may_hold old new =
      ((came_to : Slice) × (is_last came_to ≡ false) × IsSlice pace meaning stands host may_hold old came_to new)
      ⊎ ((looked : Looked) × IsLook old looked new)

  -- so many of them, one after another
  abbrev pub AreRounds : (ℕ → Type 0) → ℕ → Hand → Hand → Type 0
  AreRounds may_hold zero old new = new ≡ old
  AreRounds may_hold (suc count) old new = (mid : Hand) × AreRounds may_hold count old mid × IsRound may_hold mid new

  -- the last of them is a look, by which nothing is left to do; or a slice after which more do not help
  abbrev pub IsLast : (ℕ → Type 0) → Hand → Slice → Hand → Type 0
  IsLast may_hold old came_to new =
      ((came_to ≡ slice.Idle) × ((looked : Looked) × IsLook old looked new)
      × (is_over (looked_of (rules_at meaning host) (reverse new.lane.seen)) ≡ true))
      ⊎ ((is_last came_to ≡ true) × IsSlice pace meaning stands host may_hold old came_to new)

  pub record HasLooped (may_hold : ℕ → Type 0) (old : Hand) (came_to : Slice) (new : Hand) : Type 0 where
    pub count : ℕ
    pub mid : Hand
    pub rounds : AreRounds may_hold count old mid
    pub last : IsLast may_hold mid came_to new
