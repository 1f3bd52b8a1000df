-- What a run spends where it goes on. All of it is the product's own.
use Rattle.std.specs.Prelude.{ℕ}
use Rattle.asp_job.specs.declared.runner.Step.{Step}
use Rattle.asp_job.specs.Running.{Pace, IsStep, spent_after}
use Rattle.asp_job.specs.Told.{Told, Meaning}

-- A run that was told this and had spent so many ticks came to the step within `quantum` ticks more, and has now spent
-- those that the step leaves.
pub record HasSpent {State : Type 0} (pace : Pace) (meaning : Meaning) (stands : State → Told → ℕ → Type 0)
    (quantum : ℕ) (new : State) (step : Step) (t : Told) (spent : ℕ) : Type 0 where
  pub step_is : IsStep pace meaning t spent quantum step
  pub then_stands : stands new t (spent_after meaning t spent quantum step)

-- whatever a run was told and had spent before the slice, that is what it spent
abbrev pub IsSlice : {State : Type 0} → Pace → Meaning → (State → Told → ℕ → Type 0) → ℕ → State → State → Step → Type 0
IsSlice pace meaning stands quantum old new step =
    (t : Told) (spent : ℕ) → stands old t spent → HasSpent pace meaning stands quantum new step t spent
