-- What a run on its way waits for, and how its steps follow its meaning.
use Rattle.std.specs.Prelude.{◌≡◌, ℕ, ◌+◌, ◌^◌, ◌<◌, ◌≤◌, Bool, true, false, Option, Some, None, Result, Ok, Err}
use Rattle.std.specs.Prelude.{IfSome, is_some, length}
use Rattle.vb_value.specs.declared.memory.Memory.{Memory}
use Rattle.asp_job.specs.declared.answer.Answer.{Answer}
use Rattle.asp_job.specs.declared.answer.Finished.{Finished}
use Rattle.asp_job.specs.declared.job.Work.{Work}
use Rattle.asp_job.specs.declared.job.Work.TheVariants as work
use Rattle.asp_job.specs.declared.runner.Step.{Step}
use Rattle.asp_job.specs.declared.runner.Step.TheVariants as step
use Rattle.asp_job.specs.Session.{IsSession}
use Rattle.asp_job.specs.Told.{Told, Outcome, Wants, Ends, Meaning}

-- ---- phases

-- it may go on; it waits for a reply; it has ended; memory ran out
pub data Phase : Type 0 where
  Going : Phase
  Wanting : Phase
  Over : Phase
  Dead : Phase

-- what a run waits for after a step
abbrev pub phase_of : Result Step Memory → Phase
phase_of (Ok step.More) = Going
phase_of (Ok (step.Wants call)) = Wanting
phase_of (Ok step.Ended) = Over
phase_of (Err memory) = Dead

-- ---- steps

-- whether runs are cut into slices: never, or after so many ticks as the caller says
pub data Pace : Type 0 where
  Never : Pace
  Quantum : Pace

-- A slice may end with more to do under the second pace alone, and there exactly where the run spends further ticks, as
-- its limits allow them, before it comes to what its meaning has.
abbrev pub EndsSlice : Pace → ℕ → ℕ → Type 0
EndsSlice Never allowed ticks = ⊥
EndsSlice Quantum allowed ticks = allowed < ticks

-- a slice comes to what the meaning has where no further tick is needed for it
abbrev pub IsWithinSlice : Pace → ℕ → ℕ → Type 0
IsWithinSlice Never allowed ticks = Unit {0}
IsWithinSlice Quantum allowed ticks = ticks ≤ allowed

-- the step of a run that was told this and has spent so many ticks, with `quantum` ticks more
abbrev pub IsStep : Pace → Meaning → Told → ℕ → ℕ → Step → Type 0
IsStep pace meaning told spent quantum step.More = EndsSlice pace (spent + quantum) (meaning.ticks told)
IsStep pace meaning told spent quantum (step.Wants call) =
    (meaning.does told ≡ Wants call) × IsWithinSlice pace (spent + quantum) (meaning.ticks told)
IsStep pace meaning told spent quantum step.Ended =
    ((finished : Finished) × (meaning.does told ≡ Ends finished)) × IsWithinSlice pace (spent + quantum) (meaning.ticks told)

-- how many ticks it has spent after the step
abbrev pub spent_after : Meaning → Told → ℕ → ℕ → Step → ℕ
spent_after meaning told spent quantum step.More = spent + quantum
spent_after meaning told spent quantum _ = meaning.ticks told

-- ---- the end

-- the work is that of a page
abbrev pub is_page : Work → Bool
is_page (work.Page request) = true
is_page _ = false

-- the body of an answer has fewer than 2^32 bytes
abbrev pub IsBounded : Answer → Type 0
IsBounded answer = length answer.body < 2 ^ 32

-- what a run of this work may leave: an answer exactly for a page, and a session that may be
pub record IsLeft (work : Work) (finished : Finished) : Type 0 where
  pub answered : is_some finished.answer ≡ is_page work
  pub bounded : IfSome finished.answer IsBounded
  pub session_is : IfSome finished.session IsSession

-- What a run leaves is what its meaning has, and it leaves something exactly where it has ended.
abbrev pub IsFinish : Phase → Option Finished → Told → Outcome → Type 0
IsFinish Over (Some finished) told outcome = (outcome ≡ Ends finished) × IsLeft told.job.work finished
IsFinish Over None told outcome = ⊥
IsFinish _ left told outcome = left ≡ None
