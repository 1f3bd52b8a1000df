-- The runs that lanes have under way, beside the core that they were moved out of.
use Rattle.std.specs.Prelude.{◌≡◌, ◌<◌, ℕ, List, length, slice_index_or, slice_set, Option, Some, None}
use Rattle.asp_job.specs.declared.entry.EndKind.{EndKind}
use Rattle.asp_job.specs.declared.entry.EndKind.TheVariants as kind
use Rattle.asp_job.specs.Told.{Told, Meaning}
use Rattle.asp_core.specs.Kernel.{CoreView, RunView, IsHostOf, IsRunOf, StandsAsBefore}
use Rattle.asp_core.specs.declared.run.Progress.{Progress}
use Rattle.asp_core.specs.declared.run.Progress.TheVariants as progress

-- The runner and the site are those that the core was given, and the run of each lane, if it has one, is the core's.
pub record IsDesk {R Site State : Type 0} (meaning : R → Site → Meaning)
    (stands : R → Site → State → Told → ℕ → Type 0) (core : CoreView R Site) (runner : R) (site : Site)
    (runs : List (Option (RunView State))) : Type 0 where
  pub host : IsHostOf core runner site
  pub runs_are : (lane : ℕ) (run : RunView State) → slice_index_or runs lane None ≡ Some run →
      IsRunOf meaning stands core lane run

-- no lane has a run
abbrev pub AreNone : {State : Type 0} → List (Option (RunView State)) → Type 0
AreNone runs = (lane : ℕ) → slice_index_or runs lane None ≡ None

-- the lane may have a run, and has none
pub record IsFree {State : Type 0} (runs : List (Option (RunView State))) (lane : ℕ) : Type 0 where
  pub within : lane < length runs
  pub none : slice_index_or runs lane None ≡ None

-- the run of the lane was taken, and these are left
pub record IsTaken {State : Type 0} (runs left : List (Option (RunView State))) (lane : ℕ) (run : RunView State) :
    Type 0 where
  pub within : lane < length runs
  pub run_is : slice_index_or runs lane None ≡ Some run
  pub left_are : left ≡ slice_set runs lane None

-- the run has gone on
pub record HasGone {State : Type 0} (stands : State → Told → ℕ → Type 0) (meaning : Meaning)
    (old new : RunView State) : Type 0 where
  pub number_is : new.number ≡ old.number
  pub stand_ins_are : new.stand_ins ≡ old.stand_ins
  pub stands_still : StandsAsBefore stands meaning old new

-- how a run ends: by itself where it has ended, and else for want of memory
abbrev pub end_kind : Progress → EndKind
end_kind progress.Ended = kind.Done
end_kind _ = kind.Memory
