-- What stays while other entries come. All of it is our own.
use Rattle.std.specs.Prelude.{◌≡◌, ◌≢◌, ℕ, ◌==◌, Bool, false, All, List, [], ◌∷◌}
use Rattle.asp_job.specs.declared.entry.Entry.{Entry}
use Rattle.asp_job.specs.declared.entry.What.{What}
use Rattle.asp_job.specs.declared.entry.What.TheVariants.{App, End}
use Rattle.asp_job.specs.Keys.{told}
use Rattle.asp_job.specs.Rules.{Rules}
use Rattle.asp_job.specs.Turns.{IsRunning}

-- each entry bears the lane
abbrev pub AreOfLane : ℕ → List Entry → Type 0
AreOfLane lane entries = All (λ entry. entry.lane ≡ lane) entries

-- each entry bears another lane
abbrev pub AreOfOthers : ℕ → List Entry → Type 0
AreOfOthers lane [] = Unit {0}
AreOfOthers lane (entry ∷ entries) = (entry.lane ≢ lane) × AreOfOthers lane entries

-- the entry is a call or the End of the run
abbrev pub is_step_of : ℕ → What → Bool
is_step_of r (App run call reply) = run == r
is_step_of r (End run kind status size made finished) = run == r
is_step_of r _ = false

-- no entry is a call or the End of the run
abbrev pub AreNoSteps : ℕ → List Entry → Type 0
AreNoSteps r [] = Unit {0}
AreNoSteps r (entry ∷ entries) = (is_step_of r entry.what ≡ false) × AreNoSteps r entries

-- an unfinished run of the lane is still one, and was told the same
pub record RunStays (rules : Rules) (old new : List Entry) (lane r : ℕ) : Type 0 where
  pub running : IsRunning new lane r
  pub same : told rules new r ≡ told rules old r

-- no entry is such a one
abbrev pub NoneIs : (What → Bool) → List Entry → Type 0
NoneIs test [] = Unit {0}
NoneIs test (entry ∷ entries) = (test entry.what ≡ false) × NoneIs test entries
