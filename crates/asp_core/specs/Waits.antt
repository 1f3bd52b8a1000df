-- Which answers wait to be handed out: those of the runs that ended, until they are.
use Rattle.std.specs.Prelude.{◌≡◌, ℕ, nat_eq, Bool, if◌then◌else◌, List, [], ◌∷◌, Option, None}
use Rattle.std.specs.Map.{lookup}
use Rattle.asp_job.specs.declared.answer.Answer.{Answer}
use Rattle.asp_job.specs.declared.entry.Entry.{Entry}
use Rattle.asp_job.specs.Output.{answer_of_run}
use Rattle.asp_job.specs.Rules.{Rules}
use Rattle.asp_job.specs.Runs.{has_ended, is_taken}
use Rattle.asp_core.specs.Ready.{ready}

-- no answer of the run is among these
abbrev pub HasNone : ℕ → List (ℕ × Answer) → Type 0
HasNone r answers = lookup (nat_eq r) answers ≡ None

-- no run has two
abbrev pub AreOnce : List (ℕ × Answer) → Type 0
AreOnce [] = Unit {0}
AreOnce (first ∷ rest) = HasNone first.0 rest × AreOnce rest

-- what waits for a run: its answer, once it has ended and before it is handed out
abbrev pub waits : Bool → Bool → Option Answer → Option Answer
waits ended taken answer = if ended then (if taken then None else answer) else None

abbrev pub WaitsFor : Rules → List Entry → ℕ → Type 0
WaitsFor rules past r =
    lookup (nat_eq r) (ready rules past) ≡ waits (has_ended past r) (is_taken past r) (answer_of_run rules past r)

-- the answers that wait, each once, are those of the runs that ended and were not handed out
pub record AreThose (rules : Rules) (past : List Entry) : Type 0 where
  pub once : AreOnce (ready rules past)
  pub found : (r : ℕ) → WaitsFor rules past r
