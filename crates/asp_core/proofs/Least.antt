-- The least run that may begin, among the numbers from 1 to the number of runs.
use Rattle.std.proofs.Common.{◌≡◌, ℕ, ◌+◌, ◌-◌, ◌<◌, ◌≤◌, true, false, List, length, Option, Some, None, IfNone, IfSome, ap}
use Rattle.std.proofs.Common.{subst, arith, inl, inr}
use Rattle.std.proofs.lemmas.Bool.{cases_Bool}
use Rattle.asp_core.specs.Kernel.{NoneIsNext}
use Rattle.asp_core.specs.Opening.{IsNext}
use Rattle.asp_job.specs.Journal.{AreRight}
use Rattle.asp_job.specs.Rules.{Rules}
use Rattle.asp_job.specs.Runs.{drawn, is_halted, unfinished}
use Rattle.asp_job.specs.Turns.{may_begin}
use Rattle.asp_job.specs.declared.entry.Entry.{Entry}
use Rattle.asp_job.specs.declared.entry.TheConstants.{MOST_UNFINISHED}
use Rattle.asp_core.proofs.Right.{numbered, may_begin_waits, is_drawn}

-- only runs with a number may begin
abbrev pub AreNumbered : List Entry → Type 0
AreNumbered past = (run : ℕ) → may_begin past run ≡ true → (0 < run) × (run ≤ drawn past)

pub are_numbered : (m : Rules) (past : List Entry) → AreRight m past → AreNumbered past
are_numbered m past right run may = numbered m past right run (ap is_drawn (may_begin_waits past run may))

from_one : (past : List Entry) (run : ℕ) → 0 < run → may_begin past (run - 1 + 1) ≡ false → may_begin past run ≡ false
from_one past run l e = let same : run - 1 + 1 ≡ run = omega arith in subst (λ r. may_begin past r ≡ false) same e

pub none_may : (past : List Entry) (result : Option ℕ) → AreNumbered past → IfNone result ((run : ℕ) → run < drawn past
    → may_begin past (run + 1) ≡ false) → IfNone result (NoneIsNext past)
none_may past (Some run) numbers none = none
none_may past None numbers none = inr (inr (λ run. elim (cases_Bool (may_begin past run)) [
  | inl may ↦ (let known = numbers run may in let low = known.0 in let high = known.1 in from_one past run low
      (none (run - 1) (omega arith)))
  | inr may ↦ may
]))

pub least_may : (past : List Entry) (result : Option ℕ) → AreNumbered past
    → length (unfinished past) < MOST_UNFINISHED → is_halted past ≡ false
    → IfSome result (λ run. may_begin past run ≡ true) → IfSome result (λ run. (other : ℕ) → other + 1 < run
    → may_begin past (other + 1) ≡ false) → IfSome result (λ run. IsNext past run)
least_may past None numbers few going next least = next
least_may past (Some run) numbers few going next least = record {
  first = record {
    begins = next;
    least = λ other below. elim (cases_Bool (may_begin past other)) [
      | inl may ↦ (let known = numbers other may in let low = known.0 in from_one past other low
          (least (other - 1) (omega arith)))
      | inr may ↦ may
    ];
  };
  few = few;
  going = going;
}
