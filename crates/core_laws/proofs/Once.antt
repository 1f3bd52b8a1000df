-- The answer of a run is handed out once.
use Rattle.std.proofs.Common.{◌≡◌, ℕ, ◌+◌, ◌≤◌, ◌||◌, Bool, true, false, if◌then◌else◌, List, [], ◌∷◌, refl, arith}
use Rattle.std.proofs.Common.{inl, inr, subst}
use Rattle.std.proofs.lemmas.Bool.{cases_Bool, eqb-true}
use Rattle.std.proofs.lemmas.List.Sums.{sum_by-cons}
use Rattle.core_laws.specs.Given.{hand_outs}
use Rattle.asp_job.specs.History.{with_lane}
use Rattle.asp_job.specs.Journal.{AreRight, IsRight}
use Rattle.asp_job.specs.Rules.{Rules}
use Rattle.asp_job.specs.Runs.{is_taken, takes}
use Rattle.asp_job.specs.Turns.{owed}
use Rattle.asp_job.specs.declared.entry.Entry.{Entry}
use Rattle.asp_job.specs.declared.entry.What.{What}
use Rattle.asp_job.specs.declared.entry.What.TheVariants.{Take}
use Rattle.asp_core.proofs.Answering.{take_right}

abbrev one_if : Bool → ℕ
one_if b = if b then 1 else 0

more : (past : List Entry) (entry : Entry) (r : ℕ) → hand_outs (entry ∷ past) r
    ≡ one_if (takes r entry.what) + hand_outs past r
more past entry r = sum_by-cons (λ (one : Entry). one_if (takes r one.what)) entry past

either_false : (a b : Bool) → (a || b) ≡ false → (a ≡ false) × (b ≡ false)
either_false true b e = absurd cc
either_false false b e = (refl, e)

none_out : (past : List Entry) (r : ℕ) → is_taken past r ≡ false → hand_outs past r ≡ 0
none_out [] r e = refl
none_out (entry ∷ past) r e =
    let both = either_false (takes r entry.what) (is_taken past r) e in
    let rest = none_out past r both.1 in
    let here : one_if (takes r entry.what) ≡ 0 = rw both.0 refl in
    let all = more past entry r in
    omega arith

first_out : (m : Rules) (past : List Entry) (lane : ℕ) (what : What) (r : ℕ) → IsRight m past (with_lane lane what)
    → takes r what ≡ true → is_taken past r ≡ false
first_out m past lane (Take run) r right t = subst (λ k. is_taken past k ≡ false) (eqb-true run r t)
    (take_right m past lane run (owed m past) right.turn).kept
first_out m past lane _ r right t = absurd cc

pub once_out : (m : Rules) (past : List Entry) → AreRight m past → (r : ℕ) → hand_outs past r ≤ 1
once_out m [] right r = omega arith
once_out m (entry ∷ past) right r = elim (cases_Bool (takes r entry.what)) [
  | inl own ↦ (let none = none_out past r (first_out m past entry.lane entry.what r right.0 own) in
      let here : one_if (takes r entry.what) ≡ 1 = rw own refl in
      let all = more past entry r in
      omega arith)
  | inr other ↦ (let before = once_out m past right.1 r in
      let here : one_if (takes r entry.what) ≡ 0 = rw other refl in
      let all = more past entry r in
      omega arith)
]
