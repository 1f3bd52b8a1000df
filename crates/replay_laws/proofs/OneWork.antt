-- Of a journal one run is in hand, or begins, and it makes one step.
use Rattle.std.proofs.Common.{◌≡◌, ℕ, true, false, List, [], ◌∷◌, sym, ap, subst, ◌∙◌, inl, inr, arith}
use Rattle.std.proofs.lemmas.Bool.{cases_lt}
use Rattle.asp_job.specs.declared.answer.Finished.{Finished}
use Rattle.asp_job.specs.declared.entry.Entry.{Entry}
use Rattle.asp_job.specs.History.{call_entry}
use Rattle.asp_job.specs.Journal.{begin_entry}
use Rattle.asp_job.specs.Keys.{told}
use Rattle.asp_job.specs.Rules.{Rules}
use Rattle.asp_job.specs.Told.{Ends, Wants}
use Rattle.asp_job.specs.Turns.{IsNextRun}
use Rattle.asp_replay.specs.Sequential.{HasInHand, IsNextStep, Works}

-- the least run that may begin is one
pub one_next_run : (past : List Entry) (run other : ℕ) → IsNextRun past run → IsNextRun past other → run ≡ other
one_next_run past run other is also = elim (cases_lt run other) [
  | inl below ↦ absurd (let both : true ≡ false = sym is.begins ∙ also.least run below in cc)
  | inr above ↦ elim (cases_lt other run) [
    | inl below ↦ absurd (let both : true ≡ false = sym also.begins ∙ is.least other below in cc)
    | inr under ↦ omega arith
  ]
]

module _ (rules : Rules) where
  one_in_hand : (past mid later : List Entry) (run other : ℕ) → HasInHand rules past mid run
      → HasInHand rules past later other → (mid ≡ later) × (run ≡ other)
  one_in_hand past mid later run other (inl has) (inl also) =
      let both : run ∷ [] ≡ other ∷ [] = sym has.0 ∙ also.0 in
      let same : run ≡ other = cc in
      (has.1 ∙ sym also.1, same)
  one_in_hand past mid later run other (inl has) (inr begins) =
      absurd (let both : run ∷ [] ≡ [] = sym has.0 ∙ begins.0 in cc)
  one_in_hand past mid later run other (inr begins) (inl has) =
      absurd (let both : other ∷ [] ≡ [] = sym has.0 ∙ begins.0 in cc)
  one_in_hand past mid later run other (inr begins) (inr also) =
      let same : run ≡ other = one_next_run past run other begins.1.next also.1.next in
      (begins.2 ∙ ap (λ some. begin_entry rules past 0 some ∷ past) same ∙ sym also.2, same)

  -- what its meaning wants or leaves is one
  one_step : (past : List Entry) (run : ℕ) (entry other : Entry) → IsNextStep rules past run entry
      → IsNextStep rules past run other → entry ≡ other
  one_step past run entry other (inl wants) (inl also) =
      let both : Wants wants.0 ≡ Wants also.0 = sym wants.1 ∙ also.1 in
      let same : wants.0 ≡ also.0 = cc in
      wants.2 ∙ ap (call_entry past 0 run) same ∙ sym also.2
  one_step past run entry other (inl wants) (inr ends) =
      let ended : (finished : Finished) × (rules.meaning.does (told rules past run) ≡ Ends finished) = ends.0 in
      absurd (let both : Wants wants.0 ≡ Ends ended.0 = sym wants.1 ∙ ended.1 in cc)
  one_step past run entry other (inr ends) (inl wants) =
      let ended : (finished : Finished) × (rules.meaning.does (told rules past run) ≡ Ends finished) = ends.0 in
      absurd (let both : Wants wants.0 ≡ Ends ended.0 = sym wants.1 ∙ ended.1 in cc)
  one_step past run entry other (inr ends) (inr also) = ends.1 ∙ sym also.1

  -- the run in hand goes on in one way
  pub one_work : (past new other : List Entry) → Works rules past new → Works rules past other → new ≡ other
  one_work past new other is also =
      let hand = one_in_hand past is.mid also.mid is.run also.run is.in_hand also.in_hand in
      let turned : IsNextStep rules also.mid also.run is.entry =
      subst (λ run. IsNextStep rules also.mid run is.entry) hand.1
      (subst (λ mid. IsNextStep rules mid is.run is.entry) hand.0 is.step) in
      let entry : is.entry ≡ also.entry = one_step also.mid also.run is.entry also.entry turned also.step in
      let mid : is.mid ≡ also.mid = hand.0 in
      let both : is.entry ∷ is.mid ≡ also.entry ∷ also.mid = λ i. entry i ∷ mid i in
      is.new_is ∙ both ∙ sym also.new_is
