-- The course of a run is one, and what would be too much in it tells its numbers.
use Rattle.std.proofs.Common.{◌≡◌, ◌⊎◌, ℕ, zero, suc, List, ◌∷◌}
use Rattle.std.proofs.Common.{sym, subst, ◌∙◌, inl, inr, arith}
use Rattle.vb_value.specs.declared.application.AppCall.{AppCall}
use Rattle.asp_journal.specs.declared.full.Full.{Full}
use Rattle.asp_core.specs.Kernel.{IsBeginTooMuch, IsTooMuch, IsWithin}
use Rattle.asp_job.specs.declared.answer.Finished.{Finished}
use Rattle.asp_job.specs.declared.entry.EndKind.TheVariants as kind
use Rattle.asp_job.specs.declared.entry.Entry.{Entry}
use Rattle.asp_job.specs.History.{call_entry}
use Rattle.asp_job.specs.Journal.{begin_entry, end_entry}
use Rattle.asp_job.specs.Keys.{told}
use Rattle.asp_job.specs.Rules.{Rules}
use Rattle.asp_job.specs.Told.{Ends, Wants}
use Rattle.asp_lane.specs.Course.{Begins, Calls, GoesThrough, IsRunTooMuch, IsUnderWay, OfBegin, OfCall}
use Rattle.asp_lane.specs.Turns.{IsCallTooMuch}
use Rattle.replay_laws.proofs.OneWork.{one_next_run}

-- ---- room

pub no_room : (past : List Entry) (full : Full) → IsWithin past → IsTooMuch past full → ⊥
no_room past full within is = elim is.much [
  | inl many ↦ (let few = within.few in let same = is.entries_are in omega (arith, few, same, many))
  | inr heavy ↦ (let light = within.light in let same = is.weight_is in omega (arith, light, same, heavy))
]

-- a journal is too full in one way
pub one_load : (past : List Entry) (full filled : Full) → IsTooMuch past full
    → IsTooMuch past filled → full ≡ filled
one_load past full filled is also =
    let entries = is.entries_are ∙ sym also.entries_are in
    let weight = is.weight_is ∙ sym also.weight_is in
    λ i. record { entries = entries i; weight = weight i }

one_call : (call other : AppCall) → Wants call ≡ Wants other → call ≡ other
one_call call other e = cc

-- ---- the course of a run

module _ (rules : Rules) (lane : ℕ) where
  -- the run ends, or its next call would be too much
  abbrev IsStuck : ℕ → List Entry → Type 0
  IsStuck run past = ((finished : Finished) × (rules.meaning.does (told rules past run) ≡ Ends finished))
      ⊎ ((full : Full) × IsCallTooMuch rules past lane run full)

  not_stuck : (run : ℕ) (past : List Entry) (call : AppCall) → rules.meaning.does (told rules past run) ≡ Wants call
      → IsWithin (call_entry past lane run call ∷ past) → IsStuck run past → ⊥
  not_stuck run past call wants within (inl ends) = let both : Wants call ≡ Ends ends.0 = sym wants ∙ ends.1 in cc
  not_stuck run past call wants within (inr (full, much)) =
      let same : much.call ≡ call = one_call much.call call (sym much.wants ∙ wants) in
      no_room (call_entry past lane run call ∷ past) full within
      (subst (λ some. IsTooMuch (call_entry past lane run some ∷ past) full) same much.much)

  -- the calls of a run lead to one place where it is stuck
  one_place : (run n k : ℕ) (from mid other : List Entry) → Calls rules lane run n from mid
      → Calls rules lane run k from other → IsStuck run mid → IsStuck run other → mid ≡ other
  one_place run zero zero from mid other calls also stuck ends = calls ∙ sym also
  one_place run zero (suc k) from mid other calls also stuck ends =
      absurd (not_stuck run from also.0 also.1 also.2 (subst (IsStuck run) calls stuck))
  one_place run (suc n) zero from mid other calls also stuck ends =
      absurd (not_stuck run from calls.0 calls.1 calls.2 (subst (IsStuck run) also ends))
  one_place run (suc n) (suc k) from mid other calls also stuck ends =
      let same : also.0 ≡ calls.0 = one_call also.0 calls.0 (sym also.1 ∙ calls.1) in
      one_place run n k (call_entry from lane run calls.0 ∷ from) mid other calls.3
      (subst (λ call. Calls rules lane run k (call_entry from lane run call ∷ from) other) same also.3) stuck ends

  one_way : (from mid other : List Entry) (run number : ℕ) → IsUnderWay rules lane from run mid
      → IsUnderWay rules lane from number other → IsStuck run mid → IsStuck number other
      → (run ≡ number) × (mid ≡ other)
  one_way from mid other run number is also stuck ends =
      let same : number ≡ run = one_next_run from number run also.begins.next.next is.begins.next.next in (
        sym same,
        one_place run is.count also.count (begin_entry rules from lane run ∷ from) mid other is.calls
            (subst (λ some. Calls rules lane some also.count (begin_entry rules from lane some ∷ from) other) same
            also.calls) stuck
            (subst (λ some. IsStuck some other) same ends),
      )

  pub one_through : (from to last : List Entry) (run number : ℕ) → GoesThrough rules lane from run to
      → GoesThrough rules lane from number last → to ≡ last
  one_through from to last run number is also =
      let same = one_way from is.mid also.mid run number is.under_way also.under_way (inl is.ends) (inl also.ends) in
      let ended : end_entry rules is.mid lane run kind.Done ∷ is.mid
      ≡ end_entry rules also.mid lane number kind.Done ∷ also.mid
      = λ i. end_entry rules (same.1 i) lane (same.0 i) kind.Done ∷ same.1 i in
      is.to_is ∙ ended ∙ sym also.to_is

  begins_so : (from : List Entry) (run : ℕ) (full : Full) → Begins rules lane from run
      → IsBeginTooMuch rules from lane full → ⊥
  begins_so from run full begins much =
      let same : much.0 ≡ run = one_next_run from much.0 run much.1.next begins.next.next in
      no_room (begin_entry rules from lane run ∷ from) full begins.within
      (subst (λ some. IsTooMuch (begin_entry rules from lane some ∷ from) full) same much.2)

  -- a run that goes through is not too much
  pub not_too_much : (from to : List Entry) (run : ℕ) (full : Full) → GoesThrough rules lane from run to
      → IsRunTooMuch rules lane from full → ⊥
  not_too_much from to run full is (OfBegin valid much) =
      begins_so from run full is.under_way.begins much
  not_too_much from to run full is (OfCall number other way valid much) =
      let same = one_way from is.mid other run number is.under_way way (inl is.ends) (inr (full, much)) in
      let ends : rules.meaning.does (told rules other number) ≡ Ends is.ends.0 =
      subst (λ some. rules.meaning.does (told rules some number) ≡ Ends is.ends.0) same.1
      (subst (λ some. rules.meaning.does (told rules is.mid some) ≡ Ends is.ends.0) same.0 is.ends.1) in
      let both : Wants much.call ≡ Ends is.ends.0 = sym much.wants ∙ ends in
      cc

  pub one_much : (from : List Entry) (full filled : Full) → IsRunTooMuch rules lane from full
      → IsRunTooMuch rules lane from filled → full ≡ filled
  one_much from full filled (OfBegin valid much) (OfBegin sound also) =
      let same : also.0 ≡ much.0 = one_next_run from also.0 much.0 also.1.next much.1.next in
      one_load (begin_entry rules from lane much.0 ∷ from) full filled much.2
      (subst (λ some. IsTooMuch (begin_entry rules from lane some ∷ from) filled) same also.2)
  one_much from full filled (OfBegin valid much) (OfCall number other way sound also) =
      absurd (begins_so from number full way.begins much)
  one_much from full filled (OfCall run mid way valid much) (OfBegin sound also) =
      absurd (begins_so from run filled way.begins also)
  one_much from full filled (OfCall run mid way valid much) (OfCall number other course sound also) =
      let same = one_way from mid other run number way course (inr (full, much))
      (inr (filled, also)) in
      let here : IsCallTooMuch rules mid lane run filled =
      subst (λ some. IsCallTooMuch rules some lane run filled) (sym same.1)
      (subst (λ some. IsCallTooMuch rules other lane some filled) (sym same.0) also) in
      let call : here.call ≡ much.call = one_call here.call much.call (sym here.wants ∙ much.wants) in
      one_load (call_entry mid lane run much.call ∷ mid) full filled much.much
      (subst (λ some. IsTooMuch (call_entry mid lane run some ∷ mid) filled) call here.much)
