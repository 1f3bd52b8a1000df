-- What a recording that is made comes to, whose answers are let go.
use Rattle.std.proofs.Common.{◌≡◌, ℕ, Bool, true, List, ◌++◌, refl, ap, ◌∙◌, subst, inl, inr, arith, Option, None}
use Rattle.std.proofs.Common.{Result, Ok, Err, IfErr, IsErrAnd, OnOk}
use Rattle.std.proofs.lemmas.Result.{err_from_is_err_and}
use Rattle.asp_core.specs.Kernel.{CoreView, past_of, rules_by, rules_of}
use Rattle.asp_io.specs.Faults.{HasCause}
use Rattle.asp_job.specs.declared.entry.Entry.{Entry}
use Rattle.asp_job.specs.Journal.{IsValidJournal}
use Rattle.asp_job.specs.Rules.{Rules}
use Rattle.asp_job.specs.Told.{Meaning}
use Rattle.asp_record.specs.declared.recording.Item.{Item}
use Rattle.asp_record.specs.EntryLines.{lines_in}
use Rattle.asp_record.specs.Journal.{AreLines}
use Rattle.asp_replay.specs.declared.stop.FeedStop.{FeedStop}
use Rattle.asp_replay.specs.declared.stop.FeedStop.TheVariants as stop
use Rattle.asp_feed.specs.Shown.{lines_of}
use Rattle.asp_replay.specs.Underway.{IsCoreOf, WritesText}
use Rattle.asp_replay.proofs.FedBack.{rules_here}
use Rattle.asp_summary.specs.Counted.{summary_of}
use Rattle.asp_summary.specs.Lines.{summary_lines}
use Rattle.asp_host.specs.Gen.{HasSummed, HasSummedAll, IsSumStop, gen_workers}
use Rattle.asp_host.specs.Replayed.{HasFedUntil, IsFedBy}
use Rattle.asp_host.proofs.Replaying.{not_started}
use Rattle.asp_core.specs.declared.setting.Setting.{Setting}

-- ---- a feed that stopped

-- a sink that counts no faults was not the cause
no_fault : {T : Type 0} → (fed : Result T FeedStop) (ended : FeedStop) → HasCause stop.WriteFault 0 0 fed
    → fed ≡ Err ended → ended ≡ stop.WriteFault → ⊥
no_fault fed ended cause was fault = omega (arith, cause.failed (was ∙ ap Err fault))

-- a feed stopped so, and nothing was written
pub sum_stopped : {T : Type 0} → (rules : Rules) (items : List Item) (count : ℕ) (journal : Bool)
    (held : Option (List ℕ)) (fed : Result T FeedStop) (ended : FeedStop) → HasCause stop.WriteFault 0 0 fed
    → fed ≡ Err ended
    → HasFedUntil gen_workers rules items ended None None
    → IsSumStop rules items count journal (record { before = held; after = held }) ended
sum_stopped rules items count journal held fed (stop.StartFailed fail) cause was (inl none) =
    absurd (let e = none.0 in cc)
sum_stopped rules items count journal held fed (stop.StartFailed fail) cause was (inr part) =
    (not_started gen_workers rules items part.0 fail None None part.1, refl)
sum_stopped rules items count journal held fed (stop.JournalFull full) cause was (inl none) =
    absurd (let e = none.0 in cc)
sum_stopped rules items count journal held fed (stop.JournalFull full) cause was (inr part) = (part, refl)
sum_stopped rules items count journal held fed stop.WriteFault cause was stops =
    absurd (no_fault fed stop.WriteFault cause was refl)
sum_stopped rules items count journal held fed stop.Memory cause was stops = inl refl

-- and that is no fault of the sink that is written to
pub no_cause : {S T : Type 0} → (fed : Result S FeedStop) (ended : FeedStop) (result : Result T FeedStop) (faults : ℕ)
    → HasCause stop.WriteFault 0 0 fed → fed ≡ Err ended → IsErrAnd result (λ err. err ≡ ended)
    → HasCause stop.WriteFault faults faults result
no_cause {S} {T} fed ended result faults cause was is =
    let err = err_from_is_err_and result is in
    let first : result ≡ Err err.0 = err.1 in
    let same : err.0 ≡ ended = err.2 in
    record {
      later = omega arith;
      within = λ small. small;
      failed = λ e. absurd (no_fault fed ended cause was (let is_fault : result ≡ Err stop.WriteFault = e in cc));
    }

-- ---- a feed that came to its end

-- what is then written
abbrev all_lines : ℕ → Bool → List Entry → List ℕ
all_lines count journal past = lines_of journal past ++ summary_lines (summary_of count past)

module _ {R Site : Type 0} (meaning : R → Site → Meaning) where
  summed : (core : CoreView R Site) (runner : R) (site : Site) (setting : Setting) (items : List Item) (count : ℕ)
      (journal : Bool) → IsCoreOf runner site setting core → IsValidJournal (rules_of meaning core) (past_of core)
      → IsFedBy gen_workers (rules_by (meaning runner site) setting) items (past_of core)
      → HasSummed (rules_by (meaning runner site) setting) items count journal (all_lines count journal (past_of core))
  summed core runner site setting items count journal of valid whole =
      let past = past_of core in
      record {
        past = past;
        account = subst (λ some. IsValidJournal some past) (rules_here meaning core runner site setting of) valid;
        whole = whole;
        output_is = refl;
      }

  pub sum_ok : {T : Type 0} → (core : CoreView R Site) (runner : R) (site : Site) (setting : Setting)
      (items : List Item)
      (count : ℕ) (journal : Bool) (held after : Option (List ℕ)) (result : Result T FeedStop)
      → IsCoreOf runner site setting core → IsValidJournal (rules_of meaning core) (past_of core)
      → IsFedBy gen_workers (rules_by (meaning runner site) setting) items (past_of core)
      → WritesText (all_lines count journal (past_of core)) result held after
      → OnOk result (journal ≡ true → AreLines (lines_in (past_of core)))
      → OnOk result (HasSummedAll (rules_by (meaning runner site) setting) items count journal
      (record { before = held; after = after }))
  unfolding summed
  sum_ok core runner site setting items count journal held after (Ok given) of valid whole wrote lines = record {
    output = all_lines count journal (past_of core);
    summed = summed core runner site setting items count journal of valid whole;
    lines = lines;
    wrote = wrote;
  }
  sum_ok core runner site setting items count journal held after (Err ended) of valid whole wrote lines = tt

  pub sum_err : {T : Type 0} → (core : CoreView R Site) (runner : R) (site : Site) (setting : Setting)
      (items : List Item)
      (count : ℕ) (journal : Bool) (held after : Option (List ℕ)) (result : Result T FeedStop)
      → IsCoreOf runner site setting core → IsValidJournal (rules_of meaning core) (past_of core)
      → IsFedBy gen_workers (rules_by (meaning runner site) setting) items (past_of core)
      → WritesText (all_lines count journal (past_of core)) result held after
      → IfErr result (IsSumStop (rules_by (meaning runner site) setting) items count journal
      (record { before = held; after = after }))
  sum_err core runner site setting items count journal held after (Ok given) of valid whole wrote = tt
  sum_err core runner site setting items count journal held after (Err (stop.StartFailed fail)) of valid whole wrote =
      absurd wrote
  sum_err core runner site setting items count journal held after (Err (stop.JournalFull full)) of valid whole
      wrote = absurd wrote
  sum_err core runner site setting items count journal held after (Err stop.WriteFault) of valid whole part =
      (all_lines count journal (past_of core), summed core runner site setting items count journal of valid whole, part)
  sum_err core runner site setting items count journal held after (Err stop.Memory) of valid whole part = inr (
    all_lines count journal (past_of core),
    summed core runner site setting items count journal of valid whole,
    part,
  )
