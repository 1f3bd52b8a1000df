-- How a run goes on, and through.
use Rattle.std.proofs.Common.{◌≡◌, ℕ, zero, suc, true, false, List, [], ◌∷◌, refl, ap, sym, ◌∙◌, subst}
use Rattle.std.proofs.Common.{inl, inr, Option, Some, None}
use Rattle.vb_value.specs.declared.application.AppCall.{AppCall}
use Rattle.asp_journal.specs.declared.full.Full.{Full}
use Rattle.asp_core.specs.Kernel.{CoreView, IsWithin, RunView, past_of, rules_of}
use Rattle.asp_lane.proofs.Growing.{past_one, same_core}
use Rattle.asp_lane.specs.Course.{Calls}
use Rattle.asp_lane.specs.declared.stop.RunStop.{RunStop}
use Rattle.asp_lane.specs.declared.stop.RunStop.TheVariants as stop
use Rattle.asp_lane.specs.Underway.{GoesOn, IsGoingStop, IsNextTooMuch, has_just_ended, turn_stop}
use Rattle.asp_job.specs.declared.entry.EndKind.{EndKind}
use Rattle.asp_job.specs.declared.entry.EndKind.TheVariants as kind
use Rattle.asp_job.specs.declared.entry.Entry.{Entry}
use Rattle.asp_job.specs.History.{call_entry}
use Rattle.asp_job.specs.Journal.{AreRight, IsValidJournal, end_entry}
use Rattle.asp_job.specs.Keys.{told}
use Rattle.asp_job.specs.Output.{answer_by, counted, finished_in, length_in, made_in, status_in}
use Rattle.asp_job.specs.Rules.{Rules}
use Rattle.asp_job.specs.Runs.{is_unfinished, unfinished}
use Rattle.asp_job.specs.Told.{Meaning, Told, Wants}
use Rattle.asp_lane.proofs.Unfinished.{ended_none}
use Rattle.asp_lane.specs.declared.turn.TurnEnd.{TurnEnd}
use Rattle.asp_lane.specs.declared.turn.TurnEnd.TheVariants as turn
use Rattle.asp_lane.specs.Turns.{Fits, IsCallTooMuch, IsStep, IsTurn}

-- ---- calls

-- one call more
calls_more : (rules : Rules) (lane run n : ℕ) (from mid : List Entry) (call : AppCall)
    → Calls rules lane run n from mid → rules.meaning.does (told rules mid run) ≡ Wants call
    → IsWithin (call_entry mid lane run call ∷ mid)
    → Calls rules lane run (suc n) from (call_entry mid lane run call ∷ mid)
calls_more rules lane run zero from mid call calls wants within =
    subst (λ (some : List Entry). Calls rules lane run 1 some (call_entry mid lane run call ∷ mid)) calls
    (call, wants, within, refl)
calls_more rules lane run (suc n) from mid call calls wants within = (
  calls.0,
  calls.1,
  calls.2,
  calls_more rules lane run n (call_entry from lane run calls.0 ∷ from) mid call calls.3 wants within,
)

-- the run is in hand, and has made some calls since then
pub record HasCalled (rules : Rules) (lane : ℕ) (from : List Entry) (run : ℕ) (to : List Entry) : Type 0 where
  pub count : ℕ
  pub calls : Calls rules lane run count from to
  pub alone : unfinished to ≡ run ∷ []

pub none_called : (rules : Rules) (lane : ℕ) (from : List Entry) (run : ℕ) → unfinished from ≡ run ∷ []
    → HasCalled rules lane from run from
none_called rules lane from run alone = record { count = zero; calls = refl; alone = alone }

one_alone : (run other : ℕ) → run ∷ [] ≡ other ∷ [] → run ≡ other
one_alone run other e = cc

-- an End leaves no run unfinished
ended_free : (rules : Rules) (past : List Entry) (lane run : ℕ) (how : EndKind) → AreRight rules past
    → is_unfinished past run ≡ true → unfinished past ≡ run ∷ []
    → unfinished (end_entry rules past lane run how ∷ past) ≡ []
ended_free rules past lane run how right busy alone =
    let answer = answer_by rules past run how in
    let does = rules.meaning.does (told rules past run) in
    ended_none rules past lane run how (status_in answer) (length_in answer) (counted how (made_in does))
    (counted how (finished_in does)) right busy alone

not_both : (past : List Entry) (run : ℕ) → unfinished past ≡ [] → unfinished past ≡ run ∷ [] → ⊥
not_both past run free alone = let both : [] ≡ run ∷ [] = sym free ∙ alone in cc

-- ---- one entry of the run in hand

module _ (rules : Rules) (lane : ℕ) (from past new : List Entry) (begun : ℕ) (entry : Entry)
    (right : AreRight rules past) (busy : is_unfinished past begun ≡ true)
    (called : HasCalled rules lane from begun past) (new_is : new ≡ entry ∷ past)
  where
    after : (made : Entry) → entry ≡ made → new ≡ made ∷ past
    after made is = new_is ∙ ap (λ some. some ∷ past) is

    freed : (how : EndKind) → entry ≡ end_entry rules past lane begun how → unfinished new ≡ []
    freed how is = ap unfinished (after (end_entry rules past lane begun how) is)
        ∙ ended_free rules past lane begun how right busy called.alone

    -- it was a call, where a run is still unfinished
    step_calls : (held : ℕ) → IsStep rules past lane begun entry → IsWithin new → unfinished new ≡ held ∷ []
        → HasCalled rules lane from begun new
    step_calls held (inl call) within alone =
        let made = call_entry past lane begun call.0 in
        let is = after made call.2 in
        let room : IsWithin (made ∷ past) = subst IsWithin is within in
        let then : HasCalled rules lane from begun (made ∷ past) = record {
          count = suc called.count;
          calls = calls_more rules lane begun called.count from past call.0 called.calls call.1 room;
          alone = called.alone;
        } in
        subst (HasCalled rules lane from begun) (sym is) then
    step_calls held (inr (inl ended)) within alone = absurd (not_both new held (freed kind.Done ended.1) alone)
    step_calls held (inr (inr died)) within alone = absurd (not_both new held (freed kind.Memory died) alone)

    just_ended : (how : EndKind) → entry ≡ end_entry rules past lane begun how → has_just_ended begun new ≡ true
        → has_just_ended begun (end_entry rules past lane begun how ∷ past) ≡ true
    just_ended how is e =
        subst (λ (some : List Entry). has_just_ended begun some ≡ true)
        (after (end_entry rules past lane begun how) is) e

    -- it was the End of the run, where none is left and it has just ended
    step_ends : IsStep rules past lane begun entry → unfinished new ≡ [] → has_just_ended begun new ≡ true
        → GoesOn rules lane from begun new
    step_ends (inl call) free e =
        let made = call_entry past lane begun call.0 in
        absurd (not_both new begun free (ap unfinished (after made call.2) ∙ called.alone))
    step_ends (inr (inl ended)) free e = record {
      mid = past;
      count = called.count;
      calls = called.calls;
      ends = ended.0;
      to_is = after (end_entry rules past lane begun kind.Done) ended.1;
    }
    step_ends (inr (inr died)) free e = absurd (let both : false ≡ true = just_ended kind.Memory died e in cc)

-- ---- one turn

module _ {R Site State : Type 0} (meaning : R → Site → Meaning) (stands : R → Site → State → Told → ℕ → Type 0)
    (lane : ℕ) (old new : CoreView R Site) (from : List Entry) (begun : ℕ)
    (right : AreRight (rules_of meaning old) (past_of old))
    (called : HasCalled (rules_of meaning old) lane from begun (past_of old)) where
  abbrev m : Rules
  m = rules_of meaning old

  number_is : (held : RunView State) → Fits meaning stands old lane (Some held) → held.number ≡ begun
  number_is held fits = one_alone held.number begun (sym fits.0.alone ∙ called.alone)

  busy_is : (held : RunView State) → Fits meaning stands old lane (Some held) → is_unfinished (past_of old) begun ≡ true
  busy_is held fits = subst (λ n. is_unfinished (past_of old) n ≡ true) (number_is held fits)
      fits.0.is_of.running.unfinished

  pub turn_calls : (in_hand : Option (RunView State)) (then_held : RunView State) (t : TurnEnd)
      → Fits meaning stands old lane in_hand → IsTurn meaning stands lane old in_hand new (Some then_held) t
      → turn_stop t ≡ None → IsWithin (past_of new) → HasCalled m lane from begun (past_of new)
  turn_calls None then_held t fits is e within = absurd (not_both (past_of old) begun fits called.alone)
  turn_calls (Some held) then_held turn.Done fits is e within =
      step_calls m lane from (past_of old) (past_of new) begun is.adds.0 right (busy_is held fits) called
      (past_one old new is.entries is.adds.0 is.new_is is.adds.2) then_held.number
      (subst (λ n. IsStep m (past_of old) lane n is.adds.0) (number_is held fits) is.adds.1) within is.fits.0.alone
  turn_calls (Some held) then_held turn.More fits is e within =
      subst (λ core. HasCalled m lane from begun (past_of core)) (sym (same_core old new is.entries is.new_is is.adds))
      called
  turn_calls (Some held) then_held turn.Idle fits is e within = absurd is.adds
  turn_calls (Some held) then_held (turn.JournalFull full) fits is e within = absurd cc
  turn_calls (Some held) then_held turn.Memory fits is e within = absurd is.adds

  pub turn_ends : (in_hand : Option (RunView State)) (t : TurnEnd) → Fits meaning stands old lane in_hand
      → IsTurn meaning stands lane old in_hand new None t → turn_stop t ≡ None
      → has_just_ended begun (past_of new) ≡ true → GoesOn m lane from begun (past_of new)
  turn_ends None t fits is e ended = absurd (not_both (past_of old) begun fits called.alone)
  turn_ends (Some held) turn.Done fits is e ended =
      step_ends m lane from (past_of old) (past_of new) begun is.adds.0 right (busy_is held fits) called
      (past_one old new is.entries is.adds.0 is.new_is is.adds.2)
      (subst (λ n. IsStep m (past_of old) lane n is.adds.0) (number_is held fits) is.adds.1) is.fits ended
  turn_ends (Some held) turn.More fits is e ended =
      let same = same_core old new is.entries is.new_is is.adds in
      absurd (not_both (past_of old) begun (ap (λ core. unfinished (past_of core)) (sym same) ∙ is.fits) called.alone)
  turn_ends (Some held) turn.Idle fits is e ended = absurd is.adds
  turn_ends (Some held) (turn.JournalFull full) fits is e ended = absurd cc
  turn_ends (Some held) turn.Memory fits is e ended = absurd is.adds

  turn_full : (in_hand then_in_hand : Option (RunView State)) (full : Full)
      → Fits meaning stands old lane in_hand
      → IsTurn meaning stands lane old in_hand new then_in_hand (turn.JournalFull full)
      → IsValidJournal m (past_of old) → IsNextTooMuch m lane from begun full
  turn_full None then_in_hand full fits is valid = absurd (not_both (past_of old) begun fits called.alone)
  turn_full (Some held) then_in_hand full fits is valid = record {
    mid = past_of old;
    count = called.count;
    calls = called.calls;
    valid = valid;
    much = subst (λ n. IsCallTooMuch m (past_of old) lane n full) (number_is held fits) is.adds.0;
  }

  pub turn_stops : (in_hand then_in_hand : Option (RunView State)) (t : TurnEnd) (ended : RunStop)
      → Fits meaning stands old lane in_hand → IsTurn meaning stands lane old in_hand new then_in_hand t
      → IsValidJournal m (past_of old) → turn_stop t ≡ Some ended → IsGoingStop m lane from begun ended
  turn_stops in_hand then_in_hand turn.Done ended fits is valid e = absurd cc
  turn_stops in_hand then_in_hand turn.More ended fits is valid e = absurd cc
  turn_stops in_hand then_in_hand turn.Idle ended fits is valid e =
      let same : stop.Memory ≡ ended = cc in subst (IsGoingStop m lane from begun) same tt
  turn_stops in_hand then_in_hand (turn.JournalFull full) ended fits is valid e =
      let same : stop.JournalFull full ≡ ended = cc in
      subst (IsGoingStop m lane from begun) same (turn_full in_hand then_in_hand full fits is valid)
  turn_stops in_hand then_in_hand turn.Memory ended fits is valid e =
      let same : stop.Memory ≡ ended = cc in subst (IsGoingStop m lane from begun) same tt
