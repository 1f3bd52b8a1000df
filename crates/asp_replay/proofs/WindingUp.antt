-- A feed that is wound up: what its host does then comes from no item, and it ends as it did.
use Rattle.std.proofs.Common.{◌≡◌, ◌≢◌, ◌⊎◌, ℕ, zero, suc, ◌||◌, Bool, true, false, List, [], ◌∷◌, ◌++◌}
use Rattle.std.proofs.Common.{reverse, refl, ap, sym, ◌∙◌, subst, append_assoc, inl, inr, Option, Some, None, Err}
use Rattle.std.proofs.lemmas.Bool.{cases_Bool}
use Rattle.asp_journal.specs.declared.full.Full.{Full}
use Rattle.asp_core.specs.Kernel.{CoreView, RunView, grown, past_of, rules_of}
use Rattle.asp_core.specs.Laws.{NoneIs}
use Rattle.asp_core.proofs.Kept.{past_of_more}
use Rattle.asp_io.specs.Faults as faults
use Rattle.asp_job.specs.declared.answer.Fail.{Fail}
use Rattle.asp_job.specs.declared.entry.Entry.{Entry}
use Rattle.asp_job.specs.declared.entry.What.TheVariants.{Halt}
use Rattle.asp_job.specs.History.{with_lane}
use Rattle.asp_job.specs.Journal.{AreRight, IsValidJournal, past_after}
use Rattle.asp_job.specs.Rules.{Rules}
use Rattle.asp_job.specs.Runs.{is_halt, is_halted}
use Rattle.asp_job.specs.Told.{Meaning, Told}
use Rattle.asp_lane.proofs.Started.{started_grown}
use Rattle.asp_lane.specs.Started.{HasStarted}
use Rattle.asp_lane.specs.declared.turn.TurnEnd.{TurnEnd}
use Rattle.asp_lane.specs.declared.turn.TurnEnd.TheVariants as turn
use Rattle.asp_lane.specs.Rest.{HasTurned, Turned}
use Rattle.asp_lane.specs.Turns.{AddsTurn, Fits, IsStep, IsTurn}
use Rattle.asp_record.specs.declared.recording.Item.{Item}
use Rattle.asp_replay.specs.declared.stop.FeedStop.{FeedStop}
use Rattle.asp_replay.specs.declared.stop.FeedStop.TheVariants as stop
use Rattle.asp_replay.specs.Feed.{ArePartWritten, HasCause, HasFailed, HasWoundUp, IsPassed, IsWoundUp, WasTooMuch}
use Rattle.asp_feed.specs.Feeding.{IsFedPart, comes, events_of}
use Rattle.asp_feed.specs.Shown.{Shown, shown_of}
use Rattle.asp_replay.specs.Underway.{EndsSo, GrowsQuietly}
use Rattle.asp_replay.proofs.Aside.{fits_still}
use Rattle.asp_replay.proofs.Events.{IsAsBefore, come_as_before, fed_as_before, quiet_all}
use Rattle.asp_replay.proofs.Starting.{grown_none}
use Rattle.asp_replay.proofs.Turning.{grown_both, right_grown}
use Rattle.asp_replay.proofs.Written.{shown_first}

-- ---- a core grows quietly

quiet_both : (first second : List Entry) → NoneIs comes first → NoneIs comes second → NoneIs comes (first ++ second)
quiet_both [] second one two = two
quiet_both (entry ∷ first) second one two = (one.0, quiet_both first second one.1 two)

stays_quiet : {R Site : Type 0} → (core : CoreView R Site) → GrowsQuietly core core
stays_quiet core = record { entries = []; new_is = grown_none core; quiet = tt }

pub quiet_then : {R Site : Type 0} → (old mid new : CoreView R Site) → GrowsQuietly old mid → GrowsQuietly mid new
    → GrowsQuietly old new
quiet_then old mid new one two = record {
  entries = one.entries ++ two.entries;
  new_is = two.new_is ∙ ap (λ core. grown core two.entries) one.new_is ∙ grown_both old one.entries two.entries;
  quiet = quiet_both one.entries two.entries one.quiet two.quiet;
}

past_quiet : {R Site : Type 0} → (old new : CoreView R Site) → (grows : GrowsQuietly old new)
    → past_of new ≡ past_after (past_of old) grows.entries
past_quiet old new grows = ap (λ core. past_of core) grows.new_is ∙ past_of_more old.journal grows.entries

-- ---- turns

step_quiet : (m : Rules) (past : List Entry) (lane run : ℕ) (entry : Entry) → IsStep m past lane run entry
    → NoneIs comes (entry ∷ [])
step_quiet m past lane run entry (inl called) = rw called.2 (refl, tt)
step_quiet m past lane run entry (inr (inl ended)) = rw ended.1 (refl, tt)
step_quiet m past lane run entry (inr (inr died)) = rw died (refl, tt)

adds_quiet : {State : Type 0} → (m : Rules) (past : List Entry) (lane : ℕ) (in_hand : Option (RunView State))
    (entries : List Entry) (t : TurnEnd) → AddsTurn m past lane in_hand entries t → NoneIs comes entries
adds_quiet m past lane None entries turn.Done adds = rw adds.2 (refl, tt)
adds_quiet m past lane None entries turn.More adds = absurd adds
adds_quiet m past lane None entries turn.Idle adds = rw adds.1 tt
adds_quiet m past lane None entries (turn.JournalFull full) adds = rw adds.1 tt
adds_quiet m past lane None entries turn.Memory adds = rw adds tt
adds_quiet m past lane (Some run) entries turn.Done adds =
    rw adds.2 (step_quiet m past lane run.number adds.0 adds.1)
adds_quiet m past lane (Some run) entries turn.More adds = rw adds tt
adds_quiet m past lane (Some run) entries turn.Idle adds = absurd adds
adds_quiet m past lane (Some run) entries (turn.JournalFull full) adds = rw adds.1 (refl, tt)
adds_quiet m past lane (Some run) entries turn.Memory adds = absurd adds

-- ---- a Halt

wound_is : (past : List Entry) (ended : FeedStop) → HasWoundUp past → IsWoundUp past ended
wound_is past (stop.StartFailed fail) wound = tt
wound_is past (stop.JournalFull full) wound = wound
wound_is past stop.WriteFault wound = wound
wound_is past stop.Memory wound = tt

or_true : (a b : Bool) → b ≡ true → a || b ≡ true
or_true true b e = refl
or_true false b e = e

pub halted_after : (past entries : List Entry) → is_halted past ≡ true → is_halted (past_after past entries) ≡ true
halted_after past [] halted = halted
halted_after past (entry ∷ entries) halted =
    halted_after (entry ∷ past) entries (or_true (is_halt entry.what) (is_halted past) halted)

-- a Halt stands for good
pub halted_still : {R Site : Type 0} → (old new : CoreView R Site) → GrowsQuietly old new
    → is_halted (past_of old) ≡ true → is_halted (past_of new) ≡ true
halted_still old new grows halted =
    subst (λ past. is_halted past ≡ true) (sym (past_quiet old new grows))
    (halted_after (past_of old) grows.entries halted)

-- what a call adds that halts the host
pub record Halts {R Site : Type 0} (old new : CoreView R Site) : Type 0 where
  pub first : is_halted (past_of old) ≡ false → new ≡ grown old (with_lane 0 Halt ∷ [])
  pub again : is_halted (past_of old) ≡ true → new ≡ old

pub halt_quiet : {R Site : Type 0} → (old new : CoreView R Site) → Halts old new
    → GrowsQuietly old new × (is_halted (past_of new) ≡ true)
halt_quiet old new halts = elim (cases_Bool (is_halted (past_of old))) [
  | inl halted ↦ (let same = halts.again halted in rw same (stays_quiet old, halted))
  | inr going ↦ (let grows : GrowsQuietly old new = record {
    entries = with_lane 0 Halt ∷ [];
    new_is = halts.first going;
    quiet = (refl, tt);
  } in (
    grows,
    subst (λ past. is_halted past ≡ true) (sym (past_quiet old new grows)) refl,
  ))
]

module _ {R Site State : Type 0} (meaning : R → Site → Meaning) (stands : R → Site → State → Told → ℕ → Type 0) where
  -- what is in hand fits a host that was halted
  pub halt_fits : (old new : CoreView R Site) (in_hand : Option (RunView State)) → Halts old new
      → AreRight (rules_of meaning new) (past_of new) → Fits meaning stands old 0 in_hand
      → Fits meaning stands new 0 in_hand
  halt_fits old new in_hand halts right fits = elim (cases_Bool (is_halted (past_of old))) [
    | inl halted ↦ subst (λ core. Fits meaning stands core 0 in_hand) (sym (halts.again halted)) fits
    | inr going ↦ (let is = halts.first going in
        let entries = with_lane 0 Halt ∷ [] in
        subst (λ core. Fits meaning stands core 0 in_hand) (sym is)
        (fits_still meaning stands old entries in_hand (right_grown meaning old new entries is right) (refl, tt) fits))
  ]

  turn_quiet : (old new : CoreView R Site) (in_hand then_in_hand : Option (RunView State)) (t : TurnEnd)
      → IsTurn meaning stands 0 old in_hand new then_in_hand t → GrowsQuietly old new
  turn_quiet old new in_hand then_in_hand t is = record {
    entries = is.entries;
    new_is = is.new_is;
    quiet = adds_quiet (rules_of meaning old) (past_of old) 0 in_hand is.entries t is.adds;
  }

  turned_quiet : (old new : CoreView R Site) (in_hand then_in_hand : Option (RunView State)) (count : ℕ)
      → Turned meaning stands 0 old in_hand count new then_in_hand → GrowsQuietly old new
  turned_quiet old new in_hand then_in_hand zero turned =
      subst (GrowsQuietly old) (sym turned.0) (stays_quiet old)
  turned_quiet old new in_hand then_in_hand (suc n) turned =
      quiet_then old turned.0 new (turned_quiet old turned.0 in_hand turned.1 n turned.3)
      (turn_quiet turned.0 new turned.1 then_in_hand turned.2 turned.4)

  pub turns_quiet : (old new : CoreView R Site) (in_hand then_in_hand : Option (RunView State)) (last : TurnEnd)
      → HasTurned meaning stands 0 old in_hand new then_in_hand last → GrowsQuietly old new
  turns_quiet old new in_hand then_in_hand last is =
      quiet_then old is.mid new (turned_quiet old is.mid in_hand is.held is.count is.before)
      (turn_quiet is.mid new is.held then_in_hand last is.last_turn)

  -- where no run is in hand after turns on a host that was halted, its feed was wound up
  pub wound_free : (old new : CoreView R Site) (in_hand then_in_hand : Option (RunView State)) (last : TurnEnd)
      (ended : FeedStop) → HasTurned meaning stands 0 old in_hand new then_in_hand last → then_in_hand ≡ None
      → is_halted (past_of old) ≡ true → IsWoundUp (past_of new) ended
  wound_free old new in_hand then_in_hand last ended is none halted =
      wound_is (past_of new) ended (record {
        halted = halted_still old new (turns_quiet old new in_hand then_in_hand last is) halted;
        none_left = subst (λ (some : Option (RunView State)). Fits meaning stands new 0 some) none is.last_turn.fits;
      })

-- ---- how it ends

pub added : (past entries : List Entry) → (more : List Entry) × (past_after past entries ≡ more ++ past)
added past [] = ([], refl)
added past (entry ∷ entries) =
    let rest = added (entry ∷ past) entries in
    (rest.0 ++ entry ∷ [], rest.1 ∙ sym (append_assoc rest.0 (entry ∷ []) past))

pub fed_then : (items : List Item) (old new : List Entry) → IsAsBefore old new → IsFedPart items old → IsFedPart items new
fed_then items old new same (inl fed) = inl (fed_as_before items old new same fed)
fed_then items old new same (inr part) =
    inr (part.0, part.1, part.2, part.3, come_as_before (reverse part.0) old new part.2 same part.4)

pub much_then : (m : Rules) (items : List Item) (past more : List Entry) (full : Full)
    → WasTooMuch m items past full → WasTooMuch m items (more ++ past) full
much_then m items past more full much = (
  much.0,
  more ++ much.1,
  ap (λ some. more ++ some) much.2 ∙ sym (append_assoc more much.1 much.0),
  much.3,
)

cause_then : (m : Rules) (items : List Item) (past new more : List Entry) (ended : FeedStop) → new ≡ more ++ past
    → ((fail : Fail) → ended ≡ stop.StartFailed fail → new ≡ past) → HasCause m items past ended
    → HasCause m items new ended
cause_then m items past new more (stop.StartFailed fail) is same cause =
    subst (λ some. HasFailed m some fail) (sym (same fail refl)) cause
cause_then m items past new more (stop.JournalFull full) is same cause =
    subst (λ some. WasTooMuch m items some full) (sym is)
    (much_then m items past more full cause)
cause_then m items past new more stop.WriteFault is same cause = tt
cause_then m items past new more stop.Memory is same cause = tt

pub part_then : (m : Rules) (past new : List Entry) (more : List Shown) (before after : Option (List ℕ))
    → shown_of m new ≡ shown_of m past ++ more → ArePartWritten m past before after
    → ArePartWritten m new before after
part_then m past new more before after is part = record {
  first = part.first;
  later = part.later ++ more;
  shown_are = is ∙ ap (λ some. some ++ more) part.shown_are ∙ append_assoc part.first part.later more;
  records = part.records;
  are_records = part.are_records;
  wrote = part.wrote;
}

ends_same : (m : Rules) (items : List Item) (past entries : List Entry) (ended : FeedStop)
    (before after : Option (List ℕ)) → NoneIs comes entries
    → ((fail : Fail) → ended ≡ stop.StartFailed fail → past_after past entries ≡ past)
    → EndsSo m items past ended before after → EndsSo m items (past_after past entries) ended before after
ends_same m items past entries ended before after quiet same ends =
    let new = past_after past entries in
    let more = added past entries in
    let shows = shown_first m past entries in
    record {
      fed = fed_then items past new (quiet_all past entries quiet) ends.fed;
      cause = cause_then m items past new more.0 ended more.1 same ends.cause;
      written = part_then m past new shows.0 before after shows.1 ends.written;
    }

-- a feed that is wound up ends as it did, or for want of memory
pub ends_then : {R Site : Type 0} → (m : Rules) (items : List Item) (old new : CoreView R Site)
    (ended then_ended : FeedStop) (before after : Option (List ℕ)) → GrowsQuietly old new
    → (then_ended ≡ ended) ⊎ (then_ended ≡ stop.Memory)
    → ((fail : Fail) → ended ≡ stop.StartFailed fail → new ≡ old)
    → EndsSo m items (past_of old) ended before after → EndsSo m items (past_of new) then_ended before after
ends_then m items old new ended then_ended before after grows told same ends =
    let of = past_quiet old new grows in
    let now : EndsSo m items (past_of new) ended before after =
    subst (λ past. EndsSo m items past ended before after) (sym of)
    (ends_same m items (past_of old) grows.entries ended before after grows.quiet
    (λ fail e. sym of ∙ ap (λ core. past_of core) (same fail e)) ends) in
    elim told [
      | inl is ↦ subst (λ some. EndsSo m items (past_of new) some before after) (sym is) now
      | inr is ↦ subst (λ some. EndsSo m items (past_of new) some before after) (sym is)
          (record { fed = now.fed; cause = tt; written = now.written })
    ]

still_no_fault : (ended then_ended : FeedStop) → (then_ended ≡ ended) ⊎ (then_ended ≡ stop.Memory)
    → ended ≢ stop.WriteFault → then_ended ≢ stop.WriteFault
still_no_fault ended then_ended (inl is) not = λ e. not (sym is ∙ e)
still_no_fault ended then_ended (inr is) not = λ e. absurd (let both : stop.Memory ≡ stop.WriteFault = sym is ∙ e in cc)

-- the first run has passed as before, or still nothing came
pub passed_then : {R Site : Type 0} → (meaning : R → Site → Meaning) (old new : CoreView R Site) (m : Rules)
    (ended then_ended : FeedStop) → rules_of meaning old ≡ m → GrowsQuietly old new
    → IsValidJournal (rules_of meaning new) (past_of new) → (then_ended ≡ ended) ⊎ (then_ended ≡ stop.Memory)
    → IsPassed m (past_of old) ended → IsPassed m (past_of new) then_ended
passed_then meaning old new m ended then_ended same grows valid told (inl started) =
    let still = started_grown meaning old new (grows.entries, grows.new_is) valid
    (subst (λ some. HasStarted some (past_of old)) (sym same) started) in
    inl (subst (λ some. HasStarted some (past_of new)) same still)
passed_then meaning old new m ended then_ended same grows valid told (inr none) = inr (
  ap events_of (past_quiet old new grows) ∙ (quiet_all (past_of old) grows.entries grows.quiet).events ∙ none.0,
  still_no_fault ended then_ended told none.1,
)

pub fault_then : {T : Type 0} → (old new : ℕ) (ended then_ended : FeedStop)
    → (then_ended ≡ ended) ⊎ (then_ended ≡ stop.Memory)
    → faults.HasCause {T = T} stop.WriteFault old new (Err ended)
    → faults.HasCause {T = T} stop.WriteFault old new (Err then_ended)
fault_then old new ended then_ended (inl is) cause = rw is cause
fault_then old new ended then_ended (inr is) cause =
    rw is (record { later = cause.later; within = cause.within; failed = λ e. absurd cc })
