-- How lane 0 leaves a host that it fed.
use Rattle.std.proofs.Common.{◌≡◌, ◌≢◌, ℕ, List, [], ◌∷◌, ◌++◌, true, Option, Err, refl, ap, sym, ◌∙◌}
use Rattle.std.proofs.Common.{subst, inl, inr, reverse, append-nil}
use Rattle.std.proofs.lemmas.Bool.{cases_Bool}
use Rattle.turn_desk.specs.Shown.{HasOwn, LaneView}
use Rattle.asp_core.proofs.Kept.{past_of_more}
use Rattle.asp_core.specs.Laws.{NoneIs}
use Rattle.asp_core.specs.Ready.{IsAnswered}
use Rattle.asp_desk.specs.Calls.{Halts, IsTurn}
use Rattle.asp_replay.specs.Adds.{AddsWork}
use Rattle.asp_job.specs.declared.entry.Entry.{Entry}
use Rattle.asp_job.specs.declared.entry.What.TheVariants.{Halt}
use Rattle.asp_job.specs.History.{with_lane}
use Rattle.asp_job.specs.Journal.{AreRight, past_after}
use Rattle.asp_job.specs.Rules.{Rules}
use Rattle.asp_job.specs.Runs.{is_halted}
use Rattle.asp_journal.specs.declared.full.Full.{Full}
use Rattle.asp_lane.proofs.Started.{started_stays}
use Rattle.asp_lane.specs.Started.{HasStarted}
use Rattle.asp_record.specs.declared.recording.Item.{Item}
use Rattle.asp_record.specs.Recorded as recorded
use Rattle.asp_replay.specs.declared.stop.FeedStop.{FeedStop}
use Rattle.asp_replay.specs.declared.stop.FeedStop.TheVariants as stop
use Rattle.asp_replay.specs.Feed.{ArePartWritten, HasCause, IsPassed, WasTooMuch}
use Rattle.asp_feed.specs.Feeding.{IsFedPart, comes, events_of}
use Rattle.asp_feed.specs.Shown.{shown_of}
use Rattle.asp_replay.specs.Near.{EndsNear, GrowsSilently, HasWorked, IsBorneOut, IsFedNear, IsHaltedFor, IsNear}
use Rattle.asp_replay.specs.Near.{Leaves, OthersWork, Overflows, Starts, WasMuchNear}
use Rattle.asp_replay.specs.Underway.{StandsAt}
use Rattle.asp_replay.proofs.Events.{quiet_all}
use Rattle.asp_replay.proofs.FirstPlace.{first_current, first_past}
use Rattle.asp_replay.proofs.Grown.{fed_part, stands_same}
use Rattle.asp_replay.proofs.Others.{lane_in, turn_found}
use Rattle.asp_replay.proofs.Pieces.{part_whole, with_none}
use Rattle.asp_replay.proofs.Quiet.{borne_before, others_before, quiet_comes, work_plain, work_quiet}
use Rattle.asp_replay.proofs.Showing.{Shows, after_both, shown_after}
use Rattle.asp_replay.proofs.SliceNear.{next_much}
use Rattle.asp_replay.proofs.WindingUp.{added, fed_then, halted_after, much_then, part_then}
use Rattle.asp_replay.proofs.Written.{shown_first}

-- ---- nothing comes

both_silent : (xs ys : List Entry) → NoneIs comes xs → NoneIs comes ys → NoneIs comes (xs ++ ys)
both_silent [] ys p q = q
both_silent (x ∷ xs) ys p q = (p.0, both_silent xs ys p.1 q)

pub silent_none : (old : List Entry) → GrowsSilently old old
silent_none old = record { entries = []; new_is = refl; silent = tt }

pub silent_then : (old mid new : List Entry) → GrowsSilently old mid → GrowsSilently mid new → GrowsSilently old new
silent_then old mid new one two = record {
  entries = one.entries ++ two.entries;
  new_is = two.new_is ∙ ap (λ past. past_after past two.entries) one.new_is
      ∙ sym (after_both old one.entries two.entries);
  silent = both_silent one.entries two.entries one.silent two.silent;
}

pub worked_silent : (old new : List Entry) → HasWorked old new → GrowsSilently old new
worked_silent old new has = record {
  entries = has.entries;
  new_is = has.new_is;
  silent = quiet_comes has.entries (work_quiet has.entries has.work);
}

-- what is borne out then was before
pub borne_silent : (m : Rules) (old new : List Entry) → GrowsSilently old new → IsBorneOut m new → IsBorneOut m old
borne_silent m old new grows borne = borne_before m old grows.entries (subst (IsBorneOut m) grows.new_is borne)

-- ---- a Halt

pub halted_silent : (old new : List Entry) → GrowsSilently old new → is_halted old ≡ true → is_halted new ≡ true
halted_silent old new grows halted =
    subst (λ past. is_halted past ≡ true) (sym grows.new_is) (halted_after old grows.entries halted)

halt_is : (lane : ℕ) (before after : List Entry) → Halts lane before tt after
    → GrowsSilently (reverse before) (reverse after) × (is_halted (reverse after) ≡ true)
halt_is lane before after halts = elim (cases_Bool (is_halted (reverse before))) [
  | inl halted ↦ (let same : reverse after ≡ reverse before = ap reverse (halts.1 halted) in (
    subst (GrowsSilently (reverse before)) (sym same) (silent_none (reverse before)),
    subst (λ past. is_halted past ≡ true) (sym same) halted,
  ))
  | inr going ↦ (let is : reverse after ≡ with_lane lane Halt ∷ reverse before =
      ap reverse (halts.0 going) ∙ past_of_more before (with_lane lane Halt ∷ []) in (
        record { entries = with_lane lane Halt ∷ []; new_is = is; silent = (refl, tt) },
        subst (λ past. is_halted past ≡ true) (sym is) refl,
      ))
]

module _ {F : Type 0} (m : Rules) (a b : LaneView Entry F) where
  pub halt_stands : IsTurn (Halts a.number) a tt b → is_halted (reverse b.seen) ≡ true
  halt_stands turn = (halt_is a.number turn.before b.seen turn.done).1

  pub halt_grows : (turn : IsTurn (Halts a.number) a tt b) → HasOwn lane_in a → a.number ≡ 0
      → IsBorneOut m (reverse b.seen) → GrowsSilently (reverse a.seen) (reverse b.seen)
  halt_grows turn has zero borne =
      let more = (halt_is a.number turn.before b.seen turn.done).0 in
      let there = others_before (reverse turn.before) more.entries (subst OthersWork more.new_is borne.others) in
      silent_then (reverse a.seen) (reverse turn.before) (reverse b.seen)
      (worked_silent (reverse a.seen) (reverse turn.before)
      (turn_found (Halts a.number) a b tt turn has zero there)) more

  pub halted_working : AddsWork a b → is_halted (reverse a.seen) ≡ true → is_halted (reverse b.seen) ≡ true
  halted_working adds halted =
      subst (λ past. is_halted past ≡ true)
      (sym (ap reverse adds.later.1 ∙ past_of_more a.seen adds.later.0))
      (halted_after (reverse a.seen) adds.later.0 halted)

-- ---- how it leaves

pub halted_for : (ended : FeedStop) (past : List Entry) → is_halted past ≡ true → IsHaltedFor ended past
halted_for (stop.StartFailed fail) past halted = tt
halted_for (stop.JournalFull full) past halted = halted
halted_for stop.WriteFault past halted = halted
halted_for stop.Memory past halted = halted

overflows_by : (m : Rules) (items : List Item) (past : List Entry) (ended : FeedStop) → HasCause m items past ended
    → Overflows m items past ended
overflows_by m items past (stop.StartFailed fail) cause = tt
overflows_by m items past (stop.JournalFull full) cause = cause
overflows_by m items past stop.WriteFault cause = tt
overflows_by m items past stop.Memory cause = tt

overflows_then : (m : Rules) (items : List Item) (old new more : List Entry) (ended : FeedStop) → new ≡ more ++ old
    → Overflows m items old ended → Overflows m items new ended
overflows_then m items old new more (stop.StartFailed fail) is much = tt
overflows_then m items old new more (stop.JournalFull full) is much =
    subst (λ some. WasTooMuch m items some full) (sym is) (much_then m items old more full much)
overflows_then m items old new more stop.WriteFault is much = tt
overflows_then m items old new more stop.Memory is much = tt

passed_then : (m : Rules) (old new : List Entry) (ended : FeedStop) → GrowsSilently old new → AreRight m new
    → IsPassed m old ended → IsPassed m new ended
passed_then m old new ended grows right (inl started) =
    inl (subst (HasStarted m) (sym grows.new_is)
    (started_stays m old grows.entries (subst (AreRight m) grows.new_is right) started))
passed_then m old new ended grows right (inr none) =
    inr (ap events_of grows.new_is ∙ (quiet_all old grows.entries grows.silent).events ∙ none.0, none.1)

-- what was said of a part of the feed stays so while nothing comes
pub leaves_then : (m : Rules) (items : List Item) (old new : List Entry) (ended : FeedStop)
    (before after : Option (List ℕ)) → GrowsSilently old new → AreRight m new → IsHaltedFor ended new
    → IsFedPart items old → IsPassed m old ended → Overflows m items old ended → ArePartWritten m old before after
    → Leaves m items new ended before after
leaves_then m items old new ended before after grows right halted fed passed much written =
    let later = past_after old grows.entries in
    let more = added old grows.entries in
    let shows = shown_first m old grows.entries in
    record {
      fed = subst (IsFedPart items) (sym grows.new_is)
          (fed_then items old later (quiet_all old grows.entries grows.silent) fed);
      passed = passed_then m old new ended grows right passed;
      much = overflows_then m items old new more.0 ended (grows.new_is ∙ more.1) much;
      written = subst (λ past. ArePartWritten m past before after) (sym grows.new_is)
          (part_then m old later shows.0 before after shows.1 written);
      halted = halted;
    }

still_halted : (ended : FeedStop) (old new : List Entry) → GrowsSilently old new → IsHaltedFor ended old
    → IsHaltedFor ended new
still_halted (stop.StartFailed fail) old new grows halted = tt
still_halted (stop.JournalFull full) old new grows halted = halted_silent old new grows halted
still_halted stop.WriteFault old new grows halted = halted_silent old new grows halted
still_halted stop.Memory old new grows halted = halted_silent old new grows halted

pub leaves_later : (m : Rules) (items : List Item) (old new : List Entry) (ended : FeedStop)
    (before after : Option (List ℕ)) → GrowsSilently old new → AreRight m new → Leaves m items old ended before after
    → Leaves m items new ended before after
leaves_later m items old new ended before after grows right is =
    leaves_then m items old new ended before after grows right (still_halted ended old new grows is.halted) is.fed
    is.passed is.much is.written

-- the feed ended, and the host was halted
pub leaves_ended : (m : Rules) (items : List Item) (old new : List Entry) (ended : FeedStop)
    (before after : Option (List ℕ)) → GrowsSilently old new → AreRight m new → is_halted new ≡ true
    → EndsNear m items old ended before after → Leaves m items new ended before after
leaves_ended m items old new ended before after grows right halted is =
    leaves_then m items old new ended before after grows right (halted_for ended new halted) is.ends.fed
    (inl is.started) (overflows_by m items old ended is.ends.cause) is.ends.written

-- all was fed, but the host was halted all the same
pub leaves_fed : (m : Rules) (items : List Item) (old new : List Entry) (before after : Option (List ℕ))
    → GrowsSilently old new → AreRight m new → is_halted new ≡ true → IsFedNear m items old before after
    → Leaves m items new stop.Memory before after
leaves_fed m items old new before after grows right halted is =
    leaves_then m items old new stop.Memory before after grows right halted (inl is.fed) (inl is.started) tt (record {
      first = shown_of m old;
      later = [];
      shown_are = sym (append-nil (shown_of m old));
      records = is.written.records;
      are_records = is.written.are_records;
      wrote = part_whole before after is.written.records is.written.wrote;
    })

-- ---- before the first run has ended well

first_stands : (items : List Item) → recorded.AreItems 0 items → StandsAt items first_past [] items
first_stands items sound = inl (record {
  open_still = refl;
  done = [];
  split = refl;
  came = record { items_are = (refl, refl); calm = (tt, tt) };
  now = refl;
  later = sound;
})

begun_stands : (items : List Item) (past : List Entry) → recorded.AreItems 0 items → HasWorked first_past past
    → StandsAt items past [] items
begun_stands items past sound worked =
    let entries = worked.entries in
    subst (λ new. StandsAt items new [] items) (sym worked.new_is)
    (stands_same items first_past (past_after first_past entries) [] items
    (quiet_all first_past entries (quiet_comes entries (work_quiet entries worked.work))) (first_stands items sound))

begun_none : (past : List Entry) → HasWorked first_past past → events_of past ≡ []
begun_none past worked =
    let entries = worked.entries in
    ap events_of worked.new_is
    ∙ (quiet_all first_past entries (quiet_comes entries (work_quiet entries worked.work))).events

-- a feed stands at its beginning
pub near_begins : (m : Rules) (items : List Item) (past : List Entry) (held : Option (List ℕ))
    → recorded.AreItems 0 items → HasWorked first_past past → AreRight m past → IsAnswered m past → HasStarted m past
    → IsNear m items past [] items held held
near_begins m items past held sound worked right answered started =
    let entries = worked.entries in
    let shows : Shows m first_past [] = record { current = first_current; shown = refl } in
    let then_shows = shown_after m first_past entries [] (subst (AreRight m) worked.new_is right)
    (subst (IsAnswered m) worked.new_is answered) (work_plain entries worked.work) shows in
    let now = subst (λ new. Shows m new []) (sym worked.new_is) then_shows in
    record {
      started = started;
      stands = begun_stands items past sound worked;
      current = now.current;
      done = [];
      shown = now.shown;
      records = [];
      are_records = refl;
      wrote = sym (with_none held);
    }

begun_much : (m : Rules) (items : List Item) (past : List Entry) (full : Full) → recorded.AreItems 0 items
    → WasMuchNear m first_past past full → WasTooMuch m items past full
begun_much m items past full sound was = (
  was.before,
  was.later,
  was.new_is,
  next_much m items was.before full (fed_part items was.before [] items (begun_stands items was.before sound was.worked))
      was.much,
)

begun_leaves : (m : Rules) (items : List Item) (old new : List Entry) (ended : FeedStop) (held : Option (List ℕ))
    → recorded.AreItems 0 items → HasWorked first_past old → ended ≢ stop.WriteFault → Overflows m items old ended
    → GrowsSilently old new → AreRight m new → IsHaltedFor ended new → Leaves m items new ended held held
begun_leaves m items old new ended held sound worked not much grows right halted =
    leaves_then m items old new ended held held grows right halted
    (fed_part items old [] items (begun_stands items old sound worked)) (inr (begun_none old worked, not)) much (record {
      first = [];
      later = shown_of m old;
      shown_are = refl;
      records = [];
      are_records = refl;
      wrote = part_whole held held [] (sym (with_none held));
    })

-- the first run did not end well
pub leaves_begun : (m : Rules) (items : List Item) (old new : List Entry) (ended : FeedStop) (held : Option (List ℕ))
    → recorded.AreItems 0 items → Starts (Err ended) m first_past old → GrowsSilently old new → AreRight m new
    → IsHaltedFor ended new → Leaves m items new ended held held
leaves_begun m items old new (stop.StartFailed fail) held sound starts grows right halted =
    begun_leaves m items old new (stop.StartFailed fail) held sound starts (λ e. cc) tt grows right halted
leaves_begun m items old new (stop.JournalFull full) held sound starts grows right halted =
    begun_leaves m items old new (stop.JournalFull full) held sound starts.0 (λ e. cc)
    (begun_much m items old full sound starts.1) grows right halted
leaves_begun m items old new stop.WriteFault held sound starts grows right halted = absurd starts
leaves_begun m items old new stop.Memory held sound starts grows right halted =
    begun_leaves m items old new stop.Memory held sound starts (λ e. cc) tt grows right halted
