-- A slice of lane 0's work beside other lanes, and what did not fit in it.
use Rattle.std.proofs.Common.{◌≡◌, ℕ, List, [], ◌∷◌, ◌++◌, Option, Err, ap, sym, ◌∙◌, subst}
use Rattle.std.proofs.Common.{inl, inr, reverse, append_assoc, false}
use Rattle.std.proofs.lemmas.List.{append_cancel_left, reverse-append}
use Rattle.turn_desk.specs.Histories.{BeginsWith}
use Rattle.turn_desk.specs.Shown.{HasOwn, LaneView}
use Rattle.asp_core.proofs.Kept.{past_of_more}
use Rattle.asp_core.specs.declared.stop.BeginStop.{BeginStop}
use Rattle.asp_core.specs.declared.stop.BeginStop.TheVariants as begin
use Rattle.asp_core.specs.Kernel.{IsBeginTooMuch, RunView}
use Rattle.asp_replay.proofs.Adding.{begins_then, ready_adds}
use Rattle.asp_desk.specs.Calls.{AreWork}
use Rattle.asp_desk.specs.declared.slices.Slice.TheVariants as slice
use Rattle.asp_desk.specs.declared.steps.Stepped.{Stepped}
use Rattle.asp_desk.specs.declared.steps.Stepped.TheVariants as step
use Rattle.asp_desk.specs.Hands.{Fixed, HandView, HostView, core_at, rules_at}
use Rattle.asp_desk.specs.Slices.{HasGoneOn, HasStepped, IsSlice, StepsHere, Works, slice_of, stopped}
use Rattle.asp_desk.specs.Steps.{Begins}
use Rattle.asp_replay.specs.Adds.{AddsWork}
use Rattle.asp_job.specs.declared.entry.Entry.{Entry}
use Rattle.asp_job.specs.Journal.{AreRight, past_after}
use Rattle.asp_job.specs.Rules.{Rules}
use Rattle.asp_journal.specs.declared.full.Full.{Full}
use Rattle.asp_job.specs.Running.{Pace}
use Rattle.asp_job.specs.Told.{Meaning, Told}
use Rattle.asp_lane.proofs.Turns.{wants_so}
use Rattle.asp_lane.specs.Turns.{IsCallTooMuch}
use Rattle.asp_replay.specs.declared.stop.FeedStop.TheVariants as stop
use Rattle.asp_replay.specs.Feed.IsTooMuchNext.{OfBegin, OfCall}
use Rattle.asp_replay.specs.Feed.{IsTooMuchNext}
use Rattle.asp_feed.specs.Feeding.{IsFedPart}
use Rattle.asp_record.specs.declared.recording.Item.{Item}
use Rattle.asp_replay.specs.Near.{HasWorked, IsBorneOut, IsTooMuchHere, StaysNear, WasMuchNear}
use Rattle.asp_replay.proofs.Grown.{fed_part}
use Rattle.asp_replay.proofs.Others.{lane_in, later_work, work_found}
use Rattle.asp_replay.proofs.Quiet.{borne_before}
use Rattle.asp_replay.proofs.Showing.{right_before}
use Rattle.asp_replay.proofs.StandsNear.{near_ends, near_worked}
use Rattle.asp_replay.proofs.TakenNear.{worked_quiet}

-- so many entries of that weight were too much at a turn between two moments of a lane
pub record IsTooMuchBetween {F : Type 0} (rules : Rules) (old new : LaneView Entry F) (full : Full) : Type 0 where
  pub before : List Entry
  pub later : BeginsWith before old.seen
  pub earlier : BeginsWith new.seen before
  pub much : IsTooMuchHere rules (reverse before) old.number full

-- ---- in a slice

begins_much : (rules : Rules) (lane : ℕ) (before after : List Entry) (why : BeginStop) (full : Full)
    → slice.JournalFull full ≡ stopped why → Begins rules lane before (Err why) after
    → IsBeginTooMuch rules (reverse before) lane full
begins_much rules lane before after begin.Idle full is does = absurd cc
begins_much rules lane before after (begin.JournalFull much) full is does =
    let same : much ≡ full = cc in
    subst (IsBeginTooMuch rules (reverse before) lane) same does.1
begins_much rules lane before after begin.Memory full is does = absurd cc

module _ {R Site State : Type 0} (pace : R → Pace) (meaning : R → Site → Meaning)
    (stands : R → Site → State → Told → ℕ → Type 0) (host : HostView R Site) (may_hold : ℕ → Type 0) where
  abbrev Hand : Type 0
  Hand = HandView Entry (Fixed R Site) (RunView State)

  step_much : (lane : ℕ) (run : RunView State) (before after : List Entry) (stepped : Stepped) (full : Full)
      → slice.JournalFull full ≡ slice_of stepped
      → StepsHere pace meaning stands host run lane before stepped after
      → IsCallTooMuch (rules_at meaning host) (reverse before) lane run.number full
  step_much lane run before after step.Called full is does = absurd cc
  step_much lane run before after step.Ended full is does = absurd cc
  step_much lane run before after (step.Blocked holder) full is does = absurd cc
  step_much lane run before after (step.JournalFull over) full is does =
      let same : over ≡ full = cc in
      let call = does.0.0 in
      let wanted = does.0.1 in
      let here : IsCallTooMuch (rules_at meaning host) (reverse before) lane run.number over = record {
        running = does.1.running;
        call = call;
        wants = wants_so meaning stands (core_at host before) lane run call does.1 wanted.0;
        free = wanted.1;
        much = does.0.2;
      } in
      subst (IsCallTooMuch (rules_at meaning host) (reverse before) lane run.number) same here

  stepped_much : (a ready paused b : Hand) (stepped : Stepped) (full : Full) → AddsWork a.lane ready.lane
      → HasGoneOn pace meaning stands host ready false paused
      → HasStepped pace meaning stands host paused stepped b → slice.JournalFull full ≡ slice_of stepped
      → IsTooMuchBetween (rules_at meaning host) a.lane b.lane full
  stepped_much a ready paused b stepped full adds gone has is =
      let number : paused.lane.number ≡ a.lane.number = ap (λ (l : LaneView Entry (Fixed R Site)). l.number) gone.lane
      ∙ adds.number in
      let seen : BeginsWith paused.lane.seen a.lane.seen =
      subst (λ l. BeginsWith l a.lane.seen) (sym (ap (λ (l : LaneView Entry (Fixed R Site)). l.seen) gone.lane))
      adds.later in
      let much = step_much paused.lane.number has.run has.turn.before b.lane.seen stepped full is
      has.turn.done in
      record {
        before = has.turn.before;
        later = begins_then a.lane.seen paused.lane.seen has.turn.before seen has.turn.fits.0;
        earlier = (has.turn.grows.0, has.turn.grows.1);
        much = inr (
          has.run.number,
          subst (λ n. IsCallTooMuch (rules_at meaning host) (reverse has.turn.before) n has.run.number full)
              number much,
        );
      }

  rest_much : (a ready b : Hand) (full : Full) → AddsWork a.lane ready.lane
      → Works pace meaning stands host may_hold ready (slice.JournalFull full) b
      → IsTooMuchBetween (rules_at meaning host) a.lane b.lane full
  rest_much a ready b full adds (inl held) = absurd (let is = held.1 in cc)
  rest_much a ready b full adds (inr (inl more)) = absurd (let is = more.1 in cc)
  rest_much a ready b full adds (inr (inr (paused, stepped, gone, has, is))) =
      stepped_much a ready paused b stepped full adds gone has is

  -- what did not fit in a slice
  pub slice_much : (a b : Hand) (full : Full)
      → IsSlice pace meaning stands host may_hold a (slice.JournalFull full) b
      → IsTooMuchBetween (rules_at meaning host) a.lane b.lane full
  slice_much a b full (inl (why, refused, is)) = record {
    before = refused.turn.before;
    later = refused.turn.fits.0;
    earlier = (refused.turn.grows.0, refused.turn.grows.1);
    much = inl (begins_much (rules_at meaning host) a.lane.number refused.turn.before b.lane.seen why full is
        refused.turn.done);
  }
  slice_much a b full (inr (ready, is, works)) =
      rest_much a ready b full (ready_adds pace meaning stands host may_hold a ready is) works

-- ---- the feed then ends

pub next_much : (rules : Rules) (items : List Item) (past : List Entry) (full : Full) → IsFedPart items past
    → IsTooMuchHere rules past 0 full → IsTooMuchNext rules items past full
next_much rules items past full fed (inl much) = OfBegin fed much
next_much rules items past full fed (inr much) = OfCall fed much.0 much.1

first_work : (xs ys : List Entry) → AreWork (xs ++ ys) → AreWork xs
first_work [] ys work = tt
first_work (x ∷ xs) ys work = (work.0, first_work xs ys work.1)

module _ {F : Type 0} (m : Rules) (a b : LaneView Entry F) (adds : AddsWork a b) (has : HasOwn lane_in a)
    (zero : a.number ≡ 0) (right : AreRight m (reverse b.seen)) (borne : IsBorneOut m (reverse b.seen)) where
  -- what was found on the way is work too
  work_first : (before : List Entry) (later : BeginsWith before a.seen) → BeginsWith b.seen before
      → HasWorked (reverse a.seen) (reverse before)
  work_first before later earlier =
      let same : adds.later.0 ≡ later.0 ++ earlier.0 =
      append_cancel_left a.seen adds.later.0 (later.0 ++ earlier.0)
      (sym adds.later.1 ∙ earlier.1 ∙ ap (λ l. l ++ earlier.0) later.1 ∙ append_assoc a.seen later.0 earlier.0) in
      record {
        entries = later.0;
        new_is = ap reverse later.1 ∙ past_of_more a.seen later.0;
        work = first_work later.0 earlier.0 (subst AreWork same (later_work a b adds has zero borne.others));
      }

  -- where something did not fit
  pub much_near : (full : Full) → IsTooMuchBetween m a b full
      → WasMuchNear m (reverse a.seen) (reverse b.seen) full
  much_near full much = record {
    before = reverse much.before;
    worked = work_first much.before much.later much.earlier;
    later = reverse much.earlier.0;
    new_is = ap reverse much.earlier.1 ∙ reverse-append much.before much.earlier.0;
    much = subst (λ n. IsTooMuchHere m (reverse much.before) n full) zero much.much;
  }

  -- a slice that was stopped for want of memory
  pub stays_memory : {T : Type 0} → (held : Option (List ℕ))
      → StaysNear {T = T} m (Err stop.Memory) (reverse a.seen) (reverse b.seen) held held
  stays_memory held =
      let worked = work_found a b adds has zero borne.others in
      record {
        grows = worked_quiet (reverse a.seen) (reverse b.seen) worked;
        near = λ items left clients before is. near_ends m items before held (reverse b.seen) clients left stop.Memory
            tt (near_worked m items before held (reverse a.seen) (reverse b.seen) clients left worked right
            borne.answered is);
      }

  -- and where something did not fit
  pub stays_full : {T : Type 0} → (full : Full) (held : Option (List ℕ)) → IsTooMuchBetween m a b full
      → StaysNear {T = T} m (Err (stop.JournalFull full)) (reverse a.seen) (reverse b.seen) held held
  stays_full full held much =
      let worked = work_found a b adds has zero borne.others in
      let before = reverse much.before in
      let there = work_first much.before much.later much.earlier in
      let is_new : reverse b.seen ≡ past_after before much.earlier.0 =
      ap reverse much.earlier.1 ∙ past_of_more much.before much.earlier.0 in
      let borne_there = borne_before m before much.earlier.0 (subst (IsBorneOut m) is_new borne) in
      let right_there = right_before m before much.earlier.0 (subst (AreRight m) is_new right) in
      record {
        grows = worked_quiet (reverse a.seen) (reverse b.seen) worked;
        near = λ items left clients kept is.
            let found = near_worked m items kept held (reverse a.seen) before clients left there right_there
            borne_there.answered is in
            near_ends m items kept held (reverse b.seen) clients left (stop.JournalFull full) (
              before,
              reverse much.earlier.0,
              ap reverse much.earlier.1 ∙ reverse-append much.before much.earlier.0,
              next_much m items before full (fed_part items before clients left found.stands)
                  (subst (λ n. IsTooMuchHere m before n full) zero much.much),
            ) (near_worked m items kept held (reverse a.seen) (reverse b.seen) clients left worked right
            borne.answered is);
      }
