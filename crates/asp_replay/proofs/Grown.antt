-- Where a feed stands when its journal has grown, and the answers that then wait were handed out.
use Rattle.std.proofs.Common.{◌≡◌, ℕ, ◌<◌, ◌&&◌, ◌||◌, Bool, true, false, List, [], ◌∷◌, ◌++◌, length, reverse, refl}
use Rattle.std.proofs.Common.{ap, sym}
use Rattle.std.proofs.Common.{◌∙◌, subst, append-nil, append_assoc, inl, inr, arith, is_some, nat_le, nat_lt, Option}
use Rattle.std.proofs.Common.{Result, Ok, Err}
use Rattle.std.proofs.lemmas.List.{reverse-append}
use Rattle.asp_core.specs.Kernel.{CoreView, past_of, rules_of}
use Rattle.asp_core.specs.Ready.{IsAnswered, ready}
use Rattle.asp_journal.specs.Telling.{end_kind}
use Rattle.asp_core.proofs.Kept.{past_of_more}
use Rattle.asp_io.specs.Sink.{with_bytes}
use Rattle.asp_job.specs.declared.answer.Answer.{Answer}
use Rattle.asp_job.specs.declared.entry.Entry.{Entry}
use Rattle.asp_job.specs.declared.entry.TheConstants.{MOST_WAITING}
use Rattle.asp_job.specs.Journal.{AreRight, admit_entries, begin_entry, past_after, stop_entries, tick_entries}
use Rattle.asp_job.specs.Rules.{Rules}
use Rattle.asp_job.specs.Runs.{is_stopping, moment_of}
use Rattle.asp_job.specs.Told.{Meaning}
use Rattle.asp_job.specs.Turns.{waiting_pages}
use Rattle.asp_lane.specs.Turns.{IsStep}
use Rattle.asp_record.specs.declared.recording.Item.{Item}
use Rattle.asp_record.specs.declared.recording.Item.TheVariants as item
use Rattle.asp_record.specs.Recorded as recorded
use Rattle.asp_replay.specs.declared.stop.FeedStop.{FeedStop}
use Rattle.asp_replay.specs.declared.stop.FeedStop.TheVariants as stop
use Rattle.asp_replay.specs.Feed.{HasCause}
use Rattle.asp_feed.specs.Feeding.{Clients, HasCome, IsFedPart, comes, is_calm, moment_by}
use Rattle.asp_replay.specs.Sequential.{AddsItem, HasInHand, IsBusy, hand_outs, handed_out, may_come}
use Rattle.asp_feed.specs.Shown.{AreRecords, Shown, shown_of}
use Rattle.asp_replay.specs.Underway.{After, AreTurnsTo, EndsSo, HandsOut, IsOfOneLane, IsOfWriting}
use Rattle.asp_replay.specs.Underway.{IsUnderWay, StandsAt, WorkAdds, stamped}
use Rattle.asp_replay.proofs.Aside.{AreAside, aside_admitted, aside_ticked}
use Rattle.asp_replay.proofs.Current.{is_tick_or_take}
use Rattle.asp_replay.proofs.Events.{IsAsBefore, come_as_before, fed_as_before, hand_outs_quiet, item_came, quiet_all}
use Rattle.asp_replay.proofs.Events.{quiet_one}
use Rattle.asp_replay.proofs.Events.{stop_came}
use Rattle.asp_replay.proofs.Handed.{ready_none, shown_handed}
use Rattle.asp_replay.proofs.Pieces.{part_more, part_whole, wrote_more}
use Rattle.asp_replay.proofs.Plain.{Stays, plain_admitted, plain_handed, plain_stopped, plain_ticked, stays_plain}
use Rattle.asp_replay.proofs.Plain.{stays_worked}
use Rattle.asp_replay.proofs.Records.{records_both}
use Rattle.asp_replay.proofs.Showing.{Shows, stamp, shown_admit, shown_grows, shown_stop, shown_tick}
use Rattle.asp_replay.proofs.Turned.{come_turned, stop_turned, work_turned}

-- ---- a journal that has grown

-- where a feed stands in a turn, before the answers that wait are handed out
pub record IsGrown (m : Rules) (items : List Item) (past : List Entry) (clients : Clients) (left : List Item)
    (before held : Option (List ℕ)) : Type 0 where
  pub done : List Shown
  pub records : List ℕ
  pub are_records : AreRecords done records
  pub wrote : held ≡ with_bytes before records
  pub shows : Shows m past done
  pub answered : IsAnswered m past
  pub stays : Stays past
  pub stands : StandsAt items past clients left
  pub turns : AreTurnsTo m items (handed_out m past) clients left

-- the items that came stay while nothing comes
pub stands_same : (items : List Item) (old new : List Entry) (clients : Clients) (left : List Item) → IsAsBefore old new
    → StandsAt items old clients left → StandsAt items new clients left
stands_same items old new clients left same (inl feeding) = inl (record {
  open_still = same.stopping ∙ feeding.open_still;
  done = feeding.done;
  split = feeding.split;
  came = come_as_before (reverse feeding.done) old new clients same feeding.came;
  now = same.moment ∙ feeding.now;
  later = feeding.later;
})
stands_same items old new clients left same (inr fed) = inr (record {
  stopped = same.stopping ∙ fed.stopped;
  none_left = fed.none_left;
  fed = fed_as_before items old new same fed.fed;
})

stands_handed : (items : List Item) (past : List Entry) (clients : Clients) (left : List Item)
    (answers : List (ℕ × Answer)) → StandsAt items past clients left
    → StandsAt items (past_after past (hand_outs answers)) clients left
stands_handed items past clients left answers stands =
    stands_same items past (past_after past (hand_outs answers)) clients left
    (quiet_all past (hand_outs answers) (hand_outs_quiet answers)) stands

pub fed_part : (items : List Item) (past : List Entry) (clients : Clients) (left : List Item)
    → StandsAt items past clients left → IsFedPart items past
fed_part items past clients left (inl feeding) = inr (feeding.done, left, clients, feeding.split, feeding.came)
fed_part items past clients left (inr fed) = inl fed.fed

writing_cause : (m : Rules) (items : List Item) (past : List Entry) (ended : FeedStop)
    → IsOfWriting {T = Unit {0}} (Err ended) → HasCause m items past ended
writing_cause m items past (stop.StartFailed fail) of = absurd of
writing_cause m items past (stop.JournalFull full) of = absurd of
writing_cause m items past stop.WriteFault of = tt
writing_cause m items past stop.Memory of = tt

-- all that waits was handed out and written, or a first part
pub handed_after : {T R Site : Type 0} → (meaning : R → Site → Meaning) (result : Result T FeedStop)
    (mid new : CoreView R Site) (items left : List Item) (clients : Clients) (before held after : Option (List ℕ))
    → IsGrown (rules_of meaning mid) items (past_of mid) clients left before held → IsOfWriting result
    → HandsOut meaning result mid new held after
    → After result (rules_of meaning mid) items (past_of new) clients left before after
handed_after meaning (Ok given) mid new items left clients before held after is of out =
    let m = rules_of meaning mid in
    let past = past_of mid in
    let answers = ready m past in
    let new_is : handed_out m past ≡ past_of new =
    sym (ap past_of out.1 ∙ past_of_more mid.journal (hand_outs answers)) in
    let same = shown_handed m past answers in
    let stay = stays_plain past (hand_outs answers) (plain_handed answers) is.stays in
    let stands = stands_handed items past clients left answers is.stands in
    let under : IsUnderWay m items (handed_out m past) clients left before after = record {
      lane = record {
        none_ready = ready_none m past;
        current = same.current is.shows.current;
        lanes = stay.lanes;
        going = stay.going;
        none_full = stay.none_full;
      };
      stands = stands;
      turns = is.turns;
      written = record {
        records = is.records ++ out.0;
        are_records = subst (λ shown. AreRecords shown (is.records ++ out.0)) (sym (same.shown ∙ is.shows.shown))
            (records_both is.done (stamped m past) is.records out.0 is.are_records out.2);
        wrote = wrote_more before held after is.records out.0 is.wrote out.3;
      };
    } in
    subst (λ some. IsUnderWay m items some clients left before after) new_is under
handed_after meaning (Err ended) mid new items left clients before held after is of out =
    let m = rules_of meaning mid in
    let past = past_of mid in
    let taken = out.0.taken in
    let part = out.1 in
    let new_is : past_after past (hand_outs taken) ≡ past_of new =
    sym (ap past_of out.0.new_is ∙ past_of_more mid.journal (hand_outs taken)) in
    let same = shown_handed m past taken in
    let ends : EndsSo m items (past_after past (hand_outs taken)) ended before after = record {
      fed = fed_part items (past_after past (hand_outs taken)) clients left
          (stands_handed items past clients left taken is.stands);
      cause = writing_cause m items (past_after past (hand_outs taken)) ended of;
      written = record {
        first = is.done ++ part.first;
        later = part.later;
        shown_are = same.shown ∙ is.shows.shown ∙ ap (λ all. is.done ++ all) part.split
            ∙ sym (append_assoc is.done part.first part.later);
        records = is.records ++ part.bytes;
        are_records = records_both is.done part.first is.records part.bytes is.are_records part.are_records;
        wrote = part_more before held after is.records part.bytes is.wrote part.wrote;
      };
    } in
    subst (λ some. EndsSo m items some ended before after) new_is ends

-- ---- between turns

-- between turns all answers were shown
pub shows_all : (m : Rules) (past : List Entry) → IsOfOneLane m past → Shows m past (shown_of m past)
shows_all m past lane = record {
  current = lane.current;
  shown = sym (append-nil (shown_of m past))
      ∙ sym (ap (λ answers. shown_of m past ++ stamp (moment_of past) answers) lane.none_ready);
}

pub stays_of : (m : Rules) (past : List Entry) → IsOfOneLane m past → Stays past
stays_of m past lane = record { lanes = lane.lanes; going = lane.going; none_full = lane.none_full }

-- a feed ends where it stands
pub ends_here : (m : Rules) (items : List Item) (past : List Entry) (clients : Clients) (left : List Item)
    (before held : Option (List ℕ)) (ended : FeedStop) → IsUnderWay m items past clients left before held
    → HasCause m items past ended → EndsSo m items past ended before held
ends_here m items past clients left before held ended is cause = record {
  fed = fed_part items past clients left is.stands;
  cause = cause;
  written = record {
    first = shown_of m past;
    later = [];
    shown_are = sym (append-nil (shown_of m past));
    records = is.written.records;
    are_records = is.written.are_records;
    wrote = part_whole before held is.written.records is.written.wrote;
  };
}

-- ---- an item comes

and_left : (a b : Bool) → a && b ≡ true → a ≡ true
and_left true b e = refl
and_left false b e = absurd cc

and_right : (a b : Bool) → a && b ≡ true → b ≡ true
and_right true b e = e
and_right false b e = absurd cc

or_right : (a b : Bool) → a || b ≡ true → a ≡ false → b ≡ true
or_right true b e fails = absurd cc
or_right false b e fails = e

not_yet : (a b : ℕ) → a < b → nat_le b a ≡ false
not_yet a b l = grind arith

-- where an item may come and time goes on, nothing is under way
pub calm_where : (past : List Entry) (moment : ℕ) → may_come past moment ≡ true → moment_of past < moment
    → is_calm past ≡ true
calm_where past moment may later =
    let ended = is_some (end_kind past 1) in
    let calm = nat_le moment (moment_of past) || is_calm past in
    let few = nat_lt (length (waiting_pages past)) MOST_WAITING in
    or_right (nat_le moment (moment_of past)) (is_calm past)
    (and_right ended calm (and_left (ended && calm) few may)) (not_yet (moment_of past) moment later)

pub item_stays : (m : Rules) (past entries : List Entry) (clients then_clients : Clients) (next : Item)
    → AddsItem m past clients next entries then_clients → Stays past → Stays (past_after past entries)
item_stays m past entries clients then_clients (item.Tick moment) adds stays =
    rw adds.0 (stays_plain past (tick_entries m past 0 moment) (plain_ticked m past moment) stays)
item_stays m past entries clients then_clients (item.Request client moment bytes) adds stays =
    rw adds.2 (stays_plain past (admit_entries m past 0 adds.0) (plain_admitted m past adds.0) stays)

pub item_aside : (m : Rules) (past entries : List Entry) (clients then_clients : Clients) (next : Item)
    → AddsItem m past clients next entries then_clients → AreAside entries
item_aside m past entries clients then_clients (item.Tick moment) adds = rw adds.0 (aside_ticked m past 0 moment)
item_aside m past entries clients then_clients (item.Request client moment bytes) adds =
    rw adds.2 (aside_admitted m past 0 adds.0)

pub item_shows : (m : Rules) (past entries : List Entry) (clients then_clients : Clients) (next : Item)
    (done : List Shown) → AreRight m (past_after past entries) → IsAnswered m (past_after past entries)
    → may_come past (recorded.moment_of next) ≡ true → (moment_of past < recorded.moment_of next → ready m past ≡ [])
    → AddsItem m past clients next entries then_clients → Shows m past done → Shows m (past_after past entries) done
item_shows m past entries clients then_clients (item.Tick moment) done right answered may none adds shows =
    let right_then = subst (λ some. AreRight m (past_after past some)) adds.0 right in
    let answered_then = subst (λ some. IsAnswered m (past_after past some)) adds.0 answered in
    rw adds.0 (shown_tick m past 0 moment done right_then answered_then (calm_where past moment may) none shows)
item_shows m past entries clients then_clients (item.Request client moment bytes) done right answered may none adds
    shows =
    let job = adds.0 in
    let at : job.moment ≡ moment = ap (λ j. j.moment) adds.1.job_is in
    let right_then = subst (λ some. AreRight m (past_after past some)) adds.2 right in
    let answered_then = subst (λ some. IsAnswered m (past_after past some)) adds.2 answered in
    rw adds.2 (shown_admit m past 0 job done right_then answered_then
    (λ later. calm_where past moment may (subst (λ n. moment_of past < n) at later))
    (λ later. none (subst (λ n. moment_of past < n) at later)) shows)

-- an item more has come
pub come_stands : (m : Rules) (items : List Item) (past entries : List Entry) (clients then_clients : Clients) (next : Item)
    (left : List Item) → may_come past (recorded.moment_of next) ≡ true
    → AddsItem m past clients next entries then_clients → StandsAt items past clients (next ∷ left)
    → StandsAt items (past_after past entries) then_clients left
come_stands m items past entries clients then_clients next left may adds (inl feeding) =
    let done = feeding.done in
    let new = past_after past entries in
    let came = item_came m (reverse done) past clients then_clients next entries feeding.came feeding.now may
    feeding.later.0.rises adds in
    let turned : next ∷ reverse done ≡ reverse (done ++ next ∷ []) = sym (reverse-append done (next ∷ [])) in
    inl (record {
      open_still = came.stopping ∙ feeding.open_still;
      done = done ++ next ∷ [];
      split = feeding.split ∙ sym (append_assoc done (next ∷ []) left);
      came = subst (λ some. HasCome some new then_clients) turned came.came;
      now = came.now ∙ ap moment_by turned;
      later = subst (λ some. recorded.AreItems (moment_by some) left) turned feeding.later.1;
    })
come_stands m items past entries clients then_clients next left may adds (inr fed) =
    absurd (let none = fed.none_left in cc)

pub come_grown : (m : Rules) (items : List Item) (past entries : List Entry) (clients then_clients : Clients)
    (next : Item) (left : List Item) (before held : Option (List ℕ))
    → IsUnderWay m items past clients (next ∷ left) before held
    → AreRight m (past_after past entries) → IsAnswered m (past_after past entries)
    → may_come past (recorded.moment_of next) ≡ true → AddsItem m past clients next entries then_clients
    → IsGrown m items (past_after past entries) then_clients left before held
come_grown m items past entries clients then_clients next left before held is right answered may adds =
    let shows : Shows m past (shown_of m past) = shows_all m past is.lane in
    record {
      done = shown_of m past;
      records = is.written.records;
      are_records = is.written.are_records;
      wrote = is.written.wrote;
      shows = item_shows m past entries clients then_clients next (shown_of m past) right answered may
          (λ later. is.lane.none_ready) adds shows;
      answered = answered;
      stays = item_stays m past entries clients then_clients next adds (stays_of m past is.lane);
      stands = come_stands m items past entries clients then_clients next left may adds is.stands;
      turns = come_turned m items past entries clients then_clients next left is.turns may adds;
    }

-- ---- the host stops

no_more : {A : Type 0} → (xs ys : List A) → ys ≡ [] → xs ++ ys ≡ xs
no_more xs ys none = ap (λ some. xs ++ some) none ∙ append-nil xs

-- where none is left all items came
pub all_come : (items : List Item) (past : List Entry) (clients : Clients) → is_stopping past ≡ false
    → StandsAt items past clients [] → HasCome (reverse items) past clients
all_come items past clients once (inl feeding) =
    let whole : feeding.done ≡ items = sym (feeding.split ∙ append-nil feeding.done) in
    subst (λ some. HasCome (reverse some) past clients) whole feeding.came
all_come items past clients once (inr fed) = absurd (let both : true ≡ false = sym fed.stopped ∙ once in cc)

pub stop_stands : (m : Rules) (items : List Item) (past : List Entry) (clients : Clients) → is_calm past ≡ true
    → is_stopping past ≡ false → StandsAt items past clients []
    → StandsAt items (past_after past (stop_entries m past 0)) clients []
stop_stands m items past clients calm once stands =
    let has = stop_came m items past clients (all_come items past clients once stands) calm in
    inr (record { stopped = has.stopping; none_left = refl; fed = has.fed })

pub stop_grown : (m : Rules) (items : List Item) (past : List Entry) (clients : Clients) (before held : Option (List ℕ))
    → IsUnderWay m items past clients [] before held
    → AreRight m (past_after past (stop_entries m past 0)) → IsAnswered m (past_after past (stop_entries m past 0))
    → is_calm past ≡ true → is_stopping past ≡ false
    → IsGrown m items (past_after past (stop_entries m past 0)) clients [] before held
stop_grown m items past clients before held is right answered calm once = record {
  done = shown_of m past;
  records = is.written.records;
  are_records = is.written.are_records;
  wrote = is.written.wrote;
  shows = shown_stop m past 0 (shown_of m past) right answered (shows_all m past is.lane);
  answered = answered;
  stays = stays_plain past (stop_entries m past 0) (plain_stopped m past) (stays_of m past is.lane);
  stands = stop_stands m items past clients calm once is.stands;
  turns = stop_turned m items past clients is.turns calm once;
}

-- ---- work

pub as_before_both : (old mid new : List Entry) → IsAsBefore old mid → IsAsBefore mid new → IsAsBefore old new
as_before_both old mid new one two = record {
  events = two.events ∙ one.events;
  calm = λ calm. two.calm (one.calm calm);
  stopping = two.stopping ∙ one.stopping;
  moment = two.moment ∙ one.moment;
}

pub hand_quiet : (m : Rules) (past mid : List Entry) (run : ℕ) → HasInHand m past mid run → IsAsBefore past mid
hand_quiet m past mid run (inl held) =
    rw held.1 (record { events = refl; calm = λ calm. calm; stopping = refl; moment = refl })
hand_quiet m past mid run (inr begun) = rw begun.2 (quiet_one past (begin_entry m past 0 run) refl)

step_quiet : (m : Rules) (past : List Entry) (run : ℕ) (entry : Entry) → IsStep m past 0 run entry
    → comes entry.what ≡ false
step_quiet m past run entry (inl called) = rw called.2 refl
step_quiet m past run entry (inr (inl ended)) = rw ended.1 refl
step_quiet m past run entry (inr (inr died)) = rw died refl

step_plain : (m : Rules) (past : List Entry) (run : ℕ) (entry : Entry) → IsStep m past 0 run entry
    → is_tick_or_take entry.what ≡ false
step_plain m past run entry (inl called) = rw called.2 refl
step_plain m past run entry (inr (inl ended)) = rw ended.1 refl
step_plain m past run entry (inr (inr died)) = rw died refl

hand_shows : (m : Rules) (past mid : List Entry) (run : ℕ) (done : List Shown) → AreRight m mid → IsAnswered m mid
    → HasInHand m past mid run → Shows m past done → Shows m mid done
hand_shows m past mid run done right answered (inl held) shows = subst (λ some. Shows m some done) (sym held.1) shows
hand_shows m past mid run done right answered (inr begun) shows =
    let entry = begin_entry m past 0 run in
    let right_then : AreRight m (entry ∷ past) = subst (AreRight m) begun.2 right in
    let answered_then : IsAnswered m (entry ∷ past) = subst (IsAnswered m) begun.2 answered in
    subst (λ some. Shows m some done) (sym begun.2) (shown_grows m past entry done right_then answered_then refl shows)

-- what work adds comes from no item, and is no Tick
pub work_quiet : (m : Rules) (past entries : List Entry) → WorkAdds m past entries
    → IsAsBefore past (past_after past entries)
work_quiet m past entries adds =
    rw adds.entries_are (as_before_both past adds.mid (adds.entry ∷ adds.mid)
    (hand_quiet m past adds.mid adds.run adds.in_hand)
    (quiet_one adds.mid adds.entry (step_quiet m adds.mid adds.run adds.entry adds.step)))

work_shows : (m : Rules) (past entries : List Entry) (done : List Shown) → AreRight m (past_after past entries)
    → IsAnswered m (past_after past entries) → WorkAdds m past entries → Shows m past done
    → Shows m (past_after past entries) done
work_shows m past entries done right answered adds shows =
    let right_then : AreRight m (adds.entry ∷ adds.mid) = subst (AreRight m) adds.entries_are right in
    let answered_then : IsAnswered m (adds.entry ∷ adds.mid) = subst (IsAnswered m) adds.entries_are answered in
    subst (λ some. Shows m some done) (sym adds.entries_are) (shown_grows m adds.mid adds.entry done right_then
    answered_then (step_plain m adds.mid adds.run adds.entry adds.step)
    (hand_shows m past adds.mid adds.run done right_then.1 answered_then.1 adds.in_hand shows))

pub work_grown : (m : Rules) (items : List Item) (past entries : List Entry) (clients : Clients) (left : List Item)
    (before held : Option (List ℕ)) → IsUnderWay m items past clients left before held
    → AreRight m (past_after past entries) → IsAnswered m (past_after past entries)
    → IsBusy past left → WorkAdds m past entries
    → IsGrown m items (past_after past entries) clients left before held
work_grown m items past entries clients left before held is right answered busy adds = record {
  done = shown_of m past;
  records = is.written.records;
  are_records = is.written.are_records;
  wrote = is.written.wrote;
  shows = work_shows m past entries (shown_of m past) right answered adds (shows_all m past is.lane);
  answered = answered;
  stays = stays_worked m past entries adds (stays_of m past is.lane);
  stands = stands_same items past (past_after past entries) clients left (work_quiet m past entries adds) is.stands;
  turns = work_turned m items past entries clients left is.turns busy adds;
}
