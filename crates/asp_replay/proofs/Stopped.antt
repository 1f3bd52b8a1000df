-- How a feed ends where work comes to a stop.
use Rattle.std.proofs.Common.{◌≡◌, ℕ, List, [], ◌∷◌, refl, ap, sym, ◌∙◌, subst, inl, inr, Option, Some, Result, Ok}
use Rattle.std.proofs.Common.{Err, IsOk}
use Rattle.asp_core.specs.Kernel.{CoreView, grown, past_of, rules_of}
use Rattle.asp_core.specs.Ready.{ready}
use Rattle.asp_core.proofs.Kept.{past_of_more}
use Rattle.asp_job.specs.declared.answer.Answer.{Answer}
use Rattle.asp_job.specs.declared.entry.EndKind.TheVariants as kind
use Rattle.asp_job.specs.declared.entry.Entry.{Entry}
use Rattle.asp_job.specs.Journal.{end_entry, past_after}
use Rattle.asp_job.specs.Rules.{Rules}
use Rattle.asp_job.specs.Told.{Meaning}
use Rattle.asp_lane.specs.declared.turn.TurnEnd.{TurnEnd}
use Rattle.asp_lane.specs.declared.turn.TurnEnd.TheVariants as turn
use Rattle.asp_record.specs.declared.recording.Item.{Item}
use Rattle.asp_replay.specs.declared.stop.FeedStop.{FeedStop}
use Rattle.asp_replay.specs.declared.stop.FeedStop.TheVariants as stop
use Rattle.asp_replay.specs.Feed.{HasCause}
use Rattle.asp_replay.specs.Feed.IsTooMuchNext.{OfBegin, OfCall}
use Rattle.asp_feed.specs.Feeding.{Clients, events_of}
use Rattle.asp_replay.specs.Sequential.{hand_outs}
use Rattle.asp_replay.specs.Underway.{EndsSo, HandsOut, IsUnderWay, StandsAt, WorkAdds, Works, turn_stop}
use Rattle.asp_replay.proofs.Events.{IsAsBefore, hand_outs_quiet, quiet_all, quiet_one}
use Rattle.asp_replay.proofs.Grown.{as_before_both, fed_part, hand_quiet, stands_same, work_quiet}
use Rattle.asp_replay.proofs.Written.{shown_first, written_first}

as_before : (past : List Entry) → IsAsBefore past past
as_before past = record { events = refl; calm = λ calm. calm; stopping = refl; moment = refl }

stop_is : (one other : FeedStop) → Some one ≡ Some other → one ≡ other
stop_is one other e = cc

-- work that comes to a stop adds nothing that comes from an item
stop_quiet : (m : Rules) (past entries : List Entry) (t : TurnEnd) (ended : FeedStop) → turn_stop t ≡ Some ended
    → Works m past entries t → IsAsBefore past (past_after past entries)
stop_quiet m past entries turn.Done ended e works = absurd cc
stop_quiet m past entries turn.More ended e works = absurd works
stop_quiet m past entries turn.Idle ended e works = absurd works
stop_quiet m past entries (turn.JournalFull full) ended e (inl begin) = rw begin.1 (as_before past)
stop_quiet m past entries (turn.JournalFull full) ended e (inr ends) =
    rw ends.entries_are (as_before_both past ends.mid (end_entry m ends.mid 0 ends.run kind.JournalFull ∷ ends.mid)
    (hand_quiet m past ends.mid ends.run ends.in_hand)
    (quiet_one ends.mid (end_entry m ends.mid 0 ends.run kind.JournalFull) refl))
stop_quiet m past entries turn.Memory ended e (inl none) = rw none (as_before past)
stop_quiet m past entries turn.Memory ended e (inr begun) =
    rw begun.3 (hand_quiet m past begun.0 begun.1 begun.2)

-- and has a cause
stop_cause : (m : Rules) (items : List Item) (past entries : List Entry) (clients : Clients) (left : List Item)
    (t : TurnEnd) (ended : FeedStop) → turn_stop t ≡ Some ended → StandsAt items past clients left
    → Works m past entries t → HasCause m items (past_after past entries) ended
stop_cause m items past entries clients left turn.Done ended e stands works = absurd cc
stop_cause m items past entries clients left turn.More ended e stands works = absurd works
stop_cause m items past entries clients left turn.Idle ended e stands works = absurd works
stop_cause m items past entries clients left (turn.JournalFull full) ended e stands (inl begin) =
    let is = stop_is (stop.JournalFull full) ended e in
    let fed = fed_part items past clients left stands in
    rw begin.1 (subst (HasCause m items past) is (past, [], refl, OfBegin fed begin.0))
stop_cause m items past entries clients left (turn.JournalFull full) ended e stands (inr ends) =
    let is = stop_is (stop.JournalFull full) ended e in
    let last = end_entry m ends.mid 0 ends.run kind.JournalFull in
    let fed = fed_part items ends.mid clients left (stands_same items past ends.mid clients left
    (hand_quiet m past ends.mid ends.run ends.in_hand) stands) in
    rw ends.entries_are (subst (HasCause m items (last ∷ ends.mid)) is
    (ends.mid, last ∷ [], refl, OfCall fed ends.run ends.much))
stop_cause m items past entries clients left turn.Memory ended e stands works =
    subst (HasCause m items (past_after past entries)) (stop_is stop.Memory ended e) tt

-- a feed ends so where work came to a stop
pub work_ends : {R Site : Type 0} → (meaning : R → Site → Meaning) (old new : CoreView R Site) (entries : List Entry)
    (t : TurnEnd) (items left : List Item) (clients : Clients) (before held : Option (List ℕ)) (ended : FeedStop)
    → new ≡ grown old entries → turn_stop t ≡ Some ended → Works (rules_of meaning old) (past_of old) entries t
    → IsUnderWay (rules_of meaning old) items (past_of old) clients left before held
    → EndsSo (rules_of meaning old) items (past_of new) ended before held
work_ends meaning old new entries t items left clients before held ended new_is e works is =
    let m = rules_of meaning old in
    let past = past_of old in
    let mid = past_after past entries in
    let quiet = stop_quiet m past entries t ended e works in
    let more = shown_first m past entries in
    let of : past_of new ≡ mid = ap past_of new_is ∙ past_of_more old.journal entries in
    subst (λ some. EndsSo m items some ended before held) (sym of) (record {
      fed = fed_part items mid clients left (stands_same items past mid clients left quiet is.stands);
      cause = stop_cause m items past entries clients left t ended e is.stands works;
      written = written_first m past mid more.0 before held is.written more.1;
    })

-- ---- nothing comes from outside

-- where work came to a stop
pub stop_events : {R Site : Type 0} → (meaning : R → Site → Meaning) (old new : CoreView R Site) (entries : List Entry)
    (t : TurnEnd) (ended : FeedStop) → new ≡ grown old entries → turn_stop t ≡ Some ended
    → Works (rules_of meaning old) (past_of old) entries t → events_of (past_of new) ≡ events_of (past_of old)
stop_events meaning old new entries t ended new_is e works =
    ap (λ core. events_of (past_of core)) new_is ∙ ap events_of (past_of_more old.journal entries)
    ∙ (stop_quiet (rules_of meaning old) (past_of old) entries t ended e works).events

handed_events : {R Site : Type 0} → (mid new : CoreView R Site) (answers : List (ℕ × Answer))
    → new ≡ grown mid (hand_outs answers) → events_of (past_of new) ≡ events_of (past_of mid)
handed_events mid new answers new_is =
    ap (λ core. events_of (past_of core)) new_is ∙ ap events_of (past_of_more mid.journal (hand_outs answers))
    ∙ (quiet_all (past_of mid) (hand_outs answers) (hand_outs_quiet answers)).events

out_events : {T R Site : Type 0} → (meaning : R → Site → Meaning) (result : Result T FeedStop)
    (mid new : CoreView R Site) (held after : Option (List ℕ)) → HandsOut meaning result mid new held after
    → events_of (past_of new) ≡ events_of (past_of mid)
out_events meaning (Ok given) mid new held after out =
    handed_events mid new (ready (rules_of meaning mid) (past_of mid)) out.1
out_events meaning (Err ended) mid new held after out = handed_events mid new out.0.taken out.0.new_is

-- where it came to none
pub worked_events : {R Site : Type 0} → (meaning : R → Site → Meaning) (old mid : CoreView R Site)
    (entries : List Entry) → mid ≡ grown old entries → WorkAdds (rules_of meaning old) (past_of old) entries
    → events_of (past_of mid) ≡ events_of (past_of old)
worked_events meaning old mid entries mid_is adds =
    ap (λ core. events_of (past_of core)) mid_is ∙ ap events_of (past_of_more old.journal entries)
    ∙ (work_quiet (rules_of meaning old) (past_of old) entries adds).events

-- and the answers that wait were handed out
pub work_events : {T R Site : Type 0} → (meaning : R → Site → Meaning) (result : Result T FeedStop)
    (old mid new : CoreView R Site) (entries : List Entry) (held after : Option (List ℕ)) → mid ≡ grown old entries
    → WorkAdds (rules_of meaning old) (past_of old) entries → HandsOut meaning result mid new held after
    → events_of (past_of new) ≡ events_of (past_of old)
work_events meaning result old mid new entries held after mid_is adds out =
    out_events meaning result mid new held after out ∙ worked_events meaning old mid entries mid_is adds

-- ---- no fault of the sink

pub stop_no_fault : (t : TurnEnd) (ended : FeedStop) → turn_stop t ≡ Some ended → ended ≡ stop.WriteFault → ⊥
stop_no_fault turn.Done ended e fault = absurd cc
stop_no_fault turn.More ended e fault = absurd cc
stop_no_fault turn.Idle ended e fault = absurd cc
stop_no_fault (turn.JournalFull full) ended e fault =
    absurd (let is = stop_is (stop.JournalFull full) ended e in cc)
stop_no_fault turn.Memory ended e fault = absurd (let is = stop_is stop.Memory ended e in cc)

pub not_err : {T E : Type 0} → (result : Result T E) (ended : E) → IsOk result → result ≡ Err ended → ⊥
not_err (Ok given) ended ok e = absurd cc
not_err (Err other) ended ok e = absurd cc
