-- Where a feed stands beside other lanes, as the journal grows.
use Rattle.std.proofs.Common.{◌≡◌, ℕ, ◌<◌, true, false, List, [], ◌∷◌, ◌++◌, Option, refl, ap, sym, ◌∙◌, subst}
use Rattle.std.proofs.Common.{append_assoc, Err}
use Rattle.asp_core.specs.Ready.{IsAnswered, ready}
use Rattle.asp_io.specs.Sink.{with_bytes}
use Rattle.asp_job.specs.declared.answer.Answer.{Answer}
use Rattle.asp_job.specs.declared.entry.Entry.{Entry}
use Rattle.asp_job.specs.declared.entry.What.TheVariants.{Take}
use Rattle.asp_job.specs.History.{with_lane}
use Rattle.asp_job.specs.Journal.{AreRight, past_after, stop_entries}
use Rattle.asp_job.specs.Rules.{Rules}
use Rattle.asp_job.specs.Runs.{is_stopping, moment_of}
use Rattle.asp_lane.specs.Started.{HasStarted}
use Rattle.asp_lane.proofs.Started.{started_stays}
use Rattle.asp_record.specs.declared.recording.Item.{Item}
use Rattle.asp_record.specs.Recorded as recorded
use Rattle.asp_replay.specs.declared.stop.FeedStop.{FeedStop}
use Rattle.asp_replay.specs.declared.stop.FeedStop.TheVariants as stop
use Rattle.asp_replay.specs.Feed.{HasCause}
use Rattle.asp_feed.specs.Feeding.{Clients, is_calm}
use Rattle.asp_feed.specs.Shown.{IsRecord, Shown}
use Rattle.asp_replay.specs.Near.{EndsNear, HasWorked, IsNear}
use Rattle.asp_replay.specs.Sequential.{AddsItem, may_come}
use Rattle.asp_replay.specs.Underway.{StandsAt, WritesRecord, stamped}
use Rattle.asp_replay.proofs.Events.{quiet_all, quiet_one}
use Rattle.asp_replay.proofs.Grown.{come_stands, fed_part, item_shows, stands_same, stop_stands}
use Rattle.asp_replay.proofs.Handed.{ready_handed, shown_handed}
use Rattle.asp_replay.proofs.Pieces.{part_more, part_whole, wrote_more}
use Rattle.asp_replay.proofs.Quiet.{quiet_comes, work_plain, work_quiet}
use Rattle.asp_replay.proofs.Records.{records_more}
use Rattle.asp_replay.proofs.Showing.{Shows, shown_after, shown_stop, stamp}

module _ (m : Rules) (items : List Item) (before held : Option (List ℕ)) where
  near_shows : (past : List Entry) (clients : Clients) (left : List Item)
      (is : IsNear m items past clients left before held) → Shows m past is.done
  near_shows past clients left is = record { current = is.current; shown = is.shown }

  -- the same answers were written
  near_new : (past new : List Entry) (clients then_clients : Clients) (left then_left : List Item)
      (is : IsNear m items past clients left before held) → AreRight m new → HasStarted m new
      → StandsAt items new then_clients then_left → Shows m new is.done
      → IsNear m items new then_clients then_left before held
  near_new past new clients then_clients left then_left is right started stands shows = record {
    started = started;
    stands = stands;
    current = shows.current;
    done = is.done;
    shown = shows.shown;
    records = is.records;
    are_records = is.are_records;
    wrote = is.wrote;
  }

  -- runs went on
  pub near_worked : (past new : List Entry) (clients : Clients) (left : List Item) → HasWorked past new → AreRight m new
      → IsAnswered m new → IsNear m items past clients left before held → IsNear m items new clients left before held
  near_worked past new clients left has right answered is =
      let entries = has.entries in
      let right_then = subst (AreRight m) has.new_is right in
      let answered_then = subst (IsAnswered m) has.new_is answered in
      subst (λ past. IsNear m items past clients left before held) (sym has.new_is)
      (near_new past (past_after past entries) clients clients left left is right_then
      (started_stays m past entries right_then is.started)
      (stands_same items past (past_after past entries) clients left
      (quiet_all past entries (quiet_comes entries (work_quiet entries has.work))) is.stands)
      (shown_after m past entries is.done right_then answered_then (work_plain entries has.work)
      (near_shows past clients left is)))

  -- an item came
  pub near_came : (past entries : List Entry) (clients then_clients : Clients) (next : Item) (left : List Item)
      → AreRight m (past_after past entries) → IsAnswered m (past_after past entries)
      → may_come past (recorded.moment_of next) ≡ true
      → (moment_of past < recorded.moment_of next → ready m past ≡ [])
      → AddsItem m past clients next entries then_clients → IsNear m items past clients (next ∷ left) before held
      → IsNear m items (past_after past entries) then_clients left before held
  near_came past entries clients then_clients next left right answered may none adds is =
      near_new past (past_after past entries) clients then_clients (next ∷ left) left is right
      (started_stays m past entries right is.started)
      (come_stands m items past entries clients then_clients next left may adds is.stands)
      (item_shows m past entries clients then_clients next is.done right answered may none adds
      (near_shows past clients (next ∷ left) is))

  -- the host stopped
  pub near_stopped : (past : List Entry) (clients : Clients) → AreRight m (past_after past (stop_entries m past 0))
      → IsAnswered m (past_after past (stop_entries m past 0)) → is_calm past ≡ true → is_stopping past ≡ false
      → IsNear m items past clients [] before held
      → IsNear m items (past_after past (stop_entries m past 0)) clients [] before held
  near_stopped past clients right answered calm once is =
      let entries = stop_entries m past 0 in
      near_new past (past_after past entries) clients clients [] [] is right
      (started_stays m past entries right is.started) (stop_stands m items past clients calm once is.stands)
      (shown_stop m past 0 is.done right answered (near_shows past clients [] is))

  -- the feed ends where it stands
  pub near_ends : (past : List Entry) (clients : Clients) (left : List Item) (ended : FeedStop)
      → HasCause m items past ended → IsNear m items past clients left before held
      → EndsNear m items past ended before held
  near_ends past clients left ended cause is = record {
    ends = record {
      fed = fed_part items past clients left is.stands;
      cause = cause;
      written = record {
        first = is.done;
        later = stamped m past;
        shown_are = is.shown;
        records = is.records;
        are_records = is.are_records;
        wrote = part_whole before held is.records is.wrote;
      };
    };
    started = is.started;
  }

-- ---- hand-outs

abbrev pub shown_one : List Entry → ℕ × Answer → Shown
shown_one past first = record { run = first.0; moment = moment_of past; answer = first.1 }

abbrev pub taken : List Entry → ℕ × Answer → List Entry
taken past first = with_lane 0 (Take first.0) ∷ past

module _ (m : Rules) (items : List Item) (before : Option (List ℕ)) where
  -- an answer was handed out, and its record written
  pub near_out : (past : List Entry) (clients : Clients) (left : List Item) (held after : Option (List ℕ))
      (first : ℕ × Answer) (rest : List (ℕ × Answer)) (bytes : List ℕ) → ready m past ≡ first ∷ rest
      → AreRight m (taken past first) → IsRecord (shown_one past first) bytes → after ≡ with_bytes held bytes
      → IsNear m items past clients left before held → IsNear m items (taken past first) clients left before after
  near_out past clients left held after first rest bytes waits right is_record wrote is =
      let one = shown_one past first in
      let then_waits : ready m (taken past first) ≡ rest = ready_handed m past (first ∷ []) rest waits in
      let same = shown_handed m past (first ∷ []) in
      record {
        started = started_stays m past (with_lane 0 (Take first.0) ∷ []) right is.started;
        stands = stands_same items past (taken past first) clients left
            (quiet_one past (with_lane 0 (Take first.0)) refl) is.stands;
        current = same.current is.current;
        done = is.done ++ one ∷ [];
        shown = is.shown ∙ ap (λ answers. is.done ++ stamp (moment_of past) answers) waits
            ∙ sym (append_assoc is.done (one ∷ []) (stamp (moment_of past) rest))
            ∙ sym (ap (λ answers. (is.done ++ one ∷ []) ++ stamp (moment_of past) answers) then_waits);
        records = is.records ++ bytes;
        are_records = records_more is.done one is.records bytes is.are_records is_record;
        wrote = wrote_more before held after is.records bytes is.wrote wrote;
      }

  -- its record was not written whole
  pub out_ends : (past : List Entry) (clients : Clients) (left : List Item)
      (held after : Option (List ℕ)) (first : ℕ × Answer) (rest : List (ℕ × Answer)) (ended : FeedStop)
      → ready m past ≡ first ∷ rest → AreRight m (taken past first)
      → WritesRecord {T = Unit {0}} (shown_one past first) (Err ended) held after
      → IsNear m items past clients left before held → EndsNear m items (taken past first) ended before after
  out_ends past clients left held after first rest stop.WriteFault waits right wrote is =
      let one = shown_one past first in
      let stands = stands_same items past (taken past first) clients left
      (quiet_one past (with_lane 0 (Take first.0)) refl) is.stands in
      record {
        ends = record {
          fed = fed_part items (taken past first) clients left stands;
          cause = tt;
          written = record {
            first = is.done ++ one ∷ [];
            later = stamp (moment_of past) rest;
            shown_are = is.shown ∙ ap (λ answers. is.done ++ stamp (moment_of past) answers) waits
                ∙ sym (append_assoc is.done (one ∷ []) (stamp (moment_of past) rest));
            records = is.records ++ wrote.0;
            are_records = records_more is.done one is.records wrote.0 is.are_records wrote.1;
            wrote = part_more before held after is.records wrote.0 is.wrote wrote.2;
          };
        };
        started = started_stays m past (with_lane 0 (Take first.0) ∷ []) right is.started;
      }
  out_ends past clients left held after first rest stop.Memory waits right same is =
      let stands = stands_same items past (taken past first) clients left
      (quiet_one past (with_lane 0 (Take first.0)) refl) is.stands in
      record {
        ends = record {
          fed = fed_part items (taken past first) clients left stands;
          cause = tt;
          written = record {
            first = is.done;
            later = stamped m past;
            shown_are = is.shown;
            records = is.records;
            are_records = is.are_records;
            wrote = part_whole before after is.records (same ∙ is.wrote);
          };
        };
        started = started_stays m past (with_lane 0 (Take first.0) ∷ []) right is.started;
      }
  out_ends past clients left held after first rest (stop.JournalFull full) waits right none is = absurd none
  out_ends past clients left held after first rest (stop.StartFailed fail) waits right none is = absurd none
