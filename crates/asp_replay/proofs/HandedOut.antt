-- How a hand-out of answers ends: all were written, or a write stopped.
use Rattle.std.proofs.Common.{◌≡◌, ℕ, List, [], ◌∷◌, ◌++◌, Option, None, ap, sym, ◌∙◌, subst, append-nil, Err, Ok}
use Rattle.std.proofs.lemmas.List.{map-append}
use Rattle.asp_core.specs.Kernel.{CoreView, grown, past_of, rules_of}
use Rattle.asp_core.specs.Ready.{first_for, ready}
use Rattle.asp_job.specs.declared.answer.Answer.{Answer}
use Rattle.asp_job.specs.Runs.{moment_of}
use Rattle.asp_job.specs.Told.{Meaning}
use Rattle.asp_replay.specs.declared.stop.FeedStop.{FeedStop}
use Rattle.asp_replay.specs.declared.stop.FeedStop.TheVariants as stop
use Rattle.asp_replay.specs.Sequential.{hand_outs}
use Rattle.asp_feed.specs.Shown.{AreRecords, Shown}
use Rattle.asp_replay.specs.Underway.{HandsOut, WritesPart, WritesRecord, stamped}
use Rattle.asp_replay.proofs.HandingOut.{HandsOne, IsHanding, left_first, more_records, none_first, split_more}
use Rattle.asp_replay.proofs.Pieces.{part_more, part_whole}
use Rattle.asp_replay.proofs.Showing.{stamp}

-- all were handed out and written
pub handed_all : {R Site : Type 0} → (meaning : R → Site → Meaning) (old now : CoreView R Site)
    (before after : Option (List ℕ)) → IsHanding meaning old now before after
    → None ≡ first_for (past_of now) 0 (ready (rules_of meaning now) (past_of now))
    → HandsOut {T = Unit {0}} meaning (Ok tt) old now before after
handed_all meaning old now before after is none =
    let left = none_first (past_of old) is.left is.passed
    (none ∙ left_first meaning old now is.taken is.left is.now_is is.split) in
    let all = is.split ∙ ap (λ left. is.taken ++ left) left ∙ append-nil is.taken in (
      is.bytes,
      is.now_is ∙ ap (λ answers. grown old (hand_outs answers)) (sym all),
      subst (λ answers. AreRecords (stamp (moment_of (past_of old)) answers) is.bytes) (sym all) is.are_records,
      is.wrote,
    )

stamp_split : (moment : ℕ) (all first later : List (ℕ × Answer)) → all ≡ first ++ later
    → stamp moment all ≡ stamp moment first ++ stamp moment later
stamp_split moment all first later split =
    ap (stamp moment) split ∙ map-append (λ (waits : ℕ × Answer). record {
      run = waits.0;
      moment = moment;
      answer = waits.1;
    }) first later

-- the records that were written where that of an answer was not written whole
part_records : {R Site : Type 0} → (meaning : R → Site → Meaning) (old new : CoreView R Site)
    (before now after : Option (List ℕ)) (first : ℕ × Answer) (shown : Shown) (ended : FeedStop)
    → HandsOne meaning old new before now first
    → shown ≡ record { run = first.0; moment = moment_of (past_of new); answer = first.1 }
    → WritesRecord {T = Unit {0}} shown (Err ended) now after
    → WritesPart (stamped (rules_of meaning old) (past_of old)) before after
part_records meaning old new before now after first shown stop.WriteFault one shown_is wrote =
    let moment = moment_of (past_of old) in
    let all = ready (rules_of meaning old) (past_of old) in
    let same = shown_is ∙ ap (λ at. record { run = first.0; moment = at; answer = first.1 }) one.moment in
    record {
      first = stamp moment (one.taken ++ first ∷ []);
      later = stamp moment one.rest;
      split = stamp_split moment all (one.taken ++ first ∷ []) one.rest
          (split_more all one.taken one.rest first one.split);
      bytes = one.bytes ++ wrote.0;
      are_records = more_records moment one.taken first shown one.bytes wrote.0 same one.are_records wrote.1;
      wrote = part_more before now after one.bytes wrote.0 one.wrote wrote.2;
    }
part_records meaning old new before now after first shown stop.Memory one shown_is same =
    let moment = moment_of (past_of old) in
    record {
      first = stamp moment one.taken;
      later = stamp moment (first ∷ one.rest);
      split = stamp_split moment (ready (rules_of meaning old) (past_of old)) one.taken (first ∷ one.rest) one.split;
      bytes = one.bytes;
      are_records = one.are_records;
      wrote = part_whole before after one.bytes (same ∙ one.wrote);
    }
part_records meaning old new before now after first shown (stop.JournalFull full) one shown_is none =
    absurd none
part_records meaning old new before now after first shown (stop.StartFailed fail) one shown_is none = absurd none

pub handed_part : {R Site : Type 0} → (meaning : R → Site → Meaning) (old new : CoreView R Site)
    (before now after : Option (List ℕ)) (first : ℕ × Answer) (shown : Shown) (ended : FeedStop)
    → HandsOne meaning old new before now first
    → shown ≡ record { run = first.0; moment = moment_of (past_of new); answer = first.1 }
    → WritesRecord {T = Unit {0}} shown (Err ended) now after
    → HandsOut {T = Unit {0}} meaning (Err ended) old new before after
handed_part meaning old new before now after first shown ended one shown_is wrote = (
  record {
    taken = one.taken ++ first ∷ [];
    later = one.rest;
    split = split_more (ready (rules_of meaning old) (past_of old)) one.taken one.rest first one.split;
    new_is = one.new_is;
  },
  part_records meaning old new before now after first shown ended one shown_is wrote,
)
