-- Why what comes next did not come.
use Rattle.std.proofs.Common.{◌≡◌, true, List, [], ◌∷◌, refl, inl, inr}
use Rattle.asp_core.specs.Kernel.{IsTooMuch}
use Rattle.asp_job.specs.declared.answer.Fail.{Fail}
use Rattle.asp_job.specs.declared.entry.Entry.{Entry}
use Rattle.asp_job.specs.Journal.{past_after, stop_entries}
use Rattle.asp_job.specs.Rules.{Rules}
use Rattle.asp_journal.specs.declared.full.Full.{Full}
use Rattle.asp_lane.specs.Started.{HasStarted}
use Rattle.asp_record.specs.declared.recording.Item.{Item}
use Rattle.asp_record.specs.Recorded as recorded
use Rattle.asp_replay.specs.declared.stop.FeedStop.{FeedStop}
use Rattle.asp_replay.specs.declared.stop.FeedStop.TheVariants as stop
use Rattle.asp_replay.specs.Feed.{HasAllCome, HasCause, IsNext}
use Rattle.asp_replay.specs.Feed.IsTooMuchNext.{OfItem, OfStop}
use Rattle.asp_feed.specs.Feeding.{Clients}
use Rattle.asp_replay.specs.Sequential.{may_come}
use Rattle.asp_replay.specs.Underway.{IsItemTooMuch, StandsAt}

-- the next item is the first of those that are left
pub next_is : (items : List Item) (past : List Entry) (clients : Clients) (next : Item) (left : List Item)
    → may_come past (recorded.moment_of next) ≡ true → StandsAt items past clients (next ∷ left)
    → IsNext items past clients next
next_is items past clients next left may (inl feeding) = record {
  first = feeding.done;
  later = left;
  items_are = feeding.split;
  came = feeding.came;
  may = may;
}
next_is items past clients next left may (inr fed) = absurd (let none = fed.none_left in cc)

pub item_cause : (m : Rules) (items : List Item) (past : List Entry) (clients : Clients) (next : Item)
    (ended : FeedStop) → HasStarted m past → IsNext items past clients next
    → ((full : Full) → ended ≡ stop.JournalFull full → IsItemTooMuch m past clients next full) → ((fail : Fail) → ended ≡ stop.StartFailed fail → ⊥)
    → HasCause m items past ended
item_cause m items past clients next (stop.StartFailed fail) started is so not = absurd (not fail refl)
item_cause m items past clients next (stop.JournalFull full) started is so not =
    let much = so full refl in
    (past, [], refl, OfItem clients much.1 next much.0 started is much.2 much.3)
item_cause m items past clients next stop.WriteFault started is so not = tt
item_cause m items past clients next stop.Memory started is so not = tt

pub stop_cause : (m : Rules) (items : List Item) (past : List Entry) (ended : FeedStop) → HasStarted m past
    → HasAllCome items past
    → ((full : Full) → ended ≡ stop.JournalFull full → IsTooMuch (past_after past (stop_entries m past 0)) full)
    → ((fail : Fail) → ended ≡ stop.StartFailed fail → ⊥) → HasCause m items past ended
stop_cause m items past (stop.StartFailed fail) started is so not = absurd (not fail refl)
stop_cause m items past (stop.JournalFull full) started is so not =
    (past, [], refl, OfStop started is (so full refl))
stop_cause m items past stop.WriteFault started is so not = tt
stop_cause m items past stop.Memory started is so not = tt
