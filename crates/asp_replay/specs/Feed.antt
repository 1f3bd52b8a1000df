-- What a recording leaves that was fed to a host, and what one leaves that was not fed to its end.
use Rattle.std.specs.Prelude.{◌≡◌, ◌≢◌, ◌⊎◌, ℕ, Bool, true, false, ⊤, List, [], ◌∷◌, ◌++◌, reverse, Option, Some}
use Rattle.asp_journal.specs.declared.full.Full.{Full}
use Rattle.asp_core.specs.Kernel.{IsBeginTooMuch, IsTooMuch}
use Rattle.asp_core.specs.Laws.{NoneIs}
use Rattle.asp_core.specs.Ready.{IsAnswered}
use Rattle.asp_core.specs.Start.{start_fail}
use Rattle.asp_io.specs.Copying.{AddsPart}
use Rattle.asp_io.specs.Sink.{with_bytes}
use Rattle.asp_job.specs.declared.answer.Fail.{Fail}
use Rattle.asp_job.specs.declared.entry.EndKind.TheVariants as kind
use Rattle.asp_job.specs.declared.entry.Entry.{Entry}
use Rattle.asp_job.specs.declared.entry.What.{What}
use Rattle.asp_job.specs.declared.entry.What.TheVariants as what
use Rattle.asp_job.specs.Journal.{IsValidJournal, past_after, stop_entries}
use Rattle.asp_job.specs.Rules.{Rules}
use Rattle.asp_job.specs.Runs.{is_halted, unfinished}
use Rattle.asp_lane.specs.Started.{HasStarted}
use Rattle.asp_lane.specs.Turns.{IsCallTooMuch}
use Rattle.asp_record.specs.declared.recording.Item.{Item}
use Rattle.asp_record.specs.Recorded.{moment_of}
use Rattle.asp_replay.specs.declared.stop.FeedStop.{FeedStop}
use Rattle.asp_replay.specs.declared.stop.FeedStop.TheVariants as stop
use Rattle.asp_feed.specs.Feeding.{Clients, HasCome, IsFed, IsFedPart, events_of, is_calm}
use Rattle.asp_replay.specs.Sequential.{AddsItem, IsSequential, is_memory_end, may_come}
use Rattle.asp_feed.specs.Shown.{AreRecords, Shown, shown_of}

-- ---- records

-- the records of the journal's answers were written
pub record AreWritten (rules : Rules) (past : List Entry) (before after : Option (List ℕ)) : Type 0 where
  pub records : List ℕ
  pub are_records : AreRecords (shown_of rules past) records
  pub wrote : after ≡ with_bytes before records

-- the records of the journal's first answers were written, the last one maybe in part
pub record ArePartWritten (rules : Rules) (past : List Entry) (before after : Option (List ℕ)) : Type 0 where
  pub first : List Shown
  pub later : List Shown
  pub shown_are : shown_of rules past ≡ first ++ later
  pub records : List ℕ
  pub are_records : AreRecords first records
  pub wrote : AddsPart before after records

-- ---- to the end

-- a run ended because the journal was full
abbrev pub is_full_end : What → Bool
is_full_end (what.End run kind.JournalFull status size made finished) = true
is_full_end _ = false

-- All items were fed to a host with this journal: the first run has ended by itself and did not fail, each run has
-- ended, and none because the journal was full. Unless memory ran out for a run, the journal is the history of one lane.
pub record IsWhole (rules : Rules) (items : List Item) (past : List Entry) : Type 0 where
  pub fed : IsFed items past
  pub started : HasStarted rules past
  pub ended : is_calm past ≡ true
  pub none_full : NoneIs is_full_end past
  pub sequential : NoneIs is_memory_end past → IsSequential rules items past

-- so it was, and the answers were written
pub record HasFed (rules : Rules) (items : List Item) (past : List Entry) (before after : Option (List ℕ)) : Type 0
  where
    pub whole : IsWhole rules items past
    pub written : AreWritten rules past before after

-- ---- not to the end

-- this item is the next one, the items before it came and leave the clients so, and it may come
pub record IsNext (items : List Item) (past : List Entry) (clients : Clients) (next : Item) : Type 0 where
  pub first : List Item
  pub later : List Item
  pub items_are : items ≡ first ++ next ∷ later
  pub came : HasCome (reverse first) past clients
  pub may : may_come past (moment_of next) ≡ true

-- all items came, and nothing is under way
pub record HasAllCome (items : List Item) (past : List Entry) : Type 0 where
  pub clients : Clients
  pub came : HasCome (reverse items) past clients
  pub calm : is_calm past ≡ true

-- With what comes next it would be so full, too many entries or too heavy: with the next item or the Stop, once the
-- first run has ended well; with a Begin; or with the call that an unfinished run wants.
pub data IsTooMuchNext (rules : Rules) (items : List Item) (past : List Entry) (full : Full) : Type 0 where
  OfItem : (clients then_clients : Clients) (next : Item) (added : List Entry) → HasStarted rules past
      → IsNext items past clients next → AddsItem rules past clients next added then_clients
      → IsTooMuch (past_after past added) full → IsTooMuchNext rules items past full
  OfStop : HasStarted rules past → HasAllCome items past
      → IsTooMuch (past_after past (stop_entries rules past 0)) full → IsTooMuchNext rules items past full
  OfBegin : IsFedPart items past → IsBeginTooMuch rules past 0 full → IsTooMuchNext rules items past full
  OfCall : IsFedPart items past → (run : ℕ) → IsCallTooMuch rules past 0 run full
      → IsTooMuchNext rules items past full

-- at some point of the journal it was so
abbrev pub WasTooMuch : Rules → List Item → List Entry → Full → Type 0
WasTooMuch rules items past full = (earlier later : List Entry) × (past ≡ later ++ earlier)
    × IsTooMuchNext rules items earlier full

-- the first run has ended well, or nothing came from outside and the sink was not the cause
abbrev pub IsPassed : Rules → List Entry → FeedStop → Type 0
IsPassed rules past ended = HasStarted rules past ⊎ ((events_of past ≡ []) × (ended ≢ stop.WriteFault))

-- the first run has failed so, and nothing came from outside
pub record HasFailed (rules : Rules) (past : List Entry) (fail : Fail) : Type 0 where
  pub none_came : events_of past ≡ []
  pub failed : start_fail rules past ≡ Some fail

-- the journal of a feed that came to this stop
abbrev pub HasCause : Rules → List Item → List Entry → FeedStop → Type 0
HasCause rules items past (stop.StartFailed fail) = HasFailed rules past fail
HasCause rules items past (stop.JournalFull full) = WasTooMuch rules items past full
HasCause rules items past stop.WriteFault = ⊤
HasCause rules items past stop.Memory = ⊤

-- the host was halted, and no run is unfinished
pub record HasWoundUp (past : List Entry) : Type 0 where
  pub halted : is_halted past ≡ true
  pub none_left : unfinished past ≡ []

-- the journal of a feed that came to this stop was wound up
abbrev pub IsWoundUp : List Entry → FeedStop → Type 0
IsWoundUp past (stop.StartFailed fail) = ⊤
IsWoundUp past (stop.JournalFull full) = HasWoundUp past
IsWoundUp past stop.WriteFault = HasWoundUp past
IsWoundUp past stop.Memory = ⊤

-- The items were fed in part, to a host with this valid journal: nothing came, and nothing was written, before its first
-- run had ended well. Each page that ended has an answer, the first answers were written, and then the journal was wound
-- up.
pub record HasFedPart (rules : Rules) (items : List Item) (past : List Entry) (ended : FeedStop)
    (before after : Option (List ℕ)) : Type 0 where
  pub account : IsValidJournal rules past
  pub answered : IsAnswered rules past
  pub fed : IsFedPart items past
  pub passed : IsPassed rules past ended
  pub cause : HasCause rules items past ended
  pub written : ArePartWritten rules past before after
  pub wound_up : IsWoundUp past ended
