-- Laws of replays by one lane.
use Rattle.std.specs.Prelude.{◌≡◌, ℕ, ◌^◌, ◌<◌, Bool, true, List, ◌∷◌, ◌++◌, length}
use Rattle.asp_job.specs.declared.entry.Entry.{Entry}
use Rattle.asp_job.specs.Journal.{IsValidJournal}
use Rattle.asp_job.specs.Rules.{Rules}
use Rattle.asp_record.specs.declared.recording.Item.{Item}
use Rattle.asp_record.specs.declared.recording.Recording.{Recording}
use Rattle.asp_record.specs.EntryLines.{lines_in, printed}
use Rattle.asp_record.specs.Journal.{AreLines, HasNoLine}
use Rattle.asp_record.specs.Recorded.{Stands}
use Rattle.asp_feed.specs.Feeding.{IsFed}
use Rattle.asp_replay.specs.Sequential.{IsSequential}
use Rattle.asp_feed.specs.Shown.{IsOutput, lines_of}

-- two journals that are the history of one lane for the same items are the same
abbrev pub OneHistory : Type 0
OneHistory = (rules : Rules) (items : List Item) (past other : List Entry) → IsSequential rules items past
    → IsSequential rules items other → past ≡ other

-- two outputs of one journal are the same
abbrev pub OneOutput : Type 0
OneOutput = (rules : Rules) (past : List Entry) (journal : Bool) (bytes other : List ℕ)
    → IsOutput rules past journal bytes → IsOutput rules past journal other → bytes ≡ other

-- an output is that of the history of one lane for these items
pub record IsReplay (rules : Rules) (items : List Item) (journal : Bool) (bytes : List ℕ) : Type 0 where
  pub past : List Entry
  pub sequential : IsSequential rules items past
  pub is_output : IsOutput rules past journal bytes

-- two such outputs for the same items are the same
abbrev pub OneReplay : Type 0
OneReplay = (rules : Rules) (items : List Item) (journal : Bool) (bytes other : List ℕ)
    → IsReplay rules items journal bytes → IsReplay rules items journal other → bytes ≡ other

-- The bytes `from` have a recording at their front, and an output is that of the history of one lane for its items. The
-- rules are those that come of its seed and the rule of its lock.
pub record IsReplayOfBytes (rules : Recording → Rules) (from : List ℕ) (journal : Bool) (bytes : List ℕ) : Type 0 where
  pub recording : Recording
  pub end : ℕ
  pub stands : Stands from recording end
  pub replay : IsReplay (rules recording) recording.items journal bytes

-- two such outputs for the same bytes are the same
abbrev pub OneReplayOfBytes : Type 0
OneReplayOfBytes = (rules : Recording → Rules) (from : List ℕ) (journal : Bool) (bytes other : List ℕ)
    → IsReplayOfBytes rules from journal bytes → IsReplayOfBytes rules from journal other → bytes ≡ other

-- ---- journals by what is written of them

-- no line begins with a byte behind those of the upper-case letters
abbrev pub NoLineBegins : Type 0
NoLineBegins = (first : ℕ) (rest : List ℕ) → 90 < first → HasNoLine (first ∷ rest)

-- Of two journals the same bytes were written line by line, and behind the lines what begins no line. All lines are
-- such as may stand in a journal. Then the lines are the same, and so is what stands behind them.
abbrev pub OneLines : Type 0
OneLines = (past other : List Entry) (rest last : List ℕ) → AreLines (lines_in past) → AreLines (lines_in other)
    → HasNoLine rest → HasNoLine last → lines_of true past ++ rest ≡ lines_of true other ++ last
    → (lines_in past ≡ lines_in other) × (rest ≡ last)

-- a valid journal to which these items came, and then the Stop
pub record IsJournalOf (rules : Rules) (items : List Item) (past : List Entry) : Type 0 where
  pub valid : IsValidJournal rules past
  pub fed : IsFed items past

-- two journals to which the same items came, by whatever rules, and which have the same lines, are the same but for the
-- entries that have none
abbrev pub OneJournalOfLines : Type 0
OneJournalOfLines = (rules other_rules : Rules) (items : List Item) (past other : List Entry)
    → IsJournalOf rules items past → IsJournalOf other_rules items other → lines_in past ≡ lines_in other
    → printed past ≡ printed other

-- so are two to which the same items came, and of which a replay wrote the same bytes with their lines
abbrev pub OneJournal : Type 0
OneJournal = (rules other_rules : Rules) (items : List Item) (past other : List Entry) (bytes : List ℕ)
    → IsJournalOf rules items past → IsJournalOf other_rules items other
    → AreLines (lines_in past) → AreLines (lines_in other) → length bytes < 2 ^ 64
    → IsOutput rules past true bytes → IsOutput other_rules other true bytes → printed past ≡ printed other
