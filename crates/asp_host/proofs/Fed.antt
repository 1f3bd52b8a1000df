-- What a feed by one lane, or by several, comes to.
use Rattle.std.proofs.Common.{◌≡◌, ◌⊎◌, ◌<◌, ℕ, All, List, [], Option, sym, reverse, append-nil}
use Rattle.std.proofs.Common.{Result, Ok, Err, IfOk, inl, inr}
use Rattle.std.proofs.lemmas.List.Sorted.{All-permutation, IsPermutation-reverse}
use Rattle.asp_core.specs.Ready.{IsAnswered}
use Rattle.asp_io.specs.Faults.{HasCause as HasCauseOf}
use Rattle.asp_job.specs.declared.entry.Entry.{Entry}
use Rattle.asp_job.specs.Journal.{IsValidJournal}
use Rattle.asp_job.specs.Rules.{Rules}
use Rattle.asp_record.specs.declared.recording.Item.{Item}
use Rattle.asp_feed.specs.Shown.{shown_of}
use Rattle.asp_replay.specs.declared.stop.FeedStop.{FeedStop}
use Rattle.asp_replay.specs.declared.stop.FeedStop.TheVariants as stop
use Rattle.asp_replay.specs.Feed.{ArePartWritten, AreWritten, HasCause, HasFed, HasFedPart}
use Rattle.asp_replay.specs.Underway.{HasNotBegun}
use Rattle.asp_replay.specs.Workers.{HasCauseBeside, HasFedBeside}
use Rattle.asp_replay.proofs.Pieces.{part_whole}
use Rattle.asp_host.specs.Replayed.{HasFedBy, HasFedUntil}

-- ---- lanes

-- the lanes of a journal are those of its entries in their order
lanes_past : (workers : ℕ) (journal : List Entry) → All (λ (entry : Entry). entry.lane < workers) journal
    → All (λ (entry : Entry). entry.lane < workers) (reverse journal)
lanes_past workers journal all = All-permutation (λ (entry : Entry). entry.lane < workers) journal (reverse journal)
    (IsPermutation-reverse journal) all

-- ---- one lane

-- fed by one lane
pub fed_alone : (rules : Rules) (items : List Item) (journal : List Entry) (before after : Option (List ℕ))
    → HasFed rules items (reverse journal) before after → All (λ (entry : Entry). entry.lane < 1) journal
    → HasFedBy 1 rules items (reverse journal) before after
fed_alone rules items journal before after fed lanes = record {
  whole = record {
    fed = fed.whole.fed;
    started = fed.whole.started;
    ended = fed.whole.ended;
    none_full = fed.whole.none_full;
    lanes = lanes_past 1 journal lanes;
    sequential = λ one. fed.whole.sequential;
  };
  written = fed.written;
}

-- what was written whole is written in part
written_part : (rules : Rules) (past : List Entry) (before after : Option (List ℕ))
    → AreWritten rules past before after → ArePartWritten rules past before after
written_part rules past before after written = record {
  first = shown_of rules past;
  later = [];
  shown_are = sym (append-nil (shown_of rules past));
  records = written.records;
  are_records = written.are_records;
  wrote = part_whole before after written.records written.wrote;
}

-- fed by one lane, whose journal has entries of another
pub fed_strangely : (rules : Rules) (items : List Item) (past : List Entry) (before after : Option (List ℕ))
    → IsValidJournal rules past → IsAnswered rules past → HasFed rules items past before after
    → HasFedUntil 1 rules items stop.Memory before after
fed_strangely rules items past before after account answered fed = inr (
  past,
  record {
    account = account;
    answered = answered;
    fed = inl fed.whole.fed;
    passed = inl fed.whole.started;
    cause = tt;
    written = written_part rules past before after fed.written;
    wound_up = tt;
  },
)

cause_beside : (rules : Rules) (items : List Item) (past : List Entry) (ended : FeedStop)
    → HasCause rules items past ended → HasCauseBeside 1 rules items past ended
cause_beside rules items past (stop.StartFailed fail) cause = cause
cause_beside rules items past (stop.JournalFull full) cause = (cause.0, cause.1, cause.2, inl cause.3)
cause_beside rules items past stop.WriteFault cause = tt
cause_beside rules items past stop.Memory cause = tt

-- fed in part by one lane
pub part_alone : (rules : Rules) (items : List Item) (ended : FeedStop) (before after : Option (List ℕ))
    → HasNotBegun ended before after ⊎ ((past : List Entry) × HasFedPart rules items past ended before after)
    → HasFedUntil 1 rules items ended before after
part_alone rules items ended before after (inl none) = inl none
part_alone rules items ended before after (inr part) = inr (
  part.0,
  record {
    account = part.1.account;
    answered = part.1.answered;
    fed = part.1.fed;
    passed = part.1.passed;
    cause = cause_beside rules items part.0 ended part.1.cause;
    written = part.1.written;
    wound_up = part.1.wound_up;
  },
)

-- ---- several

-- fed by another number of lanes than one
pub fed_by : (workers : ℕ) (rules : Rules) (items : List Item) (journal : List Entry) (before after : Option (List ℕ))
    → (workers ≡ 1 → ⊥) → HasFedBeside rules items (reverse journal) before after
    → All (λ (entry : Entry). entry.lane < workers) journal
    → HasFedBy workers rules items (reverse journal) before after
fed_by workers rules items journal before after many fed lanes = record {
  whole = record {
    fed = fed.fed;
    started = fed.started;
    ended = fed.ended;
    none_full = fed.none_full;
    lanes = lanes_past workers journal lanes;
    sequential = λ one. absurd (many one);
  };
  written = fed.written;
}

-- ---- what is handed on

-- what is told of what is given, from two things that are told
pub ok_both : {T E : Type 0} (result : Result T E) (P Q S : T → Type 0) → ((given : T) → P given → Q given → S given)
    → IfOk result P → IfOk result Q → IfOk result S
ok_both (Ok given) P Q S both one other = both given one other
ok_both (Err ended) P Q S both one other = tt

-- memory that is said to have run out is no fault of the sink
pub memory_cause : {S T : Type 0} (old new : ℕ) (first : Result S FeedStop) → HasCauseOf stop.WriteFault old new first
    → HasCauseOf {T = T} stop.WriteFault old new (Err stop.Memory)
memory_cause {S} {T} old new first cause = record {
  later = cause.later;
  within = cause.within;
  failed = λ e. absurd (let is : ◌≡◌ {A = Result T FeedStop} (Err stop.Memory) (Err stop.WriteFault) = e in cc);
}
