-- A recording has one output.
use Rattle.std.proofs.Common.{◌≡◌, ℕ, Bool, List, subst}
use Rattle.asp_job.specs.Rules.{Rules}
use Rattle.asp_record.specs.declared.recording.Item.{Item}
use Rattle.asp_record.specs.declared.recording.Recording.{Recording}
use Rattle.asp_record.specs.Recorded.{Stands}
use Rattle.asp_feed.specs.Shown.{IsOutput}
use Rattle.replay_laws.specs.Laws.{IsReplay, IsReplayOfBytes}
use Rattle.replay_laws.proofs.OneHistory.{one_history}
use Rattle.replay_laws.proofs.OneJob.{OneFront}
use Rattle.replay_laws.proofs.OneOutput.{one_output}

-- bytes have one recording at their front: the law of asp_record
abbrev pub OneRecording : Type 0
OneRecording = (bytes : List ℕ) (one other : Recording) (end last : ℕ) → Stands bytes one end
    → Stands bytes other last → (one ≡ other) × (end ≡ last)

pub one_replay : OneFront → (rules : Rules) (items : List Item) (journal : Bool) (bytes other : List ℕ)
    → IsReplay rules items journal bytes → IsReplay rules items journal other → bytes ≡ other
one_replay fronts rules items journal bytes other is also =
    let same = one_history fronts rules items is.past also.past is.sequential also.sequential in
    one_output rules also.past journal bytes other
    (subst (λ some. IsOutput rules some journal bytes) same is.is_output) also.is_output

pub one_replay_of_bytes : OneFront → OneRecording → (rules : Recording → Rules) (from : List ℕ) (journal : Bool)
    (bytes other : List ℕ) → IsReplayOfBytes rules from journal bytes → IsReplayOfBytes rules from journal other
    → bytes ≡ other
one_replay_of_bytes fronts recordings rules from journal bytes other is also =
    let same = recordings from is.recording also.recording is.end also.end is.stands also.stands in
    let turned = subst (λ (some : Recording). IsReplay (rules some) some.items journal bytes) same.0 is.replay in
    one_replay fronts (rules also.recording) also.recording.items journal bytes other turned also.replay
