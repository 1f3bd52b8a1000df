-- A recording and what a replay wrote of it with the lines of the journal tell the journal.
use Rattle.std.proofs.Common.{◌≡◌, ◌∙◌, ℕ, ◌^◌, ◌<◌, true, List, ◌++◌, Option, Some, length, refl, sym, ap, subst, Bool}
use Rattle.std.proofs.lemmas.List.{append_cancel_left}
use Rattle.asp_host.specs.Around.{Around}
use Rattle.asp_host.specs.Replay.{ReplaysAll, rules_for}
use Rattle.asp_io.specs.Sink.{with_bytes}
use Rattle.asp_record.specs.declared.recording.Recording.{Recording}
use Rattle.asp_record.specs.EntryLines.{printed}
use Rattle.asp_feed.specs.Feeding.{IsFed}
use Rattle.asp_feed.specs.Shown.{IsOutput}
use Rattle.replay_laws.specs.Laws.{OneJournal}
use Rattle.host_laws.specs.Laws.{TellsOutput}
use Rattle.host_laws.proofs.OneReplayOutput.{same_recording}
use Rattle.host_laws.proofs.Refusals.{OneRecording}

same_some : (one other : List ℕ) → ◌≡◌ {A = Option (List ℕ)} (Some one) (Some other) → one ≡ other
same_some one other e = cc

-- what stands behind what a sink held is what was written
pub written_is : (before after : Option (List ℕ)) (held output written : List ℕ) → before ≡ Some held
    → after ≡ Some (held ++ output) → after ≡ with_bytes before written → written ≡ output
written_is before after held output written was is wrote =
    append_cancel_left held written output (same_some (held ++ written) (held ++ output)
    (sym (wrote ∙ ap (λ (some : Option (List ℕ)). with_bytes some written) was) ∙ is))

-- so it is the output of the replay
is_output : (workers : ℕ) (strict : Bool) (bytes output : List ℕ) (around : Around) → TellsOutput around bytes output
    → (all : ReplaysAll workers true strict around.files around.source around.sink)
    → IsOutput (rules_for strict all.site all.recording) all.replayed.past true output
is_output workers strict bytes output around tells all =
    subst (IsOutput (rules_for strict all.site all.recording) all.replayed.past true)
    (written_is around.sink.before around.sink.after tells.held output all.replayed.output tells.before tells.after
    all.replayed.wrote) all.replayed.is_output

pub one_replay_journal : OneRecording → OneJournal → (workers others : ℕ) (strict lock : Bool)
    (bytes output : List ℕ) (around other : Around) → TellsOutput around bytes output → TellsOutput other bytes output → length output < 2 ^ 64
    → (one : ReplaysAll workers true strict around.files around.source around.sink)
    → (also : ReplaysAll others true lock other.files other.source other.sink)
    → printed one.replayed.past ≡ printed also.replayed.past
one_replay_journal recordings journals workers others strict lock bytes output around other tells more short one also =
    let recording = same_recording recordings bytes workers others true strict lock around other one also tells.read more.read in
    let fed = subst (λ (some : Recording). IsFed some.items one.replayed.past) recording one.replayed.whole.fed in
    journals (rules_for strict one.site one.recording) (rules_for lock also.site also.recording) also.recording.items
    one.replayed.past also.replayed.past output (record { valid = one.replayed.account; fed = fed })
    (record { valid = also.replayed.account; fed = also.replayed.whole.fed }) (one.replayed.lines refl)
    (also.replayed.lines refl) short (is_output workers strict bytes output around tells one)
    (is_output others lock bytes output other more also)
