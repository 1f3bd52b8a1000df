-- What a replay writes is a function of what it reads.
use Rattle.std.proofs.Common.{◌≡◌, ◌∙◌, ℕ, Bool, List, Some, length, refl, ap, subst}
use Rattle.vb_value.specs.declared.site_file.SiteFile.{SiteFile}
use Rattle.asp_io.specs.Sink.{with_bytes}
use Rattle.asp_record.specs.declared.recording.Recording.{Recording}
use Rattle.asp_record.specs.Recorded.{Stands}
use Rattle.site_load.specs.Accepted.{IsAccepted}
use Rattle.replay_laws.specs.Laws.{IsReplay, OneReplay}
use Rattle.asp_host.specs.Around.{Around}
use Rattle.asp_host.specs.Replay.{ReplaysAll, rules_for}
use Rattle.host_laws.specs.Laws.{AreAddedAlike, OneSite, ReplaysWell, TellsFiles}
use Rattle.host_laws.proofs.Refusals.{OneRecording, of_told}

-- a replay in whose journal no run ended for want of memory is the output of the history of one lane
is_replay : (journal strict : Bool) (around : Around) (well : ReplaysWell journal strict around)
    → IsReplay (rules_for strict well.all.site well.all.recording) well.all.recording.items journal well.all.replayed.output
is_replay journal strict around well = record {
  past = well.all.replayed.past;
  sequential = well.all.replayed.whole.sequential refl well.enough;
  is_output = well.all.replayed.is_output;
}

-- two replays of the same bytes have one recording
pub same_recording : OneRecording → (bytes : List ℕ) (workers others : ℕ) (journal strict lock : Bool) (around other : Around)
    (one : ReplaysAll workers journal strict around.files around.source around.sink)
    (also : ReplaysAll others journal lock other.files other.source other.sink) → around.source.before ≡ Some bytes
    → other.source.before ≡ Some bytes → one.recording ≡ also.recording
same_recording recordings bytes workers others journal strict lock around other one also told more =
    (recordings bytes one.recording also.recording (length bytes) (length bytes)
    (of_told around.source.before bytes (λ all. Stands all one.recording (length all)) told one.is_for.whole.stands)
    (of_told other.source.before bytes (λ all. Stands all also.recording (length all)) more
    also.is_for.whole.stands)).0

module _ (sites : OneSite) (recordings : OneRecording) (replays : OneReplay) where
  same_site : (files : List SiteFile) (journal strict : Bool) (around other : Around)
      (one : ReplaysWell journal strict around) (also : ReplaysWell journal strict other) → TellsFiles around files → TellsFiles other files
      → one.all.site ≡ also.all.site
  same_site files journal strict around other one also tells more = sites files one.all.site also.all.site tells.paths
      (of_told around.files files (λ all. IsAccepted all one.all.site) tells.told one.all.is_for.accepted)
      (of_told other.files files (λ all. IsAccepted all also.all.site) more.told also.all.is_for.accepted)

  pub one_replay_output : (journal strict : Bool) (files : List SiteFile) (bytes : List ℕ) (around other : Around)
      → TellsFiles around files → TellsFiles other files → around.source.before ≡ Some bytes
      → other.source.before ≡ Some bytes → ReplaysWell journal strict around → ReplaysWell journal strict other
      → AreAddedAlike around.sink other.sink
  one_replay_output journal strict files bytes around other tells more told again one also =
      let site = same_site files journal strict around other one also tells more in
      let recording = same_recording recordings bytes 1 1 journal strict strict around other one.all also.all told again in
      let output = one.all.replayed.output in
      let turned = subst (λ (last : Recording). IsReplay (rules_for strict also.all.site last) last.items journal output)
      recording (subst (λ site. IsReplay (rules_for strict site one.all.recording) one.all.recording.items journal output) site
      (is_replay journal strict around one)) in
      let same = replays (rules_for strict also.all.site also.all.recording) also.all.recording.items journal output
      also.all.replayed.output turned (is_replay journal strict other also) in (
        also.all.replayed.output,
        one.all.replayed.wrote ∙ ap (with_bytes around.sink.before) same,
        also.all.replayed.wrote,
      )
