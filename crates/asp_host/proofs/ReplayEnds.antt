-- What `replay` ran and wrote.
use Rattle.std.proofs.Common.{◌≡◌, ℕ, Bool, List, Option, IfSome, refl, inl, inr}
use Rattle.vb_value.specs.declared.site_file.SiteFile.{SiteFile}
use Rattle.asp_command.specs.declared.words.Command.TheVariants.{Replay}
use Rattle.asp_acts.specs.Running.{meaning_of}
use Rattle.asp_core.specs.Kernel.{rules_by, setting_of}
use Rattle.asp_job.specs.Rules.{Rules}
use Rattle.asp_record.specs.declared.recording.Recording.{Recording}
use Rattle.asp_replay.specs.declared.stop.FeedStop.{FeedStop}
use Rattle.asp_replay.specs.declared.stop.FeedStop.TheVariants as feed
use Rattle.asp_site.specs.declared.site.Site.{Site}
use Rattle.site_load.specs.declared.stop.LoadStop.{LoadStop}
use Rattle.site_load.specs.declared.stop.LoadStop.TheVariants as load
use Rattle.site_load.specs.Accepted.{IsAccepted}
use Rattle.site_load.specs.Stopping.{Refuses}
use Rattle.asp_host.specs.Around.{Change}
use Rattle.asp_host.specs.declared.recording.RecordingStop.{RecordingStop}
use Rattle.asp_host.specs.declared.recording.RecordingStop.TheVariants as recording
use Rattle.asp_host.specs.Input.{IsRecordingStop}
use Rattle.asp_host.specs.Replay.{IsFor, ReplayWrites, rules_for}
use Rattle.asp_host.specs.Replayed.{HasReplayed, HasStopped}
use Rattle.asp_host.specs.Status.{feed_status_of, recording_status_of, status_of}
use Rattle.asp_host.specs.declared.status.Status.TheVariants as status

-- what the journal of a replay is held against by the rule that the recording has
abbrev pub rules_of : Site → Recording → Rules
rules_of site recording = rules_by (meaning_of site) (setting_of recording.seed recording.strict)

-- where the folder is no site, nothing is read or written
pub nothing_replayed : (workers : ℕ) (journal strict : Bool) (files : Option (List SiteFile)) (left held : Option (List ℕ)) (stop : LoadStop)
    → Refuses files stop → ReplayWrites workers journal strict files (record { before = left; after = left })
    (record { before = held; after = held }) (status_of stop)
nothing_replayed workers journal strict files left held (load.Refused fault) stops = (stops, refl, refl)
nothing_replayed workers journal strict files left held load.ReadFault stops = refl
nothing_replayed workers journal strict files left held load.Memory stops = inl refl

-- where the source has no recording, nothing is written
pub no_recording : (workers : ℕ) (journal strict : Bool) (files : Option (List SiteFile)) (site : Site) (source : Change)
    (held : Option (List ℕ)) (stop : RecordingStop) → IfSome files (λ all. IsAccepted all site)
    → IsRecordingStop source.before stop
    → ReplayWrites workers journal strict files source (record { before = held; after = held }) (recording_status_of stop)
no_recording workers journal strict files site source held (recording.Refused offset) accepted refused =
    (record { site = site; accepted = accepted; refused = refused }, refl)
no_recording workers journal strict files site source held recording.ReadFault accepted refused = refl
no_recording workers journal strict files site source held recording.Memory accepted refused = inl refl

-- the recording was replayed to its end
pub replay_done : (workers : ℕ) (journal strict : Bool) (files : Option (List SiteFile)) (site : Site) (source sink : Change)
    (recording : Recording) → IsFor files source site recording
    → HasReplayed workers (rules_for strict site recording) recording.items journal sink.before sink.after
    → ReplayWrites workers journal strict files source sink status.Ok
replay_done workers journal strict files site source sink recording is_for done =
    record { site = site; recording = recording; is_for = is_for; replayed = done }

-- or it stopped so
pub replay_stopped : (workers : ℕ) (journal strict : Bool) (files : Option (List SiteFile)) (site : Site) (source sink : Change)
    (recording : Recording) (stop : FeedStop) → IsFor files source site recording
    → HasStopped workers (rules_for strict site recording) recording.items journal sink.before sink.after stop
    → ReplayWrites workers journal strict files source sink (feed_status_of stop)
replay_stopped workers journal strict files site source sink recording (feed.StartFailed fail) is_for stopped =
    record { site = site; recording = recording; is_for = is_for; failed = stopped }
replay_stopped workers journal strict files site source sink recording (feed.JournalFull full) is_for stopped =
    record { site = site; recording = recording; is_for = is_for; filled = stopped }
replay_stopped workers journal strict files site source sink recording feed.WriteFault is_for stopped =
    record { site = site; recording = recording; is_for = is_for; replayed = stopped }
replay_stopped workers journal strict files site source sink recording feed.Memory is_for stopped =
    inr (record { site = site; recording = recording; is_for = is_for; replayed = stopped })

-- ---- words

-- two commands `replay` that are the same have the same options
pub same_replay : (site other : List ℕ) (workers others : ℕ) (journal also strict lock : Bool)
    → Replay site workers journal strict ≡ Replay other others also lock
    → (workers ≡ others) × (journal ≡ also) × (strict ≡ lock)
same_replay site other workers others journal also strict lock e = (cc, cc, cc)
