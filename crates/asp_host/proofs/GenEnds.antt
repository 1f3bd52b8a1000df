-- What `gen` ran and wrote.
use Rattle.std.proofs.Common.{◌≡◌, ℕ, Bool, subst, inl, inr, false}
use Rattle.asp_record.specs.declared.recording.Recording.{Recording}
use Rattle.asp_record.specs.Generated.{count_files, generated}
use Rattle.asp_replay.specs.declared.stop.FeedStop.{FeedStop}
use Rattle.asp_replay.specs.declared.stop.FeedStop.TheVariants as feed
use Rattle.asp_site.specs.declared.site.Site.{Site}
use Rattle.site_load.specs.Accepted.{IsAccepted}
use Rattle.asp_host.specs.Around.{Change}
use Rattle.asp_host.specs.Gen.{GenWrites, HasSummedAll, IsSumStop}
use Rattle.asp_host.specs.Replay.{rules_for}
use Rattle.asp_host.specs.Status.{feed_status_of}
use Rattle.asp_host.specs.declared.status.Status.TheVariants as status

-- the output is that of the recording, fed to the site, and the sink has it
abbrev Done : ℕ → Bool → Site → Change → Recording → Type 0
Done count journal site sink recording =
    HasSummedAll (rules_for false site recording) recording.items count journal sink

-- what was made was replayed to its end
pub gen_done : (count : ℕ) (journal : Bool) (site : Site) (recording : Recording) (sink : Change)
    → recording ≡ generated count → IsAccepted count_files site → Done count journal site sink recording
    → GenWrites count journal sink status.Ok
gen_done count journal site recording sink same accepted done =
    record { site = site; accepted = accepted; all = subst (Done count journal site sink) same done }

made_stopped : (count : ℕ) (journal : Bool) (site : Site) (sink : Change) (stop : FeedStop)
    → IsAccepted count_files site
    → IsSumStop (rules_for false site (generated count)) (generated count).items count journal sink stop
    → GenWrites count journal sink (feed_status_of stop)
made_stopped count journal site sink (feed.StartFailed fail) accepted stopped =
    (record { site = site; accepted = accepted; failed = stopped.0 }, stopped.1)
made_stopped count journal site sink (feed.JournalFull full) accepted stopped =
    (record { site = site; accepted = accepted; filled = stopped.0 }, stopped.1)
made_stopped count journal site sink feed.WriteFault accepted part =
    (part.0, record { site = site; accepted = accepted; summed = part.1 }, part.2)
made_stopped count journal site sink feed.Memory accepted (inl left) = inl left
made_stopped count journal site sink feed.Memory accepted (inr part) =
    inr (part.0, record { site = site; accepted = accepted; summed = part.1 }, part.2)

-- or it stopped so
pub gen_stopped : (count : ℕ) (journal : Bool) (site : Site) (recording : Recording) (sink : Change) (stop : FeedStop)
    → recording ≡ generated count → IsAccepted count_files site
    → IsSumStop (rules_for false site recording) recording.items count journal sink stop
    → GenWrites count journal sink (feed_status_of stop)
gen_stopped count journal site recording sink stop same accepted stopped =
    made_stopped count journal site sink stop accepted
    (subst (λ (recording : Recording). IsSumStop (rules_for false site recording) recording.items count journal sink stop)
    same stopped)
