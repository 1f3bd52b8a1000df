use Rattle.std.proofs.Common.{◌≡◌, Err, ap, refl}
use Rattle.std.proofs.lemmas.Result.{err_from_is_err_and}
use Rattle.asp_journal.specs.declared.full.Full.{Full}
use Rattle.asp_core.specs.declared.stop.AdmitStop.{AdmitStop}
use Rattle.asp_core.specs.declared.stop.AdmitStop.TheVariants as admit
use Rattle.asp_replay.specs.declared.stop.FeedStop.TheVariants as stop
use Rattle.asp_replay.specs.Underway as way
use Rattle.asp_replay.proofs.coming.come_request.Goals as goal

admit_full : (ended : AdmitStop) (full : Full) → way.admit_stop ended ≡ stop.JournalFull full
    → ended ≡ admit.JournalFull full
admit_full admit.Stopping full e = absurd cc
admit_full admit.WaitingFull full e = absurd cc
admit_full (admit.JournalFull most) full e = cc
admit_full admit.Memory full e = absurd cc

pub returns-in_err-told-clause-full : goal.returns-in_err-told-clause-full
returns-in_err-told-clause-full g c full e =
    let p = err_from_is_err_and c.from_residual-in_err-told.result c.from_residual-in_err-told.ensures.1 in
    let told : way.admit_stop c.in_err-told.field-0.0 ≡ stop.JournalFull full = cc (p.1, p.2, e) in
    let much = c.in_err-told.ensures.full full (ap Err (admit_full c.in_err-told.field-0.0 full told)) in
    (_, _, (c.in_ok-job.job, c.in_ok-job.ensures.job, refl, refl), much)
