-- Two answers of `get` to one request leave the same.
use Rattle.std.proofs.Common.{◌≡◌, Result, Ok as Given, subst, sym}
use Rattle.asp_get.specs.Answered.{HasAnswered}
use Rattle.asp_get.specs.declared.stop.GetStop.{GetStop}
use Rattle.asp_host.specs.Get.{site_rules}
use Rattle.asp_host.specs.Request.{job_of}
use Rattle.asp_io.specs.Sink.{with_bytes}
use Rattle.asp_job.specs.declared.answer.Answer.{Answer}
use Rattle.site_load.specs.Accepted.{IsAccepted}
use Rattle.host_laws.proofs.Refusals.{of_told}
use Rattle.host_laws.specs.Laws.{OneGetOutput, OneOutcome, OneSite}

one_given : (one other : Answer) → ◌≡◌ {A = Result Answer GetStop} (Given one) (Given other) → one ≡ other
one_given one other e = cc

pub one_get_output : OneSite → OneOutcome → OneGetOutput
one_get_output sites outcomes path query files around other tells also ends last =
    let is = ends.1.1 in
    let has = last.1.1 in
    let site : has.site ≡ is.site = sites files has.site is.site tells.paths
    (of_told other.files files (λ all. IsAccepted all has.site) also.told has.accepted)
    (of_told around.files files (λ all. IsAccepted all is.site) tells.told is.accepted) in
    let answered : HasAnswered (site_rules is.site) (job_of path query) last.1.0 =
    subst (λ site. HasAnswered (site_rules site) (job_of path query) last.1.0) site has.answered in
    let same = one_given ends.1.0 last.1.0 (outcomes (site_rules is.site) (job_of path query) (Given ends.1.0)
    (Given last.1.0) is.answered answered) in (
      ends.1.0.body,
      ends.1.2,
      subst (λ (answer : Answer). other.sink.after ≡ with_bytes other.sink.before answer.body)
          (sym same) last.1.2,
    )
