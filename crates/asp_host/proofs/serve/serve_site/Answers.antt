use denote.Param.Send.{sendable}
use Rattle.std.proofs.Common.{sym, subst, ◌∙◌}
use Rattle.asp_run.proofs.Moved.{run}
use Rattle.asp_serve.specs.Visits.{MayFail}
use Rattle.asp_site.proofs.Shared.{site}
use Rattle.asp_host.specs.declared.status.Status.{Status}
use Rattle.asp_host.specs.Serve.{ServeMeets, rules_from}
use Rattle.asp_host.proofs.ServeEnds.{accept_failed, serve_stopped}
use Rattle.asp_host.proofs.serve.serve_site.Goals as goal

pub serve-requires-send-R-State : goal.serve-requires-send-R-State
serve-requires-send-R-State g c κs = search (run, sendable) depth 40 fits 20000

pub serve-requires-sync-R-Site : goal.serve-requires-sync-R-Site
serve-requires-sync-R-Site g c κs = search (site, sendable) depth 40 fits 20000

pub returns-in-Ok-clause-meets : goal.returns-in-Ok-clause-meets
returns-in-Ok-clause-meets g c = λ files accepted.
    record { site = c.args.site; accepted = accepted; served = c.in-Ok.ensures }

pub returns-in-Err-clause-meets : goal.returns-in-Err-clause-meets
returns-in-Err-clause-meets g c = λ files accepted.
    let requests = c.args.terms.now.requests in
    let seed = c.args.terms.now.seed in
    let strict = c.args.terms.now.strict in
    subst (λ (status : Status). ServeMeets requests files seed strict g.W.Wire.ENDS status) (sym c.from.ensures)
    (serve_stopped (MayFail g.W.Wire.faults) requests files c.args.site seed strict g.W.Wire.ENDS c.in-Err.stop accepted
    c.in-Err.ensures)

pub returns-in-Err-clause-accept_fault : goal.returns-in-Err-clause-accept_fault
returns-in-Err-clause-accept_fault g c = λ is.
    accept_failed (MayFail g.W.Wire.faults) (rules_from c.args.site c.args.terms.now.seed c.args.terms.now.strict) c.in-Err.stop
    c.in-Err.ensures (sym c.from.ensures ∙ is)
