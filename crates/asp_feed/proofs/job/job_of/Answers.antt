use Rattle.std.proofs.Common.{[]}
use Rattle.http_front.proofs.Small.{small_request}
use Rattle.asp_feed.proofs.job.job_of.Goals as goal

pub returns-clause-small : goal.returns-clause-small
returns-clause-small c =
    let is = c.in_ok-request.ensures in
    small_request c.args.bytes.now is.0 is.1 [] c.in_ok-request.request is.2 is.3
