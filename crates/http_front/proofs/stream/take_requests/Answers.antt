use Rattle.std.proofs.Common.{[], ◌∷◌, ◌++◌, refl, sym, ap, ◌∙◌, append_assoc, append-nil}
use Rattle.http_front.proofs.Fronts.{takes_then}
use Rattle.http_front.proofs.Streams.{front-shorter, are_requests-append}
use Rattle.http_front.proofs.stream.take_requests.Goals as goal

pub loop-request-init : goal.loop-request-init
loop-request-init c = ([], [], refl, sym (append-nil c.args.requests.now), tt)

pub loop-request-smaller : goal.loop-request-smaller
loop-request-smaller c =
    let gives = rw c.in-Request.is at c.in_ok-request.ensures.ok in
    front-shorter c.loop-request.reader gives.0 gives.1 c.next.new.self gives.3

pub loop-request-preserved : goal.loop-request-preserved
loop-request-preserved c =
    let gives = rw c.in-Request.is at c.in_ok-request.ensures.ok in
    let before = c.loop-request.invariant in
    let more = (gives.0, gives.1) ∷ [] in
    let request = c.in-Request.request in (
      before.0 ++ more,
      before.1 ++ request ∷ [],
      takes_then c.args.reader.now before.0 more c.loop-request.reader c.next.new.self before.2 (c.next.new.self, gives.3, refl),
      c.in_ok-push-in-Request.ensures ∙ ap (λ l. l ++ request ∷ []) before.3
          ∙ append_assoc c.args.requests.now before.1 (request ∷ []),
      are_requests-append before.0 more before.1 (request ∷ []) before.4 (gives.2, tt),
    )
