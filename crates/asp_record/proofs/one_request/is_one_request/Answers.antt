use Rattle.asp_record.proofs.OneRequest.{fed_more, refused_decides, request_decides, wanting_decides}
use Rattle.asp_record.proofs.one_request.is_one_request.Goals as goal

pub returns-in-Request-clause-tells : goal.returns-in-Request-clause-tells
returns-in-Request-clause-tells c =
    let gives = rw c.in-Request.is at c.in_ok-next.ensures.ok in
    let fed = c.feed.new.self in
    let later = c.split_at.result.1.now in
    request_decides (record { unique = c.one_front.ensures; stays = c.front_stays.ensures }) c.args.bytes.now fed later
    c.next.new.self gives.0 gives.1 c.is_all_taken.result
    (fed_more c.args.bytes.now c.loop-rest.reader c.loop-rest.rest.now fed c.split_at.result.0.now later _
    c.loop-rest.invariant.whole
    c.in_ok-feed.ensures c.split_at.ensures.front c.split_at.ensures.back) gives.3 c.is_all_taken.ensures

pub returns-in-Refused-clause-tells : goal.returns-in-Refused-clause-tells
returns-in-Refused-clause-tells c =
    let gives = rw c.in-Refused.is at c.in_ok-next.ensures.ok in
    let fed = c.feed.new.self in
    let later = c.split_at.result.1.now in
    refused_decides (record { unique = c.one_front.ensures; stays = c.front_stays.ensures }) c.args.bytes.now fed later
    c.in-Refused.field-0
    (fed_more c.args.bytes.now c.loop-rest.reader c.loop-rest.rest.now fed c.split_at.result.0.now later _
    c.loop-rest.invariant.whole
    c.in_ok-feed.ensures c.split_at.ensures.front c.split_at.ensures.back) gives.0

pub returns-clause-tells : goal.returns-clause-tells
returns-clause-tells c =
    wanting_decides (record { unique = c.one_front.ensures; stays = c.front_stays.ensures }) c.args.bytes.now
    c.loop-rest.reader c.loop-rest.rest.now c.loop-rest.invariant.whole c.loop-rest-test.false
    c.loop-rest.invariant.wants
