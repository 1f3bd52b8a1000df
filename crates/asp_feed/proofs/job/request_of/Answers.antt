use Rattle.asp_feed.proofs.OneRequest.{fed_more, none_refused, none_wanting, one_comes}
use Rattle.asp_feed.proofs.job.request_of.Goals as goal

pub returns-in-Request : goal.returns-in-Request
returns-in-Request c =
    let gives = rw c.in-Request.is at c.in_ok-request.ensures.ok in
    let later = c.split_at.result.1.now in (
      gives.0,
      gives.1,
      one_comes (record { unique = c.one_front.ensures; stays = c.front_stays.ensures }) c.args.bytes.now
          c.feed.new.self later (fed_more c.args.bytes.now c.loop-rest.reader c.loop-rest.rest.now c.feed.new.self
          c.split_at.result.0.now later _ c.requires.one c.loop-rest.invariant.whole c.in_ok-feed.ensures
          c.split_at.ensures.front c.split_at.ensures.back) c.next.new.self gives.0 gives.1 gives.3,
      gives.2,
    )

pub unreachable-requires : goal.unreachable-requires
unreachable-requires c =
    let gives = rw c.in-Refused.is at c.in_ok-request.ensures.ok in
    let later = c.split_at.result.1.now in
    none_refused (record { unique = c.one_front.ensures; stays = c.front_stays.ensures }) c.args.bytes.now
    c.feed.new.self later (fed_more c.args.bytes.now c.loop-rest.reader c.loop-rest.rest.now c.feed.new.self
    c.split_at.result.0.now later _ c.requires.one c.loop-rest.invariant.whole c.in_ok-feed.ensures
    c.split_at.ensures.front c.split_at.ensures.back) c.in-Refused.field-0 gives.0

pub unreachable-requires-2 : goal.unreachable-requires-2
unreachable-requires-2 c =
    none_wanting (record { unique = c.one_front.ensures; stays = c.front_stays.ensures }) c.args.bytes.now
    c.loop-rest.reader c.loop-rest.rest.now
    (record { one = c.requires.one; whole = c.loop-rest.invariant.whole }) c.loop-rest-test.false
    c.loop-rest.invariant.wants
