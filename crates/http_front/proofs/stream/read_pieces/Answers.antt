use Rattle.std.proofs.Common.{◌+◌, [], ◌++◌, drop, sym, subst}
use Rattle.http_front.specs.Front.{More, Refused}
use Rattle.http_front.specs.Reader.{AreRequests, joined}
use Rattle.http_front.proofs.Streams.{are_requests-append, piece-stream, refused-stream}
use Rattle.http_front.proofs.stream.read_pieces.Goals as goal

pub loop-piece-init : goal.loop-piece-init
loop-piece-init c = (
  [],
  record {
    takes = c.new-reader.ensures.nothing;
    gives = c.new-reader.ensures.wants;
    ended = tt;
  },
  subst (λ l. AreRequests [] l) (sym c.new-requests.ensures) tt,
)

pub returns-in-Refused : goal.returns-in-Refused
returns-in-Refused c =
    let adds = rw c.in-Refused.is at c.in_ok-take_requests.ensures in
    let before = c.loop-piece.invariant in
    let pieces = c.args.pieces.now in
    let i = c.loop-piece.piece-index in
    let now = piece-stream pieces i _ c.loop-piece-test.true before.0 adds.0 c.loop-piece.reader c.feed.new.self
    c.take_requests.new.reader
    (Refused c.in-Refused.status) before.1 c.in_ok-feed.ensures adds.2 in (
      before.0 ++ adds.0,
      c.take_requests.new.reader ++ joined (drop (i + 1) pieces),
      refused-stream pieces (i + 1) (before.0 ++ adds.0) c.take_requests.new.reader c.in-Refused.status now,
      subst (λ l. AreRequests (before.0 ++ adds.0) l) (sym adds.3)
          (are_requests-append before.0 adds.0 c.loop-piece.requests adds.1 before.2 adds.4),
    )

pub loop-piece-preserved : goal.loop-piece-preserved
loop-piece-preserved c =
    let adds = rw c.in-More.is at c.in_ok-take_requests.ensures in
    let before = c.loop-piece.invariant in (
      before.0 ++ adds.0,
      piece-stream c.args.pieces.now c.loop-piece.piece-index _ c.loop-piece-test.true before.0 adds.0
          c.loop-piece.reader c.feed.new.self
          c.take_requests.new.reader More before.1 c.in_ok-feed.ensures adds.2,
      subst (λ l. AreRequests (before.0 ++ adds.0) l) (sym adds.3)
          (are_requests-append before.0 adds.0 c.loop-piece.requests adds.1 before.2 adds.4),
    )
