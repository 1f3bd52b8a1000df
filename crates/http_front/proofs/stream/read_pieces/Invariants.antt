use Rattle.std.proofs.Common.{List, take}
use Rattle.http_front.specs.Front.{Taken, IsStream, More}
use Rattle.http_front.specs.Reader.{AreRequests, joined}
use Rattle.http_front.proofs.stream.read_pieces.Given as goal

abbrev pub invariant-loop-piece : goal.invariant-loop-piece
invariant-loop-piece l =
    (ts : List Taken) × IsStream (joined (take l.piece-index l.pieces)) ts l.reader More × AreRequests ts l.requests
