use Rattle.std.proofs.Common.{◌≡◌, List, ◌++◌, length}
use Rattle.asp_job.specs.declared.request.Request.{Request}
use Rattle.http_front.specs.Front.{Taken, Takes}
use Rattle.http_front.specs.Reader.{AreRequests}
use Rattle.http_front.proofs.stream.take_requests.Given as goal

abbrev pub invariant-loop-request : goal.invariant-loop-request
invariant-loop-request l =
    (ts : List Taken) × (rs : List Request) × Takes l.initial.reader ts l.reader
    × (l.requests ≡ l.initial.requests ++ rs) × AreRequests ts rs

abbrev pub decreases-loop-request : goal.decreases-loop-request
decreases-loop-request l = length l.reader
