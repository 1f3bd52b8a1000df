use Rattle.std.proofs.Common.{◌≡◌, ◌++◌, length}
use Rattle.http_front.specs.Reader.{Wants}
use Rattle.asp_feed.proofs.job.request_of.Given as goal

abbrev pub invariant-loop-rest : goal.invariant-loop-rest
invariant-loop-rest l = record {
  whole : l.bytes ≡ l.reader ++ l.rest;
  wants : Wants l.reader;
}

abbrev pub decreases-loop-rest : goal.decreases-loop-rest
decreases-loop-rest l = length l.rest
