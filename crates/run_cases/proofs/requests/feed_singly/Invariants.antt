use Rattle.http_front.specs.Reader.{Wants}
use Rattle.run_cases.proofs.requests.feed_singly.Given as goal

abbrev pub invariant-loop-place : goal.invariant-loop-place
invariant-loop-place l = Wants l.reader
