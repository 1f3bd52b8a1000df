use Rattle.http_front.specs.Reader.{Wants}
use Rattle.front_cases.proofs.requests.feed.Given as goal

abbrev pub invariant-loop-piece : goal.invariant-loop-piece
invariant-loop-piece l = Wants l.reader
