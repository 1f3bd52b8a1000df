use Rattle.std.proofs.Common.{Ok, ap}
use Rattle.asp_io.proofs.Streams.{consumes_more, read_is_start}
use Rattle.asp_io.proofs.std_stream.read_start.Goals as goal

pub returns-then-not-branch-clause-bytes : goal.returns-then-not-branch-clause-bytes
returns-then-not-branch-clause-bytes g c =
    let read = c.in_ok-read_more.ensures in
    read_is_start _ _ _ _ (consumes_more _ _ _ _ _ c.loop.invariant.1 read.kept read.taken) read.within
    (λ short. read.end (ap Ok c.if-not-branch.true) short)
