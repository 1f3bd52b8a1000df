use Rattle.std.proofs.Common.{◌≤◌, length}
use Rattle.std.specs.Io.KnownBytes.{Consumes}
use Rattle.asp_io.proofs.std_stream.read_start.Given as goal

abbrev pub invariant-loop : goal.invariant-loop
invariant-loop g l = (length l.bytes ≤ l.most)
    × Consumes (g.S.Read.remaining l.initial.from) (g.S.Read.remaining l.from) l.bytes
