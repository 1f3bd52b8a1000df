use Rattle.std.proofs.Common.{◌≡◌, ◌-◌, length}
use Rattle.std.specs.Prelude.{codes}
use Rattle.asp_record.specs.ReadingValues.{more_at, name_at}
use Rattle.asp_record.proofs.ListReading.{joined}
use Rattle.asp_record.proofs.call_reading.more_names_at.Given as goal

abbrev pub invariant-loop-count : goal.invariant-loop-count
invariant-loop-count l =
    more_at name_at (codes "\n") (length l.bytes) l.bytes
    ≡ joined l.names (more_at name_at (codes "\n") (length l.bytes - l.count) l.rest)
