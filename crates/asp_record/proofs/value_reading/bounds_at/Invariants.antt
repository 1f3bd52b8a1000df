use Rattle.std.proofs.Common.{◌≡◌, ◌-◌, length}
use Rattle.std.specs.Prelude.{codes}
use Rattle.asp_record.specs.ReadingValues.{bounds_at, long_at, more_at}
use Rattle.asp_record.proofs.ListReading.{joined}
use Rattle.asp_record.proofs.value_reading.bounds_at.Given as goal

abbrev pub invariant-loop-count : goal.invariant-loop-count
invariant-loop-count l = bounds_at l.bytes ≡ joined l.bounds
    (more_at long_at (codes "|") (length l.bytes - l.count) l.rest)
