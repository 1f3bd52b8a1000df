use Rattle.std.proofs.Common.{◌≡◌, ◌+◌, ◌-◌, length, ◌*◌}
use Rattle.std.specs.Prelude.{codes}
use Rattle.asp_record.specs.ReadingValues.{list_at, more_at, value_at}
use Rattle.asp_record.proofs.ListReading.{joined}
use Rattle.asp_record.proofs.array_reading.+reading.Given as goal

abbrev pub invariant-items_at-loop-count : goal.invariant-items_at-loop-count
invariant-items_at-loop-count l =
    list_at (value_at l.depth) (codes "]") l.bytes
    ≡ joined l.items (more_at (value_at l.depth) (codes "]") (length l.bytes - l.count) l.rest)

-- The measures go by depth.
abbrev pub decreases-value_at : goal.decreases-value_at
decreases-value_at l = 3 * l.depth + 2

abbrev pub decreases-array_at : goal.decreases-array_at
decreases-array_at l = 3 * l.depth + 1

abbrev pub decreases-items_at : goal.decreases-items_at
decreases-items_at l = 3 * l.depth + 3
