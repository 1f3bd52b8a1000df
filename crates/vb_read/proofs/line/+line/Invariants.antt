use Rattle.std.proofs.Common.{◌≡◌, ◌+◌, ◌*◌, ◌++◌, length}
use Rattle.vb_read.specs.Reader as reader
use Rattle.vb_read.specs.ReadLines as spec
use Rattle.vb_read.specs.ReadStatements.{blocks, blocks_inside}
use Rattle.vb_read.specs.Depths.{rules}
use Rattle.vb_read.proofs.Lines.{line_value}
use Rattle.vb_read.proofs.line.+line.Given as goal

abbrev pub decreases-line_of : goal.decreases-line_of
decreases-line_of l = l.depth * 5 + 1

abbrev pub decreases-line_if : goal.decreases-line_if
decreases-line_if l = l.depth * 5

abbrev pub decreases-line_if_from : goal.decreases-line_if_from
decreases-line_if_from l = l.within * 5 + 3

abbrev pub decreases-else_line : goal.decreases-else_line
decreases-else_line l = l.within * 5 + 2

abbrev pub invariant-line_of-loop-statements : goal.invariant-line_of-loop-statements
invariant-line_of-loop-statements l = (blocks (rules l.fn.looser) l.fn.depth).line l.fn.cursor.rest.now
    ≡ reader.and_then (reader.until (spec.line_turn (rules l.fn.looser) l.fn.depth
    (blocks_inside (rules l.fn.looser) l.fn.depth)) l.cursor.rest.now)
    (λ found. reader.pure (line_value (l.statements ++ found.0) found.1))

abbrev pub decreases-line_of-loop-statements : goal.decreases-line_of-loop-statements
decreases-line_of-loop-statements l = length l.cursor.rest.now
