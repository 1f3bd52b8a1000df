use Rattle.std.proofs.Common.{◌≡◌, length}
use Rattle.vb_read.specs.ReadStatements as spec
use Rattle.vb_read.proofs.condition.passed_texts.Given as goal

abbrev pub invariant-loop-cursor : goal.invariant-loop-cursor
invariant-loop-cursor l = spec.passed_texts l.fn.any l.fn.cursor.rest.now ≡ spec.passed_texts l.fn.any
    l.cursor.rest.now

abbrev pub decreases-loop-cursor : goal.decreases-loop-cursor
decreases-loop-cursor l = length l.cursor.rest.now
