use Rattle.std.proofs.Common.{◌≡◌, ◌++◌, length}
use Rattle.vb_read.specs.Reader as reader
use Rattle.vb_read.specs.ReadExpressions.{list_of, more_of}
use Rattle.vb_read.specs.ReadSimpleStatements as spec
use Rattle.vb_read.proofs.simple.arrays.Given as goal

abbrev pub invariant-loop-alloc : goal.invariant-loop-alloc
invariant-loop-alloc l = list_of (spec.resized l.fn.depth) l.fn.cursor.rest.now
    ≡ reader.and_then (more_of (spec.resized l.fn.depth) l.cursor.rest.now) (λ more. reader.pure (l.found ++ more))

abbrev pub decreases-loop-alloc : goal.decreases-loop-alloc
decreases-loop-alloc l = length l.cursor.rest.now
