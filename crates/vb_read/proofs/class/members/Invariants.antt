use Rattle.std.proofs.Common.{◌≡◌, ◌++◌, length}
use Rattle.vb_read.specs.Reader as reader
use Rattle.vb_read.specs.ReadUnits as spec
use Rattle.vb_read.specs.Depths.{rules}
use Rattle.vb_read.proofs.class.members.Given as goal

abbrev pub invariant-loop-alloc : goal.invariant-loop-alloc
invariant-loop-alloc l = spec.members (rules l.fn.looser) l.fn.depth l.fn.cursor.rest.now
    ≡ reader.and_then (spec.members (rules l.fn.looser) l.fn.depth l.cursor.rest.now)
    (λ more. reader.pure (l.found ++ more))

abbrev pub decreases-loop-alloc : goal.decreases-loop-alloc
decreases-loop-alloc l = length l.cursor.rest.now
