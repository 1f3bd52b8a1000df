use Rattle.std.proofs.Common.{◌≡◌, ◌++◌, length}
use Rattle.vb_read.specs.Reader as reader
use Rattle.vb_read.specs.ReadStatements as spec
use Rattle.vb_read.specs.Depths.{rules}
use Rattle.vb_read.proofs.statement.+block.Given as goal

abbrev pub decreases-block : goal.decreases-block
decreases-block l = l.depth

abbrev pub invariant-loop-place : goal.invariant-loop-place
invariant-loop-place l = (spec.blocks (rules l.fn.looser) l.fn.depth).block l.fn.cursor.rest.now
    ≡ reader.and_then (spec.block (rules l.fn.looser) l.fn.depth (spec.blocks_inside (rules l.fn.looser) l.fn.depth)
    l.cursor.rest.now) (λ more. reader.pure (l.found ++ more))

abbrev pub decreases-loop-place : goal.decreases-loop-place
decreases-loop-place l = length l.cursor.rest.now
