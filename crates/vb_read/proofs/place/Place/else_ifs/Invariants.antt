use Rattle.std.proofs.Common.{◌≡◌, ◌++◌, length}
use Rattle.vb_read.specs.Reader as reader
use Rattle.vb_read.specs.ReadStatements as spec
use Rattle.vb_read.specs.Depths.{rules}
use Rattle.vb_read.proofs.place.Place.else_ifs.Given as goal

abbrev pub invariant-loop-found : goal.invariant-loop-found
invariant-loop-found g l = spec.else_ifs (rules l.fn.self.looser) l.fn.self.depth
    (spec.blocks_inside (rules l.fn.self.looser) l.fn.self.depth) l.fn.cursor.rest.now
    ≡ reader.and_then (spec.else_ifs (rules l.fn.self.looser) l.fn.self.depth
    (spec.blocks_inside (rules l.fn.self.looser) l.fn.self.depth) l.cursor.rest.now)
    (λ more. reader.pure (l.found ++ more))

abbrev pub decreases-loop-found : goal.decreases-loop-found
decreases-loop-found g l = length l.cursor.rest.now
