use Rattle.std.proofs.Common.{◌≡◌, ◌++◌, length}
use Rattle.vb_read.specs.Reader as reader
use Rattle.vb_read.specs.ReadStatements as spec
use Rattle.vb_read.specs.Depths.{rules}
use Rattle.vb_read.proofs.Cases.{cases_value}
use Rattle.vb_read.proofs.place.Place.cases.Given as goal

abbrev pub invariant-loop-cursor : goal.invariant-loop-cursor
invariant-loop-cursor g l = spec.cases (rules l.fn.self.looser) l.fn.self.depth
    (spec.blocks_inside (rules l.fn.self.looser) l.fn.self.depth) l.fn.cursor.rest.now
    ≡ reader.and_then (spec.cases (rules l.fn.self.looser) l.fn.self.depth
    (spec.blocks_inside (rules l.fn.self.looser) l.fn.self.depth) l.cursor.rest.now)
    (λ more. reader.pure (cases_value (l.found ++ more.0) more.1))

abbrev pub decreases-loop-cursor : goal.decreases-loop-cursor
decreases-loop-cursor g l = length l.cursor.rest.now
