use Rattle.std.proofs.Common.{◌≡◌, ◌++◌, length}
use Rattle.vb_read.specs.Reader as reader
use Rattle.vb_read.specs.ReadUnits as spec
use Rattle.vb_read.proofs.unit.blank_items.Given as goal

abbrev pub invariant-loop-found : goal.invariant-loop-found
invariant-loop-found l = spec.blank_items l.fn.cursor.rest.now
    ≡ reader.and_then (spec.blank_items l.cursor.rest.now) (λ more. reader.pure (l.found ++ more))

abbrev pub decreases-loop-found : goal.decreases-loop-found
decreases-loop-found l = length l.cursor.rest.now
