use Rattle.std.proofs.Common.{◌≡◌, Ok}
use Rattle.vb_read.specs.ReadCalls as spec
use Rattle.vb_read.specs.Depths.{opens, inside}
use Rattle.vb_read.proofs.call.expression_from.Given as goal

abbrev pub invariant-loop-level : goal.invariant-loop-level
invariant-loop-level l = spec.operators_from (opens l.fn.depth) (inside l.fn.depth) l.level l.fn.first
    l.fn.cursor.rest.now ≡ Ok (l.found, l.cursor.rest.now)
