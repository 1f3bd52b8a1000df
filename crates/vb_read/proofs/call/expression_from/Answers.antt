use Rattle.std.proofs.Common.{arith, rules}
use Rattle.vb_read.specs.Depths.{opens, inside}
use Rattle.vb_read.proofs.CallTurns.{level_stop}
use Rattle.vb_read.proofs.call.expression_from.Goals as goal

pub returns-in_err-found : goal.returns-in_err-found
returns-in_err-found c =
    let h = level_stop (opens c.args.depth) (inside c.args.depth) c.args.first _ c.loop-level.level 12
    c.loop-level.found
    _ _ c.in_err-found.field-0.0 (omega arith) c.loop-level.invariant c.in_err-found.ensures in
    search (rules, h)
