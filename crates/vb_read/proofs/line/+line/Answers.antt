use Rattle.std.proofs.Common.{sym, ap, ◌∙◌}
use Rattle.vb_read.specs.ReadLines as spec
use Rattle.vb_read.specs.Depths.{rules}
use Rattle.vb_read.proofs.Depths.{blocks_at}
use Rattle.vb_read.proofs.Lines.{line_less, line_more}
use Rattle.vb_read.proofs.line.+line.Goals as goal

pub line_of-loop-statements-init : goal.line_of-loop-statements-init
line_of-loop-statements-init t c = rw c.new-statements.ensures (ap (λ (b : spec.Blocks). b.line
    c.args.cursor.now.rest.now) (blocks_at (rules c.args.looser) c.args.depth))

pub line_of-loop-statements-smaller : goal.line_of-loop-statements-smaller
line_of-loop-statements-smaller t c = line_less (rules c.args.looser) c.args.depth _ _ _ _ _ c.in_ok-simple.ensures
    c.in_ok-ended.ensures

pub line_of-loop-statements-preserved : goal.line_of-loop-statements-preserved
line_of-loop-statements-preserved t c = line_more (rules c.args.looser) c.args.depth _ c.loop-statements.statements
    c.loop-statements.cursor.rest.now _ _ _ c.in_ok-simple.field-0 c.in_ok-ended.field-0 c.loop-statements.invariant
    (sym c.sees_keyword.ensures ∙ c.loop-statements-test.true) c.in_ok-simple.ensures c.in_ok-ended.ensures
    c.in_default.is c.in_ok-push.ensures
