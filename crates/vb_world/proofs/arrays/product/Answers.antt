use Rattle.std.proofs.Common.{sym, ◌∙◌}
use Rattle.vb_world.proofs.Products.{product_saturates, no_dimension}
use Rattle.vb_world.proofs.arrays.product.Goals as goal

pub returns : goal.returns
returns c =
    sym (no_dimension c.loop-bounds.product c.loop-bounds.bounds.now c.in_default.len_below)
    ∙ (sym c.loop-bounds.invariant ∙ product_saturates c.args.bounds.now)
