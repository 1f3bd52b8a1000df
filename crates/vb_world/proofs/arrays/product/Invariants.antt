use Rattle.std.proofs.Common.{◌≡◌, length}
use Rattle.vb_world.proofs.Products.{product_from}
use Rattle.vb_world.proofs.arrays.product.Given as goal

abbrev pub invariant-loop-bounds : goal.invariant-loop-bounds
invariant-loop-bounds l = product_from 1 l.fn.bounds ≡ product_from l.product l.bounds

abbrev pub decreases-loop-bounds : goal.decreases-loop-bounds
decreases-loop-bounds l = length l.bounds
