use Rattle.std.proofs.Common.{length}
use Rattle.asp_objects.proofs.choosing.+product.Given as goal

abbrev pub decreases-product : goal.decreases-product
decreases-product l = length l.bounds.now
