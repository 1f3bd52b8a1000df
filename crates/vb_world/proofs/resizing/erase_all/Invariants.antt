use Rattle.std.proofs.Common.{◌≡◌, length}
use Rattle.vb_meaning.specs.Statements.{erase_all}
use Rattle.vb_meaning.specs.Shown.{shown}
use Rattle.vb_world.proofs.resizing.erase_all.Given as goal

abbrev pub invariant-loop-names : goal.invariant-loop-names
invariant-loop-names l = erase_all l.fn.names (shown l.fn.world) ≡ erase_all l.names (shown l.world)

abbrev pub decreases-loop-names : goal.decreases-loop-names
decreases-loop-names l = length l.names
