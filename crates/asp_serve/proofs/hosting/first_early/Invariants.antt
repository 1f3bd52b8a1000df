use Rattle.std.proofs.Common.{◌≡◌, length}
use Rattle.asp_serve.specs.Hosts.{first_early}
use Rattle.asp_serve.proofs.hosting.first_early.Given as goal

abbrev pub invariant-loop-made : goal.invariant-loop-made
invariant-loop-made l = first_early l.made ≡ first_early l.initial.made

abbrev pub decreases-loop-made : goal.decreases-loop-made
decreases-loop-made l = length l.made
