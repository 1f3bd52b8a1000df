use Rattle.std.proofs.Common.{◌≡◌, length}
use Rattle.http_front.specs.OpenTarget.{after_space}
use Rattle.http_front.proofs.open_target.after_space.Given as goal

abbrev pub invariant-loop-rest : goal.invariant-loop-rest
invariant-loop-rest l = after_space l.rest ≡ after_space l.bytes

abbrev pub decreases-loop-rest : goal.decreases-loop-rest
decreases-loop-rest l = length l.rest
