use Rattle.std.proofs.Common.{◌≡◌, length}
use Rattle.asp_text.specs.Path as spec
use Rattle.asp_text.proofs.path.has_whole_escapes.Given as goal

abbrev pub invariant-loop-rest : goal.invariant-loop-rest
invariant-loop-rest l = spec.has_whole_escapes l.bytes ≡ spec.has_whole_escapes l.rest

abbrev pub decreases-loop-rest : goal.decreases-loop-rest
decreases-loop-rest l = length l.rest
