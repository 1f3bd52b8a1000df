use Rattle.std.proofs.Common.{◌≡◌, take}
use Rattle.asp_text.specs.Path as spec
use Rattle.asp_text.specs.Walking.{shown}
use Rattle.asp_text.proofs.segment.way.Given as goal

abbrev pub invariant-loop-name : goal.invariant-loop-name
invariant-loop-name l = l.text ≡ spec.way (shown (take l.name-index l.names))
