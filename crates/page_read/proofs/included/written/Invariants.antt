use Rattle.std.proofs.Common.{◌≡◌, take}
use Rattle.page_read.specs.Including as spec
use Rattle.page_read.proofs.included.written.Given as goal

abbrev pub invariant-loop-character : goal.invariant-loop-character
invariant-loop-character l = l.text ≡ spec.written (take l.character-index l.path)
