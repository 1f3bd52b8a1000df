use Rattle.std.proofs.Common.{◌≡◌, length}
use Rattle.std.specs.Prelude.{Bool}
use Rattle.asp_text.specs.Path as spec
use Rattle.asp_text.specs.Walking.{shown}
use Rattle.asp_text.proofs.segment.walk.Given as goal

abbrev pub invariant-loop-folder : goal.invariant-loop-folder
invariant-loop-folder l =
    (folder : Bool) × (spec.walk (spec.segments l.path) spec.root
    ≡ spec.walk (spec.segments l.rest) (record { names = shown l.names; folder = folder }))

abbrev pub decreases-loop-folder : goal.decreases-loop-folder
decreases-loop-folder l = length l.rest
