use Rattle.std.proofs.Common.{◌≡◌, length}
use Rattle.vb_syntax.specs.scope.Members as spec
use Rattle.vb_names.proofs.members.fits.Given as goal

abbrev pub invariant-loop-pattern : goal.invariant-loop-pattern
invariant-loop-pattern l = spec.fits l.stands l.is_group l.pattern l.steps
    ≡ spec.fits l.stands l.is_group l.initial.pattern l.initial.steps

abbrev pub decreases-loop-pattern : goal.decreases-loop-pattern
decreases-loop-pattern l = length l.pattern
