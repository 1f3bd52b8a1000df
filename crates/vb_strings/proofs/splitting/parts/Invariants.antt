use Rattle.std.proofs.Common.{◌≡◌, ◌++◌}
use Rattle.vb_strings.specs.Splitting.{parts}
use Rattle.vb_strings.proofs.splitting.parts.Given as goal

abbrev pub invariant-loop-left : goal.invariant-loop-left
invariant-loop-left l =
    l.parts ++ parts l.comparison l.separator l.left l.rest ≡ parts l.comparison l.separator l.cuts l.text

abbrev pub decreases-loop-left : goal.decreases-loop-left
decreases-loop-left l = l.left
