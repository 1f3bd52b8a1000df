use Rattle.std.proofs.Common.{◌≡◌, ◌+◌, length}
use Rattle.page_build.specs.Declaring.{stray_from, stray_in}
use Rattle.page_build.proofs.declaring.stray_in.Given as goal

abbrev pub invariant-loop-rest : goal.invariant-loop-rest
invariant-loop-rest l = record {
  same : stray_from l.at l.standing l.rest ≡ stray_in l.fn.tokens;
  so_far : l.at + length l.rest ≡ length l.fn.tokens;
}

abbrev pub decreases-loop-rest : goal.decreases-loop-rest
decreases-loop-rest l = length l.rest
