use Rattle.std.proofs.Common.{◌≡◌, ◌+◌, ◌≤◌, length}
use Rattle.page_read.specs.Fragments.{AreCut, line_of}
use Rattle.page_read.proofs.piece.pieces.Given as goal

abbrev pub invariant-loop-rest : goal.invariant-loop-rest
invariant-loop-rest l = record {
  within : length l.rest ≤ length l.page;
  low : l.line + length l.rest ≤ length l.page + 1;
  at_line : l.line ≡ line_of l.page l.rest;
  cut : AreCut l.page l.page l.pieces l.rest;
}

abbrev pub decreases-loop-rest : goal.decreases-loop-rest
decreases-loop-rest l = length l.rest
