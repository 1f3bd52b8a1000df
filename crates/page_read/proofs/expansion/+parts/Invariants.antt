use Rattle.std.proofs.Common.{◌*◌, ◌+◌}
use Rattle.page_read.specs.Reading.{GivesNext}
use Rattle.page_read.proofs.Expanding.{GivesSoFar}
use Rattle.page_read.proofs.expansion.+parts.Given as goal

abbrev pub decreases-file_parts : goal.decreases-file_parts
decreases-file_parts l = 3 * l.left + 2

abbrev pub decreases-pieces_parts : goal.decreases-pieces_parts
decreases-pieces_parts l = 3 * l.nest.now.left + 1

abbrev pub decreases-piece_parts : goal.decreases-piece_parts
decreases-piece_parts l = 3 * l.nest.now.left

abbrev pub invariant-pieces_parts-loop-piece : goal.invariant-pieces_parts-loop-piece
invariant-pieces_parts-loop-piece l = record {
  next : (goal.iterator-pieces_parts-loop-piece).can_next l.piece-iterator;
  finite : (goal.iterator-pieces_parts-loop-piece).is_finite l.piece-iterator;
  so_far : GivesSoFar (GivesNext l.nest) l.fn.pieces l.piece-iterator.rest.items l.parts;
}
