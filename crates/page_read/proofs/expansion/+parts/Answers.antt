use Rattle.std.proofs.Common.{◌∙◌, arith}
use Rattle.page_read.proofs.Expanding.{all_so_far, file_shows, file_stopped, more_so_far, no_items, stops_so_far}
use Rattle.page_read.specs.Reading.{GivesNext}
use Rattle.page_read.proofs.expansion.+parts.Goals as goal

pub file_parts-returns-in-Err : goal.file_parts-returns-in-Err
file_parts-returns-in-Err t c =
    file_stopped c.args.left c.args.files.now c.args.around.now c.args.file.now c.in-Err.stop c.in-Err.ensures

pub file_parts-returns : goal.file_parts-returns
file_parts-returns t c =
    file_shows c.args.left c.args.files.now c.args.around.now c.as_slice.result.now c.args.file.now c.in-Ok.pieces
    c.pieces_parts.result c.in-Ok.ensures (c.as_slice.ensures ∙ c.in_ok-chain.ensures) c.pieces_parts.ensures

pub pieces_parts-loop-piece-preserved : goal.pieces_parts-loop-piece-preserved
pieces_parts-loop-piece-preserved t c = record {
  next = tt;
  finite = tt;
  so_far = more_so_far (GivesNext c.args.nest.now) c.args.pieces c.loop-piece.piece-iterator.rest.items
      c.next.new.self.rest.items c.in-Some.piece c.loop-piece.parts c.in-Ok.more c.append.new.self
      c.in-Some.ensures.steps.0 c.in_ok-append-in-Ok.ensures c.loop-piece.invariant.so_far c.in-Ok.ensures;
}

pub pieces_parts-returns-in-Err : goal.pieces_parts-returns-in-Err
pieces_parts-returns-in-Err t c =
    stops_so_far (GivesNext c.args.nest.now) c.args.pieces c.loop-piece.piece-iterator.rest.items
    c.next.new.self.rest.items c.in-Some.piece c.loop-piece.parts c.in-Err.stop c.in-Some.ensures.steps.0
    c.loop-piece.invariant.so_far c.in-Err.ensures

pub pieces_parts-returns : goal.pieces_parts-returns
pieces_parts-returns t c =
    all_so_far (GivesNext c.args.nest.now) c.args.pieces c.loop-piece.piece-iterator.rest.items c.loop-piece.parts
    (no_items c.loop-piece.piece-iterator.rest.items
    (omega (arith, c.loop-piece.piece-iterator.rest.ok.0, c.in-None.ensures.steps.0))) c.loop-piece.invariant.so_far
