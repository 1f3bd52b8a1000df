use Rattle.std.proofs.Common.{arith, subst, sym, List}
use Rattle.page_read.specs.declared.fragment.Fragment.{Fragment}
use Rattle.page_read.specs.Fragments.{AreCut}
use Rattle.page_read.proofs.Pieces.{cut_more}
use Rattle.page_read.proofs.piece.pieces.Goals as goal

pub loop-rest-preserved : goal.loop-rest-preserved
loop-rest-preserved c =
    let page = c.args.page.now in
    let now = c.loop-rest in
    let found = c.in-Ok.found in
    record {
      within = omega (arith, now.invariant.within, c.in-Ok.ensures.shorter);
      low = omega (
        arith,
        now.invariant.within,
        now.invariant.low,
        c.in-Ok.ensures.shorter,
        c.line_behind-line.ensures.below,
      );
      at_line = c.line_behind-line.ensures.line;
      cut = subst (λ (pieces : List Fragment). AreCut page page pieces found.1.now) (sym c.in_ok-push.ensures)
          (cut_more page page now.rest.now found.1.now now.pieces found.0 now.invariant.cut c.in-Ok.ensures.value);
    }
