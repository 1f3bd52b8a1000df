use Rattle.std.proofs.Common.{sym, subst, ap, ◌∙◌, arith}
use Rattle.vb_heap.specs.Counted.{AreRight}
use Rattle.vb_heap.specs.Inside.{store_of}
use Rattle.vb_heap.specs.PageWeight.{weight_of_page}
use Rattle.vb_heap.proofs.Longer.{refuses_more, accepts_more, counted_more, weighs_more}
use Rattle.vb_heap.proofs.heap.Heap.append.Goals as goal

pub returns-then-weight-gt-MOST_WEIGHT-clause-answer : goal.returns-then-weight-gt-MOST_WEIGHT-clause-answer
returns-then-weight-gt-MOST_WEIGHT-clause-answer c _ =
    rw (sym c.self.view_is)
    (refuses_more c.self.inside c.self.invariant c.args.cell c.in_ok-text_at.field-0.now c.args.more.now c.in_ok-old.old
    c.saturating_add-longer.result c.saturating_add-weight.result c.in_ok-text_at.ensures.answer
    c.in_ok-text_at.ensures.there c.in_ok-old.ensures.answer
    (omega (arith, c.in_ok-old.ensures.within, c.self.invariant.weighed))
    (rw c.saturating_mul.ensures at c.saturating_add-longer.ensures) c.saturating_add-weight.ensures
    c.if-weight-gt-MOST_WEIGHT.true)

pub invariant_of-self-2 : goal.invariant_of-self-2
invariant_of-self-2 c = record {
  new_cells =
      record {
        next = c.in_ok-grow.ensures.pooled.0 ∙ c.self.invariant.new_cells.next;
        most = c.in_ok-grow.ensures.pooled.1 ∙ c.self.invariant.new_cells.most;
      };
  new_objects = c.self.invariant.new_objects;
  new_counts = c.self.invariant.new_counts;
  ends = c.self.invariant.ends;
  counted =
      subst (λ entries. AreRight c.self.inside.counts.entries c.self.inside.top
      (record (store_of c.self.inside) { cells = entries }))
      (sym (c.in_ok-grow.ensures.cells c.in_ok-text_at.field-0.now c.in_ok-text_at.ensures.there))
      (counted_more c.self.inside c.self.invariant c.args.cell c.in_ok-text_at.field-0.now c.args.more.now
      c.in_ok-old.old c.saturating_add-longer.result c.saturating_add-weight.result c.in_ok-text_at.ensures.answer
      c.in_ok-text_at.ensures.there c.in_ok-old.ensures.answer
      (omega (arith, c.in_ok-old.ensures.within, c.self.invariant.weighed))
      (rw c.saturating_mul.ensures at c.saturating_add-longer.ensures) c.saturating_add-weight.ensures);
  weighed =
      weighs_more c.self.inside c.self.invariant c.args.cell c.in_ok-text_at.field-0.now c.args.more.now c.in_ok-old.old
      c.saturating_add-longer.result c.saturating_add-weight.result c.in_ok-text_at.ensures.answer
      c.in_ok-text_at.ensures.there c.in_ok-old.ensures.answer
      (omega (arith, c.in_ok-old.ensures.within, c.self.invariant.weighed))
      (rw c.saturating_mul.ensures at c.saturating_add-longer.ensures) c.saturating_add-weight.ensures
      c.if-weight-gt-MOST_WEIGHT.false
      ∙ ap (λ entries. weight_of_page (record (store_of c.self.inside) { cells = entries }))
      (sym (c.in_ok-grow.ensures.cells c.in_ok-text_at.field-0.now c.in_ok-text_at.ensures.there));
  light = c.if-weight-gt-MOST_WEIGHT.false;
  few = c.self.invariant.few;
}

pub returns-clause-answer : goal.returns-clause-answer
returns-clause-answer c =
    rw (sym c.self.view_is)
    (accepts_more c.self.inside c.self.invariant c.args.cell c.in_ok-text_at.field-0.now c.args.more.now c.in_ok-old.old
    c.saturating_add-longer.result c.saturating_add-weight.result c.in_ok-text_at.ensures.answer
    c.in_ok-text_at.ensures.there c.in_ok-old.ensures.answer
    (omega (arith, c.in_ok-old.ensures.within, c.self.invariant.weighed))
    (rw c.saturating_mul.ensures at c.saturating_add-longer.ensures) c.saturating_add-weight.ensures
    c.if-weight-gt-MOST_WEIGHT.false (omega arith) (omega arith))
