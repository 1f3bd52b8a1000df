use Rattle.std.proofs.Common.{◌∙◌, ◌∷◌, [], ap, map, sym, refl}
use Rattle.std.proofs.lemmas.List.{map-append}
use Rattle.std.specs.List.{flat_map}
use Rattle.std.specs.Map.Iter.{deref}
use Rattle.vb_value.specs.declared.session.Pair.{Pair}
use Rattle.vb_heap.specs.Counted.{counts_less}
use Rattle.vb_heap.specs.References.{references}
use Rattle.vb_heap.proofs.Counting.{less_none}
use Rattle.vb_heap.proofs.CountSteps.{less_last}
use Rattle.vb_heap.proofs.table.Table.lower.Goals as goal

pub loop-pair-init : goal.loop-pair-init
loop-pair-init c = record { counts = sym (less_none c.args.counts.now.entries); ends = refl; pooled = (refl, refl) }

pub loop-pair-preserved : goal.loop-pair-preserved
loop-pair-preserved c =
    let was = c.loop-pair.invariant in
    let one = c.lower_in.ensures in
    record {
      counts =
          rw (one.counts, was.counts, map-append deref c.loop-pair.yielded (c.in-Some.pair ∷ []))
          (sym (less_last (λ (pair : Pair). references pair.item) (map deref c.loop-pair.yielded) (deref c.in-Some.pair)
          c.args.counts.now.entries));
      ends = one.ends ∙ was.ends;
      pooled = (one.pooled.0 ∙ was.pooled.0, one.pooled.1 ∙ was.pooled.1);
    }
