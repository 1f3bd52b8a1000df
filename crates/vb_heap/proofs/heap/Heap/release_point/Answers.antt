use Rattle.std.proofs.Common.{Some, None, ap, refl, sym, ◌∙◌, arith}
use Rattle.std.specs.Option.{option_map}
use Rattle.vb_heap.specs.Inside.{store_of}
use Rattle.vb_heap.specs.Releases.{object_of, with_ending}
use Rattle.vb_heap.proofs.CountsAfter.{ending_counts}
use Rattle.vb_heap.proofs.Ends.{named_ends, oldest_waits}
use Rattle.vb_heap.proofs.ItemMoves.{ending_moves}
use Rattle.vb_heap.proofs.ObjectWeights.{ending_weighs}
use Rattle.vb_heap.proofs.Tallying.{still_right}
use Rattle.vb_heap.proofs.heap.Heap.release_point.Goals as goal

pub invariant_of-self : goal.invariant_of-self
invariant_of-self c =
    let same_weight = ending_weighs c.self.inside.objects.entries c.in-Some.number in
    let was = c.self.invariant.weighed in
    record {
      new_cells = c.self.invariant.new_cells;
      new_objects =
          record {
            next = c.set_ending.ensures.pooled.0 ∙ c.self.invariant.new_objects.next;
            most = c.set_ending.ensures.pooled.1 ∙ c.self.invariant.new_objects.most;
          };
      new_counts =
          record {
            next = c.in-Some.ensures.pooled.0 ∙ c.self.invariant.new_counts.next;
            most = c.in-Some.ensures.pooled.1 ∙ c.self.invariant.new_counts.most;
          };
      ends =
          rw c.set_ending.ensures.objects
          (named_ends _ _ c.in-Some.number c.self.inside.objects.entries c.self.invariant.ends c.in-Some.ensures.ends);
      counted =
          rw (c.set_ending.ensures.objects, c.in-Some.ensures.counts)
          (still_right (store_of c.self.inside) (with_ending (Some c.in-Some.number) (store_of c.self.inside)) _ _ _
          c.self.invariant.counted (ending_moves (Some c.in-Some.number) (store_of c.self.inside))
          (ending_counts (Some c.in-Some.number) (store_of c.self.inside)) refl);
      weighed = rw c.set_ending.ensures.objects (omega arith);
      light = c.self.invariant.light;
      few = c.self.invariant.few;
    }

pub returns-in-Some-clause-object : goal.returns-in-Some-clause-object
returns-in-Some-clause-object c =
    let loose = c.in-Some.ensures.oldest ∙ oldest_waits (store_of c.self.inside) _ _ c.self.invariant.counted.each
    c.self.invariant.ends in
    rw (sym c.self.view_is) (ap (option_map object_of) loose)

pub returns-in-Some-clause-data : goal.returns-in-Some-clause-data
returns-in-Some-clause-data c =
    let loose = c.in-Some.ensures.oldest ∙ oldest_waits (store_of c.self.inside) _ _ c.self.invariant.counted.each
    c.self.invariant.ends in
    rw (sym c.self.view_is, c.set_ending.ensures.objects)
    (ap (λ named. with_ending named (store_of c.self.inside)) loose)

pub returns-in-None-clause-object : goal.returns-in-None-clause-object
returns-in-None-clause-object c =
    let loose = c.in-None.ensures.oldest ∙ oldest_waits (store_of c.self.inside) _ _ c.self.invariant.counted.each
    c.self.invariant.ends in
    rw (sym c.self.view_is) (ap (option_map object_of) loose)

pub returns-in-None-clause-data : goal.returns-in-None-clause-data
returns-in-None-clause-data c =
    let loose = c.in-None.ensures.oldest ∙ oldest_waits (store_of c.self.inside) _ _ c.self.invariant.counted.each
    c.self.invariant.ends in
    rw (sym c.self.view_is) (ap (λ named. with_ending named (store_of c.self.inside)) loose)
