use Rattle.std.proofs.Common.{sym, arith}
use Rattle.vb_heap.specs.PageWeight.{object_weight}
use Rattle.vb_heap.specs.References.{object_references}
use Rattle.vb_heap.proofs.Walking.{led_count, led_weight, not_led}
use Rattle.vb_heap.proofs.references.count_in_objects.Goals as goal
use Rattle.vb_heap.proofs.references.count_in_objects.Goals.{in-Some, in_default}

pub loop-key-preserved : goal.loop-key-preserved
loop-key-preserved c = elim c.match-get.branch [
  | in-Some w ↦
      let was = c.loop-key.invariant in
      let count = led_count c.args.objects.now c.keys-key-items.result.now c.loop-key.key-index _ c.loop-key-test.true
      object_references c.args.number _ (sym w.in-Some.ensures) in
      let weight = led_weight c.args.objects.now c.keys-key-items.result.now c.loop-key.key-index _
      c.loop-key-test.true object_weight _
      (sym w.in-Some.ensures) in
      record {
        count = omega (arith, w.count-is, w.saturating_add-count.ensures, w.count_in_object.ensures.count, was.count, count);
        most = omega (arith, w.count-is, w.saturating_add-count.ensures, w.count_in_object.ensures.most, was.most, weight);
      }
  | in_default w ↦
      let was = c.loop-key.invariant in
      let same = not_led c.args.objects.now c.keys-key-items.result.now c.loop-key.key-index _ c.loop-key-test.true
      (sym w.in_default.ensures) in
      record { count = rw (same, w.count-is) was.count; most = rw (same, w.count-is) was.most }
]
