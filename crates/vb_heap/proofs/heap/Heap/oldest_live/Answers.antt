use Rattle.std.proofs.Common.{not, sym, ap, arith}
use Rattle.vb_heap.proofs.Oldest.{below_next, nothing_there, not_passed, passed}
use Rattle.vb_heap.proofs.heap.Heap.oldest_live.Goals as goal
use Rattle.vb_heap.proofs.heap.Heap.oldest_live.Goals.{in-Some+else-not-object, in_default}

pub overflow_cast-result : goal.overflow_cast-result
overflow_cast-result c =
    omega (
      arith,
      below_next c.self.inside.objects.entries 0 c.self.inside.objects.next _ c.in-Some.object.now
          c.numbers_rise.ensures (sym c.in-Some.ensures),
      c.self.invariant.new_objects.next,
    )

pub returns-then-not-object : goal.returns-then-not-object
returns-then-not-object c =
    rw (sym c.self.view_is)
    (sym (passed (λ _ object. not object.ending) c.self.inside.objects c.keys-key-items.result.now
    c.loop-key.key-index _ c.loop-key-test.true
    c.loop-key.invariant
    c.in-Some.object.now (sym c.in-Some.ensures) c.keys-key-items.ensures (ap not c.if-not-object.true)))

pub loop-key-preserved : goal.loop-key-preserved
loop-key-preserved c = elim c.match-get.branch [
  | in-Some+else-not-object w ↦
      not_passed (λ _ object. not object.ending) c.self.inside.objects c.keys-key-items.result.now
      c.loop-key.key-index _ c.loop-key-test.true
      c.loop-key.invariant
      w.in-Some.object.now (sym w.in-Some.ensures) (ap not w.if-not-object.false)
  | in_default w ↦
      nothing_there (λ _ object. not object.ending) c.self.inside.objects c.keys-key-items.result.now
      c.loop-key.key-index _ c.loop-key-test.true
      c.loop-key.invariant
      (sym w.in_default.ensures)
]
