use Rattle.std.proofs.Common.{◌≡◌, None, filter_map, not, take}
use Rattle.slot_pool.specs.Pool.{led_to}
use Rattle.vb_heap.specs.Releases.{oldest}
use Rattle.vb_heap.proofs.heap.Heap.oldest_live.Given as goal

abbrev pub invariant-loop-key : goal.invariant-loop-key
invariant-loop-key l =
    oldest (λ _ object. not object.ending) (filter_map (led_to l.self-inside.objects) (take l.key-index l.key-items)) ≡ None
