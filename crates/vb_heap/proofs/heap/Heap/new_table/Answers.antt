use Rattle.std.proofs.Common.{◌∙◌, ap, length, sym, arith, refl}
use Rattle.vb_heap.specs.declared.object.Content.TheVariants.{Entries}
use Rattle.vb_heap.specs.Dictionary.{no_entries}
use Rattle.vb_heap.specs.Entries.{with_new_table}
use Rattle.vb_heap.specs.Inside.{store_of}
use Rattle.vb_heap.specs.Objects.{live}
use Rattle.vb_heap.specs.Room.{HasRoom}
use Rattle.vb_heap.proofs.CountsAfter.{new_table_counts}
use Rattle.vb_heap.proofs.Ends.{made_ends}
use Rattle.vb_heap.proofs.Keeping.{few_objects}
use Rattle.vb_heap.proofs.Making.{object_more}
use Rattle.vb_heap.proofs.Moves.{new_table_moves}
use Rattle.vb_heap.proofs.Tallying.{made_right}
use Rattle.vb_heap.proofs.Told.{as_many}
use Rattle.vb_heap.proofs.heap.Heap.new_table.Goals as goal

pub reserve_count-requires : goal.reserve_count-requires
reserve_count-requires c =
    let room : HasRoom 0 (store_of c.self.inside) =
    rw c.self.view_is (c.has_room.ensures.room c.if-not-has_room.false) in
    omega (
      arith,
      few_objects c.self.inside.objects.entries,
      as_many c.self.inside.counts.entries c.self.inside.top (store_of c.self.inside) c.self.invariant.counted,
      room.light,
      c.self.invariant.new_counts.most,
    )

pub add_count-requires-clause-few : goal.add_count-requires-clause-few
add_count-requires-clause-few c =
    let room : HasRoom 0 (store_of c.self.inside) =
    rw c.self.view_is (c.has_room.ensures.room c.if-not-has_room.false) in
    let still = c.in_ok-reserve_count.ensures in
    omega (
      arith,
      few_objects c.self.inside.objects.entries,
      as_many c.self.inside.counts.entries c.self.inside.top (store_of c.self.inside) c.self.invariant.counted,
      ap length still.counts,
      still.pooled.1,
      room.light,
      c.self.invariant.new_counts.most,
    )

pub add_object-requires-clause-few : goal.add_object-requires-clause-few
add_object-requires-clause-few c =
    let room : HasRoom 0 (store_of c.self.inside) =
    rw c.self.view_is (c.has_room.ensures.room c.if-not-has_room.false) in
    omega (arith, few_objects c.self.inside.objects.entries, room.light, c.self.invariant.new_objects.most)

pub invariant_of-self-2 : goal.invariant_of-self-2
invariant_of-self-2 c =
    let room : HasRoom 0 (store_of c.self.inside) =
    rw c.self.view_is (c.has_room.ensures.room c.if-not-has_room.false) in
    let objects = object_more c.self.inside.objects.entries c.self.inside.objects.next (live (Entries no_entries)) in
    let was = c.self.invariant.weighed in
    let still = c.in_ok-reserve_count.ensures in
    let most = room.light in
    record {
      new_cells = c.self.invariant.new_cells;
      new_objects =
          record {
            next = omega (arith, c.in_ok-add_object.ensures.made, c.self.invariant.new_objects.next);
            most = omega (arith, c.in_ok-add_object.ensures.most, c.self.invariant.new_objects.most);
          };
      new_counts =
          record {
            next = omega (arith, c.add_count.ensures.made, still.pooled.0, c.self.invariant.new_counts.next);
            most = omega (arith, c.add_count.ensures.most, still.pooled.1, c.self.invariant.new_counts.most);
          };
      ends =
          rw c.in_ok-add_object.ensures.objects
          (c.add_count.ensures.ends
          ∙ made_ends _ c.self.inside.objects.entries _ _ _ (still.ends ∙ c.self.invariant.ends)
          (still.pooled.0 ∙ (c.self.invariant.new_counts.next ∙ sym c.self.invariant.new_objects.next)) refl);
      counted =
          rw (c.in_ok-add_object.ensures.objects, c.new.ensures, c.self.invariant.new_objects.next)
          (made_right (store_of c.self.inside) (with_new_table (store_of c.self.inside)) _ _ _ c.self.invariant.counted _ c.first_count-count.result
          (new_table_moves (store_of c.self.inside)) (new_table_counts (store_of c.self.inside))
          (rw still.counts at c.add_count.ensures.counts)
          (still.pooled.0 ∙ c.self.invariant.new_counts.next) (rw (sym c.self.view_is) at c.first_count-count.ensures));
      weighed = rw (c.in_ok-add_object.ensures.objects, c.new.ensures) (omega arith);
      light = omega arith;
      few = c.self.invariant.few;
    }
