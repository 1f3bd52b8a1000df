use Rattle.std.proofs.Common.{◌∙◌, ap, length, sym, arith, refl}
use Rattle.vb_heap.specs.declared.object.Content.TheVariants.{Fields}
use Rattle.vb_heap.specs.Inside.{store_of}
use Rattle.vb_heap.specs.Objects.{live, with_new_object}
use Rattle.vb_heap.specs.Room.{HasRoom}
use Rattle.vb_heap.proofs.CountsAfter.{new_object_counts}
use Rattle.vb_heap.proofs.Ends.{made_ends}
use Rattle.vb_heap.proofs.Keeping.{few_cells, few_objects}
use Rattle.vb_heap.proofs.Making.{cells_more, object_more}
use Rattle.vb_heap.proofs.Moves.{new_object_moves}
use Rattle.vb_heap.proofs.Tallying.{made_right}
use Rattle.vb_heap.proofs.Told.{as_many}
use Rattle.vb_heap.proofs.heap.Heap.new_object.Goals as goal

pub reserve_cells-requires : goal.reserve_cells-requires
reserve_cells-requires c =
    let room : HasRoom c.args.fields (store_of c.self.inside) =
    rw c.self.view_is (c.has_room.ensures.room c.if-not-has_room.false) in
    omega (arith, few_cells c.self.inside.cells.entries, room.light, c.self.invariant.new_cells.most)

pub reserve_count-requires : goal.reserve_count-requires
reserve_count-requires c =
    let room : HasRoom c.args.fields (store_of c.self.inside) =
    rw c.self.view_is (c.has_room.ensures.room c.if-not-has_room.false) in
    omega (
      arith,
      few_objects c.self.inside.objects.entries,
      as_many c.self.inside.counts.entries c.self.inside.top (store_of c.self.inside) c.self.invariant.counted,
      room.light,
      c.self.invariant.new_counts.most,
    )

pub add_count-requires-clause-few : goal.add_count-requires-clause-few
add_count-requires-clause-few c =
    let room : HasRoom c.args.fields (store_of c.self.inside) =
    rw c.self.view_is (c.has_room.ensures.room c.if-not-has_room.false) in
    let still = c.in_ok-reserve_count.ensures in
    omega (
      arith,
      few_objects c.self.inside.objects.entries,
      as_many c.self.inside.counts.entries c.self.inside.top (store_of c.self.inside) c.self.invariant.counted,
      ap length still.counts,
      still.pooled.1,
      room.light,
      c.self.invariant.new_counts.most,
    )

pub add_object-requires-clause-few : goal.add_object-requires-clause-few
add_object-requires-clause-few c =
    let room : HasRoom c.args.fields (store_of c.self.inside) =
    rw c.self.view_is (c.has_room.ensures.room c.if-not-has_room.false) in
    omega (arith, few_objects c.self.inside.objects.entries, room.light, c.self.invariant.new_objects.most)

pub add_cells-requires-clause-few : goal.add_cells-requires-clause-few
add_cells-requires-clause-few c =
    let room : HasRoom c.args.fields (store_of c.self.inside) =
    rw c.self.view_is (c.has_room.ensures.room c.if-not-has_room.false) in
    let still = c.in_ok-reserve_cells.ensures in
    omega (
      arith,
      few_cells c.self.inside.cells.entries,
      ap length still.cells,
      still.pooled.1,
      room.light,
      c.self.invariant.new_cells.most,
    )

pub add_cells-requires-clause-numbers : goal.add_cells-requires-clause-numbers
add_cells-requires-clause-numbers c =
    let room : HasRoom c.args.fields (store_of c.self.inside) =
    rw c.self.view_is (c.has_room.ensures.room c.if-not-has_room.false) in
    omega (arith, room.cells, c.in_ok-reserve_cells.ensures.pooled.0, c.self.invariant.new_cells.next)

pub invariant_of-self-2 : goal.invariant_of-self-2
invariant_of-self-2 c =
    let room : HasRoom c.args.fields (store_of c.self.inside) =
    rw c.self.view_is (c.has_room.ensures.room c.if-not-has_room.false) in
    let still = c.in_ok-reserve_cells.ensures in
    let cells = cells_more c.self.inside.cells.entries c.self.inside.cells.next c.args.fields in
    let objects = object_more c.self.inside.objects.entries c.self.inside.objects.next
    (live (Fields c.args.class c.in_ok-cells.cells)) in
    let more = rw (still.cells, still.pooled.0) at c.add_cells.ensures.cells in
    let was = c.self.invariant.weighed in
    let tallied = c.in_ok-reserve_count.ensures in
    let most = room.light in
    record {
      new_cells =
          record {
            next = omega (arith, c.add_cells.ensures.made, still.pooled.0, c.self.invariant.new_cells.next);
            most = omega (arith, c.add_cells.ensures.most, still.pooled.1, c.self.invariant.new_cells.most);
          };
      new_objects =
          record {
            next = omega (arith, c.in_ok-add_object.ensures.made, c.self.invariant.new_objects.next);
            most = omega (arith, c.in_ok-add_object.ensures.most, c.self.invariant.new_objects.most);
          };
      new_counts =
          record {
            next = omega (arith, c.add_count.ensures.made, tallied.pooled.0, c.self.invariant.new_counts.next);
            most = omega (arith, c.add_count.ensures.most, tallied.pooled.1, c.self.invariant.new_counts.most);
          };
      ends =
          rw c.in_ok-add_object.ensures.objects
          (c.add_count.ensures.ends
          ∙ made_ends _ c.self.inside.objects.entries _ _ _ (tallied.ends ∙ c.self.invariant.ends)
          (tallied.pooled.0 ∙ (c.self.invariant.new_counts.next ∙ sym c.self.invariant.new_objects.next)) refl);
      counted =
          rw (
            more,
            c.in_ok-add_object.ensures.objects,
            c.self.invariant.new_objects.next,
            c.self.invariant.new_cells.next,
            c.in_ok-cells.ensures,
          )
          (made_right (store_of c.self.inside) (with_new_object c.args.class c.args.fields (store_of c.self.inside)) _ _ _
          c.self.invariant.counted _ c.first_count-count.result
          (new_object_moves c.args.class c.args.fields (store_of c.self.inside))
          (new_object_counts c.args.class c.args.fields (store_of c.self.inside))
          (rw tallied.counts at c.add_count.ensures.counts) (tallied.pooled.0 ∙ c.self.invariant.new_counts.next)
          (rw (sym c.self.view_is) at c.first_count-count.ensures));
      weighed = rw (more, c.in_ok-add_object.ensures.objects) (omega (arith, cells, objects, was));
      light = omega arith;
      few = c.self.invariant.few;
    }
