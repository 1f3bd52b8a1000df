use Rattle.std.proofs.Common.{refl, sym, ◌∙◌, arith}
use Rattle.std.proofs.lemmas.Int.{to_z-of_z}
use Rattle.vb_heap.specs.Entries.{mode_set}
use Rattle.vb_heap.specs.Inside.{store_of}
use Rattle.vb_heap.specs.Store.{numbered}
use Rattle.vb_heap.proofs.Ends.{table_ends}
use Rattle.vb_heap.proofs.TableCounts.{mode_right}
use Rattle.vb_heap.proofs.TableWeights.{weight_changed, mode_weighs}
use Rattle.vb_heap.proofs.heap.Heap.set_table_mode.Goals as goal

pub invariant_of-self : goal.invariant_of-self
invariant_of-self c =
    let fits = c.ranges.mode in
    let set = simp to_z-of_z at c.set_mode.ensures.entries in
    let was = c.self.invariant.weighed in
    let all = weight_changed (mode_set c.args.mode) c.self.inside.objects.entries c.args.dictionary.0 in
    let same = mode_weighs c.args.mode (numbered c.args.dictionary.0 c.self.inside.objects.entries) in
    record {
      new_cells = c.self.invariant.new_cells;
      new_objects =
          record {
            next = c.set_mode.ensures.pooled.0 ∙ c.self.invariant.new_objects.next;
            most = c.set_mode.ensures.pooled.1 ∙ c.self.invariant.new_objects.most;
          };
      new_counts = c.self.invariant.new_counts;
      ends =
          rw set
          (table_ends _ _ (mode_set c.args.mode) c.args.dictionary.0 c.self.inside.objects.entries
          c.self.invariant.ends refl);
      counted =
          rw set
          (mode_right (store_of c.self.inside) _ _ _ c.self.invariant.counted c.args.dictionary c.args.mode refl);
      weighed = rw set (omega arith);
      light = c.self.invariant.light;
      few = c.self.invariant.few;
    }

pub returns : goal.returns
returns c =
    let fits = c.ranges.mode in
    let set = simp to_z-of_z at c.set_mode.ensures.entries in
    rw (sym c.self.view_is) (rw set refl)
