use Rattle.std.proofs.Common.{sym, ◌∷◌, [], length-append, arith}
use Rattle.vb_heap.specs.Entries.{dictionary_of}
use Rattle.vb_dict.proofs.Listing.{items_more}
use Rattle.vb_dict.proofs.lists.all_items.Goals as goal

pub loop-at-preserved : goal.loop-at-preserved
loop-at-preserved c =
    let more = items_more (dictionary_of c.args.dictionary c.args.heap.now) c.loop-at.at
    (omega (arith, c.entry_count-count.ensures.count)) in
    let pushed = c.in_ok-push.ensures in
    let one = c.in_ok-item_at.ensures in
    let count = c.loop-at.invariant.count in
    record {
      items = rw (pushed, one, c.loop-at.invariant.items) (sym more);
      count = rw (pushed, length-append c.loop-at.items (c.in_ok-item_at.field-0 ∷ [])) (omega arith);
    }
