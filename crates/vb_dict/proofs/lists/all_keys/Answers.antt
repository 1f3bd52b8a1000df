use Rattle.std.proofs.Common.{sym, ◌∷◌, [], length-append, arith}
use Rattle.vb_heap.specs.Entries.{dictionary_of}
use Rattle.vb_dict.proofs.Listing.{keys_more}
use Rattle.vb_dict.proofs.lists.all_keys.Goals as goal

pub loop-at-preserved : goal.loop-at-preserved
loop-at-preserved c =
    let more = keys_more (dictionary_of c.args.dictionary c.args.heap.now) c.loop-at.at
    (omega (arith, c.entry_count-count.ensures.count)) in
    let pushed = c.in_ok-push.ensures in
    let one = c.in_ok-key_at.ensures in
    let count = c.loop-at.invariant.count in
    record {
      keys = rw (pushed, one, c.loop-at.invariant.keys) (sym more);
      count = rw (pushed, length-append c.loop-at.keys (c.in_ok-key_at.field-0 ∷ [])) (omega arith);
    }
