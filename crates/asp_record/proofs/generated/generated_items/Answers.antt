use Rattle.std.proofs.Common.{arith, sym}
use Rattle.std.proofs.lemmas.List.FromFn.{map-range_with_len_more}
use Rattle.asp_record.specs.Generated.{generated_item}
use Rattle.asp_record.proofs.generated.generated_items.Goals as goal

pub loop-i-preserved : goal.loop-i-preserved
loop-i-preserved c =
    let more = map-range_with_len_more generated_item 0 c.loop-i.i c.loop-i.i (omega arith) in
    rw (c.in_ok-push.ensures, c.loop-i.invariant, c.in_ok-generated_item.ensures) (sym more)
