use Rattle.std.proofs.Common.{◌-◌, ◌^◌, min, ap, arith}
use Rattle.vb_heap.proofs.ValueReferences.{all_counted, all_weighed}
use Rattle.vb_heap.proofs.references.+count_in.Goals as goal

pub returns-after-loop-item-clause-count : goal.returns-after-loop-item-clause-count
returns-after-loop-item-clause-count t c =
    rw c.loop-item.invariant.count
    (ap (λ n. min n (2 ^ 32 - 1))
    (all_counted c.args.object c.args.value.now c.in-Arr.array c.as_slice-item-items.result.now c.loop-item.item-index
    c.in-Arr.is c.as_slice-item-items.ensures c.loop-item-test.false))

pub returns-after-loop-item-clause-most : goal.returns-after-loop-item-clause-most
returns-after-loop-item-clause-most t c =
    let most = all_weighed c.args.value.now c.in-Arr.array c.as_slice-item-items.result.now c.loop-item.item-index
    c.in-Arr.is c.as_slice-item-items.ensures c.loop-item-test.false in
    let sum = c.loop-item.invariant.most in
    omega arith
