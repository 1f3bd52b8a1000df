use Rattle.std.proofs.Common.{◌∙◌, ◌++◌, sym, take, arith, List}
use Rattle.asp_session.specs.declared.key.Waiter.{Waiter}
use Rattle.asp_session.proofs.Queueing.{taken_here, taken_none}
use Rattle.asp_session.proofs.waiting.take_first.Goals as goal

pub returns-then-index-key-clause-items : goal.returns-then-index-key-clause-items
returns-then-index-key-clause-items c =
    let end = c.loop-at.invariant.end in
    let within = c.loop-at-test.true in
    let here = taken_here c.args.key c.loop-at.at c.loop-at.waiting.items c.index.result.now (omega arith) c.index.ensures
    c.if-index-key.true in
    c.remove.ensures.by_index.2 ∙ (λ i. take c.loop-at.at c.loop-at.waiting.items ++ sym here i)
    ∙ sym c.loop-at.invariant.rest

pub returns-clause-items : goal.returns-clause-items
returns-clause-items c =
    let end = c.loop-at.invariant.end in
    let behind = c.loop-at-test.false in
    taken_none c.args.key c.loop-at.at c.loop-at.waiting.items (omega arith) ∙ sym c.loop-at.invariant.rest
