use Rattle.std.proofs.Common.{arith, true, false}
use Rattle.std.proofs.lemmas.List.{length-drop}
use Rattle.page_read.proofs.Marks.{begins_short, place_here, place_more, place_nowhere, tested}
use Rattle.page_read.proofs.mark.place_of.Goals as goal

pub returns-then-begins-clause-value : goal.returns-then-begins-clause-value
returns-then-begins-clause-value c =
    place_here c.args.mark.now c.args.text.now c.loop-at.at _ c.loop-at-test.true
    (tested c.args.mark.now c.args.text.now c.loop-at.at c.begins.result true c.begins.ensures c.if-begins.true)
    c.loop-at.invariant

pub returns-then-begins-clause-within : goal.returns-then-begins-clause-within
returns-then-begins-clause-within c =
    let there = tested c.args.mark.now c.args.text.now c.loop-at.at c.begins.result true c.begins.ensures
    c.if-begins.true in
    omega (arith, begins_short c.args.mark.now _ there, length-drop c.loop-at.at c.args.text.now, c.loop-at-test.true)

pub loop-at-preserved : goal.loop-at-preserved
loop-at-preserved c =
    place_more c.args.mark.now c.args.text.now c.loop-at.at _ c.loop-at-test.true
    (tested c.args.mark.now c.args.text.now c.loop-at.at c.begins.result false c.begins.ensures c.if-begins.false)
    c.loop-at.invariant

pub returns-clause-value : goal.returns-clause-value
returns-clause-value c = place_nowhere _ _ _ _ c.loop-at-test.false c.loop-at.invariant
