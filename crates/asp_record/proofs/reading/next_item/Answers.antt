use Rattle.asp_record.specs.Reading.{item_of}
use Rattle.asp_record.proofs.NextItem.{has_none, is_found, is_not_next}
use Rattle.asp_record.proofs.reading.next_item.Goals as goal

pub returns-in_default-clause-found : goal.returns-in_default-clause-found
returns-in_default-clause-found c = has_none c.args.bytes.now c.args.now c.in_default.ensures

pub returns-then-branch-clause-found : goal.returns-then-branch-clause-found
returns-then-branch-clause-found c =
    is_found c.args.bytes.now c.args.now (item_of c.in-Some.line) c.in-Some.rest.now c.in-Some.ensures
    (c.in_ok-is_next.ensures.tells.0 c.if-branch.true)

pub returns-else-branch-clause-found : goal.returns-else-branch-clause-found
returns-else-branch-clause-found c =
    is_not_next c.args.bytes.now c.args.now (item_of c.in-Some.line) c.in-Some.rest.now c.in-Some.ensures
    (rw c.if-branch.false at c.in_ok-is_next.ensures.tells)
