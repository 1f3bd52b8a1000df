use Rattle.std.proofs.Common.{◌+◌, ◌-◌, length, arith}
use Rattle.std.specs.Prelude.{codes}
use Rattle.asp_record.specs.ReadingValues.{list_at, value_at}
use Rattle.asp_record.proofs.ListReading.{cut_off, last_one, no_item, none_left, one_more, simple_is}
use Rattle.asp_record.proofs.array_reading.+reading.Goals as goal

pub items_at-returns-in_default-2 : goal.items_at-returns-in_default-2
items_at-returns-in_default-2 t c =
    no_item (value_at c.args.depth) (codes "]") (length c.args.bytes.now - c.loop-count.count) c.loop-count.rest.now
    c.loop-count.items
    (list_at (value_at c.args.depth) (codes "]") c.args.bytes.now) c.loop-count.invariant
    (rw c.in_default-2.is at c.in_ok-item.ensures)

pub items_at-returns-in-Some-behind : goal.items_at-returns-in-Some-behind
items_at-returns-in-Some-behind t c =
    last_one (value_at c.args.depth) (codes "]") (length c.args.bytes.now - (c.loop-count.count + 1))
    (length c.args.bytes.now - c.loop-count.count) c.loop-count.rest.now c.in-Some-2.after.now
    c.in-Some-behind.end.now
    c.loop-count.items c.push.new.self c.in-Some-2.item (list_at (value_at c.args.depth) (codes "]") c.args.bytes.now)
    c.loop-count.invariant (omega arith) (rw c.in-Some-2.is at c.in_ok-item.ensures)
    c.in-Some-behind.ensures c.in_ok-push.ensures

pub items_at-returns-in_default-behind-2 : goal.items_at-returns-in_default-behind-2
items_at-returns-in_default-behind-2 t c =
    cut_off (value_at c.args.depth) (codes "]") (length c.args.bytes.now - (c.loop-count.count + 1))
    (length c.args.bytes.now - c.loop-count.count) c.loop-count.rest.now c.in-Some-2.after.now c.loop-count.items
    c.in-Some-2.item
    (list_at (value_at c.args.depth) (codes "]") c.args.bytes.now) c.loop-count.invariant (omega arith)
    (rw c.in-Some-2.is at c.in_ok-item.ensures) c.in_default-behind.ensures c.in_default-behind-2.ensures

pub items_at-loop-count-preserved : goal.items_at-loop-count-preserved
items_at-loop-count-preserved t c =
    one_more (value_at c.args.depth) (codes "]") (length c.args.bytes.now - (c.loop-count.count + 1))
    (length c.args.bytes.now - c.loop-count.count) c.loop-count.rest.now c.in-Some-2.after.now
    c.in-Some-behind-2.next.now
    c.loop-count.items c.push.new.self c.in-Some-2.item (list_at (value_at c.args.depth) (codes "]") c.args.bytes.now)
    c.loop-count.invariant (omega arith) (rw c.in-Some-2.is at c.in_ok-item.ensures)
    c.in_default-behind.ensures c.in-Some-behind-2.ensures c.in_ok-push.ensures

pub items_at-returns : goal.items_at-returns
items_at-returns t c =
    none_left (value_at c.args.depth) (codes "]") (length c.args.bytes.now - c.loop-count.count) c.loop-count.rest.now
    c.loop-count.items (list_at (value_at c.args.depth) (codes "]") c.args.bytes.now) c.loop-count.invariant
    (omega arith)

pub value_at-returns : goal.value_at-returns
value_at-returns t c =
    let e = simple_is c.args.depth c.in-Some.letter.now c.args.bytes.now c.in-Some.rest.now c.in-Some.ensures.cases.0
    c.if-letter-eq91.false c.if-letter-eq33.false in
    rw e c.simple_by.ensures
