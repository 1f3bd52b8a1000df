use Rattle.std.proofs.Common.{◌+◌, ◌-◌, length, arith}
use Rattle.std.specs.Prelude.{codes}
use Rattle.asp_record.specs.ReadingValues.{more_at, name_at}
use Rattle.asp_record.proofs.ListReading.{cut_off, last_one, no_item, none_left, one_more}
use Rattle.asp_record.proofs.call_reading.more_names_at.Goals as goal

pub returns-in_default : goal.returns-in_default
returns-in_default c =
    no_item name_at (codes "\n") (length c.args.bytes.now - c.loop-count.count) c.loop-count.rest.now c.loop-count.names
    (more_at name_at (codes "\n") (length c.args.bytes.now) c.args.bytes.now) c.loop-count.invariant
    (rw c.in_default.is at c.in_ok-name.ensures)

pub returns-in-Some-behind : goal.returns-in-Some-behind
returns-in-Some-behind c =
    last_one name_at (codes "\n") (length c.args.bytes.now - (c.loop-count.count + 1))
    (length c.args.bytes.now - c.loop-count.count) c.loop-count.rest.now c.in-Some.after.now
    c.in-Some-behind.end.now
    c.loop-count.names c.push.new.self c.in-Some.name (more_at name_at (codes "\n")
    (length c.args.bytes.now) c.args.bytes.now) c.loop-count.invariant (omega arith)
    (rw c.in-Some.is at c.in_ok-name.ensures)
    c.in-Some-behind.ensures c.in_ok-push.ensures

pub returns-in_default-behind-2 : goal.returns-in_default-behind-2
returns-in_default-behind-2 c =
    cut_off name_at (codes "\n") (length c.args.bytes.now - (c.loop-count.count + 1))
    (length c.args.bytes.now - c.loop-count.count) c.loop-count.rest.now c.in-Some.after.now c.loop-count.names
    c.in-Some.name
    (more_at name_at (codes "\n") (length c.args.bytes.now) c.args.bytes.now) c.loop-count.invariant (omega arith)
    (rw c.in-Some.is at c.in_ok-name.ensures) c.in_default-behind.ensures c.in_default-behind-2.ensures

pub loop-count-preserved : goal.loop-count-preserved
loop-count-preserved c =
    one_more name_at (codes "\n") (length c.args.bytes.now - (c.loop-count.count + 1))
    (length c.args.bytes.now - c.loop-count.count) c.loop-count.rest.now c.in-Some.after.now
    c.in-Some-behind-2.next.now
    c.loop-count.names c.push.new.self c.in-Some.name (more_at name_at (codes "\n")
    (length c.args.bytes.now) c.args.bytes.now) c.loop-count.invariant (omega arith)
    (rw c.in-Some.is at c.in_ok-name.ensures)
    c.in_default-behind.ensures c.in-Some-behind-2.ensures c.in_ok-push.ensures

pub returns : goal.returns
returns c =
    none_left name_at (codes "\n") (length c.args.bytes.now - c.loop-count.count) c.loop-count.rest.now
    c.loop-count.names (more_at name_at (codes "\n") (length c.args.bytes.now) c.args.bytes.now)
    c.loop-count.invariant (omega arith)
