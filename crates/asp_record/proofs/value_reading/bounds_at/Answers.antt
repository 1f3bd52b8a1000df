use Rattle.std.proofs.Common.{◌+◌, ◌-◌, length, arith, rules, SFits, w32}
use Rattle.std.proofs.lemmas.Int.{to_z-of_z}
use Rattle.std.specs.Prelude.{codes}
use Rattle.asp_record.specs.ReadingValues.{bounds_at, long_at}
use Rattle.asp_record.proofs.ListReading.{cut_off, last_one, no_item, none_left, one_more}
use Rattle.asp_record.proofs.value_reading.bounds_at.Goals as goal

pub returns-in_default-long_at : goal.returns-in_default-long_at
returns-in_default-long_at c =
    no_item long_at (codes "|") (length c.args.bytes.now - c.loop-count.count) c.loop-count.rest.now c.loop-count.bounds
    (bounds_at c.args.bytes.now) c.loop-count.invariant c.in_default-long_at.ensures

pub returns-in-Some-behind : goal.returns-in-Some-behind
returns-in-Some-behind c =
    let bound = c.in-Some-long_at.bound in
    let fits : SFits w32 bound = search rules in
    let pushed = rw (to_z-of_z w32 bound fits) at c.in_ok-push.ensures in
    last_one long_at (codes "|") (length c.args.bytes.now - (c.loop-count.count + 1))
    (length c.args.bytes.now - c.loop-count.count) c.loop-count.rest.now c.in-Some-long_at.after.now
    c.in-Some-behind.end.now
    c.loop-count.bounds c.push.new.self c.in-Some-long_at.bound (bounds_at c.args.bytes.now) c.loop-count.invariant
    (omega arith) c.in-Some-long_at.ensures
    c.in-Some-behind.ensures pushed

pub returns-in_default-behind-2 : goal.returns-in_default-behind-2
returns-in_default-behind-2 c =
    cut_off long_at (codes "|") (length c.args.bytes.now - (c.loop-count.count + 1))
    (length c.args.bytes.now - c.loop-count.count) c.loop-count.rest.now c.in-Some-long_at.after.now
    c.loop-count.bounds c.in-Some-long_at.bound
    (bounds_at c.args.bytes.now) c.loop-count.invariant (omega arith) c.in-Some-long_at.ensures
    c.in_default-behind.ensures c.in_default-behind-2.ensures

pub loop-count-preserved : goal.loop-count-preserved
loop-count-preserved c =
    let bound = c.in-Some-long_at.bound in
    let fits : SFits w32 bound = search rules in
    let pushed = rw (to_z-of_z w32 bound fits) at c.in_ok-push.ensures in
    one_more long_at (codes "|") (length c.args.bytes.now - (c.loop-count.count + 1))
    (length c.args.bytes.now - c.loop-count.count) c.loop-count.rest.now c.in-Some-long_at.after.now
    c.in-Some-behind-2.next.now
    c.loop-count.bounds c.push.new.self c.in-Some-long_at.bound (bounds_at c.args.bytes.now) c.loop-count.invariant
    (omega arith) c.in-Some-long_at.ensures
    c.in_default-behind.ensures c.in-Some-behind-2.ensures pushed

pub returns : goal.returns
returns c =
    none_left long_at (codes "|") (length c.args.bytes.now - c.loop-count.count) c.loop-count.rest.now
    c.loop-count.bounds (bounds_at c.args.bytes.now) c.loop-count.invariant (omega arith)
