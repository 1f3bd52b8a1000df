use Rattle.std.proofs.Common.{refl, sym, subst, ◌∙◌}
use Rattle.http_front.specs.Reader.{Wants}
use Rattle.asp_record.specs.Reading.{item_of}
use Rattle.asp_record.proofs.NextItem.{read_on}
use Rattle.asp_record.proofs.reading.read_items.Goals as goal

pub loop-items-preserved : goal.loop-items-preserved
loop-items-preserved c =
    let before = c.loop-items.invariant in
    let found = rw c.in-Some.is at c.in_ok-next_item.ensures.found in
    let kept = rw c.in-Some.is at c.in_ok-next_item.ensures.kept in
    let none = kept refl in
    let on = read_on c.args.bytes.now c.loop-items.rest.now c.in-Some.after.now c.loop-items.items c.push.new.self
    c.loop-items.now
    c.moment_of-now.result (item_of c.in-Some.line) c.in_ok-item-in-Some.field-0 before.right before.text before.time
    found
    c.in_ok-item-in-Some.ensures c.in_ok-push-in-Some.ensures c.moment_of-now.ensures in
    record {
      right = on.right;
      text = on.text;
      time = on.time;
      empty = none;
      wants = subst Wants (before.empty ∙ sym none) before.wants;
    }
