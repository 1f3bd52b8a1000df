use Rattle.std.proofs.Common.{refl}
use lib.Utf8.{scalars}
use Rattle.asp_record.specs.Values.{text_form}
use Rattle.asp_record.proofs.Commas.{next_item, none_written, one_behind}
use Rattle.asp_record.proofs.Ranges.{item_more}
use Rattle.asp_record.proofs.value.push_names.Goals as goal

pub loop-name-init : goal.loop-name-init
loop-name-init c = (refl, none_written c.args.bytes.now, refl)

pub loop-name-preserved : goal.loop-name-preserved
loop-name-preserved c = (
  one_behind c.loop-name.name-index,
  next_item text_form c.args.names.now c.loop-name.name-index c.name-item.result c.loop-name.more
      c.args.bytes.now c.loop-name.bytes c.push_mark.new.bytes c.push_text.new.bytes c.name-item.is
      c.loop-name.invariant.0
      c.loop-name-test.true c.loop-name.invariant.1 c.in_ok-push_mark.ensures c.in_ok-push_text.ensures.text,
  item_more scalars c.args.names.now c.loop-name.name-index c.name-item.result c.name-item.is c.loop-name-test.true
      c.loop-name.invariant.2 c.in_ok-push_text.ensures.ranged,
)
