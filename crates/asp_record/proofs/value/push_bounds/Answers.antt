use Rattle.std.proofs.Common.{refl}
use Rattle.std.specs.Fmt.{signed_decimal}
use Rattle.asp_record.specs.Journal.{is_long}
use Rattle.asp_record.proofs.Commas.{next_written, none_written, one_behind}
use Rattle.asp_record.proofs.Ranges.{all_more}
use Rattle.asp_record.proofs.value.push_bounds.Goals as goal

pub loop-bound-init : goal.loop-bound-init
loop-bound-init c = (refl, none_written c.args.bytes.now, refl)

pub loop-bound-preserved : goal.loop-bound-preserved
loop-bound-preserved c = (
  one_behind c.loop-bound.bound-index,
  next_written signed_decimal c.args.bounds.now c.loop-bound.bound-index _ c.loop-bound.more
      c.args.bytes.now c.loop-bound.bytes c.push_mark.new.bytes c.push_bound.new.bytes c.loop-bound.invariant.0
      c.loop-bound-test.true c.loop-bound.invariant.1 c.in_ok-push_mark.ensures c.in_ok-push_bound.ensures.text,
  all_more is_long c.args.bounds.now c.loop-bound.bound-index _ c.loop-bound-test.true c.loop-bound.invariant.2
      c.in_ok-push_bound.ensures.ranged,
)
