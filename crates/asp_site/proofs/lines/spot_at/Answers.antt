use Rattle.std.proofs.Common.{◌∙◌, sym}
use Rattle.asp_site.proofs.SpotPlaces.{spot_behind}
use Rattle.asp_site.proofs.lines.spot_at.Goals as goal

pub loop-stretch-preserved : goal.loop-stretch-preserved
loop-stretch-preserved c =
    sym (spot_behind c.args.stretches.now c.loop-stretch.stretch-index c.stretch-item.result c.loop-stretch.left
    c.loop-stretch-test.true c.stretch-item.is c.if-left-count.false)
    ∙ c.loop-stretch.invariant
