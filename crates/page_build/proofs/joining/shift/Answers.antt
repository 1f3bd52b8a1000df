use Rattle.std.proofs.Common.{◌<◌, ◌≤◌, arith, length}
use Rattle.page_build.proofs.PartWords.{all_moved, next_moved}
use Rattle.page_build.proofs.joining.shift.Goals as goal

pub loop-word-preserved : goal.loop-word-preserved
loop-word-preserved c =
    let within : c.loop-word.word-index < length c.loop-word.words = omega arith in
    next_moved c.args.base c.loop-word.word-index c.args.words.now c.loop-word.words c.word-item.result
    c.in_ok-word.field-0 within c.loop-word.invariant c.in_ok-word.ensures

pub returns : goal.returns
returns c =
    let past : length c.loop-word.words ≤ c.loop-word.word-index = omega arith in
    all_moved c.args.base c.loop-word.word-index c.args.words.now c.loop-word.words past c.loop-word.invariant
