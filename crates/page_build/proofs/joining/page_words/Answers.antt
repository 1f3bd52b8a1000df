use Rattle.std.proofs.Common.{◌+◌, drop}
use Rattle.page_build.proofs.PartWords.{later_fault, more_words, part_there}
use Rattle.page_build.proofs.joining.page_words.Goals as goal

pub loop-part-preserved : goal.loop-part-preserved
loop-part-preserved c =
    let parts = c.args.parts.now in
    let at = c.loop-part.part-index in
    let part = c.part-item.result in
    let there = part_there parts at part c.loop-part-test.true c.part-item.is in
    record {
      words = λ all behind. c.loop-part.invariant.words all
          (more_words c.args.global c.loop-part.so_far c.in_ok-so_far-2.so_far (drop at parts) (drop (at + 1) parts)
          part c.in_ok-words.words there c.in_ok-words.ensures.ok c.in_ok-so_far-2.ensures all behind);
      faults = λ fault has. c.loop-part.invariant.faults fault
          (later_fault c.args.global (drop at parts) (drop (at + 1) parts) part c.in_ok-words.words there
          c.in_ok-words.ensures.ok fault has);
    }
