use Rattle.std.proofs.Common.{◌≡◌}
use Rattle.page_build.proofs.PartWords.{moved_to}
use Rattle.page_build.proofs.joining.shift.Given as goal

abbrev pub invariant-loop-word : goal.invariant-loop-word
invariant-loop-word l = l.words ≡ moved_to l.fn.base l.word-index l.fn.words
