use Rattle.std.proofs.Common.{◌≡◌, reverse, take}
use Rattle.asp_summary.specs.Counted.{answers_in}
use Rattle.asp_summary.proofs.answers.count_answers.Given as goal

abbrev pub invariant-loop-entry : goal.invariant-loop-entry
invariant-loop-entry l = l.count ≡ answers_in (reverse (take l.entry-index l.journal))
