use Rattle.std.proofs.Common.{◌≡◌, ◌+◌, drop}
use Rattle.std.specs.List.{prefix_len}
use Rattle.page_read.specs.Marks.{is_blank}
use Rattle.page_read.proofs.mark.blank_len.Given as goal

abbrev pub invariant-loop-at : goal.invariant-loop-at
invariant-loop-at l = prefix_len is_blank l.text ≡ l.at + prefix_len is_blank (drop l.at l.text)
