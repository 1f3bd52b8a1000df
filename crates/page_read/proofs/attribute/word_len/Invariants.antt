use Rattle.std.proofs.Common.{◌≡◌, ◌+◌, drop}
use Rattle.std.specs.List.{prefix_len}
use Rattle.page_read.specs.Attributes.{is_plain}
use Rattle.page_read.proofs.attribute.word_len.Given as goal

abbrev pub invariant-loop-at : goal.invariant-loop-at
invariant-loop-at l = prefix_len is_plain l.text ≡ l.at + prefix_len is_plain (drop l.at l.text)
