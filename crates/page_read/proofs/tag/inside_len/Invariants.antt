use Rattle.std.proofs.Common.{◌≡◌, ◌+◌, drop}
use Rattle.std.specs.List.{prefix_len}
use Rattle.page_read.specs.Forms.{is_inside}
use Rattle.page_read.proofs.tag.inside_len.Given as goal

abbrev pub invariant-loop-at : goal.invariant-loop-at
invariant-loop-at l = prefix_len is_inside l.text ≡ l.at + prefix_len is_inside (drop l.at l.text)
