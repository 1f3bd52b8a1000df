use Rattle.std.proofs.Common.{◌≡◌, ◌+◌, ◌-◌, length}
use Rattle.page_read.specs.Attributes.{attributes_of, attributes_within}
use Rattle.page_read.proofs.Attributes.{with_more}
use Rattle.page_read.proofs.attribute.attributes.Given as goal

abbrev pub invariant-loop-read : goal.invariant-loop-read
invariant-loop-read l =
    attributes_of l.text ≡ with_more l.found (attributes_within (length l.text + 1 - l.read) l.rest)
