use Rattle.page_read.specs.Fragments.{BeginsNoFormWithin}
use Rattle.page_read.proofs.piece.plain_len.Given as goal

abbrev pub invariant-loop-at : goal.invariant-loop-at
invariant-loop-at l = BeginsNoFormWithin l.at l.text
