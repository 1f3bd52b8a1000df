use Rattle.std.proofs.Common.{◌≡◌, ◌++◌, map, take}
use Rattle.vb_print.specs.Statements.{block_words}
use Rattle.vb_print.specs.Units as spec
use Rattle.vb_print.proofs.units.print_members.Given as goal

abbrev pub invariant-loop-member : goal.invariant-loop-member
invariant-loop-member l = l.words ≡ l.initial.words
    ++ block_words l.line (map spec.member_words (take l.member-index l.member-items))
