use Rattle.std.proofs.Common.{◌≤◌}
use Rattle.vb_names.proofs.declarations.count_declarations.Given as goal

abbrev pub invariant-loop-note : goal.invariant-loop-note
invariant-loop-note l = l.count ≤ l.note-index
