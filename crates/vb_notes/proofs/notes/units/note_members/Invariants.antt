use Rattle.std.proofs.Common.{◌≡◌, ◌++◌, take}
use Rattle.std.specs.List.{flat_map}
use Rattle.vb_syntax.specs.scope.Units as spec
use Rattle.vb_notes.proofs.notes.units.note_members.Given as goal

abbrev pub invariant-loop-member : goal.invariant-loop-member
invariant-loop-member l = l.notes ≡ l.initial.notes
    ++ flat_map spec.member_notes (take l.member-index l.members)
