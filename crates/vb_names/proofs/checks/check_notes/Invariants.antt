use Rattle.std.proofs.Common.{◌≡◌, length}
use Rattle.vb_syntax.specs.scope.Faults as spec
use Rattle.vb_names.specs.Checking.{so_far}
use Rattle.vb_names.specs.Declarations.{scopes_seen}
use Rattle.vb_names.proofs.checks.check_notes.Given as goal

abbrev pub invariant-loop-notes : goal.invariant-loop-notes
invariant-loop-notes l =
    (spec.notes_faults (scopes_seen l.scopes) (so_far l.names l.declared) l.notes
    ≡ spec.notes_faults (scopes_seen l.scopes) (so_far l.initial.names l.initial.declared) l.initial.notes)
    × (spec.after_notes (so_far l.names l.declared) l.notes
    ≡ spec.after_notes (so_far l.initial.names l.initial.declared) l.initial.notes)

abbrev pub decreases-loop-notes : goal.decreases-loop-notes
decreases-loop-notes l = length l.notes
