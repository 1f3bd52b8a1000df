use Rattle.std.proofs.Common.{◌≡◌, take}
use Rattle.vb_syntax.specs.scope.Scopes as spec
use Rattle.vb_names.specs.Declarations.{declarations_seen}
use Rattle.vb_names.proofs.declarations.declared.Given as goal

abbrev pub invariant-loop-note : goal.invariant-loop-note
invariant-loop-note l = declarations_seen l.found ≡ spec.declared l.level (take l.note-index l.notes)
