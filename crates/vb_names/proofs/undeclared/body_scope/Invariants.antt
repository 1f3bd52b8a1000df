use Rattle.std.proofs.Common.{◌≡◌, fold, take}
use Rattle.vb_syntax.specs.declared.note.Level.TheVariants as level
use Rattle.vb_syntax.specs.scope.Scopes as spec
use Rattle.vb_names.specs.Declarations.{declarations_seen}
use Rattle.vb_names.proofs.undeclared.body_scope.Given as goal

abbrev pub invariant-loop-note : goal.invariant-loop-note
invariant-loop-note l = declarations_seen l.body
    ≡ fold (spec.make_in_body l.explicit (declarations_seen l.page) (declarations_seen l.class))
    (spec.declared level.Body l.notes) (take l.note-index l.notes)
