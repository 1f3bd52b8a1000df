use Rattle.std.proofs.Common.{◌≡◌, fold, take}
use Rattle.vb_syntax.specs.declared.note.Level.TheVariants as level
use Rattle.vb_syntax.specs.scope.Scopes as spec
use Rattle.vb_names.specs.Declarations.{declarations_seen}
use Rattle.vb_names.proofs.undeclared.page_scope.Given as goal

abbrev pub invariant-loop-note : goal.invariant-loop-note
invariant-loop-note l = declarations_seen l.page
    ≡ fold (spec.make_on_page l.explicit) (spec.declared level.Page l.notes) (take l.note-index l.notes)
