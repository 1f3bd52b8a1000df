use Rattle.std.proofs.Common.{◌∙◌, ℕ, List, subst}
use Rattle.site_load.specs.Chosen.{AreChosen}
use Rattle.site_load.proofs.Causes.{told}
use Rattle.site_load.proofs.files.site_paths.Goals as goal

pub returns-clause-ok : goal.returns-clause-ok
returns-clause-ok g c = told (g.F.Folder.files c.args.folder.now) _ _ (λ files tells same.
    subst (λ (names : List (List ℕ)). AreChosen names c.in_ok-chosen_paths.field-0) (c.as_slice.ensures ∙ same)
    c.in_ok-chosen_paths.ensures) c.in_ok-names.ensures.names
