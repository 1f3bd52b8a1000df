use Rattle.std.proofs.Common.{◌≡◌, ℕ, List, sym, subst}
use Rattle.std.specs.BTreeMap.{values}
use Rattle.std.proofs.lemmas.List.{take_all}
use Rattle.std.proofs.lemmas.Result.{IfOk-weaker}
use Rattle.site_load.specs.Chosen.{AreChosen}
use Rattle.site_load.specs.Picking.{HasPicked}
use Rattle.site_load.proofs.ChosenPaths.{are_chosen}
use Rattle.site_load.proofs.chosen.chosen_paths.Goals as goal

pub returns : goal.returns
returns c =
    let names = c.args.names.now in
    let picked = c.loop-name.picked in
    let has = subst (λ (ns : List (List ℕ)). HasPicked ns picked)
    (take_all c.loop-name.name-index names c.loop-name-test.false) c.loop-name.invariant in
    let chosen = are_chosen names picked c.picked_paths.ensures.ordered has in
    IfOk-weaker c.picked_paths.result (λ paths. paths ≡ values picked) (AreChosen names)
    (λ paths same. subst (AreChosen names) (sym same) chosen) c.picked_paths.ensures.paths
