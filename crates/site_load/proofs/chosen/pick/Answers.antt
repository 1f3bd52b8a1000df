use Rattle.std.proofs.Common.{◌∙◌, ℕ, List, Some, sym, subst}
use Rattle.std.specs.BTreeMap.{Updates}
use Rattle.vb_value.specs.Folding.{folded}
use Rattle.site_load.specs.Chosen.{compared}
use Rattle.site_load.specs.Picking.{ComesFirst}
use Rattle.site_load.proofs.Picked.{kept, put_first}
use Rattle.site_load.proofs.chosen.pick.Goals as goal

pub returns-then-not-is_first : goal.returns-then-not-is_first
returns-then-not-is_first c = λ names. kept names c.args.name.now c.args.picked.now (λ first.
    let hit = c.is_first.ensures.1 (subst
    (λ key. ComesFirst c.args.picked.now key c.args.name.now) (sym c.in_ok-folded.ensures) first) in
    cc (hit, c.if-not-is_first.true))

pub returns : goal.returns
returns c = λ names.
    let name = c.args.name.now in
    let old = c.args.picked.now in
    let new = c.insert.new.self in
    let first = subst (λ key. ComesFirst old key name) c.in_ok-folded.ensures
    (c.is_first.ensures.0 c.if-not-is_first.false) in
    let at_key = subst (λ (key : List ℕ). Updates compared old new key (Some c.in_ok-copy.field-0))
    (c.folded.view_is ∙ c.in_ok-folded.ensures) c.in_ok-insert.ensures.updates in
    let updates = subst (λ (path : List ℕ). Updates compared old new (folded name)
    (Some path)) c.in_ok-copy.ensures at_key in
    put_first names name old new first updates
