use Rattle.std.proofs.Common.{rules, ◌≡◌, ◌==◌, true, false, Ok, length, refl, sym, ap, ◌∙◌, subst}
use Rattle.vb_value.specs.declared.value.Value.TheOpen.{Value-F}
use Rattle.vb_heap.specs.Cells.{read_of, store_of, with_stored}
use Rattle.vb_value.specs.declared.value.Value.{out-Value}
use Rattle.vb_value.specs.declared.value.Value.TheViews.{Arr, outs-Arr}
use Rattle.vb_meaning.specs.Places.{held_at}
use Rattle.vb_meaning.specs.State.{on_store}
use Rattle.vb_meaning.specs.Statements as spec
use Rattle.vb_meaning.specs.Step.{Returns, Ran, and_then, given}
use Rattle.vb_meaning.specs.Shown.{shown}
use Rattle.vb_world.specs.Kept.{kept, most_kept}
use Rattle.vb_world.proofs.Resized.{kept_shown}
use Rattle.vb_world.proofs.resizing.preserve_into.Goals as goal

pub returns-in_ok-kept-in-Arr : goal.returns-in_ok-kept-in-Arr
returns-in_ok-kept-in-Arr c =
    let world = shown c.args.world.now in
    let after = shown c.put_array.new.world in
    let place = c.args.place.now in
    let there : read_of place world.store ≡ Ok c.in_ok-array.field-0.now = search rules in
    let made : c.in_ok-kept-in-Arr.kept ≡ kept c.in-Arr.array c.args.bounds (most_kept c.in-Arr.array c.args.bounds)
    = search rules in
    let shape : out-Value c.in_ok-array.field-0.now ≡ Value-F.Arr c.in-Arr.array =
    ap out-Value c.in-Arr.is ∙ outs-Arr c.in-Arr.array in
    let some : (length c.in-Arr.array.bounds == 0) ≡ false = search rules in
    let may : spec.may_preserve c.in-Arr.array.bounds c.args.bounds ≡ true = search rules in
    let held : held_at place world ≡ Returns c.in_ok-array.field-0.now world =
    ap (λ answer. given answer world) there in
    let whole : and_then (held_at place world) (λ old w. and_then
    (given (spec.resized_array true (out-Value old) c.args.bounds) w) (λ array. on_store
    (store_of place (Arr array)) (with_stored place (Arr array))))
    ≡ on_store (store_of place (Arr (spec.preserved c.in-Arr.array c.args.bounds)))
    (with_stored place (Arr (spec.preserved c.in-Arr.array c.args.bounds))) world
    = ap (λ step. and_then step (λ old w. and_then
    (given (spec.resized_array true (out-Value old) c.args.bounds) w) (λ array. on_store
    (store_of place (Arr array)) (with_stored place (Arr array))))) held
    ∙ rw (shape, some, may) refl in
    subst (λ step. Ran step c.put_array.result after) (sym whole)
    (kept_shown place c.in-Arr.array c.args.bounds c.in_ok-array.field-0.now world there
    c.put_array.result after (subst (λ array. Ran (on_store (store_of place (Arr array))
    (with_stored place (Arr array)) world) c.put_array.result after) made c.put_array.ensures))
