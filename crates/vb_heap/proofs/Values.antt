-- What the folds over values give of an array.
use Rattle.std.proofs.Common.{◌≡◌, map, sym, ap, ◌∙◌}
use Rattle.vb_value.specs.declared.value.Array.{Array}
use Rattle.vb_value.specs.declared.value.Value.TheViews.{Arr, rolls-Arr}
use Rattle.vb_value.specs.declared.value.Value.TheOpen.{Value-F, Array-F}
use Rattle.vb_value.specs.declared.value.Value.TheFolds.{fold-Value, fold-roll-Value, fold_out-Array}

-- a fold over an array is one step on the folds over its items
pub fold-Arr : (A B : Type 0) (step : Value-F A B → A) (each : Array-F A B → B) (array : Array)
    → fold-Value A B step each (Arr array) ≡ step
    (Value-F.Arr
    (each (record
    { bounds = array.bounds; fixed = array.fixed; items = map (fold-Value A B step each) array.items })))
fold-Arr A B step each array =
    ap (fold-Value A B step each) (sym (rolls-Arr array))
    ∙ fold-roll-Value A B step each (Value-F.Arr array)
    ∙ ap (λ part. step (Value-F.Arr part)) (fold_out-Array A B step each array)
