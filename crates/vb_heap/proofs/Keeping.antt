-- How the code's own data stay right.
use Rattle.std.proofs.Common.{◌≡◌, ℕ, ◌+◌, ◌*◌, ◌≤◌, length, ◌++◌, ◌∷◌, [], List, sum_by, arith, ap, ◌∙◌}
use Rattle.std.proofs.lemmas.List.Sums.{sum_by-append}
use Rattle.std.specs.Map.{values_of}
use Rattle.vb_value.specs.declared.value.Value.{Value}
use Rattle.vb_value.specs.Weight.{weight_of}
use Rattle.vb_heap.specs.declared.object.Object.{Object}
use Rattle.vb_heap.specs.PageWeight.{object_weight}
use Rattle.vb_heap.proofs.Numbered.{values_both}
use Rattle.vb_heap.proofs.ValueWeights.{least_weight}

-- the weight with a cell more
pub weight_more : (cells : List (ℕ × Value)) (number : ℕ) (value : Value)
    → sum_by weight_of (values_of (cells ++ (number, value) ∷ []))
    ≡ sum_by weight_of (values_of cells) + weight_of value
weight_more cells number value =
    ap (sum_by weight_of) (values_both cells ((number, value) ∷ []))
    ∙ (sum_by-append weight_of (values_of cells) (value ∷ []) ∙ omega arith)

pub ruleset cells = (weight_more)

-- a cell weighs 32 or more
pub few_cells : (cells : List (ℕ × Value)) → 32 * length cells ≤ sum_by weight_of (values_of cells)
few_cells [] = omega arith
few_cells (first ∷ others) =
    let whole : sum_by weight_of (values_of (first ∷ others))
    ≡ sum_by weight_of (first.1 ∷ []) + sum_by weight_of (values_of others) =
    sum_by-append weight_of (first.1 ∷ []) (values_of others) in
    omega (arith, whole, least_weight first.1, few_cells others)

-- an object weighs 32 or more
pub few_objects : (objects : List (ℕ × Object)) → 32 * length objects ≤ sum_by object_weight (values_of objects)
few_objects [] = omega arith
few_objects (first ∷ others) =
    let whole : sum_by object_weight (values_of (first ∷ others))
    ≡ sum_by object_weight (first.1 ∷ []) + sum_by object_weight (values_of others) =
    sum_by-append object_weight (first.1 ∷ []) (values_of others) in
    omega (arith, whole, few_objects others)
