-- References are bounded by what the data weigh and by what is held.
use Rattle.std.proofs.Common.{ℕ, ◌+◌, ◌*◌, ◌^◌, ◌<◌, ◌≤◌, ◌≡◌, ◌==◌, Bool, List, [], ◌∷◌, length, map}
use Rattle.std.proofs.Common.{sum_by, subst, ap, arith}
use Rattle.std.specs.Prelude.{count_by}
use Rattle.std.specs.List.{flat_map}
use Rattle.std.specs.Map.{values_of}
use Rattle.std.proofs.lemmas.List.Sums.{count_by-le-length, sum_by-cons}
use Rattle.vb_value.specs.declared.session.Pair.{Pair}
use Rattle.vb_value.specs.declared.value.Array.{Array}
use Rattle.vb_value.specs.declared.value.Value.{Value, map-Value, roll-Value}
use Rattle.vb_value.specs.declared.value.Value.TheFolds.{fold-roll-Value, ind-Value}
use Rattle.vb_value.specs.declared.value.Value.TheOpen.{Value-F}
use Rattle.vb_value.specs.declared.value.Value.TheViews.{rolls-Arr}
use Rattle.vb_value.specs.Weight.{weight_of}
use Rattle.vb_heap.specs.declared.object.Content.{Content}
use Rattle.vb_heap.specs.declared.object.Content.TheVariants.{Entries, Fields}
use Rattle.vb_heap.specs.declared.object.Object.{Object}
use Rattle.vb_heap.specs.Limits.{most_held, most_weight}
use Rattle.vb_heap.specs.PageWeight.{content_weight, object_weight, weight_of_page}
use Rattle.vb_heap.specs.PairWeight.{entries_weight, pair_weight}
use Rattle.vb_heap.specs.References.{all_references, array_references, content_references, object_references}
use Rattle.vb_heap.specs.References.{references}
use Rattle.vb_heap.specs.References.{references_to, value_references}
use Rattle.vb_heap.specs.Store.{Store}
use Rattle.vb_heap.proofs.Sums.{add_up, counted_both}
use Rattle.vb_heap.proofs.ValueReferences.{references_arr}
use Rattle.vb_heap.proofs.ValueWeights.{least_weight, weight_arr}

module _ (test : ℕ → Bool) where
  -- each reference in a value stands for 32 of its weight
  abbrev IsLight : Value → Type 0
  IsLight value = 32 * count_by test (references value) ≤ weight_of value

  -- the same of the items of an array
  abbrev AreLight : Array → Type 0
  AreLight array = 32 * count_by test (flat_map references array.items) ≤ sum_by weight_of array.items

  one_at_most : (number : ℕ) → count_by test (number ∷ []) ≤ 1
  one_at_most number = count_by-le-length test (number ∷ [])

  none_light : (value : Value) → references value ≡ [] → IsLight value
  none_light value none = rw none (omega arith)

  of_array : (array : Array) (y : Value-F ((value : Value) × IsLight value) ((inner : Array) × AreLight inner))
      → map-Value ((value : Value) × IsLight value) ((inner : Array) × AreLight inner) Value Array (λ e. e.0)
      (λ e. e.0) y
      ≡ Value-F.Arr array → AreLight array
  of_array array (Value-F.Arr inner) is = let same : inner.0 ≡ array = cc in subst AreLight same inner.1
  of_array array _ is = absurd (cc)

  of_value : (x : Value-F Value Array)
      (y : Value-F ((value : Value) × IsLight value) ((inner : Array) × AreLight inner))
      → map-Value ((value : Value) × IsLight value) ((inner : Array) × AreLight inner) Value Array (λ e. e.0)
      (λ e. e.0) y
      ≡ x → IsLight (roll-Value x)
  of_value (Value-F.Arr array) y is =
      let items = of_array array y is in
      let inside = ap (count_by test) (references_arr array) in
      let weight = weight_arr array in
      rw (rolls-Arr array) (omega (arith, items, inside, weight))
  of_value (Value-F.Obj object) y is =
      let refers = ap (count_by test)
      (fold-roll-Value (List ℕ) (List ℕ) value_references array_references (Value-F.Obj object)) in
      let least = least_weight (roll-Value (Value-F.Obj object)) in
      let one = one_at_most object.0 in
      omega (arith, refers, least, one)
  of_value Value-F.Empty y is =
      none_light _ (fold-roll-Value (List ℕ) (List ℕ) value_references array_references Value-F.Empty)
  of_value Value-F.Null y is =
      none_light _ (fold-roll-Value (List ℕ) (List ℕ) value_references array_references Value-F.Null)
  of_value (Value-F.Bool truth) y is =
      none_light _ (fold-roll-Value (List ℕ) (List ℕ) value_references array_references (Value-F.Bool truth))
  of_value (Value-F.Int number) y is =
      none_light _ (fold-roll-Value (List ℕ) (List ℕ) value_references array_references (Value-F.Int number))
  of_value (Value-F.Long number) y is =
      none_light _ (fold-roll-Value (List ℕ) (List ℕ) value_references array_references (Value-F.Long number))
  of_value (Value-F.Cur amount) y is =
      none_light _ (fold-roll-Value (List ℕ) (List ℕ) value_references array_references (Value-F.Cur amount))
  of_value (Value-F.Str text) y is =
      none_light _ (fold-roll-Value (List ℕ) (List ℕ) value_references array_references (Value-F.Str text))
  of_value Value-F.Nothing y is =
      none_light _ (fold-roll-Value (List ℕ) (List ℕ) value_references array_references Value-F.Nothing)

  of_items : (items : List ((value : Value) × IsLight value))
      → 32 * count_by test (flat_map references (map (λ e. e.0) items)) ≤ sum_by weight_of (map (λ e. e.0) items)
  of_items [] = omega arith
  of_items (item ∷ items) =
      let rest = of_items items in
      let both = counted_both test (references item.0) (flat_map references (map (λ e. e.0) items)) in
      let weight = sum_by-cons weight_of item.0 (map (λ e. e.0) items) in
      omega (arith, item.1, rest, both, weight)

  light : (value : Value) → IsLight value
  light = ind-Value IsLight AreLight of_value (λ x y is.
      subst (λ z. 32 * count_by test (flat_map references z.items) ≤ sum_by weight_of z.items) is (of_items y.items))

  cells_light : (values : List Value)
      → 32 * sum_by (λ value. count_by test (references value)) values ≤ sum_by weight_of values
  cells_light [] = omega arith
  cells_light (value ∷ values) =
      let rest = cells_light values in
      let one = light value in
      let all = sum_by-cons (λ value. count_by test (references value)) value values in
      let weight = sum_by-cons weight_of value values in
      omega (arith, rest, one, all, weight)

  pairs_light : (pairs : List Pair)
      → 32 * count_by test (flat_map (λ (pair : Pair). references pair.item) pairs) ≤ entries_weight pairs
  pairs_light [] = omega arith
  pairs_light (pair ∷ pairs) =
      let rest = pairs_light pairs in
      let one = light pair.item in
      let both = counted_both test (references pair.item) (flat_map (λ (pair : Pair). references pair.item) pairs) in
      let weight = sum_by-cons pair_weight pair pairs in
      omega (arith, rest, one, both, weight)

  content_light : (content : Content) → 32 * count_by test (content_references content) ≤ content_weight content
  content_light (Fields class cells) = omega arith
  content_light (Entries dictionary) = pairs_light dictionary.pairs

  objects_light : (objects : List Object)
      → 32 * sum_by (λ thing. count_by test (object_references thing)) objects ≤ sum_by object_weight objects
  objects_light [] = omega arith
  objects_light (thing ∷ things) =
      let rest = objects_light things in
      let one = content_light thing.content in
      let all = sum_by-cons (λ thing. count_by test (object_references thing)) thing things in
      let weight = sum_by-cons object_weight thing things in
      omega (arith, rest, one, all, weight)

  -- all references weigh no more than the data and what is held
  pub all_light : (store : Store)
      → 32 * count_by test (all_references store) ≤ weight_of_page store + 32 * length store.held
  all_light store =
      let parts = add_up test store in
      let cells = cells_light (values_of store.cells) in
      let objects = objects_light (values_of store.objects) in
      let held = count_by-le-length test store.held in
      omega (arith, parts, cells, objects, held)

-- where the data keep within their limits, no object has as many as 2^32 references
pub few_references : (store : Store) → weight_of_page store ≤ most_weight → length store.held ≤ most_held
    → (number : ℕ) → references_to number store < 2 ^ 32
few_references store weighs few number =
    let all = all_light (λ other. other == number) store in omega (arith, all, weighs, few)
