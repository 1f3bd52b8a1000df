-- What objects that are made weigh, and whether there is room for them.
use Rattle.std.proofs.Common.{◌≡◌, ℕ, zero, suc, ◌+◌, ◌*◌, ◌≤◌, ◌<◌, ◌++◌, ◌∷◌, [], List, length, sum_by}
use Rattle.std.proofs.Common.{true, false, refl, sym, ap, ◌∙◌, arith, add-one, length-append, append_assoc}
use Rattle.std.proofs.lemmas.List.Sums.{sum_by-append}
use Rattle.std.specs.Map.{values_of}
use Rattle.vb_value.specs.declared.value.Value.{Value, Empty}
use Rattle.vb_value.specs.Weight.{weight_of}
use Rattle.vb_heap.specs.declared.heap.Heap.TheInside.{Inside}
use Rattle.vb_heap.specs.declared.object.Content.TheVariants.{Fields, Entries}
use Rattle.vb_heap.specs.declared.object.Object.{Object}
use Rattle.vb_heap.specs.declared.place.CellNo.{CellNo}
use Rattle.vb_heap.specs.Dictionary.{no_entries}
use Rattle.vb_heap.specs.Entries.{with_new_table}
use Rattle.vb_heap.specs.Inside.{IsKept, store_of as page}
use Rattle.vb_heap.specs.Limits.{fits}
use Rattle.vb_heap.specs.Objects.{cells_from, empty_cells, with_new_object, live}
use Rattle.vb_heap.specs.PageWeight.{weight_of_page, object_weight}
use Rattle.vb_heap.specs.Room.{HasRoom}
use Rattle.vb_heap.specs.Store.{Store}
use Rattle.vb_heap.proofs.Fitting.{they_fit, too_heavy}
use Rattle.vb_heap.proofs.Numbered.{values_both}
use Rattle.vb_heap.proofs.ValueWeights.{empty_weight}

map_both : (cells others : List CellNo) → empty_cells (cells ++ others) ≡ empty_cells cells ++ empty_cells others
map_both [] others = refl
map_both (first ∷ rest) others = ap (λ cells. (first.0, Empty) ∷ cells) (map_both rest others)

-- one cell more
pub empty_more : (first count : ℕ)
    → empty_cells (cells_from first (count + 1)) ≡ empty_cells (cells_from first count) ++ (first + count, Empty) ∷ []
empty_more first count = rw (add-one count) (map_both (cells_from first count) (record { 0 = first + count } ∷ []))

-- one cell more behind others
pub added_more : (cells : List (ℕ × Value)) (first count : ℕ)
    → (cells ++ empty_cells (cells_from first count)) ++ (first + count, Empty) ∷ []
    ≡ cells ++ empty_cells (cells_from first (count + 1))
added_more cells first count =
    append_assoc cells (empty_cells (cells_from first count)) ((first + count, Empty) ∷ [])
    ∙ ap (λ more. cells ++ more) (sym (empty_more first count))

-- as many cells as were asked for
pub empty_count : (first count : ℕ) → count ≡ length (empty_cells (cells_from first count))
empty_count first zero = refl
empty_count first (suc count) =
    let fewer : count ≡ length (empty_cells (cells_from first count)) = empty_count first count in
    rw (map_both (cells_from first count) (record { 0 = first + count } ∷ []))
    (rw (length-append (empty_cells (cells_from first count)) ((first + count, Empty) ∷ [])) (omega arith))

-- what they weigh
pub weight_empty : (first count : ℕ) → sum_by weight_of (values_of (empty_cells (cells_from first count))) ≡ 32 * count
weight_empty first zero = refl
weight_empty first (suc count) =
    let fewer : sum_by weight_of (values_of (empty_cells (cells_from first count))) ≡ 32 * count =
    weight_empty first count in
    let last = empty_weight in
    rw (map_both (cells_from first count) (record { 0 = first + count } ∷ []))
    (rw (values_both (empty_cells (cells_from first count)) ((first + count, Empty) ∷ []))
    (rw (sum_by-append weight_of (values_of (empty_cells (cells_from first count))) (Empty ∷ [])) (omega arith)))

-- what all objects weigh with one more
pub object_more : (objects : List (ℕ × Object)) (number : ℕ) (object : Object)
    → sum_by object_weight (values_of (objects ++ (number, object) ∷ []))
    ≡ sum_by object_weight (values_of objects) + object_weight object
object_more objects number object =
    rw (values_both objects ((number, object) ∷ []))
    (sum_by-append object_weight (values_of objects) (object ∷ []) ∙ omega arith)

-- what all cells weigh with so many more
pub cells_more : (cells : List (ℕ × Value)) (first count : ℕ)
    → sum_by weight_of (values_of (cells ++ empty_cells (cells_from first count)))
    ≡ sum_by weight_of (values_of cells) + 32 * count
cells_more cells first count =
    rw (values_both cells (empty_cells (cells_from first count)))
    (sum_by-append weight_of (values_of cells) (values_of (empty_cells (cells_from first count)))
    ∙ ap (λ n. sum_by weight_of (values_of cells) + n) (weight_empty first count))

-- what the data weigh with an object more
pub weight_made : (class fields : ℕ) (store : Store)
    → weight_of_page (with_new_object class fields store) ≡ weight_of_page store + (32 + 32 * fields)
weight_made class fields store =
    let cells = cells_more store.cells store.cells_made fields in
    let objects = object_more store.objects store.objects_made
    (live (Fields class (cells_from store.cells_made fields))) in
    omega arith

module _ (heap : Inside) (kept : IsKept heap) (fields : ℕ) where
  -- an object that is too heavy
  pub heavy_object : (class : ℕ) → 16777216 < heap.weight + 32 + 32 * fields
      → false ≡ fits (with_new_object class fields (page heap))
  heavy_object class heavy =
      let made = weight_made class fields (page heap) in
      let was = kept.weighed in
      sym (too_heavy (with_new_object class fields (page heap)) (omega arith))

  -- a dictionary that is too heavy
  pub heavy_table : fields ≡ 0 → 16777216 < heap.weight + 32 + 32 * fields → false ≡ fits (with_new_table (page heap))
  heavy_table none heavy =
      let made = object_more heap.objects.entries heap.objects_made (live (Entries no_entries)) in
      let was = kept.weighed in
      sym (too_heavy (with_new_table (page heap)) (omega arith))

  module _ (light : heap.weight + 32 + 32 * fields ≤ 16777216) (objects : heap.objects_made < 4294967295)
      (cells : heap.cells_made + fields ≤ 18446744073709551615) where
    -- an object for which there is room
    pub object_fits : (class : ℕ) → true ≡ fits (with_new_object class fields (page heap))
    object_fits class =
        let made = weight_made class fields (page heap) in
        let was = kept.weighed in
        sym (they_fit (with_new_object class fields (page heap)) (record {
          light = omega arith;
          objects = omega arith;
          cells = cells;
          few = kept.few;
        }))

    -- a dictionary for which there is room
    pub table_fits : true ≡ fits (with_new_table (page heap))
    table_fits =
        let made = object_more heap.objects.entries heap.objects_made (live (Entries no_entries)) in
        let was = kept.weighed in
        sym (they_fit (with_new_table (page heap)) (record {
          light = omega arith;
          objects = omega arith;
          cells = omega arith;
          few = kept.few;
        }))

    -- that there is room
    pub there_is_room : HasRoom fields (page heap)
    there_is_room = let was = kept.weighed in record { light = omega arith; objects = omega arith; cells = cells }
