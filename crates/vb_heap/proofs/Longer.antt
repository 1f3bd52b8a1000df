-- What a longer text in a cell weighs, and what is left where none is made.
use Rattle.std.proofs.Common.{◌≡◌, ℕ, ◌+◌, ◌*◌, List, [], ◌∷◌, ◌++◌, ◌-◌, ◌^◌, ◌≤◌, ◌<◌, min, Some, Result, Ok, Err, true, false, cond, length, nat_lt}
use Rattle.std.proofs.Common.{refl, subst, sym, ap, ◌∙◌, arith}
use Rattle.std.proofs.lemmas.List.{length-append}
use Rattle.vb_value.specs.declared.value.Value.{Value, Str}
use Rattle.vb_value.specs.declared.value.Value.TheViews.{rolls-Str}
use Rattle.vb_value.specs.declared.value.Value.TheOpen.{Value-F}
use Rattle.vb_value.specs.declared.value.Value.TheFolds.{fold-roll-Value}
use Rattle.std.specs.Option.{option_map_or}
use Rattle.vb_value.specs.declared.limit.LimitKind.TheVariants.{Data}
use Rattle.vb_value.specs.declared.memory.Memory.{Memory}
use Rattle.vb_value.specs.Errors.{and_then}
use Rattle.vb_value.specs.Outcome.{Changes}
use Rattle.vb_value.specs.Plain.{depth_of, value_depth, array_depth}
use Rattle.vb_value.specs.Weight.{weight_of, value_weight, array_weight}
use Rattle.vb_heap.specs.declared.fault.HeapStop.TheVariants.{Limit}
use Rattle.vb_heap.specs.declared.heap.Heap.TheInside.{Inside}
use Rattle.vb_heap.specs.declared.place.CellNo.{CellNo}
use Rattle.vb_heap.specs.Answers as answers
use Rattle.vb_heap.specs.Appended.{of_cell, text_at, append_of}
use Rattle.vb_heap.specs.Cells.{value_there, read_of, store_of, with_stored}
use Rattle.vb_heap.specs.Counted.{AreRight}
use Rattle.vb_heap.specs.Inside.{IsKept, store_of as page}
use Rattle.vb_heap.specs.Limits.{is_too_deep}
use Rattle.vb_heap.specs.PageWeight.{weight_of_page}
use Rattle.vb_heap.specs.Places.{value_in}
use Rattle.vb_heap.specs.Saturated.{weight_told}
use Rattle.vb_heap.specs.Store.{is_number, numbered, replaced}
use Rattle.vb_heap.proofs.CellCounts.{text_right}
use Rattle.vb_heap.proofs.Storing.{refuses, accepts, weighs}

-- the same again in the place of something is no change
pub same_again : {T : Type 0} (things : List (ℕ × T)) (number : ℕ) (thing : T) → numbered number things ≡ Some thing
    → replaced number thing things ≡ things
same_again [] number thing is = refl
same_again (first ∷ others) number thing is =
    elim (is_number number first.0)
    as (λ b. cond b (Some first.1) (numbered number others) ≡ Some thing
    → cond b ((first.0, thing) ∷ others) (first ∷ replaced number thing others) ≡ first ∷ others) [
      | true ↦ λ here.
          let same : first.1 ≡ thing = cc in
          ap (λ value. (first.0, value) ∷ others) (sym same)
      | false ↦ λ there. ap (λ rest. first ∷ rest) (same_again others number thing there)
    ] is

-- what a text weighs
pub weight_text : (text : List ℕ) → weight_of (Str text) ≡ 32 + 4 * length text
weight_text text =
    ap weight_of (sym (rolls-Str text)) ∙ fold-roll-Value ℕ ℕ value_weight array_weight (Value-F.Str text)

depth_text : (text : List ℕ) → depth_of (Str text) ≡ 0
depth_text text = ap depth_of (sym (rolls-Str text)) ∙ fold-roll-Value ℕ ℕ value_depth array_depth (Value-F.Str text)

-- a text is no array
pub text_flat : (text : List ℕ) → is_too_deep 0 (Str text) ≡ false
text_flat text = ap (λ depth. nat_lt 64 (0 + depth)) (depth_text text)

-- what the data weigh with a longer text, as the code sums it up
pub summed : (text more : List ℕ) (held old longer weight : ℕ) → Ok old ≡ weight_told (Ok (Str text))
    → longer ≡ min (min (length more * 4) (2 ^ 64 - 1) + old) (2 ^ 64 - 1)
    → weight ≡ min (longer + (held - old)) (2 ^ 64 - 1)
    → weight ≡ min (min (weight_of (Str (text ++ more))) (2 ^ 64 - 1) + (held - old)) (2 ^ 64 - 1)
summed text more held old longer weight told lengthened all =
    let weighs : weight_of (Str text) ≡ old = cc in
    let before = weight_text text in
    let after = weight_text (text ++ more) in
    let both = length-append text more in
    omega arith

-- the cells once a text in one of them was made longer, or was not
pub grown : (result : Result (Unit {0}) Memory) (cells : List (ℕ × Value)) (number : ℕ) (old new : Value) (more : List ℕ)
    → Some old ≡ numbered number cells
    → ((text : List ℕ) → old ≡ Str text → Changes result old new (Str (text ++ more)))
    → (text : List ℕ) → numbered number cells ≡ Some (Str text)
    → Changes result cells (replaced number new cells) (replaced number (Str (text ++ more)) cells)
grown (Ok done) cells number old new more there changes text is =
    let held : old ≡ Str text = cc in
    ap (λ value. replaced number value cells) (changes text held)
grown (Err why) cells number old new more there changes text is =
    let held : old ≡ Str text = cc in
    ap (λ value. replaced number value cells) (changes text held) ∙ same_again cells number old (sym there)

module _ (heap : Inside) (kept : IsKept heap) (cell : CellNo) (text more : List ℕ) (old longer weight : ℕ)
    (is : Ok text ≡ text_at cell (page heap)) (there : numbered cell.0 heap.cells.entries ≡ Some (Str text))
    (told : Ok old ≡ weight_told (read_of (of_cell cell) (page heap))) (within : old ≤ heap.weight)
    (lengthened : longer ≡ min (min (length more * 4) (2 ^ 64 - 1) + old) (2 ^ 64 - 1))
    (all : weight ≡ min (longer + (heap.weight - old)) (2 ^ 64 - 1)) where
  goes : append_of cell more (page heap) ≡ store_of (of_cell cell) (Str (text ++ more)) (page heap)
  goes = ap (λ found. answers.and_then found (λ text. store_of (of_cell cell) (Str (text ++ more)) (page heap))) (sym is)

  sums : weight ≡ min (min (weight_of (Str (text ++ more))) (2 ^ 64 - 1) + (heap.weight - old)) (2 ^ 64 - 1)
  sums =
      summed text more heap.weight old longer weight
      (told ∙ ap (λ found. weight_told (and_then (value_there found) (value_in []))) there) lengthened all

  same_data : with_stored (of_cell cell) (Str (text ++ more)) (page heap)
      ≡ record (page heap) { cells = replaced cell.0 (Str (text ++ more)) heap.cells.entries }
  same_data =
      ap (λ found. record (page heap) {
        cells = option_map_or (λ value. replaced cell.0 (Str (text ++ more)) heap.cells.entries) found
            heap.cells.entries;
      }) there

  -- too much
  pub refuses_more : 16777216 < weight → append_of cell more (page heap) ≡ Err (Limit Data)
  refuses_more heavy =
      goes ∙ refuses heap kept (of_cell cell) (Str (text ++ more)) old weight told within sums (text_flat (text ++ more)) heavy

  -- as much as fits
  pub accepts_more : weight ≤ 16777216 → heap.objects_made < 2 ^ 32 → heap.cells_made < 2 ^ 64
      → append_of cell more (page heap) ≡ Ok tt
  accepts_more light objects cells =
      goes ∙ accepts heap kept (of_cell cell) (Str (text ++ more)) old weight told within sums (text_flat (text ++ more))
      light objects cells

  -- what is told of the weight stays right
  pub weighs_more : weight ≤ 16777216
      → weight ≡ weight_of_page (record (page heap) { cells = replaced cell.0 (Str (text ++ more)) heap.cells.entries })
  weighs_more light =
      weighs heap kept (of_cell cell) (Str (text ++ more)) old weight told within sums (text_flat (text ++ more)) light
      ∙ ap weight_of_page same_data

  -- the counts stay right
  pub counted_more : AreRight heap.counts.entries heap.top
      (record (page heap) { cells = replaced cell.0 (Str (text ++ more)) heap.cells.entries })
  counted_more =
      subst (AreRight heap.counts.entries heap.top) same_data
      (text_right (page heap) heap.counts.entries heap.counts.entries heap.top kept.counted (of_cell cell) text
      (text ++ more) (ap (λ found. and_then (value_there found) (value_in [])) there) refl)
