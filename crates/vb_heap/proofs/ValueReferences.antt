-- The references in an array.
use Rattle.std.proofs.Common.{◌≡◌, ℕ, ◌+◌, ◌<◌, ◌≤◌, ◌++◌, ◌==◌, ◌∷◌, [], List, length, map, take, get_or}
use Rattle.std.proofs.Common.{sum_by, cond, sym, ap, ◌∙◌, arith, refl, append-nil}
use Rattle.std.specs.List.{concat, flat_map}
use Rattle.std.proofs.lemmas.Grind.{flat_map-append}
use Rattle.std.proofs.lemmas.List.{take_more, take_all, flat_map_more}
use Rattle.std.proofs.lemmas.List.Sums.{sum_by-append}
use Rattle.vb_value.specs.declared.value.Array.{Array}
use Rattle.vb_value.specs.declared.value.Value.{Value}
use Rattle.vb_value.specs.declared.value.Value.TheViews.{Arr}
use Rattle.vb_value.specs.Weight.{weight_of}
use Rattle.vb_heap.specs.Counts.{count_of}
use Rattle.vb_heap.specs.References.{references, value_references, array_references}
use Rattle.vb_heap.proofs.ValueWeights.{weight_arr}
use Rattle.vb_heap.proofs.Values.{fold-Arr}

joined : (items : List Value) → concat (map references items) ≡ flat_map references items
joined [] = refl
joined (item ∷ items) = ap (λ rest. references item ++ rest) (joined items)

-- the references of an array
pub references_arr : (array : Array) → references (Arr array) ≡ flat_map references array.items
references_arr array =
    fold-Arr (List ℕ) (List ℕ) value_references array_references array ∙ joined array.items

-- with those of one item more
pub found_more : (found : List ℕ) (items : List Value) (at : ℕ) (item : Value) → at < length items
    → item ≡ get_or items at item
    → found ++ flat_map references (take (at + 1) items)
    ≡ (found ++ flat_map references (take at items)) ++ references item
found_more found items at item within is =
    ap (λ more. found ++ flat_map references more) (take_more items at item within)
    ∙ (sym (flat_map_more references found (take at items) (get_or items at item))
    ∙ ap (λ last. (found ++ flat_map references (take at items)) ++ references last) (sym is))

-- once each item was looked at
pub all_found : (value : Value) (array : Array) (items : List Value) (before : List ℕ) (at : ℕ)
    → value ≡ Arr array → items ≡ array.items → length items ≤ at
    → before ++ flat_map references (take at items) ≡ before ++ references value
all_found value array items before at is items_is seen =
    ap (λ all. before ++ flat_map references all) (take_all at items seen ∙ items_is)
    ∙ ap (λ all. before ++ all) (sym (references_arr array) ∙ ap references (sym is))

-- the numbers of two lists
pub count_both : (object : ℕ) (numbers others : List ℕ)
    → count_of object (numbers ++ others) ≡ count_of object numbers + count_of object others
count_both object numbers others = sum_by-append (λ other. cond (other == object) 1 0) numbers others

-- the same count with one item more
pub counted_more : (object : ℕ) (items : List Value) (at : ℕ) (item : Value) → at < length items
    → item ≡ get_or items at item
    → count_of object (flat_map references (take (at + 1) items))
    ≡ count_of object (flat_map references (take at items)) + count_of object (references item)
counted_more object items at item within is =
    ap (count_of object) (found_more [] items at item within is)
    ∙ count_both object (flat_map references (take at items)) (references item)

-- once each item was counted
pub all_counted : (object : ℕ) (value : Value) (array : Array) (items : List Value) (at : ℕ)
    → value ≡ Arr array → items ≡ array.items → length items ≤ at
    → count_of object (flat_map references (take at items)) ≡ count_of object (references value)
all_counted object value array items at is items_is seen =
    ap (λ all. count_of object (flat_map references all)) (take_all at items seen ∙ items_is)
    ∙ ap (count_of object) (sym (references_arr array) ∙ ap references (sym is))

pub ruleset adding = (found_more, all_found)

-- the items weigh no more than the array
pub all_weighed : (value : Value) (array : Array) (items : List Value) (at : ℕ)
    → value ≡ Arr array → items ≡ array.items → length items ≤ at
    → sum_by weight_of (take at items) ≤ weight_of value
all_weighed value array items at is items_is seen =
    let whole : take at items ≡ array.items = take_all at items seen ∙ items_is in
    rw (whole, is) (rw (weight_arr array) (omega arith))

pub ruleset counting = (counted_more, all_counted)

-- how many there are with one value more
pub counted_next : {T : Type 0} (each : T → List ℕ) (object : ℕ) (values : List T) (value : T)
    → count_of object (flat_map each (values ++ value ∷ []))
    ≡ count_of object (flat_map each values) + count_of object (each value)
counted_next each object values value =
    ap (count_of object) (flat_map-append each values (value ∷ []))
    ∙ (count_both object (flat_map each values) (each value ++ [])
    ∙ ap (λ last. count_of object (flat_map each values) + count_of object last) (append-nil (each value)))
