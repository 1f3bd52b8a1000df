-- Arrays that lie in variables: whether objects occur in them, and what their shape alone tells.
use Rattle.std.proofs.Common.{◌≡◌, ℕ, ◌+◌, ◌<◌, ◌≤◌, ◌++◌, ◌∷◌, [], List, true, length, map, take, get_or}
use Rattle.std.proofs.Common.{false, sym, ap, ◌∙◌, refl, subst}
use Rattle.std.specs.List.{flat_map}
use Rattle.std.proofs.lemmas.List.{take_more, take_all, flat_map_more}
use Rattle.vb_value.specs.declared.function.PlainFn.{PlainFn}
use Rattle.vb_value.specs.declared.function.PlainFn.TheVariants as function
use Rattle.vb_value.specs.declared.value.Array.{Array}
use Rattle.vb_value.specs.declared.value.Value.{Value, map-Value, roll-Value}
use Rattle.vb_value.specs.declared.value.Value.TheFolds.{fold-roll-Value, ind-Value}
use Rattle.vb_value.specs.declared.value.Value.TheOpen.{Value-F}
use Rattle.vb_value.specs.declared.value.Value.TheViews.{Arr, rolls-Arr}
use Rattle.vb_funcs.specs.Functions.{call_func_of}
use Rattle.vb_heap.specs.References.{references}
use Rattle.vb_heap.proofs.Values.{fold-Arr}
use Rattle.vb_heap.proofs.ValueReferences.{references_arr}
use Rattle.vb_meaning.specs.Values.{copied, value_copied, array_copied}
use Rattle.vb_plain.specs.Lent.{shape_of, is_by_shape}

-- the objects that occur in a copy
abbrev held : Value → List ℕ
held value = references (copied value)

-- an array as a copy has it
abbrev copied_as : Array → Array
copied_as array = record { bounds = array.bounds; fixed = false; items = map copied array.items }

copied_arr : (array : Array) → copied (Arr array) ≡ Arr (copied_as array)
copied_arr array = fold-Arr Value Array value_copied array_copied array ∙ rolls-Arr (copied_as array)

of_copies : (items : List Value) → flat_map references (map copied items) ≡ flat_map held items
of_copies [] = refl
of_copies (item ∷ items) = ap (λ more. references (copied item) ++ more) (of_copies items)

-- the objects in a copy of an array are those in copies of its items
held_arr : (array : Array) → references (copied (Arr array)) ≡ flat_map held array.items
held_arr array = ap references (copied_arr array) ∙ references_arr (copied_as array) ∙ of_copies array.items

-- a copy has the objects that the value has
abbrev IsAlike : Value → Type 0
IsAlike value = references (copied value) ≡ references value

abbrev AreAlike : Array → Type 0
AreAlike array = flat_map held array.items ≡ flat_map references array.items

alike_array : (array : Array) (y : Value-F ((value : Value) × IsAlike value) ((inner : Array) × AreAlike inner))
    → map-Value ((value : Value) × IsAlike value) ((inner : Array) × AreAlike inner) Value Array (λ e. e.0) (λ e. e.0) y
    ≡ Value-F.Arr array → AreAlike array
alike_array array (Value-F.Arr inner) is = let same : inner.0 ≡ array = cc in subst AreAlike same inner.1
alike_array array _ is = absurd (cc)

-- a value that is no array is its own copy
alike_itself : (value : Value) → copied value ≡ value → IsAlike value
alike_itself value is = ap references is

alike_value : (x : Value-F Value Array) (y : Value-F ((value : Value) × IsAlike value) ((inner : Array) × AreAlike inner))
    → map-Value ((value : Value) × IsAlike value) ((inner : Array) × AreAlike inner) Value Array (λ e. e.0) (λ e. e.0) y
    ≡ x → IsAlike (roll-Value x)
alike_value (Value-F.Arr array) y is =
    rw (rolls-Arr array) (held_arr array ∙ (alike_array array y is ∙ sym (references_arr array)))
alike_value Value-F.Empty y is = alike_itself _ (fold-roll-Value Value Array value_copied array_copied Value-F.Empty)
alike_value Value-F.Null y is = alike_itself _ (fold-roll-Value Value Array value_copied array_copied Value-F.Null)
alike_value (Value-F.Bool truth) y is =
    alike_itself _ (fold-roll-Value Value Array value_copied array_copied (Value-F.Bool truth))
alike_value (Value-F.Int number) y is =
    alike_itself _ (fold-roll-Value Value Array value_copied array_copied (Value-F.Int number))
alike_value (Value-F.Long number) y is =
    alike_itself _ (fold-roll-Value Value Array value_copied array_copied (Value-F.Long number))
alike_value (Value-F.Cur amount) y is =
    alike_itself _ (fold-roll-Value Value Array value_copied array_copied (Value-F.Cur amount))
alike_value (Value-F.Str text) y is =
    alike_itself _ (fold-roll-Value Value Array value_copied array_copied (Value-F.Str text))
alike_value (Value-F.Obj object) y is =
    alike_itself _ (fold-roll-Value Value Array value_copied array_copied (Value-F.Obj object))
alike_value Value-F.Nothing y is =
    alike_itself _ (fold-roll-Value Value Array value_copied array_copied Value-F.Nothing)

alike_items : (items : List ((value : Value) × IsAlike value))
    → flat_map held (map (λ e. e.0) items) ≡ flat_map references (map (λ e. e.0) items)
alike_items [] = refl
alike_items (item ∷ items) = rw item.1 (ap (λ rest. references item.0 ++ rest) (alike_items items))

alike : (value : Value) → IsAlike value
alike = ind-Value IsAlike AreAlike alike_value (λ x y is.
    subst (λ z. flat_map held z.items ≡ flat_map references z.items) is (alike_items y.items))

-- where a value has no object, its copy has none
pub copy_free : (value : Value) → references value ≡ [] → references (copied value) ≡ []
copy_free value free = alike value ∙ free

-- one item more in which there is none
pub item_free : (items : List Value) (at : ℕ) (item : Value) → at < length items → item ≡ get_or items at item
    → references (copied item) ≡ [] → flat_map (λ item. references (copied item)) (take at items) ≡ []
    → flat_map (λ item. references (copied item)) (take (at + 1) items) ≡ []
item_free items at item within is free before =
    ap (flat_map held) (take_more items at item within)
    ∙ (sym (flat_map_more held [] (take at items) (get_or items at item))
    ∙ (ap (λ found. found ++ held (get_or items at item)) before ∙ (ap held (sym is) ∙ free)))

-- once each item was looked at
pub all_free : (value : Value) (array : Array) (items : List Value) (at : ℕ)
    → value ≡ Arr array → items ≡ array.items → length items ≤ at
    → flat_map (λ item. references (copied item)) (take at items) ≡ [] → references (copied value) ≡ []
all_free value array items at is items_is seen free =
    ap held is ∙ (held_arr array ∙ (ap (flat_map held) (sym (take_all at items seen ∙ items_is)) ∙ free))

pub ruleset looking = (item_free, all_free)

-- what the shape of an array alone tells
pub same_shape : (found : PlainFn) (array : Array) → is_by_shape found ≡ true
    → call_func_of found (Arr (shape_of array) ∷ []) ≡ call_func_of found (copied (Arr array) ∷ [])
same_shape function.UBound array by = ap (λ value. call_func_of function.UBound (value ∷ [])) (sym (copied_arr array))
same_shape function.LBound array by = ap (λ value. call_func_of function.LBound (value ∷ [])) (sym (copied_arr array))
same_shape function.IsArray array by = ap (λ value. call_func_of function.IsArray (value ∷ [])) (sym (copied_arr array))
same_shape function.VarType array by = ap (λ value. call_func_of function.VarType (value ∷ [])) (sym (copied_arr array))
same_shape function.IsEmpty array by = ap (λ value. call_func_of function.IsEmpty (value ∷ [])) (sym (copied_arr array))
same_shape _ array by = cc

-- and with a second argument, for bounds
pub same_bound : (found : PlainFn) (array : Array) (more : Value) → is_by_shape found ≡ true
    → call_func_of found (Arr (shape_of array) ∷ more ∷ []) ≡ call_func_of found (copied (Arr array) ∷ more ∷ [])
same_bound function.UBound array more by =
    ap (λ value. call_func_of function.UBound (value ∷ more ∷ [])) (sym (copied_arr array))
same_bound function.LBound array more by =
    ap (λ value. call_func_of function.LBound (value ∷ more ∷ [])) (sym (copied_arr array))
same_bound function.IsArray array more by = refl
same_bound function.VarType array more by = refl
same_bound function.IsEmpty array more by = refl
same_bound _ array more by = cc
