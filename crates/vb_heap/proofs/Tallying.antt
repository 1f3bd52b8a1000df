-- Counts of references that stay right.
use Rattle.std.proofs.Common.{ℕ, ◌+◌, ◌<◌, ◌≤◌, ◌≡◌, ◌∙◌, List, [], ◌∷◌, length, ◌++◌, take, get_or}
use Rattle.std.proofs.Common.{ap, sym, subst, refl, arith}
use Rattle.std.proofs.lemmas.List.{get_or_default}
use Rattle.std.specs.List.{flat_map}
use Rattle.vb_value.specs.declared.value.Array.{Array}
use Rattle.vb_value.specs.declared.value.ObjNo.{ObjNo}
use Rattle.vb_value.specs.declared.value.Value.{Value, Obj, out-Value, roll-Value, roll-out-Value}
use Rattle.vb_value.specs.declared.value.Value.TheFolds.{fold-roll-Value}
use Rattle.vb_value.specs.declared.value.Value.TheOpen.{Value-F}
use Rattle.vb_value.specs.declared.value.Value.TheViews.{Arr, rolls-Arr, rolls-Obj}
use Rattle.vb_heap.specs.Counted.{AreRight, HaveRoom, ReferencesMove, counts_in, counts_less, counts_more, reaching}
use Rattle.vb_heap.specs.Limits.{most_held, most_weight}
use Rattle.vb_heap.specs.PageWeight.{weight_of_page}
use Rattle.vb_heap.specs.Store.{Store}
use Rattle.vb_heap.specs.References.{array_references, references, references_to, value_references}
use Rattle.vb_heap.proofs.CountBounds.{few_references}
use Rattle.vb_heap.proofs.Counting.{more_both, room_first, room_then}
use Rattle.vb_heap.proofs.CountSteps.{all_parts, item_parts, number_next, part_next}
use Rattle.vb_heap.proofs.Told.{moved_below, reaching_both, reaching_less, room_from}

module _ (store new : Store) (counts after : List (ℕ × ℕ)) (top : ℕ) (right : AreRight counts top store) where
  -- references that come
  pub came_right : (greater : ℕ) (came : List ℕ) → ReferencesMove [] came store new
      → counts_in new ≡ counts_more came (counts_in store) → after ≡ counts_more came counts
      → top ≤ greater → reaching greater came ≡ 0 → AreRight after greater new
  came_right greater came moves told is within below = record {
    each = is ∙ (ap (counts_more came) right.each ∙ sym told);
    below = moved_below [] came store new top greater moves within right.below below;
  }

  -- the same where the data keep within their limits
  pub came_within : (greater : ℕ) (came : List ℕ) → ReferencesMove [] came store new
      → counts_in new ≡ counts_more came (counts_in store) → (HaveRoom came counts → after ≡ counts_more came counts)
      → top ≤ greater → reaching greater came ≡ 0 → weight_of_page new ≤ most_weight → length new.held ≤ most_held
      → AreRight after greater new
  came_within greater came moves told is within below light few =
      came_right greater came moves told
      (is (room_from came counts new (told ∙ ap (counts_more came) (sym right.each)) (few_references new light few)))
      within below

  -- references that go
  pub went_right : (gone : List ℕ) → ReferencesMove gone [] store new
      → counts_in new ≡ counts_less gone (counts_in store) → after ≡ counts_less gone counts → AreRight after top new
  went_right gone moves told is = record {
    each = is ∙ (ap (counts_less gone) right.each ∙ sym told);
    below = moved_below gone [] store new top top moves (omega arith) right.below refl;
  }

  -- references that go, and others that come
  pub moved_right : (greater : ℕ) (gone came : List ℕ) → ReferencesMove gone came store new
      → counts_in new ≡ counts_more came (counts_less gone (counts_in store))
      → after ≡ counts_more came (counts_less gone counts)
      → top ≤ greater → reaching greater came ≡ 0 → AreRight after greater new
  moved_right greater gone came moves told is within below = record {
    each = is ∙ (ap (λ all. counts_more came (counts_less gone all)) right.each ∙ sym told);
    below = moved_below gone came store new top greater moves within right.below below;
  }

  -- the same where the data keep within their limits: those that go are counted first
  pub moved_within : (middle : List (ℕ × ℕ)) (greater : ℕ) (gone came : List ℕ) → ReferencesMove gone came store new
      → counts_in new ≡ counts_more came (counts_less gone (counts_in store)) → middle ≡ counts_less gone counts
      → (HaveRoom came middle → after ≡ counts_more came middle)
      → top ≤ greater → reaching greater came ≡ 0 → weight_of_page new ≤ most_weight → length new.held ≤ most_held
      → AreRight after greater new
  moved_within middle greater gone came moves told less is within below light few =
      let between : middle ≡ counts_less gone (counts_in store) = less ∙ ap (counts_less gone) right.each in
      let more = is (room_from came middle new (told ∙ ap (counts_more came) (sym between))
      (few_references new light few)) in
      moved_right greater gone came moves told (more ∙ ap (counts_more came) less) within below

  -- none of both
  pub still_right : ReferencesMove [] [] store new → counts_in new ≡ counts_in store → after ≡ counts
      → AreRight after top new
  still_right moves told is = record {
    each = is ∙ (right.each ∙ sym told);
    below = moved_below [] [] store new top top moves (omega arith) right.below refl;
  }

  -- an object more, with what refers to it already
  pub made_right : (number count : ℕ) → ReferencesMove [] [] store new
      → counts_in new ≡ counts_in store ++ (store.objects_made, references_to store.objects_made store) ∷ []
      → after ≡ counts ++ (number, count) ∷ [] → number ≡ store.objects_made
      → count ≡ references_to store.objects_made store → AreRight after top new
  made_right number count moves told is here refers = record {
    each =
        is
        ∙ (ap (λ all. all ++ (number, count) ∷ []) right.each
        ∙ (ap (λ next. counts_in store ++ (next, count) ∷ []) here
        ∙ (ap (λ tally. counts_in store ++ (store.objects_made, tally) ∷ []) refers ∙ sym told)));
    below = moved_below [] [] store new top top moves (omega arith) right.below refl;
  }

-- a number within a list doesn't depend on the one that stands for others
pub itself : (numbers : List ℕ) (at default : ℕ) → at < length numbers
    → get_or numbers at default ≡ get_or numbers at (get_or numbers at default)
itself numbers at default within = get_or_default numbers at default (get_or numbers at default) within

-- one more number, and a number above it
pub number_below : (numbers : List ℕ) (at number top greater : ℕ) → at < length numbers
    → number ≡ get_or numbers at number
    → top ≤ greater → reaching top (take at numbers) ≡ 0 → reaching greater (number ∷ []) ≡ 0
    → reaching greater (take (at + 1) numbers) ≡ 0
number_below numbers at number top greater within is higher before one =
    let all = ap (reaching greater) (number_next numbers at number within is) in
    let both = reaching_both greater (take at numbers) (number ∷ []) in
    let less = reaching_less top greater (take at numbers) higher in
    omega (arith, all, both, less, before, one)

-- the same of the references of one thing more
pub part_below : {T : Type 0} (part : T → List ℕ) (things : List T) (at : ℕ) (thing : T) (top greater : ℕ)
    → at < length things → thing ≡ get_or things at thing
    → top ≤ greater → reaching top (flat_map part (take at things)) ≡ 0 → reaching greater (part thing) ≡ 0
    → reaching greater (flat_map part (take (at + 1) things)) ≡ 0
part_below part things at thing top greater within is higher before one =
    let all = ap (reaching greater) (part_next part things at thing within is) in
    let both = reaching_both greater (flat_map part (take at things)) (part thing) in
    let less = reaching_less top greater (flat_map part (take at things)) higher in
    omega (arith, all, both, less, before, one)

-- once each item was seen
pub items_below : (value : Value) (array : Array) (items : List Value) (at top : ℕ) → value ≡ Arr array
    → items ≡ array.items → length items ≤ at → reaching top (flat_map references (take at items)) ≡ 0
    → reaching top (references value) ≡ 0
items_below value array items at top is items_are seen below =
    ap (reaching top) (item_parts value array items is items_are ∙ sym (all_parts references items at seen)) ∙ below

-- references that come behind others
pub came_behind : (one other : List ℕ) (old middle new : List (ℕ × ℕ)) → HaveRoom (one ++ other) old
    → (HaveRoom one old → middle ≡ counts_more one old) → (HaveRoom other middle → new ≡ counts_more other middle)
    → new ≡ counts_more (one ++ other) old
came_behind one other old middle new room first then =
    let before = first (room_first one other old room) in
    then (subst (HaveRoom other) (sym before) (room_then one other old room))
    ∙ (ap (counts_more other) before ∙ sym (more_both one other old))

-- all that came
pub all_came : (came all : List ℕ) (old new : List (ℕ × ℕ)) → came ≡ all
    → (HaveRoom came old → new ≡ counts_more came old) → HaveRoom all old → new ≡ counts_more all old
all_came came all old new is counted room =
    counted (subst (λ some. HaveRoom some old) (sym is) room) ∙ ap (λ some. counts_more some old) is

none_in_part : (part : Value-F Value Array) → ((object : ObjNo) → roll-Value part ≡ Obj object → ⊥)
    → ((array : Array) → roll-Value part ≡ Arr array → ⊥) → references (roll-Value part) ≡ []
none_in_part (Value-F.Obj object) no_object no_array = absurd (no_object object (rolls-Obj object))
none_in_part (Value-F.Arr array) no_object no_array = absurd (no_array array (rolls-Arr array))
none_in_part Value-F.Empty _ _ = fold-roll-Value (List ℕ) (List ℕ) value_references array_references Value-F.Empty
none_in_part Value-F.Null _ _ = fold-roll-Value (List ℕ) (List ℕ) value_references array_references Value-F.Null
none_in_part (Value-F.Bool truth) _ _ =
    fold-roll-Value (List ℕ) (List ℕ) value_references array_references (Value-F.Bool truth)
none_in_part (Value-F.Int n) _ _ = fold-roll-Value (List ℕ) (List ℕ) value_references array_references (Value-F.Int n)
none_in_part (Value-F.Long n) _ _ = fold-roll-Value (List ℕ) (List ℕ) value_references array_references (Value-F.Long n)
none_in_part (Value-F.Cur n) _ _ = fold-roll-Value (List ℕ) (List ℕ) value_references array_references (Value-F.Cur n)
none_in_part (Value-F.Str text) _ _ =
    fold-roll-Value (List ℕ) (List ℕ) value_references array_references (Value-F.Str text)
none_in_part Value-F.Nothing _ _ = fold-roll-Value (List ℕ) (List ℕ) value_references array_references Value-F.Nothing

-- a value that is neither an object nor an array refers to nothing
pub refers_to_none : (value : Value) → ((object : ObjNo) → value ≡ Obj object → ⊥)
    → ((array : Array) → value ≡ Arr array → ⊥) → references value ≡ []
refers_to_none value no_object no_array =
    rw (sym (roll-out-Value value))
    (none_in_part (out-Value value) (λ object is. no_object object (sym (roll-out-Value value) ∙ is))
    (λ array is. no_array array (sym (roll-out-Value value) ∙ is)))
