-- Loops and recursion over values that raise or lower counts.
use Rattle.std.proofs.Common.{ℕ, ◌+◌, ◌<◌, ◌≤◌, ◌≡◌, ◌∙◌, List, [], ◌∷◌, ◌++◌, length, take, drop, get_or}
use Rattle.std.proofs.Common.{sym, ap, subst, append-nil, append_assoc}
use Rattle.std.proofs.lemmas.Grind.{flat_map-append}
use Rattle.std.proofs.lemmas.List.{take-append-drop, take_all, take_more}
use Rattle.std.specs.List.{flat_map}
use Rattle.std.specs.Option.{option_map_or}
use Rattle.vb_value.specs.declared.value.Array.{Array}
use Rattle.vb_value.specs.declared.value.Value.{Value}
use Rattle.vb_value.specs.declared.value.Value.TheViews.{Arr}
use Rattle.vb_heap.specs.declared.place.CellNo.{CellNo}
use Rattle.vb_heap.specs.Counted.{AreCounted, HaveRoom, counts_less, counts_more, field_references}
use Rattle.vb_heap.specs.References.{references}
use Rattle.vb_heap.specs.Releases.{without_all}
use Rattle.vb_heap.specs.Store.{numbered, without}
use Rattle.vb_heap.proofs.Counting.{counted_first, counted_then, less_both, more_both, room_first, room_then}
use Rattle.vb_heap.proofs.ValueReferences.{references_arr}

-- ---- a loop over things with references

module _ {T : Type 0} (part : T → List ℕ) (things : List T) (at : ℕ) (thing : T) (within : at < length things)
    (is : thing ≡ get_or things at thing) where
  -- the references of one thing more
  pub part_next : flat_map part (take (at + 1) things) ≡ flat_map part (take at things) ++ part thing
  part_next =
      ap (flat_map part) (take_more things at thing within)
      ∙ (flat_map-append part (take at things) (get_or things at thing ∷ [])
      ∙ ap (λ last. flat_map part (take at things) ++ last) (one (get_or things at thing) ∙ ap part (sym is)))
    where
      one : (last : T) → flat_map part (last ∷ []) ≡ part last
      one last = append-nil (part last)

  pub more_next : (counts : List (ℕ × ℕ))
      → counts_more (flat_map part (take (at + 1) things)) counts
      ≡ counts_more (part thing) (counts_more (flat_map part (take at things)) counts)
  more_next counts =
      ap (λ came. counts_more came counts) part_next ∙ more_both (flat_map part (take at things)) (part thing) counts

  pub less_next : (counts : List (ℕ × ℕ))
      → counts_less (flat_map part (take (at + 1) things)) counts
      ≡ counts_less (part thing) (counts_less (flat_map part (take at things)) counts)
  less_next counts =
      ap (λ gone. counts_less gone counts) part_next ∙ less_both (flat_map part (take at things)) (part thing) counts

  -- all references are those of the things before it, its own, and those of the others
  split : flat_map part things ≡ flat_map part (take at things) ++ (part thing ++ flat_map part (drop (at + 1) things))
  split =
      ap (flat_map part) (sym (take-append-drop (at + 1) things))
      ∙ (flat_map-append part (take (at + 1) things) (drop (at + 1) things)
      ∙ (ap (λ first. first ++ flat_map part (drop (at + 1) things)) part_next
      ∙ append_assoc (flat_map part (take at things)) (part thing) (flat_map part (drop (at + 1) things))))

  -- where there is room for all, there is room for the thing once those before it were counted
  pub room_next : (counts : List (ℕ × ℕ)) → HaveRoom (flat_map part things) counts
      → HaveRoom (part thing) (counts_more (flat_map part (take at things)) counts)
  room_next counts room =
      room_first (part thing) (flat_map part (drop (at + 1) things))
      (counts_more (flat_map part (take at things)) counts)
      (room_then (flat_map part (take at things)) (part thing ++ flat_map part (drop (at + 1) things)) counts
      (subst (λ came. HaveRoom came counts) split room))

  -- where all are counted, the thing is once those before it went
  pub counted_next : (counts : List (ℕ × ℕ)) → AreCounted (flat_map part things) counts
      → AreCounted (part thing) (counts_less (flat_map part (take at things)) counts)
  counted_next counts counted =
      counted_first (part thing) (flat_map part (drop (at + 1) things))
      (counts_less (flat_map part (take at things)) counts)
      (counted_then (flat_map part (take at things)) (part thing ++ flat_map part (drop (at + 1) things)) counts
      (subst (λ gone. AreCounted gone counts) split counted))

-- the references of the last thing go last
pub less_last : {T : Type 0} (part : T → List ℕ) (things : List T) (last : T) (counts : List (ℕ × ℕ))
    → counts_less (flat_map part (things ++ last ∷ [])) counts
    ≡ counts_less (part last) (counts_less (flat_map part things) counts)
less_last part things last counts =
    ap (λ gone. counts_less gone counts)
    (flat_map-append part things (last ∷ []) ∙ ap (λ own. flat_map part things ++ own) (append-nil (part last)))
    ∙ less_both (flat_map part things) (part last) counts

-- once each thing was seen
pub all_parts : {T : Type 0} (part : T → List ℕ) (things : List T) (at : ℕ) → length things ≤ at
    → flat_map part (take at things) ≡ flat_map part things
all_parts part things at seen = ap (flat_map part) (take_all at things seen)

-- ---- a loop over numbers

module _ (numbers : List ℕ) (at number : ℕ) (within : at < length numbers)
    (is : number ≡ get_or numbers at number) where
  pub number_next : take (at + 1) numbers ≡ take at numbers ++ number ∷ []
  number_next = take_more numbers at number within ∙ ap (λ last. take at numbers ++ last ∷ []) (sym is)

  pub number_more : (counts : List (ℕ × ℕ))
      → counts_more (take (at + 1) numbers) counts ≡ counts_more (number ∷ []) (counts_more (take at numbers) counts)
  number_more counts =
      ap (λ came. counts_more came counts) number_next ∙ more_both (take at numbers) (number ∷ []) counts

  pub number_less : (counts : List (ℕ × ℕ))
      → counts_less (take (at + 1) numbers) counts ≡ counts_less (number ∷ []) (counts_less (take at numbers) counts)
  number_less counts =
      ap (λ gone. counts_less gone counts) number_next ∙ less_both (take at numbers) (number ∷ []) counts

  pub number_split : numbers ≡ take at numbers ++ (number ∷ drop (at + 1) numbers)
  number_split =
      sym (take-append-drop (at + 1) numbers)
      ∙ (ap (λ first. first ++ drop (at + 1) numbers) number_next
      ∙ append_assoc (take at numbers) (number ∷ []) (drop (at + 1) numbers))

  pub number_room : (counts : List (ℕ × ℕ)) → HaveRoom numbers counts
      → HaveRoom (number ∷ []) (counts_more (take at numbers) counts)
  number_room counts room =
      room_first (number ∷ []) (drop (at + 1) numbers) (counts_more (take at numbers) counts)
      (room_then (take at numbers) (number ∷ drop (at + 1) numbers) counts
      (subst (λ came. HaveRoom came counts) number_split room))

-- ---- the items of an array

module _ (value : Value) (array : Array) (items : List Value) (is : value ≡ Arr array)
    (items_are : items ≡ array.items) where
  -- a value's references are those of its items
  pub item_parts : references value ≡ flat_map references items
  item_parts = ap references is ∙ (references_arr array ∙ ap (flat_map references) (sym items_are))

  pub items_more : (at : ℕ) (counts : List (ℕ × ℕ)) → length items ≤ at
      → counts_more (flat_map references (take at items)) counts ≡ counts_more (references value) counts
  items_more at counts seen = ap (λ came. counts_more came counts) (all_parts references items at seen ∙ sym item_parts)

  pub items_less : (at : ℕ) (counts : List (ℕ × ℕ)) → length items ≤ at
      → counts_less (flat_map references (take at items)) counts ≡ counts_less (references value) counts
  items_less at counts seen = ap (λ gone. counts_less gone counts) (all_parts references items at seen ∙ sym item_parts)

  pub item_room : (at : ℕ) (item : Value) (counts : List (ℕ × ℕ)) → at < length items → item ≡ get_or items at item
      → HaveRoom (references value) counts
      → HaveRoom (references item) (counts_more (flat_map references (take at items)) counts)
  item_room at item counts within item_is room =
      room_next references items at item within item_is counts (subst (λ came. HaveRoom came counts) item_parts room)

  pub item_counted : (at : ℕ) (item : Value) (counts : List (ℕ × ℕ)) → at < length items → item ≡ get_or items at item
      → AreCounted (references value) counts
      → AreCounted (references item) (counts_less (flat_map references (take at items)) counts)
  item_counted at item counts within item_is counted =
      counted_next references items at item within item_is counts
      (subst (λ gone. AreCounted gone counts) item_parts counted)

-- ---- the cells of fields that go

fields_last : (fields : List CellNo) (last : CellNo) (cells : List (ℕ × Value))
    → field_references (fields ++ last ∷ []) cells
    ≡ field_references fields cells ++ option_map_or references (numbered last.0 (without_all fields cells)) []
fields_last [] last cells = append-nil (option_map_or references (numbered last.0 cells) [])
fields_last (first ∷ fields) last cells =
    ap (λ rest. option_map_or references (numbered first.0 cells) [] ++ rest)
    (fields_last fields last (without first.0 cells))
    ∙ sym (append_assoc (option_map_or references (numbered first.0 cells) [])
    (field_references fields (without first.0 cells))
    (option_map_or references (numbered last.0 (without_all fields (without first.0 cells))) []))

-- one field more
pub fields_next : (fields : List CellNo) (at : ℕ) (default : CellNo) (cells : List (ℕ × Value)) (counts : List (ℕ × ℕ))
    → at < length fields
    → counts_less (field_references (take (at + 1) fields) cells) counts
    ≡ counts_less
    (option_map_or references (numbered (get_or fields at default).0 (without_all (take at fields) cells)) [])
    (counts_less (field_references (take at fields) cells) counts)
fields_next fields at default cells counts within =
    ap (λ gone. counts_less gone counts)
    (ap (λ seen. field_references seen cells) (take_more fields at default within)
    ∙ fields_last (take at fields) (get_or fields at default) cells)
    ∙ less_both (field_references (take at fields) cells)
    (option_map_or references (numbered (get_or fields at default).0 (without_all (take at fields) cells)) []) counts

pub fields_all : (fields : List CellNo) (at : ℕ) (cells : List (ℕ × Value)) (counts : List (ℕ × ℕ)) → length fields ≤ at
    → counts_less (field_references (take at fields) cells) counts ≡ counts_less (field_references fields cells) counts
fields_all fields at cells counts seen =
    ap (λ all. counts_less (field_references all cells) counts) (take_all at fields seen)
