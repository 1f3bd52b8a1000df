-- The first items are in range, and so is one more.
use Rattle.std.proofs.Common.{◌≡◌, ℕ, ◌+◌, ◌<◌, Bool, true, false, ◌&&◌, List, [], ◌∷◌, ◌++◌, length, get_or, take}
use Rattle.std.proofs.Common.{refl, sym, ap, ◌∙◌}
use Rattle.std.specs.Cmp.Derive.{both_true}
use Rattle.std.specs.List.{list_all}
use Rattle.std.proofs.Math.Utf8.{scalar, scalars}
use Rattle.std.proofs.lemmas.List.{take_more}
use Rattle.std.proofs.lemmas.List.Folds.{list_all_more}

pub all_more : {A : Type 0} (test : A → Bool) (items : List A) (i : ℕ) (d : A) → i < length items
    → list_all test (take i items) ≡ true → test (get_or items i d) ≡ true → list_all test (take (i + 1) items) ≡ true
all_more test items i d within before here = list_all_more test items i d within ∙ both_true before here

-- the same of an item that is read where it lies
pub item_more : {A : Type 0} (test : A → Bool) (items : List A) (i : ℕ) (item : A) → item ≡ get_or items i item
    → i < length items → list_all test (take i items) ≡ true → test item ≡ true
    → list_all test (take (i + 1) items) ≡ true
item_more test items i item is within before here =
    all_more test items i item within before (sym (ap test is) ∙ here)

and_more : (b c d : Bool) → b && c ≡ true → (c ≡ true → d ≡ true) → b && d ≡ true
and_more true c d both more = more both
and_more false c d both more = both

scalars_push : (text : List ℕ) (c : ℕ) → scalars text ≡ true → scalar c ≡ true → scalars (text ++ c ∷ []) ≡ true
scalars_push [] c before here = both_true here refl
scalars_push (first ∷ text) c before here =
    and_more (scalar first) (scalars text) (scalars (text ++ c ∷ [])) before (λ rest. scalars_push text c rest here)

pub scalars_more : (text : List ℕ) (i character : ℕ) → character ≡ get_or text i character → i < length text
    → scalars (take i text) ≡ true → scalar character ≡ true → scalars (take (i + 1) text) ≡ true
scalars_more text i character is within before here =
    ap scalars (take_more text i character within)
    ∙ scalars_push (take i text) (get_or text i character) before (sym (ap scalar is) ∙ here)
