-- What values refer to, and which numbers new objects get.
use Rattle.std.proofs.Common.{ℕ, ◌+◌, ◌<◌, ◌≡◌, Bool, false, List, [], ◌∷◌, ◌++◌}
use Rattle.std.proofs.Common.{None}
use Rattle.std.proofs.Common.{refl, sym, ap, ◌∙◌, arith}
use Rattle.vb_value.specs.declared.value.Value.TheOpen.{Value-F}
use Rattle.vb_value.specs.declared.value.Value.TheFolds.{fold-roll-Value}
use Rattle.vb_value.specs.declared.value.Value.TheViews.{rolls-Bool, rolls-Cur, rolls-Empty, rolls-Int, rolls-Long}
use Rattle.vb_value.specs.declared.value.Value.TheViews.{rolls-Nothing, rolls-Null, rolls-Obj, rolls-Str}
use Rattle.vb_heap.specs.declared.object.Content.TheVariants.{Entries, Fields}
use Rattle.vb_heap.specs.declared.object.Object.{Object}
use Rattle.vb_heap.specs.Below.{EachBelow}
use Rattle.vb_heap.specs.Dictionary.{no_entries}
use Rattle.vb_heap.specs.Objects.{cells_from, live}
use Rattle.vb_heap.specs.References.{array_references, references, value_references}
use Rattle.vb_heap.specs.Store.{is_number, numbered}
use Rattle.vb_heap.proofs.ValueReferences.{references_arr}
use Rattle.heap_laws.specs.Objects.{ArrayRefersByItems, EachAbove, InOrder, NumbersAreNew, ObjectRefersToItself}
use Rattle.heap_laws.specs.Objects.{OthersReferToNone}
use Rattle.heap_laws.proofs.Cells.{differ}

-- ---- references

pub object_refers : ObjectRefersToItself
object_refers object = ap references (sym (rolls-Obj object))
    ∙ fold-roll-Value (List ℕ) (List ℕ) value_references array_references (Value-F.Obj object)

pub array_refers : ArrayRefersByItems
array_refers = references_arr

pub others_refer : OthersReferToNone
others_refer = record {
  empty = ap references (sym rolls-Empty)
      ∙ fold-roll-Value (List ℕ) (List ℕ) value_references array_references Value-F.Empty;
  null = ap references (sym rolls-Null)
      ∙ fold-roll-Value (List ℕ) (List ℕ) value_references array_references Value-F.Null;
  boolean = λ truth. ap references (sym (rolls-Bool truth))
      ∙ fold-roll-Value (List ℕ) (List ℕ) value_references array_references (Value-F.Bool truth);
  int = λ number. ap references (sym (rolls-Int number))
      ∙ fold-roll-Value (List ℕ) (List ℕ) value_references array_references (Value-F.Int number);
  long = λ number. ap references (sym (rolls-Long number))
      ∙ fold-roll-Value (List ℕ) (List ℕ) value_references array_references (Value-F.Long number);
  currency = λ amount. ap references (sym (rolls-Cur amount))
      ∙ fold-roll-Value (List ℕ) (List ℕ) value_references array_references (Value-F.Cur amount);
  text = λ text. ap references (sym (rolls-Str text))
      ∙ fold-roll-Value (List ℕ) (List ℕ) value_references array_references (Value-F.Str text);
  nothing = ap references (sym rolls-Nothing)
      ∙ fold-roll-Value (List ℕ) (List ℕ) value_references array_references Value-F.Nothing;
}

-- ---- new objects

-- a number above those of all things is that of none
no_such : (things : List (ℕ × Object)) (number : ℕ) → EachBelow number things → numbered number things ≡ None
no_such [] number below = refl
no_such (first ∷ others) number below =
    let apart : is_number number first.0 ≡ false =
    differ number first.0 (λ same. omega (arith, below.0, same)) in
    rw apart (no_such others number below.1)

one_below : (things : List (ℕ × Object)) (number : ℕ) (object : Object) → EachBelow number things
    → EachBelow (number + 1) (things ++ (number, object) ∷ [])
one_below [] number object below = (omega arith, tt)
one_below (first ∷ others) number object below =
    (omega (arith, below.0), one_below others number object below.1)

one_above : (things : List (ℕ × Object)) (least number : ℕ) (object : Object) → EachAbove least things
    → least < number → EachAbove least (things ++ (number, object) ∷ [])
one_above [] least number object above less = (less, tt)
one_above (first ∷ others) least number object above less =
    (above.0, one_above others least number object above.1 less)

one_last : (things : List (ℕ × Object)) (number : ℕ) (object : Object) → EachBelow number things → InOrder things
    → InOrder (things ++ (number, object) ∷ [])
one_last [] number object below order = (tt, tt)
one_last (first ∷ others) number object below order = (
  one_above others first.0 number object order.0 below.0,
  one_last others number object below.1 order.1,
)

pub numbers_are_new : NumbersAreNew
numbers_are_new store below order = (
  λ class fields. record {
    free = no_such store.objects store.objects_made below;
    made = refl;
    below = one_below store.objects store.objects_made (live (Fields class (cells_from store.cells_made fields))) below;
    in_order = one_last store.objects store.objects_made (live (Fields class (cells_from store.cells_made fields))) below
        order;
  },
  record {
    free = no_such store.objects store.objects_made below;
    made = refl;
    below = one_below store.objects store.objects_made (live (Entries no_entries)) below;
    in_order = one_last store.objects store.objects_made (live (Entries no_entries)) below order;
  },
)
