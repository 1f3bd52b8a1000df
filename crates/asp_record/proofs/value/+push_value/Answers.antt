use Rattle.std.proofs.Common.{◌≡◌, Bool, true, refl, sym, ap, ◌∙◌}
use Rattle.std.specs.Cmp.Derive.{both_true}
use Rattle.std.specs.List.{list_all}
use Rattle.std.proofs.lemmas.List.{take_all}
use Rattle.std.proofs.lemmas.List.Folds.{list_all-map}
use Rattle.vb_value.specs.declared.value.Array.{Array}
use Rattle.vb_value.specs.declared.value.Value.TheViews.{Arr}
use Rattle.asp_record.specs.Journal.{array_ranged, is_long, is_ranged, value_ranged}
use Rattle.asp_record.specs.Values.{value_text}
use Rattle.asp_record.proofs.Commas.{next_item, none_written, one_behind}
use Rattle.asp_record.proofs.Ranges.{item_more}
use Rattle.asp_record.proofs.ValueLaws.{fold-Arr}
use Rattle.asp_record.proofs.value.+push_value.Goals as goal

array_is : (array : Array) → list_all is_long array.bounds ≡ true → list_all is_ranged array.items ≡ true
    → is_ranged (Arr array) ≡ true
array_is array bounds items =
    fold-Arr Bool Bool value_ranged array_ranged array
    ∙ both_true bounds (list_all-map (λ ranged. ranged) is_ranged array.items ∙ items)

pub loop-item-init : goal.loop-item-init
loop-item-init t c = (refl, none_written c.append_slice-in-Arr.new.self, refl)

pub loop-item-preserved : goal.loop-item-preserved
loop-item-preserved t c = (
  one_behind c.loop-item.item-index,
  next_item value_text c.as_slice-item-items.result.now c.loop-item.item-index c.item-item.result c.loop-item.more
      c.append_slice-in-Arr.new.self c.loop-item.bytes c.push_mark.new.bytes c.push_value.new.bytes c.item-item.is
      c.loop-item.invariant.0 c.loop-item-test.true c.loop-item.invariant.1 c.in_ok-push_mark-in-Arr.ensures
      c.in_ok-push_value-in-Arr.ensures.text,
  item_more is_ranged c.as_slice-item-items.result.now c.loop-item.item-index c.item-item.result c.item-item.is
      c.loop-item-test.true c.loop-item.invariant.2 c.in_ok-push_value-in-Arr.ensures.ranged,
)

pub returns-in_ok-append_slice-in-Arr-2-clause-ranged :
    goal.returns-in_ok-append_slice-in-Arr-2-clause-ranged
returns-in_ok-append_slice-in-Arr-2-clause-ranged t c =
    let array = c.in-Arr.array in
    let items = c.as_slice-item-items.result.now in
    let all = take_all c.loop-item.item-index items c.loop-item-test.false in
    let bounds : list_all is_long array.bounds ≡ true =
    sym (ap (list_all is_long) c.as_slice.ensures) ∙ c.in_ok-push_bounds-in-Arr.ensures.ranged in
    let ranged : list_all is_ranged array.items ≡ true =
    sym (ap (list_all is_ranged) (all ∙ c.as_slice-item-items.ensures)) ∙ c.loop-item.invariant.2 in
    ap is_ranged c.in-Arr.is ∙ array_is array bounds ranged
