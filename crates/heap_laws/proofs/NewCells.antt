-- The cells of new variables and of the fields of new objects.
use Rattle.std.proofs.Common.{ℕ, zero, suc, ◌+◌, ◌≡◌, ◌<◌, ◌≤◌, ◌∙◌, Bool, true, false, if◌then◌else◌, List, [], ◌∷◌}
use Rattle.std.proofs.Common.{◌++◌, length, slice_get, Some, None, Ok, Err, refl, sym, ap, subst, inl}
use Rattle.std.proofs.Common.{inr}
use Rattle.std.proofs.Common.{arith, length-append}
use Rattle.std.proofs.lemmas.Bool.{cases_lt}
use Rattle.std.proofs.lemmas.Option.{slice_get_past}
use Rattle.vb_value.specs.declared.value.Value.{Value}
use Rattle.vb_heap.specs.declared.fault.HeapStop.{HeapStop}
use Rattle.vb_heap.specs.declared.object.Content.TheVariants.{Fields}
use Rattle.vb_heap.specs.declared.object.Object.{Object}
use Rattle.vb_heap.specs.declared.place.CellNo.{CellNo}
use Rattle.vb_heap.specs.Below.{EachBelow}
use Rattle.vb_heap.specs.Cells.{with_new_cell}
use Rattle.vb_heap.specs.Limits.{fits, is_too_deep}
use Rattle.vb_heap.specs.Objects.{cells_from, field_in, field_there, live}
use Rattle.std.specs.Cmp.{nat_cmp_is}
use Rattle.std.specs.Ordering.{is_eq, nat_cmp}
use Rattle.std.specs.declared.cmp.Ordering.TheVariants.{Equal}
use Rattle.vb_heap.specs.Store.{is_number, numbered}
use Rattle.heap_laws.specs.Objects.{CellsAreNew}
use Rattle.heap_laws.proofs.Cells.{differ}

itself : (n : ℕ) → is_number n n ≡ true
itself n = let is : nat_cmp n n ≡ Equal = sym (nat_cmp_is n n Equal refl) in ap is_eq is

-- ---- a variable

no_cell : (things : List (ℕ × Value)) (made number : ℕ) → EachBelow made things → made ≤ number
    → numbered number things ≡ None
no_cell [] made number below above = refl
no_cell (first ∷ others) made number below above =
    let apart : is_number number first.0 ≡ false =
    differ number first.0 (λ same. omega (arith, below.0, above, same)) in
    rw apart (no_cell others made number below.1 above)

one_of : (deep fitting : Bool) (made cell : CellNo) (nest full : HeapStop)
    → (if deep then Err nest else (if fitting then Ok made else Err full)) ≡ Ok cell → cell ≡ made
one_of true fitting made cell nest full is = absurd (cc)
one_of false true made cell nest full is = cc
one_of false false made cell nest full is = absurd (cc)

-- ---- fields

kept : {T : Type 0} (xs : List T) (x other : T) (n : ℕ) → slice_get xs n ≡ Some x
    → slice_get (xs ++ other ∷ []) n ≡ Some x
kept [] x other n is = absurd (cc)
kept (first ∷ xs) x other zero is = is
kept (first ∷ xs) x other (suc n) is = kept xs x other n is

behind : {T : Type 0} (xs : List T) (x : T) → slice_get (xs ++ x ∷ []) (length xs) ≡ Some x
behind [] x = refl
behind (first ∷ xs) x = behind xs x

many : (first count : ℕ) → length (cells_from first count) ≡ count
many first zero = refl
many first (suc count) =
    let one = length-append (cells_from first count) ((record { 0 = first + count }) ∷ []) in
    let rest = many first count in
    omega (arith, one, rest)

field_is : (first count field : ℕ) → field < count
    → slice_get (cells_from first count) field ≡ Some (record { 0 = first + field })
field_is first zero field below = absurd (omega (arith, below))
field_is first (suc count) field below = elim (cases_lt field count) [
  | inl before ↦ kept (cells_from first count) (record { 0 = first + field }) (record { 0 = first + count }) field
      (field_is first count field before)
  | inr above ↦
      let same : field ≡ count = omega (arith, below, above) in
      let last : length (cells_from first count) ≡ field = many first count ∙ sym same in
      subst (λ n. slice_get (cells_from first (suc count)) n ≡ Some (record { 0 = first + field })) last
      (behind (cells_from first count) (record { 0 = first + count })
      ∙ ap (λ n. Some (record { 0 = first + n })) (sym same))
]

in_fields : (first count field : ℕ) (cell : CellNo) → field_there (slice_get (cells_from first count) field) ≡ Ok cell
    → (cell.0 ≡ first + field) × (cell.0 < first + count)
in_fields first count field cell is = elim (cases_lt field count) [
  | inl before ↦
      let same : cell ≡ record { 0 = first + field } =
      one_there cell (record { 0 = first + field }) (sym (ap field_there (field_is first count field before)) ∙ is) in
      let number : cell.0 ≡ first + field = ap (λ (found : CellNo). found.0) same in
      (number, omega (arith, number, before))
  | inr past ↦
      let none = slice_get_past (cells_from first count) field (subst (λ n. n ≤ field) (sym (many first count)) past) in
      let both = sym (ap field_there none) ∙ is in absurd (cc)
]
  where
    one_there : (cell made : CellNo) → field_there (Some made) ≡ Ok cell → cell ≡ made
    one_there cell made is = cc

-- the object that was made is the last
made_last : (things : List (ℕ × Object)) (made : ℕ) (object thing : Object) → numbered made things ≡ None
    → numbered made (things ++ (made, object) ∷ []) ≡ Some thing → thing ≡ object
made_last [] made object thing none is =
    let here = itself made in same_thing thing object (sym (ap (λ b. if b then Some object else None) here) ∙ is)
  where
    same_thing : (thing object : Object) → Some object ≡ Some thing → thing ≡ object
    same_thing thing object same = cc
made_last (first ∷ others) made object thing none is =
    by (is_number made first.0) none is (made_last others made object thing)
  where
    by : (here : Bool) → (if here then Some first.1 else numbered made others) ≡ None
        → (if here then Some first.1 else numbered made (others ++ (made, object) ∷ [])) ≡ Some thing
        → (numbered made others ≡ None → numbered made (others ++ (made, object) ∷ []) ≡ Some thing → thing ≡ object)
        → thing ≡ object
    by true none is deeper = absurd (cc)
    by false none is deeper = deeper none is

pub new_cells : CellsAreNew
new_cells = record {
  free = λ store number below above. no_cell store.cells store.cells_made number below above;
  variable = λ value store cell is. (
    ap (λ (found : CellNo). found.0) (one_of (is_too_deep 0 value) (fits (with_new_cell value store))
        (record { 0 = store.cells_made }) cell _ _ is),
    refl,
  );
  field = λ class fields field store thing cell there none is.
      let made = live (Fields class (cells_from store.cells_made fields)) in
      let same = made_last store.objects store.objects_made made thing none there in
      in_fields store.cells_made fields field cell
      (sym (ap (λ (found : Object). field_in field found.content) same) ∙ is);
}
