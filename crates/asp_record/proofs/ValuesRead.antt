-- A value that is read is the value that was written.
use Rattle.std.proofs.Common.{◌≡◌, ℕ, zero, suc, ◌+◌, ◌≤◌, Bool, true, false, cond, ltb, leb, eqb, ◌&&◌}
use Rattle.std.proofs.Common.{List, [], ◌∷◌, ◌++◌}
use Rattle.std.proofs.Common.{length, map, max, fold, ◌⊎◌, inl, inr, Option, Some, None, refl, sym, ap, subst}
use Rattle.std.proofs.Common.{◌∙◌, arith, ℤ, negsuc, int_le}
use Rattle.std.specs.Prelude.{codes, encode_utf8_all}
use Rattle.std.specs.List.{list_all, list_any}
use Rattle.std.specs.Fmt.{signed_decimal}
use Rattle.std.proofs.lemmas.Bool.Decides.{nat_tests}
use Rattle.std.proofs.lemmas.List.{length-map}
use Rattle.std.proofs.lemmas.Option.{cond_some, some_pair_parts}
use Rattle.vb_value.specs.declared.value.Array.{Array}
use Rattle.vb_value.specs.declared.value.Value.{Value, Empty, Null, Bool as Boolean, Int, Long, Cur, Str, roll-Value}
use Rattle.vb_value.specs.declared.value.Value.TheViews.{Arr, rolls-Empty, rolls-Null, rolls-Bool, rolls-Int}
use Rattle.vb_value.specs.declared.value.Value.TheViews.{rolls-Long}
use Rattle.vb_value.specs.declared.value.Value.TheViews.{rolls-Cur, rolls-Str}
use Rattle.vb_value.specs.declared.value.Value.TheOpen.{Value-F}
use Rattle.vb_value.specs.declared.value.Value.TheFolds.{fold-roll-Value}
use Rattle.vb_value.specs.Plain.{has_reference, depth_of, value_refers, array_refers, value_depth, array_depth}
use Rattle.vb_value.specs.Sound.{is_sound, value_sound, array_sound, item_count}
use Rattle.vb_value.proofs.Soundness.{sound-Arr}
use Rattle.asp_record.specs.Fields.{◌>>=◌, behind}
use Rattle.asp_record.specs.Journal.{is_int, is_long, is_ranged, value_ranged, array_ranged}
use Rattle.asp_record.specs.Lines.{hex, with_commas}
use Rattle.asp_record.specs.Values.{array_form, opening, value_form, value_text}
use Rattle.asp_record.specs.ReadingValues.{array_at, array_by, array_of, bounds_at, int_at, is_well_made}
use Rattle.asp_record.specs.ReadingValues.{list_at, long_at, signed_at, simple_by, string_at, text_at, value_at}
use Rattle.asp_record.specs.ReadingValues.{value_by}
use Rattle.asp_record.proofs.FieldLaws.{behind_is, step_is}
use Rattle.asp_record.proofs.ListLaws.{AreGood, list_right}
use Rattle.asp_record.proofs.ListReading.{value_is}
use Rattle.asp_record.proofs.SignedLaws.{long_is, signed_is}
use Rattle.asp_record.proofs.TextLaws.{text_is}
use Rattle.asp_record.proofs.ValueLaws.{IsGood, array_text, fold-Arr}

-- what was read was written
abbrev pub IsRight : ℕ → List ℕ → Value → List ℕ → Type 0
IsRight depth bytes value rest = (bytes ≡ value_text value ++ rest) × IsGood depth value

abbrev pub ReadsRightAt : ℕ → Type 0
ReadsRightAt depth = (bytes : List ℕ) (value : Value) (rest : List ℕ) → value_at depth bytes ≡ Some (value, rest)
    → IsRight depth bytes value rest

-- a test that led to a value
pub tested : {A : Type 0} (b : Bool) (x y : Option A) (r : A) → cond b x y ≡ Some r
    → ((b ≡ true) × (x ≡ Some r)) ⊎ ((b ≡ false) × (y ≡ Some r))
tested true x y r e = inl (refl, e)
tested false x y r e = inr (refl, e)

pub letter_is : (letter other : ℕ) → eqb letter other ≡ true → letter ≡ other
letter_is letter other e = grind (arith, nat_tests)

-- a value that is no array, by its one level
right_part : (depth : ℕ) (part : Value-F Value Array) (v value : Value) (letter : ℕ) (body bytes rest later : List ℕ)
    → roll-Value part ≡ v → value_text (roll-Value part) ≡ letter ∷ body → bytes ≡ letter ∷ (body ++ rest)
    → is_sound (roll-Value part) ≡ true → has_reference (roll-Value part) ≡ false → depth_of (roll-Value part) ≡ 0
    → is_ranged (roll-Value part) ≡ true → (v ≡ value) × (rest ≡ later) → IsRight depth bytes value later
right_part depth part v value letter body bytes rest later rolls text is sound free flat ranged same =
    let good : IsGood depth (roll-Value part) =
    record { sound = sound; free = free; flat = omega (arith, flat); ranged = ranged } in
    let rolled : roll-Value part ≡ value = rolls ∙ same.0 in (
      is ∙ ap (λ t. t ++ rest) (sym text) ∙ ap (λ v. value_text v ++ rest) rolled
          ∙ ap (λ r. value_text value ++ r) same.1,
      subst (IsGood depth) rolled good,
    )

module _ (depth letter : ℕ) (more : List ℕ) (value : Value) (rest : List ℕ) where
  text_fold : (part : Value-F Value Array) → List ℕ
  text_fold part = value_text (roll-Value part)

  empty_right : letter ≡ 101 → ◌≡◌ {A = Option (Value × List ℕ)} (Some (Empty, more)) (Some (value, rest))
      → IsRight depth (letter ∷ more) value rest
  empty_right is e = right_part depth Value-F.Empty Empty value 101 [] (letter ∷ more) more rest rolls-Empty
      (fold-roll-Value (List ℕ) (List ℕ) value_form array_form Value-F.Empty) (ap (λ l. l ∷ more) is)
      (fold-roll-Value Bool Bool value_sound array_sound Value-F.Empty)
      (fold-roll-Value Bool Bool value_refers array_refers Value-F.Empty)
      (fold-roll-Value ℕ ℕ value_depth array_depth Value-F.Empty)
      (fold-roll-Value Bool Bool value_ranged array_ranged Value-F.Empty)
      (some_pair_parts Empty value more rest e)

  null_right : letter ≡ 110 → ◌≡◌ {A = Option (Value × List ℕ)} (Some (Null, more)) (Some (value, rest))
      → IsRight depth (letter ∷ more) value rest
  null_right is e = right_part depth Value-F.Null Null value 110 [] (letter ∷ more) more rest rolls-Null
      (fold-roll-Value (List ℕ) (List ℕ) value_form array_form Value-F.Null) (ap (λ l. l ∷ more) is)
      (fold-roll-Value Bool Bool value_sound array_sound Value-F.Null)
      (fold-roll-Value Bool Bool value_refers array_refers Value-F.Null)
      (fold-roll-Value ℕ ℕ value_depth array_depth Value-F.Null)
      (fold-roll-Value Bool Bool value_ranged array_ranged Value-F.Null)
      (some_pair_parts Null value more rest e)

  true_right : letter ≡ 116 → ◌≡◌ {A = Option (Value × List ℕ)} (Some (Boolean true, more)) (Some (value, rest))
      → IsRight depth (letter ∷ more) value rest
  true_right is e = right_part depth (Value-F.Bool true) (Boolean true) value 116 [] (letter ∷ more) more rest
      (rolls-Bool true)
      (fold-roll-Value (List ℕ) (List ℕ) value_form array_form (Value-F.Bool true)) (ap (λ l. l ∷ more) is)
      (fold-roll-Value Bool Bool value_sound array_sound (Value-F.Bool true))
      (fold-roll-Value Bool Bool value_refers array_refers (Value-F.Bool true))
      (fold-roll-Value ℕ ℕ value_depth array_depth (Value-F.Bool true))
      (fold-roll-Value Bool Bool value_ranged array_ranged (Value-F.Bool true))
      (some_pair_parts (Boolean true) value more rest e)

  false_right : letter ≡ 102 → ◌≡◌ {A = Option (Value × List ℕ)} (Some (Boolean false, more)) (Some (value, rest))
      → IsRight depth (letter ∷ more) value rest
  false_right is e = right_part depth (Value-F.Bool false) (Boolean false) value 102 [] (letter ∷ more) more rest
      (rolls-Bool false)
      (fold-roll-Value (List ℕ) (List ℕ) value_form array_form (Value-F.Bool false)) (ap (λ l. l ∷ more) is)
      (fold-roll-Value Bool Bool value_sound array_sound (Value-F.Bool false))
      (fold-roll-Value Bool Bool value_refers array_refers (Value-F.Bool false))
      (fold-roll-Value ℕ ℕ value_depth array_depth (Value-F.Bool false))
      (fold-roll-Value Bool Bool value_ranged array_ranged (Value-F.Bool false))
      (some_pair_parts (Boolean false) value more rest e)

  number_text : (n : ℤ) (after : List ℕ) (l : ℕ) → letter ≡ l → more ≡ signed_decimal n ++ after
      → letter ∷ more ≡ l ∷ (signed_decimal n ++ after)
  number_text n after l is text = ap (λ k. k ∷ more) is ∙ ap (λ m. l ∷ m) text

  int_right : letter ≡ 105 → int_at more ≡ Some (value, rest) → IsRight depth (letter ∷ more) value rest
  unfolding int_at
  int_right is e =
      let a = step_is (signed_at more) (λ n. cond (is_int n.0) (Some (Int n.0, n.1)) None) (value, rest) e in
      let n = a.0 in
      let g = cond_some (is_int n.0) (Int n.0, n.1) (value, rest) a.2 in
      let text = signed_is more n.0 n.1 a.1 in
      right_part depth (Value-F.Int n.0) (Int n.0) value 105 (signed_decimal n.0) (letter ∷ more) n.1 rest
      (rolls-Int n.0)
      (fold-roll-Value (List ℕ) (List ℕ) value_form array_form (Value-F.Int n.0)) (number_text n.0 n.1 105 is text.0)
      (fold-roll-Value Bool Bool value_sound array_sound (Value-F.Int n.0))
      (fold-roll-Value Bool Bool value_refers array_refers (Value-F.Int n.0))
      (fold-roll-Value ℕ ℕ value_depth array_depth (Value-F.Int n.0))
      (fold-roll-Value Bool Bool value_ranged array_ranged (Value-F.Int n.0) ∙ g.0)
      (some_pair_parts (Int n.0) value n.1 rest (ap (λ p. Some p) g.1))

  long_right : letter ≡ 108 → ◌>>=◌ {B = Value × List ℕ} (long_at more) (λ n. Some (Long n.0, n.1)) ≡ Some (value, rest)
      → IsRight depth (letter ∷ more) value rest
  long_right is e =
      let a = step_is (long_at more) (λ n. Some (Long n.0, n.1)) (value, rest) e in
      let n = a.0 in
      let text = long_is more n.0 n.1 a.1 in
      right_part depth (Value-F.Long n.0) (Long n.0) value 108 (signed_decimal n.0) (letter ∷ more) n.1 rest
      (rolls-Long n.0)
      (fold-roll-Value (List ℕ) (List ℕ) value_form array_form (Value-F.Long n.0)) (number_text n.0 n.1 108 is text.0)
      (fold-roll-Value Bool Bool value_sound array_sound (Value-F.Long n.0))
      (fold-roll-Value Bool Bool value_refers array_refers (Value-F.Long n.0))
      (fold-roll-Value ℕ ℕ value_depth array_depth (Value-F.Long n.0))
      (fold-roll-Value Bool Bool value_ranged array_ranged (Value-F.Long n.0) ∙ text.1)
      (some_pair_parts (Long n.0) value n.1 rest a.2)

  cur_right : letter ≡ 99 → ◌>>=◌ {B = Value × List ℕ} (signed_at more) (λ n. Some (Cur n.0, n.1)) ≡ Some (value, rest)
      → IsRight depth (letter ∷ more) value rest
  cur_right is e =
      let a = step_is (signed_at more) (λ n. Some (Cur n.0, n.1)) (value, rest) e in
      let n = a.0 in
      let text = signed_is more n.0 n.1 a.1 in
      right_part depth (Value-F.Cur n.0) (Cur n.0) value 99 (signed_decimal n.0) (letter ∷ more) n.1 rest
      (rolls-Cur n.0)
      (fold-roll-Value (List ℕ) (List ℕ) value_form array_form (Value-F.Cur n.0)) (number_text n.0 n.1 99 is text.0)
      (fold-roll-Value Bool Bool value_sound array_sound (Value-F.Cur n.0))
      (fold-roll-Value Bool Bool value_refers array_refers (Value-F.Cur n.0))
      (fold-roll-Value ℕ ℕ value_depth array_depth (Value-F.Cur n.0))
      (fold-roll-Value Bool Bool value_ranged array_ranged (Value-F.Cur n.0) ∙ text.1)
      (some_pair_parts (Cur n.0) value n.1 rest a.2)

  str_right : letter ≡ 115 → string_at more ≡ Some (value, rest) → IsRight depth (letter ∷ more) value rest
  unfolding string_at
  str_right is e =
      let a = step_is (text_at more) (λ t. cond (ltb (length t.0) 2147483648) (Some (Str t.0, t.1)) None)
      (value, rest) e in
      let t = a.0 in
      let g = cond_some (ltb (length t.0) 2147483648) (Str t.0, t.1) (value, rest) a.2 in
      let text = text_is more t.0 t.1 a.1 in
      right_part depth (Value-F.Str t.0) (Str t.0) value 115 (hex (encode_utf8_all t.0)) (letter ∷ more) t.1 rest
      (rolls-Str t.0)
      (fold-roll-Value (List ℕ) (List ℕ) value_form array_form (Value-F.Str t.0))
      (ap (λ k. k ∷ more) is ∙ ap (λ m. 115 ∷ m) text.0)
      (fold-roll-Value Bool Bool value_sound array_sound (Value-F.Str t.0) ∙ g.0)
      (fold-roll-Value Bool Bool value_refers array_refers (Value-F.Str t.0))
      (fold-roll-Value ℕ ℕ value_depth array_depth (Value-F.Str t.0))
      (fold-roll-Value Bool Bool value_ranged array_ranged (Value-F.Str t.0) ∙ text.1)
      (some_pair_parts (Str t.0) value t.1 rest (ap (λ p. Some p) g.1))

  simple_right : simple_by letter more ≡ Some (value, rest) → IsRight depth (letter ∷ more) value rest
  simple_right e = elim (tested (eqb letter 101) _ _ (value, rest) e) [
    | inl a ↦ empty_right (letter_is letter 101 a.0) a.1
    | inr a ↦ elim (tested (eqb letter 110) _ _ (value, rest) a.1) [
      | inl b ↦ null_right (letter_is letter 110 b.0) b.1
      | inr b ↦ elim (tested (eqb letter 116) _ _ (value, rest) b.1) [
        | inl c ↦ true_right (letter_is letter 116 c.0) c.1
        | inr c ↦ elim (tested (eqb letter 102) _ _ (value, rest) c.1) [
          | inl d ↦ false_right (letter_is letter 102 d.0) d.1
          | inr d ↦ elim (tested (eqb letter 105) _ _ (value, rest) d.1) [
            | inl f ↦ int_right (letter_is letter 105 f.0) f.1
            | inr f ↦ elim (tested (eqb letter 108) _ _ (value, rest) f.1) [
              | inl g ↦ long_right (letter_is letter 108 g.0) g.1
              | inr g ↦ elim (tested (eqb letter 99) _ _ (value, rest) g.1) [
                | inl h ↦ cur_right (letter_is letter 99 h.0) h.1
                | inr h ↦ elim (tested (eqb letter 115) _ _ (value, rest) h.1) [
                  | inl i ↦ str_right (letter_is letter 115 i.0) i.1
                  | inr i ↦ let no = i.1 in absurd cc
                ]
              ]
            ]
          ]
        ]
      ]
    ]
  ]

-- ---- arrays

all_facts : (depth most : ℕ) (items : List Value) → most ≤ depth → AreGood (IsGood depth) items
    → (list_all (λ s. s) (map is_sound items) ≡ true) × (list_any (λ r. r) (map has_reference items) ≡ false)
    × (fold max most (map depth_of items) ≤ depth) × (list_all (λ r. r) (map is_ranged items) ≡ true)
all_facts depth most [] low all = (refl, refl, low, refl)
all_facts depth most (item ∷ items) low all =
    let flat : depth_of item ≤ depth = all.0.flat in
    let more = all_facts depth (max most (depth_of item)) items (omega (arith, low, flat)) all.1 in
    (rw (all.0.sound, more.0) refl, rw (all.0.free, more.1) refl, more.2, rw (all.0.ranged, more.3) refl)

all_longs : (bounds : List ℤ) → AreGood (λ bound. is_long bound ≡ true) bounds → list_all is_long bounds ≡ true
all_longs [] all = refl
all_longs (bound ∷ bounds) all = rw (all.0, all_longs bounds all.1) refl

joined : (b c : Bool) → b ≡ true → c ≡ true → b && c ≡ true
joined b c first second = rw (first, second) refl

array_right : (depth : ℕ) (fixed : Bool) (more : List ℕ) (value : Value) (rest : List ℕ) → ReadsRightAt depth
    → array_at (value_at depth) fixed more ≡ Some (value, rest) → IsRight (suc depth) (opening fixed ++ more) value rest
unfolding array_at bounds_at
array_right depth fixed more value rest lower e =
    let a = step_is (bounds_at more) (λ bounds. list_at (value_at depth)
    (codes "]") bounds.1 >>= array_of fixed bounds.0) (value, rest) e in
    let bounds = a.0.0 in
    let after = a.0.1 in
    let b = step_is (list_at (value_at depth) (codes "]") after) (array_of fixed bounds) (value, rest) a.2 in
    let items = b.0.0 in
    let last = b.0.1 in
    let array : Array = record { bounds = bounds; fixed = fixed; items = items } in
    let g = cond_some (is_well_made bounds (length items)) (Arr array, last) (value, rest) b.2 in
    let same = some_pair_parts (Arr array) value last rest (ap (λ p. Some p) g.1) in
    let first = list_right long_at signed_decimal (λ bound. is_long bound ≡ true) (codes "|") more bounds after
    (λ bs n r f. long_is bs n r f) a.1 in
    let second = list_right (value_at depth) value_text (IsGood depth) (codes "]") after items last lower b.1 in
    let facts = all_facts depth 0 items (omega arith) second.1 in
    let flat = facts.2 in
    let deep : depth_of (Arr array) ≡ 1 + fold max 0 (map depth_of items) =
    fold-Arr ℕ ℕ value_depth array_depth array in
    let size : length (map is_sound items) ≡ length items = length-map items is_sound in
    let made : (leb (length bounds) 60 && list_all (λ bound. int_le (negsuc 0) bound) bounds
    && (eqb (length (map is_sound items)) (item_count bounds))) ≡ true =
    ap (λ n. leb (length bounds) 60 && list_all (λ bound. int_le (negsuc 0) bound) bounds &&
    (eqb n (item_count bounds))) size ∙ g.0 in
    let good : IsGood (suc depth) (Arr array) = record {
      sound = sound-Arr array ∙ joined _ _ made facts.0;
      free = fold-Arr Bool Bool value_refers array_refers array ∙ facts.1;
      flat = omega (arith, deep, flat);
      ranged = fold-Arr Bool Bool value_ranged array_ranged array ∙ joined _ _ (all_longs bounds first.1) facts.3;
    } in
    let text : opening fixed ++ more ≡ value_text (Arr array) ++ last =
    ap (λ l. opening fixed ++ l)
    (first.0 ∙ ap (λ l. with_commas (map signed_decimal bounds) ++ (codes "|" ++ l)) second.0)
    ∙ sym (array_text array last) in (
      text ∙ ap (λ v. value_text v ++ last) same.0 ∙ ap (λ l. value_text value ++ l) same.1,
      subst (IsGood (suc depth)) same.0 good,
    )

ArrayRight : ℕ → Type 0
ArrayRight depth = (fixed : Bool) (more : List ℕ) (value : Value) (rest : List ℕ)
    → array_by value_at depth fixed more ≡ Some (value, rest)
    → IsRight depth (opening fixed ++ more) value rest

any_right : (depth letter : ℕ) (more : List ℕ) (value : Value) (rest : List ℕ) → ArrayRight depth
    → value_by (array_by value_at depth) letter more ≡ Some (value, rest) → IsRight depth (letter ∷ more) value rest
unfolding ArrayRight
any_right depth letter more value rest arrays e = elim (tested (eqb letter 91) _ _ (value, rest) e) [
  | inl a ↦ subst (λ l. IsRight depth (l ∷ more) value rest) (sym (letter_is letter 91 a.0))
      (arrays false more value rest a.1)
  | inr a ↦ elim (tested (eqb letter 33) _ _ (value, rest) a.1) [
    | inl b ↦
        let s = step_is (behind (codes "[") more) (array_by value_at depth true) (value, rest) b.1 in
        let open_is = behind_is (codes "[") more s.0 s.1 in
        subst (λ l. IsRight depth l value rest) (sym (ap (λ l. l ∷ more) (letter_is letter 33 b.0)
        ∙ ap (λ m. 33 ∷ m) open_is)) (arrays true s.0 value rest s.2)
    | inr b ↦ simple_right depth letter more value rest b.1
  ]
]

from_arrays : (depth : ℕ) → ArrayRight depth → ReadsRightAt depth
from_arrays depth arrays [] value rest e = let no = sym (value_is depth []) ∙ e in absurd cc
from_arrays depth arrays (letter ∷ more) value rest e =
    any_right depth letter more value rest arrays (sym (value_is depth (letter ∷ more)) ∙ e)

pub value_right : (depth : ℕ) → ReadsRightAt depth
unfolding ArrayRight
value_right zero = from_arrays zero (λ fixed more value rest e. absurd
    (let no : ◌≡◌ {A = Option (Value × List ℕ)} None (Some (value, rest)) = e in cc))
value_right (suc depth) =
    from_arrays (suc depth) (λ fixed more value rest e. array_right depth fixed more value rest (value_right depth) e)
