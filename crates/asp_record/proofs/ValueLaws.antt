-- A value that is read is the value that was written, and what was written is read again.
use Rattle.std.proofs.Common.{◌≡◌, ℕ, zero, suc, ◌+◌, ◌^◌, ◌<◌, ◌≤◌, Bool, true, false, ltb, leb, eqb}
use Rattle.std.proofs.Common.{◌&&◌, List, [], ◌∷◌, ◌++◌}
use Rattle.std.proofs.Common.{length, map, max, fold, ◌||◌, Some, None, refl, sym, ap, subst, ◌∙◌}
use Rattle.std.proofs.Common.{append_assoc, arith, ℤ, pos, negsuc, int_le}
use Rattle.std.specs.Prelude.{codes, encode_utf8_all}
use Rattle.std.specs.List.{list_all, list_any}
use Rattle.std.specs.Char.{digit_value}
use Rattle.std.specs.Str.Parse.{AllDigits}
use Rattle.std.proofs.lemmas.Fmt.{decimal_is_IsNumeral}
use Rattle.std.specs.Fmt.{decimal, signed_decimal}
use Rattle.std.proofs.Math.Utf8.{scalars}
use Rattle.std.proofs.lemmas.Bool.Decides.{nat_tests}
use Rattle.std.proofs.lemmas.List.{length-map}
use Rattle.vb_value.specs.declared.value.Array.{Array}
use Rattle.vb_value.specs.declared.value.Value.{Value, Empty, Null, Bool as Boolean, Int, Long, Cur, Str}
use Rattle.vb_value.specs.declared.value.Value.{out-Value, roll-Value, roll-out-Value}
use Rattle.vb_value.specs.declared.value.Value.TheViews.{Arr, rolls-Empty, rolls-Null, rolls-Bool, rolls-Int}
use Rattle.vb_value.specs.declared.value.Value.TheViews.{rolls-Long}
use Rattle.vb_value.specs.declared.value.Value.TheViews.{rolls-Cur, rolls-Str, rolls-Arr}
use Rattle.vb_value.specs.declared.value.Value.TheOpen.{Value-F, Array-F}
use Rattle.vb_value.specs.declared.value.Value.TheFolds.{fold-Value, fold-roll-Value, fold_out-Array}
use Rattle.vb_value.specs.Plain.{has_reference, depth_of, value_refers, array_refers, value_depth, array_depth}
use Rattle.vb_value.specs.Sound.{is_sound, value_sound, array_sound, item_count}
use Rattle.vb_value.proofs.Soundness.{sound-Arr}
use Rattle.asp_record.specs.Fields.{◌>>=◌, behind}
use Rattle.asp_record.specs.Journal.{is_int, is_long, is_ranged, is_wide, value_ranged, array_ranged}
use Rattle.asp_record.specs.Lines.{hex, with_commas}
use Rattle.asp_record.specs.Values.{array_form, opening, value_form, value_text}
use Rattle.asp_record.specs.ReadingValues.{array_at, array_by, bounds_at, int_at, is_well_made}
use Rattle.asp_record.specs.ReadingValues.{long_at, string_at, value_at, value_by}
use Rattle.asp_record.specs.ReadingLines.{reply_at, value_reply_at, word_reply_at}
use Rattle.asp_record.proofs.ListLaws.{AreGood, list_again}
use Rattle.asp_record.proofs.ListReading.{value_is}
use Rattle.asp_record.proofs.SignedLaws.{IsCut, long_again, signed_again}
use Rattle.asp_record.proofs.TextLaws.{text_again}

-- what may be read: sound, without references, its arrays so deep at most, and of the ranges of its types
pub record IsGood (depth : ℕ) (value : Value) : Type 0 where
  pub sound : is_sound value ≡ true
  pub free : has_reference value ≡ false
  pub flat : depth_of value ≤ depth
  pub ranged : is_ranged value ≡ true

-- the text of a value that is no array
text_of_part : (part : Value-F Value Array) → List ℕ
text_of_part part = value_text (roll-Value part)

pub int_wide : (n : ℤ) → is_int n ≡ true → is_wide n ≡ true
int_wide (pos n) int = grind (arith, nat_tests)
int_wide (negsuc n) int = grind (arith, nat_tests)

int_again : (n : ℤ) (rest : List ℕ) → is_int n ≡ true → IsCut rest →
    int_at (signed_decimal n ++ rest) ≡ Some (Int n, rest)
unfolding int_at
int_again n rest int cut = rw (signed_again n rest (int_wide n int) cut, int) refl

string_again : (text rest : List ℕ) → scalars text ≡ true → length text < 2147483648 → IsCut rest
    → string_at (hex (encode_utf8_all text) ++ rest) ≡ Some (Str text, rest)
unfolding string_at
string_again text rest is short cut =
    let low : ltb (length text) 2147483648 ≡ true = grind (arith, nat_tests) in
    rw (text_again text rest is cut, low) refl

-- a letter, and what is read behind it
pub behind_letter : (depth letter : ℕ) (rest : List ℕ)
    → value_at depth (letter ∷ rest) ≡ value_by (array_by value_at depth) letter rest
behind_letter depth letter rest = value_is depth (letter ∷ rest)

pub both : (b c : Bool) → b && c ≡ true → (b ≡ true) × (c ≡ true)
both true c e = (refl, e)
both false c e = absurd cc

all_long : (bounds : List ℤ) → list_all is_long bounds ≡ true → AreGood (λ bound. is_long bound ≡ true) bounds
all_long [] all = tt
all_long (bound ∷ bounds) all =
    let parts = both (is_long bound) (list_all is_long bounds) all in
    (parts.0, all_long bounds parts.1)

neither : (b c : Bool) → b || c ≡ false → (b ≡ false) × (c ≡ false)
neither false c e = (refl, e)
neither true c e = absurd cc

all_good : (depth most : ℕ) (items : List Value) → list_all (λ sound. sound) (map is_sound items) ≡ true
    → list_any (λ refers. refers) (map has_reference items) ≡ false → fold max most (map depth_of items) ≤ depth
    → list_all (λ ranged. ranged) (map is_ranged items) ≡ true → (most ≤ depth) × AreGood (IsGood depth) items
all_good depth most [] sound free flat ranged = (flat, tt)
all_good depth most (item ∷ items) sound free flat ranged =
    let a = both (is_sound item) (list_all (λ s. s) (map is_sound items)) sound in
    let b = neither (has_reference item) (list_any (λ r. r) (map has_reference items)) free in
    let c = both (is_ranged item) (list_all (λ r. r) (map is_ranged items)) ranged in
    let more = all_good depth (max most (depth_of item)) items a.1 b.1 flat c.1 in
    let deepest : max most (depth_of item) ≤ depth = more.0 in
    (omega (arith, deepest), (record { sound = a.0; free = b.0; flat = omega (arith, deepest); ranged = c.0 }, more.1))

-- a fold over an array is one step on the folds over its items
pub fold-Arr : (A B : Type 0) (step : Value-F A B → A) (each : Array-F A B → B) (array : Array)
    → fold-Value A B step each (Arr array) ≡ step
    (Value-F.Arr
    (each (record
    { bounds = array.bounds; fixed = array.fixed; items = map (fold-Value A B step each) array.items })))
fold-Arr A B step each array =
    ap (fold-Value A B step each) (sym (rolls-Arr array))
    ∙ fold-roll-Value A B step each (Value-F.Arr array)
    ∙ ap (λ part. step (Value-F.Arr part)) (fold_out-Array A B step each array)

-- digits and a sign end no list of bounds
no_bar_digits : (digits rest : List ℕ) → 0 < length digits → AllDigits 10 digits → behind (codes "|")
    (digits ++ rest) ≡ None
no_bar_digits [] rest some all = absurd (omega (arith, some))
no_bar_digits (d ∷ digits) rest some all =
    let low : digit_value d < 10 = all.0 in
    let other : eqb d 124 ≡ false = grind (arith, nat_tests) in
    rw other refl

no_bar : (n : ℤ) (rest : List ℕ) → is_long n ≡ true → behind (codes "|") (signed_decimal n ++ rest) ≡ None
no_bar (pos n) rest long =
    let small : n < 2147483648 = grind (arith, nat_tests) in
    let numeral = decimal_is_IsNumeral n (omega arith) in
    no_bar_digits (decimal n) rest numeral.0.0 numeral.0.1
no_bar (negsuc n) rest long = refl

bounds_again : (bounds : List ℤ) (rest : List ℕ) → list_all is_long bounds ≡ true
    → bounds_at (with_commas (map signed_decimal bounds) ++ (codes "|" ++ rest)) ≡ Some (bounds, rest)
unfolding bounds_at
bounds_again bounds rest all =
    list_again long_at signed_decimal (λ bound. is_long bound ≡ true) (codes "|") rest bounds
    (λ n later long cut. long_again n later long cut) (record { cuts = λ later. refl; apart = λ later. refl })
    (omega arith)
    (λ n later long. no_bar n later long) (all_long bounds all)

-- a value and what its array's items are read as
abbrev pub ReadsAt : ℕ → Type 0
ReadsAt depth = (value : Value) (rest : List ℕ) → IsGood depth value → IsCut rest
    → value_at depth (value_text value ++ rest) ≡ Some (value, rest)

parts : (a b c d e rest : List ℕ) → (((a ++ b) ++ c) ++ d ++ e) ++ rest ≡ a ++ (b ++ (c ++ (d ++ (e ++ rest))))
parts a b c d e rest = simp append_assoc

pub array_text : (array : Array) (rest : List ℕ) → value_text (Arr array) ++ rest
    ≡ opening array.fixed ++ (with_commas (map signed_decimal array.bounds)
    ++ (codes "|" ++ (with_commas (map value_text array.items) ++ (codes "]" ++ rest))))
array_text array rest =
    ap (λ t. t ++ rest) (fold-Arr (List ℕ) (List ℕ) value_form array_form array)
    ∙ parts (opening array.fixed) (with_commas (map signed_decimal array.bounds)) (codes "|")
    (with_commas (map value_text array.items)) (codes "]") rest

-- how a value's text begins: with no `]`
record Starts (text : List ℕ) : Type 0 where
  letter : ℕ
  more : List ℕ
  text_is : text ≡ letter ∷ more
  apart : eqb letter 93 ≡ false
  falls : (rest : List ℕ) → reply_at (letter ∷ (more ++ 10 ∷ rest)) ≡ value_reply_at (letter ∷ (more ++ 10 ∷ rest))

folded_text : (part : Value-F Value Array) (text : List ℕ) → value_text (roll-Value part) ≡ text → Starts text →
    Starts (value_text (roll-Value part))
folded_text part text e starts = record {
  letter = starts.letter;
  more = starts.more;
  text_is = e ∙ starts.text_is;
  apart = starts.apart;
  falls = starts.falls;
}

opened_starts : (fixed : Bool) (rest : List ℕ) → Starts (opening fixed ++ rest)
unfolding reply_at word_reply_at
opened_starts true rest = record { letter = 33; more = 91 ∷ rest; text_is = refl; apart = refl; falls = λ later. refl }
opened_starts false rest = record { letter = 91; more = rest; text_is = refl; apart = refl; falls = λ later. refl }

-- the text of one level of a value
level : (part : Value-F Value Array) → List ℕ
level part = value_text (roll-Value part)

array_rest : Array → List ℕ
array_rest array = with_commas (map signed_decimal array.bounds)
    ++ (codes "|" ++ (with_commas (map value_text array.items) ++ codes "]"))

array_whole : (array : Array) → value_text (Arr array) ≡ opening array.fixed ++ array_rest array
unfolding array_rest
array_whole array =
    fold-Arr (List ℕ) (List ℕ) value_form array_form array
    ∙ simp append_assoc

starts_at : (depth : ℕ) (part : Value-F Value Array) → IsGood depth (roll-Value part) →
    Starts (value_text (roll-Value part))
unfolding reply_at word_reply_at
starts_at depth Value-F.Empty good = folded_text Value-F.Empty (codes "e")
    (fold-roll-Value (List ℕ) (List ℕ) value_form array_form Value-F.Empty)
    (record { letter = 101; more = []; text_is = refl; apart = refl; falls = λ later. refl })
starts_at depth Value-F.Null good = folded_text Value-F.Null (codes "n")
    (fold-roll-Value (List ℕ) (List ℕ) value_form array_form Value-F.Null)
    (record { letter = 110; more = []; text_is = refl; apart = refl; falls = λ later. refl })
starts_at depth (Value-F.Bool true) good = folded_text (Value-F.Bool true) (codes "t")
    (fold-roll-Value (List ℕ) (List ℕ) value_form array_form (Value-F.Bool true))
    (record { letter = 116; more = []; text_is = refl; apart = refl; falls = λ later. refl })
starts_at depth (Value-F.Bool false) good = folded_text (Value-F.Bool false) (codes "f")
    (fold-roll-Value (List ℕ) (List ℕ) value_form array_form (Value-F.Bool false))
    (record { letter = 102; more = []; text_is = refl; apart = refl; falls = λ later. refl })
starts_at depth (Value-F.Int n) good = folded_text (Value-F.Int n) (105 ∷ signed_decimal n)
    (fold-roll-Value (List ℕ) (List ℕ) value_form array_form (Value-F.Int n))
    (record { letter = 105; more = signed_decimal n; text_is = refl; apart = refl; falls = λ later. refl })
starts_at depth (Value-F.Long n) good = folded_text (Value-F.Long n) (108 ∷ signed_decimal n)
    (fold-roll-Value (List ℕ) (List ℕ) value_form array_form (Value-F.Long n))
    (record { letter = 108; more = signed_decimal n; text_is = refl; apart = refl; falls = λ later. refl })
starts_at depth (Value-F.Cur n) good = folded_text (Value-F.Cur n) (99 ∷ signed_decimal n)
    (fold-roll-Value (List ℕ) (List ℕ) value_form array_form (Value-F.Cur n))
    (record { letter = 99; more = signed_decimal n; text_is = refl; apart = refl; falls = λ later. refl })
starts_at depth (Value-F.Str text) good = folded_text (Value-F.Str text) (115 ∷ hex (encode_utf8_all text))
    (fold-roll-Value (List ℕ) (List ℕ) value_form array_form (Value-F.Str text))
    (record { letter = 115; more = hex (encode_utf8_all text); text_is = refl; apart = refl; falls = λ later. refl })
starts_at depth (Value-F.Arr array) good = folded_text (Value-F.Arr array) (opening array.fixed ++ array_rest array)
    (ap value_text (rolls-Arr array) ∙ array_whole array) (opened_starts array.fixed (array_rest array))
starts_at depth (Value-F.Obj object) good =
    absurd (let refers : has_reference (roll-Value (Value-F.Obj object)) ≡ true =
    fold-roll-Value Bool Bool value_refers array_refers (Value-F.Obj object) in
    let free = good.free in let no : true ≡ false = sym refers ∙ free in cc)
starts_at depth Value-F.Nothing good =
    absurd (let refers : has_reference (roll-Value Value-F.Nothing) ≡ true =
    fold-roll-Value Bool Bool value_refers array_refers Value-F.Nothing in
    let free = good.free in let no : true ≡ false = sym refers ∙ free in cc)

not_bracket : (text rest : List ℕ) → Starts text → behind (codes "]") (text ++ rest) ≡ None
not_bracket text rest starts =
    let other = starts.apart in
    let more = starts.more in
    ap (λ t. behind (codes "]") (t ++ rest)) starts.text_is ∙ rw other refl

-- the letter of a value is no `]`
no_bracket : (depth : ℕ) (value : Value) (rest : List ℕ) → IsGood depth value →
    behind (codes "]") (value_text value ++ rest) ≡ None
no_bracket depth value rest good =
    let same = roll-out-Value value in
    let starts = starts_at depth (out-Value value) (subst (IsGood depth) (sym same) good) in
    ap (λ v. behind (codes "]") (value_text v ++ rest)) (sym same)
    ∙ not_bracket (value_text (roll-Value (out-Value value))) rest starts

within : (depth : ℕ) (array : Array) (rest : List ℕ) → ReadsAt depth → IsGood (suc depth) (Arr array)
    → array_at (value_at depth) array.fixed (with_commas (map signed_decimal array.bounds)
    ++ (codes "|" ++ (with_commas (map value_text array.items) ++ (codes "]" ++ rest)))) ≡ Some (Arr array, rest)
unfolding array_at
within depth array rest reads good =
    let sound : (leb (length array.bounds) 60 && list_all (λ bound. int_le (negsuc 0) bound) array.bounds
    && (eqb (length (map is_sound array.items)) (item_count array.bounds)) && list_all (λ s. s)
    (map is_sound array.items)) ≡ true =
    sym (sound-Arr array) ∙ good.sound in
    let free : list_any (λ r. r) (map has_reference array.items) ≡ false =
    sym (fold-Arr Bool Bool value_refers array_refers array) ∙ good.free in
    let deep : depth_of (Arr array) ≡ 1 + fold max 0 (map depth_of array.items) =
    fold-Arr ℕ ℕ value_depth array_depth array in
    let flat : depth_of (Arr array) ≤ suc depth = good.flat in
    let ranged : (list_all is_long array.bounds && list_all (λ r. r) (map is_ranged array.items)) ≡ true =
    sym (fold-Arr Bool Bool value_ranged array_ranged array) ∙ good.ranged in
    let a = both _ _ sound in
    let r = both _ _ ranged in
    let all = all_good depth 0 array.items a.1 free (omega (arith, deep, flat)) r.1 in
    let size : length (map is_sound array.items) ≡ length array.items = length-map array.items is_sound in
    let made : is_well_made array.bounds (length array.items) ≡ true = ap (λ n. leb (length array.bounds) 60
    && list_all (λ bound. int_le (negsuc 0) bound) array.bounds && (eqb n (item_count array.bounds))) (sym size)
    ∙ a.0 in
    let items = list_again (value_at depth) value_text (IsGood depth) (codes "]") rest array.items reads
    (record { cuts = λ later. refl; apart = λ later. refl }) (omega arith) (no_bracket depth) all.1 in
    rw (bounds_again array.bounds (with_commas (map value_text array.items) ++ (codes "]" ++ rest)) r.0, items, made)
    refl

opened : (depth : ℕ) (fixed : Bool) (rest : List ℕ) → value_at (suc depth)
    (opening fixed ++ rest) ≡ array_at (value_at depth) fixed rest
opened depth true rest = behind_letter (suc depth) 33 (91 ∷ rest)
opened depth false rest = behind_letter (suc depth) 91 rest

array_again : (depth : ℕ) (array : Array) (rest : List ℕ) → ReadsAt depth → IsGood (suc depth) (Arr array)
    → value_at (suc depth) (value_text (Arr array) ++ rest) ≡ Some (Arr array, rest)
array_again depth array rest reads good =
    ap (value_at (suc depth)) (array_text array rest) ∙ opened depth array.fixed _ ∙ within depth array rest reads good

from_text : (depth : ℕ) (v w : Value) (text rest : List ℕ) → value_text v ≡ text →
    value_at depth (text ++ rest) ≡ Some (w, rest) → v ≡ w
    → value_at depth (value_text v ++ rest) ≡ Some (v, rest)
from_text depth v w text rest e read same = ap (λ t. value_at depth (t ++ rest)) e ∙ read
    ∙ ap (λ u. Some (u, rest)) (sym same)

deep : (array : Array) → depth_of (Arr array) ≤ 0 → ⊥
deep array flat =
    let is : depth_of (Arr array) ≡ 1 + fold max 0 (map depth_of array.items) =
    fold-Arr ℕ ℕ value_depth array_depth array in
    omega (arith, is, flat)

part_again : (depth : ℕ) (part : Value-F Value Array) (rest : List ℕ) → ((d : ℕ) → depth ≡ suc d → ReadsAt d)
    → IsGood depth (roll-Value part) → IsCut rest → value_at depth (value_text (roll-Value part) ++ rest)
    ≡ Some (roll-Value part, rest)
part_again depth Value-F.Empty rest lower good cut = from_text depth (roll-Value Value-F.Empty) Empty (codes "e") rest
    (fold-roll-Value (List ℕ) (List ℕ) value_form array_form Value-F.Empty) (behind_letter depth 101 rest) rolls-Empty
part_again depth Value-F.Null rest lower good cut = from_text depth (roll-Value Value-F.Null) Null (codes "n") rest
    (fold-roll-Value (List ℕ) (List ℕ) value_form array_form Value-F.Null) (behind_letter depth 110 rest) rolls-Null
part_again depth (Value-F.Bool true) rest lower good cut =
    from_text depth (roll-Value (Value-F.Bool true)) (Boolean true) (codes "t") rest
    (fold-roll-Value (List ℕ) (List ℕ) value_form array_form (Value-F.Bool true)) (behind_letter depth 116 rest)
    (rolls-Bool true)
part_again depth (Value-F.Bool false) rest lower good cut =
    from_text depth (roll-Value (Value-F.Bool false)) (Boolean false) (codes "f") rest
    (fold-roll-Value (List ℕ) (List ℕ) value_form array_form (Value-F.Bool false)) (behind_letter depth 102 rest)
    (rolls-Bool false)
part_again depth (Value-F.Int n) rest lower good cut =
    let fits : is_int n ≡ true = sym (fold-roll-Value Bool Bool value_ranged array_ranged (Value-F.Int n))
    ∙ good.ranged in
    from_text depth (roll-Value (Value-F.Int n)) (Int n) (105 ∷ signed_decimal n) rest
    (fold-roll-Value (List ℕ) (List ℕ) value_form array_form (Value-F.Int n))
    (behind_letter depth 105 (signed_decimal n ++ rest) ∙ int_again n rest fits cut) (rolls-Int n)
part_again depth (Value-F.Long n) rest lower good cut =
    let fits : is_long n ≡ true = sym (fold-roll-Value Bool Bool value_ranged array_ranged (Value-F.Long n))
    ∙ good.ranged in
    from_text depth (roll-Value (Value-F.Long n)) (Long n) (108 ∷ signed_decimal n) rest
    (fold-roll-Value (List ℕ) (List ℕ) value_form array_form (Value-F.Long n))
    (behind_letter depth 108 (signed_decimal n ++ rest) ∙ ap (λ o. o >>= λ m. Some (Long m.0, m.1))
    (long_again n rest fits cut)) (rolls-Long n)
part_again depth (Value-F.Cur n) rest lower good cut =
    let fits : is_wide n ≡ true = sym (fold-roll-Value Bool Bool value_ranged array_ranged (Value-F.Cur n))
    ∙ good.ranged in
    from_text depth (roll-Value (Value-F.Cur n)) (Cur n) (99 ∷ signed_decimal n) rest
    (fold-roll-Value (List ℕ) (List ℕ) value_form array_form (Value-F.Cur n))
    (behind_letter depth 99 (signed_decimal n ++ rest) ∙ ap (λ o. o >>= λ m. Some (Cur m.0, m.1))
    (signed_again n rest fits cut)) (rolls-Cur n)
part_again depth (Value-F.Str text) rest lower good cut =
    let fits : scalars text ≡ true = sym (fold-roll-Value Bool Bool value_ranged array_ranged (Value-F.Str text))
    ∙ good.ranged in
    let short : ltb (length text) (2 ^ 31) ≡ true =
    sym (fold-roll-Value Bool Bool value_sound array_sound (Value-F.Str text)) ∙ good.sound in
    let few : length text < 2147483648 = grind (arith, nat_tests) in
    from_text depth (roll-Value (Value-F.Str text)) (Str text) (115 ∷ hex (encode_utf8_all text)) rest
    (fold-roll-Value (List ℕ) (List ℕ) value_form array_form (Value-F.Str text))
    (behind_letter depth 115 (hex (encode_utf8_all text) ++ rest) ∙ string_again text rest fits few cut)
    (rolls-Str text)
part_again zero (Value-F.Arr array) rest lower good cut =
    absurd (deep array (subst (λ v. depth_of v ≤ 0) (rolls-Arr array) good.flat))
part_again (suc depth) (Value-F.Arr array) rest lower good cut =
    subst (λ v. value_at (suc depth) (value_text v ++ rest) ≡ Some (v, rest)) (sym (rolls-Arr array))
    (array_again depth array rest (lower depth refl) (subst (IsGood (suc depth)) (rolls-Arr array) good))
part_again depth (Value-F.Obj object) rest lower good cut =
    absurd (let refers : has_reference (roll-Value (Value-F.Obj object)) ≡ true =
    fold-roll-Value Bool Bool value_refers array_refers (Value-F.Obj object) in
    let free = good.free in let no : true ≡ false = sym refers ∙ free in cc)
part_again depth Value-F.Nothing rest lower good cut =
    absurd (let refers : has_reference (roll-Value Value-F.Nothing) ≡ true =
    fold-roll-Value Bool Bool value_refers array_refers Value-F.Nothing in
    let free = good.free in let no : true ≡ false = sym refers ∙ free in cc)

reads_at : (depth : ℕ) → ((d : ℕ) → depth ≡ suc d → ReadsAt d) → ReadsAt depth
reads_at depth lower value rest good cut =
    let same = roll-out-Value value in
    subst (λ v. value_at depth (value_text v ++ rest) ≡ Some (v, rest)) same
    (part_again depth (out-Value value) rest lower (subst (IsGood depth) (sym same) good) cut)

pub value_again : (depth : ℕ) → ReadsAt depth
value_again zero = reads_at zero (λ d e. absurd (omega (arith, e)))
value_again (suc depth) =
    reads_at (suc depth) (λ d e. let same : depth ≡ d = omega (arith, e) in subst ReadsAt same (value_again depth))

falls_text : (text rest : List ℕ) → Starts text → reply_at (text ++ 10 ∷ rest) ≡ value_reply_at (text ++ 10 ∷ rest)
falls_text text rest starts =
    ap (λ t. reply_at (t ++ 10 ∷ rest)) starts.text_is ∙ starts.falls rest
    ∙ ap (λ t. value_reply_at (t ++ 10 ∷ rest)) (sym starts.text_is)

-- the text of a value is no reply of a word
pub reply_falls : (depth : ℕ) (value : Value) (rest : List ℕ) → IsGood depth value
    → reply_at (value_text value ++ 10 ∷ rest) ≡ value_reply_at (value_text value ++ 10 ∷ rest)
reply_falls depth value rest good =
    let same = roll-out-Value value in
    let starts = starts_at depth (out-Value value) (subst (IsGood depth) (sym same) good) in
    ap (λ v. reply_at (value_text v ++ 10 ∷ rest)) (sym same)
    ∙ falls_text (value_text (roll-Value (out-Value value))) rest starts
    ∙ ap (λ v. value_reply_at (value_text v ++ 10 ∷ rest)) same
