-- A field that is read is the field that was written, and what was written is read again.
use Rattle.std.proofs.Common.{◌≡◌, ℕ, suc, ◌+◌, ◌<◌, Bool, true, false, cond, ltb, eqb, not, ◌&&◌, List, [], ◌∷◌, ◌++◌}
use Rattle.std.proofs.Common.{length, get_or, take, drop, Option, Some, None, refl, sym, ap, ◌∙◌, arith, inl, inr, ◌⊎◌}
use Rattle.std.specs.List.{prefix_len}
use Rattle.std.specs.Char.{digit_value}
use Rattle.std.specs.Fmt.{decimal}
use Rattle.std.specs.Str.{bytes_eq}
use Rattle.std.specs.Str.Parse.{AllDigits, digits_value}
use Rattle.std.proofs.lemmas.Bool.{cases_lt, ltb-true, lt-ltb}
use Rattle.std.proofs.lemmas.Bool.Decides.{nat_tests}
use Rattle.std.proofs.lemmas.Fmt.{decimal-digits_value, decimal_digit, decimal_is_IsNumeral, first_decimal}
use Rattle.std.proofs.lemmas.List.{take_at, drop_at, take-append-drop, length-append, length-take-le}
use Rattle.std.proofs.lemmas.Option.{cond_some}
use Rattle.std.proofs.lemmas.Slice.Eq.{bytes_eq-Decides}
use Rattle.std.proofs.lemmas.Str.Parse.{IsNumeralModel, numerals_by_value, tells_digits}
use Rattle.asp_record.specs.Fields.{◌>>=◌, behind, counted_at, is_digit, is_plain, marked_at, number_at}

-- the value of a step that gave one
pub step_is : {A B : Type 0} (r : Option A) (f : A → Option B) (y : B) → (r >>= f) ≡ Some y
    → (x : A) × (r ≡ Some x) × (f x ≡ Some y)
step_is (Some x) f y e = (x, refl, e)
step_is None f y e = absurd cc

both : (b c : Bool) → (b && c) ≡ true → (b ≡ true) × (c ≡ true)
both true true e = (refl, refl)
both true false e = absurd cc
both false c e = absurd cc

pub behind_again : (word rest : List ℕ) → behind word (word ++ rest) ≡ Some rest
behind_again word rest =
    rw (take_at word rest (length word) refl, drop_at word rest (length word) refl, (bytes_eq-Decides word word).1 refl)
    refl

pub behind_is : (word bytes rest : List ℕ) → behind word bytes ≡ Some rest → bytes ≡ word ++ rest
behind_is word bytes rest e =
    let g = cond_some (bytes_eq (take (length word) bytes) word) (drop (length word) bytes) rest e in
    let front : take (length word) bytes ≡ word = (bytes_eq-Decides (take (length word) bytes) word).0 g.0 in
    sym (take-append-drop (length word) bytes) ∙ ap (λ l. l ++ drop (length word) bytes) front ∙ ap (λ l. word ++ l) g.1

-- digits end where a byte is none
run_is : (digits : List ℕ) (mark : ℕ) (rest : List ℕ) → AllDigits 10 digits → is_digit mark ≡ false
    → prefix_len is_digit (digits ++ mark ∷ rest) ≡ length digits
run_is [] mark rest all none = rw none refl
run_is (d ∷ digits) mark rest all none =
    let here : ltb (digit_value d) 10 ≡ true = lt-ltb (digit_value d) 10 all.0 in
    let more = run_is digits mark rest all.1 none in
    rw here (omega (arith, more))

run_digits : (bytes : List ℕ) → AllDigits 10 (take (prefix_len is_digit bytes) bytes)
run_digits [] = tt
run_digits (b ∷ bytes) =
    elim (cases_lt (digit_value b) 10) [
      | inl low ↦
          let here : ltb (digit_value b) 10 ≡ true = lt-ltb (digit_value b) 10 low in
          let count : 1 + prefix_len is_digit bytes ≡ suc (prefix_len is_digit bytes) = omega arith in
          rw (here, count) (low, run_digits bytes)
      | inr high ↦
          let here : ltb (digit_value b) 10 ≡ false = grind (arith, nat_tests) in
          rw here tt
    ]

plain_is : (digits : List ℕ) → 0 < length digits → (length digits ≡ 1) ⊎ (48 < get_or digits 0 0)
    → is_plain digits ≡ true
plain_is [] some h = absurd (omega (arith, some))
plain_is (d ∷ []) some h = refl
plain_is (d ∷ e ∷ digits) some (inl one) = absurd (omega (arith, one))
plain_is (d ∷ e ∷ digits) some (inr above) = let other : eqb d 48 ≡ false = grind (arith, nat_tests) in rw other refl

plain_tells : (digits : List ℕ) → is_plain digits ≡ true → (0 < length digits) × (get_or digits 0 0 ≡ 48
    → length digits ≡ 1)
plain_tells [] e = absurd cc
plain_tells (d ∷ []) e = (omega arith, λ _. refl)
plain_tells (d ∷ f ∷ digits) e = (
  omega arith,
  λ zero_first. let same : eqb d 48 ≡ true = grind (arith, nat_tests) in
      absurd (let no : not true ≡ true = ap not (sym same) ∙ e in cc),
)

own : IsNumeralModel (AllDigits 10) (digits_value 10)
own = numerals_by_value (AllDigits 10) tells_digits

decimal_plain : (n : ℕ) → n < 18446744073709551616 → is_plain (decimal n) ≡ true
decimal_plain n small =
    let numeral = decimal_is_IsNumeral n (omega arith) in
    plain_is (decimal n) numeral.0.0 (elim (cases_lt 0 n) [
      | inl above ↦ inr (first_decimal n above (omega arith))
      | inr below ↦
          let none : n ≡ 0 = omega arith in
          inl (ap (λ m. length (decimal m)) none ∙ ap length (decimal_digit 0 (omega arith)))
    ])

pub number_again : (n mark : ℕ) (rest : List ℕ) → n < 18446744073709551616 → is_digit mark ≡ false
    → number_at (decimal n ++ mark ∷ rest) ≡ Some (n, mark ∷ rest)
unfolding number_at
number_again n mark rest small none =
    let numeral = decimal_is_IsNumeral n (omega arith) in
    let count = run_is (decimal n) mark rest numeral.0.1 none in
    let front = take_at (decimal n) (mark ∷ rest) (length (decimal n)) refl in
    let back = drop_at (decimal n) (mark ∷ rest) (length (decimal n)) refl in
    let below : ltb n 18446744073709551616 ≡ true = lt-ltb n 18446744073709551616 small in
    rw (count, front, back, decimal_plain n small, numeral.1, below) refl

pub number_is : (bytes : List ℕ) (n : ℕ) (rest : List ℕ) → number_at bytes ≡ Some (n, rest)
    → (bytes ≡ decimal n ++ rest) × (n < 18446744073709551616)
unfolding number_at
number_is bytes n rest e =
    let count = prefix_len is_digit bytes in
    let digits = take count bytes in
    let g = cond_some (is_plain digits && ltb (digits_value 10 digits) 18446744073709551616)
    (digits_value 10 digits, drop count bytes) (n, rest) e in
    let tests = both (is_plain digits) (ltb (digits_value 10 digits) 18446744073709551616) g.0 in
    let value : digits_value 10 digits ≡ n = ap (λ (p : ℕ × List ℕ). p.0) g.1 in
    let back : drop count bytes ≡ rest = ap (λ (p : ℕ × List ℕ). p.1) g.1 in
    let small : digits_value 10 digits < 18446744073709551616 = ltb-true _ _ tests.1 in
    let tells = plain_tells digits tests.0 in
    let text : decimal (digits_value 10 digits) ≡ digits =
    decimal-digits_value own digits (run_digits bytes) tells.0 tells.1 (omega (arith, small)) in (
      sym (take-append-drop count bytes) ∙ ap (λ l. l ++ drop count bytes) (sym text)
          ∙ ap (λ m. decimal m ++ drop count bytes) value ∙ ap (λ l. decimal n ++ l) back,
      omega (arith, small, value),
    )

pub marked_again : (n mark : ℕ) (word rest : List ℕ) → n < 18446744073709551616 → is_digit mark ≡ false
    → marked_at (mark ∷ word) (decimal n ++ mark ∷ (word ++ rest)) ≡ Some (n, rest)
unfolding marked_at
marked_again n mark word rest small none =
    rw (number_again n mark (word ++ rest) small none, behind_again (mark ∷ word) rest) refl

pub marked_is : (word bytes : List ℕ) (n : ℕ) (rest : List ℕ) → marked_at word bytes ≡ Some (n, rest)
    → (bytes ≡ decimal n ++ (word ++ rest)) × (n < 18446744073709551616)
unfolding marked_at
marked_is word bytes n rest e =
    let first = step_is (number_at bytes) (λ m. behind word m.1 >>= λ later. Some (m.0, later)) (n, rest) e in
    let m = first.0 in
    let second = step_is (behind word m.1) (λ later. Some (m.0, later)) (n, rest) first.2 in
    let later = second.0 in
    let number = number_is bytes m.0 m.1 first.1 in
    let number_same : m.0 ≡ n = grind (arith, second.2) in
    let rest_same : later ≡ rest = grind (arith, second.2) in (
      number.0 ∙ ap (λ l. decimal m.0 ++ l) (behind_is word m.1 later second.1)
          ∙ ap (λ k. decimal k ++ (word ++ later)) number_same ∙ ap (λ l. decimal n ++ (word ++ l)) rest_same,
      omega (arith, number.1, number_same),
    )

pub counted_again : (text rest : List ℕ) → counted_at (length text) (text ++ 10 ∷ rest) ≡ Some (text, rest)
unfolding counted_at
counted_again text rest =
    let long : ltb (length text) (length (text ++ 10 ∷ rest)) ≡ true =
    lt-ltb _ _ (omega (arith, length-append text (10 ∷ rest))) in
    rw (long, take_at text (10 ∷ rest) (length text) refl, drop_at text (10 ∷ rest) (length text) refl) refl

pub counted_is : (count : ℕ) (bytes text rest : List ℕ) → counted_at count bytes ≡ Some (text, rest)
    → (bytes ≡ text ++ 10 ∷ rest) × (length text ≡ count)
unfolding counted_at
counted_is count bytes text rest e =
    let g = cond_step (ltb count (length bytes)) (behind (10 ∷ []) (drop count bytes) >>= λ later. Some
    (take count bytes, later)) (text, rest) e in
    let second = step_is (behind (10 ∷ []) (drop count bytes)) (λ later. Some (take count bytes, later))
    (text, rest) g.1 in
    let later = second.0 in
    let within : count < length bytes = ltb-true _ _ g.0 in
    let text_is : take count bytes ≡ text = grind (arith, second.2) in
    let rest_is : later ≡ rest = grind (arith, second.2) in
    let size : length (take count bytes) ≡ count = length-take-le count bytes (omega (arith, within)) in (
      sym (take-append-drop count bytes) ∙ ap (λ l. take count bytes ++ l)
          (behind_is (10 ∷ []) (drop count bytes) later second.1)
          ∙ ap (λ l. l ++ 10 ∷ later) text_is ∙ ap (λ l. text ++ 10 ∷ l) rest_is,
      ap length (sym text_is) ∙ size,
    )
  where
    cond_step : {A : Type 0} (b : Bool) (o : Option A) (y : A) → cond b o None ≡ Some y → (b ≡ true) × (o ≡ Some y)
    cond_step true o y e = (refl, e)
    cond_step false o y e = absurd cc
