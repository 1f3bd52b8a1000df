-- A signed number that is read is the number that was written, and what was written is read again.
use Rattle.std.proofs.Common.{◌≡◌, ℕ, zero, suc, ◌-◌, ◌<◌, true, false, cond, ltb, leb, eqb, ◌&&◌}
use Rattle.std.proofs.Common.{List, [], ◌∷◌, ◌++◌}
use Rattle.std.proofs.Common.{length, Option, Some, None, refl, sym, ap, ◌∙◌, arith, ℤ, pos, negsuc}
use Rattle.std.specs.Prelude.{codes}
use Rattle.std.specs.Fmt.{decimal, signed_decimal}
use Rattle.std.specs.Char.{digit_value}
use Rattle.std.specs.Str.Parse.{AllDigits}
use Rattle.std.proofs.lemmas.Bool.Decides.{nat_tests}
use Rattle.std.proofs.lemmas.Fmt.{decimal_is_IsNumeral}
use Rattle.std.proofs.lemmas.Option.{cond_some, some_pair_parts}
use Rattle.asp_record.specs.Fields.{◌>>=◌, behind, is_digit, number_at}
use Rattle.asp_record.specs.Journal.{is_long, is_wide}
use Rattle.asp_record.specs.ReadingValues.{below_zero, ends_item, long_at, signed_at, signed_by}
use Rattle.asp_record.proofs.FieldLaws.{behind_is, number_again, number_is, step_is}

-- the bytes begin with one that ends an item
abbrev pub IsCut : List ℕ → Type 0
IsCut [] = ⊥
IsCut (c ∷ rest) = ends_item c ≡ true

pub no_digit : (c : ℕ) → ends_item c ≡ true → is_digit c ≡ false
no_digit c ends = grind (arith, nat_tests)

pub number_cut : (n : ℕ) (rest : List ℕ) → n < 18446744073709551616 → IsCut rest
    → number_at (decimal n ++ rest) ≡ Some (n, rest)
number_cut n [] small cut = absurd cut
number_cut n (mark ∷ rest) small cut = number_again n mark rest small (no_digit mark cut)

-- digits begin with no sign
no_sign : (digits rest : List ℕ) → 0 < length digits → AllDigits 10 digits → behind (codes "-") (digits ++ rest) ≡ None
no_sign [] rest some all = absurd (omega (arith, some))
no_sign (d ∷ digits) rest some all =
    let low : digit_value d < 10 = all.0 in
    let other : eqb d 45 ≡ false = grind (arith, nat_tests) in
    rw other refl

pub signed_again : (n : ℤ) (rest : List ℕ) → is_wide n ≡ true → IsCut rest →
    signed_at (signed_decimal n ++ rest) ≡ Some (n, rest)
unfolding signed_at
signed_again (pos n) rest wide cut =
    let small : n < 9223372036854775808 = grind (arith, nat_tests) in
    let numeral = decimal_is_IsNumeral n (omega arith) in
    let low : ltb n 9223372036854775808 ≡ true = grind (arith, nat_tests) in
    rw (no_sign (decimal n) rest numeral.0.0 numeral.0.1, number_cut n rest (omega arith) cut, low) refl
signed_again (negsuc n) rest wide cut =
    let small : n < 9223372036854775808 = grind (arith, nat_tests) in
    let low : below_zero (suc n) ≡ Some (negsuc n) = grind (arith, nat_tests) in
    rw (number_cut (suc n) rest (omega arith) cut, low) refl

below_is : (size : ℕ) (n : ℤ) → below_zero size ≡ Some n →
    (signed_decimal n ≡ codes "-" ++ decimal size) × (is_wide n ≡ true)
below_is zero n e = absurd cc
below_is (suc size) n e =
    let one : suc size - 1 ≡ size = omega arith in
    let g = cond_some (ltb 0 (suc size) && leb (suc size) 9223372036854775808) (negsuc (suc size - 1)) n e in
    let t = g.0 in
    let small : size < 9223372036854775808 = grind (arith, nat_tests) in
    let wide : is_wide (negsuc size) ≡ true = grind (arith, nat_tests) in
    let same : negsuc size ≡ n = ap negsuc (sym one) ∙ g.1 in
    (ap signed_decimal (sym same), ap is_wide (sym same) ∙ wide)

signed_by_is : (sign : Option (List ℕ)) (bytes : List ℕ) (n : ℤ) (rest : List ℕ) → behind (codes "-") bytes ≡ sign
    → signed_by sign bytes ≡ Some (n, rest) → (bytes ≡ signed_decimal n ++ rest) × (is_wide n ≡ true)
signed_by_is (Some digits) bytes n rest signed e =
    let a = step_is (number_at digits) (λ size. below_zero size.0 >>= λ below. Some (below, size.1)) (n, rest) e in
    let size = a.0 in
    let b = step_is (below_zero size.0) (λ below. Some (below, size.1)) (n, rest) a.2 in
    let parts = some_pair_parts b.0 n size.1 rest b.2 in
    let number = number_is digits size.0 size.1 a.1 in
    let below = below_is size.0 b.0 b.1 in (
      behind_is (codes "-") bytes digits signed ∙ ap (λ l. codes "-" ++ l) number.0
          ∙ ap (λ l. l ++ size.1) (sym below.0) ∙ ap (λ m. signed_decimal m ++ size.1) parts.0
          ∙ ap (λ l. signed_decimal n ++ l) parts.1,
      ap is_wide (sym parts.0) ∙ below.1,
    )
signed_by_is None bytes n rest signed e =
    let a = step_is (number_at bytes) (λ size. cond (ltb size.0 9223372036854775808) (Some (pos size.0, size.1)) None)
    (n, rest) e in
    let size = a.0 in
    let g = cond_some (ltb size.0 9223372036854775808) (pos size.0, size.1) (n, rest) a.2 in
    let parts = some_pair_parts (pos size.0) n size.1 rest (ap (λ p. Some p) g.1) in
    let number = number_is bytes size.0 size.1 a.1 in
    let small = g.0 in
    let wide : is_wide (pos size.0) ≡ true = grind (arith, nat_tests) in (
      number.0 ∙ ap (λ m. signed_decimal m ++ size.1) parts.0
          ∙ ap (λ l. signed_decimal n ++ l) parts.1,
      ap is_wide (sym parts.0) ∙ wide,
    )

pub signed_is : (bytes : List ℕ) (n : ℤ) (rest : List ℕ) → signed_at bytes ≡ Some (n, rest)
    → (bytes ≡ signed_decimal n ++ rest) × (is_wide n ≡ true)
unfolding signed_at
signed_is bytes n rest e = signed_by_is (behind (codes "-") bytes) bytes n rest refl e

long_wide : (n : ℤ) → is_long n ≡ true → is_wide n ≡ true
long_wide (pos n) long = grind (arith, nat_tests)
long_wide (negsuc n) long = grind (arith, nat_tests)

pub long_again : (n : ℤ) (rest : List ℕ) → is_long n ≡ true → IsCut rest →
    long_at (signed_decimal n ++ rest) ≡ Some (n, rest)
unfolding long_at
long_again n rest long cut = rw (signed_again n rest (long_wide n long) cut, long) refl

pub long_is : (bytes : List ℕ) (n : ℤ) (rest : List ℕ) → long_at bytes ≡ Some (n, rest)
    → (bytes ≡ signed_decimal n ++ rest) × (is_long n ≡ true)
unfolding long_at
long_is bytes n rest e =
    let a = step_is (signed_at bytes) (λ m. cond (is_long m.0) (Some m) None) (n, rest) e in
    let g = cond_some (is_long a.0.0) a.0 (n, rest) a.2 in
    let parts = some_pair_parts a.0.0 n a.0.1 rest (ap (λ p. Some p) g.1) in
    let is = signed_is bytes a.0.0 a.0.1 a.1 in (
      is.0 ∙ ap (λ m. signed_decimal m ++ a.0.1) parts.0 ∙ ap (λ l. signed_decimal n ++ l) parts.1,
      ap is_long (sym parts.0) ∙ g.0,
    )
