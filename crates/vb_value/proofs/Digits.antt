-- The numbers that digits write.
use Rattle.std.proofs.Common.{◌≡◌, ℕ, zero, suc, ◌+◌, ◌*◌, ◌^◌, ◌<◌, ◌≤◌, ◌==◌, ◌&&◌, if◌then◌else◌, List, []}
use Rattle.std.proofs.Common.{◌∷◌, ◌++◌, length, get_or, map, take, drop, zero-add, zero-mul, suc-mul, refl}
use Rattle.std.proofs.Common.{sym, ap, ◌∙◌, arith, lit<, min}
use Rattle.std.specs.declared.cmp.Ordering.TheVariants.{Less, Equal, Greater}
use Rattle.std.specs.Ordering.{nat_cmp}
use Rattle.std.specs.List.{list_all}
use Rattle.std.specs.Int.Digits.{number_from_digits, number_from_digits_after}
use Rattle.std.proofs.Math.Nat.{pow-suc, mul-le-mul_right}
use Rattle.std.proofs.Math.ListN.{drop_of_length-le}
use Rattle.vb_value.specs.Numbers.{rounded}
use Rattle.vb_value.proofs.Rounding.{rounded_by, rounded_fine, rounded_whole, rounded_even}
use Rattle.std.proofs.lemmas.Bool.Decides.{nat_tests}
use Rattle.std.proofs.lemmas.List.{map-append, length-map, take_more, get_or_read}
use Rattle.std.proofs.lemmas.Nat.{mul-add-lt}
use Rattle.std.proofs.lemmas.Int.Digits as std_digits
use Rattle.vb_value.specs.NumericText.{digit_of, number_of, numeral_size}

-- one digit more at the end
pub number_push : (text : List ℕ) (last : ℕ) → number_of (text ++ last ∷ []) ≡ number_of text * 10 + digit_of last
unfolding number_of
number_push text last =
    ap (number_from_digits 10) (map-append digit_of text (last ∷ [])) ∙ std_digits.number_push 10
    (map digit_of text) (digit_of last)

-- one digit more of a text
pub number_more : (text : List ℕ) (at : ℕ) → at < length text
    → number_of (take (at + 1) text) ≡ number_of (take at text) * 10 + digit_of (get_or text at 0)
number_more text at within = ap number_of (take_more text at 0 within) ∙ number_push (take at text) (get_or text at 0)

spread : (n d p q : ℕ) → q ≡ p * 10 → (n * 10 + d) * p ≡ n * q + d * p
spread n d p q is = rw is (grind arith)

-- digits behind a number
after_is : (n : ℕ) (values : List ℕ)
    → number_from_digits_after 10 n values ≡ n * 10 ^ length values + number_from_digits_after 10 0 values
after_is n [] = grind arith
after_is n (d ∷ values) =
    let first : number_from_digits_after 10 (n * 10 + d) values
    ≡ (n * 10 + d) * 10 ^ length values + number_from_digits_after 10 0 values = after_is
    (n * 10 + d) values in
    let alone : number_from_digits_after 10 (0 + d) values
    ≡ (0 + d) * 10 ^ length values + number_from_digits_after 10 0 values = after_is (0 + d) values in
    let spread_is : (n * 10 + d) * 10 ^ length values ≡ n * 10 ^ suc (length values) + d * 10 ^ length values =
    spread n d (10 ^ length values) (10 ^ suc (length values)) (pow-suc 10 (length values)) in
    first ∙ (rw spread_is (rw alone (grind arith)))

-- the first digit of some, and the rest
pub number_cons : (first : ℕ) (rest : List ℕ)
    → number_of (first ∷ rest) ≡ digit_of first * 10 ^ length rest + number_of rest
unfolding number_of
number_cons first rest = after_is (0 + digit_of first) (map digit_of rest) ∙ rw length-map (grind arith)

pub digit_below : (c : ℕ) → digit_of c < 10
digit_below c = grind (arith, nat_tests)

below_more : (d p n q : ℕ) → d < 10 → n < p → q ≡ p * 10 → d * p + n < q
below_more d p n q digit rest is = rw is (mul-add-lt d p n 10 digit rest)

pub number_below : (text : List ℕ) → number_of text < 10 ^ length text
unfolding number_of
number_below [] = lit< tt
number_below (c ∷ text) =
    rw number_cons
    (below_more (digit_of c) (10 ^ length text) (number_of text) _ (digit_below c) (number_below text)
    (pow-suc 10 (length text)))

pub number_append : (front back : List ℕ)
    → number_of (front ++ back) ≡ number_of front * 10 ^ length back + number_of back
unfolding number_of
number_append front back =
    ap (number_from_digits 10) (map-append digit_of front back) ∙
    (std_digits.number_after_append 10 0 (map digit_of front) (map digit_of back)
    ∙ (after_is (number_of front) (map digit_of back) ∙ rw length-map refl))

nought_step : (d p n : ℕ) → 0 < p → (d == 0) && (n == 0) ≡ (d * p + n == 0)
nought_step zero p n some = rw zero-mul (rw zero-add refl)
nought_step (suc d) p n some = let more : 0 < suc d * p + n = omega (arith, suc-mul d p) in grind (arith, nat_tests)

-- digits are all 0 where the number is 0
pub nought_all : (text : List ℕ) → list_all (λ c. digit_of c == 0) text ≡ (number_of text == 0)
unfolding number_of
nought_all [] = refl
nought_all (c ∷ text) =
    let some : 0 < 10 ^ length text = omega (arith, number_below text) in
    let rest : list_all (λ c'. digit_of c' == 0) text ≡ (number_of text == 0) = nought_all text in
    ap (λ b. (digit_of c == 0) && b) rest
    ∙ (nought_step (digit_of c) (10 ^ length text) (number_of text) some ∙ ap (λ n. n == 0)
    (sym (number_cons c text)))

half_cases : (digit power rest whole : ℕ) → digit < 10 → rest < power → whole ≡ power * 10
    → nat_cmp (2 * (digit * power + rest)) whole
    ≡ (if digit == 5 then (if rest == 0 then Equal else Greater) else nat_cmp digit 5)
half_cases digit power rest whole small below is =
    let low : digit ≤ 4 → digit * power ≤ 4 * power = λ le. mul-le-mul_right power le in
    let mid : digit ≡ 5 → digit * power ≡ 5 * power = λ five. ap (λ n. n * power) five in
    let high : 6 ≤ digit → 6 * power ≤ digit * power = λ le. mul-le-mul_right power le in
    grind (arith, nat_tests)

-- decimals against one half
pub half_cons : (first : ℕ) (rest : List ℕ) → nat_cmp (2 * number_of (first ∷ rest)) (10 ^ length (first ∷ rest))
    ≡ (if digit_of first == 5 then (if number_of rest == 0 then Equal else Greater) else nat_cmp (digit_of first) 5)
half_cons first rest =
    ap (λ n. nat_cmp (2 * n) (10 ^ length (first ∷ rest))) (number_cons first rest)
    ∙ half_cases (digit_of first) (10 ^ length rest) (number_of rest) (10 ^ suc (length rest))
    (digit_below first) (number_below rest) (pow-suc 10 (length rest))

-- no decimals are less than one half
pub half_none : (text : List ℕ) → text ≡ [] → nat_cmp (2 * number_of text) (10 ^ length text) ≡ Less
unfolding number_of
half_none text none = rw none refl

pub half_empty : (text : List ℕ) → length text ≡ 0 → nat_cmp (2 * number_of text) (10 ^ length text) ≡ Less
half_empty [] none = half_none [] refl
half_empty (c ∷ text) none = absurd (omega arith)

-- no more than four decimals leave less than one half
pub half_short : (text : List ℕ) → length text < 5
    → nat_cmp (2 * number_of (drop 4 text)) (10 ^ length (drop 4 text)) ≡ Less
half_short text short =
    let most : length text ≤ 4 = omega arith in half_none (drop 4 text) (drop_of_length-le text most)

-- the first four decimals
abbrev pub four_of : List ℕ → ℕ
four_of text = 1000 * digit_of (get_or text 0 0) + 100 * digit_of (get_or text 1 0) + 10 * digit_of
    (get_or text 2 0) + digit_of (get_or text 3 0)

ten_thousand : (n : ℕ) → 10 ^ suc (suc (suc (suc n))) ≡ 10 ^ n * 10000
ten_thousand n =
    omega (arith, pow-suc 10 (suc (suc (suc n))), pow-suc 10 (suc (suc n)), pow-suc 10 (suc n), pow-suc 10 n)

fine_parts : (four fine unit rest number : ℕ) → unit ≡ fine * 10000 → number ≡ four * fine + rest
    → number * 10000 ≡ four * unit + rest * 10000
fine_parts four fine unit rest number is parts = rw (is, parts) (grind arith)

number_four : (a b c d : ℕ) (rest : List ℕ)
    → number_of (a ∷ b ∷ c ∷ d ∷ rest) ≡ four_of (a ∷ b ∷ c ∷ d ∷ rest) * 10 ^ length rest + number_of rest
unfolding number_of
number_four a b c d rest =
    after_is ((((0 + digit_of a) * 10 + digit_of b) * 10 + digit_of c) * 10 + digit_of d) (map digit_of rest)
    ∙ rw length-map (ap (λ n. n * 10 ^ length rest + number_of rest) (omega arith))

-- decimals in ten-thousandths, by the first four and the others
pub decimals_rounded : (text : List ℕ) → rounded (10 ^ length text) (number_of text * 10000)
    ≡ rounded_by (nat_cmp (2 * number_of (drop 4 text)) (10 ^ length (drop 4 text))) (four_of text)
unfolding number_of
decimals_rounded [] = rounded_whole 1 0 0 refl (lit< tt)
decimals_rounded (a ∷ []) = rounded_whole 10 (four_of (a ∷ [])) _ (omega arith) (lit< tt)
decimals_rounded (a ∷ b ∷ []) = rounded_whole 100 (four_of (a ∷ b ∷ [])) _ (omega arith) (lit< tt)
decimals_rounded (a ∷ b ∷ c ∷ []) = rounded_whole 1000 (four_of (a ∷ b ∷ c ∷ [])) _ (omega arith) (lit< tt)
decimals_rounded (a ∷ b ∷ c ∷ d ∷ rest) =
    rounded_fine (10 ^ suc (suc (suc (suc (length rest))))) (10 ^ length rest) (four_of (a ∷ b ∷ c ∷ d ∷ rest))
    (number_of rest) _
    (ten_thousand (length rest))
    (fine_parts (four_of (a ∷ b ∷ c ∷ d ∷ rest)) (10 ^ length rest) _ (number_of rest) _
    (ten_thousand (length rest)) (number_four a b c d rest))
    (number_below rest)

-- no digits write 0
pub size_none : (most : ℕ) → min (number_of []) most ≡ 0
unfolding number_of
size_none most = grind arith

-- one digit more, where the most stands for a greater number
pub size_more : (text : List ℕ) (at size most item digit next : ℕ) → at < length text
    → item ≡ get_or text at item → digit ≡ digit_of item
    → size ≡ min (number_of (take at text)) most → next ≡ min (size * 10 + digit) most
    → next ≡ min (number_of (take (at + 1) text)) most
size_more text at size most item digit next within is digit_is size_is next_is =
    let read : item ≡ get_or text at 0 = get_or_read text at item within is 0 in
    let last : digit ≡ digit_of (get_or text at 0) = digit_is ∙ ap digit_of read in
    rw number_more (omega arith)

even_parts : (whole unit decimals : ℕ)
    → (whole * unit + decimals) * 10000 ≡ whole * 5000 * 2 * unit + decimals * 10000
even_parts whole unit decimals = grind arith

-- the size of a numeral, by its whole part and its decimals
pub numeral_parts : (whole decimals : List ℕ)
    → numeral_size whole decimals
    ≡ number_of whole * 10000 + rounded (10 ^ length decimals) (number_of decimals * 10000)
unfolding numeral_size
numeral_parts whole decimals =
    let unit : ℕ = 10 ^ length decimals in
    let some : 0 < unit = omega (arith, number_below decimals) in
    ap (λ n. rounded unit (n * 10000)) (number_append whole decimals)
    ∙ (ap (rounded unit) (even_parts (number_of whole) unit (number_of decimals))
    ∙ (rounded_even unit (number_of whole * 5000) (number_of decimals * 10000) some ∙ omega arith))

-- the same, where the most stands for a greater size
pub numeral_most : (whole decimals : List ℕ) (size rest : ℕ) → size ≡ min (number_of whole) (10 ^ 15)
    → rest ≡ rounded (10 ^ length decimals) (number_of decimals * 10000)
    → min (size * 10000 + rest) (10 ^ 19) ≡ min (numeral_size whole decimals) (10 ^ 19)
numeral_most whole decimals size rest size_is rest_is = omega (arith, numeral_parts whole decimals)
