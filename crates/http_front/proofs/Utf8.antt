-- Which texts can go on to UTF-8.
use Rattle.std.proofs.Common.{◌≡◌, ℕ, zero, suc, true, false, cond, ◌+◌, ◌-◌, ◌*◌, ◌<◌, ◌≤◌, List, [], ◌∷◌, ◌++◌}
use Rattle.std.proofs.Common.{length, take, drop, get_or, refl, sym, ap, subst, ◌∙◌, arith, append_assoc, append-nil}
use Rattle.std.proofs.Common.{length-append, length-drop, Some, None, Option, inl, inr}
use Rattle.std.specs.Prelude.{Bool, ◌⊎◌, nat_lt, IsTrue, IsUtf8, IsAscii}
use Rattle.std.specs.Int.{is_in_range}
use mathlib.Core.Logic.{⊎_elim}
use Rattle.std.proofs.lemmas.Bool.Decides.{nat_tests}
use Rattle.std.specs.Str.{IsValidUpTo, StartsWithNoChar}
use Rattle.std.specs.Str.Lossy.{utf8_error_len, error_len_of_some, second_byte_min, second_byte_max}
use Rattle.std.proofs.lemmas.List.{take-append-le, take-append-drop, drop-append-le}
use Rattle.std.proofs.lemmas.List.Elements.{All-cons, All-nil}
use Rattle.std.proofs.lemmas.Str.{IsUtf8-append, IsUtf8-from_ascii}
use Rattle.std.proofs.str.Faults.{Ranged, no_char}
use Rattle.std.proofs.str.Valid.{of_one, of_two, of_three, of_four, longer}
use Rattle.std.proofs.str.Laws.{order}
use Rattle.std.proofs.str.Lossy.{utf8_error_len_some}
use Rattle.asp_text.proofs.Places.{by_cases}
use Rattle.std.proofs.iter.FirstChar.{after_text, no_text}
use Rattle.httparse.specs.Grammar.{AllPass, is_uri_byte}
use Rattle.http_front.specs.OpenTarget.{GoesOn, IsNoText}

pub slash_is_text : IsUtf8 (47 ∷ [])
slash_is_text = IsUtf8-from_ascii (47 ∷ []) ascii
  where
    ascii : IsAscii (47 ∷ [])
    ascii zero = omega arith
    ascii (suc i) = omega arith

pub text_goes_on : (t : List ℕ) → IsUtf8 t → GoesOn t
text_goes_on t is = (
  47 ∷ [],
  omega arith,
  All-cons (λ b. IsTrue (is_uri_byte b)) 47 [] refl (All-nil _),
  IsUtf8-append
      t (47 ∷ []) is slash_is_text,
)

-- ---- what `utf8_error_len` tests, byte by byte

abbrev seconds : ℕ → ℕ → Bool
seconds x y = is_in_range (second_byte_min x) (second_byte_max x) y

abbrev thirds : ℕ → Bool
thirds z = is_in_range 128 191 z

one_byte : (x : ℕ) → error_len_of_some (x ∷ []) ≡ cond (is_in_range 194 244 x) None (Some 1)
one_byte x = refl

two_bytes : (x y : ℕ) → error_len_of_some (x ∷ y ∷ []) ≡ cond (is_in_range 194 244 x) (cond (seconds x y) None (Some 1)) (Some 1)
two_bytes x y = refl

three_bytes : (x y z : ℕ) → error_len_of_some (x ∷ y ∷ z ∷ [])
    ≡ cond (is_in_range 194 244 x) (cond (seconds x y) (cond (thirds z) None (Some 2)) (Some 1)) (Some 1)
three_bytes x y z = refl

not_below : (n k : ℕ) → k ≤ n → nat_lt n k ≡ false
not_below n k h = grind (arith, nat_tests)

four_bytes : (x y z w : ℕ) (ds : List ℕ) → error_len_of_some (x ∷ y ∷ z ∷ w ∷ ds)
    ≡ cond (is_in_range 194 244 x) (cond (seconds x y) (cond (thirds z) (Some 3) (Some 2)) (Some 1)) (Some 1)
four_bytes x y z w ds =
    let n = length (x ∷ y ∷ z ∷ w ∷ ds) in
    λ i. cond (is_in_range 194 244 x) (cond (not_below n 2 (omega arith) i) None
    (cond (seconds x y) (cond (not_below n 3 (omega arith) i) None
    (cond (thirds z) (cond (not_below n 4 (omega arith) i) None (Some 3)) (Some 2))) (Some 1))) (Some 1)

-- what a second byte is, after the first
record Second (x y : ℕ) : Type 0 where
  pub least : 128 ≤ y
  pub most : y < 192
  pub after_224 : x ≡ 224 → 160 ≤ y
  pub after_237 : x ≡ 237 → y < 160
  pub after_240 : x ≡ 240 → 144 ≤ y
  pub after_244 : x ≡ 244 → y < 144

is_second : (x y : ℕ) → seconds x y ≡ true → Second x y
is_second x y e = record {
  least = grind (arith, nat_tests);
  most = grind (arith, nat_tests);
  after_224 = λ is. grind (arith, nat_tests);
  after_237 = λ is. grind (arith, nat_tests);
  after_240 = λ is. grind (arith, nat_tests);
  after_244 = λ is. grind (arith, nat_tests);
}

is_no_second : (x y : ℕ) → seconds x y ≡ false → Second x y → ⊥
is_no_second x y e s = grind (arith, nat_tests, s.least, s.most, s.after_224, s.after_237, s.after_240, s.after_244)

lead_range : (x : ℕ) → is_in_range 194 244 x ≡ true → (194 ≤ x) × (x ≤ 244)
lead_range x e = (grind (arith, nat_tests), grind (arith, nat_tests))

third_range : (z : ℕ) → thirds z ≡ true → (128 ≤ z) × (z < 192)
third_range z e = (grind (arith, nat_tests), grind (arith, nat_tests))

no_third : (z : ℕ) → thirds z ≡ false → 128 ≤ z → z < 192 → ⊥
no_third z e l h = grind (arith, nat_tests)

no_lead : (x : ℕ) → is_in_range 194 244 x ≡ false → 194 ≤ x → x ≤ 244 → ⊥
no_lead x e l h = grind (arith, nat_tests)

-- ---- the forms of characters

text_two : (x y : ℕ) → 194 ≤ x → x < 224 → Second x y → IsUtf8 (x ∷ y ∷ [])
text_two x y l h s = of_two (x ∷ y ∷ []) 0 (omega arith) (l, h) (s.least, s.most)

text_three : (x y z : ℕ) → 224 ≤ x → x < 240 → Second x y → 128 ≤ z → z < 192 → IsUtf8 (x ∷ y ∷ z ∷ [])
text_three x y z l h s lz hz =
    let c : ℕ = (x - 224) * 4096 + (y - 128) * 64 + (z - 128) in
    let long : 2048 ≤ (x - 224) * 4096 + (y - 128) * 64 + (z - 128) =
    ⊎_elim (λ (p : x < 225). let least = s.after_224 (omega arith) in omega arith) (λ (p : 225 ≤ x). omega arith) (order x 225) in
    let scalar : (c < 55296) ⊎ (57344 ≤ c) =
    ⊎_elim (λ (p : x < 237). inl (let most = s.most in omega arith))
    (λ (p : 237 ≤ x). ⊎_elim (λ (q : x < 238). inl (let most = s.after_237 (omega arith) in omega arith))
    (λ (q : 238 ≤ x). inr (omega arith)) (order x 238))
    (order x 237) in
    of_three (x ∷ y ∷ z ∷ []) 0 (omega arith) (l, h) (s.least, s.most) (lz, hz) long scalar

text_four : (x y z w : ℕ) → 240 ≤ x → x ≤ 244 → Second x y → 128 ≤ z → z < 192 → 128 ≤ w → w < 192 → IsUtf8 (x ∷ y ∷ z ∷ w ∷ [])
text_four x y z w l h s lz hz lw hw =
    let low : 16 ≤ (x - 240) * 64 + (y - 128) =
    ⊎_elim (λ (p : x < 241). let least = s.after_240 (omega arith) in omega arith) (λ (p : 241 ≤ x). omega arith) (order x 241) in
    let high : (x - 240) * 64 + (y - 128) < 272 =
    ⊎_elim (λ (p : x < 244). let most = s.most in omega arith)
    (λ (p : 244 ≤ x). let most = s.after_244 (omega arith) in omega arith) (order x 244) in
    of_four (x ∷ y ∷ z ∷ w ∷ []) 0 (omega arith) l (s.least, s.most) (lz, hz) (lw, hw) (low, high)

-- ---- a fault that more bytes can mend

abbrev Mends : List ℕ → List ℕ → Type 0
Mends d u = (0 < length u) × AllPass is_uri_byte u × IsUtf8 (d ++ u)

uri_cons : (b : ℕ) (u : List ℕ) → is_uri_byte b ≡ true → AllPass is_uri_byte u → AllPass is_uri_byte (b ∷ u)
uri_cons b u is all = All-cons (λ v. IsTrue (is_uri_byte v)) b u is all

uri_nil : AllPass is_uri_byte []
uri_nil = All-nil (λ v. IsTrue (is_uri_byte v))

goes_one : (x : ℕ) → 194 ≤ x → x ≤ 244 → (u : List ℕ) × Mends (x ∷ []) u
goes_one x l h =
    ⊎_elim
    (λ (p : x < 224). (
      128 ∷ [],
      (
        omega arith,
        uri_cons 128 [] refl uri_nil,
        text_two x 128 l p
            (second 128 (omega arith) (omega arith) (λ e. omega arith) (λ e. omega arith) (λ e. omega arith)
            (λ e. omega arith)),
      ),
    ))
    (λ (p : 224 ≤ x). ⊎_elim
    (λ (q : x < 240). ⊎_elim
    (λ (r : x < 237). (
      160 ∷ 128 ∷ [],
      (
        omega arith,
        uri_cons 160 (128 ∷ []) refl (uri_cons 128 [] refl uri_nil),
        text_three x 160 128 p q
            (second 160 (omega arith) (omega arith) (λ e. omega arith) (λ e. omega arith) (λ e. omega arith)
            (λ e. omega arith)) (omega arith) (omega arith),
      ),
    ))
    (λ (r : 237 ≤ x). (
      128 ∷ 128 ∷ [],
      (
        omega arith,
        uri_cons 128 (128 ∷ []) refl (uri_cons 128 [] refl uri_nil),
        text_three x 128 128 p q
            (second 128 (omega arith) (omega arith) (λ e. omega arith) (λ e. omega arith) (λ e. omega arith)
            (λ e. omega arith)) (omega arith) (omega arith),
      ),
    ))
    (order x 237))
    (λ (q : 240 ≤ x). ⊎_elim
    (λ (r : x < 244). (
      144 ∷ 128 ∷ 128 ∷ [],
      (
        omega arith,
        uri_cons 144 (128 ∷ 128 ∷ []) refl (uri_cons 128 (128 ∷ []) refl (uri_cons 128 [] refl uri_nil)),
        text_four x 144 128 128 q h (second 144 (omega arith) (omega arith) (λ e. omega arith) (λ e. omega arith)
            (λ e. omega arith) (λ e. omega arith)) (omega arith) (omega arith) (omega arith) (omega arith),
      ),
    ))
    (λ (r : 244 ≤ x). (
      128 ∷ 128 ∷ 128 ∷ [],
      (
        omega arith,
        uri_cons 128 (128 ∷ 128 ∷ []) refl (uri_cons 128 (128 ∷ []) refl (uri_cons 128 [] refl uri_nil)),
        text_four x 128 128 128 q h (second 128 (omega arith) (omega arith) (λ e. omega arith) (λ e. omega arith)
            (λ e. omega arith) (λ e. omega arith)) (omega arith) (omega arith) (omega arith) (omega arith),
      ),
    ))
    (order x 244))
    (order x 240))
    (order x 224)
  where
    second : (y : ℕ) → 128 ≤ y → y < 192 → (x ≡ 224 → 160 ≤ y) → (x ≡ 237 → y < 160) → (x ≡ 240 → 144 ≤ y)
        → (x ≡ 244 → y < 144) → Second x y
    second y a b c d e f = record { least = a; most = b; after_224 = c; after_237 = d; after_240 = e; after_244 = f }

goes_two : (x y : ℕ) → 224 ≤ x → x ≤ 244 → Second x y → (u : List ℕ) × Mends (x ∷ y ∷ []) u
goes_two x y l h s =
    ⊎_elim
    (λ (q : x < 240). (
      128 ∷ [],
      (
        omega arith,
        uri_cons 128 [] refl uri_nil,
        text_three x y 128 l q s (omega arith)
            (omega arith),
      ),
    ))
    (λ (q : 240 ≤ x). (
      128 ∷ 128 ∷ [],
      (
        omega arith,
        uri_cons 128 (128 ∷ []) refl (uri_cons 128 [] refl uri_nil),
        text_four x y 128 128 q h s
            (omega arith) (omega arith) (omega arith) (omega arith),
      ),
    ))
    (order x 240)

goes_three : (x y z : ℕ) → 240 ≤ x → x ≤ 244 → Second x y → 128 ≤ z → z < 192 → (u : List ℕ) × Mends (x ∷ y ∷ z ∷ []) u
goes_three x y z l h s lz hz =
    (128 ∷ [], (omega arith, uri_cons 128 [] refl uri_nil, text_four x y z 128 l h s lz hz (omega arith) (omega arith)))

-- no character stands at the front
abbrev HasNoFirst : List ℕ → Type 0
HasNoFirst d = (m : ℕ) → 0 < m → IsUtf8 (take m d) → ⊥

abbrev at_one : Option ℕ
at_one = Some 1

abbrev at_two : Option ℕ
at_two = Some 2

abbrev at_three : Option ℕ
at_three = Some 3

tail_goes_on : (d : List ℕ) → 0 < length d → HasNoFirst d → error_len_of_some d ≡ None → (u : List ℕ) × Mends d u
tail_goes_on [] some none e = absurd (omega arith)
tail_goes_on (x ∷ []) some none e =
    by_cases (λ t. cond t None at_one ≡ None → (u : List ℕ) × Mends (x ∷ []) u) (is_in_range 194 244 x)
    (λ on. λ e'. let r = lead_range x on in goes_one x r.0 r.1)
    (λ off. λ e'. absurd cc) e
tail_goes_on (x ∷ y ∷ []) some none e =
    by_cases (λ t. cond t (cond (seconds x y) None at_one) at_one ≡ None → (u : List ℕ) × Mends (x ∷ y ∷ []) u)
    (is_in_range 194 244 x)
    (λ on. by_cases (λ t. cond t None at_one ≡ None → (u : List ℕ) × Mends (x ∷ y ∷ []) u) (seconds x y)
    (λ on2. λ e'.
    let r = lead_range x on in
    let s = is_second x y on2 in
    ⊎_elim (λ (p : x < 224). absurd (none 2 (omega arith) (text_two x y r.0 p s)))
    (λ (p : 224 ≤ x). goes_two x y p r.1 s) (order x 224))
    (λ off. λ e'. absurd cc))
    (λ off. λ e'. absurd cc) e
tail_goes_on (x ∷ y ∷ z ∷ []) some none e =
    by_cases (λ t. cond t (cond (seconds x y) (cond (thirds z) None at_two) at_one) at_one ≡ None
    → (u : List ℕ) × Mends (x ∷ y ∷ z ∷ []) u) (is_in_range 194 244 x)
    (λ on. by_cases (λ t. cond t (cond (thirds z) None at_two) at_one ≡ None → (u : List ℕ) × Mends (x ∷ y ∷ z ∷ []) u)
    (seconds x y)
    (λ on2. by_cases (λ t. cond t None at_two ≡ None → (u : List ℕ) × Mends (x ∷ y ∷ z ∷ []) u) (thirds z)
    (λ on3. λ e'.
    let r = lead_range x on in
    let s = is_second x y on2 in
    let q = third_range z on3 in
    ⊎_elim (λ (p : x < 224). absurd (none 2 (omega arith) (text_two x y r.0 p s)))
    (λ (p : 224 ≤ x). ⊎_elim (λ (o : x < 240). absurd (none 3 (omega arith) (text_three x y z p o s q.0 q.1)))
    (λ (o : 240 ≤ x). goes_three x y z o r.1 s q.0 q.1) (order x 240))
    (order x 224))
    (λ off. λ e'. absurd cc))
    (λ off. λ e'. absurd cc))
    (λ off. λ e'. absurd cc) e
tail_goes_on (x ∷ y ∷ z ∷ w ∷ ds) some none e =
    absurd (never_none (is_in_range 194 244 x) (seconds x y) (thirds z) (sym (four_bytes x y z w ds) ∙ e))
  where
    never_none : (a b c : Bool) → cond a (cond b (cond c at_three at_two) at_one) at_one ≡ None → ⊥
    never_none true true true e = cc
    never_none true true false e = cc
    never_none true false c e = cc
    never_none false b c e = cc

-- what stands past the valid front begins with no character
past_front : (t : List ℕ) (n : ℕ) → IsValidUpTo t n → HasNoFirst (drop n t)
past_front t n valid m some is = valid.longest (n + m) (omega arith) (longer t n m valid.front is)

pub fault_goes_on : (t : List ℕ) (n : ℕ) → IsValidUpTo t n → utf8_error_len (drop n t) ≡ None → GoesOn t
fault_goes_on t n valid e =
    let d = drop n t in
    let some : 0 < length d = omega (arith, length-drop n t, valid.short) in
    let r = tail_goes_on d some (past_front t n valid) (sym (utf8_error_len_some d some) ∙ e) in (
      r.0,
      r.1.0,
      r.1.1,
      subst IsUtf8 (sym (append_assoc (take n t) d r.0) ∙ ap (λ l. l ++ r.0) (take-append-drop n t))
          (IsUtf8-append (take n t) (d ++ r.0) valid.front r.1.2),
    )

-- ---- a fault that stays

module _ (n x y z w : ℕ) (r : Ranged n x y z w) where
  bad_lead : is_in_range 194 244 x ≡ false → (IsUtf8 (x ∷ []) → ⊥) → ⊥
  bad_lead off none =
      ⊎_elim (λ (p : x < 128). none (of_one (x ∷ []) 0 (omega arith) p))
      (λ (p : 128 ≤ x). let s = r.second p in
      ⊎_elim (λ (q : x < 245). no_lead x off s.0 (omega arith))
      (λ (q : 245 ≤ x). let f = r.fourth (omega arith) in omega (arith, f.2.1)) (order x 245))
      (order x 128)

  bad_second : seconds x y ≡ false → 194 ≤ x → x ≤ 244 → ⊥
  bad_second off l h =
      let s = r.second (omega arith) in
      is_no_second x y off (record {
        least = s.2.0;
        most = s.2.1;
        after_224 = λ e. let f = r.in_three (omega arith) (omega arith) in omega (arith, f.0);
        after_237 = λ e. let f = r.in_three (omega arith) (omega arith) in
            ⊎_elim (λ q. omega (arith, q)) (λ q. omega (arith, q, s.2.1)) f.1;
        after_240 = λ e. let f = r.fourth (omega arith) in omega (arith, f.2.0);
        after_244 = λ e. let f = r.fourth (omega arith) in omega (arith, f.2.1);
      })

not_ranged : (d more : List ℕ) (n k : ℕ) → 0 < length d → HasNoFirst d → error_len_of_some d ≡ Some k
    → Ranged n (get_or (d ++ more) 0 0) (get_or (d ++ more) 1 0) (get_or (d ++ more) 2 0) (get_or (d ++ more) 3 0) → ⊥
not_ranged [] more n k some none e r = omega arith
not_ranged (x ∷ []) more n k some none e r =
    by_cases (λ t. cond t None at_one ≡ Some k → ⊥) (is_in_range 194 244 x)
    (λ on. λ e'. cc)
    (λ off. λ e'. bad_lead n x _ _ _ r off (none 1 (omega arith))) e
not_ranged (x ∷ y ∷ []) more n k some none e r =
    by_cases (λ t. cond t (cond (seconds x y) None at_one) at_one ≡ Some k → ⊥) (is_in_range 194 244 x)
    (λ on. by_cases (λ t. cond t None at_one ≡ Some k → ⊥) (seconds x y)
    (λ on2. λ e'. cc)
    (λ off. λ e'. let l = lead_range x on in bad_second n x y _ _ r off l.0 l.1))
    (λ off. λ e'. bad_lead n x y _ _ r off (none 1 (omega arith))) e
not_ranged (x ∷ y ∷ z ∷ []) more n k some none e r =
    by_cases (λ t. cond t (cond (seconds x y) (cond (thirds z) None at_two) at_one) at_one ≡ Some k → ⊥) (is_in_range 194 244 x)
    (λ on. by_cases (λ t. cond t (cond (thirds z) None at_two) at_one ≡ Some k → ⊥) (seconds x y)
    (λ on2. by_cases (λ t. cond t None at_two ≡ Some k → ⊥) (thirds z)
    (λ on3. λ e'. cc)
    (λ off. λ e'. let l = lead_range x on in
    ⊎_elim (λ (p : x < 224). none 2 (omega arith) (text_two x y l.0 p (is_second x y on2)))
    (λ (p : 224 ≤ x). let f = r.third p in no_third z off f.1.0 f.1.1) (order x 224)))
    (λ off. λ e'. let l = lead_range x on in bad_second n x y z _ r off l.0 l.1))
    (λ off. λ e'. bad_lead n x y z _ r off (none 1 (omega arith))) e
not_ranged (x ∷ y ∷ z ∷ w ∷ ds) more n k some none e r =
    by_cases (λ t. ⊥) (is_in_range 194 244 x)
    (λ on. let l = lead_range x on in by_cases (λ t. ⊥) (seconds x y)
    (λ on2. let s = is_second x y on2 in
    ⊎_elim (λ (p : x < 224). none 2 (omega arith) (text_two x y l.0 p s))
    (λ (p : 224 ≤ x). let f = r.third p in
    ⊎_elim (λ (o : x < 240). none 3 (omega arith) (text_three x y z p o s f.1.0 f.1.1))
    (λ (o : 240 ≤ x). let g = r.fourth o in none 4 (omega arith) (text_four x y z w o l.1 s f.1.0 f.1.1 g.1.0 g.1.1))
    (order x 240))
    (order x 224))
    (λ off. bad_second n x y z w r off l.0 l.1))
    (λ off. bad_lead n x y z w r off (none 1 (omega arith)))

pub fault_is_final : (t : List ℕ) (n k : ℕ) → IsValidUpTo t n → utf8_error_len (drop n t) ≡ Some k → IsNoText t
fault_is_final t n k valid e more is =
    let d = drop n t in
    let short : n ≤ length t = omega (arith, valid.short) in
    let some : 0 < length d = omega (arith, length-drop n t, valid.short) in
    let front : IsUtf8 (take n (t ++ more)) = subst IsUtf8 (sym (take-append-le n t more short)) valid.front in
    let later : IsUtf8 (d ++ more) = subst IsUtf8 (drop-append-le n t more short) (after_text (t ++ more) n is front) in
    let none : StartsWithNoChar (d ++ more) =
    no_char (d ++ more) 0 (not_ranged d more _ k some (past_front t n valid) (sym (utf8_error_len_some d some) ∙ e))
    in
    no_text (d ++ more) [] (subst StartsWithNoChar (sym (append-nil (d ++ more))) none) later
    (omega (arith, length-append d more))
