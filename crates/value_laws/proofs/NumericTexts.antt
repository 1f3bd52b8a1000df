-- A text is a number exactly by the grammar of numeric texts.
use Rattle.std.proofs.Common.{◌≡◌, ◌⊎◌, inl, inr, ℕ, suc, ◌+◌, ◌==◌, Bool, true, false, not, if◌then◌else◌, List, [], ◌∷◌}
use Rattle.std.proofs.Common.{◌++◌, take, drop, reverse, Err, codes, append-nil, refl, sym, ap, ◌∙◌, arith}
use Rattle.std.specs.List.{list_all, before_first, after_first, position_or_len}
use Rattle.std.specs.Char.{is_ascii_digit}
use Rattle.std.proofs.lemmas.List.{reverse-append, reverse-reverse, append_assoc}
use Rattle.std.proofs.lemmas.Bool.Decides.{nat_tests}
use Rattle.vb_value.specs.Errors.{type_mismatch}
use Rattle.vb_value.specs.Numbers.{as_currency}
use Rattle.vb_value.specs.Characters.{is_blank}
use Rattle.vb_value.specs.NumericText.{without_first, without_last, trimmed, has_minus, unsigned, is_point}
use Rattle.vb_value.specs.NumericText.{whole_digits, decimal_digits, is_numeral, numeral_size, signed, cur_of_text_of}
use Rattle.value_laws.specs.Grammar.{IsSign, IsPoint, IsNumericText, FollowsGrammar}
use Rattle.value_laws.proofs.AllPass.{both, negated, all_append, all_reverse, none_first, joined}
use Rattle.value_laws.proofs.Numerals.{Parts, split, unsigned_digits, read}

-- ---- what the grammar spells is read so

abbrev no_blank : ℕ → Bool
no_blank c = not (is_blank c)

skipped : (test : ℕ → Bool) (front back : List ℕ) → list_all test front ≡ true
    → without_first test (front ++ back) ≡ without_first test back
skipped test [] back all = refl
skipped test (c ∷ front) back all =
    let parts = both (test c) (list_all test front) all in
    rw (parts.0) (skipped test front back parts.1)

kept_behind : (test : ℕ → Bool) (body behind : List ℕ) → list_all (λ c. not (test c)) body ≡ true
    → list_all test behind ≡ true → without_last test (body ++ behind) ≡ body
kept_behind test body behind none all =
    ap reverse (ap (without_first test) (reverse-append body behind)
    ∙ (skipped test (reverse behind) (reverse body) (all_reverse test behind all)
    ∙ none_first test (reverse body) (all_reverse (λ c. not (test c)) body none)))
    ∙ reverse-reverse body

trims : (before body behind : List ℕ) → list_all is_blank before ≡ true → list_all no_blank body ≡ true
    → list_all is_blank behind ≡ true → trimmed (before ++ (body ++ behind)) ≡ body
trims before [] behind first none last =
    ap (without_last is_blank) (skipped is_blank before behind first
    ∙ (ap (without_first is_blank) (sym (append-nil behind)) ∙ skipped is_blank behind [] last))
trims before (c ∷ body) behind first none last =
    ap (without_last is_blank) (skipped is_blank before ((c ∷ body) ++ behind) first
    ∙ starts c (body ++ behind) (both (no_blank c) (list_all no_blank body) none).0)
    ∙ kept_behind is_blank (c ∷ body) behind none last
  where
    starts : (c : ℕ) (rest : List ℕ) → not (is_blank c) ≡ true → without_first is_blank (c ∷ rest) ≡ c ∷ rest
    starts c rest is = rw (negated (is_blank c) is) refl

regrouped : (sign whole point decimals behind : List ℕ)
    → sign ++ (whole ++ (point ++ (decimals ++ behind))) ≡ (sign ++ (whole ++ (point ++ decimals))) ++ behind
regrouped sign whole point decimals behind = sym (append_assoc sign (whole ++ (point ++ decimals)) behind
    ∙ ap (λ rest. sign ++ rest) (append_assoc whole (point ++ decimals) behind
    ∙ ap (λ rest. whole ++ rest) (append_assoc point decimals behind)))

more_is : (point decimals : List ℕ) → IsPoint point decimals
    → (((point ++ decimals) ≡ []) × (decimals ≡ [])) ⊎ ((point ++ decimals) ≡ 46 ∷ decimals)
more_is point decimals (inl is) = rw is (inr refl)
more_is point decimals (inr none) = rw (none.0, none.1) (inl (refl, refl))

sign_no_blank : (sign : List ℕ) (minus : Bool) → IsSign sign minus → list_all no_blank sign ≡ true
sign_no_blank sign minus (inl is) = rw (is.0) refl
sign_no_blank sign minus (inr (inl is)) = rw (is.0) refl
sign_no_blank sign minus (inr (inr is)) = rw (is.0) refl

-- what begins with a digit or a point, or is empty, has no sign
unsigned_numeral : (whole more : List ℕ) → list_all is_ascii_digit whole ≡ true
    → (more ≡ []) ⊎ ((tail : List ℕ) × (more ≡ 46 ∷ tail))
    → (unsigned (whole ++ more) ≡ whole ++ more) × (has_minus (whole ++ more) ≡ false)
unsigned_numeral [] more digits (inl none) = rw none (refl, refl)
unsigned_numeral [] more digits (inr some) = rw (some.1) (refl, refl)
unsigned_numeral (c ∷ whole) more digits starts = unsigned_digits (c ∷ whole) more digits (omega arith)

starts_of : (point decimals : List ℕ) → IsPoint point decimals
    → ((point ++ decimals) ≡ []) ⊎ ((tail : List ℕ) × ((point ++ decimals) ≡ 46 ∷ tail))
starts_of point decimals (inl is) = rw is (inr (decimals, refl))
starts_of point decimals (inr none) = rw (none.0, none.1) (inl refl)

sign_off : (sign : List ℕ) (minus : Bool) (rest : List ℕ) → IsSign sign minus
    → (unsigned rest ≡ rest) × (has_minus rest ≡ false)
    → (unsigned (sign ++ rest) ≡ rest) × (has_minus (sign ++ rest) ≡ minus)
sign_off sign minus rest (inl is) none = rw (is.0, is.1) none
sign_off sign minus rest (inr (inl is)) none = rw (is.0, is.1) (refl, refl)
sign_off sign minus rest (inr (inr is)) none = rw (is.0, is.1) (refl, refl)

pub number : (text : List ℕ) (minus : Bool) (whole decimals : List ℕ) → IsNumericText text minus whole decimals
    → cur_of_text_of text ≡ as_currency (signed minus (numeral_size whole decimals))
number text minus whole decimals is =
    let more : List ℕ = is.point ++ decimals in
    let body : List ℕ = is.sign ++ (whole ++ more) in
    let tests = both _ _ is.digits in
    let digits = both (list_all is_ascii_digit whole) (list_all is_ascii_digit decimals) tests.0 in
    let parts : Parts whole decimals (whole ++ more) =
    split whole decimals more digits.0 digits.1 (more_is is.point decimals is.is_point) in
    let sign = sign_off is.sign minus (whole ++ more) is.is_sign
    (unsigned_numeral whole more digits.0 (starts_of is.point decimals is.is_point)) in
    let trim : trimmed text ≡ body =
    ap trimmed (is.spelled ∙ ap (λ rest. is.before ++ rest) (regrouped is.sign whole is.point decimals is.behind))
    ∙ trims is.before body is.behind is.blank_before
    (all_append no_blank is.sign (whole ++ more) (sign_no_blank is.sign minus is.is_sign) parts.unblank)
    is.blank_behind in
    read text whole decimals minus (numeral_size whole decimals)
    (ap (λ text. before_first is_point (unsigned text)) trim ∙ (ap (before_first is_point) sign.0 ∙ parts.before))
    (ap (λ text. after_first is_point (unsigned text)) trim ∙ (ap (after_first is_point) sign.0 ∙ parts.behind))
    (ap has_minus trim ∙ sign.1) is.digits refl

-- ---- what is read is spelled by the grammar

-- what without_first takes off
pub record Front (test : ℕ → Bool) (items left : List ℕ) : Type 0 where
  pub front : List ℕ
  pub split : items ≡ front ++ left
  pub all : list_all test front ≡ true

taken : (test : ℕ → Bool) (c : ℕ) (items left : List ℕ) (passes : Bool) → test c ≡ passes → Front test items left
    → Front test (c ∷ items) (if passes then left else c ∷ items)
taken test c items left true is it = record {
  front = c ∷ it.front;
  split = ap (λ rest. c ∷ rest) it.split;
  all = joined _ _ is it.all;
}
taken test c items left false is it = record { front = []; split = refl; all = refl }

front_of : (test : ℕ → Bool) (items : List ℕ) → Front test items (without_first test items)
front_of test [] = record { front = []; split = refl; all = refl }
front_of test (c ∷ items) = taken test c items (without_first test items) (test c) refl (front_of test items)

-- what without_last takes off
pub record Back (test : ℕ → Bool) (items left : List ℕ) : Type 0 where
  pub back : List ℕ
  pub split : items ≡ left ++ back
  pub all : list_all test back ≡ true

back_of : (test : ℕ → Bool) (items : List ℕ) → Back test items (without_last test items)
back_of test items =
    let it = front_of test (reverse items) in
    record {
      back = reverse it.front;
      split = sym (reverse-reverse items) ∙ (ap reverse it.split
          ∙ reverse-append it.front (without_first test (reverse items)));
      all = all_reverse test it.front it.all;
    }

-- the sign that unsigned takes off
pub record Signed (text : List ℕ) : Type 0 where
  pub sign : List ℕ
  pub split : text ≡ sign ++ unsigned text
  pub is_sign : IsSign sign (has_minus text)

is_char : (c d : ℕ) → (c == d) ≡ true → c ≡ d
is_char c d is = grind (arith, nat_tests)

signed_of : (text : List ℕ) → Signed text
signed_of [] = record { sign = []; split = refl; is_sign = inl (refl, refl) }
signed_of (c ∷ text) = by (c == 43) (c == 45) refl refl
  where
    by : (plus minus : Bool) → (c == 43) ≡ plus → (c == 45) ≡ minus → Signed (c ∷ text)
    by true true is also = absurd (grind (arith, nat_tests))
    by true false is none = record {
      sign = codes "+";
      split = rw (is) (ap (λ (d : ℕ). d ∷ text) (is_char c 43 is));
      is_sign = inr (inl (refl, none));
    }
    by false true none is = record {
      sign = codes "-";
      split = rw (none, is) (ap (λ (d : ℕ). d ∷ text) (is_char c 45 is));
      is_sign = inr (inr (refl, is));
    }
    by false false none neither = record { sign = []; split = rw (none, neither) refl; is_sign = inl (refl, neither) }

-- the point between what stands before and behind it
pub record Pointed (text : List ℕ) : Type 0 where
  pub point : List ℕ
  pub split : text ≡ before_first is_point text ++ (point ++ after_first is_point text)
  pub point_is : IsPoint point (after_first is_point text)

further : (c : ℕ) (text : List ℕ) → is_point c ≡ false
    → position_or_len is_point (c ∷ text) ≡ suc (position_or_len is_point text)
further c text none = rw none (omega arith)

one_more : (n m : ℕ) → n ≡ suc m → n + 1 ≡ suc (m + 1)
one_more n m is = omega arith

pointed : (c : ℕ) (text : List ℕ) (here : Bool) → is_point c ≡ here → Pointed text → Pointed (c ∷ text)
pointed c text true is it = record {
  point = codes ".";
  split = rw is (ap (λ (d : ℕ). d ∷ text) (is_char c 46 is));
  point_is = inl refl;
}
pointed c text false none it =
    let before : before_first is_point (c ∷ text) ≡ c ∷ before_first is_point text =
    ap (λ n. take n (c ∷ text)) (further c text none) in
    let behind : after_first is_point (c ∷ text) ≡ after_first is_point text =
    ap (λ n. drop n (c ∷ text)) (one_more _ _ (further c text none)) in
    record {
      point = it.point;
      split = rw (before, behind) (ap (λ rest. c ∷ rest) it.split);
      point_is = rw behind it.point_is;
    }

pointed_of : (text : List ℕ) → Pointed text
pointed_of [] = record { point = []; split = refl; point_is = inr (refl, refl) }
pointed_of (c ∷ text) = pointed c text (is_point c) refl (pointed_of text)

spelled_by : (text : List ℕ) → is_numeral (whole_digits text) (decimal_digits text) ≡ true
    → IsNumericText text (has_minus (trimmed text)) (whole_digits text) (decimal_digits text)
spelled_by text numeral =
    let front = front_of is_blank text in
    let back = back_of is_blank (without_first is_blank text) in
    let sign = signed_of (trimmed text) in
    let point = pointed_of (unsigned (trimmed text)) in
    record {
      before = front.front;
      sign = sign.sign;
      point = point.point;
      behind = back.back;
      spelled = front.split ∙ ap (λ rest. front.front ++ rest) (back.split
          ∙ (ap (λ body. body ++ back.back) (sign.split ∙ ap (λ rest. sign.sign ++ rest) point.split)
          ∙ sym (regrouped sign.sign (whole_digits text) point.point (decimal_digits text) back.back)));
      blank_before = front.all;
      is_sign = sign.is_sign;
      digits = numeral;
      is_point = point.point_is;
      blank_behind = back.all;
    }

other : (text : List ℕ) → ((minus : Bool) (whole decimals : List ℕ) → ¬ (IsNumericText text minus whole decimals))
    → cur_of_text_of text ≡ Err type_mismatch
other text none = by (is_numeral (whole_digits text) (decimal_digits text)) refl
  where
    by : (numeral : Bool) → is_numeral (whole_digits text) (decimal_digits text) ≡ numeral
        → cur_of_text_of text ≡ Err type_mismatch
    by true is = absurd (none _ _ _ (spelled_by text is))
    by false fails = rw fails refl

pub follows_grammar : (text : List ℕ) → FollowsGrammar text
follows_grammar text = record { number = number text; other = other text }
