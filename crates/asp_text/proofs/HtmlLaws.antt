-- The HTML of a text is clean, and is read as the text.
use Rattle.std.proofs.Common.{◌≡◌, ℕ, suc, ◌+◌, ◌<◌, ◌≤◌, List, [], ◌∷◌, ◌++◌, take, drop, refl, sym, ap, ◌∙◌, arith}
use Rattle.std.proofs.Common.{All, true, false, cond, append_assoc}
use Rattle.std.specs.Prelude.{Bool, ◌==◌, ◌&&◌, nat_lt, codes, not}
use Rattle.std.specs.List.{flat_map, list_all, slice_split, onto_first, before_first, after_first, position_or_len}
use Rattle.std.specs.Fmt.{decimal}
use Rattle.std.specs.Str.Parse.{AllDigits}
use Rattle.std.proofs.lemmas.Bool.{cond_both}
use Rattle.std.proofs.lemmas.Bool.Decides.{nat_tests}
use Rattle.std.proofs.lemmas.List.Elements.{All-nil, All-cons, All-append, All-head, All-tail}
use Rattle.std.proofs.lemmas.List.Splits.{slice_split-cons_yes, slice_split-cons_no}
use Rattle.std.proofs.lemmas.Fmt.{decimal_is_IsNumeral}
use Rattle.asp_text.specs.Html.{numbered, html_character, html_encoded}
use Rattle.asp_text.specs.Laws.{IsText, IsHtmlCharacter, referred, after_ampersand, parts_read, html_decoded, IsHtmlOf}
use Rattle.asp_text.proofs.Places.{by_cases, both_true}

abbrev is_semicolon : ℕ → Bool
is_semicolon c = c == 59

abbrev is_ampersand : ℕ → Bool
is_ampersand c = c == 38

-- a character within a reference
abbrev is_inner : ℕ → Bool
is_inner c = not (is_semicolon c) && not (is_ampersand c)

-- ---- where a reference ends

semicolon_cut : (name part : List ℕ) → list_all is_inner name ≡ true
    → (before_first is_semicolon (name ++ 59 ∷ part) ≡ name) × (after_first is_semicolon (name ++ 59 ∷ part) ≡ part)
semicolon_cut [] part inner = (refl, refl)
semicolon_cut (c ∷ name) part inner =
    let parts = both_true (is_inner c) (list_all is_inner name) inner in
    let test = (both_true (not (is_semicolon c)) (not (is_ampersand c)) parts.0).0 in
    let place : position_or_len is_semicolon (c ∷ (name ++ 59 ∷ part))
    ≡ 1 + position_or_len is_semicolon (name ++ 59 ∷ part) =
    ap (λ t. cond t (1 + position_or_len is_semicolon (name ++ 59 ∷ part)) 0) test in
    let later = semicolon_cut name part parts.1 in
    let n = position_or_len is_semicolon (name ++ 59 ∷ part) in (
      ap (λ k. take k (c ∷ (name ++ 59 ∷ part))) (place ∙ (let e : 1 + n ≡ suc n = omega arith in e))
          ∙ ap (λ l. c ∷ l) later.0,
      ap (λ k. drop (k + 1) (c ∷ (name ++ 59 ∷ part))) place
          ∙ ap (λ k. drop k (c ∷ (name ++ 59 ∷ part))) (let e : 1 + n + 1 ≡ suc (n + 1) = omega arith in e) ∙ later.1,
    )

-- ---- where the next one begins

record Split (text : List ℕ) : Type 0 where
  part : List ℕ
  parts : List (List ℕ)
  is : slice_split is_ampersand text ≡ part ∷ parts

onto : (c : ℕ) (text : List ℕ) (l : List (List ℕ)) → slice_split is_ampersand text ≡ onto_first c l → Split text
onto c text [] e = record { part = c ∷ []; parts = []; is = e }
onto c text (part ∷ parts) e = record { part = c ∷ part; parts = parts; is = e }

split_text : (text : List ℕ) → Split text
split_text [] = record { part = []; parts = []; is = refl }
split_text (c ∷ text) =
    by_cases (λ t. is_ampersand c ≡ t → Split (c ∷ text)) (is_ampersand c)
    (λ _ e. record {
      part = [];
      parts = slice_split is_ampersand text;
      is = slice_split-cons_yes is_ampersand c text e;
    })
    (λ _ e. onto c (c ∷ text) (slice_split is_ampersand text) (slice_split-cons_no is_ampersand c text e)) refl

-- characters before the first `&`
split_behind : (front text part : List ℕ) (parts : List (List ℕ)) → list_all (λ c. not (is_ampersand c)) front ≡ true
    → slice_split is_ampersand text ≡ part ∷ parts → slice_split is_ampersand (front ++ text) ≡ (front ++ part) ∷ parts
split_behind [] text part parts other e = e
split_behind (c ∷ front) text part parts other e =
    let test = both_true (not (is_ampersand c)) (list_all (λ x. not (is_ampersand x)) front) other in
    let no : is_ampersand c ≡ false = grind (arith, nat_tests) in
    slice_split-cons_no is_ampersand c (front ++ text) no
    ∙ ap (onto_first c) (split_behind front text part parts test.1 e)

-- ---- reading

read_plain : (c : ℕ) (text : List ℕ) → is_ampersand c ≡ false → html_decoded (c ∷ text) ≡ c ∷ html_decoded text
unfolding html_decoded
read_plain c text other =
    let s = split_text text in
    ap parts_read (slice_split-cons_no is_ampersand c text other ∙ ap (onto_first c) s.is)
    ∙ sym (ap (λ l. c ∷ parts_read l) s.is)

inner_others : (name : List ℕ) → list_all is_inner name ≡ true
    → list_all (λ c. not (is_ampersand c)) (name ++ 59 ∷ []) ≡ true
inner_others [] inner = refl
inner_others (c ∷ name) inner =
    let parts = both_true (is_inner c) (list_all is_inner name) inner in
    let test = (both_true (not (is_semicolon c)) (not (is_ampersand c)) parts.0).1 in
    ap (λ t. t && list_all (λ x. not (is_ampersand x)) (name ++ 59 ∷ [])) test ∙ inner_others name parts.1

read_reference : (name text : List ℕ) → list_all is_inner name ≡ true
    → html_decoded (38 ∷ ((name ++ 59 ∷ []) ++ text)) ≡ referred name ∷ html_decoded text
unfolding html_decoded
read_reference name text inner =
    let s = split_text text in
    let front = name ++ 59 ∷ [] in
    let behind = split_behind front text s.part s.parts (inner_others name inner) s.is in
    let cut = semicolon_cut name s.part inner in
    let joined : front ++ s.part ≡ name ++ 59 ∷ s.part = append_assoc name (59 ∷ []) s.part in
    ap parts_read (slice_split-cons_yes is_ampersand 38 (front ++ text) refl ∙ ap (λ l. [] ∷ l) behind)
    ∙ ap (λ l. after_ampersand l ++ flat_map after_ampersand s.parts) joined
    ∙ (λ i. (referred (cut.0 i) ∷ cut.1 i) ++ flat_map after_ampersand s.parts)
    ∙ sym (ap (λ l. referred name ∷ parts_read l) s.is)

-- ---- numbers

inner_digits : (ds : List ℕ) → AllDigits 10 ds → list_all is_inner ds ≡ true
inner_digits [] all = refl
inner_digits (d ∷ ds) all =
    let test : is_inner d ≡ true = grind (arith, nat_tests, all.0) in
    ap (λ t. t && list_all is_inner ds) test ∙ inner_digits ds all.1

clean_digits : (ds : List ℕ) → AllDigits 10 ds → All IsHtmlCharacter ds
clean_digits [] all = All-nil IsHtmlCharacter
clean_digits (d ∷ ds) all =
    let one : (48 ≤ d) × (d ≤ 57) = (grind (arith, nat_tests, all.0), grind (arith, nat_tests, all.0)) in
    All-cons IsHtmlCharacter d ds
    (omega (arith, one.1), λ e. omega (arith, one.1), λ e. omega (arith, one.1), λ e. omega (arith, one.0))
    (clean_digits ds all.1)

read_number : (c : ℕ) (text : List ℕ) → c < 1114112 → html_decoded (numbered c ++ text) ≡ c ∷ html_decoded text
read_number c text small =
    let numeral = decimal_is_IsNumeral c (omega arith) in
    let name = 35 ∷ decimal c in
    let whole : numbered c ++ text ≡ 38 ∷ ((name ++ 59 ∷ []) ++ text) = refl in
    let worth : referred name ≡ c = numeral.1 in
    ap html_decoded whole ∙ read_reference name text (inner_digits (decimal c) numeral.0.1)
    ∙ ap (λ x. x ∷ html_decoded text) worth

-- ---- all characters

read_character : (c : ℕ) (text : List ℕ) → c < 1114112 → html_decoded (html_character c ++ text) ≡ c ∷ html_decoded text
read_character c text small =
    let Reads : List ℕ → Type 0 = λ code. html_decoded (code ++ text) ≡ c ∷ html_decoded text in
    cond_both (c == 60) (codes "&lt;") _ Reads
    (λ e. read_reference (codes "lt") text refl
    ∙ ap (λ x. x ∷ html_decoded text) (let same : 60 ≡ c = grind (arith, nat_tests) in same))
    (λ _. cond_both (c == 62) (codes "&gt;") _ Reads
    (λ e. read_reference (codes "gt") text refl
    ∙ ap (λ x. x ∷ html_decoded text) (let same : 62 ≡ c = grind (arith, nat_tests) in same))
    (λ _. cond_both (c == 38) (codes "&amp;") _ Reads
    (λ e. read_reference (codes "amp") text refl
    ∙ ap (λ x. x ∷ html_decoded text) (let same : 38 ≡ c = grind (arith, nat_tests) in same))
    (λ plain. cond_both (c == 34) (codes "&quot;") _ Reads
    (λ e. read_reference (codes "quot") text refl
    ∙ ap (λ x. x ∷ html_decoded text) (let same : 34 ≡ c = grind (arith, nat_tests) in same))
    (λ _. cond_both (nat_lt c 128) (c ∷ []) (numbered c) Reads
    (λ _. read_plain c text plain)
    (λ _. read_number c text small)))))

reads : (text : List ℕ) → IsText text → html_decoded (html_encoded text) ≡ text
unfolding html_encoded html_decoded
reads [] is = refl
reads (c ∷ text) is =
    read_character c (html_encoded text) (All-head (λ x. x < 1114112) c text is)
    ∙ ap (λ l. c ∷ l) (reads text (All-tail (λ x. x < 1114112) c text is))

-- ---- clean

abbrev is_clean : ℕ → Bool
is_clean c = nat_lt c 128 && (not (c == 60) && (not (c == 62) && not (c == 34)))

clean_test : (cs : List ℕ) → list_all is_clean cs ≡ true → All IsHtmlCharacter cs
clean_test [] all = All-nil IsHtmlCharacter
clean_test (c ∷ cs) all =
    let parts = both_true (is_clean c) (list_all is_clean cs) all in
    let p = both_true (nat_lt c 128) _ parts.0 in
    let q = both_true (not (c == 60)) _ p.1 in
    let r = both_true (not (c == 62)) (not (c == 34)) q.1 in
    All-cons IsHtmlCharacter c cs (
      grind (arith, nat_tests),
      λ e. grind (arith, nat_tests),
      λ e. grind (arith, nat_tests),
      λ e. grind (arith, nat_tests),
    ) (clean_test cs parts.1)

clean_number : (c : ℕ) → c < 1114112 → All IsHtmlCharacter (numbered c)
clean_number c small =
    let numeral = decimal_is_IsNumeral c (omega arith) in
    All-append IsHtmlCharacter (codes "&#" ++ decimal c) (codes ";")
    (All-append IsHtmlCharacter (codes "&#") (decimal c) (clean_test (codes "&#") refl)
    (clean_digits (decimal c) numeral.0.1))
    (clean_test (codes ";") refl)

clean_character : (c : ℕ) → c < 1114112 → All IsHtmlCharacter (html_character c)
clean_character c small =
    cond_both (c == 60) (codes "&lt;") _ (All IsHtmlCharacter) (λ _. clean_test (codes "&lt;") refl)
    (λ less. cond_both (c == 62) (codes "&gt;") _ (All IsHtmlCharacter) (λ _. clean_test (codes "&gt;") refl)
    (λ greater. cond_both (c == 38) (codes "&amp;") _ (All IsHtmlCharacter) (λ _. clean_test (codes "&amp;") refl)
    (λ _. cond_both (c == 34) (codes "&quot;") _ (All IsHtmlCharacter) (λ _. clean_test (codes "&quot;") refl)
    (λ quote. cond_both (nat_lt c 128) (c ∷ []) (numbered c) (All IsHtmlCharacter)
    (λ ascii. All-cons IsHtmlCharacter c [] (
      grind (arith, nat_tests),
      λ e. grind (arith, nat_tests),
      λ e. grind (arith, nat_tests),
      λ e. grind (arith, nat_tests),
    ) (All-nil IsHtmlCharacter))
    (λ _. clean_number c small)))))

clean : (text : List ℕ) → IsText text → All IsHtmlCharacter (html_encoded text)
unfolding html_encoded
clean [] is = All-nil IsHtmlCharacter
clean (c ∷ text) is =
    All-append IsHtmlCharacter (html_character c) (html_encoded text)
    (clean_character c (All-head (λ x. x < 1114112) c text is))
    (clean text (All-tail (λ x. x < 1114112) c text is))

pub html_of : (text : List ℕ) → IsText text → IsHtmlOf text (html_encoded text)
html_of text is = record { clean = clean text is; reads = reads text is }
