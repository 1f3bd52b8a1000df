-- A section that is cut behind a line feed is whole field lines.
use Rattle.std.proofs.Common.{◌≡◌, ℕ, true, false, ◌<◌, ◌≤◌, List, [], ◌∷◌, ◌++◌, length, drop, refl, sym, ap, subst}
use Rattle.std.proofs.Common.{◌∙◌, arith, append_assoc, append-nil, length-append, length-drop, flat_map}
use Rattle.std.specs.Prelude.{Bool, not, All, ◌==◌}
use Rattle.std.specs.List.{list_all}
use Rattle.std.proofs.lemmas.List.{append_cancel_left}
use Rattle.std.proofs.lemmas.List.Elements.{All-cons, All-nil, All-head, All-tail}
use Rattle.std.proofs.lemmas.List.Folds.{list_all-append}
use Rattle.std.proofs.lemmas.List.Sums.{list_all-from_AllPass}
use Rattle.std.proofs.lemmas.Bool.{and_from}
use Rattle.std.proofs.lemmas.Bool.Decides.{nat_tests}
use Rattle.std.proofs.str.Laws.{order}
use mathlib.Core.Logic.{⊎_elim}
use Rattle.httparse.specs.Grammar.{LineEnd, crlf, lf, print_end, Field, IsField, print_field, print_section}
use Rattle.httparse.specs.Grammar.{HasNoSection, is_token_byte, is_value_byte}
use Rattle.asp_text.proofs.Places.{by_cases, both_true}
use Rattle.http_front.proofs.Shortest.{longer_prefix}

abbrev pub no_feed : ℕ → Bool
no_feed b = not (b == 10)

by_test : (test : ℕ → Bool) → test 10 ≡ false → (b : ℕ) → test b ≡ true → no_feed b ≡ true
by_test test fails b passes =
    by_cases (λ t. not t ≡ true) (b == 10)
    (λ t. let same : b ≡ 10 = grind (arith, nat_tests) in let there : test b ≡ test 10 = ap test same in cc)
    (λ t. refl)

pub all_of : (test : ℕ → Bool) → test 10 ≡ false → (bs : List ℕ) → list_all test bs ≡ true → list_all no_feed bs ≡ true
all_of test fails [] e = refl
all_of test fails (b ∷ bs) e =
    let parts = both_true (test b) (list_all test bs) e in
    and_from _ _ (by_test test fails b parts.0) (all_of test fails bs parts.1)

pub feed_is_no_token : is_token_byte 10 ≡ false
unfolding is_token_byte
feed_is_no_token = refl

-- before the only line feed there is none
only_feed : (p q s : List ℕ) → list_all no_feed q ≡ true → p ++ 10 ∷ s ≡ q ++ 10 ∷ [] → (p ≡ q) × (s ≡ [])
only_feed [] [] s none e = (refl, cc)
only_feed [] (c ∷ q) s none e =
    let parts = both_true (no_feed c) (list_all no_feed q) none in
    let same : c ≡ 10 = cc in
    let wrong : false ≡ true = subst (λ v. not (v == 10) ≡ true) same parts.0 in
    absurd cc
only_feed (b ∷ p) [] s none e =
    let later : p ++ 10 ∷ s ≡ [] = cc in
    absurd (omega (arith, ap length later, length-append p (10 ∷ s)))
only_feed (b ∷ p) (c ∷ q) s none e =
    let parts = both_true (no_feed c) (list_all no_feed q) none in
    let later : p ++ 10 ∷ s ≡ q ++ 10 ∷ [] = cc in
    let head : b ≡ c = cc in
    let r = only_feed p q s parts.1 later in
    (λ i. head i ∷ r.0 i, r.1)

-- the bytes of a line end before its line feed
pub end_body : LineEnd → List ℕ
end_body crlf = 13 ∷ []
end_body lf = []

pub end_is : (e : LineEnd) → print_end e ≡ end_body e ++ 10 ∷ []
unfolding end_body
end_is crlf = refl
end_is lf = refl

pub end_none : (e : LineEnd) → list_all no_feed (end_body e) ≡ true
unfolding end_body
end_none crlf = refl
end_none lf = refl

field_body : Field → List ℕ
field_body f = f.name ++ 58 ∷ f.raw ++ end_body f.end

field_is : (f : Field) → print_field f ≡ field_body f ++ 10 ∷ []
unfolding field_body
field_is f = ap (λ l. f.name ++ 58 ∷ f.raw ++ l) (end_is f.end)
    ∙ sym (append_assoc (f.name ++ 58 ∷ f.raw) (end_body f.end) (10 ∷ []))

field_none : (f : Field) → IsField f → list_all no_feed (field_body f) ≡ true
unfolding field_body
field_none f is =
    let name = all_of is_token_byte feed_is_no_token f.name (list_all-from_AllPass is_token_byte f.name is.name.1) in
    let raw = all_of is_value_byte refl f.raw (list_all-from_AllPass is_value_byte f.raw is.raw) in
    let front : list_all no_feed (f.name ++ 58 ∷ f.raw) ≡ true =
    list_all-append no_feed f.name (58 ∷ f.raw) ∙ and_from _ _ name raw in
    list_all-append no_feed (f.name ++ 58 ∷ f.raw) (end_body f.end) ∙ and_from _ _ front (end_none f.end)

-- what is left behind a shorter front ends in the line feed too
pub left_feed : (a t p : List ℕ) → p ++ 10 ∷ [] ≡ a ++ t → 0 < length t → (q : List ℕ) × (t ≡ q ++ 10 ∷ [])
left_feed a t p e some =
    let short : length a ≤ length p = omega (arith, ap length e, length-append p (10 ∷ []), length-append a t) in
    let split = longer_prefix a t p (10 ∷ []) (sym e) short in
    let q = drop (length a) p in
    (q, append_cancel_left a t (q ++ 10 ∷ []) (sym e ∙ ap (λ l. l ++ 10 ∷ []) split ∙ append_assoc a q (10 ∷ [])))

-- A section that goes on behind a line feed begins with whole field lines up to there.
pub section_cut : (fs : List Field) (last : LineEnd) (p more : List ℕ) → All IsField fs
    → (p ++ 10 ∷ []) ++ more ≡ flat_map print_field fs ++ print_end last → HasNoSection (p ++ 10 ∷ [])
    → (gs : List Field) × All IsField gs × (p ++ 10 ∷ [] ≡ flat_map print_field gs)
section_cut [] last p more all e none =
    let r = only_feed p (end_body last) more (end_none last) (sym (append_assoc p (10 ∷ []) more) ∙ e ∙ end_is last) in
    let text : p ++ 10 ∷ [] ≡ print_end last = ap (λ l. l ++ 10 ∷ []) r.0 ∙ sym (end_is last) in
    absurd (none [] last [] (All-nil IsField, text ∙ sym (append-nil (print_end last))))
section_cut (f ∷ fs) last p more all e none =
    let text : List ℕ = p ++ 10 ∷ [] in
    let line = print_field f in
    let rest : List ℕ = flat_map print_field fs ++ print_end last in
    let e' : text ++ more ≡ line ++ rest = e ∙ append_assoc line (flat_map print_field fs) (print_end last) in
    let is = All-head IsField f fs all in
    ⊎_elim
    (λ (q : length text < length line).
    let split = longer_prefix text more line rest e' (omega arith) in
    let s = drop (length text) line in
    let r = only_feed p (field_body f) s (field_none f is) (sym (append_assoc p (10 ∷ []) s) ∙ sym split ∙ field_is f) in
    absurd (omega (arith, ap length r.1, length-drop (length text) line)))
    (λ (q : length line ≤ length text).
    let split = longer_prefix line rest text more (sym e') q in
    let t = drop (length line) text in
    let later : t ++ more ≡ rest =
    append_cancel_left line (t ++ more) rest (sym (append_assoc line t more) ∙ ap (λ l. l ++ more) (sym split) ∙ e') in
    ⊎_elim
    (λ (z : length t < 1).
    let empty : t ≡ [] = no_length t (omega arith) in
    (f ∷ [], All-cons IsField f [] is (All-nil IsField), split ∙ ap (λ l. line ++ l) empty))
    (λ (some : 1 ≤ length t).
    let ends = left_feed line t p split some in
    let none' : HasNoSection (ends.0 ++ 10 ∷ []) = λ gs l r x.
    none (f ∷ gs) l r (
      All-cons IsField f gs is x.0,
      split ∙ ap (λ k. line ++ k) (ends.1 ∙ x.1) ∙ sym (append_assoc line (print_section gs l) r)
          ∙ ap (λ k. k ++ r) (sym (append_assoc line (flat_map print_field gs) (print_end l))),
    ) in
    let deeper = section_cut fs last ends.0 more (All-tail IsField f fs all) (ap (λ l. l ++ more) (sym ends.1) ∙ later) none' in
    (f ∷ deeper.0, All-cons IsField f deeper.0 is deeper.1, split ∙ ap (λ l. line ++ l) (ends.1 ∙ deeper.2)))
    (order (length t) 1))
    (order (length text) (length line))
  where
    no_length : (l : List ℕ) → length l ≡ 0 → l ≡ []
    no_length [] z = refl
    no_length (b ∷ l) z = absurd (omega arith)
