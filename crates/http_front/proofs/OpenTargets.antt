-- A window that ends inside a target.
use Rattle.std.proofs.Common.{◌≡◌, ℕ, true, false, cond, ◌*◌, ◌≤◌, List, [], ◌∷◌, ◌++◌, length, refl, sym, ap, subst}
use Rattle.std.proofs.Common.{◌∙◌, arith, append_assoc, length-append, Some, flat_map}
use Rattle.std.specs.Prelude.{Bool, not, All, IsTrue, ◌==◌, IsUtf8, ◌&&◌, ◌||◌}
use Rattle.std.specs.List.{list_all, list_any}
use Rattle.std.proofs.lemmas.List.Elements.{All-append, All-nil, All-head, All-tail}
use Rattle.std.proofs.lemmas.List.Folds.{list_all-append}
use Rattle.std.proofs.lemmas.List.Sums.{list_all-from_AllPass}
use Rattle.std.proofs.lemmas.Bool.{and_from}
use Rattle.std.proofs.lemmas.Bool.Decides.{nat_tests}
use Rattle.httparse.specs.Grammar.{LineEnd, crlf, lf, print_end, print_blank, print_version, print_section, Field}
use Rattle.httparse.specs.Grammar.{IsField, print_field, RequestHead, NeverHasRequest, EndsInTarget, AllPass}
use Rattle.httparse.specs.Grammar.{is_token_byte, is_uri_byte}
use Rattle.httparse.specs.Spans.{RequestExceeds}
use Rattle.httparse.proofs.GrammarLemmas.{print_request-append, cons-append}
use Rattle.asp_text.proofs.Places.{by_cases, both_true}
use Rattle.http_front.specs.Front.{BeginsHead}
use Rattle.http_front.specs.OpenTarget.{after_space, GoesOn, IsNoText}

abbrev pub no_space : ℕ → Bool
no_space b = not (b == 32)

abbrev pub HasNoSpace : List ℕ → Type 0
HasNoSpace bytes = list_all no_space bytes ≡ true

-- the two cases of a test
pub not_true : (p : Bool) → not p ≡ true → p ≡ false
not_true true e = sym e
not_true false e = refl

-- no byte of the class is a space
all_of : (test : ℕ → Bool) → ((b : ℕ) → test b ≡ true → no_space b ≡ true) → (bytes : List ℕ) → AllPass test bytes
    → HasNoSpace bytes
all_of test each bytes all = go bytes (list_all-from_AllPass test bytes all)
  where
    go : (bs : List ℕ) → list_all test bs ≡ true → HasNoSpace bs
    go [] e = refl
    go (b ∷ bs) e = let parts = both_true (test b) (list_all test bs) e in and_from _ _ (each b parts.0) (go bs parts.1)

by_test : (test : ℕ → Bool) → test 32 ≡ false → (b : ℕ) → test b ≡ true → no_space b ≡ true
by_test test fails b passes =
    by_cases (λ t. not t ≡ true) (b == 32)
    (λ t. let same : b ≡ 32 = grind (arith, nat_tests) in let there : test b ≡ test 32 = ap test same in cc)
    (λ t. refl)

space_is_no_token : is_token_byte 32 ≡ false
unfolding is_token_byte
space_is_no_token = refl

token_has_none : (bytes : List ℕ) → AllPass is_token_byte bytes → HasNoSpace bytes
token_has_none = all_of is_token_byte (by_test is_token_byte space_is_no_token)

uri_has_none : (bytes : List ℕ) → AllPass is_uri_byte bytes → HasNoSpace bytes
uri_has_none = all_of is_uri_byte (by_test is_uri_byte refl)

blank_has_none : (ends : List LineEnd) → HasNoSpace (print_blank ends)
blank_has_none [] = refl
blank_has_none (crlf ∷ ends) = blank_has_none ends
blank_has_none (lf ∷ ends) = blank_has_none ends

front_has_none : (ends : List LineEnd) (method : List ℕ) → AllPass is_token_byte method → HasNoSpace (print_blank ends ++ method)
front_has_none ends method token =
    list_all-append no_space (print_blank ends) method ∙ and_from _ _ (blank_has_none ends) (token_has_none method token)

after_space-front : (front rest : List ℕ) → HasNoSpace front → after_space (front ++ 32 ∷ rest) ≡ Some rest
after_space-front [] rest none = refl
after_space-front (b ∷ front) rest none =
    let parts = both_true (no_space b) (list_all no_space front) none in
    ap (λ t. cond t (Some (front ++ 32 ∷ rest)) (after_space (front ++ 32 ∷ rest))) (not_true (b == 32) parts.0)
    ∙ after_space-front front rest parts.1

after_space-split : (w t : List ℕ) → after_space w ≡ Some t → (front : List ℕ) × HasNoSpace front × (w ≡ front ++ 32 ∷ t)
after_space-split [] t e = absurd cc
after_space-split (b ∷ w) t e =
    by_cases (λ s. cond s (Some w) (after_space w) ≡ Some t
    → (front : List ℕ) × HasNoSpace front × (b ∷ w ≡ front ++ 32 ∷ t)) (b == 32)
    (λ is. λ e'. let same : b ≡ 32 = grind (arith, nat_tests) in ([], refl, cc))
    (λ is. λ e'. let r = after_space-split w t e' in (b ∷ r.0, and_from _ _ (ap not is) r.1, ap (λ l. b ∷ l) r.2))
    e

-- what stands before the first space is the target's beginning
prefix_of : (t more target tail : List ℕ) → HasNoSpace t → t ++ more ≡ target ++ 32 ∷ tail → (u : List ℕ) × (target ≡ t ++ u)
prefix_of [] more target tail none e = (target, refl)
prefix_of (b ∷ t) more [] tail none e =
    let parts = both_true (no_space b) (list_all no_space t) none in
    let same : b ≡ 32 = cc in
    let wrong : false ≡ true = subst (λ v. not (v == 32) ≡ true) same parts.0 in
    absurd cc
prefix_of (b ∷ t) more (c ∷ target) tail none e =
    let parts = both_true (no_space b) (list_all no_space t) none in
    let later : t ++ more ≡ target ++ 32 ∷ tail = cc in
    let same : c ≡ b = cc in
    let r = prefix_of t more target tail parts.1 later in
    (r.0, λ i. same i ∷ r.1 i)

pub shut_target : (w t : List ℕ) → after_space w ≡ Some t → HasNoSpace t → IsNoText t → NeverHasRequest w
shut_target w t found none no_text more h rest reads =
    let split = after_space-split w t found in
    let there : after_space (w ++ more) ≡ Some (t ++ more) =
    ap after_space (ap (λ l. l ++ more) split.2 ∙ append_assoc split.0 (32 ∷ t) more)
    ∙ after_space-front split.0 (t ++ more) split.1 in
    let tail : List ℕ = print_version h.minor ++ (print_end h.line_end ++ (print_section h.fields h.last ++ rest)) in
    let text : after_space (w ++ more) ≡ Some (h.target ++ 32 ∷ tail) =
    ap after_space (reads.1 ∙ print_request-append h rest
    ∙ sym (append_assoc (print_blank h.blank) h.method (32 ∷ (h.target ++ 32 ∷ tail))))
    ∙ after_space-front (print_blank h.blank ++ h.method) (h.target ++ 32 ∷ tail)
    (front_has_none h.blank h.method reads.0.method.1) in
    let same : t ++ more ≡ h.target ++ 32 ∷ tail = cc in
    let p = prefix_of t more h.target tail none same in
    no_text p.0 (subst IsUtf8 p.1 reads.0.target_text)

regroup : (b m t u s : List ℕ) → (b ++ m ++ 32 ∷ t) ++ (u ++ s) ≡ b ++ (m ++ 32 ∷ ((t ++ u) ++ s))
regroup b m t u s = simp (append_assoc, cons-append)

found_target : (w : List ℕ) (ends : EndsInTarget w) → after_space w ≡ Some ends.2
found_target w ends =
    ap after_space ends.5 ∙ after_space-front (print_blank ends.0 ++ ends.1) ends.2 (front_has_none ends.0 ends.1 ends.3.1)

pub open_target : (w t : List ℕ) → after_space w ≡ Some t → GoesOn t → EndsInTarget w → BeginsHead w
open_target w t found goes ends =
    let there = found_target w ends in
    let same : t ≡ ends.2 = cc in
    let g = subst GoesOn same goes in
    let tail : List ℕ = 32 ∷ (print_version 1 ++ (print_end lf ++ (print_section [] lf ++ []))) in
    let h : RequestHead = record {
      blank = ends.0;
      method = ends.1;
      target = ends.2 ++ g.0;
      minor = 1;
      line_end =
          lf;
      fields = [];
      last = lf;
    } in (
      g.0 ++ tail,
      h,
      omega (arith, length-append g.0 tail, g.1),
      (
        record {
          method = ends.3;
          target = (omega (arith, length-append ends.2 g.0, g.1), All-append (λ b. IsTrue (is_uri_byte b)) ends.2 g.0 ends.4 g.2);
          target_text = g.3;
          minor = omega arith;
          fields = All-nil IsField;
        },
        ap (λ l. l ++ (g.0 ++ tail)) ends.5 ∙ regroup (print_blank ends.0) ends.1 ends.2 g.0 tail
            ∙ sym (print_request-append h []),
      ),
    )

pub in_target : (w : List ℕ) → EndsInTarget w → (t : List ℕ) × (after_space w ≡ Some t) × HasNoSpace t
in_target w ends = (ends.2, found_target w ends, uri_has_none ends.2 ends.4)

-- ---- room for each field

end_long : (e : LineEnd) → 1 ≤ length (print_end e)
end_long crlf = omega arith
end_long lf = omega arith

field_long : (f : Field) → IsField f → 3 ≤ length (print_field f)
field_long f is =
    omega (
      arith,
      length-append (f.name ++ 58 ∷ f.raw) (print_end f.end),
      length-append f.name (58 ∷ f.raw),
      end_long
          f.end,
      is.name.0,
    )

fields_long : (fs : List Field) → All IsField fs → 3 * length fs ≤ length (flat_map print_field fs)
fields_long [] all = omega arith
fields_long (f ∷ fs) all =
    omega (
      arith,
      fields_long fs (All-tail IsField f fs all),
      length-append (print_field f) (flat_map print_field fs),
      field_long f (All-head IsField f fs all),
    )

pub room_suffices : (w : List ℕ) → length w ≤ 16384 → RequestExceeds 5461 w → ⊥
room_suffices w short x =
    let h = x.3 in
    let whole = x.4.1 ∙ print_request-append h [] in
    omega (
      arith,
      simp length-append at (ap length whole),
      fields_long h.fields x.4.0.fields,
      length-append x.0 x.1,
      ap length x.2,
      x.5,
      length-append (flat_map print_field h.fields) (print_end h.last),
    )

-- ---- the test for a space

pub no_space_left : (t : List ℕ) → list_any (λ y. y == 32) t ≡ false → HasNoSpace t
no_space_left [] e = refl
no_space_left (b ∷ t) e =
    by_cases (λ s. (s || list_any (λ y. y == 32) t) ≡ false → (not s && list_all no_space t) ≡ true) (b == 32)
    (λ on. λ e'. absurd cc) (λ off. λ e'. no_space_left t e') e

pub some_space_left : (t : List ℕ) → list_any (λ y. y == 32) t ≡ true → HasNoSpace t → ⊥
some_space_left [] e none = cc
some_space_left (b ∷ t) e none =
    by_cases (λ s. (s || list_any (λ y. y == 32) t) ≡ true → (not s && list_all no_space t) ≡ true → ⊥) (b == 32)
    (λ on. λ e'. λ n. cc) (λ off. λ e'. λ n. some_space_left t e' n) e none
