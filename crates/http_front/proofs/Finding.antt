-- From the spans of a head to what the bytes give first.
use Rattle.std.proofs.Common.{◌≡◌, ℕ, true, false, cond, ◌+◌, ◌-◌, ◌<◌, ◌≤◌, List, [], ◌∷◌, ◌++◌, length, take, drop}
use Rattle.std.proofs.Common.{map, refl, sym, ap, subst, ◌∙◌, arith, append_assoc, append-nil, length-append}
use Rattle.std.proofs.Common.{length-take, length-drop, Some, None}
use Rattle.std.specs.Prelude.{nat_le, nat_lt, slice_range, ◌==◌, ◌||◌}
use Rattle.std.proofs.lemmas.List.{take-take, take-append-drop, take_at, drop-drop, length-map}
use Rattle.std.proofs.lemmas.Bool.Decides.{nat_tests}
use Rattle.httparse.specs.declared.spans.HeaderSpan.{HeaderSpan}
use Rattle.httparse.specs.declared.spans.RequestSpans.{RequestSpans}
use Rattle.httparse.specs.Grammar.{RequestHead, print_request}
use Rattle.httparse.specs.Spans.{span_bytes, header_bytes, name_and_value, IsRequestWithin, IsRequestAt}
use Rattle.http_front.specs.declared.fields.Fields.{Fields}
use Rattle.http_front.specs.Fields.{fields_of}
use Rattle.http_front.specs.Status.{verb_of, status_by, status_of, headers_of, length_of, body_size, closes}
use Rattle.http_front.specs.Target.{path_of}
use Rattle.std.specs.Option.{is_some}
use Rattle.http_front.specs.Front.{Unfinished, Whole, BeginsHead, window, IsOpening, More, Request, Refused, answered, IsFront}
use Rattle.http_front.specs.Found.{Waits}
use Rattle.http_front.proofs.Fronts.{waits_for_body}

module _ (bytes : List ℕ) (spans : List HeaderSpan) (head : RequestSpans) (h : RequestHead)
    (within : IsRequestWithin (window bytes) spans head) (is : IsRequestAt (window bytes) spans head h) where
  short : head.len ≤ 16384
  short = omega (arith, within.section.len_fits, length-take 16384 bytes)

  printed : take head.len bytes ≡ print_request h
  printed =
      sym (take-take head.len 16384 bytes short) ∙ ap (take head.len) is.reads.1
      ∙ take_at (print_request h) _ head.len (sym is.len)

  pub opens_whole : IsOpening bytes (Whole h (drop head.len bytes))
  opens_whole = (
    (is.reads.0, sym (take-append-drop head.len bytes) ∙ ap (λ l. l ++ drop head.len bytes) printed),
    omega (arith, is.len, short),
  )

  count_is : head.headers ≡ length h.fields
  count_is = omega (
    arith,
    ap length is.fields,
    length-map (take head.headers spans) (header_bytes (window bytes)),
    length-map h.fields name_and_value,
    length-take head.headers spans,
    within.section.count_fits,
  )

  fields_are : fields_of (map (header_bytes (window bytes)) (take head.headers spans)) ≡ fields_of (headers_of h)
  fields_are = ap fields_of is.fields

  module _ (m t : List ℕ) (f : Fields) (m_is : m ≡ span_bytes (window bytes) head.method)
      (t_is : t ≡ span_bytes (window bytes) head.path)
      (f_is : f ≡ fields_of (map (header_bytes (window bytes)) (take head.headers spans))) where
    pub known_status : status_by (verb_of m) (is_some (path_of t)) head.version head.headers f ≡ status_of h
    known_status =
        (λ i. status_by (verb_of (m_is i)) (is_some (path_of (t_is i))) (is.version i) (count_is i) (f_is i))
        ∙ (λ i. status_by (verb_of (is.method i)) (is_some (path_of (is.path i))) h.minor (length h.fields) (fields_are i))

    pub known_path : path_of t ≡ path_of h.target
    known_path = ap path_of t_is ∙ ap path_of is.path

    pub known_close : ((head.version == 0) || f.close) ≡ closes h
    known_close = (λ i. (is.version i == 0) || (f_is i).close) ∙ ap (λ (x : Fields). (h.minor == 0) || x.close) fields_are

    pub known_size : (n : ℕ) → n ≡ length_of f.length → n ≡ body_size h
    known_size n e = e ∙ ap (λ (x : Fields). length_of x.length) (f_is ∙ fields_are)

  pub gives_refused : (status : ℕ) → Some status ≡ status_of h → IsFront bytes (Refused status)
  gives_refused status e = record {
    opening = Whole h (drop head.len bytes);
    opens = opens_whole;
    gives = ap (λ s. answered s h (drop head.len bytes)) e;
  }

  pub gives_request : (n : ℕ) → None ≡ status_of h → n ≡ body_size h → head.len + n ≤ length bytes
      → IsFront bytes (Request h (slice_range bytes head.len (head.len + n)) (drop (head.len + n) bytes))
  gives_request n none size fits =
      let after = drop head.len bytes in
      let left : length after ≡ length bytes - head.len = length-drop head.len bytes in
      let some : nat_le (body_size h) (length after) ≡ true =
      (let few : body_size h ≤ length after = omega arith in grind (arith, nat_tests)) in
      let range : (head.len + n) - head.len ≡ body_size h = omega arith in
      let body : slice_range bytes head.len (head.len + n) ≡ take (body_size h) after = ap (λ k. take k after) range in
      let rest : drop (head.len + n) bytes ≡ drop (body_size h) after =
      sym (drop-drop n head.len bytes) ∙ ap (λ k. drop k after) size in
      record {
        opening = Whole h after;
        opens = opens_whole;
        gives = (λ i. Request h (body i) (rest i))
            ∙ sym (ap (λ t. cond t (Request h (take (body_size h) after) (drop (body_size h) after)) More) some)
            ∙ ap (λ s. answered s h after) none;
      }

  pub waits : (n : ℕ) → None ≡ status_of h → n ≡ body_size h → Waits bytes (head.len + n)
  waits n none size more few =
      waits_for_body bytes more h (drop head.len bytes) opens_whole (sym none) (omega (arith, is.len, size))

pub waits_now : (bytes : List ℕ) (need : ℕ) → Waits bytes need → length bytes < need → IsFront bytes More
waits_now bytes need wait short =
    subst (λ l. IsFront l More) (append-nil bytes) (wait [] (omega (arith, length-append bytes [])))

-- while the window is the beginning of a head
pub open_front : (bytes : List ℕ) → BeginsHead (window bytes) → length bytes ≤ 16384
    → IsFront bytes More × Waits bytes (length bytes + 1)
open_front bytes begins short =
    let test : nat_lt 16384 (length bytes) ≡ false = grind (arith, nat_tests) in
    let here : IsFront bytes More =
    record { opening = Unfinished; opens = begins; gives = sym (ap (λ t. cond t (Refused 431) More) test) } in (
      here,
      λ more few.
          let none : more ≡ [] = no_length more (omega (arith, length-append bytes more, few)) in
          subst (λ l. IsFront l More) (sym (ap (λ m. bytes ++ m) none ∙ append-nil bytes)) here,
    )
  where
    no_length : (l : List ℕ) → length l ≡ 0 → l ≡ []
    no_length [] z = refl
    no_length (b ∷ l) z = absurd (omega arith)

pub waits-append : (bytes piece : List ℕ) (need : ℕ) → Waits bytes need → Waits (bytes ++ piece) need
waits-append bytes piece need wait more few =
    subst (λ l. IsFront l More) (sym (append_assoc bytes piece more))
    (wait (piece ++ more) (omega (arith, ap length (append_assoc bytes piece more), few)))
