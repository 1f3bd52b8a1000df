-- What the headers say, with one header more.
use Rattle.std.proofs.Common.{◌≡◌, ℕ, true, false, ◌+◌, ◌<◌, List, [], ◌∷◌, ◌++◌, length, map, take, get_or, refl, ap, ◌∙◌, arith}
use Rattle.std.specs.Prelude.{Bool, min, codes, filter, cond, ◌||◌}
use Rattle.std.specs.List.{list_any}
use Rattle.std.proofs.lemmas.List.{take_more, map-append, append-nil, length_push}
use Rattle.std.proofs.lemmas.List.Elements.{filter-append}
use Rattle.std.proofs.lemmas.List.Folds.{list_any-append}
use Rattle.httparse.specs.declared.spans.HeaderSpan.{HeaderSpan}
use Rattle.httparse.specs.Spans.{header_bytes, span_bytes}
use Rattle.http_front.specs.declared.fields.BodyLength.TheVariants.{Absent, Given, Faulty}
use Rattle.http_front.specs.Fields.{Header, same_name, is_named, values_of, is_digits, capped_number, body_length}
use Rattle.http_front.specs.Fields.{fields_of, asks_close, with_value, hosts_with, length_with, fields_with}

body_length-push : (vs : List (List ℕ)) (v : List ℕ) → body_length (vs ++ v ∷ []) ≡ with_value (body_length vs) v
body_length-push [] v = refl
body_length-push (w ∷ []) v = elim (is_digits w) as
    (λ b. Faulty ≡ with_value (cond b (Given (capped_number w)) Faulty) v) [ true ↦ refl | false ↦ refl ]
body_length-push (w ∷ x ∷ vs) v = refl

values-push : (name : List ℕ) (hs : List Header) (n v : List ℕ) → values_of name (hs ++ (n, v) ∷ [])
    ≡ cond (same_name n name) (values_of name hs ++ v ∷ []) (values_of name hs)
values-push name hs n v =
    let value : Header → List ℕ = λ h. h.1 in
    ap (map value) (filter-append (is_named name) hs ((n, v) ∷ []))
    ∙ map-append value (filter (is_named name) hs) (filter (is_named name) ((n, v) ∷ []))
    ∙ elim (same_name n name) as (λ b. values_of name hs ++ map value (cond b ((n, v) ∷ []) [])
    ≡ cond b (values_of name hs ++ v ∷ []) (values_of name hs))
    [ true ↦ refl | false ↦ append-nil (values_of name hs) ]

or_false : (b : Bool) → (b || false) ≡ b
or_false true = refl
or_false false = refl

pub fields_of-push : (hs : List Header) (n v : List ℕ) → fields_of (hs ++ (n, v) ∷ []) ≡ fields_with (fields_of hs) n v
unfolding fields_of
fields_of-push hs n v =
    let before = values_of (codes "host") hs in
    let lengths = values_of (codes "content-length") hs in
    let hosts : min (length (values_of (codes "host") (hs ++ (n, v) ∷ []))) 2 ≡ hosts_with (min (length before) 2) n =
    ap (λ vs. min (length vs) 2) (values-push (codes "host") hs n v)
    ∙ elim (same_name n (codes "host")) as
    (λ b. min (length (cond b (before ++ v ∷ []) before)) 2
    ≡ cond b (min (min (length before) 2 + 1) 2) (min (length before) 2))
    [ true ↦ rw length_push (omega arith) | false ↦ refl ] in
    let size : body_length (values_of (codes "content-length") (hs ++ (n, v) ∷ [])) ≡ length_with (body_length lengths) n v =
    ap body_length (values-push (codes "content-length") hs n v)
    ∙ elim (same_name n (codes "content-length")) as
    (λ b. body_length (cond b (lengths ++ v ∷ []) lengths)
    ≡ cond b (with_value (body_length lengths) v) (body_length lengths))
    [ true ↦ body_length-push lengths v | false ↦ refl ] in
    let coding = list_any-append (is_named (codes "transfer-encoding")) hs ((n, v) ∷ [])
    ∙ ap (λ b. list_any (is_named (codes "transfer-encoding")) hs || b) (or_false (same_name n (codes "transfer-encoding"))) in
    let closing = list_any-append asks_close hs ((n, v) ∷ [])
    ∙ ap (λ b. list_any asks_close hs || b) (or_false (asks_close (n, v))) in
    λ i. record { hosts = hosts i; length = size i; coded = coding i; close = closing i }

pub fields_of-nil : fields_of [] ≡ record { hosts = 0; length = Absent; coded = false; close = false }
unfolding fields_of
fields_of-nil = refl

-- the next of the headers at these places
pub fields_of-more : (buf : List ℕ) (headers : List HeaderSpan) (i : ℕ) (d : HeaderSpan) → i < length headers
    → fields_of (map (header_bytes buf) (take (i + 1) headers))
    ≡ fields_with (fields_of (map (header_bytes buf) (take i headers)))
    (span_bytes buf (get_or headers i d).name) (span_bytes buf (get_or headers i d).value)
fields_of-more buf headers i d inside =
    ap (λ hs. fields_of (map (header_bytes buf) hs)) (take_more headers i d inside)
    ∙ ap fields_of (map-append (header_bytes buf) (take i headers) (get_or headers i d ∷ []))
    ∙ fields_of-push (map (header_bytes buf) (take i headers)) _ _
