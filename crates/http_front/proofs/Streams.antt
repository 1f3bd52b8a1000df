-- What a reader takes, request by request and piece by piece.
use Rattle.std.proofs.Common.{◌≡◌, ℕ, cond, ◌+◌, ◌<◌, ◌≤◌, List, [], ◌∷◌, ◌++◌, length, take, drop, get_or, refl, sym}
use Rattle.std.proofs.Common.{ap, subst, ◌∙◌, arith, append-nil, length-append, length-drop, Some, None, Option}
use Rattle.std.specs.Prelude.{Bool, true, false, not, ◌&&◌, nat_le, nat_lt, IsTrue}
use Rattle.std.proofs.lemmas.List.Elements.{All-cons, All-nil}
use Rattle.httparse.specs.Grammar.{RequestHead, IsRequestHead, IsField, lf, is_token_byte, is_uri_byte, print_request}
use Rattle.httparse.specs.Grammar.{print_blank, print_version, print_end, print_section}
use Rattle.httparse.proofs.GrammarLemmas.{print_request-append}
use Rattle.httparse.proofs.OpenLemmas.{letter_is_token}
use Rattle.asp_job.specs.declared.request.Request as request
use Rattle.std.specs.Option.{is_some}
use Rattle.std.proofs.lemmas.Bool.Decides.{nat_tests}
use Rattle.asp_job.specs.declared.request.Verb.{Verb}
use Rattle.http_front.specs.declared.fields.Fields.{Fields}
use Rattle.http_front.specs.Fields.{fields_of}
use Rattle.http_front.specs.Target.{path_of}
use Rattle.http_front.specs.Status.{verb_of, status_by, status_of, body_size, length_of, headers_of, is_in_order, lacks_length}
use Rattle.http_front.specs.Front.{Opening, Unfinished, Hopeless, Whole, IsOpening, Front, More, Request, Refused}
use Rattle.http_front.specs.Front.{answered, front_of, IsFront, Taken, IsStream}
use Rattle.http_front.specs.Reader.{AreRequests, joined}
use Rattle.http_front.proofs.Fronts.{stream-append, stream-refused}
use Rattle.std.specs.Borrow.{Bor}
use Rattle.std.proofs.lemmas.Grind.{flat_map-append}
use Rattle.std.proofs.lemmas.List.{take_more, take-append-drop}
use Rattle.asp_text.proofs.Places.{by_cases}
use Rattle.http_front.proofs.Utf8.{slash_is_text}

-- no bytes give More
empty_head : RequestHead
empty_head = record { blank = []; method = 65 ∷ []; target = 47 ∷ []; minor = 0; line_end = lf; fields = []; last = lf }

is_head : IsRequestHead empty_head
unfolding empty_head
is_head = record {
  method = (
    omega arith,
    All-cons (λ b. IsTrue (is_token_byte b)) 65 [] letter_is_token
        (All-nil (λ b. IsTrue (is_token_byte b))),
  );
  target = (omega arith, All-cons (λ b. IsTrue (is_uri_byte b)) 47 [] refl (All-nil (λ b. IsTrue (is_uri_byte b))));
  target_text = slash_is_text;
  minor = omega arith;
  fields = All-nil IsField;
}

-- a head has a byte
head_long : (h : RequestHead) → IsRequestHead h → 0 < length (print_request h)
head_long h is =
    let text = print_request-append h [] in
    let later = 32 ∷ (h.target ++ 32 ∷
    (print_version h.minor ++ (print_end h.line_end ++ (print_section h.fields h.last ++ [])))) in
    omega (
      arith,
      ap length text,
      length-append (print_request h) [],
      length-append (print_blank h.blank) (h.method ++ later),
      length-append h.method later,
      is.method.0,
    )

pub nothing_wants : IsFront [] More
nothing_wants = record {
  opening = Unfinished;
  opens = (
    print_request empty_head,
    empty_head,
    head_long empty_head is_head,
    (is_head, sym (append-nil (print_request empty_head))),
  );
  gives = refl;
}

answered-shorter : (s : Option ℕ) (k h : RequestHead) (after body rest : List ℕ)
    → Request h body rest ≡ answered s k after → length rest ≤ length after
answered-shorter (Some s) k h after body rest e = absurd cc
answered-shorter None k h after body rest e =
    let n = body_size k in
    by_cases (λ t. Request h body rest ≡ cond t (Request k (take n after) (drop n after)) More
    → length rest ≤ length after) (nat_le n (length after))
    (λ t. λ e'. let same : rest ≡ drop n after = cc in omega (arith, ap length same, length-drop n after))
    (λ t. λ e'. absurd cc) e

shorter : (a : List ℕ) (o : Opening) → IsOpening a o → (h : RequestHead) (body rest : List ℕ)
    → Request h body rest ≡ front_of (length a) o
    → length rest < length a
shorter a Unfinished opens h body rest e =
    by_cases (λ t. Request h body rest ≡ cond t (Refused 431) More → length rest < length a) (nat_lt 16384 (length a))
    (λ t. λ e'. absurd cc) (λ t. λ e'. absurd cc) e
shorter a Hopeless opens h body rest e = absurd cc
shorter a (Whole k after) opens h body rest e =
    omega (
      arith,
      answered-shorter (status_of k) k h after body rest e,
      ap length opens.0.1,
      length-append
          (print_request k) after,
      head_long k opens.0.0,
    )

abbrev a_status : ℕ → Option ℕ
a_status status = Some status

no_status : (a b c d : Bool)
    → cond a (a_status 431) (cond b (a_status 400) (cond c (a_status 501) (cond d (a_status 411) (a_status 413)))) ≡ None → ⊥
no_status true b c d e = absurd cc
no_status false true c d e = absurd cc
no_status false false true d e = absurd cc
no_status false false false true e = absurd cc
no_status false false false false e = absurd cc

short_length : (verb : Verb) (named : Bool) (minor count : ℕ) (f : Fields) → status_by verb named minor count f ≡ None
    → length_of f.length ≤ 1048576
unfolding status_by
short_length verb named minor count f none =
    by_cases (λ t. nat_lt 1048576 (length_of f.length) ≡ t
    → cond (nat_lt 64 count) (a_status 431) (cond (not (named && is_in_order minor f)) (a_status 400)
    (cond f.coded (a_status 501) (cond (lacks_length verb f.length) (a_status 411) (cond t (a_status 413) None))))
    ≡ None → length_of f.length ≤ 1048576)
    (nat_lt 1048576 (length_of f.length))
    (λ _ _ e. absurd (no_status (nat_lt 64 count) (not (named && is_in_order minor f)) f.coded (lacks_length verb f.length) e))
    (λ _ few _. grind (arith, nat_tests)) refl none

-- a head that no status refuses has a short body
pub short_body : (h : RequestHead) → status_of h ≡ None → body_size h ≤ 1048576
short_body h none = short_length (verb_of h.method) (is_some (path_of h.target)) h.minor (length h.fields)
    (fields_of (headers_of h)) none

answered-short : (s : Option ℕ) (k : RequestHead) (after : List ℕ) → More ≡ answered s k after
    → (s ≡ None) × (length after < body_size k)
answered-short (Some s) k after e = absurd cc
answered-short None k after e = (refl, few)
  where
    few : length after < body_size k
    few = by_cases (λ t. nat_le (body_size k) (length after) ≡ t
        → More ≡ cond t (Request k (take (body_size k) after) (drop (body_size k) after)) More
        → length after < body_size k) (nat_le (body_size k) (length after)) (λ _ _ e'. absurd cc)
        (λ _ few _. grind (arith, nat_tests)) refl e

wanting : (a : List ℕ) (o : Opening) → IsOpening a o → More ≡ front_of (length a) o → length a < 1064960
wanting a Unfinished opens e =
    by_cases (λ t. nat_lt 16384 (length a) ≡ t → More ≡ cond t (Refused 431) More → length a < 1064960) (nat_lt 16384 (length a))
    (λ _ _ e'. absurd cc) (λ _ few _. grind (arith, nat_tests)) refl e
wanting a Hopeless opens e = absurd cc
wanting a (Whole k after) opens e =
    let s = answered-short (status_of k) k after e in
    omega (arith, s.1, short_body k s.0, opens.1, ap length opens.0.1, length-append (print_request k) after)

-- Bytes that want more are few.
pub wanting_is_short : (a : List ℕ) → IsFront a More → length a < 1064960
wanting_is_short a x = wanting a x.opening x.opens x.gives

-- A request takes bytes.
pub front-shorter : (a : List ℕ) (h : RequestHead) (body rest : List ℕ) → IsFront a (Request h body rest) → length rest < length a
front-shorter a h body rest x = shorter a x.opening x.opens h body rest x.gives

pub are_requests-append : (ts us : List Taken) (rs qs : List request.Request) → AreRequests ts rs → AreRequests us qs
    → AreRequests (ts ++ us) (rs ++ qs)
are_requests-append [] us [] qs x y = y
are_requests-append [] us (r ∷ rs) qs x y = absurd x
are_requests-append (t ∷ ts) us [] qs x y = absurd x
are_requests-append (t ∷ ts) us (r ∷ rs) qs x y = (x.0, are_requests-append ts us rs qs x.1 y)

joined-append : (ps qs : List (Bor (List ℕ))) → joined (ps ++ qs) ≡ joined ps ++ joined qs
joined-append ps qs = flat_map-append (λ (p : Bor (List ℕ)). p.now) ps qs

joined-more : (pieces : List (Bor (List ℕ))) (i : ℕ) (d : Bor (List ℕ)) → i < length pieces
    → joined (take (i + 1) pieces) ≡ joined (take i pieces) ++ (get_or pieces i d).now
joined-more pieces i d inside =
    ap joined (take_more pieces i d inside) ∙ joined-append (take i pieces) (get_or pieces i d ∷ [])
    ∙ ap (λ l. joined (take i pieces) ++ l) (append-nil (get_or pieces i d).now)

-- one piece more
pub piece-stream : (pieces : List (Bor (List ℕ))) (i : ℕ) (d : Bor (List ℕ)) → i < length pieces
    → (ts us : List Taken) (rest fed left : List ℕ) (last : Front)
    → IsStream (joined (take i pieces)) ts rest More → fed ≡ rest ++ (get_or pieces i d).now → IsStream fed us left last
    → IsStream (joined (take (i + 1) pieces)) (ts ++ us) left last
piece-stream pieces i d inside ts us rest fed left last x is y =
    subst (λ l. IsStream l (ts ++ us) left last) (sym (joined-more pieces i d inside))
    (stream-append (joined (take i pieces)) (get_or pieces i d).now ts us rest left More last x
    (subst (λ l. IsStream l us left last) is y))

-- the pieces that are not read any more
pub refused-stream : (pieces : List (Bor (List ℕ))) (i : ℕ) (ts : List Taken) (rest : List ℕ) (status : ℕ)
    → IsStream (joined (take i pieces)) ts rest (Refused status)
    → IsStream (joined pieces) ts (rest ++ joined (drop i pieces)) (Refused status)
refused-stream pieces i ts rest status x =
    subst (λ l. IsStream l ts (rest ++ joined (drop i pieces)) (Refused status))
    (sym (joined-append (take i pieces) (drop i pieces)) ∙ ap joined (take-append-drop i pieces))
    (stream-refused (joined (take i pieces)) (joined (drop i pieces)) ts rest status x)
