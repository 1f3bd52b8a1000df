-- How large a request is, and which statuses refuse.
use Rattle.std.proofs.Common.{◌≡◌, ℕ, ◌+◌, ◌<◌, ◌≤◌, Bool, true, false, cond, Option, Some, None, List, [], length}
use Rattle.std.proofs.Common.{take, drop, refl, sym, ap, subst, arith, length-take}
use Rattle.std.specs.Prelude.{nat_le, nat_lt, not, ◌&&◌}
use Rattle.std.specs.Option.{is_some}
use Rattle.std.proofs.lemmas.Bool.Decides.{nat_tests}
use Rattle.httparse.specs.Grammar.{RequestHead, print_request}
use Rattle.asp_text.proofs.Places.{by_cases}
use Rattle.asp_job.specs.declared.request.Verb.{Verb}
use Rattle.http_front.specs.declared.fields.Fields.{Fields}
use Rattle.http_front.specs.Fields.{fields_of}
use Rattle.http_front.specs.Front.{Hopeless, IsFront, IsOpening, More, Opening, Refused, Request, Unfinished, Whole}
use Rattle.http_front.specs.Front.{answered, front_of}
use Rattle.http_front.specs.Status.{body_size, headers_of, is_in_order, lacks_length, length_of, status_by, status_of, verb_of}
use Rattle.http_front.specs.Target.{path_of}
use Rattle.http_front.proofs.Streams.{short_body}

-- ---- a request

-- a head that is printed in few enough bytes, and a body of few enough
pub record AreBounded (h : RequestHead) (body : List ℕ) : Type 0 where
  pub head_fits : length (print_request h) ≤ 16384
  pub body_fits : length body ≤ 1048576

pub no_request : (t : Bool) (h : RequestHead) (body rest : List ℕ) → Request h body rest ≡ cond t (Refused 431) More → ⊥
no_request true h body rest e = cc
no_request false h body rest e = cc

answer_is_bounded : (status : Option ℕ) (k h : RequestHead) (after body rest : List ℕ)
    → status_of k ≡ status → Request h body rest ≡ answered status k after → length (print_request k) ≤ 16384
    → AreBounded h body
answer_is_bounded (Some status) k h after body rest is e short = absurd cc
answer_is_bounded None k h after body rest is e short =
    let size = body_size k in
    by_cases (λ t. nat_le size (length after) ≡ t
    → Request h body rest ≡ cond t (Request k (take size after) (drop size after)) More → AreBounded h body)
    (nat_le size (length after))
    (λ _ _ f.
    let head : h ≡ k = cc in
    let same : body ≡ take size after = cc in
    record {
      head_fits = subst (λ l. length (print_request l) ≤ 16384) (sym head) short;
      body_fits = omega (
        arith,
        ap length same,
        length-take size after,
        short_body k is,
      );
    })
    (λ _ _ f. absurd cc) refl e

pub opening_is_bounded : (count : ℕ) (bytes : List ℕ) (opening : Opening) (h : RequestHead) (body rest : List ℕ)
    → IsOpening bytes opening → Request h body rest ≡ front_of count opening → AreBounded h body
opening_is_bounded count bytes Unfinished h body rest opens e = absurd (no_request (nat_lt 16384 count) h body rest e)
opening_is_bounded count bytes Hopeless h body rest opens e = absurd cc
opening_is_bounded count bytes (Whole k after) h body rest opens e =
    answer_is_bounded (status_of k) k h after body rest refl e opens.1

-- ---- the statuses that refuse

status_range : (a b c d e : Bool) (s : ℕ)
    → cond a (Some 431) (cond b (Some 400) (cond c (Some 501) (cond d (Some 411) (cond e (Some 413) None)))) ≡ Some s
    → (100 ≤ s) × (s < 1000)
status_range true b c d e s is = let same : 431 ≡ s = cc in (omega arith, omega arith)
status_range false true c d e s is = let same : 400 ≡ s = cc in (omega arith, omega arith)
status_range false false true d e s is = let same : 501 ≡ s = cc in (omega arith, omega arith)
status_range false false false true e s is = let same : 411 ≡ s = cc in (omega arith, omega arith)
status_range false false false false true s is = let same : 413 ≡ s = cc in (omega arith, omega arith)
status_range false false false false false s is = absurd cc

head_range : (verb : Verb) (named : Bool) (minor count : ℕ) (f : Fields) (s : ℕ)
    → status_by verb named minor count f ≡ Some s → (100 ≤ s) × (s < 1000)
unfolding status_by
head_range verb named minor count f s is = status_range (nat_lt 64 count) (not (named && is_in_order minor f)) f.coded
    (lacks_length verb f.length) (nat_lt 1048576 (length_of f.length)) s is

answered_range : (status : Option ℕ) (h : RequestHead) (after : List ℕ) (s : ℕ)
    → ((t : ℕ) → status ≡ Some t → (100 ≤ t) × (t < 1000)) → Refused s ≡ answered status h after
    → (100 ≤ s) × (s < 1000)
answered_range (Some t) h after s range is = let same : s ≡ t = cc in range s (ap Some (sym same))
answered_range None h after s range is =
    by_cases (λ t. Refused s ≡ cond t (Request h (take (body_size h) after) (drop (body_size h) after))
    More → (100 ≤ s) × (s < 1000)) (nat_le (body_size h) (length after)) (λ _ e. absurd cc) (λ _ e. absurd cc) is

opening_range : (count : ℕ) (opening : Opening) (s : ℕ) → Refused s ≡ front_of count opening
    → (100 ≤ s) × (s < 1000)
opening_range count Unfinished s is =
    by_cases (λ t. Refused s ≡ cond t (Refused 431) More → (100 ≤ s) × (s < 1000)) (nat_lt 16384 count)
    (λ _ e. (let same : s ≡ 431 = cc in (omega arith, omega arith))) (λ _ e. absurd cc) is
opening_range count Hopeless s is = let same : s ≡ 400 = cc in (omega arith, omega arith)
opening_range count (Whole h after) s is = answered_range (status_of h) h after s
    (λ t e. head_range (verb_of h.method) (is_some (path_of h.target)) h.minor (length h.fields)
    (fields_of (headers_of h)) t e) is

pub refused_range : (bytes : List ℕ) (s : ℕ) → IsFront bytes (Refused s) → (100 ≤ s) × (s < 1000)
refused_range bytes s x = opening_range (length bytes) x.opening s x.gives
