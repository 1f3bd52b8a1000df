-- Bytes give one thing first, and what they give stays when more come.
use Rattle.std.proofs.Common.{◌≡◌, ℕ, zero, suc, ◌+◌, ◌-◌, ◌<◌, ◌≤◌, true, false, cond, Bool, List, [], ◌∷◌, ◌++◌}
use Rattle.std.proofs.Common.{length, take, drop, refl, sym, ap, subst, ◌∙◌, arith, append_assoc, append-nil}
use Rattle.std.proofs.Common.{length-append}
use Rattle.std.specs.Prelude.{Option, Some, None, nat_lt, nat_le}
use Rattle.std.proofs.lemmas.List.{take-take, take-append-le, take-append-drop, take_at, drop-append-le}
use Rattle.std.proofs.lemmas.Bool.Decides.{nat_tests}
use Rattle.httparse.specs.Grammar.{RequestHead, print_request, ReadsRequest, NeverHasRequest}
use Rattle.httparse.proofs.GrammarLemmas.{request_unique, request_prefix_free, ReadsRequest-append}
use Rattle.http_front.specs.Status.{status_of, body_size}
use Rattle.asp_text.proofs.Places.{by_cases}
use Rattle.http_front.specs.Front.{Opening, Unfinished, Hopeless, Whole, window, BeginsHead, IsOpening, Front, More}
use Rattle.http_front.specs.Front.{Request, Refused, answered, front_of, IsFront, StaysWith, HasEnded, Taken, Takes}
use Rattle.http_front.specs.Front.{IsStream}

-- the window of bytes that begin with a head has that head
window-head : (bytes : List ℕ) (h : RequestHead) (after : List ℕ) → ReadsRequest bytes h after
    → length (print_request h) ≤ 16384 → ReadsRequest (window bytes) h (drop (length (print_request h)) (window bytes))
window-head bytes h after reads short =
    let p = print_request h in
    let front : take (length p) (window bytes) ≡ p =
    take-take (length p) 16384 bytes short ∙ ap (take (length p)) reads.1 ∙ take_at p after (length p) refl in
    (reads.0, sym (take-append-drop (length p) (window bytes)) ∙ ap (λ w. w ++ drop (length p) (window bytes)) front)

-- no head goes on past bytes that begin with a whole one
pub not_both : (w r : List ℕ) (k : RequestHead) → ReadsRequest w k r → BeginsHead w → ⊥
not_both w r k reads b =
    let same = request_prefix_free w b.0 k b.1 r [] reads b.3 in
    let longer : 0 < length b.0 = b.2 in
    omega (arith, length-append r b.0, ap length same.1)

pub not_hopeless : (w r : List ℕ) (k : RequestHead) → ReadsRequest w k r → NeverHasRequest w → ⊥
not_hopeless w r k reads never = never [] k r (subst (λ l. ReadsRequest l k r) (sym (append-nil w)) reads)

pub opening_unique : (bytes : List ℕ) (o p : Opening) → IsOpening bytes o → IsOpening bytes p → o ≡ p
opening_unique bytes Unfinished Unfinished x y = refl
opening_unique bytes Unfinished Hopeless x y = absurd (y x.0 x.1 [] x.3)
opening_unique bytes Unfinished (Whole k q) x y = absurd (not_both _ _ k (window-head bytes k q y.0 y.1) x)
opening_unique bytes Hopeless Unfinished x y = absurd (x y.0 y.1 [] y.3)
opening_unique bytes Hopeless Hopeless x y = refl
opening_unique bytes Hopeless (Whole k q) x y = absurd (not_hopeless _ _ k (window-head bytes k q y.0 y.1) x)
opening_unique bytes (Whole h r) Unfinished x y = absurd (not_both _ _ h (window-head bytes h r x.0 x.1) y)
opening_unique bytes (Whole h r) Hopeless x y = absurd (not_hopeless _ _ h (window-head bytes h r x.0 x.1) y)
opening_unique bytes (Whole h r) (Whole k q) x y =
    let same = request_unique bytes h k r q x.0 y.0 in λ i. Whole (same.0 i) (same.1 i)

-- Bytes give one thing first.
pub front_unique : (bytes : List ℕ) (f g : Front) → IsFront bytes f → IsFront bytes g → f ≡ g
front_unique bytes f g x y =
    x.gives ∙ ap (front_of (length bytes)) (opening_unique bytes x.opening y.opening x.opens y.opens) ∙ sym y.gives

-- ---- more bytes

pub take-append : (n : ℕ) (xs ys : List ℕ) → take n (xs ++ ys) ≡ take n xs ++ take (n - length xs) ys
take-append zero xs ys = ap (λ k. take k ys) (let e : 0 ≡ 0 - length xs = omega arith in e)
take-append (suc n) [] ys = ap (λ k. take k ys) (let e : suc n ≡ suc n - 0 = omega arith in e)
take-append (suc n) (x ∷ xs) ys =
    ap (λ l. x ∷ l) (take-append n xs ys
    ∙ ap (λ k. take n xs ++ take k ys) (let e : n - length xs ≡ suc n - suc (length xs) = omega arith in e))

never-append : (w m : List ℕ) → NeverHasRequest w → NeverHasRequest (w ++ m)
never-append w m never more h rest reads =
    never (m ++ more) h rest (subst (λ l. ReadsRequest l h rest) (append_assoc w m more) reads)

hopeless-append : (a b : List ℕ) → IsOpening a Hopeless → IsOpening (a ++ b) Hopeless
hopeless-append a b never = subst NeverHasRequest (sym (take-append 16384 a b)) (never-append (window a) _ never)

whole-append : (a b : List ℕ) (h : RequestHead) (after : List ℕ) → IsOpening a (Whole h after)
    → IsOpening (a ++ b) (Whole h (after ++ b))
whole-append a b h after x = (ReadsRequest-append a h after b x.0, x.1)

long-append : (a b : List ℕ) → 16384 < length a → IsOpening a Unfinished → IsOpening (a ++ b) Unfinished
long-append a b long x = subst BeginsHead (sym (take-append-le 16384 a b (omega arith))) x

-- a request that is whole stays the same
answered-request : (s : Option ℕ) (k h : RequestHead) (after b body rest : List ℕ) → Request h body rest ≡ answered s k after
    → Request h body (rest ++ b) ≡ answered s k (after ++ b)
answered-request (Some s) k h after b body rest e = cc
answered-request None k h after b body rest e =
    let n = body_size k in
    by_cases (λ t. Request h body rest ≡ cond t (Request k (take n after) (drop n after)) More
    → Request h body (rest ++ b) ≡ answered None k (after ++ b))
    (nat_le n (length after))
    (λ t. λ e'.
    let fits : n ≤ length after = grind (arith, nat_tests) in
    let longer : n ≤ length (after ++ b) = omega (arith, length-append after b) in
    let more : nat_le n (length (after ++ b)) ≡ true = grind (arith, nat_tests) in
    let taken : take n (after ++ b) ≡ take n after = take-append-le n after b fits in
    let dropped : drop n (after ++ b) ≡ drop n after ++ b = drop-append-le n after b fits in
    let now : answered None k (after ++ b) ≡ Request k (take n (after ++ b)) (drop n (after ++ b)) =
    ap (λ t. cond t (Request k (take n (after ++ b)) (drop n (after ++ b))) More) more in
    cc)
    (λ t. λ e'. cc) e

no_request : (t : Bool) (h : RequestHead) (body rest : List ℕ) → Request h body rest ≡ cond t (Refused 431) More → ⊥
no_request true h body rest e = cc
no_request false h body rest e = cc

request_grows : (a b : List ℕ) (o : Opening) → IsOpening a o → (h : RequestHead) (body rest : List ℕ)
    → Request h body rest ≡ front_of (length a) o
    → IsFront (a ++ b) (Request h body (rest ++ b))
request_grows a b Unfinished opens h body rest e = absurd (no_request (nat_lt 16384 (length a)) h body rest e)
request_grows a b Hopeless opens h body rest e = absurd cc
request_grows a b (Whole k after) opens h body rest e = record {
  opening = Whole k (after ++ b);
  opens = whole-append a b k after opens;
  gives = answered-request (status_of k) k h after b body rest e;
}

-- What follows a request stands behind it.
pub front-request : (a b : List ℕ) (h : RequestHead) (body rest : List ℕ) → IsFront a (Request h body rest)
    → IsFront (a ++ b) (Request h body (rest ++ b))
front-request a b h body rest x = request_grows a b x.opening x.opens h body rest x.gives

answered-refused : (s : Option ℕ) (k : RequestHead) (after b : List ℕ) (status : ℕ) → Refused status ≡ answered s k after
    → Refused status ≡ answered s k (after ++ b)
answered-refused (Some s) k after b status e = e
answered-refused None k after b status e =
    let n = body_size k in
    by_cases (λ t. Refused status ≡ cond t (Request k (take n after) (drop n after)) More
    → Refused status ≡ answered None k (after ++ b))
    (nat_le n (length after)) (λ t. λ e'. cc) (λ t. λ e'. cc) e

refused_grows : (a b : List ℕ) (o : Opening) → IsOpening a o → (status : ℕ) → Refused status ≡ front_of (length a) o
    → IsFront (a ++ b) (Refused status)
refused_grows a b Unfinished opens status e =
    by_cases (λ t. Refused status ≡ cond t (Refused 431) More → IsFront (a ++ b) (Refused status)) (nat_lt 16384 (length a))
    (λ t. λ e'.
    let long : 16384 < length a = grind (arith, nat_tests) in
    let longer : 16384 < length (a ++ b) = omega (arith, length-append a b) in
    let more : nat_lt 16384 (length (a ++ b)) ≡ true = grind (arith, nat_tests) in
    record {
      opening = Unfinished;
      opens = long-append a b long opens;
      gives =
          e' ∙ sym (ap (λ t. cond t (Refused 431) More) more);
    })
    (λ t. λ e'. absurd cc) e
refused_grows a b Hopeless opens status e = record { opening = Hopeless; opens = hopeless-append a b opens; gives = e }
refused_grows a b (Whole k after) opens status e = record {
  opening = Whole k (after ++ b);
  opens = whole-append a b k after opens;
  gives = answered-refused (status_of k) k after b status e;
}

-- A refusal stays.
pub front-refused : (a b : List ℕ) (status : ℕ) → IsFront a (Refused status) → IsFront (a ++ b) (Refused status)
front-refused a b status x = refused_grows a b x.opening x.opens status x.gives

-- what bytes give first, but for More, stays when more come
pub front_stays : (a b : List ℕ) (f : Front) → IsFront a f → StaysWith a b f
front_stays a b More x = tt
front_stays a b (Request h body rest) x = front-request a b h body rest x
front_stays a b (Refused status) x = front-refused a b status x

-- ---- streams

-- What follows is left behind what the requests left.
pub takes-append : (a b : List ℕ) (ts : List Taken) (rest : List ℕ) → Takes a ts rest → Takes (a ++ b) ts (rest ++ b)
takes-append a b [] rest x = ap (λ l. l ++ b) x
takes-append a b (t ∷ ts) rest x = (x.0 ++ b, front-request a b t.0 t.1 x.0 x.1, takes-append x.0 b ts rest x.2)

-- Requests that are taken one after another.
pub takes_then : (a : List ℕ) (ts us : List Taken) (rest left : List ℕ) → Takes a ts rest → Takes rest us left
    → Takes a (ts ++ us) left
takes_then a [] us rest left x y = subst (λ l. Takes l us left) x y
takes_then a (t ∷ ts) us rest left x y = (x.0, x.1, takes_then x.0 ts us rest left x.2 y)

-- Bytes that are fed later are read behind what the first left.
pub stream-append : (a b : List ℕ) (ts us : List Taken) (rest left : List ℕ) (first last : Front)
    → IsStream a ts rest first → IsStream (rest ++ b) us left last → IsStream (a ++ b) (ts ++ us) left last
stream-append a b ts us rest left first last x y = record {
  takes = takes_then (a ++ b) ts us (rest ++ b) left (takes-append a b ts rest x.takes) y.takes;
  gives = y.gives;
  ended = y.ended;
}

-- After a refusal nothing is read.
pub stream-refused : (a b : List ℕ) (ts : List Taken) (rest : List ℕ) (status : ℕ)
    → IsStream a ts rest (Refused status) → IsStream (a ++ b) ts (rest ++ b) (Refused status)
stream-refused a b ts rest status x = record {
  takes = takes-append a b ts rest x.takes;
  gives = front-refused rest b status x.gives;
  ended = tt;
}

-- Bytes have one stream.
pub stream_unique : (a : List ℕ) (ts us : List Taken) (rest left : List ℕ) (f g : Front)
    → IsStream a ts rest f → IsStream a us left g → (ts ≡ us) × (rest ≡ left) × (f ≡ g)
stream_unique a ts us rest left f g x y = go a ts us x.takes y.takes
  where
    go : (a : List ℕ) (ts us : List Taken) → Takes a ts rest → Takes a us left → (ts ≡ us) × (rest ≡ left) × (f ≡ g)
    go a [] [] p q = let same : rest ≡ left = p ∙ sym q in
        (refl, same, front_unique left f g (subst (λ l. IsFront l f) same x.gives) y.gives)
    go a [] (u ∷ us) p q =
        absurd (subst HasEnded (front_unique a f _ (subst (λ l. IsFront l f) p x.gives) q.1) x.ended)
    go a (t ∷ ts) [] p q =
        absurd (subst HasEnded (front_unique a g _ (subst (λ l. IsFront l g) q y.gives) p.1) y.ended)
    go a (t ∷ ts) (u ∷ us) p q =
        let same = front_unique a _ _ p.1 q.1 in
        let after : p.0 ≡ q.0 = cc in
        let head : t.0 ≡ u.0 = cc in
        let body : t.1 ≡ u.1 = cc in
        let more = go q.0 ts us (subst (λ l. Takes l ts rest) after p.2) q.2 in
        (λ i. (head i, body i) ∷ more.0 i, more.1, more.2)

-- ---- what has to come yet

-- until the body is whole, more bytes are wanted
pub waits_for_body : (a more : List ℕ) (h : RequestHead) (after : List ℕ) → IsOpening a (Whole h after) → status_of h ≡ None
    → length (a ++ more) < length (print_request h) + body_size h → IsFront (a ++ more) More
waits_for_body a more h after opens none short =
    let here = whole-append a more h after opens in
    let sizes : length (a ++ more) ≡ length (print_request h) + length (after ++ more) =
    ap length here.0.1 ∙ length-append (print_request h) (after ++ more) in
    let few : length (after ++ more) < body_size h = omega arith in
    let fails : nat_le (body_size h) (length (after ++ more)) ≡ false = grind (arith, nat_tests) in
    let n = body_size h in
    record {
      opening = Whole h (after ++ more);
      opens = here;
      gives = sym (ap (λ s. answered s h (after ++ more)) none
          ∙ ap (λ t. cond t (Request h (take n (after ++ more)) (drop n (after ++ more))) More) fails);
    }
