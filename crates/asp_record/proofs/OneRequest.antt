-- What tells whether bytes are one request.
use Rattle.std.proofs.Common.{◌≡◌, ℕ, ◌+◌, ◌≤◌, Bool, false, List, [], ◌∷◌, ◌++◌, length, refl, sym, ap, subst, ◌∙◌}
use Rattle.std.proofs.Common.{append-nil, append_assoc, arith, take, drop}
use Rattle.std.proofs.lemmas.List.{length-append, take-append-drop}
use Rattle.std.specs.Bool.{Decides}
use Rattle.httparse.specs.Grammar.{RequestHead}
use Rattle.http_front.specs.Front.{Front, IsFront, More, Refused, Request, StaysWith}
use Rattle.asp_record.specs.Recorded.{IsOneRequest}

-- bytes give one thing first, and it stays, whatever follows them: the laws of http_front
pub record Laws : Type 0 where
  pub unique : (bytes : List ℕ) (one other : Front) → IsFront bytes one → IsFront bytes other → one ≡ other
  pub stays : (bytes more : List ℕ) (front : Front) → IsFront bytes front → StaysWith bytes more front

-- what a front leaves, where it is a request
abbrev left_by : Front → List ℕ
left_by More = []
left_by (Request h body rest) = rest
left_by (Refused status) = []

-- no request, and one
abbrev IsRequest : Front → Type 0
IsRequest (Request h body rest) = Unit {0}
IsRequest _ = ⊥

-- bytes that want more are no request
pub wanting_is_none : Laws → (bytes : List ℕ) → IsFront bytes More → ¬ (IsOneRequest bytes)
wanting_is_none laws bytes wants = λ one.
    let same = laws.unique bytes (Request one.0 one.1 []) More one.2 wants in
    subst IsRequest same tt

-- nor are bytes that are refused, whatever follows
pub refused_is_none : Laws → (fed rest : List ℕ) (status : ℕ) → IsFront fed (Refused status)
    → ¬ (IsOneRequest (fed ++ rest))
refused_is_none laws fed rest status refused = λ one.
    let same = laws.unique (fed ++ rest) (Request one.0 one.1 []) (Refused status) one.2
    (laws.stays fed rest (Refused status) refused) in
    subst IsRequest same tt

-- the bytes are one request where nothing is left, and only then
pub record Tells (bytes left : List ℕ) : Type 0 where
  pub one : left ≡ [] → IsOneRequest bytes
  pub none : IsOneRequest bytes → left ≡ []

-- where a request comes, its bytes are one request if nothing is left, and only then
pub request_tells : Laws → (fed rest left : List ℕ) (h : RequestHead) (body : List ℕ)
    → IsFront fed (Request h body left)
    → Tells (fed ++ rest) (left ++ rest)
request_tells laws fed rest left h body comes = record {
  one = λ none. (
    h,
    body,
    subst (λ l. IsFront (fed ++ rest) (Request h body l)) none
        (laws.stays fed rest (Request h body left) comes),
  );
  none = λ one. ap left_by (laws.unique (fed ++ rest) (Request h body (left ++ rest)) (Request one.0 one.1 [])
      (laws.stays fed rest (Request h body left) comes) one.2);
}

no_bytes : (left rest : List ℕ) → length left + length rest ≡ 0 → left ++ rest ≡ []
no_bytes [] [] none = refl
no_bytes [] (first ∷ rest) none = absurd (omega (arith, none))
no_bytes (first ∷ left) rest none = absurd (omega (arith, none))

-- what is fed, and what is still to be fed
pub fed_more : (bytes before rest fed piece later : List ℕ) (count : ℕ) → bytes ≡ before ++ rest → fed ≡ before ++ piece
    → piece ≡ take count rest → later ≡ drop count rest → bytes ≡ fed ++ later
fed_more bytes before rest fed piece later count whole more front back =
    let split : rest ≡ piece ++ later = sym (take-append-drop count rest) ∙ ap (λ l. l ++ drop count rest) (sym front)
    ∙ ap (λ l. piece ++ l) (sym back) in
    whole ∙ ap (λ l. before ++ l) split ∙ sym (append_assoc before piece later) ∙ ap (λ l. l ++ later) (sym more)

pub request_decides : Laws → (bytes fed rest left : List ℕ) (h : RequestHead) (body : List ℕ) (told : Bool)
    → bytes ≡ fed ++ rest
    → IsFront fed (Request h body left) → Decides told (length left + length rest ≡ 0)
    → Decides told (IsOneRequest bytes)
request_decides laws bytes fed rest left h body told whole comes decides =
    let tells = request_tells laws fed rest left h body comes in (
      λ e. subst IsOneRequest (sym whole) (tells.one (no_bytes left rest (decides.0 e))),
      λ one.
          let none = ap length (tells.none (subst IsOneRequest whole one)) in
          decides.1 (omega (arith, none, length-append left rest)),
    )

pub refused_decides : Laws → (bytes fed rest : List ℕ) (status : ℕ) → bytes ≡ fed ++ rest → IsFront fed (Refused status)
    → Decides false (IsOneRequest bytes)
refused_decides laws bytes fed rest status whole refused =
    (λ e. absurd cc, λ one. absurd (refused_is_none laws fed rest status refused (subst IsOneRequest whole one)))

pub wanting_decides : Laws → (bytes fed rest : List ℕ) → bytes ≡ fed ++ rest → length rest ≤ 0 → IsFront fed More
    → Decides false (IsOneRequest bytes)
wanting_decides laws bytes fed [] whole none wants =
    (λ e. absurd cc, λ one. absurd (wanting_is_none laws fed wants (subst IsOneRequest (whole ∙ append-nil fed) one)))
wanting_decides laws bytes fed (first ∷ rest) whole none wants = absurd (omega (arith, none))
