-- What bytes that are one request give, piece by piece.
use Rattle.std.proofs.Common.{◌≡◌, ℕ, ◌≤◌, List, [], ◌∷◌, ◌++◌, length, sym, ap, subst, ◌∙◌}
use Rattle.std.proofs.Common.{append-nil, append_assoc, arith, take, drop}
use Rattle.std.proofs.lemmas.List.{take-append-drop}
use Rattle.httparse.specs.Grammar.{RequestHead}
use Rattle.http_front.specs.Front.{Front, IsFront, More, Refused, Request, StaysWith}
use Rattle.asp_record.specs.Recorded.{IsOneRequest}

-- bytes give one thing first, and it stays, whatever follows them: the laws of http_front
pub record Laws : Type 0 where
  pub unique : (bytes : List ℕ) (one other : Front) → IsFront bytes one → IsFront bytes other → one ≡ other
  pub stays : (bytes more : List ℕ) (front : Front) → IsFront bytes front → StaysWith bytes more front

-- the bytes are one request: these were fed, and those were not
pub record IsFedTo (bytes fed rest : List ℕ) : Type 0 where
  pub one : IsOneRequest bytes
  pub whole : bytes ≡ fed ++ rest

-- one piece more is fed
pub fed_more : (bytes before rest fed piece later : List ℕ) (count : ℕ) → IsOneRequest bytes → bytes ≡ before ++ rest
    → fed ≡ before ++ piece → piece ≡ take count rest → later ≡ drop count rest → IsFedTo bytes fed later
fed_more bytes before rest fed piece later count one whole more front back =
    let split : rest ≡ piece ++ later = sym (take-append-drop count rest) ∙ ap (λ l. l ++ drop count rest) (sym front)
    ∙ ap (λ l. piece ++ l) (sym back) in
    record {
      one = one;
      whole = whole ∙ ap (λ l. before ++ l) split ∙ sym (append_assoc before piece later)
          ∙ ap (λ l. l ++ later) (sym more);
    }

module _ (laws : Laws) (bytes fed rest : List ℕ) (fits : IsFedTo bytes fed rest) where
  -- they give no other thing than the request
  only_one : (front : Front) → IsFront (fed ++ rest) front → front ≡ Request fits.one.0 fits.one.1 []
  only_one front comes =
      laws.unique bytes front (Request fits.one.0 fits.one.1 []) (subst (λ l. IsFront l front) (sym fits.whole) comes)
      fits.one.2

  -- none of them is refused
  pub none_refused : (status : ℕ) → ¬ (IsFront fed (Refused status))
  none_refused status = λ refused.
      let same = only_one (Refused status) (laws.stays fed rest (Refused status) refused) in
      cc

  -- they do not want more
  pub none_wanting : length rest ≤ 0 → ¬ (IsFront fed More)
  none_wanting none = λ wants.
      let same = only_one More (subst (λ l. IsFront l More) (all rest none) wants) in
      cc
    where
      all : (later : List ℕ) → length later ≤ 0 → fed ≡ fed ++ later
      all [] e = sym (append-nil fed)
      all (b ∷ later) e = absurd (omega arith)

  -- a request that comes is that request
  pub one_comes : (left : List ℕ) (h : RequestHead) (body : List ℕ) → IsFront fed (Request h body left)
      → IsFront bytes (Request h body [])
  one_comes left h body comes =
      let stays = laws.stays fed rest (Request h body left) comes in
      let same = only_one (Request h body (left ++ rest)) stays in
      let none : left ++ rest ≡ [] = cc in
      subst (λ l. IsFront bytes (Request h body l)) none
      (subst (λ l. IsFront l (Request h body (left ++ rest))) (sym fits.whole) stays)
