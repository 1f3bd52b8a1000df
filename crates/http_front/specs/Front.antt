-- What the bytes of a connection say: the requests at their front, and what the rest gives (RFC 9112, sections 2 and 6).
use Rattle.std.specs.Prelude.{◌≡◌, ℕ, ◌<◌, ◌≤◌, List, [], ◌∷◌, ◌++◌, length, take, drop, Option, Some, None}
use Rattle.std.specs.Prelude.{if◌then◌else◌, nat_lt, nat_le, ⊤}
use Rattle.httparse.specs.Grammar.{RequestHead, print_request, ReadsRequest, NeverHasRequest}
use Rattle.http_front.specs.Status.{status_of, body_size}

-- how a connection's bytes stand to the heads of the grammar, of which none may have over 16,384 bytes
pub data Opening : Type 0 where
  Unfinished Hopeless : Opening
  Whole : RequestHead → List ℕ → Opening

-- the first 16,384 bytes: all, where there are fewer
abbrev pub window : List ℕ → List ℕ
window bytes = take 16384 bytes

-- a head begins with these bytes, and is longer
abbrev pub BeginsHead : List ℕ → Type 0
BeginsHead bytes = (more : List ℕ) × (h : RequestHead) × (0 < length more) × ReadsRequest (bytes ++ more) h []

-- the window is the beginning of a head, or no continuation of it begins with one, or the bytes are a
-- head of at most 16,384 bytes and what follows it
abbrev pub IsOpening : List ℕ → Opening → Type 0
IsOpening bytes Unfinished = BeginsHead (window bytes)
IsOpening bytes Hopeless = NeverHasRequest (window bytes)
IsOpening bytes (Whole h after) = ReadsRequest bytes h after × (length (print_request h) ≤ 16384)

-- more bytes are wanted, or a request's head, its body and what follows it, or the status that refuses
pub data Front : Type 0 where
  More : Front
  Request : RequestHead → List ℕ → List ℕ → Front
  Refused : ℕ → Front

-- after a head: its status, if one applies, else the request once its body is whole
abbrev pub answered : Option ℕ → RequestHead → List ℕ → Front
answered (Some status) h after = Refused status
answered None h after =
    if nat_le (body_size h) (length after)
    then Request h (take (body_size h) after) (drop (body_size h) after) else More

-- what bytes with this opening give, so many as they are
abbrev pub front_of : ℕ → Opening → Front
front_of count Unfinished = if nat_lt 16384 count then Refused 431 else More
front_of count Hopeless = Refused 400
front_of count (Whole h after) = answered (status_of h) h after

-- what the bytes of a connection give first
pub record IsFront (bytes : List ℕ) (front : Front) : Type 0 where
  pub opening : Opening
  pub opens : IsOpening bytes opening
  pub gives : front ≡ front_of (length bytes) opening

-- a request or a refusal is given also where more bytes follow
abbrev pub StaysWith : List ℕ → List ℕ → Front → Type 0
StaysWith bytes more More = ⊤
StaysWith bytes more (Request h body rest) = IsFront (bytes ++ more) (Request h body (rest ++ more))
StaysWith bytes more (Refused status) = IsFront (bytes ++ more) (Refused status)

-- no request comes first
abbrev pub HasEnded : Front → Type 0
HasEnded More = ⊤
HasEnded (Request h body rest) = ⊥
HasEnded (Refused status) = ⊤

-- a request's head and its body
abbrev pub Taken : Type 0
Taken = RequestHead × List ℕ

-- the bytes give these requests, one after another, and the bytes rest are left
abbrev pub Takes : List ℕ → List Taken → List ℕ → Type 0
Takes bytes [] rest = rest ≡ bytes
Takes bytes (t ∷ more) rest = (after : List ℕ) × IsFront bytes (Request t.0 t.1 after) × Takes after more rest

-- the bytes give these requests, and then the bytes rest are left, which give last
pub record IsStream (bytes : List ℕ) (taken : List Taken) (rest : List ℕ) (last : Front) : Type 0 where
  pub takes : Takes bytes taken rest
  pub gives : IsFront rest last
  pub ended : HasEnded last
