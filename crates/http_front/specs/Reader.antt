-- What a reader gives, and what is left in it.
use Rattle.std.specs.Prelude.{◌≡◌, ℕ, List, [], ◌∷◌, ◌++◌, ⊤}
use Rattle.std.specs.List.{flat_map}
use Rattle.std.specs.Borrow.{Bor}
use Rattle.httparse.specs.Grammar.{RequestHead}
use Rattle.asp_job.specs.declared.request.Request as request
use Rattle.http_front.specs.Front as front
use Rattle.http_front.specs.Front.{Front, IsFront, Taken, IsStream}
use Rattle.http_front.specs.Request.{IsRequestFor}
use Rattle.http_front.specs.declared.stream.End.{End}
use Rattle.http_front.specs.declared.stream.End.TheVariants.{More as End-More, Refused as End-Refused}
use Rattle.http_front.specs.declared.reader.Next.{Next}
use Rattle.http_front.specs.declared.reader.Next.TheVariants.{Request, More, Refused}

-- from the bytes old comes next, which is what they give first, and the bytes new are left
abbrev pub ComesNext : List ℕ → Next → List ℕ → Type 0
ComesNext old (Request r) new =
    (h : RequestHead) × (body : List ℕ) × IsRequestFor h body r × IsFront old (front.Request h body new)
ComesNext old More new = IsFront old front.More × (new ≡ old)
ComesNext old (Refused status) new = IsFront old (front.Refused status) × (new ≡ old)

-- the bytes give no request yet, and no refusal
abbrev pub Wants : List ℕ → Type 0
Wants bytes = IsFront bytes front.More

-- the requests have the heads and bodies that were taken, one by one
abbrev pub AreRequests : List Taken → List request.Request → Type 0
AreRequests [] [] = ⊤
AreRequests [] (r ∷ rs) = ⊥
AreRequests (t ∷ ts) [] = ⊥
AreRequests (t ∷ ts) (r ∷ rs) = IsRequestFor t.0 t.1 r × AreRequests ts rs

-- what the bytes give last
abbrev pub front_at : End → Front
front_at End-More = front.More
front_at (End-Refused status) = front.Refused status

-- the requests are those that the bytes give, and then the end
abbrev pub IsStreamOf : List ℕ → List request.Request → End → Type 0
IsStreamOf bytes requests end =
    (ts : List Taken) × (rest : List ℕ) × IsStream bytes ts rest (front_at end) × AreRequests ts requests

-- from a reader of the bytes old, requests were taken and put behind those before, up to the end
abbrev pub TakesAll : List ℕ → List ℕ → List request.Request → List request.Request → End → Type 0
TakesAll old new before after end =
    (ts : List Taken) × (rs : List request.Request) × IsStream old ts new (front_at end)
    × (after ≡ before ++ rs) × AreRequests ts rs

-- the bytes of the pieces, one after another
abbrev pub joined : List (Bor (List ℕ)) → List ℕ
joined pieces = flat_map (λ piece. piece.now) pieces
