-- Bytes are one request, and a client's request has one job.
use Rattle.std.proofs.Common.{◌≡◌, ℕ, List, [], ◌∷◌, map, refl, sym, ap, subst, ◌∙◌}
use Rattle.std.proofs.lemmas.Option.{same_Some}
use Rattle.httparse.specs.Grammar.{RequestHead}
use Rattle.http_front.specs.Front as front
use Rattle.http_front.specs.Front.{Front, IsFront}
use Rattle.http_front.specs.Request.{IsRequestFor, header_parts}
use Rattle.asp_job.specs.declared.job.Job.{Job}
use Rattle.asp_job.specs.declared.job.Work.TheVariants.{Page}
use Rattle.asp_job.specs.declared.request.Header.{Header}
use Rattle.asp_job.specs.declared.request.Request.{Request}
use Rattle.asp_feed.specs.Feeding.{Clients, IsJobOf, IsRequestOf, asked_by}

-- bytes give one thing first: the law of http_front
abbrev pub OneFront : Type 0
OneFront = (bytes : List ℕ) (one other : Front) → IsFront bytes one → IsFront bytes other → one ≡ other

-- ---- requests

one_header : (header other : Header) → header_parts header ≡ header_parts other → header ≡ other
one_header header other same =
    let name : header.name ≡ other.name = ap (λ (parts : List ℕ × List ℕ). parts.0) same in
    let value : header.value ≡ other.value = ap (λ (parts : List ℕ × List ℕ). parts.1) same in
    λ i. record { name = name i; value = value i }

one_headers : (headers others : List Header) → map header_parts headers ≡ map header_parts others → headers ≡ others
one_headers [] [] same = refl
one_headers [] (other ∷ others) same = absurd cc
one_headers (header ∷ headers) [] same = absurd cc
one_headers (header ∷ headers) (other ∷ others) same =
    let all : header_parts header ∷ map header_parts headers ≡ header_parts other ∷ map header_parts others = same in
    let first : header_parts header ≡ header_parts other = cc in
    let rest : map header_parts headers ≡ map header_parts others = cc in
    let front = one_header header other first in
    let back = one_headers headers others rest in
    λ i. front i ∷ back i

-- a head and a body are one request
one_request_for : (h : RequestHead) (body : List ℕ) (request other : Request) → IsRequestFor h body request
    → IsRequestFor h body other → request ≡ other
one_request_for h body request other is also =
    let verb : request.verb ≡ other.verb = is.verb ∙ sym also.verb in
    let path : request.path ≡ other.path = same_Some request.path other.path (sym is.path ∙ also.path) in
    let query : request.query ≡ other.query = is.query ∙ sym also.query in
    let minor : request.minor ≡ other.minor = is.minor ∙ sym also.minor in
    let headers : request.headers ≡ other.headers =
    one_headers request.headers other.headers (is.headers ∙ sym also.headers) in
    let content : request.body ≡ other.body = is.body_is ∙ sym also.body_is in
    let close : request.close ≡ other.close = is.close ∙ sym also.close in
    λ i. record {
      verb = verb i;
      path = path i;
      query = query i;
      minor = minor i;
      headers = headers i;
      body = content i;
      close = close i;
    }

one_request : OneFront → (bytes : List ℕ) (request other : Request) → IsRequestOf bytes request
    → IsRequestOf bytes other → request ≡ other
one_request fronts bytes request other is also =
    let same = fronts bytes (front.Request is.0 is.1 []) (front.Request also.0 also.1 []) is.2 also.2 in
    let head : is.0 ≡ also.0 = cc in
    let body : is.1 ≡ also.1 = cc in
    let turned : IsRequestFor also.0 also.1 request = subst (λ content. IsRequestFor also.0 content request) body
    (subst (λ some. IsRequestFor some is.1 request) head is.3) in
    one_request_for also.0 also.1 request other turned also.3

-- ---- jobs

abbrev page_job : Clients → ℕ → ℕ → Request → Job
page_job clients client moment asked =
    record { work = Page asked; moment = moment; asked = asked_by clients client }

-- a client's request has one job
pub one_job : OneFront → (clients : Clients) (client moment : ℕ) (bytes : List ℕ) (job other : Job)
    → IsJobOf clients client moment bytes job → IsJobOf clients client moment bytes other → job ≡ other
one_job fronts clients client moment bytes job other is also =
    let asked : is.asked ≡ also.asked = one_request fronts bytes is.asked also.asked is.bytes_are also.bytes_are in
    is.job_is ∙ ap (page_job clients client moment) asked ∙ sym also.job_is
