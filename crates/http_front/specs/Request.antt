-- The request of a head and its body.
use Rattle.std.specs.Prelude.{◌≡◌, ℕ, List, map, Some}
use Rattle.httparse.specs.Grammar.{RequestHead}
use Rattle.asp_job.specs.declared.request.Header.{Header}
use Rattle.asp_job.specs.declared.request.Request.{Request}
use Rattle.http_front.specs.Status.{verb_of, headers_of, closes}
use Rattle.http_front.specs.Target.{path_of, query_of}

-- the name and the value
abbrev pub header_parts : Header → List ℕ × List ℕ
header_parts h = (h.name, h.value)

-- the request is that of the head, with the body
pub record IsRequestFor (h : RequestHead) (body : List ℕ) (r : Request) : Type 0 where
  pub verb : r.verb ≡ verb_of h.method
  pub path : path_of h.target ≡ Some r.path
  pub query : r.query ≡ query_of h.target
  pub minor : r.minor ≡ h.minor
  pub headers : map header_parts r.headers ≡ headers_of h
  pub body_is : r.body ≡ body
  pub close : r.close ≡ closes h
