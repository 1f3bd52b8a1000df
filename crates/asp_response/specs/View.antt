-- What a page has said of its answer: the body with what of it Flush has fixed, whether Flush was made, whether output is
-- kept until then, and what was said of the head.
use Rattle.std.specs.Prelude.{ℕ, Bool, List, Option}
use Rattle.asp_job.specs.declared.request.Header.{Header}
use Rattle.asp_response.specs.declared.cookie.Cookie.{Cookie}
use Rattle.asp_response.specs.declared.status.Status.{Status}

pub record Draft : Type 0 where
  pub body : List ℕ
  pub flushed : ℕ
  pub sent : Bool
  pub buffer : Bool
  pub status : Option Status
  pub content_type : Option (List ℕ)
  pub charset : Option (List ℕ)
  pub cache : Option (List ℕ)
  pub location : Option (List ℕ)
  pub cookies : List Cookie
  pub added : List Header
