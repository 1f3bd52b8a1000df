-- What is kept of a request.
use Rattle.std.specs.Prelude.{◌≡◌, []}
use Rattle.asp_job.specs.declared.request.Request.{Request}
use Rattle.asp_request.specs.declared.inputs.Inputs.{Inputs}
use Rattle.asp_request.specs.Collection.{Collects}
use Rattle.asp_request.specs.Cookies.{CollectsCookies}
use Rattle.asp_request.specs.Request.{query_pairs, form_pairs, raw_cookies, server_pairs, text_of}

-- what is kept is that of the request
pub record IsInputsOf (request : Request) (inputs : Inputs) : Type 0 where
  pub query_is : Collects inputs.query (query_pairs request.query)
  pub form_is : Collects inputs.form (form_pairs request)
  pub cookies_are : CollectsCookies inputs.cookies (raw_cookies request)
  pub server_is : Collects inputs.server (server_pairs request)
  pub raw_query_is : inputs.raw_query ≡ text_of request.query
  pub raw_form_is : inputs.raw_form ≡ text_of request.body
  pub nothing_is : inputs.nothing ≡ []
