-- What the calls of the Request object give of a request (ASP 3.0, "Request Object").
use Rattle.std.specs.Prelude.{ℕ, List, [], ◌∷◌, Option}
use Rattle.vb_value.specs.declared.value.Value.{Value, Empty, Str}
use Rattle.asp_job.specs.declared.request.Request.{Request}
use Rattle.asp_request.specs.declared.inputs.InSet.{InSet}
use Rattle.asp_request.specs.declared.inputs.InSet.TheVariants as set
use Rattle.asp_request.specs.Pairs.{Pair, values_in, first_of, joined}
use Rattle.asp_request.specs.Request.{query_pairs, form_pairs, cookie_pairs, raw_cookies, server_pairs, text_of}

-- the first of two lists of values that has any
abbrev pub or_else : List (List ℕ) → List (List ℕ) → List (List ℕ)
or_else [] others = others
or_else (value ∷ values) others = value ∷ values

-- the pairs of a collection; the Request object itself has none
abbrev pub pairs_of : Request → InSet → List Pair
pairs_of request set.All = []
pairs_of request set.Query = query_pairs request.query
pairs_of request set.Form = form_pairs request
pairs_of request set.Cookies = cookie_pairs request
pairs_of request set.Server = server_pairs request

-- the values of a name in a collection; of the Request object those of the first collection that has the name
abbrev pub values_of : Request → InSet → List ℕ → List (List ℕ)
values_of request set.All name = or_else (values_in (query_pairs request.query) name)
    (or_else (values_in (form_pairs request) name)
    (or_else (values_in (cookie_pairs request) name) (values_in (server_pairs request) name)))
values_of request set name = values_in (pairs_of request set) name

-- a collection alone: the query, the body, and nothing of the others
abbrev pub raw_of : Request → InSet → List ℕ
raw_of request set.Query = text_of request.query
raw_of request set.Form = text_of request.body
raw_of request _ = []

-- Empty without values, else all of them with `, ` between them
abbrev pub shown : List (List ℕ) → Value
shown [] = Empty
shown (value ∷ values) = Str (joined (value ∷ values))

-- the value of a cookie as it is written
abbrev pub raw_cookie_of : Request → List ℕ → Option (List ℕ)
raw_cookie_of request name = first_of (values_in (raw_cookies request) name)
