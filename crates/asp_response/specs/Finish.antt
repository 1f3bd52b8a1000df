-- The answer that a draft is finished to. `Date`, `Content-Length` and `Connection` come with its bytes.
use Rattle.std.specs.Prelude.{ℕ, ◌+◌, nat_lt, Bool, if◌then◌else◌, List, [], ◌∷◌, ◌++◌, length, map, flat_map, take}
use Rattle.std.specs.Prelude.{Option, Some, None}
use Rattle.std.specs.Prelude.{unwrap_or, is_some, codes, encode_utf8_all}
use Rattle.http.specs.StatusCode.{reason_phrase}
use Rattle.asp_text.specs.Url.{url_encoded}
use Rattle.asp_job.specs.declared.answer.Answer.{Answer}
use Rattle.asp_job.specs.declared.request.Header.{Header}
use Rattle.asp_response.specs.declared.cookie.Cookie.{Cookie}
use Rattle.asp_response.specs.declared.cookie.CookiePair.{CookiePair}
use Rattle.asp_response.specs.declared.cookie.CookieValue.{CookieValue}
use Rattle.asp_response.specs.declared.cookie.CookieValue.TheVariants.{Whole, Pairs}
use Rattle.asp_response.specs.View.{Draft}
use Rattle.asp_response.specs.declared.status.Status.{Status}

-- a field of a name and a text
abbrev pub header : List ℕ → List ℕ → Header
header name text = record { name = name; value = encode_utf8_all text }

-- ---- cookies

-- the pairs of a cookie as `k=v`, with `&` between them, each part as a URL has it
abbrev pub pair_text : CookiePair → List ℕ
pair_text pair = url_encoded pair.key ++ codes "=" ++ url_encoded pair.text

abbrev pub next_pair : CookiePair → List ℕ
next_pair pair = codes "&" ++ pair_text pair

unfoldable pub pairs_text : List CookiePair → List ℕ
pairs_text [] = []
pairs_text (pair ∷ pairs) = pair_text pair ++ flat_map next_pair pairs

abbrev pub value_text : CookieValue → List ℕ
value_text (Whole text) = url_encoded text
value_text (Pairs pairs) = pairs_text pairs

-- a domain, where one is set
abbrev pub domain_text : List ℕ → List ℕ
domain_text [] = []
domain_text (first ∷ domain) = codes "; domain=" ++ first ∷ domain

abbrev pub secure_text : Bool → List ℕ
secure_text secure = if secure then codes "; secure" else []

-- set-cookie-string = cookie-pair *( ";" SP cookie-av ) (RFC 6265, section 4.1.1)
unfoldable pub cookie_text : Cookie → List ℕ
cookie_text cookie = url_encoded cookie.name ++ codes "=" ++ value_text cookie.value
    ++ codes "; path=" ++ cookie.path ++ domain_text cookie.domain ++ secure_text cookie.secure

abbrev pub cookie_header : Cookie → Header
cookie_header cookie = header (codes "Set-Cookie") (cookie_text cookie)

-- the cookie by which a browser keeps the key of its session, for the letters of that key
abbrev pub session_text : List ℕ → List ℕ
session_text letters = codes "ASPSESSIONIDPROFILE=" ++ letters ++ codes "; path=/"

abbrev pub session_headers : Option (List ℕ) → List Header
session_headers None = []
session_headers (Some letters) = header (codes "Set-Cookie") (session_text letters) ∷ []

-- ---- other fields

-- the charset, unless it is empty
abbrev pub charset_text : List ℕ → List ℕ
charset_text [] = []
charset_text (first ∷ charset) = codes "; Charset=" ++ first ∷ charset

-- what was not said is `text/html`, `utf-8` and `private`
abbrev pub type_of : Option (List ℕ) → Option (List ℕ) → List ℕ
type_of content_type charset =
    unwrap_or content_type (codes "text/html") ++ charset_text (unwrap_or charset (codes "utf-8"))

abbrev pub cache_text : Draft → List ℕ
cache_text draft = unwrap_or draft.cache (codes "private")

abbrev pub location_headers : Option (List ℕ) → List Header
location_headers None = []
location_headers (Some url) = header (codes "Location") url ∷ []

-- The fields in their order: the type, the place that a redirect leads to, the session's cookie, the cookies in the order in
-- which they were first named, the added fields in theirs, and what caches may do.
unfoldable pub headers_of : Draft → Option (List ℕ) → List Header
headers_of draft letters =
    header (codes "Content-Type") (type_of draft.content_type draft.charset) ∷ []
    ++ location_headers draft.location
    ++ session_headers letters
    ++ map cookie_header draft.cookies
    ++ draft.added
    ++ header (codes "Cache-control") (cache_text draft) ∷ []

-- ---- the answer

-- the reason that goes with a code by itself
abbrev pub reason_of : ℕ → List ℕ
reason_of code = unwrap_or (reason_phrase code) []

abbrev pub plain_status : ℕ → Status
plain_status code = record { code = code; reason = reason_of code }

-- the status that was set, or 200; after a failure it is 500, whatever was set
abbrev pub status_of : Option Status → Bool → Status
status_of set failed = if failed then plain_status 500 else unwrap_or set (plain_status 200)

-- what is said of a failure, where there is room for all of it behind what was flushed
abbrev pub said_behind : List ℕ → List ℕ → List ℕ
said_behind kept said = if nat_lt 4194304 (length kept + length said) then [] else said

-- the body; after a failure what of it was flushed, and then what is said of the failure
abbrev pub body_of : List ℕ → ℕ → Option (List ℕ) → List ℕ
body_of body flushed None = body
body_of body flushed (Some failure) = take flushed body ++ said_behind (take flushed body) (encode_utf8_all failure)

-- the answer of a draft, given the letters of a new session's key, what is said of a failure, and what its request says
abbrev pub finished : Draft → Option (List ℕ) → Option (List ℕ) → Bool → Bool → Answer
finished draft letters failure head_only close =
    let status = status_of draft.status (is_some failure) in record {
      status = status.code;
      reason = status.reason;
      headers = headers_of draft letters;
      body = body_of draft.body draft.flushed failure;
      head_only = head_only;
      close = close;
    }
