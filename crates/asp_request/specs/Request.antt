-- The collections of a request (ASP 3.0, "Request Object"; URL Standard, section 5; RFC 6265, section 4.2; RFC 3875,
-- section 4.1, for the names of server variables).
use Rattle.std.specs.Prelude.{ℕ, ◌+◌, Bool, true, false, not, ◌&&◌, ◌==◌, nat_lt, if◌then◌else◌, List, [], ◌∷◌}
use Rattle.std.specs.Prelude.{◌++◌, length}
use Rattle.std.specs.Prelude.{map, take, drop, nat_eq, codes}
use Rattle.std.specs.Prelude.{decimal}
use Rattle.std.specs.List.{flat_map, slice_split, starts_with, position_or_len, find}
use Rattle.std.specs.Char.{to_ascii_uppercase}
use Rattle.std.specs.Option.{option_map_or}
use Rattle.std.specs.Str.{chars}
use Rattle.std.specs.Str.Lossy.{utf8_lossy}
use Rattle.form_urlencoded.specs.Form.{decode, raw_pairs, split_pair}
use Rattle.httparse.specs.Grammar.{trim_ows}
use Rattle.vb_value.specs.Folding.{same_name}
use Rattle.asp_job.specs.declared.request.Header.{Header}
use Rattle.asp_job.specs.declared.request.Request.{Request}
use Rattle.asp_job.specs.declared.request.Verb.{Verb}
use Rattle.asp_job.specs.declared.request.Verb.TheVariants as verb
use Rattle.asp_request.specs.Pairs.{Pair, firsts, names_in, values_in, joined}

-- the characters that bytes encode, U+FFFD for what is no UTF-8
abbrev pub text_of : List ℕ → List ℕ
text_of bytes = chars (utf8_lossy bytes)

-- the same of a part of a query: `+` is a space, and escapes are decoded
abbrev pub decoded : List ℕ → List ℕ
decoded part = chars (utf8_lossy (decode part))

-- ---- QueryString and Form

-- both sides of a pair decoded
abbrev pub decoded_pair : Pair → Pair
decoded_pair pair = (decoded pair.0, decoded pair.1)

-- the pairs between the `&` of a query or a form; what is empty is no pair
abbrev pub query_pairs : List ℕ → List Pair
query_pairs bytes = map decoded_pair (raw_pairs bytes)

-- ---- Cookies

-- a piece of a Cookie field that pages see: there are bytes in it, and they are not the cookie of the session
abbrev pub is_cookie : List ℕ → Bool
is_cookie piece = nat_lt 0 (length piece) && not (starts_with nat_eq piece (codes "ASPSESSIONIDPROFILE="))

-- the name before the first `=`, decoded, and the value behind it as it is written
abbrev pub raw_pair : List ℕ → Pair
raw_pair piece = (decoded (split_pair piece).0, (split_pair piece).1)

abbrev pub piece_pairs : List ℕ → List Pair
piece_pairs piece = if is_cookie piece then raw_pair piece ∷ [] else []

-- the pieces between the `;` of a value, without the blanks around each
abbrev pub value_cookies : List ℕ → List Pair
value_cookies value = flat_map (λ piece. piece_pairs (trim_ows piece)) (slice_split (λ b. b == 59) value)

abbrev pub header_cookies : Header → List Pair
header_cookies header = if same_name (codes "Cookie") header.name then value_cookies header.value else []

-- the cookies of a request, each name with its value as it is written
abbrev pub raw_cookies : Request → List Pair
raw_cookies request = flat_map header_cookies request.headers

-- the first of each name counts, with its value decoded
abbrev pub with_decoded : Pair → Pair
with_decoded pair = (pair.0, decoded pair.1)

abbrev pub cookie_pairs : Request → List Pair
cookie_pairs request = map with_decoded (firsts (raw_cookies request))

-- ---- fields

-- the value of the first field of a name, and nothing without one
abbrev pub value_of_header : List ℕ → List Header → List ℕ
value_of_header name headers = option_map_or (λ header. header.value) (find (λ header. same_name name header.name) headers) []

-- the media type of a value: what stands before its parameters (RFC 9110, section 8.3.1)
abbrev pub media_type : List ℕ → List ℕ
media_type value = trim_ows (take (position_or_len (λ b. b == 59) value) value)

abbrev pub is_post : Verb → Bool
is_post verb.Post = true
is_post _ = false

-- the body is that of a form: of a POST, and so typed
abbrev pub is_form : Request → Bool
is_form request = is_post request.verb && same_name
    (media_type (value_of_header (codes "Content-Type") request.headers)) (codes "application/x-www-form-urlencoded")

abbrev pub form_pairs : Request → List Pair
form_pairs request = if is_form request then query_pairs request.body else []

-- ---- ServerVariables

abbrev pub method_text : Verb → List ℕ
method_text verb.Get = codes "GET"
method_text verb.Head = codes "HEAD"
method_text verb.Post = codes "POST"
method_text verb.Other = []

abbrev pub protocol : ℕ → List ℕ
protocol minor = if minor == 0 then codes "HTTP/1.0" else codes "HTTP/1.1"

-- where brackets at the front of a host end, 0 without them
unfoldable pub bracket_end : List ℕ → ℕ
bracket_end [] = 0
bracket_end (first ∷ host) = if first == 91 then position_or_len (λ b. b == 93) (first ∷ host) else 0

-- where the name in a Host field ends (RFC 3986, section 3.2.2): at the first `:`, which in brackets does not count
abbrev pub host_end : List ℕ → ℕ
host_end host = let skipped = bracket_end host in skipped + position_or_len (λ b. b == 58) (drop skipped host)

-- the port behind it, 80 without one
abbrev pub port_text : List ℕ → List ℕ
port_text [] = codes "80"
port_text (first ∷ port) = text_of (first ∷ port)

-- what is said of the request, of the host that it was sent to, and of its body
abbrev pub request_variables : Request → List Pair
request_variables request =
    (codes "REQUEST_METHOD", method_text request.verb)
    ∷ (codes "QUERY_STRING", text_of request.query)
    ∷ (codes "SCRIPT_NAME", request.path)
    ∷ (codes "URL", request.path)
    ∷ (codes "PATH_INFO", request.path) ∷ []

abbrev pub host_variables : Request → List Pair
host_variables request =
    let host = value_of_header (codes "Host") request.headers in
    (codes "SERVER_NAME", text_of (take (host_end host) host))
    ∷ (codes "SERVER_PORT", port_text (drop (host_end host + 1) host))
    ∷ (codes "SERVER_PROTOCOL", protocol request.minor)
    ∷ (codes "SERVER_SOFTWARE", codes "ClassicASP")
    ∷ (codes "HTTPS", codes "off") ∷ []

abbrev pub body_variables : Request → List Pair
body_variables request =
    (codes "CONTENT_LENGTH", decimal (length request.body))
    ∷ (codes "CONTENT_TYPE", text_of (value_of_header (codes "Content-Type") request.headers)) ∷ []

-- the variable of a field: its name in capitals, with `_` for `-`
abbrev pub capital : ℕ → ℕ
capital c = if c == 45 then 95 else to_ascii_uppercase c

abbrev pub header_pair : Header → Pair
header_pair header = (codes "HTTP_" ++ map capital header.name, text_of header.value)

-- the values of a name as one
abbrev pub as_one : List Pair → List ℕ → Pair
as_one pairs name = (name, joined (values_in pairs name))

abbrev pub header_variables : List Header → List Pair
header_variables headers = let pairs = map header_pair headers in map (as_one pairs) (names_in pairs)

abbrev pub server_pairs : Request → List Pair
server_pairs request =
    request_variables request ++ host_variables request ++ body_variables request ++ header_variables request.headers
