-- The status by which the head of a request is refused (RFC 9110, section 15.5 and 15.6).
use Rattle.std.specs.Prelude.{ℕ, Bool, true, false, not, ◌&&◌, ◌||◌, List, map, length, Option, Some, None}
use Rattle.std.specs.Prelude.{if◌then◌else◌, ◌==◌, nat_lt, codes, bytes_eq}
use Rattle.std.specs.Option.{is_some}
use Rattle.httparse.specs.Grammar.{RequestHead}
use Rattle.httparse.specs.Spans.{name_and_value}
use Rattle.asp_job.specs.declared.request.Verb.{Verb}
use Rattle.asp_job.specs.declared.request.Verb.TheVariants.{Get, Head, Post, Other}
use Rattle.http_front.specs.declared.fields.BodyLength.{BodyLength}
use Rattle.http_front.specs.declared.fields.BodyLength.TheVariants.{Absent, Given, Faulty}
use Rattle.http_front.specs.declared.fields.Fields.{Fields}
use Rattle.http_front.specs.Fields.{Header, fields_of}
use Rattle.http_front.specs.Target.{path_of}

-- the method, by its name as it is written
abbrev pub verb_of : List ℕ → Verb
verb_of method =
    if bytes_eq method (codes "GET") then Get
    else (if bytes_eq method (codes "HEAD") then Head
    else (if bytes_eq method (codes "POST") then Post else Other))

-- a head of version 1.1 has one Host
abbrev pub has_host : ℕ → Fields → Bool
has_host minor fields = (minor == 0) || (fields.hosts == 1)

-- Content-Length stands more than once, or is malformed
abbrev pub is_faulty : BodyLength → Bool
is_faulty Absent = false
is_faulty (Given n) = false
is_faulty Faulty = true

-- there is no Content-Length
abbrev pub is_absent : BodyLength → Bool
is_absent Absent = true
is_absent (Given n) = false
is_absent Faulty = false

-- the body's length, which is 0 where none is given
abbrev pub length_of : BodyLength → ℕ
length_of Absent = 0
length_of (Given n) = n
length_of Faulty = 0

-- the Hosts and the Content-Lengths are in order
abbrev pub is_in_order : ℕ → Fields → Bool
is_in_order minor fields = has_host minor fields && not (is_faulty fields.length)

-- a body is posted
abbrev pub is_post : Verb → Bool
is_post Get = false
is_post Head = false
is_post Post = true
is_post Other = false

-- a POST without Content-Length
abbrev pub lacks_length : Verb → BodyLength → Bool
lacks_length verb length = is_post verb && is_absent length

-- the first of 431, 400, 501, 411 and 413 that applies to a head with these parts; named says that the target names
-- a path
unfoldable pub status_by : Verb → Bool → ℕ → ℕ → Fields → Option ℕ
status_by verb named minor count fields =
    if nat_lt 64 count then Some 431
    else (if not (named && is_in_order minor fields) then Some 400
    else (if fields.coded then Some 501
    else (if lacks_length verb fields.length then Some 411
    else (if nat_lt 1048576 (length_of fields.length) then Some 413 else None))))

-- the names and the values of the head's fields
abbrev pub headers_of : RequestHead → List Header
headers_of h = map name_and_value h.fields

-- the status that refuses the head, if one does
abbrev pub status_of : RequestHead → Option ℕ
status_of h = status_by (verb_of h.method) (is_some (path_of h.target)) h.minor (length h.fields) (fields_of (headers_of h))

-- how many bytes the body has after the head
abbrev pub body_size : RequestHead → ℕ
body_size h = length_of (fields_of (headers_of h)).length

-- the connection ends after the answer
abbrev pub closes : RequestHead → Bool
closes h = (h.minor == 0) || (fields_of (headers_of h)).close
