-- How many bytes of the head a page has put into it: those of its own lines, each with its end. A line that an answer has
-- by itself, because the page has said nothing of it, does not count.
use Rattle.std.specs.Prelude.{◌≡◌, ℕ, ◌+◌, ◌≤◌, nat_lt, List, length, sum_by, codes, encode_utf8_all}
use Rattle.std.specs.Prelude.{Option, Some, None, Result, Ok, Err, if◌then◌else◌}
use Rattle.vb_value.specs.declared.limit.LimitKind.TheVariants.{Body}
use Rattle.asp_job.specs.declared.request.Header.{Header}
use Rattle.asp_response.specs.declared.cookie.Cookie.{Cookie}
use Rattle.asp_response.specs.declared.status.Status.{Status}
use Rattle.asp_response.specs.declared.stop.DraftStop.{DraftStop}
use Rattle.asp_response.specs.declared.stop.DraftStop.TheVariants as stop
use Rattle.asp_response.specs.AnswerText.{field_of, line, status_text}
use Rattle.asp_response.specs.Finish.{cookie_header, header, type_of}
use Rattle.asp_response.specs.View.{Draft}

-- the bytes of a field, as a line
unfoldable pub field_size : Header → ℕ
field_size field = length (line (field_of field))

-- those of the status that was set
unfoldable pub status_size : Option Status → ℕ
status_size None = 0
status_size (Some status) = length (line (status_text status.code status.reason))

-- those of Content-Type, where the type or the charset was set
unfoldable pub type_size : Option (List ℕ) → Option (List ℕ) → ℕ
type_size None None = 0
type_size content_type charset = field_size (header (codes "Content-Type") (type_of content_type charset))

-- those of Location and of Cache-control, where they were set
unfoldable pub location_size : Option (List ℕ) → ℕ
location_size None = 0
location_size (Some url) = field_size (header (codes "Location") url)

unfoldable pub cache_size : Option (List ℕ) → ℕ
cache_size None = 0
cache_size (Some text) = field_size (header (codes "Cache-control") text)

-- those of the cookies
abbrev pub cookie_size : Cookie → ℕ
cookie_size cookie = field_size (cookie_header cookie)

abbrev pub cookies_size : List Cookie → ℕ
cookies_size cookies = sum_by cookie_size cookies

-- those of all lines of the page
abbrev pub head_size : Draft → ℕ
head_size draft = status_size draft.status
    + type_size draft.content_type draft.charset
    + location_size draft.location
    + cookies_size draft.cookies
    + sum_by field_size draft.added
    + cache_size draft.cache

-- a size that the head may have; more is the limit Body
abbrev pub head_within : ℕ → Result ℕ DraftStop
head_within size = if nat_lt 65536 size then Err (stop.Limit Body) else Ok size

-- A size that was `old` is `new`, once `was` of its bytes are gone and `will` others have come.
pub record Resizes (old new was will : ℕ) : Type 0 where
  pub within : was ≤ old
  pub sum : new + was ≡ old + will

-- the bytes of a text
abbrev pub bytes_in : List ℕ → ℕ
bytes_in text = length (encode_utf8_all text)
