-- The answers of sound drafts, and the fixed ones, are sound.
use Rattle.std.proofs.Common.{ℕ, Bool, true, false, List, [], ◌∷◌, ◌++◌, refl}
use Rattle.std.proofs.Common.{Option, Some, None}
use Rattle.std.specs.Prelude.{IfSome, codes, flat_map, is_some, map, unwrap_or}
use Rattle.std.specs.List.{All}
use Rattle.std.proofs.lemmas.List.Elements.{All-nil, All-cons, All-append, All-map, All-weaker}
use Rattle.asp_job.specs.declared.request.Header.{Header}
use Rattle.asp_response.specs.declared.cookie.Cookie.{Cookie}
use Rattle.asp_response.specs.declared.cookie.CookiePair.{CookiePair}
use Rattle.asp_response.specs.declared.cookie.CookieValue.{CookieValue}
use Rattle.asp_response.specs.declared.cookie.CookieValue.TheVariants.{Whole, Pairs}
use Rattle.asp_response.specs.View.{Draft}
use Rattle.asp_response.specs.declared.fixed.Unavailable.{Unavailable}
use Rattle.asp_response.specs.declared.status.Status.{Status}
use Rattle.asp_response.specs.Finish.{cookie_header, cookie_text, charset_text, domain_text, finished, header}
use Rattle.asp_response.specs.Finish.{headers_of}
use Rattle.asp_response.specs.Finish.{location_headers, next_pair, pair_text, pairs_text, secure_text}
use Rattle.asp_response.specs.Finish.{session_headers, session_text, status_of, type_of, value_text}
use Rattle.asp_response.specs.Fixed.{allowed, not_allowed_of, plain_header, status_answer_of}
use Rattle.asp_response.specs.Fixed.{unavailable_of}
use Rattle.asp_response.specs.Sound.{ArePrintable, IsPrintable, IsSound, IsSoundHeader}
use Rattle.asp_response.proofs.Drafts.{SoundCookie, SoundDraft}
use Rattle.asp_response.proofs.Printable.{both_printable, nothing_printable, printable_of, url_printable}
use Rattle.asp_response.proofs.Printable.{utf8_printable}
use Rattle.asp_response.proofs.Reasons.{reason_printable}

-- fields that are sound
record AreSound (headers : List Header) : Type 0 where
  pub each : All IsSoundHeader headers

none_sound : AreSound []
none_sound = record { each = All-nil IsSoundHeader }

both_sound : {first second : List Header} → AreSound first → AreSound second → AreSound (first ++ second)
both_sound {first} {second} one other = record { each = All-append IsSoundHeader first second one.each other.each }

header_sound : (name text : List ℕ) → IsPrintable name → IsPrintable text → IsSoundHeader (header name text)
header_sound name text named printable = record { name = named; value = utf8_printable printable }

-- a list of one field
one_sound : (name text : List ℕ) → IsPrintable name → IsPrintable text → AreSound (header name text ∷ [])
one_sound name text named printable = record {
  each = All-cons IsSoundHeader (header name text) [] (header_sound name text named printable) (All-nil IsSoundHeader);
}

-- ---- cookies

pair_printable : (pair : CookiePair) → IsPrintable (pair_text pair)
pair_printable pair =
    both_printable (both_printable (url_printable pair.key) (printable_of (codes "=") refl)) (url_printable pair.text)

next_printable : (pairs : List CookiePair) → IsPrintable (flat_map next_pair pairs)
next_printable [] = nothing_printable
next_printable (pair ∷ pairs) =
    both_printable (both_printable (printable_of (codes "&") refl) (pair_printable pair)) (next_printable pairs)

pairs_printable : (pairs : List CookiePair) → IsPrintable (pairs_text pairs)
unfolding pairs_text
pairs_printable [] = nothing_printable
pairs_printable (pair ∷ pairs) = both_printable (pair_printable pair) (next_printable pairs)

value_printable : (value : CookieValue) → IsPrintable (value_text value)
value_printable (Whole text) = url_printable text
value_printable (Pairs pairs) = pairs_printable pairs

domain_printable : (domain : List ℕ) → IsPrintable domain → IsPrintable (domain_text domain)
domain_printable [] printable = nothing_printable
domain_printable (first ∷ domain) printable = both_printable (printable_of (codes "; domain=") refl) printable

secure_printable : (secure : Bool) → IsPrintable (secure_text secure)
secure_printable true = printable_of (codes "; secure") refl
secure_printable false = nothing_printable

cookie_sound : (cookie : Cookie) → SoundCookie cookie → IsSoundHeader (cookie_header cookie)
unfolding cookie_text
cookie_sound cookie sound =
    header_sound (codes "Set-Cookie") _ (printable_of (codes "Set-Cookie") refl)
    (both_printable (both_printable (both_printable (both_printable (both_printable (both_printable
    (url_printable cookie.name) (printable_of (codes "=") refl)) (value_printable cookie.value))
    (printable_of (codes "; path=") refl)) sound.path) (domain_printable cookie.domain sound.domain))
    (secure_printable cookie.secure))

-- ---- other fields

charset_printable : (charset : List ℕ) → IsPrintable charset → IsPrintable (charset_text charset)
charset_printable [] printable = nothing_printable
charset_printable (first ∷ charset) printable = both_printable (printable_of (codes "; Charset=") refl) printable

said_or : (said : Option (List ℕ)) (other : List ℕ) → ArePrintable said → IsPrintable other
    → IsPrintable (unwrap_or said other)
said_or None other printable stands = stands
said_or (Some text) other printable stands = printable

location_sound : (location : Option (List ℕ)) → ArePrintable location → AreSound (location_headers location)
location_sound None printable = none_sound
location_sound (Some url) printable = one_sound (codes "Location") url (printable_of (codes "Location") refl) printable

session_sound : (letters : Option (List ℕ)) → ArePrintable letters → AreSound (session_headers letters)
session_sound None printable = none_sound
session_sound (Some letters) printable =
    one_sound (codes "Set-Cookie") (session_text letters) (printable_of (codes "Set-Cookie") refl)
    (both_printable (both_printable (printable_of (codes "ASPSESSIONIDPROFILE=") refl) printable)
    (printable_of (codes "; path=/") refl))

headers_sound : (draft : Draft) (letters : Option (List ℕ)) → SoundDraft draft → ArePrintable letters
    → AreSound (headers_of draft letters)
unfolding headers_of
headers_sound draft letters sound printable =
    let said = both_printable
    (said_or draft.content_type (codes "text/html") sound.content_type (printable_of (codes "text/html") refl))
    (charset_printable (unwrap_or draft.charset (codes "utf-8"))
    (said_or draft.charset (codes "utf-8") sound.charset (printable_of (codes "utf-8") refl))) in
    let type_sound : AreSound (header (codes "Content-Type") (type_of draft.content_type draft.charset) ∷ []) =
    one_sound (codes "Content-Type") (type_of draft.content_type draft.charset) (printable_of (codes "Content-Type") refl) said in
    let cookies_sound : AreSound (map cookie_header draft.cookies) = record {
      each = All-map IsSoundHeader cookie_header draft.cookies
          (All-weaker SoundCookie (λ cookie. IsSoundHeader (cookie_header cookie)) cookie_sound draft.cookies
          sound.cookies);
    } in
    let added_sound : AreSound draft.added = record { each = sound.added } in
    let cache_sound = one_sound (codes "Cache-control") (unwrap_or draft.cache (codes "private"))
    (printable_of (codes "Cache-control") refl)
    (said_or draft.cache (codes "private") sound.cache (printable_of (codes "private") refl)) in
    both_sound (both_sound
    (both_sound (both_sound (both_sound type_sound (location_sound draft.location sound.location))
    (session_sound letters printable)) cookies_sound) added_sound) cache_sound

status_sound : (set : Option Status) (failed : Bool) → IfSome set (λ status. IsPrintable status.reason)
    → IsPrintable (status_of set failed).reason
status_sound set true printable = reason_printable 500
status_sound None false printable = reason_printable 200
status_sound (Some status) false printable = printable

pub finished_sound : (draft : Draft) (letters failure : Option (List ℕ)) (head_only close : Bool)
    → SoundDraft draft → ArePrintable letters → IsSound (finished draft letters failure head_only close)
finished_sound draft letters failure head_only close sound printable = record {
  reason = status_sound draft.status (is_some failure) sound.status;
  headers = (headers_sound draft letters sound printable).each;
}

-- ---- the fixed answers

plain_sound : AreSound (plain_header ∷ [])
plain_sound = one_sound (codes "Content-Type") (codes "text/plain") (printable_of (codes "Content-Type") refl)
    (printable_of (codes "text/plain") refl)

pub status_answer_sound : (status : ℕ) (head_only close : Bool) → IsSound (status_answer_of status head_only close)
status_answer_sound status head_only close = record { reason = reason_printable status; headers = plain_sound.each }

allow_sound : (page : Bool) → AreSound (header (codes "Allow") (allowed page) ∷ [])
allow_sound true = one_sound (codes "Allow") (allowed true) (printable_of (codes "Allow") refl)
    (printable_of (codes "GET, HEAD, POST") refl)
allow_sound false = one_sound (codes "Allow") (allowed false) (printable_of (codes "Allow") refl)
    (printable_of (codes "GET, HEAD") refl)

pub not_allowed_sound : (page head_only close : Bool) → IsSound (not_allowed_of page head_only close)
not_allowed_sound page head_only close = record {
  reason = reason_printable 405;
  headers = (both_sound plain_sound (allow_sound page)).each;
}

pub unavailable_sound : (cause : Unavailable) (head_only close : Bool) → IsSound (unavailable_of cause head_only close)
unavailable_sound cause head_only close = record { reason = reason_printable 503; headers = plain_sound.each }
