-- What a page has said of its answer, and what each call of the Response object makes of it (ASP 3.0, "Response Object").
use Rattle.std.specs.Prelude.{ℕ, Bool, true, false, not, ◌&&◌, nat_lt, ◌+◌, if◌then◌else◌, List, [], ◌∷◌}
use Rattle.std.specs.Prelude.{◌++◌, length, take, Some, None, is_some, Result, Ok, Err, codes}
use Rattle.std.specs.Prelude.{encode_utf8_all, pos}
use Rattle.asp_text.specs.Html.{html_encoded}
use Rattle.vb_value.specs.declared.limit.LimitKind.TheVariants.{Body}
use Rattle.asp_response.specs.declared.cookie.CookiePart.{CookiePart}
use Rattle.asp_response.specs.View.{Draft}
use Rattle.asp_response.specs.declared.stop.DraftStop.{DraftStop}
use Rattle.asp_response.specs.declared.stop.DraftStop.TheVariants as stop
use Rattle.asp_response.specs.Cookies.{with_cookie, with_value, with_part, with_secure}
use Rattle.asp_response.specs.Head.{is_value, is_token, is_reserved, status_in}
use Rattle.asp_response.specs.HeadSize.{head_size, head_within}

-- the answer of a call that was done, and of one that was refused
abbrev pub Done : Type 0
Done = Result (Unit {0}) DraftStop

-- what a page begins with: nothing is said
abbrev pub no_draft : Draft
no_draft = record {
  body = [];
  flushed = 0;
  sent = false;
  buffer = true;
  status = None;
  content_type = None;
  charset = None;
  cache = None;
  location = None;
  cookies = [];
  added = [];
}

-- ---- the body

-- whether a body of so many bytes may be
abbrev pub body_answer : ℕ → Done
body_answer count = if nat_lt 4194304 count then Err (stop.Limit Body) else Ok tt

-- Flush: the body so far is fixed
abbrev pub fixed : Draft → Draft
fixed draft = record draft { flushed = length draft.body; sent = true }

-- after Write, where nothing is kept back
abbrev pub settled : Draft → Draft
settled draft = if draft.buffer then draft else fixed draft

-- Write: the text's UTF-8 comes behind the body. After Redirect nothing is done.
abbrev pub written : List ℕ → Draft → Draft
written text draft = if is_some draft.location then draft
    else settled (record draft { body = draft.body ++ encode_utf8_all text })

abbrev pub write_answer : List ℕ → Draft → Done
write_answer text draft = if is_some draft.location then Ok tt
    else body_answer (length draft.body + length (encode_utf8_all text))

-- Clear: what is not fixed goes
abbrev pub cleared : Draft → Draft
cleared draft = if is_some draft.location then draft else record draft { body = take draft.flushed draft.body }

-- Flush
abbrev pub flushed : Draft → Draft
flushed draft = if is_some draft.location then draft else fixed draft

-- Buffer
abbrev pub buffered : Bool → Draft → Draft
buffered on draft = record draft { buffer = on }

-- ---- the head

-- a size that the head may have, and why it may not
abbrev pub done : Result ℕ DraftStop → Done
done (Ok size) = Ok tt
done (Err refused) = Err refused

-- two answers: the second counts where the first refuses nothing
abbrev pub both : Done → Done → Done
both (Ok done) second = second
both (Err refused) second = Err refused

-- error 5 where what is set does not fit, and then error 1156 after Flush
abbrev pub change_answer : Bool → Bool → Done
change_answer fits sent = if not fits then Err (stop.Error (pos 5))
    else (if sent then Err (stop.Error (pos 1156)) else Ok tt)

-- a change of the head: those errors, and then the limit Body where the page's own lines would pass 65,536 bytes
abbrev pub head_answer : Bool → Draft → Draft → Done
head_answer fits changed draft = both (change_answer fits draft.sent) (done (head_within (head_size changed)))

-- Status
abbrev pub with_status : List ℕ → Draft → Draft
with_status text draft = record draft { status = status_in text }

-- ContentType
abbrev pub with_content_type : List ℕ → Draft → Draft
with_content_type text draft = record draft { content_type = Some text }

-- Charset
abbrev pub with_charset : List ℕ → Draft → Draft
with_charset text draft = record draft { charset = Some text }

-- CacheControl
abbrev pub with_cache : List ℕ → Draft → Draft
with_cache text draft = record draft { cache = Some text }

-- AddHeader
abbrev pub with_header : List ℕ → List ℕ → Draft → Draft
with_header name text draft =
    record draft { added = draft.added ++ record { name = name; value = encode_utf8_all text } ∷ [] }

abbrev pub header_answer : List ℕ → List ℕ → Draft → Done
header_answer name text draft =
    head_answer (is_token name && not (is_reserved name) && is_value text) (with_header name text draft) draft

-- a cookie, and a part of one
abbrev pub with_cookie_text : List ℕ → List ℕ → List ℕ → Draft → Draft
with_cookie_text name key text draft = record draft { cookies = with_cookie name (with_value key text) draft.cookies }

abbrev pub with_cookie_part : List ℕ → CookiePart → List ℕ → Draft → Draft
with_cookie_part name of text draft = record draft { cookies = with_cookie name (with_part of text) draft.cookies }

abbrev pub with_cookie_secure : List ℕ → Bool → Draft → Draft
with_cookie_secure name on draft = record draft { cookies = with_cookie name (with_secure on) draft.cookies }

-- ---- Redirect

-- the body of an answer that leads elsewhere
abbrev pub moved_body : List ℕ → List ℕ
moved_body url = codes "<a href=\"" ++ encode_utf8_all (html_encoded url) ++ codes "\">Object moved</a>\n"

abbrev pub redirected : List ℕ → Draft → Draft
redirected url draft = record draft {
  body = moved_body url;
  flushed = 0;
  location = Some url;
  status = Some (record { code = 302; reason = codes "Object moved" });
}

-- its refusals: those of the head, then the body's length
abbrev pub redirect_answer : List ℕ → Draft → Done
redirect_answer url draft =
    both (head_answer (is_value url) (redirected url draft) draft) (body_answer (length (moved_body url)))
