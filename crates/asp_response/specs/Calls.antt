-- What a page can say of its answer by any list of calls.
use Rattle.std.specs.Prelude.{ℕ, Bool, true, List, [], ◌∷◌, Ok, Err, is_some}
use Rattle.asp_response.specs.declared.cookie.CookiePart.{CookiePart}
use Rattle.asp_response.specs.View.{Draft}
use Rattle.asp_response.specs.Draft.{Done, no_draft, write_answer, written, cleared, flushed, buffered, head_answer}
use Rattle.asp_response.specs.Draft.{with_status, with_content_type, with_charset, with_cache, with_header, header_answer}
use Rattle.asp_response.specs.Draft.{with_cookie_text, with_cookie_part, with_cookie_secure, redirected}
use Rattle.asp_response.specs.Draft.{redirect_answer}
use Rattle.asp_response.specs.Head.{is_value, status_in}

-- the calls on a draft, with what they are given
pub data DraftCall : Type 0 where
  Write : List ℕ → DraftCall
  Clear : DraftCall
  Flush : DraftCall
  Buffer : Bool → DraftCall
  Status : List ℕ → DraftCall
  ContentType : List ℕ → DraftCall
  Charset : List ℕ → DraftCall
  Cache : List ℕ → DraftCall
  Field : List ℕ → List ℕ → DraftCall
  Cookie : List ℕ → List ℕ → List ℕ → DraftCall
  Part : List ℕ → CookiePart → List ℕ → DraftCall
  Secure : List ℕ → Bool → DraftCall
  Redirect : List ℕ → DraftCall

-- what a call answers
abbrev pub answer_to : DraftCall → Draft → Done
answer_to (Write text) draft = write_answer text draft
answer_to Clear draft = Ok tt
answer_to Flush draft = Ok tt
answer_to (Buffer on) draft = Ok tt
answer_to (Status text) draft = head_answer (is_some (status_in text)) (with_status text draft) draft
answer_to (ContentType text) draft = head_answer (is_value text) (with_content_type text draft) draft
answer_to (Charset text) draft = head_answer (is_value text) (with_charset text draft) draft
answer_to (Cache text) draft = head_answer (is_value text) (with_cache text draft) draft
answer_to (Field name text) draft = header_answer name text draft
answer_to (Cookie name key text) draft = head_answer true (with_cookie_text name key text draft) draft
answer_to (Part name of text) draft = head_answer (is_value text) (with_cookie_part name of text draft) draft
answer_to (Secure name on) draft = head_answer true (with_cookie_secure name on draft) draft
answer_to (Redirect url) draft = redirect_answer url draft

-- what a call that is done makes of the draft
abbrev pub made_by : DraftCall → Draft → Draft
made_by (Write text) = written text
made_by Clear = cleared
made_by Flush = flushed
made_by (Buffer on) = buffered on
made_by (Status text) = with_status text
made_by (ContentType text) = with_content_type text
made_by (Charset text) = with_charset text
made_by (Cache text) = with_cache text
made_by (Field name text) = with_header name text
made_by (Cookie name key text) = with_cookie_text name key text
made_by (Part name of text) = with_cookie_part name of text
made_by (Secure name on) = with_cookie_secure name on
made_by (Redirect url) = redirected url

-- the new draft, where the call is done, else the old one
abbrev pub where_done : Done → Draft → Draft → Draft
where_done (Ok done) new old = new
where_done (Err stop) new old = old

-- the draft after a call: one that is refused changes nothing
abbrev pub after : DraftCall → Draft → Draft
after call draft = where_done (answer_to call draft) (made_by call draft) draft

-- the draft after these calls of a page, the last of them first
unfoldable pub said_by : List DraftCall → Draft
said_by [] = no_draft
said_by (call ∷ earlier) = after call (said_by earlier)
