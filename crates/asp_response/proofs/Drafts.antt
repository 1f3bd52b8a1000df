-- What a page says makes a sound draft, whatever its calls are.
use Rattle.std.proofs.Common.{◌≡◌, ℕ, suc, zero, Bool, true, false, List, [], ◌∷◌, ◌++◌, length, refl}
use Rattle.std.proofs.Common.{subst}
use Rattle.std.proofs.Common.{Option, Some, None, Ok, Err, option_map, take, arith}
use Rattle.std.specs.Prelude.{IfSome, ◌==◌, ◌&&◌, not, nat_lt, codes, encode_utf8_all, is_some}
use Rattle.std.specs.Prelude.{slice_index_or}
use Rattle.std.specs.Char.{is_ascii_alphanumeric}
use Rattle.std.specs.List.{All, list_all, list_any}
use Rattle.std.proofs.lemmas.Bool.{cond_both}
use Rattle.std.proofs.lemmas.Bool.Decides.{nat_tests}
use Rattle.std.proofs.lemmas.List.Elements.{All-nil, All-cons, All-append, All-head, All-tail, All-set}
use Rattle.asp_response.specs.declared.cookie.Cookie.{Cookie}
use Rattle.asp_response.specs.declared.cookie.CookiePart.{CookiePart}
use Rattle.asp_response.specs.declared.cookie.CookiePart.TheVariants as part
use Rattle.asp_response.specs.View.{Draft}
use Rattle.asp_response.specs.declared.status.Status.{Status}
use Rattle.asp_response.specs.Calls.{DraftCall, Write, Clear, Flush, Buffer, Status as SetStatus, ContentType}
use Rattle.asp_response.specs.Calls.{Charset, Cache}
use Rattle.asp_response.specs.Calls.{Field, Cookie as SetCookie, Part, Redirect, Secure, after, said_by, where_done}
use Rattle.asp_response.specs.Cookies.{new_cookie, place_of, put_at, with_part, with_secure, with_value}
use Rattle.asp_response.specs.Draft.{Done, both, change_answer, fixed, redirected, settled, write_answer, written}
use Rattle.asp_response.specs.Draft.{with_cookie_text, with_cookie_part, with_cookie_secure, with_header}
use Rattle.asp_response.specs.Head.{code_in, is_printable, is_reserved, is_token, is_token_character, is_value}
use Rattle.asp_response.specs.Head.{status_in}
use Rattle.asp_response.specs.Sound.{ArePrintable, IsGraphic, IsPrintable, IsSoundHeader}
use Rattle.asp_response.proofs.Printable.{character_graphic, left_true, nothing_printable, one_more, printable_of}
use Rattle.asp_response.proofs.Printable.{right_true, utf8_printable}

-- a cookie whose path and domain are printable; the other parts are written as a URL has them
pub record SoundCookie (cookie : Cookie) : Type 0 where
  pub path : IsPrintable cookie.path
  pub domain : IsPrintable cookie.domain

-- what was said of the head is printable
pub record SoundDraft (draft : Draft) : Type 0 where
  pub status : IfSome draft.status (λ status. IsPrintable status.reason)
  pub content_type : ArePrintable draft.content_type
  pub charset : ArePrintable draft.charset
  pub cache : ArePrintable draft.cache
  pub location : ArePrintable draft.location
  pub cookies : All SoundCookie draft.cookies
  pub added : All IsSoundHeader draft.added

-- ---- what a call is given

-- one of some marks
among : (marks : List ℕ) (c : ℕ) → is_value marks ≡ true → list_any (λ mark. mark == c) marks ≡ true → IsGraphic c
among [] c printable found = cc
among (mark ∷ marks) c printable found =
    let first = character_graphic mark (left_true (is_printable mark) (is_value marks) printable) in
    let rest = among marks c (right_true (is_printable mark) (is_value marks) printable) in
    elim (mark == c) as (λ here. mark == c ≡ here → IsGraphic c) [
      | true ↦ λ here. let same : mark ≡ c = grind (arith, nat_tests) in subst IsGraphic same first
      | false ↦ λ here. rest (rw here at found)
    ] refl

token_graphic : (c : ℕ) → is_token_character c ≡ true → IsGraphic c
unfolding is_token_character
token_graphic c met =
    elim (is_ascii_alphanumeric c) as (λ letter. is_ascii_alphanumeric c ≡ letter → IsGraphic c) [
      | true ↦ λ letter. record { least = grind (arith, nat_tests); most = grind (arith, nat_tests) }
      | false ↦ λ other. among (codes "!#$%&'*+-.^_`|~") c refl (rw other at met)
    ] refl

tokens_printable : (name : List ℕ) → list_all is_token_character name ≡ true → IsPrintable name
tokens_printable [] met = nothing_printable
tokens_printable (c ∷ name) met =
    one_more (token_graphic c (left_true (is_token_character c) (list_all is_token_character name) met))
    (tokens_printable name (right_true (is_token_character c) (list_all is_token_character name) met))

token_printable : (name : List ℕ) → is_token name ≡ true → IsPrintable name
token_printable name met =
    tokens_printable name (right_true (nat_lt 0 (length name)) (list_all is_token_character name) met)

-- the reason beside a code, where there is one
reason_beside : (code : Option ℕ) (reason : List ℕ) → IsPrintable reason
    → IfSome (option_map (λ number. record { code = number; reason = reason }) code)
    (λ (status : Status). IsPrintable status.reason)
reason_beside None reason printable = tt
reason_beside (Some number) reason printable = printable

status_printable : (text : List ℕ) → IfSome (status_in text) (λ status. IsPrintable status.reason)
unfolding status_in
status_printable [] = tt
status_printable (a ∷ []) = tt
status_printable (a ∷ b ∷ []) = tt
status_printable (a ∷ b ∷ c ∷ []) = tt
status_printable (a ∷ b ∷ c ∷ space ∷ []) = tt
status_printable (a ∷ b ∷ c ∷ space ∷ first ∷ reason) =
    cond_both ((space == 32) && is_value (first ∷ reason))
    (option_map (λ code. record { code = code; reason = first ∷ reason }) (code_in a b c)) None
    (λ (said : Option Status). IfSome said (λ status. IsPrintable status.reason))
    (λ met. reason_beside (code_in a b c) (first ∷ reason)
    (printable_of (first ∷ reason) (right_true (space == 32) (is_value (first ∷ reason)) met)))
    (λ other. tt)

-- ---- cookies

-- what a list has at a place, or what stands for it
item_or : (cookies : List Cookie) (at : ℕ) (new : Cookie) → All SoundCookie cookies → SoundCookie new
    → SoundCookie (slice_index_or cookies at new)
item_or [] at new sound made = made
item_or (cookie ∷ cookies) zero new sound made = All-head SoundCookie cookie cookies sound
item_or (cookie ∷ cookies) (suc at) new sound made =
    item_or cookies at new (All-tail SoundCookie cookie cookies sound) made

new_sound : (name : List ℕ) → SoundCookie (new_cookie name)
new_sound name = record { path = printable_of (codes "/") refl; domain = nothing_printable }

put_sound : (place : Option ℕ) (change : Cookie → Cookie) (new : Cookie) (cookies : List Cookie)
    → ((cookie : Cookie) → SoundCookie cookie → SoundCookie (change cookie))
    → SoundCookie new → All SoundCookie cookies → All SoundCookie (put_at place change new cookies)
put_sound None change new cookies keeps made sound =
    All-append SoundCookie cookies (change new ∷ []) sound
    (All-cons SoundCookie (change new) [] (keeps new made) (All-nil SoundCookie))
put_sound (Some at) change new cookies keeps made sound =
    All-set SoundCookie cookies at (change (slice_index_or cookies at new))
    (keeps (slice_index_or cookies at new) (item_or cookies at new sound made)) sound

part_sound : (of : CookiePart) (text : List ℕ) → is_value text ≡ true → (cookie : Cookie) → SoundCookie cookie
    → SoundCookie (with_part of text cookie)
part_sound part.Path text fits cookie sound = record { path = printable_of text fits; domain = sound.domain }
part_sound part.Domain text fits cookie sound = record { path = sound.path; domain = printable_of text fits }

-- ---- what a call leaves

-- a call that is done or refused
either : (answer : Done) (new old : Draft) → SoundDraft new → SoundDraft old → SoundDraft (where_done answer new old)
either (Ok done) new old made sound = made
either (Err stop) new old made sound = sound

-- a change of the head, which is done only where what is set fits, and whatever is asked behind it
changed : (fits sent : Bool) (answer : Done) (new old : Draft) → (fits ≡ true → SoundDraft new) → SoundDraft old
    → SoundDraft (where_done (both (change_answer fits sent) answer) new old)
changed false sent answer new old made sound = sound
changed true true answer new old made sound = sound
changed true false answer new old made sound = either answer new old (made refl) sound

moved : (fits sent : Bool) (answer last : Done) (new old : Draft) → (fits ≡ true → SoundDraft new) → SoundDraft old
    → SoundDraft (where_done (both (both (change_answer fits sent) answer) last) new old)
moved false sent answer last new old made sound = sound
moved true true answer last new old made sound = sound
moved true false (Ok done) last new old made sound = either last new old (made refl) sound
moved true false (Err refused) last new old made sound = sound

-- another body, and what is said of it
with_body : (draft : Draft) (body : List ℕ) (count : ℕ) (sent buffer : Bool) → SoundDraft draft
    → SoundDraft (record draft { body = body; flushed = count; sent = sent; buffer = buffer })
with_body draft body count sent buffer sound = record {
  status = sound.status;
  content_type = sound.content_type;
  charset = sound.charset;
  cache = sound.cache;
  location = sound.location;
  cookies = sound.cookies;
  added = sound.added;
}

written_sound : (text : List ℕ) (draft : Draft) → SoundDraft draft → SoundDraft (written text draft)
written_sound text draft sound =
    let more = record draft { body = draft.body ++ encode_utf8_all text } in
    let kept : SoundDraft more = with_body draft more.body draft.flushed draft.sent draft.buffer sound in
    cond_both (is_some draft.location) draft (settled more) SoundDraft (λ has. sound)
    (λ none. cond_both more.buffer more (fixed more) SoundDraft (λ on. kept)
    (λ off. with_body draft more.body (length more.body) true draft.buffer sound))

after_sound : (call : DraftCall) (draft : Draft) → SoundDraft draft → SoundDraft (after call draft)
after_sound (Write text) draft sound = either (write_answer text draft) (written text draft) draft
    (written_sound text draft sound) sound
after_sound Clear draft sound =
    cond_both (is_some draft.location) draft (record draft { body = take draft.flushed draft.body }) SoundDraft
    (λ has. sound)
    (λ none. with_body draft (take draft.flushed draft.body) draft.flushed draft.sent draft.buffer sound)
after_sound Flush draft sound =
    cond_both (is_some draft.location) draft (fixed draft) SoundDraft (λ has. sound)
    (λ none. with_body draft draft.body (length draft.body) true draft.buffer sound)
after_sound (Buffer on) draft sound = with_body draft draft.body draft.flushed draft.sent on sound
after_sound (SetStatus text) draft sound = changed (is_some (status_in text)) draft.sent _ _ draft (λ fits. record {
  status = status_printable text;
  content_type = sound.content_type;
  charset = sound.charset;
  cache = sound.cache;
  location = sound.location;
  cookies = sound.cookies;
  added = sound.added;
}) sound
after_sound (ContentType text) draft sound = changed (is_value text) draft.sent _ _ draft (λ fits. record {
  status = sound.status;
  content_type = printable_of text fits;
  charset = sound.charset;
  cache = sound.cache;
  location = sound.location;
  cookies = sound.cookies;
  added = sound.added;
}) sound
after_sound (Charset text) draft sound = changed (is_value text) draft.sent _ _ draft (λ fits. record {
  status = sound.status;
  content_type = sound.content_type;
  charset = printable_of text fits;
  cache = sound.cache;
  location = sound.location;
  cookies = sound.cookies;
  added = sound.added;
}) sound
after_sound (Cache text) draft sound = changed (is_value text) draft.sent _ _ draft (λ fits. record {
  status = sound.status;
  content_type = sound.content_type;
  charset = sound.charset;
  cache = printable_of text fits;
  location = sound.location;
  cookies = sound.cookies;
  added = sound.added;
}) sound
after_sound (Field name text) draft sound =
    let named = is_token name && not (is_reserved name) in
    changed (named && is_value text) draft.sent _ (with_header name text draft) draft (λ fits. record {
      status = sound.status;
      content_type = sound.content_type;
      charset = sound.charset;
      cache = sound.cache;
      location = sound.location;
      cookies = sound.cookies;
      added = All-append IsSoundHeader draft.added (record { name = name; value = encode_utf8_all text } ∷ [])
          sound.added
          (All-cons IsSoundHeader (record { name = name; value = encode_utf8_all text }) [] record {
            name = token_printable name
                (left_true (is_token name) (not (is_reserved name)) (left_true named (is_value text) fits));
            value = utf8_printable (printable_of text (right_true named (is_value text) fits));
          } (All-nil IsSoundHeader));
    }) sound
after_sound (SetCookie name key text) draft sound =
    changed true draft.sent _ (with_cookie_text name key text draft) draft (λ fits. record {
      status = sound.status;
      content_type = sound.content_type;
      charset = sound.charset;
      cache = sound.cache;
      location = sound.location;
      added = sound.added;
      cookies = put_sound (place_of name draft.cookies) (with_value key text) (new_cookie name) draft.cookies
          (λ cookie was. record { path = was.path; domain = was.domain }) (new_sound name) sound.cookies;
    }) sound
after_sound (Part name of text) draft sound =
    changed (is_value text) draft.sent _ (with_cookie_part name of text draft) draft (λ fits. record {
      status = sound.status;
      content_type = sound.content_type;
      charset = sound.charset;
      cache = sound.cache;
      location = sound.location;
      added = sound.added;
      cookies = put_sound (place_of name draft.cookies) (with_part of text) (new_cookie name) draft.cookies
          (part_sound of text fits) (new_sound name) sound.cookies;
    }) sound
after_sound (Secure name on) draft sound =
    changed true draft.sent _ (with_cookie_secure name on draft) draft (λ fits. record {
      status = sound.status;
      content_type = sound.content_type;
      charset = sound.charset;
      cache = sound.cache;
      location = sound.location;
      added = sound.added;
      cookies = put_sound (place_of name draft.cookies) (with_secure on) (new_cookie name) draft.cookies
          (λ cookie was. record { path = was.path; domain = was.domain }) (new_sound name) sound.cookies;
    }) sound
after_sound (Redirect url) draft sound =
    moved (is_value url) draft.sent _ _ (redirected url draft) draft (λ fits. record {
      status = printable_of (codes "Object moved") refl;
      content_type = sound.content_type;
      charset = sound.charset;
      cache = sound.cache;
      location = printable_of url fits;
      cookies = sound.cookies;
      added = sound.added;
    }) sound

pub said_sound : (calls : List DraftCall) → SoundDraft (said_by calls)
unfolding said_by
said_sound [] = record {
  status = tt;
  content_type = tt;
  charset = tt;
  cache = tt;
  location = tt;
  cookies = All-nil SoundCookie;
  added = All-nil IsSoundHeader;
}
said_sound (call ∷ earlier) = after_sound call (said_by earlier) (said_sound earlier)
