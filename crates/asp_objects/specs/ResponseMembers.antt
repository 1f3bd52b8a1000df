-- The members of Response (ASP 3.0, "Response Object"). What each call makes of the draft, and its refusals, are those
-- of the draft: error 5 for a text that may not stand where it should, error 1156 for a change of the head after Flush,
-- and the limit Body of the body and of the head. An argument that is no text is made one, and the error of that comes
-- before them.
use Rattle.std.specs.Prelude.{ℕ, Bool, true, List, [], ◌∷◌, is_some, codes, Result, Ok, Err}
use Rattle.vb_value.specs.declared.value.Value.{Value, Null, Str, Bool as Boolean}
use Rattle.vb_value.specs.Errors.{object_required, unsupported}
use Rattle.vb_syntax.specs.declared.act.AskStop.{AskStop}
use Rattle.vb_syntax.specs.declared.act.AskStop.TheVariants as why
use Rattle.asp_response.specs.declared.cookie.CookiePart.{CookiePart}
use Rattle.asp_response.specs.View.{Draft}
use Rattle.asp_response.specs.Draft as draft
use Rattle.asp_response.specs.Head.{is_value, status_in}
use Rattle.asp_objects.specs.declared.head.HeadPart.{HeadPart}
use Rattle.asp_objects.specs.declared.head.HeadPart.TheVariants as head
use Rattle.asp_objects.specs.declared.objects.PageObjects.{PageObjects}
use Rattle.asp_objects.specs.Given.{failed, text_in, truth_in, value}
use Rattle.asp_objects.specs.Said.{Said, told, using_it, became, drafted, stopping}

-- the objects with another draft
abbrev pub with_draft : Draft → PageObjects → PageObjects
with_draft changed objects = record objects { draft = changed }

-- ---- the body

-- a value as Write writes it: nothing for Null
abbrev pub written_text : Value → Result (List ℕ) AskStop
written_text Null = Ok []
written_text what = text_in what

-- Write
abbrev pub wrote : List ℕ → PageObjects → Said
wrote text objects =
    drafted (draft.write_answer text objects.draft) (with_draft (draft.written text objects.draft) objects) objects

-- Clear and Flush
abbrev pub cleared : PageObjects → Said
cleared objects = became (with_draft (draft.cleared objects.draft) objects)

abbrev pub flushed : PageObjects → Said
flushed objects = became (with_draft (draft.flushed objects.draft) objects)

-- Buffer
abbrev pub buffered : Bool → PageObjects → Said
buffered on objects = became (record objects { draft = draft.buffered on objects.draft; buffer = on })

-- Redirect: it stops the page
abbrev pub redirected : List ℕ → PageObjects → Said
redirected url objects = stopping (draft.redirect_answer url objects.draft)
    (record objects { draft = draft.redirected url objects.draft; status = codes "302 Object moved" }) objects

-- Write
abbrev pub write_asked : List Value → PageObjects → Said
write_asked (what ∷ []) objects = using_it (written_text what) wrote objects
write_asked _ objects = told (failed object_required) objects

-- Buffer is read, or set
abbrev pub buffer_asked : List Value → PageObjects → Said
buffer_asked [] objects = told (value (Boolean objects.buffer)) objects
buffer_asked (on ∷ []) objects = using_it (truth_in on) buffered objects
buffer_asked _ objects = told (failed object_required) objects

-- Redirect
abbrev pub redirect_asked : List Value → PageObjects → Said
redirect_asked (url ∷ []) objects = using_it (text_in url) redirected objects
redirect_asked _ objects = told (failed object_required) objects

-- ---- the head

-- a text that was set, as it is read, and how the draft then is
abbrev pub with_content_type : List ℕ → PageObjects → Said
with_content_type text objects =
    let changed = draft.with_content_type text objects.draft in
    drafted (draft.head_answer (is_value text) changed objects.draft)
    (record objects { draft = changed; content_type = text }) objects

abbrev pub with_charset : List ℕ → PageObjects → Said
with_charset text objects =
    let changed = draft.with_charset text objects.draft in
    drafted (draft.head_answer (is_value text) changed objects.draft)
    (record objects { draft = changed; charset = text }) objects

abbrev pub with_cache : List ℕ → PageObjects → Said
with_cache text objects =
    let changed = draft.with_cache text objects.draft in
    drafted (draft.head_answer (is_value text) changed objects.draft)
    (record objects { draft = changed; cache = text }) objects

abbrev pub with_status : List ℕ → PageObjects → Said
with_status text objects =
    let changed = draft.with_status text objects.draft in
    drafted (draft.head_answer (is_some (status_in text)) changed objects.draft)
    (record objects { draft = changed; status = text }) objects

-- AddHeader
abbrev pub with_header : List ℕ → List ℕ → PageObjects → Said
with_header name text objects = drafted (draft.header_answer name text objects.draft)
    (with_draft (draft.with_header name text objects.draft) objects) objects

-- a property that is read: what was set, else `text/html`, `utf-8`, `200 OK` and `private`
abbrev pub head_read : HeadPart → PageObjects → List ℕ
head_read head.ContentType objects = objects.content_type
head_read head.Charset objects = objects.charset
head_read head.Status objects = objects.status
head_read head.CacheControl objects = objects.cache

-- a property that is set
abbrev pub head_set : HeadPart → List ℕ → PageObjects → Said
head_set head.ContentType text objects = with_content_type text objects
head_set head.Charset text objects = with_charset text objects
head_set head.Status text objects = with_status text objects
head_set head.CacheControl text objects = with_cache text objects

-- a property is read, or set
abbrev pub head_asked : HeadPart → List Value → PageObjects → Said
head_asked of [] objects = told (value (Str (head_read of objects))) objects
head_asked of (text ∷ []) objects = using_it (text_in text) (head_set of) objects
head_asked of _ objects = told (failed object_required) objects

-- AddHeader
abbrev pub header_asked : List Value → PageObjects → Said
header_asked (name ∷ text ∷ []) objects =
    using_it (text_in name) (λ named. using_it (text_in text) (with_header named)) objects
header_asked _ objects = told (failed object_required) objects

-- ---- cookies

-- the text of a cookie, or the one beside a key
abbrev pub with_cookie : List ℕ → List ℕ → List ℕ → PageObjects → Said
with_cookie name key text objects =
    let changed = draft.with_cookie_text name key text objects.draft in
    drafted (draft.head_answer true changed objects.draft) (with_draft changed objects) objects

-- a part of a cookie
abbrev pub with_part : CookiePart → List ℕ → List ℕ → PageObjects → Said
with_part of name text objects =
    let changed = draft.with_cookie_part name of text objects.draft in
    drafted (draft.head_answer (is_value text) changed objects.draft) (with_draft changed objects) objects

-- whether a cookie is sent over secure connections alone
abbrev pub with_secure : List ℕ → Bool → PageObjects → Said
with_secure name on objects =
    let changed = draft.with_cookie_secure name on objects.draft in
    drafted (draft.head_answer true changed objects.draft) (with_draft changed objects) objects

-- What is asked of a cookie: its text, the text beside a key, or a part is set. Reading one is not supported.
abbrev pub cookie_asked : List Value → PageObjects → Said
cookie_asked (name ∷ text ∷ []) objects =
    using_it (text_in name) (λ named. using_it (text_in text) (with_cookie named [])) objects
cookie_asked _ objects = told (failed unsupported) objects

abbrev pub pair_asked : List Value → PageObjects → Said
pair_asked (name ∷ key ∷ text ∷ []) objects =
    using_it (text_in name) (λ named. using_it (text_in key) (λ keyed.
    using_it (text_in text) (with_cookie named keyed))) objects
pair_asked _ objects = told (failed unsupported) objects

abbrev pub part_asked : CookiePart → List Value → PageObjects → Said
part_asked of (name ∷ text ∷ []) objects =
    using_it (text_in name) (λ named. using_it (text_in text) (with_part of named)) objects
part_asked of _ objects = told (failed unsupported) objects

abbrev pub secure_asked : List Value → PageObjects → Said
secure_asked (name ∷ on ∷ []) objects =
    using_it (text_in name) (λ named. using_it (truth_in on) (with_secure named)) objects
secure_asked _ objects = told (failed unsupported) objects
