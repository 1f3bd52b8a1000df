-- What a page's objects have said of its answer is said by calls on its draft.
use Rattle.std.proofs.Common.{ℕ, ◌≡◌, ◌∙◌, Bool, true, false, not, ◌&&◌, if◌then◌else◌, List, [], ◌∷◌, Option, Some, None}
use Rattle.std.proofs.Common.{Result, Ok, Err, refl, sym, ap}
use Rattle.vb_value.specs.declared.value.Value.{Value}
use Rattle.vb_value.specs.Errors.{object_required}
use Rattle.vb_syntax.specs.declared.act.AskStop.{AskStop}
use Rattle.vb_syntax.specs.declared.member.Member.{Member}
use Rattle.vb_syntax.specs.declared.member.Member.TheVariants as member
use Rattle.asp_job.specs.declared.session.SessionState.{SessionState}
use Rattle.asp_response.specs.declared.cookie.CookiePart.{CookiePart}
use Rattle.asp_response.specs.declared.cookie.CookiePart.TheVariants as cookie
use Rattle.asp_response.specs.View.{Draft}
use Rattle.asp_response.specs.Calls.{Buffer, Cache, Charset, Clear, ContentType, Cookie, DraftCall, Field, Flush, Part}
use Rattle.asp_response.specs.Calls.{Secure}
use Rattle.asp_response.specs.Calls.{Redirect, Status, Write, after, answer_to, made_by, said_by, where_done}
use Rattle.asp_response.specs.Draft.{Done}
use Rattle.asp_objects.specs.declared.head.HeadPart.{HeadPart}
use Rattle.asp_objects.specs.declared.head.HeadPart.TheVariants as head
use Rattle.asp_objects.specs.declared.objects.PageObjects.{PageObjects}
use Rattle.asp_objects.specs.declared.server.ServerText.{ServerText}
use Rattle.asp_objects.specs.declared.server.ServerText.TheVariants as server
use Rattle.asp_objects.specs.Drafting.{AnsweredDrafts, AskedDrafts, IsSaid, LeavesSaid}
use Rattle.asp_objects.specs.Given as answers
use Rattle.asp_objects.specs.Members as members
use Rattle.asp_objects.specs.ResponseMembers as response
use Rattle.asp_objects.specs.Said.{SaidOf, drafted, stopping, told, using_it}
use Rattle.asp_objects.specs.ServerMembers as servers
use Rattle.asp_objects.specs.SessionMembers as sessions

-- ---- what is said

told_said : (answer : answers.Answer) (objects : PageObjects) → IsSaid objects → LeavesSaid (told answer objects)
told_said (Ok what) objects said = said
told_said (Err stop) objects said = said

using_said : {T : Type 0} (found : Result T AskStop) (next : T → PageObjects → SaidOf PageObjects)
    (objects : PageObjects) → IsSaid objects → ((value : T) → LeavesSaid (next value objects))
    → LeavesSaid (using_it found next objects)
using_said (Ok value) next objects said goes = goes value
using_said (Err stop) next objects said goes = said

-- one call more
one_more : (call : DraftCall) (old new : Draft) (calls : List DraftCall) → old ≡ said_by calls
    → (answer : Done) → answer_to call old ≡ answer → where_done answer (made_by call old) old ≡ new
    → new ≡ said_by (call ∷ calls)
unfolding said_by
one_more call old new calls is answer told made =
    sym made ∙ ap (λ (found : Done). where_done found (made_by call old) old) (sym told) ∙ ap (after call) is

drafted_said : (call : DraftCall) (changed objects : PageObjects) → changed.draft ≡ made_by call objects.draft
    → IsSaid objects → LeavesSaid (drafted (answer_to call objects.draft) changed objects)
drafted_said call changed objects made said = go (answer_to call objects.draft) refl
  where
    go : (answer : Done) → answer_to call objects.draft ≡ answer → LeavesSaid (drafted answer changed objects)
    go (Ok done) told = (call ∷ said.0, one_more call objects.draft changed.draft said.0 said.1 (Ok done) told (sym made))
    go (Err refused) told = said

stopping_said : (call : DraftCall) (changed objects : PageObjects) → changed.draft ≡ made_by call objects.draft
    → IsSaid objects → LeavesSaid (stopping (answer_to call objects.draft) changed objects)
stopping_said call changed objects made said = go (answer_to call objects.draft) refl
  where
    go : (answer : Done) → answer_to call objects.draft ≡ answer → LeavesSaid (stopping answer changed objects)
    go (Ok done) told = (call ∷ said.0, one_more call objects.draft changed.draft said.0 said.1 (Ok done) told (sym made))
    go (Err refused) told = said

-- ---- Response

write_said : (arguments : List Value) (objects : PageObjects) → IsSaid objects
    → LeavesSaid (response.write_asked arguments objects)
write_said (what ∷ []) objects said = using_said (response.written_text what) response.wrote objects said
    (λ text. drafted_said (Write text) _ objects refl said)
write_said [] objects said = said
write_said (what ∷ more ∷ others) objects said = said

redirect_said : (arguments : List Value) (objects : PageObjects) → IsSaid objects
    → LeavesSaid (response.redirect_asked arguments objects)
redirect_said (url ∷ []) objects said = using_said (answers.text_in url) response.redirected objects said
    (λ text. stopping_said (Redirect text) _ objects refl said)
redirect_said [] objects said = said
redirect_said (url ∷ more ∷ others) objects said = said

buffer_said : (arguments : List Value) (objects : PageObjects) → IsSaid objects
    → LeavesSaid (response.buffer_asked arguments objects)
buffer_said [] objects said = said
buffer_said (on ∷ []) objects said = using_said (answers.truth_in on) response.buffered objects said
    (λ truth. (Buffer truth ∷ said.0, one_more (Buffer truth) objects.draft _ said.0 said.1 (Ok tt) refl refl))
buffer_said (on ∷ more ∷ others) objects said = said

set_said : (of : HeadPart) (text : List ℕ) (objects : PageObjects) → IsSaid objects
    → LeavesSaid (response.head_set of text objects)
set_said head.ContentType text objects said = drafted_said (ContentType text) _ objects refl said
set_said head.Charset text objects said = drafted_said (Charset text) _ objects refl said
set_said head.Status text objects said = drafted_said (Status text) _ objects refl said
set_said head.CacheControl text objects said = drafted_said (Cache text) _ objects refl said

head_said : (of : HeadPart) (arguments : List Value) (objects : PageObjects) → IsSaid objects
    → LeavesSaid (response.head_asked of arguments objects)
head_said of [] objects said = said
head_said of (text ∷ []) objects said = using_said (answers.text_in text) (response.head_set of) objects said
    (λ found. set_said of found objects said)
head_said of (text ∷ more ∷ others) objects said = said

header_said : (arguments : List Value) (objects : PageObjects) → IsSaid objects
    → LeavesSaid (response.header_asked arguments objects)
header_said (name ∷ text ∷ []) objects said = using_said (answers.text_in name)
    (λ named. using_it (answers.text_in text) (response.with_header named)) objects said (λ named.
    using_said (answers.text_in text) (response.with_header named) objects said
    (λ found. drafted_said (Field named found) _ objects refl said))
header_said [] objects said = said
header_said (name ∷ []) objects said = said
header_said (name ∷ text ∷ more ∷ others) objects said = said

cookie_said : (arguments : List Value) (objects : PageObjects) → IsSaid objects
    → LeavesSaid (response.cookie_asked arguments objects)
cookie_said (name ∷ text ∷ []) objects said = using_said (answers.text_in name)
    (λ named. using_it (answers.text_in text) (response.with_cookie named [])) objects said (λ named.
    using_said (answers.text_in text) (response.with_cookie named []) objects said
    (λ found. drafted_said (Cookie named [] found) _ objects refl said))
cookie_said [] objects said = said
cookie_said (name ∷ []) objects said = said
cookie_said (name ∷ text ∷ more ∷ others) objects said = said

pair_said : (arguments : List Value) (objects : PageObjects) → IsSaid objects
    → LeavesSaid (response.pair_asked arguments objects)
pair_said (name ∷ key ∷ text ∷ []) objects said = using_said (answers.text_in name)
    (λ named. using_it (answers.text_in key) (λ keyed.
    using_it (answers.text_in text) (response.with_cookie named keyed))) objects said (λ named.
    using_said (answers.text_in key) (λ keyed. using_it (answers.text_in text) (response.with_cookie named keyed))
    objects said (λ keyed. using_said (answers.text_in text) (response.with_cookie named keyed) objects said
    (λ found. drafted_said (Cookie named keyed found) _ objects refl said)))
pair_said [] objects said = said
pair_said (name ∷ []) objects said = said
pair_said (name ∷ key ∷ []) objects said = said
pair_said (name ∷ key ∷ text ∷ more ∷ others) objects said = said

part_said : (of : CookiePart) (arguments : List Value) (objects : PageObjects) → IsSaid objects
    → LeavesSaid (response.part_asked of arguments objects)
part_said of (name ∷ text ∷ []) objects said = using_said (answers.text_in name)
    (λ named. using_it (answers.text_in text) (response.with_part of named)) objects said (λ named.
    using_said (answers.text_in text) (response.with_part of named) objects said
    (λ found. drafted_said (Part named of found) _ objects refl said))
part_said of [] objects said = said
part_said of (name ∷ []) objects said = said
part_said of (name ∷ text ∷ more ∷ others) objects said = said

secure_said : (arguments : List Value) (objects : PageObjects) → IsSaid objects
    → LeavesSaid (response.secure_asked arguments objects)
secure_said (name ∷ on ∷ []) objects said = using_said (answers.text_in name)
    (λ named. using_it (answers.truth_in on) (response.with_secure named)) objects said (λ named.
    using_said (answers.truth_in on) (response.with_secure named) objects said
    (λ truth. drafted_said (Secure named truth) _ objects refl said))
secure_said [] objects said = said
secure_said (name ∷ []) objects said = said
secure_said (name ∷ on ∷ more ∷ others) objects said = said

-- ---- Server and Session

server_said : (what : ServerText) (arguments : List Value) (objects : PageObjects) → IsSaid objects
    → LeavesSaid (servers.text_asked what arguments objects)
server_said what (text ∷ []) objects said = told_said _ objects said
server_said what [] objects said = said
server_said what (text ∷ more ∷ others) objects said = said

timeout_said : (arguments : List Value) (objects : PageObjects) → IsSaid objects
    → LeavesSaid (servers.timeout_asked arguments objects)
timeout_said [] objects said = said
timeout_said (seconds ∷ []) objects said =
    using_said (answers.long_in seconds) servers.with_timeout objects said (λ found. said)
timeout_said (seconds ∷ more ∷ others) objects said = said

lifted_said : (found : SaidOf SessionState) (objects : PageObjects) → IsSaid objects
    → LeavesSaid (sessions.lifted found objects)
lifted_said (Ok what) objects said = said
lifted_said (Err stop) objects said = said

session_said : (found : Option SessionState) (next : SessionState → SaidOf SessionState) (objects : PageObjects)
    → IsSaid objects → LeavesSaid (sessions.session_in found next objects)
session_said (Some session) next objects said = lifted_said (next session) objects said
session_said None next objects said = said

abandoned_said : (found : Option SessionState) (objects : PageObjects) → IsSaid objects
    → LeavesSaid (sessions.abandoned_in found objects)
abandoned_said (Some session) objects said = said
abandoned_said None objects said = said

-- ---- every member

member_said : (asked : Member) (arguments : List Value) (objects : PageObjects) → IsSaid objects
    → LeavesSaid (members.said asked arguments objects)
unfolding members.said
member_said (member.Request what) arguments objects said = told_said _ objects said
member_said (member.RequestQueryString what) arguments objects said = told_said _ objects said
member_said (member.RequestForm what) arguments objects said = told_said _ objects said
member_said (member.RequestCookies what) arguments objects said = told_said _ objects said
member_said (member.RequestServerVariables what) arguments objects said = told_said _ objects said
member_said member.RequestTotalBytes arguments objects said = told_said _ objects said
member_said member.ResponseWrite arguments objects said = write_said arguments objects said
member_said member.ResponseClear arguments objects said =
    (Clear ∷ said.0, one_more Clear objects.draft _ said.0 said.1 (Ok tt) refl refl)
member_said member.ResponseFlush arguments objects said =
    (Flush ∷ said.0, one_more Flush objects.draft _ said.0 said.1 (Ok tt) refl refl)
member_said member.ResponseEnd arguments objects said = said
member_said member.ResponseRedirect arguments objects said = redirect_said arguments objects said
member_said member.ResponseBuffer arguments objects said = buffer_said arguments objects said
member_said member.ResponseIsClientConnected arguments objects said = said
member_said member.ResponseContentType arguments objects said = head_said head.ContentType arguments objects said
member_said member.ResponseCharset arguments objects said = head_said head.Charset arguments objects said
member_said member.ResponseStatus arguments objects said = head_said head.Status arguments objects said
member_said member.ResponseCacheControl arguments objects said = head_said head.CacheControl arguments objects said
member_said member.ResponseAddHeader arguments objects said = header_said arguments objects said
member_said member.ResponseCookies arguments objects said = cookie_said arguments objects said
member_said member.ResponseCookiePair arguments objects said = pair_said arguments objects said
member_said member.ResponseCookiePath arguments objects said = part_said cookie.Path arguments objects said
member_said member.ResponseCookieDomain arguments objects said = part_said cookie.Domain arguments objects said
member_said member.ResponseCookieSecure arguments objects said = secure_said arguments objects said
member_said member.ServerHtmlEncode arguments objects said = server_said server.Html arguments objects said
member_said member.ServerUrlEncode arguments objects said = server_said server.Url arguments objects said
member_said member.ServerMapPath arguments objects said = server_said server.Path arguments objects said
member_said member.ServerScriptTimeout arguments objects said = timeout_said arguments objects said
member_said (member.SessionContents what) arguments objects said = session_said objects.session _ objects said
member_said member.SessionId arguments objects said = session_said objects.session _ objects said
member_said member.SessionTimeout arguments objects said = session_said objects.session _ objects said
member_said member.SessionAbandon arguments objects said = abandoned_said objects.session objects said
member_said (member.ApplicationContents what) arguments objects said = told_said _ objects said
member_said member.ApplicationLock arguments objects said = said
member_said member.ApplicationUnlock arguments objects said = said
member_said _ arguments objects said = said

pub asked_drafts : AskedDrafts
unfolding members.asked
asked_drafts asked arguments objects said = go (not objects.is_page && members.is_of_page asked)
  where
    go : (outside : Bool) → LeavesSaid (if outside then told (answers.failed object_required) objects
        else members.said asked arguments objects)
    go true = said
    go false = member_said asked arguments objects said

pub answered_drafts : AnsweredDrafts
answered_drafts asked arguments found objects said = told_said _ _ said
