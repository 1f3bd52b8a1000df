-- What a page's objects are asked, and what each says (ASP 3.0, "Built-in Objects").
use Rattle.std.specs.Prelude.{ℕ, ◌+◌, pos, Bool, true, false, not, ◌&&◌, if◌then◌else◌, List, codes, Option, Err}
use Rattle.vb_value.specs.declared.application.AppCall.TheVariants as call
use Rattle.vb_value.specs.declared.application.AppReply.{AppReply}
use Rattle.vb_value.specs.declared.value.Value.{Value, Bool as Boolean}
use Rattle.vb_value.specs.Errors.{object_required}
use Rattle.vb_syntax.specs.declared.act.AskStop.TheVariants as why
use Rattle.vb_syntax.specs.declared.member.Member.{Member}
use Rattle.vb_syntax.specs.declared.member.Member.TheVariants as member
use Rattle.asp_job.specs.declared.request.Request.{Request}
use Rattle.asp_job.specs.declared.session.SessionState.{SessionState}
use Rattle.asp_request.specs.declared.inputs.InSet.TheVariants as set
use Rattle.asp_response.specs.declared.cookie.CookiePart.TheVariants as cookie
use Rattle.asp_response.specs.Draft.{no_draft}
use Rattle.asp_objects.specs.declared.head.HeadPart.TheVariants as head
use Rattle.asp_objects.specs.declared.objects.PageObjects.{PageObjects}
use Rattle.asp_objects.specs.declared.server.ServerText.TheVariants as server
use Rattle.asp_objects.specs.ApplicationMembers.{contents_asked, reply_answer, wants}
use Rattle.asp_objects.specs.Given.{failed, value}
use Rattle.asp_objects.specs.RequestMembers.{asked_of, total_bytes}
use Rattle.asp_objects.specs.ResponseMembers.{write_asked, cleared, flushed, redirect_asked, buffer_asked, head_asked}
use Rattle.asp_objects.specs.ResponseMembers.{header_asked, cookie_asked, pair_asked, part_asked, secure_asked}
use Rattle.asp_objects.specs.Said.{Said, told}
use Rattle.asp_objects.specs.ServerMembers.{text_asked, timeout_asked}
use Rattle.asp_objects.specs.SessionMembers.{session_asked, contents, serial, timeout as session_timeout, abandoned}

-- the objects with which a page begins, in the file at this path, and in this session, if it has one
abbrev pub fresh_objects : Request → List ℕ → Option SessionState → PageObjects
fresh_objects request page session = record {
  is_page = true;
  request = request;
  page = page;
  draft = no_draft;
  buffer = true;
  content_type = codes "text/html";
  charset = codes "utf-8";
  status = codes "200 OK";
  cache = codes "private";
  timeout = pos 90;
  session = session;
  is_abandoned = false;
  heard = 0;
}

-- the same in an event that has no page: without Request and Response
abbrev pub outside_page : PageObjects → PageObjects
outside_page objects = record objects { is_page = false }

-- whether a member is one of Request or Response
abbrev pub is_of_page : Member → Bool
is_of_page (member.Request part) = true
is_of_page (member.RequestQueryString part) = true
is_of_page (member.RequestForm part) = true
is_of_page (member.RequestCookies part) = true
is_of_page (member.RequestServerVariables part) = true
is_of_page member.RequestTotalBytes = true
is_of_page member.ResponseWrite = true
is_of_page member.ResponseClear = true
is_of_page member.ResponseFlush = true
is_of_page member.ResponseEnd = true
is_of_page member.ResponseRedirect = true
is_of_page member.ResponseBuffer = true
is_of_page member.ResponseIsClientConnected = true
is_of_page member.ResponseContentType = true
is_of_page member.ResponseCharset = true
is_of_page member.ResponseStatus = true
is_of_page member.ResponseCacheControl = true
is_of_page member.ResponseAddHeader = true
is_of_page member.ResponseCookies = true
is_of_page member.ResponseCookiePair = true
is_of_page member.ResponseCookiePath = true
is_of_page member.ResponseCookieDomain = true
is_of_page member.ResponseCookieSecure = true
is_of_page _ = false

-- What is said to a question about an object that is there. `Request(..)` asks QueryString, Form, Cookies and
-- ServerVariables in this order. Clear, Flush and End take no arguments, and End stops the page; the client is always
-- connected.
unfoldable pub said : Member → List Value → PageObjects → Said
said (member.Request part) arguments objects = told (asked_of objects.request set.All part arguments) objects
said (member.RequestQueryString part) arguments objects =
    told (asked_of objects.request set.Query part arguments) objects
said (member.RequestForm part) arguments objects = told (asked_of objects.request set.Form part arguments) objects
said (member.RequestCookies part) arguments objects =
    told (asked_of objects.request set.Cookies part arguments) objects
said (member.RequestServerVariables part) arguments objects =
    told (asked_of objects.request set.Server part arguments) objects
said member.RequestTotalBytes arguments objects = told (total_bytes objects.request) objects
said member.ResponseWrite arguments objects = write_asked arguments objects
said member.ResponseClear arguments objects = cleared objects
said member.ResponseFlush arguments objects = flushed objects
said member.ResponseEnd arguments objects = Err (why.PageStop, objects)
said member.ResponseRedirect arguments objects = redirect_asked arguments objects
said member.ResponseBuffer arguments objects = buffer_asked arguments objects
said member.ResponseIsClientConnected arguments objects = told (value (Boolean true)) objects
said member.ResponseContentType arguments objects = head_asked head.ContentType arguments objects
said member.ResponseCharset arguments objects = head_asked head.Charset arguments objects
said member.ResponseStatus arguments objects = head_asked head.Status arguments objects
said member.ResponseCacheControl arguments objects = head_asked head.CacheControl arguments objects
said member.ResponseAddHeader arguments objects = header_asked arguments objects
said member.ResponseCookies arguments objects = cookie_asked arguments objects
said member.ResponseCookiePair arguments objects = pair_asked arguments objects
said member.ResponseCookiePath arguments objects = part_asked cookie.Path arguments objects
said member.ResponseCookieDomain arguments objects = part_asked cookie.Domain arguments objects
said member.ResponseCookieSecure arguments objects = secure_asked arguments objects
said member.ServerHtmlEncode arguments objects = text_asked server.Html arguments objects
said member.ServerUrlEncode arguments objects = text_asked server.Url arguments objects
said member.ServerMapPath arguments objects = text_asked server.Path arguments objects
said member.ServerScriptTimeout arguments objects = timeout_asked arguments objects
said (member.SessionContents part) arguments objects = session_asked (contents part arguments) objects
said member.SessionId arguments objects = session_asked serial objects
said member.SessionTimeout arguments objects = session_asked (session_timeout arguments) objects
said member.SessionAbandon arguments objects = abandoned objects
said (member.ApplicationContents part) arguments objects = told (contents_asked part arguments) objects
said member.ApplicationLock arguments objects = told (wants call.Lock) objects
said member.ApplicationUnlock arguments objects = told (wants call.Unlock) objects
said _ arguments objects = told (failed object_required) objects

-- what is said to a question: Object required where an event has no such object
unfoldable pub asked : Member → List Value → PageObjects → Said
asked member arguments objects = if not objects.is_page && is_of_page member
    then told (failed object_required) objects else said member arguments objects

-- What is said once a call of the Application object has its reply. The replies that were heard are counted.
abbrev pub answered : Member → List Value → AppReply → PageObjects → Said
answered member arguments reply objects =
    told (reply_answer member arguments reply) (record objects { heard = objects.heard + 1 })
