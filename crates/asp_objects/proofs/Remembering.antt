-- Memory never runs out for the objects of a page, as their members are defined.
use Rattle.std.proofs.Common.{Bool, true, false, not, ◌&&◌}
use Rattle.std.proofs.Common.{if◌then◌else◌, List, subst}
use Rattle.vb_value.specs.declared.value.Value.{Value}
use Rattle.vb_value.specs.Errors.{object_required}
use Rattle.vb_syntax.specs.declared.member.Member.{Member}
use Rattle.vb_syntax.specs.declared.member.Member.TheVariants as member
use Rattle.asp_request.specs.declared.inputs.InSet.TheVariants as set
use Rattle.asp_response.specs.declared.cookie.CookiePart.TheVariants as cookie
use Rattle.asp_objects.specs.declared.head.HeadPart.TheVariants as head
use Rattle.asp_objects.specs.declared.objects.PageObjects.{PageObjects}
use Rattle.asp_objects.specs.declared.server.ServerText.TheVariants as server
use Rattle.asp_objects.specs.Given as answers
use Rattle.asp_objects.specs.Members as members
use Rattle.asp_objects.specs.Remembering.{AnsweredRemembers, AskedRemembers}
use Rattle.asp_objects.specs.Said.{told}
use Rattle.asp_objects.proofs.Fine.{FineSaid, count_fine, told_fine}
use Rattle.asp_objects.proofs.FineRequest.{request_fine, server_fine, timeout_fine}
use Rattle.asp_objects.proofs.FineResponse.{buffer_fine, cookie_fine, head_fine, header_fine, pair_fine, part_fine}
use Rattle.asp_objects.proofs.FineResponse.{secure_fine}
use Rattle.asp_objects.proofs.FineResponse.{redirect_fine, write_fine}
use Rattle.asp_objects.proofs.FineState.{abandoned_fine, contents_fine, reply_fine, session_fine}
use Rattle.asp_objects.proofs.FineState.{session_timeout_fine, wanted_fine}

said_fine : (asked : Member) (arguments : List Value) (objects : PageObjects)
    → FineSaid (members.said asked arguments objects)
unfolding members.said
said_fine (member.Request what) arguments objects =
    told_fine _ objects (request_fine objects.request set.All what arguments)
said_fine (member.RequestQueryString what) arguments objects =
    told_fine _ objects (request_fine objects.request set.Query what arguments)
said_fine (member.RequestForm what) arguments objects =
    told_fine _ objects (request_fine objects.request set.Form what arguments)
said_fine (member.RequestCookies what) arguments objects =
    told_fine _ objects (request_fine objects.request set.Cookies what arguments)
said_fine (member.RequestServerVariables what) arguments objects =
    told_fine _ objects (request_fine objects.request set.Server what arguments)
said_fine member.RequestTotalBytes arguments objects = told_fine _ objects (count_fine _)
said_fine member.ResponseWrite arguments objects = write_fine arguments objects
said_fine member.ResponseClear arguments objects = tt
said_fine member.ResponseFlush arguments objects = tt
said_fine member.ResponseEnd arguments objects = tt
said_fine member.ResponseRedirect arguments objects = redirect_fine arguments objects
said_fine member.ResponseBuffer arguments objects = buffer_fine arguments objects
said_fine member.ResponseIsClientConnected arguments objects = tt
said_fine member.ResponseContentType arguments objects = head_fine head.ContentType arguments objects
said_fine member.ResponseCharset arguments objects = head_fine head.Charset arguments objects
said_fine member.ResponseStatus arguments objects = head_fine head.Status arguments objects
said_fine member.ResponseCacheControl arguments objects = head_fine head.CacheControl arguments objects
said_fine member.ResponseAddHeader arguments objects = header_fine arguments objects
said_fine member.ResponseCookies arguments objects = cookie_fine arguments objects
said_fine member.ResponseCookiePair arguments objects = pair_fine arguments objects
said_fine member.ResponseCookiePath arguments objects = part_fine cookie.Path arguments objects
said_fine member.ResponseCookieDomain arguments objects = part_fine cookie.Domain arguments objects
said_fine member.ResponseCookieSecure arguments objects = secure_fine arguments objects
said_fine member.ServerHtmlEncode arguments objects = server_fine server.Html arguments objects
said_fine member.ServerUrlEncode arguments objects = server_fine server.Url arguments objects
said_fine member.ServerMapPath arguments objects = server_fine server.Path arguments objects
said_fine member.ServerScriptTimeout arguments objects = timeout_fine arguments objects
said_fine (member.SessionContents what) arguments objects =
    session_fine objects.session _ objects (contents_fine what arguments)
said_fine member.SessionId arguments objects = session_fine objects.session _ objects (λ session. tt)
said_fine member.SessionTimeout arguments objects =
    session_fine objects.session _ objects (session_timeout_fine arguments)
said_fine member.SessionAbandon arguments objects = abandoned_fine objects.session objects
said_fine (member.ApplicationContents what) arguments objects = told_fine _ objects (wanted_fine what arguments)
said_fine member.ApplicationLock arguments objects = tt
said_fine member.ApplicationUnlock arguments objects = tt
said_fine _ arguments objects = tt

asked_fine : (asked : Member) (arguments : List Value) (objects : PageObjects)
    → FineSaid (members.asked asked arguments objects)
unfolding members.asked
asked_fine asked arguments objects = go (not objects.is_page && members.is_of_page asked)
  where
    go : (outside : Bool) → FineSaid (if outside then told (answers.failed object_required) objects
        else members.said asked arguments objects)
    go true = tt
    go false = said_fine asked arguments objects

pub asked_remembers : AskedRemembers
asked_remembers asked arguments objects left =
    λ is. subst FineSaid is (asked_fine asked arguments objects)

pub answered_remembers : AnsweredRemembers
answered_remembers asked arguments found objects left =
    λ is. subst FineSaid is (told_fine _ _ (reply_fine asked arguments found))
