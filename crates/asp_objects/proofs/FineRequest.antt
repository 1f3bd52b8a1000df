-- Memory does not run out for Request and Server.
use Rattle.std.proofs.Common.{ℕ}
use Rattle.std.proofs.Common.{List, [], ◌∷◌, Result, Ok, Err}
use Rattle.vb_value.specs.declared.value.Value.{Value, Str}
use Rattle.vb_value.specs.TextLimit.{limited}
use Rattle.vb_syntax.specs.declared.member.CollectionPart.{CollectionPart}
use Rattle.vb_syntax.specs.declared.member.CollectionPart.TheVariants as part
use Rattle.asp_job.specs.declared.request.Request.{Request}
use Rattle.asp_text.specs.declared.path.PathStop.{PathStop}
use Rattle.asp_request.specs.declared.inputs.InSet.{InSet}
use Rattle.asp_request.specs.declared.inputs.InSet.TheVariants as set
use Rattle.asp_request.specs.Inputs.{values_of}
use Rattle.asp_objects.specs.declared.objects.PageObjects.{PageObjects}
use Rattle.asp_objects.specs.declared.server.ServerText.{ServerText}
use Rattle.asp_objects.specs.declared.server.ServerText.TheVariants as server
use Rattle.asp_objects.specs.Given as answers
use Rattle.asp_objects.specs.MapPath.{mapped}
use Rattle.asp_objects.specs.RequestMembers as request
use Rattle.asp_objects.specs.ServerMembers as servers
use Rattle.asp_objects.proofs.Fine.{Fine, FineSaid, count_fine, item_fine, long_fine, raised_fine, text_fine}
use Rattle.asp_objects.proofs.Fine.{then_fine, told_fine, using_fine}

-- ---- Request

pub request_value_fine : (asked : Request) (collection : InSet) (name index : Value)
    → Fine (request.value_at asked collection name index)
request_value_fine asked set.Cookies name (Str key) = then_fine (answers.text_in name) _ (text_fine name) (λ found. tt)
request_value_fine asked collection name index = then_fine (answers.text_in name) _ (text_fine name) (λ found.
    then_fine (answers.long_in index) _ (long_fine index) (item_fine (values_of asked collection found)))

pub request_fine : (asked : Request) (collection : InSet) (what : CollectionPart) (arguments : List Value)
    → Fine (request.asked_of asked collection what arguments)
unfolding request.asked_of
request_fine asked collection part.Raw [] = tt
request_fine asked collection part.Item (name ∷ []) = then_fine (answers.text_in name) _ (text_fine name) (λ found. tt)
request_fine asked collection part.ValueCount (name ∷ []) =
    then_fine (answers.text_in name) _ (text_fine name) (λ found. count_fine _)
request_fine asked collection part.Value (name ∷ index ∷ []) = request_value_fine asked collection name index
request_fine asked collection part.HasKeys (name ∷ []) =
    then_fine (answers.text_in name) _ (text_fine name) (λ found. tt)
request_fine asked collection part.Count [] = count_fine _
request_fine asked collection part.Key (index ∷ []) =
    then_fine (answers.long_in index) _ (long_fine index) (item_fine _)
request_fine asked collection part.Names [] = tt
request_fine asked collection _ _ = tt

-- ---- Server

pub limited_fine : (text : List ℕ) → Fine (servers.limited_text text)
limited_fine text = then_fine (answers.raised (limited text)) _ (raised_fine (limited text)) (λ found. tt)

pub found_fine : (found : Result (List ℕ) PathStop) → Fine (servers.found found)
found_fine (Ok path) = limited_fine path
found_fine (Err refused) = tt

pub made_fine : (what : ServerText) (page text : List ℕ) → Fine (servers.made what page text)
made_fine server.Html page text = limited_fine _
made_fine server.Url page text = limited_fine _
made_fine server.Path page text = found_fine (mapped page text)

pub server_fine : (what : ServerText) (arguments : List Value) (objects : PageObjects)
    → FineSaid (servers.text_asked what arguments objects)
server_fine what (text ∷ []) objects =
    told_fine _ objects (then_fine (answers.text_in text) _ (text_fine text) (made_fine what (servers.file_of objects)))
server_fine what [] objects = tt
server_fine what (text ∷ more ∷ others) objects = tt

pub timeout_fine : (arguments : List Value) (objects : PageObjects) → FineSaid (servers.timeout_asked arguments objects)
timeout_fine [] objects = tt
timeout_fine (seconds ∷ []) objects = using_fine (answers.long_in seconds) _ objects (long_fine seconds) (λ found. tt)
timeout_fine (seconds ∷ more ∷ others) objects = tt
