-- The members of Server (ASP 3.0, "Server Object"). CreateObject is the language's, and asks no object of the page.
use Rattle.std.specs.Prelude.{ℕ, ℤ, if◌then◌else◌, List, [], ◌∷◌, Result, Ok, Err, codes}
use Rattle.vb_value.specs.declared.fault.VbError.{VbError}
use Rattle.vb_value.specs.declared.value.Value.{Value, Long}
use Rattle.vb_value.specs.Errors.{object_required, invalid_call}
use Rattle.vb_value.specs.TextLimit.{limited}
use Rattle.asp_text.specs.Html.{html_encoded}
use Rattle.asp_text.specs.Url.{url_encoded}
use Rattle.asp_text.specs.declared.path.PathStop.{PathStop}
use Rattle.asp_objects.specs.declared.objects.PageObjects.{PageObjects}
use Rattle.asp_objects.specs.declared.server.ServerText.{ServerText}
use Rattle.asp_objects.specs.declared.server.ServerText.TheVariants as server
use Rattle.asp_objects.specs.Given.{Answer, failed, raised, and_then, text_in, long_in, value}
use Rattle.asp_objects.specs.MapPath.{mapped}
use Rattle.asp_objects.specs.Said.{Said, told, using_it, became}

-- a text as what a member gives; Out of string space where it is too long
abbrev pub limited_text : List ℕ → Answer
limited_text text = and_then (raised (limited text)) value

-- a path that was found; Invalid procedure call or argument above the root, and where it is not well written
abbrev pub found : Result (List ℕ) PathStop → Answer
found (Ok path) = limited_text path
found (Err stop) = failed invalid_call

-- the file in whose folder a path begins: the page's, and that of the events where no page stands
abbrev pub file_of : PageObjects → List ℕ
file_of objects = if objects.is_page then objects.page else codes "/global.asa"

-- what HTMLEncode, URLEncode and MapPath give of a text, on the page in the file at this path
abbrev pub made : ServerText → List ℕ → List ℕ → Answer
made server.Html page text = limited_text (html_encoded text)
made server.Url page text = limited_text (url_encoded text)
made server.Path page text = found (mapped page text)

abbrev pub text_asked : ServerText → List Value → PageObjects → Said
text_asked which (text ∷ []) objects = told (and_then (text_in text) (made which (file_of objects))) objects
text_asked which _ objects = told (failed object_required) objects

-- ScriptTimeout: it is kept, and has no effect
abbrev pub with_timeout : ℤ → PageObjects → Said
with_timeout seconds objects = became (record objects { timeout = seconds })

abbrev pub timeout_asked : List Value → PageObjects → Said
timeout_asked [] objects = told (value (Long objects.timeout)) objects
timeout_asked (seconds ∷ []) objects = using_it (long_in seconds) with_timeout objects
timeout_asked _ objects = told (failed object_required) objects
