-- What a run answers a request: a page that it runs, a static file, or a fixed answer.
use Rattle.std.specs.Prelude.{Bool, true, false, ◌&&◌, if◌then◌else◌, [], ◌∷◌, codes, Option, Some, None}
use Rattle.vb_value.specs.declared.site_file.SiteFile.{SiteFile}
use Rattle.asp_job.specs.declared.answer.Answer.{Answer}
use Rattle.asp_job.specs.declared.answer.Finished.{Finished}
use Rattle.asp_job.specs.declared.request.Request.{Request}
use Rattle.asp_job.specs.declared.request.Verb.{Verb}
use Rattle.asp_job.specs.declared.request.Verb.TheVariants as verb
use Rattle.asp_job.specs.declared.session.SessionState.{SessionState}
use Rattle.asp_job.specs.Told.{Told, Outcome, Wants, Ends}
use Rattle.asp_objects.specs.declared.objects.PageObjects.{PageObjects}
use Rattle.asp_objects.specs.Members.{fresh_objects}
use Rattle.asp_response.specs.Finish.{finished}
use Rattle.asp_response.specs.Fixed.{status_answer_of, not_allowed_of}
use Rattle.asp_site.specs.declared.site.Page.{Page}
use Rattle.asp_site.specs.declared.site.Site.{Site}
use Rattle.asp_site.specs.Endings.{media_type_of}
use Rattle.asp_site.specs.Lookup.{page_at, static_at}
use Rattle.asp_acts.specs.declared.course.Course.{Course}
use Rattle.asp_acts.specs.declared.course.Way.{Way}
use Rattle.asp_acts.specs.declared.course.Way.TheVariants.{Wants as WantsReply, On}
use Rattle.asp_acts.specs.Acts.{course_of, page_acts}

-- whether the answer has no content
abbrev pub is_head : Verb → Bool
is_head verb.Head = true
is_head _ = false

-- the methods that pages and static files take (RFC 9110, section 9)
abbrev pub page_takes : Verb → Bool
page_takes verb.Other = false
page_takes _ = true

abbrev pub file_takes : Verb → Bool
file_takes verb.Get = true
file_takes verb.Head = true
file_takes _ = false

-- a run without acts: it answers, and its session stays
abbrev pub only_answers : Told → Answer → Finished
only_answers told answer =
    record { answer = Some answer; session = told.session; fail = None; made = 0; finished = 0 }

-- ---- static files

-- the file as it is, with its media type
abbrev pub file_answer : SiteFile → Request → Answer
file_answer file request = record (status_answer_of 200 (is_head request.verb) request.close) {
  headers = record { name = codes "Content-Type"; value = media_type_of file.path } ∷ [];
  body = file.bytes;
}

abbrev pub file_work : Told → Request → SiteFile → Finished
file_work told request file = only_answers told (if file_takes request.verb then file_answer file request
    else not_allowed_of false (is_head request.verb) request.close)

-- ---- pages

-- whether a request of this method has a session on the page
abbrev pub is_keyed_page : Verb → Option Page → Bool
is_keyed_page verb (Some page) = page.session && page_takes verb
is_keyed_page verb None = false

-- the session that a page is given: none where the page has no sessions
abbrev pub session_given : Page → Option SessionState → Option SessionState
session_given page session = if page.session then session else None

-- the session that the acts leave: none after Abandon
abbrev pub session_kept : PageObjects → Option SessionState
session_kept objects = if objects.is_abandoned then None else objects.session

abbrev pub session_left : Page → Option SessionState → PageObjects → Option SessionState
session_left page session objects = if page.session then session_kept objects else session

-- the acts of a page begin so
abbrev pub page_begins : Told → Request → Page → Course
page_begins told request page = course_of (fresh_objects request page.path (session_given page told.session))

-- a page whose acts have ended: its draft is finished, with what is said of a failure
abbrev pub page_ended : Told → Request → Page → Course → Finished
page_ended told request page course = record {
  answer = Some (finished course.objects.draft told.cookie course.tally.failure (is_head request.verb) request.close);
  session = session_left page told.session course.objects;
  fail = course.tally.fail;
  made = course.tally.made;
  finished = course.tally.finished;
}

-- what the acts of a page come to
abbrev pub page_came : Told → Request → Page → Way → Outcome
page_came told request page (On course) = Ends (page_ended told request page course)
page_came told request page (WantsReply call) = Wants call

abbrev pub page_run : Site → Told → Request → Page → Outcome
page_run site told request page =
    page_came told request page (page_acts site told page (page_begins told request page))

abbrev pub page_work : Site → Told → Request → Page → Outcome
page_work site told request page = if page_takes request.verb then page_run site told request page
    else Ends (only_answers told (not_allowed_of true (is_head request.verb) request.close))

-- ---- what stands at the path

abbrev pub found_work : Site → Told → Request → Option Page → Option SiteFile → Outcome
found_work site told request (Some page) file = page_work site told request page
found_work site told request None (Some file) = Ends (file_work told request file)
found_work site told request None None =
    Ends (only_answers told (status_answer_of 404 (is_head request.verb) request.close))

-- the answer to a request: of the page at its path, else of the static file there, else that nothing is there
abbrev pub request_work : Site → Told → Request → Outcome
request_work site told request =
    found_work site told request (page_at site request.path) (static_at site request.path)
