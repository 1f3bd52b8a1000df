-- A run tells why the first of its acts that failed did.
use Rattle.std.proofs.Common.{ℕ, ◌≡◌, ◌≢◌, Bool, true, false, if◌then◌else◌, List, [], ◌∷◌, ◌++◌, codes, drop}
use Rattle.std.proofs.Common.{Option, Some, None, refl, sym, subst}
use Rattle.std.proofs.lemmas.List.{append-nil}
use Rattle.std.specs.Option.{option_or}
use Rattle.vb_value.specs.declared.application.AppReply.{AppReply}
use Rattle.vb_value.specs.declared.site_file.SiteFile.{SiteFile}
use Rattle.vb_syntax.specs.declared.act.Act.{Act}
use Rattle.vb_syntax.specs.declared.act.Act.TheVariants as acts
use Rattle.vb_syntax.specs.declared.act.ActEnd.{ActEnd}
use Rattle.vb_syntax.specs.declared.act.ActEnd.TheVariants as end
use Rattle.vb_meaning.specs.declared.plain_end.PlainEnd.{PlainEnd}
use Rattle.vb_meaning.specs.declared.plain_end.PlainEnd.TheVariants.{Wants as WantsCall, Ends as Ended}
use Rattle.vb_meaning.specs.Acts.{act_of}
use Rattle.vb_objects.specs.Seen.{host}
use Rattle.asp_job.specs.declared.answer.Fail.{Fail}
use Rattle.asp_job.specs.declared.answer.Finished.{Finished}
use Rattle.asp_job.specs.declared.job.Work.{Work}
use Rattle.asp_job.specs.declared.job.Work.TheVariants as work
use Rattle.asp_job.specs.declared.request.Request.{Request}
use Rattle.asp_job.specs.declared.session.SessionState.{SessionState}
use Rattle.asp_job.specs.Told.{Told, Outcome, Wants, Ends}
use Rattle.asp_objects.specs.declared.objects.PageObjects.{PageObjects}
use Rattle.asp_objects.specs.Members.{asked, answered}
use Rattle.asp_response.specs.Fixed.{not_allowed_of}
use Rattle.asp_site.specs.declared.site.Page.{Page}
use Rattle.asp_site.specs.declared.site.Site.{Site}
use Rattle.asp_site.specs.Lookup.{page_at, static_at}
use Rattle.asp_acts.specs.declared.course.Course.{Course}
use Rattle.asp_acts.specs.declared.course.Way.{Way}
use Rattle.asp_acts.specs.declared.course.Way.TheVariants.{Wants as WantsReply, On}
use Rattle.asp_acts.specs.ActEnds as ends
use Rattle.asp_acts.specs.ActEnds.{TellsFirst, ends_of}
use Rattle.asp_acts.specs.Acts as spec
use Rattle.asp_acts.specs.Failures.{fail_of}
use Rattle.asp_acts.specs.Events as events
use Rattle.asp_acts.specs.Pages as pages
use Rattle.asp_acts.specs.Running.{does, work_of}

-- how far acts came tells the first failing one of these ends
abbrev Telling : List ActEnd → Way → Type 0
Telling ends (On course) = TellsFirst ends course.tally.fail
Telling ends (WantsReply call) = Unit {0}

-- and so does what a run comes to
abbrev TellingOutcome : List ActEnd → Outcome → Type 0
TellingOutcome ends (Wants call) = Unit {0}
TellingOutcome ends (Ends finished) = TellsFirst ends finished.fail

-- ---- one act

only_one : (page : Page) (how : ActEnd) → TellsFirst (how ∷ []) (fail_of page how)
only_one page end.Done = refl
only_one page end.Stopped = refl
only_one page (end.Error number source description line) = refl
only_one page (end.Limit kind line) = refl

one_more : (earlier : List ActEnd) (failed : Option Fail) (page : Page) (how : ActEnd) → TellsFirst earlier failed
    → TellsFirst (earlier ++ how ∷ []) (option_or failed (fail_of page how))
one_more [] None page how tells = only_one page how
one_more [] (Some failed) page how tells = absurd cc
one_more (end.Done ∷ earlier) failed page how tells = one_more earlier failed page how tells
one_more (end.Stopped ∷ earlier) failed page how tells = one_more earlier failed page how tells
one_more (end.Error number source description line ∷ earlier) (Some failed) page how tells = tells
one_more (end.Error number source description line ∷ earlier) None page how tells = absurd tells
one_more (end.Limit kind line ∷ earlier) (Some failed) page how tells = tells
one_more (end.Limit kind line ∷ earlier) None page how tells = absurd tells

came_telling : (earlier : List ActEnd) (page : Page) (course : Course) (found : Option PlainEnd × PageObjects)
    (comes : found.0 ≢ None) → TellsFirst earlier course.tally.fail
    → Telling (earlier ++ ends.end_in found.0) (spec.came page course.tally found comes)
came_telling earlier page course (Some (Ended done), objects) comes tells =
    one_more earlier course.tally.fail page done.end tells
came_telling earlier page course (Some (WantsCall call), objects) comes tells = tt
came_telling earlier page course (None, objects) comes tells = absurd (comes refl)

act_telling : (earlier : List ActEnd) (replies : List AppReply) (page : Page) (which : Act) (course : Course)
    → TellsFirst earlier course.tally.fail
    → Telling (earlier ++ ends.act_end replies page which course) (spec.act replies page which course)
unfolding spec.act
act_telling earlier replies page which course tells = came_telling earlier page course
    (act_of PageObjects (host asked answered) page.program which course.objects (drop course.objects.heard replies))
    (spec.act_comes page.program which course.objects (drop course.objects.heard replies)) tells

-- ---- one after another

no_more : (earlier : List ActEnd) (failed : Option Fail) → TellsFirst earlier failed
    → TellsFirst (earlier ++ []) failed
no_more earlier failed tells = subst (λ ends. TellsFirst ends failed) (sym (append-nil earlier)) tells

then_telling : (earlier : List ActEnd) (found : Way) (next : Course → Way) (after : Course → List ActEnd)
    → Telling earlier found
    → ((course : Course) → TellsFirst earlier course.tally.fail → Telling (earlier ++ after course) (next course))
    → Telling (earlier ++ ends.and_then_ends found after) (spec.and_then found next)
then_telling earlier (On course) next after tells goes = goes course tells
then_telling earlier (WantsReply call) next after tells goes = tt

choice_telling : (earlier : List ActEnd) (test : Bool) (one : Way) (ends : List ActEnd) (course : Course)
    → TellsFirst earlier course.tally.fail → Telling (earlier ++ ends) one
    → Telling (earlier ++ (if test then ends else [])) (if test then one else On course)
choice_telling earlier true one ends course tells goes = goes
choice_telling earlier false one ends course tells goes = no_more earlier course.tally.fail tells

event_in_telling : (earlier : List ActEnd) (replies : List AppReply) (page : Page) (number : Option ℕ)
    (course : Course) → TellsFirst earlier course.tally.fail
    → Telling (earlier ++ ends.event_in_end replies page number course) (spec.event_in replies page number course)
event_in_telling earlier replies page (Some number) course tells =
    act_telling earlier replies page (acts.Proc number) course tells
event_in_telling earlier replies page None course tells = no_more earlier course.tally.fail tells

event_telling : (earlier : List ActEnd) (replies : List AppReply) (found : Option Page) (word : List ℕ)
    (course : Course) → TellsFirst earlier course.tally.fail
    → Telling (earlier ++ ends.event_end replies found word course) (spec.event replies found word course)
event_telling earlier replies (Some page) word course tells =
    event_in_telling earlier replies page (spec.number_of word page.program.procs) course tells
event_telling earlier replies None word course tells = no_more earlier course.tally.fail tells

starts_telling : (earlier : List ActEnd) (site : Site) (told : Told) (course : Course)
    → TellsFirst earlier course.tally.fail
    → Telling (earlier ++ ends.start_end site told course) (spec.starts site told course)
starts_telling earlier site told course tells = choice_telling earlier told.is_new
    (spec.event told.replies site.events (codes "Session_OnStart") course)
    (ends.event_end told.replies site.events (codes "Session_OnStart") course) course tells
    (event_telling earlier told.replies site.events (codes "Session_OnStart") course tells)

body_telling : (earlier : List ActEnd) (told : Told) (page : Page) (course : Course)
    → TellsFirst earlier course.tally.fail
    → Telling (earlier ++ ends.body_end told page course) (spec.body told page course)
body_telling earlier told page course tells = choice_telling earlier course.tally.goes_on (spec.act told.replies page acts.Body course)
    (ends.act_end told.replies page acts.Body course) course tells
    (act_telling earlier told.replies page acts.Body course tells)

quiet_telling : (ends : List ActEnd) (failure : Option (List ℕ)) (found : Way) → Telling ends found
    → Telling ends (spec.quiet failure found)
quiet_telling ends failure (On course) tells = tells
quiet_telling ends failure (WantsReply call) tells = tt

leaves_telling : (earlier : List ActEnd) (site : Site) (told : Told) (course : Course)
    → TellsFirst earlier course.tally.fail
    → Telling (earlier ++ ends.leave_end site told course) (spec.leaves site told course)
leaves_telling earlier site told course tells = choice_telling earlier course.objects.is_abandoned (spec.closes site told course)
    (ends.event_end told.replies site.events (codes "Session_OnEnd") (spec.outside course)) course tells
    (quiet_telling (earlier ++ ends.event_end told.replies site.events (codes "Session_OnEnd") (spec.outside course))
    course.tally.failure (spec.ending site told course)
    (event_telling earlier told.replies site.events (codes "Session_OnEnd") (spec.outside course) tells))

page_telling : (site : Site) (told : Told) (page : Page) (course : Course) → TellsFirst [] course.tally.fail
    → Telling (ends.page_act_ends site told page course) (spec.page_acts site told page course)
unfolding spec.page_acts
page_telling site told page course tells =
    let starting = ends.start_end site told course in
    let bodies = ends.and_then_ends (spec.starts site told course) (ends.body_end told page) in
    let opened = then_telling starting (spec.starts site told course) (spec.body told page) (ends.body_end told page)
    (starts_telling [] site told course tells) (body_telling starting told page) in
    then_telling (starting ++ bodies) (spec.opens site told page course) (spec.leaves site told)
    (ends.leave_end site told) opened (leaves_telling (starting ++ bodies) site told)

-- ---- runs

page_outcome : (ends : List ActEnd) (told : Told) (request : Request) (page : Page) (found : Way)
    → Telling ends found → TellingOutcome ends (pages.page_came told request page found)
page_outcome ends told request page (On course) tells = tells
page_outcome ends told request page (WantsReply call) tells = tt

taken_telling : (test : Bool) (run refused : Outcome) (ends : List ActEnd) → TellingOutcome [] refused
    → TellingOutcome ends run → TellingOutcome (if test then ends else []) (if test then run else refused)
taken_telling true run refused ends other goes = goes
taken_telling false run refused ends other goes = other

found_telling : (site : Site) (told : Told) (request : Request) (page : Option Page) (file : Option SiteFile)
    → TellingOutcome (ends.found_ends site told request page) (pages.found_work site told request page file)
found_telling site told request (Some page) file =
    let course = pages.page_begins told request page in
    let all = ends.page_act_ends site told page course in
    taken_telling (pages.page_takes request.verb) (pages.page_run site told request page)
    (Ends (pages.only_answers told (not_allowed_of true (pages.is_head request.verb) request.close))) all refl
    (page_outcome all told request page (spec.page_acts site told page course) (page_telling site told page course refl))
found_telling site told request None (Some file) = refl
found_telling site told request None None = refl

event_outcome : (ends : List ActEnd) (session : Option SessionState) (found : Way) → Telling ends found
    → TellingOutcome ends (events.event_came session found)
event_outcome ends session (On course) tells = tells
event_outcome ends session (WantsReply call) tells = tt

session_telling : (site : Site) (told : Told) (session : Option SessionState)
    → TellingOutcome (ends.session_ends site told session) (events.session_end site told session)
session_telling site told (Some session) =
    let course = spec.course_of (events.event_objects (Some session)) in
    event_outcome (ends.event_end told.replies site.events (codes "Session_OnEnd") course) None
    (spec.event told.replies site.events (codes "Session_OnEnd") course)
    (event_telling [] told.replies site.events (codes "Session_OnEnd") course refl)
session_telling site told None = refl

application_telling : (site : Site) (told : Told) (word : List ℕ)
    → TellingOutcome (ends.event_end told.replies site.events word (spec.course_of (events.event_objects None)))
    (events.application_event site told word)
application_telling site told word =
    let course = spec.course_of (events.event_objects None) in
    event_outcome (ends.event_end told.replies site.events word course) told.session
    (spec.event told.replies site.events word course)
    (event_telling [] told.replies site.events word course refl)

work_telling : (site : Site) (told : Told) (what : Work)
    → TellingOutcome (ends.work_ends site told what) (work_of site told what)
work_telling site told (work.Page request) =
    found_telling site told request (page_at site request.path) (static_at site request.path)
work_telling site told work.Start = application_telling site told (codes "Application_OnStart")
work_telling site told work.SessionEnd = session_telling site told told.session
work_telling site told work.Stop = application_telling site told (codes "Application_OnEnd")

-- what a run tells of its acts
pub runs_tell : (site : Site) (told : Told) (finished : Finished) → does site told ≡ Ends finished
    → TellsFirst (ends_of site told) finished.fail
unfolding does
runs_tell site told finished is =
    subst (TellingOutcome (ends_of site told)) is (work_telling site told told.job.work)
