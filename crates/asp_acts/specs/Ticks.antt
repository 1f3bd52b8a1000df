-- How many ticks a run spends: those of its acts.
use Rattle.std.specs.Prelude.{ℕ, ◌+◌, List, codes, drop, if◌then◌else◌, Option, Some, None}
use Rattle.vb_value.specs.declared.application.AppReply.{AppReply}
use Rattle.vb_syntax.specs.declared.act.Act.{Act}
use Rattle.vb_syntax.specs.declared.act.Act.TheVariants as act
use Rattle.vb_meaning.specs.Ticks.{ticks_of as act_ticks}
use Rattle.vb_objects.specs.Seen.{host}
use Rattle.asp_job.specs.declared.job.Work.{Work}
use Rattle.asp_job.specs.declared.job.Work.TheVariants as work
use Rattle.asp_job.specs.declared.request.Request.{Request}
use Rattle.asp_job.specs.declared.session.SessionState.{SessionState}
use Rattle.asp_job.specs.Told.{Told}
use Rattle.asp_objects.specs.declared.objects.PageObjects.{PageObjects}
use Rattle.asp_objects.specs.Members.{asked, answered}
use Rattle.asp_site.specs.declared.site.Page.{Page}
use Rattle.asp_site.specs.declared.site.Site.{Site}
use Rattle.asp_site.specs.Lookup.{page_at}
use Rattle.asp_acts.specs.declared.course.Course.{Course}
use Rattle.asp_acts.specs.declared.course.Way.{Way}
use Rattle.asp_acts.specs.declared.course.Way.TheVariants.{On, Wants}
use Rattle.asp_acts.specs.Acts.{course_of, number_of, starts, opens, outside}
use Rattle.asp_acts.specs.Events.{event_objects}
use Rattle.asp_acts.specs.Pages.{page_takes, page_begins as course_of_page}

-- the ticks of an act of a page's program
abbrev pub ticks_in : List AppReply → Page → Act → Course → ℕ
ticks_in replies page which course = act_ticks PageObjects (host asked answered) page.program which course.objects
    (drop course.objects.heard replies)

-- the ticks of what follows, none where a call is wanted
abbrev pub and_then_ticks : Way → (Course → ℕ) → ℕ
and_then_ticks (On course) spends = spends course
and_then_ticks (Wants call) spends = 0

abbrev pub ticks_of_event_in : List AppReply → Page → Option ℕ → Course → ℕ
ticks_of_event_in replies page (Some number) course = ticks_in replies page (act.Proc number) course
ticks_of_event_in replies page None course = 0

-- the ticks of an event, none where the site does not have it
abbrev pub event_ticks : List AppReply → Option Page → List ℕ → Course → ℕ
event_ticks replies (Some page) word course =
    ticks_of_event_in replies page (number_of word page.program.procs) course
event_ticks replies None word course = 0

abbrev pub start_ticks : Site → Told → Course → ℕ
start_ticks site told course =
    if told.is_new then event_ticks told.replies site.events (codes "Session_OnStart") course else 0

abbrev pub body_ticks : Told → Page → Course → ℕ
body_ticks told page course = if course.tally.goes_on then ticks_in told.replies page act.Body course else 0

abbrev pub leave_ticks : Site → Told → Course → ℕ
leave_ticks site told course = if course.objects.is_abandoned
    then event_ticks told.replies site.events (codes "Session_OnEnd") (outside course) else 0

-- the ticks of the acts of a page
unfoldable pub page_ticks : Site → Told → Page → Course → ℕ
page_ticks site told page course = start_ticks site told course
    + and_then_ticks (starts site told course) (body_ticks told page)
    + and_then_ticks (opens site told page course) (leave_ticks site told)

abbrev pub found_ticks : Site → Told → Request → Option Page → ℕ
found_ticks site told request (Some page) =
    if page_takes request.verb then page_ticks site told page (course_of_page told request page) else 0
found_ticks site told request None = 0

abbrev pub end_ticks : Site → Told → Option SessionState → ℕ
end_ticks site told (Some session) =
    event_ticks told.replies site.events (codes "Session_OnEnd") (course_of (event_objects (Some session)))
end_ticks site told None = 0

-- the ticks that a run spends: those of its acts
abbrev pub ticks_of : Site → Told → Work → ℕ
ticks_of site told (work.Page request) = found_ticks site told request (page_at site request.path)
ticks_of site told work.Start =
    event_ticks told.replies site.events (codes "Application_OnStart") (course_of (event_objects None))
ticks_of site told work.SessionEnd = end_ticks site told told.session
ticks_of site told work.Stop =
    event_ticks told.replies site.events (codes "Application_OnEnd") (course_of (event_objects None))
