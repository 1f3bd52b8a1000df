-- How the acts of a run end, one after another, as many as came to an end.
use Rattle.std.specs.Prelude.{ℕ, ◌≡◌, if◌then◌else◌, List, [], ◌∷◌, ◌++◌, codes, drop, Option, Some, None, IsSomeAnd}
use Rattle.vb_value.specs.declared.application.AppReply.{AppReply}
use Rattle.vb_syntax.specs.declared.act.Act.{Act}
use Rattle.vb_syntax.specs.declared.act.Act.TheVariants as act
use Rattle.vb_syntax.specs.declared.act.ActEnd.{ActEnd}
use Rattle.vb_syntax.specs.declared.act.ActEnd.TheVariants as end
use Rattle.vb_meaning.specs.declared.plain_end.PlainEnd.{PlainEnd}
use Rattle.vb_meaning.specs.declared.plain_end.PlainEnd.TheVariants.{Ends as Ended}
use Rattle.vb_meaning.specs.Acts.{act_of}
use Rattle.vb_objects.specs.Seen.{host}
use Rattle.asp_job.specs.declared.answer.Fail.{Fail}
use Rattle.asp_job.specs.declared.answer.Fail.TheVariants as fail
use Rattle.asp_job.specs.declared.job.Work.{Work}
use Rattle.asp_job.specs.declared.job.Work.TheVariants as work
use Rattle.asp_job.specs.declared.request.Request.{Request}
use Rattle.asp_job.specs.declared.session.SessionState.{SessionState}
use Rattle.asp_job.specs.Told.{Told}
use Rattle.asp_objects.specs.declared.objects.PageObjects.{PageObjects}
use Rattle.asp_objects.specs.Members.{asked, answered}
use Rattle.asp_site.specs.declared.site.Page.{Page}
use Rattle.asp_site.specs.declared.site.Site.{Site}
use Rattle.asp_site.specs.Lookup.{page_at}
use Rattle.asp_acts.specs.declared.course.Course.{Course}
use Rattle.asp_acts.specs.declared.course.Way.{Way}
use Rattle.asp_acts.specs.declared.course.Way.TheVariants.{On, Wants}
use Rattle.asp_acts.specs.Acts.{course_of, number_of, starts, opens, outside}
use Rattle.asp_acts.specs.Events.{event_objects}
use Rattle.asp_acts.specs.Pages.{page_takes, page_begins}

-- how an act ended, if it did
abbrev pub end_in : Option PlainEnd → List ActEnd
end_in (Some (Ended done)) = done.end ∷ []
end_in _ = []

-- the same of an act of a page's program
abbrev pub act_end : List AppReply → Page → Act → Course → List ActEnd
act_end replies page which course = end_in
    (act_of PageObjects (host asked answered) page.program which course.objects (drop course.objects.heard replies)).0

-- the ends of what follows, none where a call is wanted
abbrev pub and_then_ends : Way → (Course → List ActEnd) → List ActEnd
and_then_ends (On course) ends = ends course
and_then_ends (Wants call) ends = []

abbrev pub event_in_end : List AppReply → Page → Option ℕ → Course → List ActEnd
event_in_end replies page (Some number) course = act_end replies page (act.Proc number) course
event_in_end replies page None course = []

-- the end of an event, none where the site does not have it
abbrev pub event_end : List AppReply → Option Page → List ℕ → Course → List ActEnd
event_end replies (Some page) word course = event_in_end replies page (number_of word page.program.procs) course
event_end replies None word course = []

abbrev pub start_end : Site → Told → Course → List ActEnd
start_end site told course =
    if told.is_new then event_end told.replies site.events (codes "Session_OnStart") course else []

abbrev pub body_end : Told → Page → Course → List ActEnd
body_end told page course = if course.tally.goes_on then act_end told.replies page act.Body course else []

abbrev pub leave_end : Site → Told → Course → List ActEnd
leave_end site told course = if course.objects.is_abandoned
    then event_end told.replies site.events (codes "Session_OnEnd") (outside course) else []

-- the ends of the acts of a page
abbrev pub page_act_ends : Site → Told → Page → Course → List ActEnd
page_act_ends site told page course = start_end site told course
    ++ and_then_ends (starts site told course) (body_end told page)
    ++ and_then_ends (opens site told page course) (leave_end site told)

abbrev pub found_ends : Site → Told → Request → Option Page → List ActEnd
found_ends site told request (Some page) =
    if page_takes request.verb then page_act_ends site told page (page_begins told request page) else []
found_ends site told request None = []

abbrev pub session_ends : Site → Told → Option SessionState → List ActEnd
session_ends site told (Some session) =
    event_end told.replies site.events (codes "Session_OnEnd") (course_of (event_objects (Some session)))
session_ends site told None = []

abbrev pub work_ends : Site → Told → Work → List ActEnd
work_ends site told (work.Page request) = found_ends site told request (page_at site request.path)
work_ends site told work.Start =
    event_end told.replies site.events (codes "Application_OnStart") (course_of (event_objects None))
work_ends site told work.SessionEnd = session_ends site told told.session
work_ends site told work.Stop =
    event_end told.replies site.events (codes "Application_OnEnd") (course_of (event_objects None))

-- how the acts of a run ended that was told this
abbrev pub ends_of : Site → Told → List ActEnd
ends_of site told = work_ends site told told.job.work

-- no limit ended an act, nor any of these
abbrev pub IsNoLimit : ActEnd → Type 0
IsNoLimit (end.Limit kind line) = ⊥
IsNoLimit _ = Unit {0}

abbrev pub MetNoLimit : List ActEnd → Type 0
MetNoLimit [] = Unit {0}
MetNoLimit (first ∷ others) = IsNoLimit first × MetNoLimit others

-- what is said of a failing run tells how one of its acts ended: the number of its error, or its limit
abbrev pub Tells : Fail → ActEnd → Type 0
Tells (fail.Error number at) (end.Error other source description line) = number ≡ other
Tells (fail.Limit kind at) (end.Limit other line) = kind ≡ other
Tells _ _ = ⊥

-- the first of these that failed is told, and nothing where none did
abbrev pub TellsFirst : List ActEnd → Option Fail → Type 0
TellsFirst [] told = told ≡ None
TellsFirst (end.Done ∷ others) told = TellsFirst others told
TellsFirst (end.Stopped ∷ others) told = TellsFirst others told
TellsFirst (first ∷ others) told = IsSomeAnd told (λ failed. Tells failed first)
