-- Where no limit ended an act of a run, as many objects have ended as were made.
use Rattle.std.proofs.Common.{ℕ, ◌≡◌, ◌≢◌, Bool, true, false, if◌then◌else◌, List, [], ◌∷◌, ◌++◌, codes, drop}
use Rattle.std.proofs.Common.{Option, Some, None, refl, sym, ap, subst}
use Rattle.vb_value.specs.declared.application.AppReply.{AppReply}
use Rattle.vb_value.specs.declared.site_file.SiteFile.{SiteFile}
use Rattle.vb_syntax.specs.declared.act.Act.{Act}
use Rattle.vb_syntax.specs.declared.act.Act.TheVariants as acts
use Rattle.vb_syntax.specs.declared.act.ActDone.{ActDone}
use Rattle.vb_syntax.specs.declared.act.ActEnd.{ActEnd}
use Rattle.vb_syntax.specs.declared.act.ActEnd.TheVariants as end
use Rattle.vb_meaning.specs.declared.plain_end.PlainEnd.{PlainEnd}
use Rattle.vb_meaning.specs.declared.plain_end.PlainEnd.TheVariants.{Wants as WantsCall, Ends as Ended}
use Rattle.vb_meaning.specs.Acts.{act_of}
use Rattle.vb_objects.specs.Seen.{host}
use Rattle.act_laws.specs.Terminators.{HaveEnded}
use Rattle.act_laws.proofs.Finishing.{objects_ended}
use Rattle.asp_job.specs.declared.answer.Finished.{Finished}
use Rattle.asp_job.specs.declared.job.Work.{Work}
use Rattle.asp_job.specs.declared.job.Work.TheVariants as work
use Rattle.asp_job.specs.declared.request.Request.{Request}
use Rattle.asp_job.specs.declared.session.SessionState.{SessionState}
use Rattle.asp_job.specs.Told.{Told, Outcome, Wants, Ends}
use Rattle.asp_objects.specs.declared.objects.PageObjects.{PageObjects}
use Rattle.asp_objects.specs.Members.{asked, answered}
use Rattle.asp_site.specs.declared.site.Page.{Page}
use Rattle.asp_site.specs.declared.site.Site.{Site}
use Rattle.asp_site.specs.Lookup.{page_at, static_at}
use Rattle.asp_acts.specs.declared.course.Course.{Course}
use Rattle.asp_acts.specs.declared.course.Way.{Way}
use Rattle.asp_acts.specs.declared.course.Way.TheVariants.{Wants as WantsReply, On}
use Rattle.asp_acts.specs.ActEnds as ends
use Rattle.asp_acts.specs.ActEnds.{IsNoLimit, MetNoLimit, ends_of}
use Rattle.asp_acts.specs.Acts as spec
use Rattle.asp_acts.specs.Events as events
use Rattle.asp_acts.specs.Pages as pages
use Rattle.asp_acts.specs.Running.{does, work_of}

-- as many objects have ended as were made
abbrev IsEven : Course → Type 0
IsEven course = course.tally.made ≡ course.tally.finished

-- the same of how far acts came
abbrev Even : Way → Type 0
Even (On course) = IsEven course
Even (WantsReply call) = Unit {0}

-- and of what a run comes to
abbrev EvenOutcome : Outcome → Type 0
EvenOutcome (Wants call) = Unit {0}
EvenOutcome (Ends finished) = finished.made ≡ finished.finished

first_met : (first others : List ActEnd) → MetNoLimit (first ++ others) → MetNoLimit first
first_met [] others met = tt
first_met (one ∷ first) others met = (met.0, first_met first others met.1)

others_met : (first others : List ActEnd) → MetNoLimit (first ++ others) → MetNoLimit others
others_met [] others met = met
others_met (one ∷ first) others met = others_met first others met.1

-- ---- one act

no_limit : (how : ActEnd) (made finished : ℕ) → IsNoLimit how → HaveEnded how made finished → made ≡ finished
no_limit end.Done made finished none ended = sym ended
no_limit end.Stopped made finished none ended = sym ended
no_limit (end.Error number source description line) made finished none ended = sym ended
no_limit (end.Limit kind line) made finished none ended = absurd none

came_even : (page : Page) (course : Course) (found : Option PlainEnd × PageObjects) (comes : found.0 ≢ None)
    → IsEven course → ((done : ActDone) → found.0 ≡ Some (Ended done) → HaveEnded done.end done.made done.finished)
    → MetNoLimit (ends.end_in found.0) → Even (spec.came page course.tally found comes)
came_even page course (Some (Ended done), objects) comes even ended met =
    let same : done.made ≡ done.finished = no_limit done.end done.made done.finished met.0 (ended done refl) in
    rw even (ap (λ count. spec.capped course.tally.finished count) same)
came_even page course (Some (WantsCall call), objects) comes even ended met = tt
came_even page course (None, objects) comes even ended met = absurd (comes refl)

act_even : (replies : List AppReply) (page : Page) (which : Act) (course : Course) → IsEven course
    → MetNoLimit (ends.act_end replies page which course) → Even (spec.act replies page which course)
unfolding spec.act
act_even replies page which course even met = came_even page course
    (act_of PageObjects (host asked answered) page.program which course.objects (drop course.objects.heard replies))
    (spec.act_comes page.program which course.objects (drop course.objects.heard replies)) even
    (λ done is. objects_ended PageObjects (host asked answered) page.program which course.objects
    (drop course.objects.heard replies) done is) met

-- ---- one after another

then_even : (found : Way) (next : Course → Way) (after : Course → List ActEnd) → Even found
    → ((course : Course) → IsEven course → MetNoLimit (after course) → Even (next course))
    → MetNoLimit (ends.and_then_ends found after) → Even (spec.and_then found next)
then_even (On course) next after even goes met = goes course even met
then_even (WantsReply call) next after even goes met = tt

choice_even : (test : Bool) (one : Way) (ends : List ActEnd) (course : Course) → IsEven course
    → (MetNoLimit ends → Even one) → MetNoLimit (if test then ends else [])
    → Even (if test then one else On course)
choice_even true one ends course even goes met = goes met
choice_even false one ends course even goes met = even

event_in_even : (replies : List AppReply) (page : Page) (number : Option ℕ) (course : Course) → IsEven course
    → MetNoLimit (ends.event_in_end replies page number course) → Even (spec.event_in replies page number course)
event_in_even replies page (Some number) course even met = act_even replies page (acts.Proc number) course even met
event_in_even replies page None course even met = even

event_even : (replies : List AppReply) (found : Option Page) (word : List ℕ) (course : Course) → IsEven course
    → MetNoLimit (ends.event_end replies found word course) → Even (spec.event replies found word course)
event_even replies (Some page) word course even met =
    event_in_even replies page (spec.number_of word page.program.procs) course even met
event_even replies None word course even met = even

starts_even : (site : Site) (told : Told) (course : Course) → IsEven course
    → MetNoLimit (ends.start_end site told course) → Even (spec.starts site told course)
starts_even site told course even met = choice_even told.is_new _ _ course even
    (event_even told.replies site.events (codes "Session_OnStart") course even) met

body_even : (told : Told) (page : Page) (course : Course) → IsEven course
    → MetNoLimit (ends.body_end told page course) → Even (spec.body told page course)
body_even told page course even met =
    choice_even course.tally.goes_on _ _ course even (act_even told.replies page acts.Body course even) met

quiet_even : (failure : Option (List ℕ)) (found : Way) → Even found → Even (spec.quiet failure found)
quiet_even failure (On course) even = even
quiet_even failure (WantsReply call) even = tt

leaves_even : (site : Site) (told : Told) (course : Course) → IsEven course
    → MetNoLimit (ends.leave_end site told course) → Even (spec.leaves site told course)
leaves_even site told course even met = choice_even course.objects.is_abandoned _ _ course even
    (λ inside. quiet_even course.tally.failure (spec.ending site told course)
    (event_even told.replies site.events (codes "Session_OnEnd") (spec.outside course) even inside)) met

page_even : (site : Site) (told : Told) (page : Page) (course : Course) → IsEven course
    → MetNoLimit (ends.page_act_ends site told page course) → Even (spec.page_acts site told page course)
unfolding spec.page_acts
page_even site told page course even met =
    let starting = ends.start_end site told course in
    let bodies = ends.and_then_ends (spec.starts site told course) (ends.body_end told page) in
    let leaving = ends.and_then_ends (spec.opens site told page course) (ends.leave_end site told) in
    let before = first_met (starting ++ bodies) leaving met in
    let opened = then_even (spec.starts site told course) (spec.body told page) (ends.body_end told page)
    (starts_even site told course even (first_met starting bodies before)) (body_even told page)
    (others_met starting bodies before) in
    then_even (spec.opens site told page course) (spec.leaves site told) (ends.leave_end site told) opened
    (leaves_even site told) (others_met (starting ++ bodies) leaving met)

-- ---- runs

page_outcome : (told : Told) (request : Request) (page : Page) (found : Way) → Even found
    → EvenOutcome (pages.page_came told request page found)
page_outcome told request page (On course) even = even
page_outcome told request page (WantsReply call) even = tt

taken_even : (test : Bool) (run refused : Outcome) (ends : List ActEnd) → EvenOutcome refused
    → (MetNoLimit ends → EvenOutcome run) → MetNoLimit (if test then ends else [])
    → EvenOutcome (if test then run else refused)
taken_even true run refused ends other goes met = goes met
taken_even false run refused ends other goes met = other

found_even : (site : Site) (told : Told) (request : Request) (page : Option Page) (file : Option SiteFile)
    → MetNoLimit (ends.found_ends site told request page)
    → EvenOutcome (pages.found_work site told request page file)
found_even site told request (Some page) file met = taken_even (pages.page_takes request.verb) _ _ _ refl
    (λ inside. page_outcome told request page _
    (page_even site told page (pages.page_begins told request page) refl inside)) met
found_even site told request None (Some file) met = refl
found_even site told request None None met = refl

event_outcome : (session : Option SessionState) (found : Way) → Even found
    → EvenOutcome (events.event_came session found)
event_outcome session (On course) even = even
event_outcome session (WantsReply call) even = tt

session_even : (site : Site) (told : Told) (session : Option SessionState)
    → MetNoLimit (ends.session_ends site told session) → EvenOutcome (events.session_end site told session)
session_even site told (Some session) met = event_outcome None _ (event_even told.replies site.events
    (codes "Session_OnEnd") (spec.course_of (events.event_objects (Some session))) refl met)
session_even site told None met = refl

application_even : (site : Site) (told : Told) (word : List ℕ)
    → MetNoLimit (ends.event_end told.replies site.events word (spec.course_of (events.event_objects None)))
    → EvenOutcome (events.application_event site told word)
application_even site told word met = event_outcome told.session _
    (event_even told.replies site.events word (spec.course_of (events.event_objects None)) refl met)

work_even : (site : Site) (told : Told) (what : Work) → MetNoLimit (ends.work_ends site told what)
    → EvenOutcome (work_of site told what)
work_even site told (work.Page request) met =
    found_even site told request (page_at site request.path) (static_at site request.path) met
work_even site told work.Start met = application_even site told (codes "Application_OnStart") met
work_even site told work.SessionEnd met = session_even site told told.session met
work_even site told work.Stop met = application_even site told (codes "Application_OnEnd") met

-- a run none of whose acts a limit ended
pub runs_end : (site : Site) (told : Told) (finished : Finished) → MetNoLimit (ends_of site told)
    → does site told ≡ Ends finished → finished.made ≡ finished.finished
unfolding does
runs_end site told finished met is = subst EvenOutcome is (work_even site told told.job.work met)
