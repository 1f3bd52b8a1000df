-- What a run answers is sound, where the letters of its session's key are printable.
use Rattle.std.proofs.Common.{ℕ, ◌≡◌, ◌≢◌, Bool, true, false, ◌||◌, if◌then◌else◌, List, [], codes, drop}
use Rattle.std.proofs.Common.{Option, Some, None, IfSome, Ok, Err, refl, sym, subst}
use Rattle.std.proofs.lemmas.List.Elements.{All-cons, All-nil}
use Rattle.vb_value.specs.declared.application.AppReply.{AppReply}
use Rattle.vb_value.specs.declared.site_file.SiteFile.{SiteFile}
use Rattle.vb_syntax.specs.declared.act.Act.{Act}
use Rattle.vb_syntax.specs.declared.act.Act.TheVariants as acts
use Rattle.vb_meaning.specs.declared.plain_end.PlainEnd.{PlainEnd}
use Rattle.vb_meaning.specs.declared.plain_end.PlainEnd.TheVariants.{Wants as WantsCall, Ends as Ended}
use Rattle.vb_meaning.specs.Acts.{act_of}
use Rattle.vb_objects.specs.Seen.{host}
use Rattle.act_laws.proofs.Asking.{Leaves, asking_keeps}
use Rattle.asp_job.specs.declared.answer.Answer.{Answer}
use Rattle.asp_job.specs.declared.answer.Finished.{Finished}
use Rattle.asp_job.specs.declared.job.Work.{Work}
use Rattle.asp_job.specs.declared.job.Work.TheVariants as work
use Rattle.asp_job.specs.declared.request.Request.{Request}
use Rattle.asp_job.specs.declared.session.SessionState.{SessionState}
use Rattle.asp_job.specs.Told.{Told, Outcome, Wants, Ends}
use Rattle.asp_objects.specs.declared.objects.PageObjects.{PageObjects}
use Rattle.asp_objects.specs.Drafting.{IsSaid, LeavesSaid}
use Rattle.asp_objects.specs.Members.{answered, asked, fresh_objects}
use Rattle.asp_objects.specs.Said.{Said as ObjectsSaid}
use Rattle.asp_objects.proofs.Drafting.{answered_drafts, asked_drafts}
use Rattle.asp_response.specs.Calls.{DraftCall, said_by}
use Rattle.asp_response.specs.Finish.{finished}
use Rattle.asp_response.specs.Fixed.{not_allowed_of, status_answer_of}
use Rattle.asp_response.specs.Sound.{ArePrintable, IsPrintable, IsSound, IsSoundHeader}
use Rattle.asp_response.proofs.Printable.{printable_of}
use Rattle.asp_site.specs.declared.site.Page.{Page}
use Rattle.asp_site.specs.declared.site.Site.{Site}
use Rattle.asp_site.specs.Endings.{has_ending, media_type_of}
use Rattle.asp_site.specs.Lookup.{page_at, static_at}
use Rattle.asp_acts.specs.declared.course.Course.{Course}
use Rattle.asp_acts.specs.declared.course.Way.{Way}
use Rattle.asp_acts.specs.declared.course.Way.TheVariants.{Wants as WantsReply, On}
use Rattle.asp_acts.specs.Acts as spec
use Rattle.asp_acts.specs.Events as events
use Rattle.asp_acts.specs.Pages as pages
use Rattle.asp_acts.specs.Running.{does, work_of}

-- the laws of answers
abbrev pub DraftsSound : Type 0
DraftsSound = (calls : List DraftCall) (letters failure : Option (List ℕ)) (head_only close : Bool)
    → ArePrintable letters → IsSound (finished (said_by calls) letters failure head_only close)

abbrev pub StatusesSound : Type 0
StatusesSound = (status : ℕ) (head_only close : Bool) → IsSound (status_answer_of status head_only close)

abbrev pub MethodsSound : Type 0
MethodsSound = (page head_only close : Bool) → IsSound (not_allowed_of page head_only close)

-- ---- drafts through acts

leaves : (said : ObjectsSaid) → LeavesSaid said → Leaves IsSaid said
leaves (Ok (what, left)) said = said
leaves (Err (why, left)) said = said

-- how far acts came, with a draft that was said
abbrev IsSaidWay : Way → Type 0
IsSaidWay (On course) = IsSaid course.objects
IsSaidWay (WantsReply call) = Unit {0}

came_said : (page : Page) (course : Course) (found : Option PlainEnd × PageObjects) (comes : found.0 ≢ None)
    → IsSaid found.1 → IsSaidWay (spec.came page course.tally found comes)
came_said page course (Some (Ended done), objects) comes said = said
came_said page course (Some (WantsCall call), objects) comes said = tt
came_said page course (None, objects) comes said = absurd (comes refl)

act_said : (replies : List AppReply) (page : Page) (which : Act) (course : Course) → IsSaid course.objects
    → IsSaidWay (spec.act replies page which course)
unfolding spec.act
act_said replies page which course said = came_said page course
    (act_of PageObjects (host asked answered) page.program which course.objects (drop course.objects.heard replies))
    (spec.act_comes page.program which course.objects (drop course.objects.heard replies))
    (asking_keeps PageObjects (host asked answered) IsSaid
    (λ member arguments objects is. leaves (asked member arguments objects) (asked_drafts member arguments objects is))
    (λ member arguments reply objects is.
    leaves (answered member arguments reply objects) (answered_drafts member arguments reply objects is))
    page.program which course.objects (drop course.objects.heard replies) said)

then_said : (found : Way) (next : Course → Way) → IsSaidWay found
    → ((course : Course) → IsSaid course.objects → IsSaidWay (next course)) → IsSaidWay (spec.and_then found next)
then_said (On course) next said goes = goes course said
then_said (WantsReply call) next said goes = tt

choice_said : (test : Bool) (first second : Way) → IsSaidWay first → IsSaidWay second
    → IsSaidWay (if test then first else second)
choice_said true first second one other = one
choice_said false first second one other = other

event_in_said : (replies : List AppReply) (page : Page) (number : Option ℕ) (course : Course) → IsSaid course.objects
    → IsSaidWay (spec.event_in replies page number course)
event_in_said replies page (Some number) course said = act_said replies page (acts.Proc number) course said
event_in_said replies page None course said = said

event_said : (replies : List AppReply) (found : Option Page) (word : List ℕ) (course : Course)
    → IsSaid course.objects → IsSaidWay (spec.event replies found word course)
event_said replies (Some page) word course said =
    event_in_said replies page (spec.number_of word page.program.procs) course said
event_said replies None word course said = said

quiet_said : (failure : Option (List ℕ)) (found : Way) → IsSaidWay found → IsSaidWay (spec.quiet failure found)
quiet_said failure (On course) said = said
quiet_said failure (WantsReply call) said = tt

page_said : (site : Site) (told : Told) (page : Page) (course : Course) → IsSaid course.objects
    → IsSaidWay (spec.page_acts site told page course)
unfolding spec.page_acts
page_said site told page course said = then_said (spec.opens site told page course) (spec.leaves site told)
    (then_said (spec.starts site told course) (spec.body told page)
    (choice_said told.is_new _ _ (event_said told.replies site.events (codes "Session_OnStart") course said) said)
    (λ course said. choice_said course.tally.goes_on _ _ (act_said told.replies page acts.Body course said) said))
    (λ course said. choice_said course.objects.is_abandoned _ _ (quiet_said course.tally.failure
    (spec.ending site told course)
    (event_said told.replies site.events (codes "Session_OnEnd") (spec.outside course) said)) said)

-- ---- static files

choice_printable : (test : Bool) {one other : List ℕ} → IsPrintable one → IsPrintable other
    → IsPrintable (if test then one else other)
choice_printable true one other = one
choice_printable false one other = other

media_printable : (path : List ℕ) → IsPrintable (media_type_of path)
media_printable path =
    choice_printable (has_ending (codes ".htm") path || has_ending (codes ".html") path)
    (printable_of (codes "text/html") refl)
    (choice_printable (has_ending (codes ".txt") path) (printable_of (codes "text/plain") refl)
    (choice_printable (has_ending (codes ".css") path) (printable_of (codes "text/css") refl)
    (choice_printable (has_ending (codes ".js") path) (printable_of (codes "text/javascript") refl)
    (choice_printable (has_ending (codes ".xml") path) (printable_of (codes "text/xml") refl)
    (choice_printable (has_ending (codes ".gif") path) (printable_of (codes "image/gif") refl)
    (choice_printable (has_ending (codes ".png") path) (printable_of (codes "image/png") refl)
    (choice_printable (has_ending (codes ".jpg") path) (printable_of (codes "image/jpeg") refl)
    (choice_printable (has_ending (codes ".ico") path) (printable_of (codes "image/x-icon") refl)
    (printable_of (codes "application/octet-stream") refl)))))))))

module _ (drafts : DraftsSound) (statuses : StatusesSound) (methods : MethodsSound) where
  file_sound : (file : SiteFile) (request : Request) → IsSound (pages.file_answer file request)
  file_sound file request = record {
    reason = (statuses 200 (pages.is_head request.verb) request.close).reason;
    headers = All-cons IsSoundHeader (record { name = codes "Content-Type"; value = media_type_of file.path }) []
        (record { name = printable_of (codes "Content-Type") refl; value = media_printable file.path })
        (All-nil IsSoundHeader);
  }

  -- ---- runs

  -- what a run comes to has a sound answer, where it has one
  abbrev SoundOutcome : Outcome → Type 0
  SoundOutcome (Wants call) = Unit {0}
  SoundOutcome (Ends left) = IfSome left.answer IsSound

  page_sound : (told : Told) (request : Request) (page : Page) (found : Way) → ArePrintable told.cookie
      → IsSaidWay found → SoundOutcome (pages.page_came told request page found)
  page_sound told request page (On course) letters said = subst
      (λ said. IsSound (finished said told.cookie course.tally.failure (pages.is_head request.verb) request.close))
      (sym said.1)
      (drafts said.0 told.cookie course.tally.failure (pages.is_head request.verb) request.close letters)
  page_sound told request page (WantsReply call) letters said = tt

  choice_sound : (test : Bool) (first second : Outcome) → SoundOutcome first → SoundOutcome second
      → SoundOutcome (if test then first else second)
  choice_sound true first second one other = one
  choice_sound false first second one other = other

  either_sound : (test : Bool) {one other : Answer} → IsSound one → IsSound other
      → IsSound (if test then one else other)
  either_sound true one other = one
  either_sound false one other = other

  fresh_said : (request : Request) (path : List ℕ) (session : Option SessionState)
      → IsSaid (fresh_objects request path session)
  unfolding said_by
  fresh_said request path session = ([], refl)

  found_sound : (site : Site) (told : Told) (request : Request) (page : Option Page) (file : Option SiteFile)
      → ArePrintable told.cookie → SoundOutcome (pages.found_work site told request page file)
  found_sound site told request (Some page) file letters = choice_sound (pages.page_takes request.verb) _ _
      (page_sound told request page _ letters (page_said site told page (pages.page_begins told request page)
      (fresh_said request page.path (pages.session_given page told.session))))
      (methods true (pages.is_head request.verb) request.close)
  found_sound site told request None (Some file) letters = either_sound (pages.file_takes request.verb)
      (file_sound file request) (methods false (pages.is_head request.verb) request.close)
  found_sound site told request None None letters = statuses 404 (pages.is_head request.verb) request.close

  event_sound : (session : Option SessionState) (way : Way) → SoundOutcome (events.event_came session way)
  event_sound session (On course) = tt
  event_sound session (WantsReply call) = tt

  session_sound : (site : Site) (told : Told) (session : Option SessionState)
      → SoundOutcome (events.session_end site told session)
  session_sound site told (Some session) = event_sound None _
  session_sound site told None = tt

  work_sound : (site : Site) (told : Told) (what : Work) → ArePrintable told.cookie
      → SoundOutcome (work_of site told what)
  work_sound site told (work.Page request) letters =
      found_sound site told request (page_at site request.path) (static_at site request.path) letters
  work_sound site told work.Start letters = event_sound told.session _
  work_sound site told work.SessionEnd letters = session_sound site told told.session
  work_sound site told work.Stop letters = event_sound told.session _

  pub runs_sound : (site : Site) (told : Told) (left : Finished) → ArePrintable told.cookie
      → does site told ≡ Ends left → IfSome left.answer IsSound
  unfolding does
  runs_sound site told left letters is = subst SoundOutcome is (work_sound site told told.job.work letters)
