-- The acts of a run, one after another, over one session and one draft. Each takes the replies that those before it left.
use Rattle.std.specs.Prelude.{ℕ, ◌+◌, ◌-◌, ◌^◌, min, Bool, true, false, if◌then◌else◌, List, codes, drop, position}
use Rattle.std.specs.Prelude.{◌≢◌, Option, Some, None, refl}
use Rattle.std.specs.Option.{option_or}
use Rattle.vb_value.specs.declared.application.AppReply.{AppReply}
use Rattle.vb_value.specs.Folding.{same_name}
use Rattle.vb_syntax.specs.declared.act.Act.{Act}
use Rattle.vb_syntax.specs.declared.act.Act.TheVariants as acts
use Rattle.vb_syntax.specs.declared.act.ActDone.{ActDone}
use Rattle.vb_syntax.specs.declared.act.ActEnd.{ActEnd}
use Rattle.vb_syntax.specs.declared.act.ActEnd.TheVariants as end
use Rattle.vb_syntax.specs.declared.program.Program.{Program}
use Rattle.vb_meaning.specs.declared.plain_end.PlainEnd.{PlainEnd}
use Rattle.vb_meaning.specs.declared.plain_end.PlainEnd.TheVariants.{Wants as WantsCall, Ends as Ended}
use Rattle.vb_meaning.specs.Acts.{act_of}
use Rattle.vb_objects.specs.Seen.{host}
use Rattle.act_laws.proofs.Lacking.{objects_lack}
use Rattle.asp_job.specs.Told.{Told}
use Rattle.asp_objects.specs.declared.objects.PageObjects.{PageObjects}
use Rattle.asp_objects.specs.Members.{asked, answered, outside_page}
use Rattle.asp_objects.proofs.Remembering.{answered_remembers, asked_remembers}
use Rattle.asp_site.specs.declared.site.Page.{Page}
use Rattle.asp_site.specs.declared.site.Site.{Site}
use Rattle.asp_acts.specs.declared.course.Course.{Course}
use Rattle.asp_acts.specs.declared.course.Tally.{Tally}
use Rattle.asp_acts.specs.declared.course.Way.{Way}
use Rattle.asp_acts.specs.declared.course.Way.TheVariants.{Wants, On}
use Rattle.asp_acts.specs.Failures.{failure_text, fail_of}

-- before any act
abbrev pub no_tally : Tally
no_tally = record { fail = None; failure = None; goes_on = true; made = 0; finished = 0 }

abbrev pub course_of : PageObjects → Course
course_of objects = record { objects = objects; tally = no_tally }

-- ---- one act

-- a sum of numbers of objects, at most 2^32 - 1
abbrev pub capped : ℕ → ℕ → ℕ
capped one other = min (one + other) (2 ^ 32 - 1)

-- whether an act came to its end
abbrev pub is_done : ActEnd → Bool
is_done end.Done = true
is_done _ = false

-- after one act more: of those that failed the first counts
abbrev pub after : Page → ActDone → Tally → Tally
after page done tally = record {
  fail = option_or tally.fail (fail_of page done.end);
  failure = option_or tally.failure (failure_text page done.end);
  goes_on = is_done done.end;
  made = capped tally.made done.made;
  finished = capped tally.finished done.finished;
}

-- An act over the objects of a page has an end or wants a call, since memory never runs out for them.
pub act_comes : (program : Program) (which : Act) (objects : PageObjects) (replies : List AppReply)
    → (act_of PageObjects (host asked answered) program which objects replies).0 ≢ None
act_comes = objects_lack PageObjects (host asked answered) asked_remembers answered_remembers

-- what an act comes to
abbrev pub came : Page → Tally → (found : Option PlainEnd × PageObjects) → found.0 ≢ None → Way
came page tally (Some (Ended done), objects) comes = On (record { objects = objects; tally = after page done tally })
came page tally (Some (WantsCall call), objects) comes = Wants call
came page tally (None, objects) comes = absurd (comes refl)

-- an act of a page's program, with the replies that were not heard before it
unfoldable pub act : List AppReply → Page → Act → Course → Way
act replies page which course = let rest = drop course.objects.heard replies in came page course.tally
    (act_of PageObjects (host asked answered) page.program which course.objects rest)
    (act_comes page.program which course.objects rest)

-- what follows, unless a call is wanted
abbrev pub and_then : Way → (Course → Way) → Way
and_then (On course) next = next course
and_then (Wants call) next = Wants call

-- ---- events

-- the number of a procedure among those of a program
abbrev pub number_of : List ℕ → List (List ℕ) → Option ℕ
number_of word names = position (same_name word) names

abbrev pub event_in : List AppReply → Page → Option ℕ → Course → Way
event_in replies page (Some number) course = act replies page (acts.Proc number) course
event_in replies page None course = On course

-- the event of this name, if the site has it
abbrev pub event : List AppReply → Option Page → List ℕ → Course → Way
event replies (Some page) word course = event_in replies page (number_of word page.program.procs) course
event replies None word course = On course

-- Session_OnStart, in a new session
abbrev pub starts : Site → Told → Course → Way
starts site told course =
    if told.is_new then event told.replies site.events (codes "Session_OnStart") course else On course

-- the body of a page, unless Session_OnStart failed or stopped it
abbrev pub body : Told → Page → Course → Way
body told page course = if course.tally.goes_on then act told.replies page acts.Body course else On course

-- what an answer says stays as it was
abbrev pub quiet_course : Option (List ℕ) → Course → Course
quiet_course failure course = record course { tally = record (course.tally) { failure = failure } }

abbrev pub quiet : Option (List ℕ) → Way → Way
quiet failure (On course) = On (quiet_course failure course)
quiet failure (Wants call) = Wants call

abbrev pub outside : Course → Course
outside course = record course { objects = outside_page course.objects }

-- Session_OnStart and the body
abbrev pub opens : Site → Told → Page → Course → Way
opens site told page course = and_then (starts site told course) (body told page)

-- Session_OnEnd
abbrev pub ending : Site → Told → Course → Way
ending site told course = event told.replies site.events (codes "Session_OnEnd") (outside course)

-- the same: no answer tells its error
abbrev pub closes : Site → Told → Course → Way
closes site told course = quiet course.tally.failure (ending site told course)

-- the same, in a session that was abandoned
abbrev pub leaves : Site → Told → Course → Way
leaves site told course = if course.objects.is_abandoned then closes site told course else On course

-- the acts of a page
unfoldable pub page_acts : Site → Told → Page → Course → Way
page_acts site told page course = and_then (opens site told page course) (leaves site told)
