-- Events without a page: the beginning and the end of the application, and the end of a session.
use Rattle.std.specs.Prelude.{ℕ, false, List, [], codes, Option, Some, None}
use Rattle.asp_job.specs.declared.answer.Finished.{Finished}
use Rattle.asp_job.specs.declared.request.Request.{Request}
use Rattle.asp_job.specs.declared.request.Verb.TheVariants.{Get}
use Rattle.asp_job.specs.declared.session.SessionState.{SessionState}
use Rattle.asp_job.specs.Told.{Told, Outcome, Wants, Ends}
use Rattle.asp_objects.specs.declared.objects.PageObjects.{PageObjects}
use Rattle.asp_objects.specs.Members.{fresh_objects, outside_page}
use Rattle.asp_site.specs.declared.site.Site.{Site}
use Rattle.asp_acts.specs.declared.course.Course.{Course}
use Rattle.asp_acts.specs.declared.course.Way.{Way}
use Rattle.asp_acts.specs.declared.course.Way.TheVariants.{Wants as WantsReply, On}
use Rattle.asp_acts.specs.Acts.{course_of, event}

-- what stands in the place of a request
abbrev pub no_request : Request
no_request = record {
  verb = Get;
  path = codes "/global.asa";
  query = [];
  minor = 1;
  headers = [];
  body = [];
  close = false;
}

-- the objects of an event: Application and Server, and Session in the end of one
abbrev pub event_objects : Option SessionState → PageObjects
event_objects session = outside_page (fresh_objects no_request (codes "/global.asa") session)

-- a run without acts and without an answer
abbrev pub without_acts : Option SessionState → Finished
without_acts session = record { answer = None; session = session; fail = None; made = 0; finished = 0 }

abbrev pub event_ended : Option SessionState → Course → Finished
event_ended session course = record {
  answer = None;
  session = session;
  fail = course.tally.fail;
  made = course.tally.made;
  finished = course.tally.finished;
}

-- what an event comes to, with the session that it leaves
abbrev pub event_came : Option SessionState → Way → Outcome
event_came session (On course) = Ends (event_ended session course)
event_came session (WantsReply call) = Wants call

-- an event of the application, which leaves its run's session as it was
abbrev pub application_event : Site → Told → List ℕ → Outcome
application_event site told word =
    event_came told.session (event told.replies site.events word (course_of (event_objects None)))

-- the end of a session, which leaves none; without a session it has no act
abbrev pub session_end : Site → Told → Option SessionState → Outcome
session_end site told (Some session) =
    event_came None (event told.replies site.events (codes "Session_OnEnd") (course_of (event_objects (Some session))))
session_end site told None = Ends (without_acts None)
