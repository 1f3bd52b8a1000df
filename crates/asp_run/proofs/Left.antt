-- What a run leaves: an answer exactly for a request.
use Rattle.std.proofs.Common.{◌≡◌, Bool, true, false, Option, Some, None, refl}
use Rattle.std.specs.Prelude.{is_some, cond}
use Rattle.vb_value.specs.declared.site_file.SiteFile.{SiteFile}
use Rattle.asp_job.specs.declared.job.Work.{Work}
use Rattle.asp_job.specs.declared.job.Work.TheVariants as work
use Rattle.asp_job.specs.declared.request.Request.{Request}
use Rattle.asp_job.specs.declared.session.SessionState.{SessionState}
use Rattle.asp_job.specs.Running.{is_page}
use Rattle.asp_job.specs.Told.{Told, Outcome, Wants, Ends}
use Rattle.asp_site.specs.declared.site.Page.{Page}
use Rattle.asp_site.specs.declared.site.Site.{Site}
use Rattle.asp_site.specs.Lookup.{page_at, static_at}
use Rattle.asp_acts.specs.declared.course.Way.{Way}
use Rattle.asp_acts.specs.declared.course.Way.TheVariants.{Wants as WantsReply, On}
use Rattle.asp_acts.specs.Events.{event_came, session_end}
use Rattle.asp_acts.specs.Pages.{page_takes, page_came, found_work}
use Rattle.asp_acts.specs.Running.{work_of}

-- whether there is an answer; what has not ended counts as it should
abbrev pub has_answer : Bool → Outcome → Bool
has_answer wanted (Wants call) = wanted
has_answer wanted (Ends finished) = is_some finished.answer

came : (told : Told) (request : Request) (page : Page) (way : Way)
    → has_answer true (page_came told request page way) ≡ true
came told request page (On course) = refl
came told request page (WantsReply call) = refl

taken : (run refused : Outcome) → has_answer true run ≡ true → has_answer true refused ≡ true → (b : Bool)
    → has_answer true (cond b run refused) ≡ true
taken run refused one other true = one
taken run refused one other false = other

found : (site : Site) (told : Told) (request : Request) (page : Option Page) (file : Option SiteFile)
    → has_answer true (found_work site told request page file) ≡ true
found site told request (Some page) file = taken _ _ (came told request page _) refl (page_takes request.verb)
found site told request None (Some file) = refl
found site told request None None = refl

event : (session : Option SessionState) (way : Way) → has_answer false (event_came session way) ≡ false
event session (On course) = refl
event session (WantsReply call) = refl

end : (site : Site) (told : Told) (session : Option SessionState)
    → has_answer false (session_end site told session) ≡ false
end site told (Some session) = event None _
end site told None = refl

-- a run has an answer exactly where its work is that of a page
pub answered : (site : Site) (told : Told) (what : Work)
    → has_answer (is_page what) (work_of site told what) ≡ is_page what
answered site told (work.Page request) =
    found site told request (page_at site request.path) (static_at site request.path)
answered site told work.Start = event told.session _
answered site told work.SessionEnd = end site told told.session
answered site told work.Stop = event told.session _
