-- What every run of a site does.
use Rattle.std.specs.Prelude.{ℕ, Bool, false, codes}
use Rattle.asp_job.specs.declared.job.Job.{Job}
use Rattle.asp_job.specs.declared.job.Work.{Work}
use Rattle.asp_job.specs.declared.job.Work.TheVariants as work
use Rattle.asp_job.specs.declared.request.Request.{Request}
use Rattle.asp_job.specs.Told.{Told, Outcome, Meaning}
use Rattle.asp_site.specs.declared.site.Site.{Site}
use Rattle.asp_site.specs.Lookup.{page_at}
use Rattle.asp_acts.specs.Events.{application_event, session_end}
use Rattle.asp_acts.specs.Pages.{is_keyed_page, request_work}
use Rattle.asp_acts.specs.Ticks.{ticks_of}

abbrev pub work_of : Site → Told → Work → Outcome
work_of site told (work.Page request) = request_work site told request
work_of site told work.Start = application_event site told (codes "Application_OnStart")
work_of site told work.SessionEnd = session_end site told told.session
work_of site told work.Stop = application_event site told (codes "Application_OnEnd")

-- what a run does that was told this
unfoldable pub does : Site → Told → Outcome
does site told = work_of site told told.job.work

-- the ticks that it spends
unfoldable pub ticks : Site → Told → ℕ
ticks site told = ticks_of site told told.job.work

-- whether a job has a session: that of a page with sessions, by a method that the page takes
abbrev pub keyed_request : Site → Request → Bool
keyed_request site request = is_keyed_page request.verb (page_at site request.path)

abbrev pub keyed_work : Site → Work → Bool
keyed_work site (work.Page request) = keyed_request site request
keyed_work site _ = false

unfoldable pub is_keyed : Site → Job → Bool
is_keyed site job = keyed_work site job.work

-- the meaning of the runs of a site
abbrev pub meaning_of : Site → Meaning
meaning_of site = record { does = does site; ticks = ticks site; is_keyed = is_keyed site }
