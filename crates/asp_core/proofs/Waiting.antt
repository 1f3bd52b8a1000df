-- A Tick leaves the page runs that wait as they are.
use Rattle.std.proofs.Common.{◌≡◌, ℕ, ◌+◌, ◌&&◌, Bool, false, List, [], ◌∷◌, refl, ap, ◌∙◌, append-nil, inl, inr}
use Rattle.std.proofs.Common.{filter}
use Rattle.std.proofs.lemmas.Bool.{cases_lt}
use Rattle.asp_job.specs.declared.job.Work.TheVariants as work
use Rattle.asp_job.specs.History.{with_lane}
use Rattle.asp_job.specs.Journal.{past_after, queue_entries, tick_entries}
use Rattle.asp_job.specs.Keys.{due_at, session_of}
use Rattle.asp_job.specs.Rules.{Rules}
use Rattle.asp_job.specs.Running.{is_page}
use Rattle.asp_job.specs.Runs.{drawn, is_stage_waiting, is_stopping, job_of, moment_of, numbers, queued_job, stage_of}
use Rattle.asp_job.specs.Turns.{closing_runs, is_waiting_page, waiting_pages}
use Rattle.asp_job.specs.declared.entry.Entry.{Entry}
use Rattle.asp_job.specs.declared.entry.Stage.{Stage}
use Rattle.asp_job.specs.declared.entry.Stage.TheVariants.{Waiting}
use Rattle.asp_job.specs.declared.entry.What.TheVariants.{Queue, Tick}
use Rattle.asp_job.specs.declared.job.Job.{Job}
use Rattle.asp_job.specs.declared.job.Work.{Work}
use Rattle.asp_journal.proofs.Numbers.{filter_more, filter_same}
use Rattle.asp_journal.proofs.Others.{other_number, own_number, stage_other}
use Rattle.asp_core.proofs.Others.{job_other}
use Rattle.asp_core.proofs.Kept.{tick_is, no_tick_is}

queue_stopping : (past : List Entry) (lane run : ℕ) (list : List (Work × ℕ))
    → is_stopping (past_after past (queue_entries lane run list)) ≡ is_stopping past
queue_stopping past lane run [] = refl
queue_stopping past lane run (first ∷ rest) = queue_stopping (with_lane lane (Queue run first.0 first.1) ∷ past) lane
    (run + 1) rest

-- whether a run at this stage, and with this job, is a page run that waits
page_waits : Stage → Job → Bool
page_waits stage job = is_stage_waiting stage && is_page job.work

one_waiting : (past : List Entry) (lane k : ℕ)
    → waiting_pages (with_lane lane (Queue (drawn past + 1) work.SessionEnd k) ∷ past) ≡ waiting_pages past
unfolding page_waits
one_waiting past lane k =
    let n = drawn past in
    let what = Queue (n + 1) work.SessionEnd k in
    let new = with_lane lane what ∷ past in
    let own = own_number (n + 1) in
    let stage : stage_of new (n + 1) ≡ Waiting = rw own refl in
    let job : job_of new (n + 1) ≡ queued_job work.SessionEnd = rw own refl in
    let last : is_waiting_page new (n + 1) ≡ false = ap (λ s. page_waits s (job_of new (n + 1))) stage
    ∙ ap (page_waits Waiting) job in
    let same : filter (is_waiting_page new) (numbers n) ≡ filter (is_waiting_page past) (numbers n) =
    filter_same (is_waiting_page new) (is_waiting_page past) n (λ r l. let other = other_number r n l in
    ap (λ s. page_waits s (job_of new r)) (stage_other past lane r what other) ∙ ap (page_waits (stage_of past r))
    (job_other past lane r what other)) in
    filter_more (is_waiting_page new) n ∙ cc (last, same, append-nil (filter (is_waiting_page past) (numbers n)))

queue_waiting : (past : List Entry) (lane : ℕ) (keys : List ℕ)
    → waiting_pages (past_after past (queue_entries lane (drawn past + 1) (closing_runs keys))) ≡ waiting_pages past
queue_waiting past lane [] = refl
queue_waiting past lane (k ∷ keys) = queue_waiting (with_lane lane (Queue (drawn past + 1) work.SessionEnd k) ∷ past)
    lane keys ∙ one_waiting past lane k

pub tick_stopping : (m : Rules) (past : List Entry) (lane moment : ℕ)
    → is_stopping (past_after past (tick_entries m past lane moment)) ≡ is_stopping past
tick_stopping m past lane moment = elim (cases_lt (moment_of past) moment) [
  | inl later ↦ rw (tick_is m past lane moment later) (queue_stopping (with_lane lane (Tick moment) ∷ past) lane
      (drawn past + 1) (closing_runs (due_at (session_of m past) past moment)))
  | inr early ↦ rw (no_tick_is m past lane moment early) refl
]

pub tick_waiting : (m : Rules) (past : List Entry) (lane moment : ℕ)
    → waiting_pages (past_after past (tick_entries m past lane moment)) ≡ waiting_pages past
tick_waiting m past lane moment = elim (cases_lt (moment_of past) moment) [
  | inl later ↦ rw (tick_is m past lane moment later) (queue_waiting (with_lane lane (Tick moment) ∷ past) lane
      (due_at (session_of m past) past moment))
  | inr early ↦ rw (no_tick_is m past lane moment early) refl
]
