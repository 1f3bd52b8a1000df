-- The entries of events may be added.
use Rattle.std.proofs.Common.{◌≡◌, ℕ, ◌+◌, ◌<◌, ◌≤◌, ◌++◌, Bool, true, false, if◌then◌else◌}
use Rattle.std.proofs.Common.{nat_lt}
use Rattle.std.proofs.Common.{List, [], ◌∷◌, length, Option, refl, ap, sym, ◌∙◌, arith, subst}
use Rattle.std.proofs.Common.{length-append, sum_by}
use Rattle.std.proofs.lemmas.List.Sums.{sum_by_push}
use Rattle.asp_job.specs.declared.entry.Entry.{Entry}
use Rattle.asp_job.specs.declared.entry.EndKind.{EndKind}
use Rattle.asp_job.specs.declared.entry.Stage.{Stage}
use Rattle.asp_job.specs.declared.entry.Stage.TheVariants.{Ended, Undrawn, Unfinished, Waiting}
use Rattle.asp_job.specs.declared.entry.What.TheVariants.{Admit, Queue, Refuse, Stop, Take, Tick}
use Rattle.asp_job.specs.declared.job.Job.{Job}
use Rattle.asp_job.specs.declared.job.Work.{Work}
use Rattle.asp_job.specs.declared.job.Work.TheVariants as work
use Rattle.asp_job.specs.declared.session.SessionState.{SessionState}
use Rattle.asp_job.specs.History.{what_weight, with_lane, work_weight}
use Rattle.asp_job.specs.Journal.{AreRight, job_now, past_after, queue_entries}
use Rattle.asp_job.specs.Keys.{due_at, live}
use Rattle.asp_job.specs.Rules.{Rules}
use Rattle.asp_job.specs.Runs.{drawn, is_open, is_stage_ended, is_unfinished, moment_of, stage_of}
use Rattle.asp_job.specs.Turns.{closing_runs}
use Rattle.asp_response.specs.declared.fixed.Unavailable.TheVariants as cause
use Rattle.asp_journal.specs.Tables.{AreFit, IsFit}
use Rattle.asp_core.specs.Calm.{AreCalm, IsCalm, entry_weight}
use Rattle.asp_core.specs.Drawing.{answer_for, answer_if, drawn_by, drawn_then, entries_by, tick_before}
use Rattle.asp_core.specs.Ends.{end_what}
use Rattle.asp_core.specs.declared.ends.Left.{Left}
use Rattle.asp_core.proofs.Handing.{CanTake}
use Rattle.asp_core.proofs.Right.{is_drawn, numbered, unfinished_is}
use Rattle.asp_core.specs.Kernel.{stopped_by, ticked}
use Rattle.asp_core.specs.Standing.{stand_in}

-- ---- runs that are queued

queue_fit : (past : List Entry) (lane run : ℕ) (runs : List (Work × ℕ)) → run ≡ drawn past + 1
    → AreFit past (queue_entries lane run runs)
queue_fit past lane run [] e = tt
queue_fit past lane run (first ∷ rest) e = (
  record { numbered = e; timely = tt },
  queue_fit (with_lane lane (Queue run first.0 first.1) ∷ past) lane (run + 1) rest (omega arith),
)

queue_calm : (lane run : ℕ) (runs : List (Work × ℕ)) → AreCalm (queue_entries lane run runs)
queue_calm lane run [] = tt
queue_calm lane run (first ∷ rest) = (tt, queue_calm lane (run + 1) rest)

fit_if : (b : Bool) (past entries : List Entry) → AreFit past entries → AreFit past (if b then entries else [])
fit_if true past entries h = h
fit_if false past entries h = tt

calm_if : (b : Bool) (entries : List Entry) → AreCalm entries → AreCalm (if b then entries else [])
calm_if true entries h = h
calm_if false entries h = tt

pub tick_fit : (sessions : ℕ → Option SessionState) (past more : List Entry) (lane moment : ℕ)
    → more ≡ ticked sessions past lane moment → AreFit past more
tick_fit sessions past more lane moment e =
    let keys = due_at sessions past moment in
    let queued : AreFit (with_lane lane (Tick moment) ∷ past)
    (queue_entries lane (drawn past + 1) (closing_runs keys)) =
    queue_fit (with_lane lane (Tick moment) ∷ past) lane (drawn past + 1) (closing_runs keys) refl in
    subst (AreFit past) (sym e) (fit_if (nat_lt (moment_of past) moment) past _
    (record { numbered = tt; timely = tt }, queued))

pub tick_calm : (sessions : ℕ → Option SessionState) (past more : List Entry) (lane moment : ℕ)
    → more ≡ ticked sessions past lane moment → AreCalm more
tick_calm sessions past more lane moment e =
    let keys = due_at sessions past moment in
    subst AreCalm (sym e) (calm_if (nat_lt (moment_of past) moment) _
    (tt, queue_calm lane (drawn past + 1) (closing_runs keys)))

pub stop_fit : (sessions : ℕ → Option SessionState) (past more : List Entry) (lane : ℕ)
    → more ≡ stopped_by sessions past lane → AreFit past more
stop_fit sessions past more lane e =
    let keys = live sessions past in
    let queued : AreFit (with_lane lane Stop ∷ past)
    (queue_entries lane (drawn past + 1) (closing_runs keys ++ (work.Stop, 0) ∷ [])) =
    queue_fit (with_lane lane Stop ∷ past) lane (drawn past + 1) (closing_runs keys ++ (work.Stop, 0) ∷ [])
    refl in
    subst (AreFit past) (sym e) (record { numbered = tt; timely = tt }, queued)

pub stop_calm : (sessions : ℕ → Option SessionState) (past more : List Entry) (lane : ℕ)
    → more ≡ stopped_by sessions past lane → AreCalm more
stop_calm sessions past more lane e =
    let runs = closing_runs (live sessions past) ++ (work.Stop, 0) ∷ [] in
    subst AreCalm (sym e) (tt, queue_calm lane (drawn past + 1) runs)

-- ---- the entry of a job

fit_by : (refused : Bool) (past : List Entry) (key : ℕ) (fresh : Bool) (job : Job)
    → IsFit past (if refused then Refuse (drawn past + 1) job else Admit (drawn past + 1) key fresh job)
fit_by true past key fresh job = record { numbered = refl; timely = tt }
fit_by false past key fresh job = record { numbered = refl; timely = tt }

pub drawn_fit : (rules : Rules) (sessions : ℕ → Option SessionState) (past : List Entry) (lane : ℕ) (job : Job)
    → IsFit past (drawn_by rules sessions past lane job).what
drawn_fit rules sessions past lane job = fit_by _ past _ _ (job_now past job)

answer_by : (refused : Bool) (past : List Entry) (key : ℕ) (fresh : Bool) (job : Job)
    → answer_if (if refused then Refuse (drawn past + 1) job else Admit (drawn past + 1) key fresh job)
    (stand_in cause.TooManySessions job.work)
    ≡ answer_for (if refused then Refuse (drawn past + 1) job else Admit (drawn past + 1) key fresh job)
answer_by true past key fresh job = refl
answer_by false past key fresh job = refl

pub answer_drawn : (rules : Rules) (sessions : ℕ → Option SessionState) (past : List Entry) (lane : ℕ) (job : Job)
    → answer_if (drawn_by rules sessions past lane job).what (stand_in cause.TooManySessions job.work)
    ≡ answer_for (drawn_by rules sessions past lane job).what
answer_drawn rules sessions past lane job = answer_by _ past _ _ (job_now past job)

weight_by : (refused : Bool) (past : List Entry) (key : ℕ) (fresh : Bool) (job : Job)
    → what_weight (if refused then Refuse (drawn past + 1) job else Admit (drawn past + 1) key fresh job)
    ≡ 64 + work_weight job.work
weight_by true past key fresh job = refl
weight_by false past key fresh job = refl

pub drawn_weight : (rules : Rules) (sessions : ℕ → Option SessionState) (past : List Entry) (lane : ℕ) (job : Job)
    → what_weight (drawn_by rules sessions past lane job).what ≡ 64 + work_weight job.work
drawn_weight rules sessions past lane job = weight_by _ past _ _ (job_now past job)

calm_by : (refused : Bool) (past : List Entry) (key : ℕ) (fresh : Bool) (job : Job)
    → IsCalm (if refused then Refuse (drawn past + 1) job else Admit (drawn past + 1) key fresh job)
calm_by true past key fresh job = tt
calm_by false past key fresh job = tt

pub drawn_calm : (rules : Rules) (sessions : ℕ → Option SessionState) (past : List Entry) (lane : ℕ) (job : Job)
    → IsCalm (drawn_by rules sessions past lane job).what
drawn_calm rules sessions past lane job = calm_by _ past _ _ (job_now past job)

-- ---- one entry after others

pub fit_then : (past more : List Entry) (entry : Entry) → AreFit past more → IsFit (past_after past more) entry.what
    → AreFit past (more ++ entry ∷ [])
fit_then past [] entry fit last = (last, tt)
fit_then past (first ∷ more) entry fit last = (fit.0, fit_then (first ∷ past) more entry fit.1 last)

pub calm_then : (more : List Entry) (entry : Entry) → AreCalm more → IsCalm entry.what → AreCalm (more ++ entry ∷ [])
calm_then [] entry calm last = (last, tt)
calm_then (first ∷ more) entry calm last = (calm.0, calm_then more entry calm.1 last)

-- ---- the entries of a run that has come

ended_drawn : (stage : Stage) → is_stage_ended stage ≡ true → is_drawn stage ≡ true
ended_drawn Undrawn e = absurd cc
ended_drawn Waiting e = absurd cc
ended_drawn Unfinished e = absurd cc
ended_drawn Ended e = refl

pub take_fit : (m : Rules) (past : List Entry) (lane run : ℕ) → AreRight m past → CanTake m past lane run
    → IsFit past (Take run)
take_fit m past lane run right can = record {
  numbered = numbered m past right run (ended_drawn (stage_of past run) can.is_take.ended);
  timely = tt;
}

pub end_numbered : (m : Rules) (past : List Entry) (run : ℕ) → AreRight m past → is_unfinished past run ≡ true
    → (0 < run) × (run ≤ drawn past)
end_numbered m past run right open_ =
    numbered m past right run (ap is_drawn (unfinished_is (stage_of past run) open_))

pub end_fit : (past : List Entry) (run : ℕ) (kind : EndKind) (left : Left) → (0 < run) × (run ≤ drawn past)
    → is_open past run ≡ true → IsFit past (end_what run kind left)
end_fit past run kind left n t = record { numbered = n; timely = t }

-- ---- a Tick and the entry of a job

pub job_fit : (rules : Rules) (sessions : ℕ → Option SessionState) (past : List Entry) (lane : ℕ) (job : Job)
    → AreFit past (entries_by rules sessions past lane job)
job_fit rules sessions past lane job =
    let tick = tick_before sessions past lane job in
    fit_then past tick (drawn_then rules sessions past lane job) (tick_fit sessions past tick lane job.moment refl)
    (drawn_fit rules sessions (past_after past tick) lane job)

pub job_calm : (rules : Rules) (sessions : ℕ → Option SessionState) (past : List Entry) (lane : ℕ) (job : Job)
    → AreCalm (entries_by rules sessions past lane job)
job_calm rules sessions past lane job =
    let tick = tick_before sessions past lane job in
    calm_then tick (drawn_then rules sessions past lane job) (tick_calm sessions past tick lane job.moment refl)
    (drawn_calm rules sessions (past_after past tick) lane job)

pub job_weight : (rules : Rules) (sessions : ℕ → Option SessionState) (past : List Entry) (lane : ℕ) (job : Job)
    → sum_by entry_weight (entries_by rules sessions past lane job)
    ≡ sum_by entry_weight (tick_before sessions past lane job) + (64 + work_weight job.work)
job_weight rules sessions past lane job =
    let tick = tick_before sessions past lane job in
    sum_by_push entry_weight tick (drawn_then rules sessions past lane job)
    ∙ ap (λ w. sum_by entry_weight tick + w) (drawn_weight rules sessions (past_after past tick) lane job)

pub job_length : (rules : Rules) (sessions : ℕ → Option SessionState) (past : List Entry) (lane : ℕ) (job : Job)
    → length (entries_by rules sessions past lane job) ≡ length (tick_before sessions past lane job) + 1
job_length rules sessions past lane job =
    length-append (tick_before sessions past lane job) (drawn_then rules sessions past lane job ∷ [])
