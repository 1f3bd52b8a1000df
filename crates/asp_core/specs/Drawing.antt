-- How a job comes. `sessions` is the session of each key.
use Rattle.std.specs.Prelude.{◌≡◌, ℕ, true, false, List, [], ◌∷◌, ◌++◌, Option, None}
use Rattle.asp_job.specs.declared.answer.Answer.{Answer}
use Rattle.asp_job.specs.declared.entry.Entry.{Entry}
use Rattle.asp_job.specs.declared.entry.What.{What}
use Rattle.asp_job.specs.declared.entry.What.TheVariants.{Admit, Refuse}
use Rattle.asp_job.specs.declared.job.Job.{Job}
use Rattle.asp_job.specs.declared.session.SessionState.{SessionState}
use Rattle.asp_job.specs.History.{with_lane}
use Rattle.asp_job.specs.Journal.{admission, job_now, past_after, admit_entry, tick_entries}
use Rattle.asp_job.specs.Rules.{Rules}
use Rattle.asp_job.specs.Turns.{key_asked_by}
use Rattle.asp_response.specs.declared.fixed.Unavailable.TheVariants as cause
use Rattle.asp_core.specs.declared.admitted.Admitted.{Admitted}
use Rattle.asp_core.specs.declared.admitted.Drawn.{Drawn}
use Rattle.asp_core.specs.Kernel.{ticked}
use Rattle.asp_core.specs.Standing.{stand_in}

-- what an entry tells of its job: nothing where it is not that of a job
abbrev pub told_of : What → Admitted
told_of (Admit run key fresh job) = record { run = run; key = key; refused = false; moment = job.moment }
told_of (Refuse run job) = record { run = run; key = 0; refused = true; moment = job.moment }
told_of _ = record { run = 0; key = 0; refused = false; moment = 0 }

-- the answer that an entry makes: that of a job that is refused
abbrev pub answer_for : What → Option Answer
answer_for (Refuse run job) = stand_in cause.TooManySessions job.work
answer_for _ = None

-- this answer, where the entry is that of a job that is refused
abbrev pub answer_if : What → Option Answer → Option Answer
answer_if (Refuse run job) answer = answer
answer_if _ answer = None

-- what is kept of a job that came is that of its entry
pub record IsDrawn (what : What) (drawn : Drawn) : Type 0 where
  pub told_is : drawn.told ≡ told_of what
  pub answer_is : drawn.answer ≡ answer_for what

-- the entry of a job
abbrev pub drawn_by : Rules → (ℕ → Option SessionState) → List Entry → ℕ → Job → Entry
drawn_by rules sessions past lane job =
    let now = job_now past job in
    with_lane lane (admission (rules.meaning.is_keyed now) (key_asked_by rules now) sessions past now)

-- a Tick where the job's moment is greater
abbrev pub tick_before : (ℕ → Option SessionState) → List Entry → ℕ → Job → List Entry
tick_before sessions past lane job = ticked sessions past lane job.moment

-- the entry of a job after its Tick
abbrev pub drawn_then : Rules → (ℕ → Option SessionState) → List Entry → ℕ → Job → Entry
drawn_then rules sessions past lane job =
    drawn_by rules sessions (past_after past (tick_before sessions past lane job)) lane job

-- both
abbrev pub entries_by : Rules → (ℕ → Option SessionState) → List Entry → ℕ → Job → List Entry
entries_by rules sessions past lane job =
    tick_before sessions past lane job ++ drawn_then rules sessions past lane job ∷ []

-- the entry of a job after its Tick, where the sessions are those of the journal
abbrev pub entry_then : Rules → List Entry → ℕ → Job → Entry
entry_then rules past lane job =
    admit_entry rules (past_after past (tick_entries rules past lane job.moment)) lane job
