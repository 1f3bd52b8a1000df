-- How the job comes to a host whose first run has ended, and what is handed back.
use Rattle.std.proofs.Common.{◌≡◌, ◌==◌, ℕ, Bool, true, false, List, [], refl, ap, sym, ◌∙◌, subst, Option, Some, None}
use Rattle.std.proofs.Common.{Result, Ok, Err, IfErr, IfOk, ◌++◌, ◌∷◌}
use Rattle.std.proofs.lemmas.Bool.{eqb-true}
use Rattle.asp_journal.specs.declared.full.Full.{Full}
use Rattle.asp_core.proofs.Calm.{calm_unfinished}
use Rattle.asp_core.proofs.Fits.{job_calm, job_fit}
use Rattle.asp_core.proofs.Kept.{past_of_more, quiet_tick}
use Rattle.asp_core.specs.declared.admitted.Admitted.{Admitted}
use Rattle.asp_core.specs.declared.stop.AdmitStop.{AdmitStop}
use Rattle.asp_core.specs.declared.stop.AdmitStop.TheVariants as admit
use Rattle.asp_core.specs.Drawing.{drawn_by, entries_by, entry_then, told_of}
use Rattle.asp_core.specs.Kernel.{CoreView, IsTooMuch, IsWithin, grown, past_of, rules_of}
use Rattle.asp_get.specs.Answered.{HasAnswered, HasFailed, IsGetStop, IsReadyFor, OfFirst, OfJob, OfPage, with_job}
use Rattle.asp_get.specs.declared.stop.GetStop.{GetStop}
use Rattle.asp_get.specs.declared.stop.GetStop.TheVariants as stop
use Rattle.asp_get.specs.Underway.{IsAsked, IsReady, admit_stop, number_back, number_if, run_stop}
use Rattle.asp_job.specs.declared.answer.Answer.{Answer}
use Rattle.asp_job.specs.declared.answer.Fail.{Fail}
use Rattle.asp_job.specs.declared.entry.Entry.{Entry}
use Rattle.asp_job.specs.declared.job.Job.{Job}
use Rattle.asp_job.specs.declared.session.SessionState.{SessionState}
use Rattle.asp_job.specs.Journal.{IsValidJournal, admit_entries, past_after, tick_entries}
use Rattle.asp_job.specs.Keys.{session_of}
use Rattle.asp_job.specs.Output.{answer_of_run}
use Rattle.asp_job.specs.Rules.{Rules}
use Rattle.asp_job.specs.Runs.{unfinished}
use Rattle.asp_job.specs.Told.{Meaning}
use Rattle.asp_lane.proofs.Growing.{grows_more, rules_grown}
use Rattle.asp_lane.specs.Course.{GoesThrough}
use Rattle.asp_lane.specs.declared.stop.RunStop.{RunStop}
use Rattle.asp_lane.specs.declared.stop.RunStop.TheVariants as lane
use Rattle.asp_lane.specs.First.{HasBegun, first_past}
use Rattle.asp_lane.specs.Underway.{Grows, IsRunStop}

-- ---- the first run

pub first_stop : (m : Rules) (job : Job) (ended : RunStop) → IsRunStop m 0 (first_past 0) ended
    → IsGetStop m job (run_stop ended)
first_stop m job (lane.JournalFull full) is = OfFirst is
first_stop m job lane.Memory is = tt

pub failed_so : (m : Rules) (past : List Entry) (came : Option Fail) (fail : Fail) → came ≡ Some fail
    → HasBegun m 0 came past → HasFailed m fail
failed_so m past came fail is begun = (past, subst (λ (some : Option Fail). HasBegun m 0 some past) is begun)

pub ready_so : (m : Rules) (past : List Entry) (came : Option Fail) → came ≡ None → HasBegun m 0 came past
    → unfinished past ≡ [] → IsReady m past
ready_so m past came is begun free =
    record { begun = subst (λ (some : Option Fail). HasBegun m 0 some past) is begun; free = free }

-- ---- the runs that are unfinished

entries_same : (m : Rules) (past : List Entry) (lane : ℕ) (job : Job)
    → entries_by m (session_of m past) past lane job ≡ admit_entries m past lane job
entries_same m past lane job =
    let tick = tick_entries m past lane job.moment in
    ap (λ (sessions : ℕ → Option SessionState). tick ++ drawn_by m sessions (past_after past tick) lane job ∷ [])
    (sym (quiet_tick m past lane job.moment).sessions)

job_waits : (m : Rules) (past : List Entry) (job : Job) → unfinished (with_job m past job) ≡ unfinished past
job_waits m past job =
    subst (λ (entries : List Entry). unfinished (past_after past entries) ≡ unfinished past)
    (entries_same m past 0 job)
    (calm_unfinished past (entries_by m (session_of m past) past 0 job) (job_fit m (session_of m past) past 0 job)
    (job_calm m (session_of m past) past 0 job))

-- ---- the core that the job came to

module _ {R Site : Type 0} (meaning : R → Site → Meaning) (old mid : CoreView R Site) (job : Job)
    (ready : IsReady (rules_of meaning old) (past_of old))
    (mid_is : mid ≡ grown old (admit_entries (rules_of meaning old) (past_of old) 0 job)) where
  abbrev m : Rules
  m = rules_of meaning old

  past_is : past_of mid ≡ with_job m (past_of old) job
  past_is = ap (λ core. past_of core) mid_is ∙ past_of_more old.journal (admit_entries m (past_of old) 0 job)

  pub grows_job : Grows old mid
  grows_job = (admit_entries m (past_of old) 0 job, mid_is)

  rules_same : rules_of meaning mid ≡ m
  rules_same = rules_grown meaning old mid grows_job

  pub free_still : unfinished (past_of mid) ≡ []
  free_still = ap unfinished past_is ∙ job_waits m (past_of old) job ∙ ready.free

  pub ready_for : IsWithin (past_of mid) → IsReadyFor m job (past_of old)
  ready_for within = record { begun = ready.begun; within = subst IsWithin past_is within }

  asked_so : (told : Admitted) (new : CoreView R Site)
      → told ≡ told_of (entry_then m (past_of old) 0 job).what → IsWithin (past_of mid) → Grows mid new
      → IsValidJournal (rules_of meaning new) (past_of new)
      → GoesThrough (rules_of meaning mid) 0 (past_of mid) told.run (past_of new)
      → IsAsked m job (past_of old) told.run (past_of new)
  asked_so told new is within grows valid through =
      let same = rules_grown meaning old new (grows_more old mid new grows_job grows) in
      let held = subst (λ rules. GoesThrough rules 0 (past_of mid) told.run (past_of new)) rules_same through in
      record {
        ready = ready_for within;
        run_is = ap (λ (some : Admitted). some.run) is;
        through = subst (λ past. GoesThrough m 0 past told.run (past_of new)) past_is held;
        valid = subst (λ rules. IsValidJournal rules (past_of new)) same valid;
      }

  page_so : (ended : RunStop) → IsReadyFor m job (past_of old) → IsRunStop m 0 (with_job m (past_of old) job) ended
      → IsGetStop m job (run_stop ended)
  page_so (lane.JournalFull full) for is = OfPage (past_of old) for is
  page_so lane.Memory for is = tt

  page_stop : (ended : RunStop) → IsWithin (past_of mid) → IsRunStop (rules_of meaning mid) 0 (past_of mid) ended
      → IsGetStop m job (run_stop ended)
  page_stop ended within is =
      let held = subst (λ rules. IsRunStop rules 0 (past_of mid) ended) rules_same is in
      page_so ended (ready_for within) (subst (λ past. IsRunStop m 0 past ended) past_is held)

  number_so : (same : Bool) (run : ℕ) (P : ℕ → Type 0) → (same ≡ true → P run) → IfOk (number_if same run) P
  number_so true run P holds = holds refl
  number_so false run P holds = tt

  number_not : (same : Bool) (run : ℕ) → IfErr (number_if same run) (IsGetStop m job)
  number_not true run = tt
  number_not false run = tt

  pub asked_back : {T : Type 0} → (told : Admitted) (new : CoreView R Site) (gone : Result (ℕ × T) RunStop)
      → told ≡ told_of (entry_then m (past_of old) 0 job).what → IsWithin (past_of mid) → Grows mid new
      → IsValidJournal (rules_of meaning new) (past_of new)
      → IfOk gone (λ through. GoesThrough (rules_of meaning mid) 0 (past_of mid) through.0 (past_of new))
      → IfOk (number_back told.run gone) (λ run. IsAsked m job (past_of old) run (past_of new))
  asked_back told new (Ok given) is within grows valid through =
      number_so (given.0 == told.run) told.run (λ run. IsAsked m job (past_of old) run (past_of new))
      (λ same. asked_so told new is within grows valid
      (subst (λ run. GoesThrough (rules_of meaning mid) 0 (past_of mid) run (past_of new))
      (eqb-true given.0 told.run same) through))
  asked_back told new (Err ended) is within grows valid through = tt

  pub stop_back : {T : Type 0} → (run : ℕ) (gone : Result (ℕ × T) RunStop) → IsWithin (past_of mid)
      → IfErr gone (IsRunStop (rules_of meaning mid) 0 (past_of mid))
      → IfErr (number_back run gone) (IsGetStop m job)
  stop_back run (Ok given) within is = number_not (given.0 == run) run
  stop_back run (Err ended) within is = page_stop ended within is

-- ---- what is handed back

pub admit_get : (m : Rules) (past : List Entry) (job : Job) (ended : AdmitStop) → IsReady m past
    → ((full : Full) → ended ≡ admit.JournalFull full
    → IsTooMuch (with_job m past job) full)
    → IsGetStop m job (admit_stop ended)
admit_get m past job (admit.JournalFull full) ready much = OfJob past ready.begun (much full refl)
admit_get m past job admit.Memory ready full = tt
admit_get m past job admit.Stopping ready full = tt
admit_get m past job admit.WaitingFull ready full = tt

memory_get : (m : Rules) (job : Job) (ended : GetStop) → ended ≡ stop.Memory → IsGetStop m job ended
memory_get m job ended is = subst (λ (some : GetStop). IsGetStop m job some) (sym is) tt

pub memory_back : {T : Type 0} → (m : Rules) (job : Job) (result : Result T GetStop)
    → IfErr result (λ ended. ended ≡ stop.Memory) → IfErr result (IsGetStop m job)
memory_back m job (Ok given) is = tt
memory_back m job (Err ended) is = memory_get m job ended is

pub answered_back : (m n : Rules) (job : Job) (run : ℕ) (past last : List Entry) (result : Result Answer GetStop)
    → n ≡ m → IsAsked m job past run last → IfOk result (λ answer. answer_of_run n last run ≡ Some answer)
    → IfOk result (HasAnswered m job)
answered_back m n job run past last (Err ended) same asked answered = tt
answered_back m n job run past last (Ok answer) same asked answered =
    record {
      past = past;
      came = asked.ready;
      last = last;
      through = subst (λ number. GoesThrough m 0 (with_job m past job) number last) asked.run_is asked.through;
      valid = asked.valid;
      answer_is = ap (λ number. answer_of_run m last number) (sym asked.run_is)
          ∙ ap (λ rules. answer_of_run rules last run) (sym same) ∙ answered;
    }
