-- What calls add that leave runs as they are.
use Rattle.std.proofs.Common.{◌≡◌, ℕ, ◌+◌, ◌++◌, Bool, true, false, if◌then◌else◌, List, [], ◌∷◌, refl, ap}
use Rattle.std.proofs.Common.{sym}
use Rattle.std.proofs.Common.{◌∙◌, append-nil, inl, inr, Option, Some, None, Result, Ok, Err, OnOk, OnErr, IsOk}
use Rattle.std.proofs.Common.{IfSome, IfNone}
use Rattle.std.proofs.lemmas.Bool.{cases_Bool, cases_lt}
use Rattle.turn_desk.specs.Histories.{GrowsBy}
use Rattle.asp_job.specs.declared.answer.Answer.{Answer}
use Rattle.asp_job.specs.declared.entry.Entry.{Entry}
use Rattle.asp_job.specs.declared.entry.What.{What}
use Rattle.asp_job.specs.declared.entry.What.TheVariants.{Admit, App, Begin, End, Halt, Queue, Refuse, Stop, Take, Tick}
use Rattle.asp_job.specs.declared.job.Job.{Job}
use Rattle.asp_job.specs.declared.job.Work.{Work}
use Rattle.asp_job.specs.History.{with_lane}
use Rattle.asp_job.specs.Journal.{admit_entries, admit_entry, is_refused, job_now, past_after, queue_entries}
use Rattle.asp_job.specs.Journal.{stop_entries, tick_entries, with_owed}
use Rattle.asp_job.specs.Keys.{session_of}
use Rattle.asp_job.specs.Rules.{Rules}
use Rattle.asp_job.specs.Runs.{drawn, is_halted, is_stopping, moment_of}
use Rattle.asp_job.specs.Turns.{key_asked_by, key_for, needs_key, owed}
use Rattle.asp_core.specs.Kernel.{CoreView, grown, past_of}
use Rattle.asp_core.specs.Laws.{AreNoSteps, AreOfLane, is_step_of}
use Rattle.asp_core.proofs.Bearing.{admit_of, none_of, one_of, stop_of, tick_of}
use Rattle.asp_core.proofs.Kept.{no_tick_is, tick_is}
use Rattle.asp_desk.specs.Calls.{AddsEvents, AreEvents, IsEvent}

-- ---- entries of events

both_events : (xs ys : List Entry) → AreEvents xs → AreEvents ys → AreEvents (xs ++ ys)
both_events [] ys p q = q
both_events (x ∷ xs) ys p q = (p.0, both_events xs ys p.1 q)

queue_events : (lane run : ℕ) (list : List (Work × ℕ)) → AreEvents (queue_entries lane run list)
queue_events lane run [] = tt
queue_events lane run (first ∷ rest) = (tt, queue_events lane (run + 1) rest)

owed_events : (m : Rules) (past : List Entry) (entry : Entry) → IsEvent entry.what → AreEvents (with_owed m past entry)
owed_events m past entry event =
    (event, queue_events entry.lane (drawn (entry ∷ past) + 1) (owed m (entry ∷ past)))

pub tick_events : (m : Rules) (past : List Entry) (lane moment : ℕ) → AreEvents (tick_entries m past lane moment)
tick_events m past lane moment = elim (cases_lt (moment_of past) moment) [
  | inl later ↦ rw (tick_is m past lane moment later) (owed_events m past (with_lane lane (Tick moment)) tt)
  | inr early ↦ rw (no_tick_is m past lane moment early) tt
]

pub stop_events : (m : Rules) (past : List Entry) (lane : ℕ) → AreEvents (stop_entries m past lane)
stop_events m past lane = owed_events m past (with_lane lane Stop) tt

admission_event : (refused : Bool) (run key : ℕ) (fresh : Bool) (job : Job)
    → IsEvent (if refused then Refuse run job else Admit run key fresh job)
admission_event true run key fresh job = tt
admission_event false run key fresh job = tt

pub admit_events : (m : Rules) (past : List Entry) (lane : ℕ) (job : Job) → AreEvents (admit_entries m past lane job)
admit_events m past lane job =
    let ticked = tick_entries m past lane job.moment in
    let then_past = past_after past ticked in
    let now = job_now then_past job in
    let keyed = m.meaning.is_keyed now in
    let asked = key_asked_by m now in
    let sessions = session_of m then_past in
    both_events ticked (admit_entry m then_past lane job ∷ []) (tick_events m past lane job.moment) (
      admission_event (is_refused keyed asked sessions then_past) (drawn then_past + 1)
          (key_for keyed asked sessions then_past) (needs_key keyed asked sessions then_past) now,
      tt,
    )

no_step : (r : ℕ) (what : What) → IsEvent what → is_step_of r what ≡ false
no_step r (Queue run work key) event = refl
no_step r (Admit run key fresh job) event = refl
no_step r (Refuse run job) event = refl
no_step r (Tick moment) event = refl
no_step r (Begin run serial) event = absurd event
no_step r (App run call reply) event = absurd event
no_step r (End run kind status size made finished) event = absurd event
no_step r (Take run) event = refl
no_step r Stop event = refl
no_step r Halt event = refl

pub no_steps : (r : ℕ) (entries : List Entry) → AreEvents entries → AreNoSteps r entries
no_steps r [] events = tt
no_steps r (entry ∷ entries) events = (no_step r entry.what events.0, no_steps r entries events.1)

-- ---- calls

pub adds_nothing : (lane : ℕ) (before after : List Entry) → after ≡ before → AddsEvents lane before after
adds_nothing lane before after same = record {
  entries = [];
  after_is = same ∙ sym (append-nil before);
  of_lane = none_of lane;
  events = tt;
}

pub adds_one : (lane : ℕ) (before after : List Entry) (what : What) → after ≡ before ++ with_lane lane what ∷ []
    → IsEvent what → AddsEvents lane before after
adds_one lane before after what is event = record {
  entries = with_lane lane what ∷ [];
  after_is = is;
  of_lane = one_of lane (with_lane lane what) refl;
  events = (event, tt);
}

module _ {R Site : Type 0} (lane : ℕ) (old new : CoreView R Site) where
  -- the entries of an event where it succeeded, and else nothing
  adds_event : {A B : Type 0} (result : Result A B) (entries : List Entry) → AreOfLane lane entries → AreEvents entries
      → OnOk result (new ≡ grown old entries) → OnErr result (new ≡ old) → AddsEvents lane old.journal new.journal
  adds_event (Ok value) entries of_lane events ok err = record {
    entries = entries;
    after_is = ap (λ (core : CoreView R Site). core.journal) ok;
    of_lane = of_lane;
    events = events;
  }
  adds_event (Err stop) entries of_lane events ok err =
      adds_nothing lane old.journal new.journal (ap (λ (core : CoreView R Site). core.journal) err)

  pub tick_adds : {A B : Type 0} (m : Rules) (moment : ℕ) (result : Result A B)
      → OnOk result (new ≡ grown old (tick_entries m (past_of old) lane moment)) → OnErr result (new ≡ old)
      → AddsEvents lane old.journal new.journal
  tick_adds m moment result ok err = adds_event result (tick_entries m (past_of old) lane moment)
      (tick_of m (past_of old) lane moment) (tick_events m (past_of old) lane moment) ok err

  pub admit_adds : {A B : Type 0} (m : Rules) (job : Job) (result : Result A B)
      → OnOk result (new ≡ grown old (admit_entries m (past_of old) lane job)) → OnErr result (new ≡ old)
      → AddsEvents lane old.journal new.journal
  admit_adds m job result ok err = adds_event result (admit_entries m (past_of old) lane job)
      (admit_of m (past_of old) lane job) (admit_events m (past_of old) lane job) ok err

  pub stop_adds : {A B : Type 0} (m : Rules) (result : Result A B)
      → OnOk result (is_stopping (past_of old) ≡ false → new ≡ grown old (stop_entries m (past_of old) lane))
      → (is_stopping (past_of old) ≡ true → IsOk result × (new ≡ old)) → OnErr result (new ≡ old)
      → AddsEvents lane old.journal new.journal
  stop_adds m (Ok value) ok again err = elim (cases_Bool (is_stopping (past_of old))) [
    | inl stopping ↦ adds_nothing lane old.journal new.journal
        (ap (λ (core : CoreView R Site). core.journal) (again stopping).1)
    | inr going ↦ record {
      entries = stop_entries m (past_of old) lane;
      after_is = ap (λ (core : CoreView R Site). core.journal) (ok going);
      of_lane = stop_of m (past_of old) lane;
      events = stop_events m (past_of old) lane;
    }
  ]
  stop_adds m (Err stop) ok again err =
      adds_nothing lane old.journal new.journal (ap (λ (core : CoreView R Site). core.journal) err)

  pub halt_adds : (is_halted (past_of old) ≡ false → new ≡ grown old (with_lane lane Halt ∷ []))
      → (is_halted (past_of old) ≡ true → new ≡ old) → AddsEvents lane old.journal new.journal
  halt_adds first again = elim (cases_Bool (is_halted (past_of old))) [
    | inl halted ↦ adds_nothing lane old.journal new.journal
        (ap (λ (core : CoreView R Site). core.journal) (again halted))
    | inr going ↦ adds_one lane old.journal new.journal Halt
        (ap (λ (core : CoreView R Site). core.journal) (first going)) tt
  ]

  pub collect_adds : {A B : Type 0} (result : Result A B) (run : ℕ)
      → OnOk result (new ≡ grown old (with_lane lane (Take run) ∷ [])) → OnErr result (new ≡ old)
      → AddsEvents lane old.journal new.journal
  collect_adds result run ok err = adds_event result (with_lane lane (Take run) ∷ [])
      (one_of lane (with_lane lane (Take run)) refl) (tt, tt) ok err

  pub first_adds : (result : Option (ℕ × Answer))
      → IfSome result (λ given. new ≡ grown old (with_lane lane (Take given.0) ∷ []))
      → IfNone result (new ≡ old) → AddsEvents lane old.journal new.journal
  first_adds (Some given) some none = adds_one lane old.journal new.journal (Take given.0)
      (ap (λ (core : CoreView R Site). core.journal) some) tt
  first_adds None some none =
      adds_nothing lane old.journal new.journal (ap (λ (core : CoreView R Site). core.journal) none)

-- entries of the lane come behind
pub adds_grow : (lane : ℕ) (before after : List Entry) → AddsEvents lane before after
    → GrowsBy (λ entry. entry.lane) lane before after
adds_grow lane before after adds = (adds.entries, adds.after_is, adds.of_lane)
