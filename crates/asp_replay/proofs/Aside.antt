-- What is in hand stays while entries come that begin no run and are no steps of one.
use Rattle.std.proofs.Common.{◌≡◌, ℕ, ◌+◌, ◌≤◌, ◌==◌, ◌++◌, Bool, true, false, List, [], ◌∷◌, filter, refl, ap, sym}
use Rattle.std.proofs.Common.{◌∙◌}
use Rattle.std.proofs.Common.{subst, append-nil, if◌then◌else◌, inl, inr, Option, Some, None}
use Rattle.std.proofs.lemmas.Bool.{cases_lt}
use Rattle.asp_job.specs.declared.answer.Answer.{Answer}
use Rattle.asp_job.specs.declared.entry.Entry.{Entry}
use Rattle.asp_job.specs.declared.entry.What.{What}
use Rattle.asp_job.specs.declared.entry.What.TheVariants.{Admit, App, Begin, End, Halt, Queue, Refuse, Stop, Take, Tick}
use Rattle.asp_job.specs.declared.job.Job.{Job}
use Rattle.asp_job.specs.declared.job.Work.{Work}
use Rattle.asp_job.specs.History.{run_in, with_lane}
use Rattle.asp_job.specs.Journal.{AreRight, IsRight, admit_entries, admit_entry, is_refused, job_now, past_after}
use Rattle.asp_job.specs.Journal.{queue_entries}
use Rattle.asp_job.specs.Journal.{stop_entries, tick_entries}
use Rattle.asp_job.specs.Keys.{due_at, session_of, told}
use Rattle.asp_job.specs.Rules.{Rules}
use Rattle.asp_job.specs.Runs.{drawn, is_stage_unfinished, is_unfinished, moment_of, numbers, stage_of, unfinished}
use Rattle.asp_job.specs.Told.{Meaning, Told}
use Rattle.asp_job.specs.Turns.{IsRunning, closing_runs, key_asked_by, key_for, needs_key, owed}
use Rattle.asp_core.specs.Kernel.{CoreView, RunView, StandsFor, grown, past_of, rules_of}
use Rattle.asp_core.specs.Laws.{AreNoSteps, is_step_of}
use Rattle.asp_core.specs.Standing.{stand_ins}
use Rattle.asp_core.proofs.Kept.{no_tick_is, past_of_more, tick_is}
use Rattle.asp_journal.proofs.Numbers.{filter_more, filter_same}
use Rattle.asp_journal.proofs.Others.{other_number, own_number, stage_other}
use Rattle.asp_core.proofs.Right.{drawn_next}
use Rattle.asp_core.proofs.Staying.{stays}
use Rattle.asp_lane.specs.Turns.{Fits}
use Rattle.asp_replay.specs.Sequential.{hand_outs}

-- whether an entry begins no run, and is no step of one
abbrev pub is_aside : What → Bool
is_aside (Begin run serial) = false
is_aside (App run call reply) = false
is_aside (End run kind status size made finished) = false
is_aside _ = true

abbrev pub AreAside : List Entry → Type 0
AreAside [] = Unit {0}
AreAside (entry ∷ entries) = (is_aside entry.what ≡ true) × AreAside entries

-- a run more that is not unfinished
one_drawn : (past new : List Entry) → drawn new ≡ drawn past + 1 → is_unfinished new (drawn past + 1) ≡ false
    → ((r : ℕ) → r ≤ drawn past → is_unfinished new r ≡ is_unfinished past r) → unfinished new ≡ unfinished past
one_drawn past new count last others =
    let n = drawn past in
    let same : filter (is_unfinished new) (numbers n) ≡ filter (is_unfinished past) (numbers n) =
    filter_same (is_unfinished new) (is_unfinished past) n others in
    ap (λ m. filter (is_unfinished new) (numbers m)) count ∙ filter_more (is_unfinished new) n
    ∙ cc (last, same, append-nil (filter (is_unfinished past) (numbers n)))

-- where the next run is drawn, and does not begin at once, the others stay
drawn_stays : (past : List Entry) (lane : ℕ) (what : What) → drawn (with_lane lane what ∷ past) ≡ drawn past + 1
    → run_in what ≡ drawn past + 1 → is_stage_unfinished (stage_of (with_lane lane what ∷ past) (run_in what)) ≡ false
    → unfinished (with_lane lane what ∷ past) ≡ unfinished past
drawn_stays past lane what count number own =
    one_drawn past (with_lane lane what ∷ past) count
    (ap (λ r. is_unfinished (with_lane lane what ∷ past) r) (sym number) ∙ own)
    (λ r l. ap is_stage_unfinished (stage_other past lane r what (ap (λ n. n == r) number
    ∙ other_number r (drawn past) l)))

unfinished_stays : (m : Rules) (past : List Entry) (lane : ℕ) (what : What) → IsRight m past (with_lane lane what)
    → is_aside what ≡ true → unfinished (with_lane lane what ∷ past) ≡ unfinished past
unfinished_stays m past lane (Queue run work key) right e =
    drawn_stays past lane (Queue run work key) refl (drawn_next m past lane (Queue run work key) (owed m past)
    right.turn refl)
    (rw (own_number run) refl)
unfinished_stays m past lane (Admit run key fresh job) right e =
    drawn_stays past lane (Admit run key fresh job) refl
    (drawn_next m past lane (Admit run key fresh job) (owed m past) right.turn refl) (rw (own_number run) refl)
unfinished_stays m past lane (Refuse run job) right e =
    drawn_stays past lane (Refuse run job) refl (drawn_next m past lane (Refuse run job) (owed m past) right.turn refl)
    (rw (own_number run) refl)
unfinished_stays m past lane (Tick moment) right e = refl
unfinished_stays m past lane (Begin run serial) right e = absurd cc
unfinished_stays m past lane (App run call reply) right e = absurd cc
unfinished_stays m past lane (End run kind status size made finished) right e = absurd cc
unfinished_stays m past lane (Take run) right e = refl
unfinished_stays m past lane Stop right e = refl
unfinished_stays m past lane Halt right e = refl

right_before : (m : Rules) (past entries : List Entry) → AreRight m (past_after past entries) → AreRight m past
right_before m past [] right = right
right_before m past (entry ∷ entries) right = (right_before m (entry ∷ past) entries right).1

-- the runs that are unfinished stay so
pub still_unfinished : (m : Rules) (past entries : List Entry) → AreRight m (past_after past entries) → AreAside entries
    → unfinished (past_after past entries) ≡ unfinished past
still_unfinished m past [] right aside = refl
still_unfinished m past (entry ∷ entries) right aside =
    still_unfinished m (entry ∷ past) entries right aside.1
    ∙ unfinished_stays m past entry.lane entry.what (right_before m (entry ∷ past) entries right).0 aside.0

step_not : (r : ℕ) (what : What) → is_aside what ≡ true → is_step_of r what ≡ false
step_not r (Queue run work key) e = refl
step_not r (Admit run key fresh job) e = refl
step_not r (Refuse run job) e = refl
step_not r (Tick moment) e = refl
step_not r (Begin run serial) e = absurd cc
step_not r (App run call reply) e = absurd cc
step_not r (End run kind status size made finished) e = absurd cc
step_not r (Take run) e = refl
step_not r Stop e = refl
step_not r Halt e = refl

no_steps : (r : ℕ) (entries : List Entry) → AreAside entries → AreNoSteps r entries
no_steps r [] aside = tt
no_steps r (entry ∷ entries) aside = (step_not r entry.what aside.0, no_steps r entries aside.1)

-- what is in hand fits the core still
pub fits_still : {R Site State : Type 0} → (meaning : R → Site → Meaning)
    (stands : R → Site → State → Told → ℕ → Type 0) (old : CoreView R Site) (entries : List Entry)
    (in_hand : Option (RunView State))
    → AreRight (rules_of meaning old) (past_after (past_of old) entries) → AreAside entries
    → Fits meaning stands old 0 in_hand → Fits meaning stands (grown old entries) 0 in_hand
fits_still meaning stands old entries None right aside fits =
    ap unfinished (past_of_more old.journal entries) ∙ still_unfinished (rules_of meaning old) (past_of old) entries
    right aside
    ∙ fits
fits_still meaning stands old entries (Some run) right aside fits =
    let rules = rules_of meaning old in
    let past = past_of old in
    let new = past_after past entries in
    let of : past_of (grown old entries) ≡ new = past_of_more old.journal entries in
    let is_of = fits.0.is_of in
    let stay = stays rules past entries 0 run.number right is_of.running (no_steps run.number entries aside) in
    let host = stands old.runner old.site in
    let does = meaning old.runner old.site in
    let running : IsRunning (past_of (grown old entries)) 0 run.number =
    subst (λ some. IsRunning some 0 run.number) (sym of) stay.running in
    let told_same : told rules (past_of (grown old entries)) run.number ≡ told rules past run.number =
    ap (λ some. told rules some run.number) of ∙ stay.same in
    let stands_for : StandsFor host does run (told rules (past_of (grown old entries)) run.number) =
    subst (λ t. StandsFor host does run t) (sym told_same) is_of.stands_for in
    let alone : unfinished (past_of (grown old entries)) ≡ run.number ∷ [] =
    ap unfinished of ∙ still_unfinished rules past entries right aside ∙ fits.0.alone in (
      record {
        is_of = record {
          running = running;
          stands_for = stands_for;
          stand_ins_are = is_of.stand_ins_are ∙ ap (λ t. stand_ins t.job.work) (sym told_same);
        };
        alone = alone;
      },
      fits.1,
    )

-- ---- which entries these are

pub aside_both : (first second : List Entry) → AreAside first → AreAside second → AreAside (first ++ second)
aside_both [] second one two = two
aside_both (entry ∷ first) second one two = (one.0, aside_both first second one.1 two)

aside_queued : (lane run : ℕ) (list : List (Work × ℕ)) → AreAside (queue_entries lane run list)
aside_queued lane run [] = tt
aside_queued lane run (first ∷ rest) = (refl, aside_queued lane (run + 1) rest)

pub aside_ticked : (m : Rules) (past : List Entry) (lane moment : ℕ) → AreAside (tick_entries m past lane moment)
aside_ticked m past lane moment = elim (cases_lt (moment_of past) moment) [
  | inl later ↦ rw (tick_is m past lane moment later) (
    refl,
    aside_queued lane (drawn past + 1)
        (closing_runs (due_at (session_of m past) past moment)),
  )
  | inr early ↦ rw (no_tick_is m past lane moment early) tt
]

aside_admission : (refused : Bool) (run key : ℕ) (fresh : Bool) (job : Job)
    → is_aside (if refused then Refuse run job else Admit run key fresh job) ≡ true
aside_admission true run key fresh job = refl
aside_admission false run key fresh job = refl

pub aside_admitted : (m : Rules) (past : List Entry) (lane : ℕ) (job : Job) → AreAside (admit_entries m past lane job)
aside_admitted m past lane job =
    let ticked = tick_entries m past lane job.moment in
    let then_past = past_after past ticked in
    let now = job_now then_past job in
    aside_both ticked (admit_entry m then_past lane job ∷ []) (aside_ticked m past lane job.moment) (
      aside_admission (is_refused (m.meaning.is_keyed now) (key_asked_by m now) (session_of m then_past) then_past)
          (drawn then_past + 1) (key_for (m.meaning.is_keyed now) (key_asked_by m now) (session_of m then_past)
          then_past)
          (needs_key (m.meaning.is_keyed now) (key_asked_by m now) (session_of m then_past) then_past) now,
      tt,
    )

pub aside_stopped : (m : Rules) (past : List Entry) (lane : ℕ) → AreAside (stop_entries m past lane)
aside_stopped m past lane =
    (refl, aside_queued lane (drawn (with_lane lane Stop ∷ past) + 1) (owed m (with_lane lane Stop ∷ past)))

pub aside_handed : (answers : List (ℕ × Answer)) → AreAside (hand_outs answers)
aside_handed [] = tt
aside_handed (first ∷ rest) = (refl, aside_handed rest)
