-- What entries do to the answers that are shown.
use Rattle.std.proofs.Common.{◌≡◌, ℕ, ◌+◌, ◌<◌, Bool, true, false, List, [], ◌∷◌, ◌++◌, map}
use Rattle.std.proofs.Common.{Option, Some, None, is_some, refl, ap, sym, ◌∙◌, subst, inl, inr}
use Rattle.std.proofs.Common.{append_assoc}
use Rattle.std.proofs.lemmas.Bool.{cases_Bool, cases_lt}
use Rattle.std.proofs.lemmas.List.{map-append}
use Rattle.asp_core.proofs.Kept.{no_tick_is, tick_is}
use Rattle.asp_core.proofs.Right.{end_running}
use Rattle.asp_core.specs.Laws.{NoneIs}
use Rattle.asp_core.specs.Ready.{IsAnswered, IsAnsweredBy, ready, with_answer}
use Rattle.asp_job.specs.declared.answer.Answer.{Answer}
use Rattle.asp_job.specs.declared.entry.Entry.{Entry}
use Rattle.asp_job.specs.declared.entry.What.{What}
use Rattle.asp_job.specs.declared.entry.What.TheVariants.{Admit, App, Begin, End, Halt, Queue, Refuse, Stop, Take, Tick}
use Rattle.asp_job.specs.declared.job.Job.{Job}
use Rattle.asp_job.specs.declared.job.Work.{Work}
use Rattle.asp_job.specs.declared.session.SessionState.{SessionState}
use Rattle.asp_job.specs.History.{with_lane}
use Rattle.asp_job.specs.Journal.{AreRight, IsRight, admission, admit_entries, admit_entry, is_refused, job_now}
use Rattle.asp_job.specs.Journal.{past_after, queue_entries, stop_entries}
use Rattle.asp_job.specs.Journal.{tick_entries}
use Rattle.asp_job.specs.Keys.{session_of}
use Rattle.asp_job.specs.Output.{answer_by, unavailable_in}
use Rattle.asp_job.specs.Rules.{Rules, TooManySessions}
use Rattle.asp_job.specs.Runs.{drawn, is_open, is_unfinished, is_waiting, job_of, moment_of}
use Rattle.asp_job.specs.Turns.{IsRefuse, MayFollow, key_asked_by, owed}
use Rattle.asp_feed.specs.Feeding.{is_calm}
use Rattle.asp_feed.specs.Shown.{Shown, shown_of, with_shown}
use Rattle.asp_replay.specs.Underway.{AreCurrent, stamped}
use Rattle.asp_replay.proofs.Current.{current_grows, current_ticked, is_tick_or_take}

-- ---- answers whose jobs came at one moment

abbrev pub stamp : ℕ → List (ℕ × Answer) → List Shown
stamp moment answers = map (λ waits. record { run = waits.0; moment = moment; answer = waits.1 }) answers

shown_more : (done : List Shown) (answers : List (ℕ × Answer)) (run own moment : ℕ) (answer : Option Answer)
    → (is_some answer ≡ true → own ≡ moment)
    → with_shown (done ++ stamp moment answers) run own answer ≡ done ++ stamp moment (with_answer answers run answer)
shown_more done answers run own moment None same = refl
shown_more done answers run own moment (Some answer) same =
    let one : Shown = record { run = run; moment = moment; answer = answer } in
    ap (λ at. (done ++ stamp moment answers) ++ record { run = run; moment = at; answer = answer } ∷ []) (same refl)
    ∙ append_assoc done (stamp moment answers) (one ∷ [])
    ∙ ap (λ shown. done ++ shown) (sym (map-append (λ (waits : ℕ × Answer). record {
      run = waits.0;
      moment = moment;
      answer = waits.1;
    }) answers ((run, answer) ∷ [])))

-- ---- one entry

refuse_right : (m : Rules) (past : List Entry) (lane run : ℕ) (job : Job) (list : List (Work × ℕ))
    → MayFollow m past list (with_lane lane (Refuse run job)) → IsRefuse m past run job
refuse_right m past lane run job [] may = may
refuse_right m past lane run job (first ∷ rest) may = absurd (let is = may.0 in cc)

open_unfinished : (past : List Entry) (r : ℕ) → is_unfinished past r ≡ true → is_open past r ≡ true
open_unfinished past r busy = elim (cases_Bool (is_waiting past r)) [
  | inl waits ↦ rw waits refl
  | inr none ↦ rw none busy
]

-- the answers were shown but for those that wait, whose jobs came at the journal's moment
abbrev pub IsShown : Rules → List Entry → List Shown → Type 0
IsShown m past done = shown_of m past ≡ done ++ stamped m past

shown_what : (m : Rules) (past : List Entry) (lane : ℕ) (what : What) (done : List Shown)
    → IsRight m past (with_lane lane what) → IsAnsweredBy m past what → AreCurrent past
    → is_tick_or_take what ≡ false → IsShown m past done → IsShown m (with_lane lane what ∷ past) done
shown_what m past lane (Queue run work key) done one answered current plain is = is
shown_what m past lane (Admit run key fresh job) done one answered current plain is = is
shown_what m past lane (Refuse run job) done one answered current plain is =
    let may = refuse_right m past lane run job (owed m past) one.turn in
    let answer = unavailable_in m TooManySessions job.work in
    ap (λ shown. with_shown shown run job.moment answer) is
    ∙ shown_more done (ready m past) run job.moment (moment_of past) answer (λ some. may.asked.moment)
shown_what m past lane (Begin run serial) done one answered current plain is = is
shown_what m past lane (App run call reply) done one answered current plain is = is
shown_what m past lane (End run kind status size n1 n2) done one answered current plain is =
    let running = end_running m past lane run kind status size n1 n2 (owed m past) one.turn in
    let under = open_unfinished past run running.unfinished in
    let answer = answer_by m past run kind in
    let same : is_some answer ≡ true → (job_of past run).moment ≡ moment_of past =
    λ some. current run under (sym answered ∙ some) in
    ap (λ shown. with_shown shown run (job_of past run).moment answer) is
    ∙ shown_more done (ready m past) run (job_of past run).moment (moment_of past) answer same
shown_what m past lane Stop done one answered current plain is = is
shown_what m past lane Halt done one answered current plain is = is
shown_what m past lane (Tick moment) done one answered current plain is = absurd cc
shown_what m past lane (Take run) done one answered current plain is = absurd cc

-- what the journal shows, with the jobs under way
pub record Shows (m : Rules) (past : List Entry) (done : List Shown) : Type 0 where
  pub current : AreCurrent past
  pub shown : IsShown m past done

pub shown_grows : (m : Rules) (past : List Entry) (entry : Entry) (done : List Shown) → AreRight m (entry ∷ past)
    → IsAnswered m (entry ∷ past) → is_tick_or_take entry.what ≡ false → Shows m past done
    → Shows m (entry ∷ past) done
shown_grows m past entry done right answered plain shows =
    record {
      current = current_grows m past entry right.1 right.0 plain shows.current;
      shown = shown_what m past entry.lane entry.what done right.0 answered.0 shows.current plain shows.shown;
    }

-- a Tick where nothing is under way and no answer waits
pub shown_ticks : (m : Rules) (past : List Entry) (lane moment : ℕ) (done : List Shown) → AreRight m past
    → is_calm past ≡ true → ready m past ≡ [] → Shows m past done
    → Shows m (with_lane lane (Tick moment) ∷ past) done
shown_ticks m past lane moment done right calm none shows =
    record {
      current = current_ticked m past lane moment right calm;
      shown = shows.shown ∙ ap (λ answers. done ++ stamp (moment_of past) answers) none
          ∙ sym (ap (λ answers. done ++ stamp moment answers) none);
    }

-- ---- entries, one after another

pub right_before : (m : Rules) (past entries : List Entry) → AreRight m (past_after past entries) → AreRight m past
right_before m past [] right = right
right_before m past (entry ∷ entries) right = (right_before m (entry ∷ past) entries right).1

pub answered_before : (m : Rules) (past entries : List Entry) → IsAnswered m (past_after past entries)
    → IsAnswered m past
answered_before m past [] answered = answered
answered_before m past (entry ∷ entries) answered = (answered_before m (entry ∷ past) entries answered).1

pub shown_after : (m : Rules) (past entries : List Entry) (done : List Shown)
    → AreRight m (past_after past entries) → IsAnswered m (past_after past entries) → NoneIs is_tick_or_take entries
    → Shows m past done → Shows m (past_after past entries) done
shown_after m past [] done right answered plain shows = shows
shown_after m past (entry ∷ entries) done right answered plain shows =
    shown_after m (entry ∷ past) entries done right answered plain.1 (shown_grows m past entry done
    (right_before m (entry ∷ past) entries right) (answered_before m (entry ∷ past) entries answered) plain.0 shows)

plain_queue : (lane run : ℕ) (list : List (Work × ℕ)) → NoneIs is_tick_or_take (queue_entries lane run list)
plain_queue lane run [] = tt
plain_queue lane run (first ∷ rest) = (refl, plain_queue lane (run + 1) rest)

-- what a Stop adds
pub shown_stop : (m : Rules) (past : List Entry) (lane : ℕ) (done : List Shown)
    → AreRight m (past_after past (stop_entries m past lane))
    → IsAnswered m (past_after past (stop_entries m past lane)) → Shows m past done
    → Shows m (past_after past (stop_entries m past lane)) done
shown_stop m past lane done right answered shows =
    let entry = with_lane lane Stop in
    shown_after m past (stop_entries m past lane) done right answered
    (refl, plain_queue lane (drawn (entry ∷ past) + 1) (owed m (entry ∷ past))) shows

-- what a Tick adds, where time goes on only when nothing is under way
pub shown_tick : (m : Rules) (past : List Entry) (lane moment : ℕ) (done : List Shown)
    → AreRight m (past_after past (tick_entries m past lane moment))
    → IsAnswered m (past_after past (tick_entries m past lane moment))
    → (moment_of past < moment → is_calm past ≡ true) → (moment_of past < moment → ready m past ≡ [])
    → Shows m past done → Shows m (past_after past (tick_entries m past lane moment)) done
shown_tick m past lane moment done right answered calm none shows = elim (cases_lt (moment_of past) moment) [
  | inl later ↦ (let entry = with_lane lane (Tick moment) in
      let list = owed m (entry ∷ past) in
      let is = tick_is m past lane moment later in
      let queued = queue_entries lane (drawn (entry ∷ past) + 1) list in
      let right_then : AreRight m (past_after (entry ∷ past) queued) =
      subst (λ entries. AreRight m (past_after past entries)) is right in
      let answered_then : IsAnswered m (past_after (entry ∷ past) queued) =
      subst (λ entries. IsAnswered m (past_after past entries)) is answered in
      subst (λ entries. Shows m (past_after past entries) done) (sym is) (shown_after m (entry ∷ past) queued done
      right_then answered_then (plain_queue lane (drawn (entry ∷ past) + 1) list) (shown_ticks m past lane moment
      done (right_before m (entry ∷ past) queued right_then).1 (calm later) (none later) shows)))
  | inr early ↦ subst (λ entries. Shows m (past_after past entries) done) (sym (no_tick_is m past lane moment early))
      shows
]

pub after_both : (past first second : List Entry) → past_after past (first ++ second)
    ≡ past_after (past_after past first) second
after_both past [] second = refl
after_both past (entry ∷ first) second = after_both (entry ∷ past) first second

plain_admission : (keyed : Bool) (asked : ℕ) (sessions : ℕ → Option SessionState) (past : List Entry) (job : Job)
    → is_tick_or_take (admission keyed asked sessions past job) ≡ false
plain_admission keyed asked sessions past job = elim (cases_Bool (is_refused keyed asked sessions past)) [
  | inl refused ↦ rw refused refl
  | inr admitted ↦ rw admitted refl
]

-- what a job adds
pub shown_admit : (m : Rules) (past : List Entry) (lane : ℕ) (job : Job) (done : List Shown)
    → AreRight m (past_after past (admit_entries m past lane job))
    → IsAnswered m (past_after past (admit_entries m past lane job))
    → (moment_of past < job.moment → is_calm past ≡ true) → (moment_of past < job.moment → ready m past ≡ [])
    → Shows m past done → Shows m (past_after past (admit_entries m past lane job)) done
shown_admit m past lane job done right answered calm none shows =
    let ticked = tick_entries m past lane job.moment in
    let mid = past_after past ticked in
    let now = job_now mid job in
    let entry = admit_entry m mid lane job in
    let is : past_after past (admit_entries m past lane job) ≡ entry ∷ mid = after_both past ticked (entry ∷ []) in
    let right_then : AreRight m (entry ∷ mid) = subst (AreRight m) is right in
    let answered_then : IsAnswered m (entry ∷ mid) = subst (IsAnswered m) is answered in
    let before = shown_tick m past lane job.moment done right_then.1 answered_then.1 calm none shows in
    subst (λ new. Shows m new done) (sym is) (shown_grows m mid entry done right_then answered_then
    (plain_admission (m.meaning.is_keyed now) (key_asked_by m now) (session_of m mid) mid now) before)
