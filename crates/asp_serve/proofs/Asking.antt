-- What a request's job brings to a journal, and what keeps it out.
use Rattle.std.proofs.Common.{◌≡◌, ◌⊎◌, ℕ, ◌+◌, ◌++◌, Bool, true, false, if◌then◌else◌, List, [], ◌∷◌, refl, ap, sym}
use Rattle.std.proofs.Common.{◌∙◌, subst, append-nil, inl, inr, reverse, arith, Result, Ok, Err}
use Rattle.std.specs.Prelude.{max}
use Rattle.std.proofs.lemmas.Bool.{cases_lt}
use Rattle.turn_desk.specs.Histories.{BeginsWith}
use Rattle.asp_job.specs.declared.entry.Entry.{Entry}
use Rattle.asp_job.specs.declared.entry.What.{What}
use Rattle.asp_job.specs.declared.entry.What.TheVariants.{Admit, App, Begin, End, Halt, Queue, Refuse, Stop, Take, Tick}
use Rattle.asp_job.specs.declared.job.Job.{Job}
use Rattle.asp_job.specs.declared.job.Work.{Work}
use Rattle.asp_job.specs.declared.request.Request.{Request}
use Rattle.asp_job.specs.History.{with_lane}
use Rattle.asp_job.specs.Journal.{admit_entries, admit_entry, is_refused, job_now, past_after, queue_entries}
use Rattle.asp_job.specs.Journal.{tick_entries}
use Rattle.asp_job.specs.Keys.{session_of}
use Rattle.asp_job.specs.Rules.{Rules}
use Rattle.asp_job.specs.Runs.{drawn, is_stopping, moment_of}
use Rattle.asp_job.specs.Turns.{key_asked_by, key_for, needs_key, owed}
use Rattle.asp_journal.specs.declared.full.Full.{Full}
use Rattle.asp_core.specs.declared.admitted.Admitted.{Admitted}
use Rattle.asp_core.specs.declared.stop.AdmitStop.TheVariants as admit
use Rattle.asp_core.specs.Drawing.{entry_then, told_of}
use Rattle.asp_core.specs.Kernel.{IsBeginTooMuch}
use Rattle.asp_core.proofs.Kept.{no_tick_is, tick_is}
use Rattle.asp_desk.specs.Calls.{Admits, IsTurn}
use Rattle.asp_serve.specs.declared.ending.LinkEnd.{LinkEnd}
use Rattle.asp_serve.specs.declared.ending.LinkEnd.TheVariants as end
use Rattle.asp_serve.specs.Jobs.{AreOfLink, Asking, IsAdmitted, IsOfLink, brought_by, job_for, jobs_in}
use Rattle.asp_serve.specs.Served.{CallIsTooMuch, IsFull, JobIsTooMuch, Lane}
use Rattle.asp_serve.specs.Steps.{Asks, Hinders, IsHindered, IsTold, Works}
use Rattle.asp_serve.proofs.Lanes.{begins_then, grows_behind, jobs_both, links_both, turn_grows, turn_rests, works_then}

-- ---- a Tick, and the runs that are then owed

queue_brings : (lane run : ℕ) (list : List (Work × ℕ)) → jobs_in (queue_entries lane run list) ≡ []
queue_brings lane run [] = refl
queue_brings lane run (first ∷ rest) = queue_brings lane (run + 1) rest

queue_links : (may_give : ℕ → Type 0) (lane run : ℕ) (list : List (Work × ℕ))
    → AreOfLink may_give (queue_entries lane run list)
queue_links may_give lane run [] = tt
queue_links may_give lane run (first ∷ rest) = (tt, queue_links may_give lane (run + 1) rest)

queue_moment : (past : List Entry) (lane run : ℕ) (list : List (Work × ℕ))
    → moment_of (past_after past (queue_entries lane run list)) ≡ moment_of past
queue_moment past lane run [] = refl
queue_moment past lane run (first ∷ rest) = queue_moment (_ ∷ past) lane (run + 1) rest

tick_brings : (m : Rules) (past : List Entry) (lane moment : ℕ) → jobs_in (tick_entries m past lane moment) ≡ []
tick_brings m past lane moment = elim (cases_lt (moment_of past) moment) [
  | inl later ↦ rw (tick_is m past lane moment later) (queue_brings lane
      (drawn (with_lane lane (Tick moment) ∷ past) + 1) (owed m (with_lane lane (Tick moment) ∷ past)))
  | inr early ↦ rw (no_tick_is m past lane moment early) refl
]

tick_links : (may_give : ℕ → Type 0) (m : Rules) (past : List Entry) (lane moment : ℕ) → may_give moment
    → AreOfLink may_give (tick_entries m past lane moment)
tick_links may_give m past lane moment may = elim (cases_lt (moment_of past) moment) [
  | inl later ↦ rw (tick_is m past lane moment later) (
    may,
    queue_links may_give lane
        (drawn (with_lane lane (Tick moment) ∷ past) + 1) (owed m (with_lane lane (Tick moment) ∷ past)),
  )
  | inr early ↦ rw (no_tick_is m past lane moment early) tt
]

tick_moment : (m : Rules) (past : List Entry) (lane moment : ℕ)
    → moment_of (past_after past (tick_entries m past lane moment)) ≡ max moment (moment_of past)
tick_moment m past lane moment = elim (cases_lt (moment_of past) moment) [
  | inl later ↦ (let is : max moment (moment_of past) ≡ moment = omega arith in
      rw (tick_is m past lane moment later) (queue_moment (with_lane lane (Tick moment) ∷ past) lane
      (drawn (with_lane lane (Tick moment) ∷ past) + 1) (owed m (with_lane lane (Tick moment) ∷ past)) ∙ sym is))
  | inr early ↦ (let is : max moment (moment_of past) ≡ moment_of past = omega arith in
      rw (no_tick_is m past lane moment early) (sym is))
]

-- ---- the entry of a job

-- what an entry of a job brings, and what is told of it
record Brings (what : What) (job : Job) : Type 0 where
  asking : Asking
  asking_is : brought_by what ≡ asking ∷ []
  run_is : (told_of what).run ≡ asking.0
  moment_is : (told_of what).moment ≡ asking.1.moment
  job_is : asking.1 ≡ job

brings_if : (refused : Bool) (run key : ℕ) (fresh : Bool) (job : Job)
    → Brings (if refused then Refuse run job else Admit run key fresh job) job
brings_if true run key fresh job = record {
  asking = (run, job);
  asking_is = refl;
  run_is = refl;
  moment_is = refl;
  job_is = refl;
}
brings_if false run key fresh job = record {
  asking = (run, job);
  asking_is = refl;
  run_is = refl;
  moment_is = refl;
  job_is = refl;
}

entry_brings : (m : Rules) (past : List Entry) (lane : ℕ) (job : Job)
    → Brings (admit_entry m past lane job).what (job_now past job)
entry_brings m past lane job =
    let now = job_now past job in
    let keyed = m.meaning.is_keyed now in
    let asked = key_asked_by m now in
    let sessions = session_of m past in
    brings_if (is_refused keyed asked sessions past) (drawn past + 1) (key_for keyed asked sessions past)
    (needs_key keyed asked sessions past) now

link_if : (may_give : ℕ → Type 0) (refused : Bool) (run key : ℕ) (fresh : Bool) (job : Job)
    → IsOfLink may_give (if refused then Refuse run job else Admit run key fresh job)
link_if may_give true run key fresh job = tt
link_if may_give false run key fresh job = tt

entry_links : (may_give : ℕ → Type 0) (m : Rules) (past : List Entry) (lane : ℕ) (job : Job)
    → IsOfLink may_give (admit_entry m past lane job).what
entry_links may_give m past lane job =
    let now = job_now past job in
    let keyed = m.meaning.is_keyed now in
    let asked = key_asked_by m now in
    let sessions = session_of m past in
    link_if may_give (is_refused keyed asked sessions past) (drawn past + 1) (key_for keyed asked sessions past)
    (needs_key keyed asked sessions past) now

admit_brings : (m : Rules) (past : List Entry) (lane : ℕ) (job : Job)
    → jobs_in (admit_entries m past lane job) ≡ brought_by (entry_then m past lane job).what
admit_brings m past lane job =
    let ticked = tick_entries m past lane job.moment in
    jobs_both ticked (entry_then m past lane job ∷ [])
    ∙ ap (λ l. l ++ (brought_by (entry_then m past lane job).what ++ [])) (tick_brings m past lane job.moment)
    ∙ append-nil (brought_by (entry_then m past lane job).what)

admit_links : (may_give : ℕ → Type 0) (m : Rules) (past : List Entry) (lane : ℕ) (job : Job) → may_give job.moment
    → AreOfLink may_give (admit_entries m past lane job)
admit_links may_give m past lane job may =
    let ticked = tick_entries m past lane job.moment in
    links_both may_give ticked (entry_then m past lane job ∷ []) (tick_links may_give m past lane job.moment may)
    (entry_links may_give m (past_after past ticked) lane job, tt)

job_moment : (request : Request) (moment other : ℕ) → moment ≡ other → job_for request moment ≡ job_for request other
job_moment request moment other same = ap (job_for request) same

links_may : (P Q : ℕ → Type 0) → ((s : ℕ) → P s → Q s) → (xs : List Entry) → AreOfLink P xs → AreOfLink Q xs
links_may P Q more [] p = tt
links_may P Q more (x ∷ xs) p = (at x.what p.0, links_may P Q more xs p.1)
  where
    at : (what : What) → IsOfLink P what → IsOfLink Q what
    at (Tick moment) p = more moment p
    at Stop p = p
    at Halt p = p
    at (Queue run work key) p = tt
    at (Admit run key fresh job) p = tt
    at (Refuse run job) p = tt
    at (Begin run serial) p = tt
    at (App run call reply) p = tt
    at (End run kind status size made finished) p = tt
    at (Take run) p = tt

module _ {F : Type 0} where
  -- ---- a job that came

  -- a turn in which the job of a request came
  pub told_is : (m : Rules) (may_give : ℕ → Type 0) (request : Request) (second : ℕ) (a b : Lane F) (told : Admitted)
      → may_give second → IsTurn (Admits m a.number (job_for request second)) a (Ok told) b
      → IsTold m may_give request told a b
  told_is m may_give request second a b told may turn =
      let past = reverse turn.before in
      let job = job_for request second in
      let entries = admit_entries m past a.number job in
      let ticked = tick_entries m past a.number second in
      let its = entry_brings m (past_after past ticked) a.number job in
      record {
        asking = its.asking;
        grows = turn_grows may_give (Admits m a.number job) a b (Ok told) turn entries (its.asking ∷ []) turn.done.0
            (admit_brings m past a.number job ∙ its.asking_is) (admit_links may_give m past a.number job may);
        admitted = record {
          before = turn.before;
          after = [];
          second = second;
          may = may;
          seen_is = turn.done.0 ∙ sym (append-nil (turn.before ++ entries));
          asking_is = its.asking_is;
          job_is = its.job_is ∙ job_moment request (moment_of (past_after past ticked)) (max second (moment_of past))
              (tick_moment m past a.number second);
        };
        run_is = ap (λ (t : Admitted). t.run) turn.done.1 ∙ its.run_is;
        moment_is = ap (λ (t : Admitted). t.moment) turn.done.1 ∙ its.moment_is;
      }

  told_may : (P Q : ℕ → Type 0) → ((s : ℕ) → P s → Q s) → (m : Rules) (request : Request) (told : Admitted) (a b : Lane F)
      → IsTold m P request told a b → IsTold m Q request told a b
  told_may P Q more m request told a b x = record {
    asking = x.asking;
    grows = record {
      seen = x.grows.seen;
      number = x.grows.number;
      more = x.grows.more;
      own = x.grows.own;
      jobs_are = x.grows.jobs_are;
      entries = links_may P Q more x.grows.more x.grows.entries;
    };
    admitted = record {
      before = x.admitted.before;
      after = x.admitted.after;
      second = x.admitted.second;
      may = more x.admitted.second x.admitted.may;
      seen_is = x.admitted.seen_is;
      asking_is = x.admitted.asking_is;
      job_is = x.admitted.job_is;
    };
    run_is = x.run_is;
    moment_is = x.moment_is;
  }

  told_then : (m : Rules) (may_give : ℕ → Type 0) (request : Request) (told : Admitted) (a b c : Lane F) → Works a b
      → IsTold m may_give request told b c → IsTold m may_give request told a c
  told_then m may_give request told a b c before x = record {
    asking = x.asking;
    grows = grows_behind may_give a b c (x.asking ∷ []) before x.grows;
    admitted = subst (λ n. IsAdmitted m n may_give c.seen request x.asking) before.number x.admitted;
    run_is = x.run_is;
    moment_is = x.moment_is;
  }

  -- ---- what hinders

  pub full_then : (m : Rules) (asked : Request → Type 0) (a b c : Lane F) (full : Full) → BeginsWith b.seen a.seen
      → b.number ≡ a.number → IsFull m asked b c full → IsFull m asked a c full
  full_then m asked a b c full seen number x = record {
    before = x.before;
    later = begins_then a.seen b.seen x.before seen x.later;
    earlier = x.earlier;
    much = subst (λ n. JobIsTooMuch m asked n (reverse x.before) full
        ⊎ (IsBeginTooMuch m (reverse x.before) n full ⊎ CallIsTooMuch n (reverse x.before) full))
        number x.much;
  }

  pub full_more : (m : Rules) (P Q : Request → Type 0) → ((r : Request) → P r → Q r) → (a b : Lane F) (full : Full)
      → IsFull m P a b full → IsFull m Q a b full
  full_more m P Q more a b full x =
      record { before = x.before; later = x.later; earlier = x.earlier; much = at x.much }
    where
      at : JobIsTooMuch m P a.number (reverse x.before) full
          ⊎ (IsBeginTooMuch m (reverse x.before) a.number full
          ⊎ CallIsTooMuch a.number (reverse x.before) full)
          → JobIsTooMuch m Q a.number (reverse x.before) full
          ⊎ (IsBeginTooMuch m (reverse x.before) a.number full
          ⊎ CallIsTooMuch a.number (reverse x.before) full)
      at (inl job) = inl (job.0, job.1, more job.0 job.2, job.3)
      at (inr rest) = inr rest

  pub hindered_then : (m : Rules) (asked : Request → Type 0) (due : Bool) (a b c : Lane F) (ended : LinkEnd) → Works a b
      → IsHindered m asked due b c ended → IsHindered m asked due a c ended
  hindered_then m asked due a b c ended before x =
      record { works = works_then a b c before x.works; why = at ended x.why }
    where
      at : (e : LinkEnd) → Hinders m asked due b c e → Hinders m asked due a c e
      at (end.Closed rest) y = y
      at end.Drained y = y
      at (end.Refused status) y = y
      at end.ReadFault y = y
      at end.WriteFault y = y
      at (end.JournalFull full) y = full_then m asked a b c full before.seen before.number y
      at end.Memory y = y

  -- what hinders at all hinders where a request is due
  pub hindered_due : (m : Rules) (asked : Request → Type 0) (a b : Lane F) (ended : LinkEnd)
      → IsHindered m (λ request. ⊥) false a b ended → IsHindered m asked true a b ended
  hindered_due m asked a b ended x = record { works = x.works; why = at ended x.why }
    where
      at : (e : LinkEnd) → Hinders m (λ request. ⊥) false a b e → Hinders m asked true a b e
      at (end.Closed rest) y = y
      at end.Drained (inl y) = absurd (let no = y.0 in cc)
      at end.Drained (inr y) = inr y
      at (end.Refused status) y = y
      at end.ReadFault y = y
      at end.WriteFault y = y
      at (end.JournalFull full) y = full_more m (λ request. ⊥) asked (λ r no. absurd no) a b full y
      at end.Memory y = y

  -- turns in which the job of a request did not come
  pub too_many : (m : Rules) (job : Job) (a b : Lane F) → IsTurn (Admits m a.number job) a (Err admit.WaitingFull) b
      → Works a b
  too_many m job a b turn = turn_rests (Admits m a.number job) a b (Err admit.WaitingFull) turn turn.done.0

  pub stops_it : (m : Rules) (asked : Request → Type 0) (job : Job) (a b : Lane F)
      → IsTurn (Admits m a.number job) a (Err admit.Stopping) b → IsHindered m asked true a b end.Drained
  stops_it m asked job a b turn = record {
    works = turn_rests (Admits m a.number job) a b (Err admit.Stopping) turn turn.done.0;
    why = inl (refl, ap (λ l. is_stopping (reverse l)) turn.done.0 ∙ turn.done.1);
  }

  pub lacks_memory : (m : Rules) (asked : Request → Type 0) (job : Job) (a b : Lane F)
      → IsTurn (Admits m a.number job) a (Err admit.Memory) b → IsHindered m asked true a b end.Memory
  lacks_memory m asked job a b turn = record {
    works = turn_rests (Admits m a.number job) a b (Err admit.Memory) turn turn.done.0;
    why = tt;
  }

  pub fills_it : (m : Rules) (request : Request) (second : ℕ) (a b : Lane F) (full : Full)
      → IsTurn (Admits m a.number (job_for request second)) a (Err (admit.JournalFull full)) b
      → IsHindered m (λ asked. asked ≡ request) true a b (end.JournalFull full)
  fills_it m request second a b full turn = record {
    works = turn_rests (Admits m a.number (job_for request second)) a b (Err (admit.JournalFull full)) turn
        turn.done.0;
    why = record {
      before = turn.before;
      later = turn.fits.0;
      earlier = (turn.grows.0, turn.grows.1);
      much = inl (request, second, refl, turn.done.2);
    };
  }

  -- ---- asking

  pub asks_may : (P Q : ℕ → Type 0) → ((s : ℕ) → P s → Q s) → (m : Rules) (request : Request) (a b : Lane F)
      (asked : Result Admitted LinkEnd) → Asks m P request a asked b → Asks m Q request a asked b
  asks_may P Q more m request a b (Ok told) x = told_may P Q more m request told a b x
  asks_may P Q more m request a b (Err ended) x = x

  pub asks_then : (m : Rules) (may_give : ℕ → Type 0) (request : Request) (a b c : Lane F)
      (asked : Result Admitted LinkEnd) → Works a b → Asks m may_give request b asked c
      → Asks m may_give request a asked c
  asks_then m may_give request a b c (Ok told) before x = told_then m may_give request told a b c before x
  asks_then m may_give request a b c (Err ended) before x =
      hindered_then m (λ asked. asked ≡ request) true a b c ended before x
