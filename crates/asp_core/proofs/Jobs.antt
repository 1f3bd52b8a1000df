-- What holds of the jobs and the keys of a right journal's runs.
use Rattle.std.proofs.Common.{◌≡◌, ℕ, ◌+◌, ◌<◌, ◌==◌, Bool, true, false, if◌then◌else◌}
use Rattle.std.proofs.Common.{List, [], ◌∷◌, ◌++◌, drop, Some, IsSome, is_some, refl}
use Rattle.std.proofs.Common.{ap, sym, ◌∙◌, subst, arith, inl, inr}
use Rattle.std.proofs.lemmas.Bool.{cases_Bool, eqb-true, eq-eqb}
use Rattle.asp_core.specs.Kernel.{AreWellFormed, IsWellFormed}
use Rattle.asp_job.specs.History.{run_in, with_lane}
use Rattle.asp_job.specs.Journal.{AreRight, IsRight}
use Rattle.asp_job.specs.Keys.{due_at, live, made, session_of}
use Rattle.asp_job.specs.Rules.{Rules}
use Rattle.asp_job.specs.Running.{is_page}
use Rattle.asp_job.specs.Runs.{asking_lane_of, is_fresh, job_of, key_of, queued_job}
use Rattle.asp_job.specs.Size.{IsSmall}
use Rattle.asp_job.specs.Turns.{IsAdmit, MayFollow, closing_runs, key_asked_by, key_for, needs_key, owed}
use Rattle.asp_job.specs.declared.entry.Entry.{Entry}
use Rattle.asp_job.specs.declared.entry.What.{What}
use Rattle.asp_job.specs.declared.entry.What.TheVariants.{Admit, App, Begin, End, Halt, Queue, Refuse, Stop, Take, Tick}
use Rattle.asp_job.specs.declared.job.Job.{Job}
use Rattle.asp_job.specs.declared.job.Work.{Work}
use Rattle.asp_job.specs.declared.job.Work.TheVariants as work
use Rattle.asp_journal.proofs.Others.{key_other}
use Rattle.asp_core.proofs.Others.{fresh_other, job_other}

-- ---- runs that the host queued are no pages

abbrev AreEvents : List (Work × ℕ) → Type 0
AreEvents [] = Unit {0}
AreEvents (first ∷ rest) = (is_page first.0 ≡ false) × AreEvents rest

events_closing : (keys : List ℕ) → AreEvents (closing_runs keys)
events_closing [] = tt
events_closing (k ∷ keys) = (refl, events_closing keys)

events_last : (list : List (Work × ℕ)) → AreEvents list → AreEvents (list ++ (work.Stop, 0) ∷ [])
events_last [] a = (refl, tt)
events_last (first ∷ rest) a = (a.0, events_last rest a.1)

events_drop : (list : List (Work × ℕ)) → AreEvents list → AreEvents (drop 1 list)
events_drop [] a = tt
events_drop (first ∷ rest) a = a.1

events_more : (m : Rules) (past : List Entry) (lane : ℕ) (what : What) → AreEvents (owed m past)
    → AreEvents (owed m (with_lane lane what ∷ past))
events_more m past lane (Queue run work key) a = events_drop (owed m past) a
events_more m past lane (Admit run key fresh job) a = tt
events_more m past lane (Refuse run job) a = tt
events_more m past lane (Tick moment) a = events_closing (due_at (session_of m past) past moment)
events_more m past lane (Begin run serial) a = tt
events_more m past lane (App run call reply) a = tt
events_more m past lane (End run kind status size n1 n2) a = tt
events_more m past lane (Take run) a = tt
events_more m past lane Stop a = events_last (closing_runs (live (session_of m past) past))
    (events_closing (live (session_of m past) past))
events_more m past lane Halt a = tt

owed_events : (m : Rules) (past : List Entry) → AreEvents (owed m past)
owed_events m [] = (refl, tt)
owed_events m (entry ∷ past) = events_more m past entry.lane entry.what (owed_events m past)

queue_event : (m : Rules) (past : List Entry) (lane run : ℕ) (work : Work) (key : ℕ) (list : List (Work × ℕ))
    → MayFollow m past list (with_lane lane (Queue run work key)) → AreEvents list → is_page work ≡ false
queue_event m past lane run work key [] may a = absurd may
queue_event m past lane run work key (first ∷ rest) may a = let is = may.0 in let same : work ≡ first.0 = cc in
    ap is_page same ∙ a.0

queued_right : (m : Rules) (past : List Entry) (lane run : ℕ) (work : Work) (key : ℕ)
    → IsRight m past (with_lane lane (Queue run work key)) → is_page work ≡ false
queued_right m past lane run work key right = queue_event m past lane run work key (owed m past) right.turn
    (owed_events m past)

-- ---- the jobs are small

event_small : (work : Work) → is_page work ≡ false → IsSmall (queued_job work)
event_small (work.Page request) e = absurd cc
event_small work.Start e = omega arith
event_small work.SessionEnd e = omega arith
event_small work.Stop e = omega arith

small_own : (m : Rules) (past : List Entry) (lane : ℕ) (what : What) (r : ℕ) → IsRight m past (with_lane lane what)
    → IsWellFormed what → IsSmall (job_of past r) → run_in what ≡ r → IsSmall (job_of (with_lane lane what ∷ past) r)
small_own m past lane (Queue run work key) r right formed ih e =
    let own : (run == r) ≡ true = eq-eqb run r e in
    let is : job_of (with_lane lane (Queue run work key) ∷ past) r ≡ queued_job work = rw own refl in
    subst IsSmall (sym is) (event_small work (queued_right m past lane run work key right))
small_own m past lane (Admit run key fresh job) r right formed ih e =
    let own : (run == r) ≡ true = eq-eqb run r e in
    let is : job_of (with_lane lane (Admit run key fresh job) ∷ past) r ≡ job = rw own refl in
    subst IsSmall (sym is) formed
small_own m past lane (Refuse run job) r right formed ih e =
    let own : (run == r) ≡ true = eq-eqb run r e in
    let is : job_of (with_lane lane (Refuse run job) ∷ past) r ≡ job = rw own refl in
    subst IsSmall (sym is) formed
small_own m past lane (Tick moment) r right formed ih e = ih
small_own m past lane (Begin run serial) r right formed ih e = ih
small_own m past lane (App run call reply) r right formed ih e = ih
small_own m past lane (End run kind status size n1 n2) r right formed ih e = ih
small_own m past lane (Take run) r right formed ih e = ih
small_own m past lane Stop r right formed ih e = ih
small_own m past lane Halt r right formed ih e = ih

pub small_job : (m : Rules) (past : List Entry) → AreRight m past → AreWellFormed past → (r : ℕ) → IsSmall (job_of past r)
small_job m [] right formed r = omega arith
small_job m (entry ∷ past) right formed r = elim (cases_Bool (run_in entry.what == r)) [
  | inl own ↦ small_own m past entry.lane entry.what r right.0 formed.0 (small_job m past right.1 formed.1 r)
      (eqb-true (run_in entry.what) r own)
  | inr other ↦ subst IsSmall (sym (job_other past entry.lane r entry.what other)) (small_job m past right.1 formed.1 r)
]

-- ---- a lane asked for each page

abbrev HasAsker : List Entry → ℕ → Type 0
HasAsker past r = is_page (job_of past r).work ≡ true → IsSome (asking_lane_of past r)

asking_other : (past : List Entry) (lane r : ℕ) (what : What) → (run_in what == r) ≡ false
    → asking_lane_of (with_lane lane what ∷ past) r ≡ asking_lane_of past r
asking_other past lane r (Queue run work key) e = refl
asking_other past lane r (Admit run key fresh job) e = rw e refl
asking_other past lane r (Refuse run job) e = rw e refl
asking_other past lane r (Tick moment) e = refl
asking_other past lane r (Begin run serial) e = refl
asking_other past lane r (App run call reply) e = refl
asking_other past lane r (End run kind status size n1 n2) e = refl
asking_other past lane r (Take run) e = refl
asking_other past lane r Stop e = refl
asking_other past lane r Halt e = refl

asker_own : (m : Rules) (past : List Entry) (lane : ℕ) (what : What) (r : ℕ) → IsRight m past (with_lane lane what)
    → HasAsker past r → run_in what ≡ r → HasAsker (with_lane lane what ∷ past) r
asker_own m past lane (Queue run work key) r right ih e page =
    let own : (run == r) ≡ true = eq-eqb run r e in
    let is : job_of (with_lane lane (Queue run work key) ∷ past) r ≡ queued_job work = rw own refl in
    let event = queued_right m past lane run work key right in
    let other : is_page work ≡ true = sym (ap (λ job. is_page job.work) is) ∙ page in
    absurd cc
asker_own m past lane (Admit run key fresh job) r right ih e page =
    let own : (run == r) ≡ true = eq-eqb run r e in
    let is : asking_lane_of (with_lane lane (Admit run key fresh job) ∷ past) r ≡ Some lane = rw own refl in
    ap is_some is
asker_own m past lane (Refuse run job) r right ih e page =
    let own : (run == r) ≡ true = eq-eqb run r e in
    let is : asking_lane_of (with_lane lane (Refuse run job) ∷ past) r ≡ Some lane = rw own refl in
    ap is_some is
asker_own m past lane (Tick moment) r right ih e page = ih page
asker_own m past lane (Begin run serial) r right ih e page = ih page
asker_own m past lane (App run call reply) r right ih e page = ih page
asker_own m past lane (End run kind status size n1 n2) r right ih e page = ih page
asker_own m past lane (Take run) r right ih e page = ih page
asker_own m past lane Stop r right ih e page = ih page
asker_own m past lane Halt r right ih e page = ih page

pub page_asked : (m : Rules) (past : List Entry) → AreRight m past → (r : ℕ) → HasAsker past r
page_asked m [] right r = λ page. absurd cc
page_asked m (entry ∷ past) right r = elim (cases_Bool (run_in entry.what == r)) [
  | inl own ↦ asker_own m past entry.lane entry.what r right.0 (page_asked m past right.1 r)
      (eqb-true (run_in entry.what) r own)
  | inr other ↦ (λ page. subst IsSome (sym (asking_other past entry.lane r entry.what other))
      (page_asked m past right.1 r (sym (ap (λ job. is_page job.work) (job_other past entry.lane r entry.what other))
      ∙ page)))
]

-- ---- a key that was made for a run is one

key_if : (needs : Bool) (n k : ℕ) → needs ≡ true → 0 < (if needs then n + 1 else k)
key_if true n k e = omega arith
key_if false n k e = absurd cc

abbrev HasKey : List Entry → ℕ → Type 0
HasKey past r = is_fresh past r ≡ true → 0 < key_of past r

pub admit_right : (m : Rules) (past : List Entry) (lane run key : ℕ) (fresh : Bool) (job : Job) (list : List (Work × ℕ))
    → MayFollow m past list (with_lane lane (Admit run key fresh job)) → IsAdmit m past run key fresh job
admit_right m past lane run key fresh job [] may = may
admit_right m past lane run key fresh job (first ∷ rest) may = absurd (let is = may.0 in cc)

fresh_own : (m : Rules) (past : List Entry) (lane : ℕ) (what : What) (r : ℕ) → IsRight m past (with_lane lane what)
    → HasKey past r → run_in what ≡ r → HasKey (with_lane lane what ∷ past) r
fresh_own m past lane (Queue run work key) r right ih e fresh =
    let own : (run == r) ≡ true = eq-eqb run r e in
    let is : is_fresh (with_lane lane (Queue run work key) ∷ past) r ≡ false = rw own refl in
    absurd (let no : false ≡ true = sym is ∙ fresh in cc)
fresh_own m past lane (Admit run key fresh job) r right ih e made_for =
    let own : (run == r) ≡ true = eq-eqb run r e in
    let may = admit_right m past lane run key fresh job (owed m past) right.turn in
    let is : is_fresh (with_lane lane (Admit run key fresh job) ∷ past) r ≡ fresh = rw own refl in
    let key_is : key_of (with_lane lane (Admit run key fresh job) ∷ past) r ≡ key = rw own refl in
    let keyed = m.meaning.is_keyed job in
    let asked = key_asked_by m job in
    let needs : needs_key keyed asked (session_of m past) past ≡ true = sym may.fresh_is ∙ sym is ∙ made_for in
    let positive : 0 < key_for keyed asked (session_of m past) past =
    key_if (needs_key keyed asked (session_of m past) past) (made past) (if keyed then asked else 0) needs in
    subst (λ k. 0 < k) (sym (key_is ∙ may.key_is)) positive
fresh_own m past lane (Refuse run job) r right ih e fresh =
    let own : (run == r) ≡ true = eq-eqb run r e in
    let is : is_fresh (with_lane lane (Refuse run job) ∷ past) r ≡ false = rw own refl in
    absurd (let no : false ≡ true = sym is ∙ fresh in cc)
fresh_own m past lane (Tick moment) r right ih e fresh = ih fresh
fresh_own m past lane (Begin run serial) r right ih e fresh = ih fresh
fresh_own m past lane (App run call reply) r right ih e fresh = ih fresh
fresh_own m past lane (End run kind status size n1 n2) r right ih e fresh = ih fresh
fresh_own m past lane (Take run) r right ih e fresh = ih fresh
fresh_own m past lane Stop r right ih e fresh = ih fresh
fresh_own m past lane Halt r right ih e fresh = ih fresh

pub fresh_key : (m : Rules) (past : List Entry) → AreRight m past → (r : ℕ) → HasKey past r
fresh_key m [] right r = λ fresh. absurd cc
fresh_key m (entry ∷ past) right r = elim (cases_Bool (run_in entry.what == r)) [
  | inl own ↦ fresh_own m past entry.lane entry.what r right.0 (fresh_key m past right.1 r)
      (eqb-true (run_in entry.what) r own)
  | inr other ↦ (λ fresh. subst (λ k. 0 < k) (sym (key_other past entry.lane r entry.what other))
      (fresh_key m past right.1 r (sym (fresh_other past entry.lane r entry.what other) ∙ fresh)))
]
