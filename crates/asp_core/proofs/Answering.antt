-- Which answers wait: those of the runs that ended and were not handed out.
use Rattle.std.proofs.Common.{◌≡◌, ℕ, ◌+◌, ◌==◌, ◌||◌, nat_eq, Bool, true, false, if◌then◌else◌, List}
use Rattle.std.proofs.Common.{[], ◌∷◌, length, Option, Some, None, IsSome, is_some, refl, ap, sym, ◌∙◌}
use Rattle.std.proofs.Common.{subst, arith, inl, inr}
use Rattle.std.specs.Map.{lookup, remove_entry}
use Rattle.std.proofs.lemmas.Bool.{cases_Bool, eqb-true, eq-eqb}
use Rattle.asp_core.specs.Ready.{IsAnswered, ready, with_answer}
use Rattle.asp_core.specs.Waits.{AreOnce, AreThose, HasNone, WaitsFor, waits}
use Rattle.asp_job.specs.History.{run_in, with_lane}
use Rattle.asp_job.specs.Journal.{AreRight, IsRight}
use Rattle.asp_job.specs.Output.{answer_by, answer_of_run, unavailable_in}
use Rattle.asp_job.specs.Rules.{Cause, Rules, TooManySessions}
use Rattle.asp_job.specs.Running.{is_page}
use Rattle.asp_job.specs.Runs.{drawn, has_ended, is_stage_ended, is_taken, job_of, stage_of}
use Rattle.asp_job.specs.Turns.{IsTake, MayFollow, owed}
use Rattle.asp_job.specs.declared.answer.Answer.{Answer}
use Rattle.asp_job.specs.declared.entry.Entry.{Entry}
use Rattle.asp_job.specs.declared.entry.Stage.TheVariants.{Unfinished, Waiting}
use Rattle.asp_job.specs.declared.entry.What.{What}
use Rattle.asp_job.specs.declared.entry.What.TheVariants.{Admit, App, Begin, End, Halt, Queue, Refuse, Stop, Take, Tick}
use Rattle.asp_job.specs.declared.job.Job.{Job}
use Rattle.asp_job.specs.declared.job.Work.{Work}
use Rattle.asp_job.specs.declared.job.Work.TheVariants as work
use Rattle.asp_journal.proofs.Others.{stage_other}
use Rattle.asp_core.proofs.Others.{job_other}
use Rattle.asp_core.proofs.Right.{begin_right, drawn_next, end_running, may_begin_waits, next_undrawn, unfinished_is}

-- ---- lists of answers

eqb_sym : (a b : ℕ) → (a == b) ≡ false → (b == a) ≡ false
eqb_sym a b e = grind arith

none_behind : (r : ℕ) (first : ℕ × Answer) (rest : List (ℕ × Answer)) → HasNone r (first ∷ rest)
    → ((r == first.0) ≡ false) × HasNone r rest
none_behind r first rest none = elim (cases_Bool (r == first.0)) [
  | inl own ↦ absurd (let found : lookup (nat_eq r) (first ∷ rest) ≡ Some first.1 = rw own refl in cc)
  | inr other ↦ (other, rw other at none)
]

lookup_push : (r : ℕ) (answers : List (ℕ × Answer)) (answer : Option Answer) → HasNone r answers
    → lookup (nat_eq r) (with_answer answers r answer) ≡ answer
lookup_push r answers None none = none
lookup_push r [] (Some answer) none = let own = eq-eqb r r refl in rw own refl
lookup_push r (first ∷ rest) (Some answer) none = let behind = none_behind r first rest none in let apart = behind.0 in
    rw apart (lookup_push r rest (Some answer) behind.1)

push_other : (r run : ℕ) (answers : List (ℕ × Answer)) (answer : Option Answer) → (r == run) ≡ false
    → lookup (nat_eq r) (with_answer answers run answer) ≡ lookup (nat_eq r) answers
push_other r run answers None e = refl
push_other r run [] (Some answer) e = rw e refl
push_other r run (first ∷ rest) (Some answer) e = ap (λ found. if r == first.0 then Some first.1 else found)
    (push_other r run rest (Some answer) e)

once_push : (run : ℕ) (answers : List (ℕ × Answer)) (answer : Option Answer) → HasNone run answers → AreOnce answers
    → AreOnce (with_answer answers run answer)
once_push run answers None none once = once
once_push run [] (Some answer) none once = (refl, tt)
once_push run (first ∷ rest) (Some answer) none once =
    let behind = none_behind run first rest none in (
      push_other first.0 run rest (Some answer) (eqb_sym run first.0 behind.0) ∙ once.0,
      once_push run rest (Some answer) behind.1 once.1,
    )

remove_none : (q r : ℕ) (answers : List (ℕ × Answer)) → HasNone q answers → HasNone q (remove_entry (nat_eq r) answers)
remove_none q r [] none = refl
remove_none q r (first ∷ rest) none =
    let behind = none_behind q first rest none in
    let apart = behind.0 in
    elim (cases_Bool (r == first.0)) [
      | inl own ↦ rw own behind.1
      | inr other ↦ rw (other, apart) (remove_none q r rest behind.1)
    ]

once_remove : (r : ℕ) (answers : List (ℕ × Answer)) → AreOnce answers → AreOnce (remove_entry (nat_eq r) answers)
once_remove r [] once = tt
once_remove r (first ∷ rest) once = elim (cases_Bool (r == first.0)) [
  | inl own ↦ rw own once.1
  | inr other ↦ rw other (remove_none first.0 r rest once.0, once_remove r rest once.1)
]

removed : (r : ℕ) (answers : List (ℕ × Answer)) → AreOnce answers → HasNone r (remove_entry (nat_eq r) answers)
removed r [] once = refl
removed r (first ∷ rest) once = elim (cases_Bool (r == first.0)) [
  | inl own ↦ rw own (subst (λ k. HasNone k rest) (sym (eqb-true r first.0 own)) once.0)
  | inr other ↦ rw (other, other) (removed r rest once.1)
]

remove_other : (q r : ℕ) (answers : List (ℕ × Answer)) → (q == r) ≡ false
    → lookup (nat_eq q) (remove_entry (nat_eq r) answers) ≡ lookup (nat_eq q) answers
remove_other q r [] e = refl
remove_other q r (first ∷ rest) e = elim (cases_Bool (r == first.0)) [
  | inl own ↦ (let apart : (q == first.0) ≡ false = subst (λ k. (q == k) ≡ false) (eqb-true r first.0 own) e in
      rw (own, apart) refl)
  | inr other ↦ rw other (ap (λ found. if q == first.0 then Some first.1 else found) (remove_other q r rest e))
]

pub removed_length : (r : ℕ) (answers : List (ℕ × Answer)) → IsSome (lookup (nat_eq r) answers)
    → length (remove_entry (nat_eq r) answers) + 1 ≡ length answers
removed_length r [] some = absurd cc
removed_length r (first ∷ rest) some = elim (cases_Bool (r == first.0)) [
  | inl own ↦ rw own (omega arith)
  | inr other ↦ (let behind : IsSome (lookup (nat_eq r) rest) = rw other at some in let ih = removed_length r rest
      behind in rw other (omega arith))
]

-- ---- runs that ended stay so

ended_own : (m : Rules) (past : List Entry) (lane : ℕ) (what : What) (r : ℕ) → AreRight m past
    → IsRight m past (with_lane lane what) → has_ended past r ≡ true → run_in what ≡ r
    → has_ended (with_lane lane what ∷ past) r ≡ true
ended_own m past lane (Queue run work key) r all right h e =
    let n = drawn_next m past lane (Queue run work key) (owed m past) right.turn refl in
    absurd (let no : has_ended past r ≡ false = ap is_stage_ended (next_undrawn m past all r (omega arith)) in cc)
ended_own m past lane (Admit run key fresh job) r all right h e =
    let n = drawn_next m past lane (Admit run key fresh job) (owed m past) right.turn refl in
    absurd (let no : has_ended past r ≡ false = ap is_stage_ended (next_undrawn m past all r (omega arith)) in cc)
ended_own m past lane (Refuse run job) r all right h e = let own : (run == r) ≡ true = eq-eqb run r e in rw own refl
ended_own m past lane (Tick moment) r all right h e = h
ended_own m past lane (Begin run serial) r all right h e =
    let begin = begin_right m past lane run serial (owed m past) right.turn in
    let waits : stage_of past r ≡ Waiting = ap (stage_of past) (sym e) ∙ may_begin_waits past run begin.next.begins in
    absurd (let no : has_ended past r ≡ false = ap is_stage_ended waits in cc)
ended_own m past lane (App run call reply) r all right h e = h
ended_own m past lane (End run kind status size n1 n2) r all right h e = let own : (run == r) ≡ true = eq-eqb run r e in
    rw own refl
ended_own m past lane (Take run) r all right h e = h
ended_own m past lane Stop r all right h e = h
ended_own m past lane Halt r all right h e = h

pub ended_stays : (m : Rules) (past : List Entry) (lane : ℕ) (what : What) (r : ℕ) → AreRight m past
    → IsRight m past (with_lane lane what) → has_ended past r ≡ true → has_ended (with_lane lane what ∷ past) r ≡ true
ended_stays m past lane what r all right h = elim (cases_Bool (run_in what == r)) [
  | inl own ↦ ended_own m past lane what r all right h (eqb-true (run_in what) r own)
  | inr other ↦ ap is_stage_ended (stage_other past lane r what other) ∙ h
]

pub take_right : (m : Rules) (past : List Entry) (lane run : ℕ) (list : List (Work × ℕ))
    → MayFollow m past list (with_lane lane (Take run)) → IsTake past lane run
take_right m past lane run [] may = may
take_right m past lane run (first ∷ rest) may = absurd (let is = may.0 in cc)

or_right : (a b : Bool) → a ≡ false → (a || b) ≡ true → b ≡ true
or_right true b e f = absurd cc
or_right false b e f = f

taken_more : (m : Rules) (past : List Entry) (lane : ℕ) (what : What) (r : ℕ) → AreRight m past
    → IsRight m past (with_lane lane what) → (is_taken past r ≡ true → has_ended past r ≡ true)
    → is_taken (with_lane lane what ∷ past) r ≡ true → has_ended (with_lane lane what ∷ past) r ≡ true
taken_more m past lane (Queue run work key) r all right ih t = ended_stays m past lane (Queue run work key) r all right
    (ih t)
taken_more m past lane (Admit run key fresh job) r all right ih t = ended_stays m past lane (Admit run key fresh job) r
    all right (ih t)
taken_more m past lane (Refuse run job) r all right ih t = ended_stays m past lane (Refuse run job) r all right (ih t)
taken_more m past lane (Tick moment) r all right ih t = ih t
taken_more m past lane (Begin run serial) r all right ih t = ended_stays m past lane (Begin run serial) r all right
    (ih t)
taken_more m past lane (App run call reply) r all right ih t = ih t
taken_more m past lane (End run kind status size n1 n2) r all right ih t = ended_stays m past lane
    (End run kind status size n1 n2) r all right (ih t)
taken_more m past lane (Take run) r all right ih t = elim (cases_Bool (run == r)) [
  | inl own ↦ subst (λ k. has_ended past k ≡ true) (eqb-true run r own)
      (take_right m past lane run (owed m past) right.turn).ended
  | inr other ↦ ih (or_right (run == r) (is_taken past r) other t)
]
taken_more m past lane Stop r all right ih t = ih t
taken_more m past lane Halt r all right ih t = ih t

taken_ended : (m : Rules) (past : List Entry) → AreRight m past → (r : ℕ) → is_taken past r ≡ true → has_ended past r
    ≡ true
taken_ended m [] right r = λ t. absurd cc
taken_ended m (entry ∷ past) right r = taken_more m past entry.lane entry.what r right.1 right.0
    (taken_ended m past right.1 r)

not_taken : (m : Rules) (past : List Entry) → AreRight m past → (r : ℕ) → has_ended past r ≡ false → is_taken past r
    ≡ false
not_taken m past right r e = elim (cases_Bool (is_taken past r)) [
  | inl t ↦ absurd (let ended = taken_ended m past right r t in cc)
  | inr t ↦ t
]

-- ---- what waits for a run: its answer, once it has ended and before it is handed out

unended : (m : Rules) (past : List Entry) (r : ℕ) → WaitsFor m past r → has_ended past r ≡ false
    → HasNone r (ready m past)
unended m past r found e = found ∙ ap (λ b. waits b (is_taken past r) (answer_of_run m past r)) e

-- an answer comes with the end of its run
pushed_own : (m : Rules) (past : List Entry) (lane : ℕ) (what : What) (r : ℕ) (answer : Option Answer) → AreRight m past
    → WaitsFor m past r → has_ended past r ≡ false → has_ended (with_lane lane what ∷ past) r ≡ true
    → is_taken (with_lane lane what ∷ past) r ≡ is_taken past r → answer_of_run m (with_lane lane what ∷ past) r
    ≡ answer → ready m (with_lane lane what ∷ past) ≡ with_answer (ready m past) r answer
    → WaitsFor m (with_lane lane what ∷ past) r
pushed_own m past lane what r answer all found before after taken is list =
    let open_ = not_taken m past all r before in
    let none = unended m past r found before in
    let same : is_taken (with_lane lane what ∷ past) r ≡ false = taken ∙ open_ in
    let here : waits (has_ended (with_lane lane what ∷ past) r) (is_taken (with_lane lane what ∷ past) r)
    (answer_of_run m (with_lane lane what ∷ past) r) ≡ answer =
    ap (λ b. waits b (is_taken (with_lane lane what ∷ past) r) (answer_of_run m (with_lane lane what ∷ past) r)) after
    ∙ ap (λ b. waits true b (answer_of_run m (with_lane lane what ∷ past) r)) same ∙ is in
    ap (lookup (nat_eq r)) list ∙ lookup_push r (ready m past) answer none ∙ sym here

undrawn_before : (m : Rules) (past : List Entry) (r : ℕ) → AreRight m past → r ≡ drawn past + 1 → has_ended past r
    ≡ false
undrawn_before m past r all e = ap is_stage_ended (next_undrawn m past all r (omega arith))

-- an answer goes with its hand-out
found_take : (m : Rules) (past : List Entry) (lane run r : ℕ) → IsRight m past (with_lane lane (Take run))
    → AreOnce (ready m past) → WaitsFor m past r → WaitsFor m (with_lane lane (Take run) ∷ past) r
found_take m past lane run r right once ih = elim (cases_Bool (run == r)) [
  | inl own ↦ (let is : run ≡ r = eqb-true run r own in
      let ended : has_ended past r ≡ true = subst (λ k. has_ended past k ≡ true) is
      (take_right m past lane run (owed m past) right.turn).ended in
      let gone : lookup (nat_eq r) (remove_entry (nat_eq run) (ready m past)) ≡ None =
      subst (λ k. lookup (nat_eq r) (remove_entry (nat_eq k) (ready m past)) ≡ None) (sym is)
      (removed r (ready m past) once) in
      let none : waits (has_ended past r) ((run == r) || is_taken past r) (answer_of_run m past r) ≡ None =
      rw (ended, own) refl in
      gone ∙ sym none)
  | inr other ↦ (let same : waits (has_ended past r) ((run == r) || is_taken past r) (answer_of_run m past r)
      ≡ waits (has_ended past r) (is_taken past r) (answer_of_run m past r) = rw other refl in
      remove_other r run (ready m past) (eqb_sym run r other) ∙ ih ∙ sym same)
]

found_own : (m : Rules) (past : List Entry) (lane : ℕ) (what : What) (r : ℕ) → AreRight m past
    → IsRight m past (with_lane lane what) → AreOnce (ready m past) → WaitsFor m past r → run_in what ≡ r
    → WaitsFor m (with_lane lane what ∷ past) r
found_own m past lane (Queue run work key) r all right once ih e =
    let own : (run == r) ≡ true = eq-eqb run r e in
    let n = drawn_next m past lane (Queue run work key) (owed m past) right.turn refl in
    rw own (unended m past r ih (undrawn_before m past r all (sym e ∙ n)))
found_own m past lane (Admit run key fresh job) r all right once ih e =
    let own : (run == r) ≡ true = eq-eqb run r e in
    let n = drawn_next m past lane (Admit run key fresh job) (owed m past) right.turn refl in
    rw own (unended m past r ih (undrawn_before m past r all (sym e ∙ n)))
found_own m past lane (Refuse run job) r all right once ih e =
    let own : (run == r) ≡ true = eq-eqb run r e in
    let n = drawn_next m past lane (Refuse run job) (owed m past) right.turn refl in
    pushed_own m past lane (Refuse run job) r (unavailable_in m TooManySessions job.work) all ih
    (undrawn_before m past r all (sym e ∙ n)) (rw own refl) refl (rw own refl)
    (ap (λ k. with_answer (ready m past) k (unavailable_in m TooManySessions job.work)) e)
found_own m past lane (Tick moment) r all right once ih e = ih
found_own m past lane (Begin run serial) r all right once ih e =
    let own : (run == r) ≡ true = eq-eqb run r e in
    let begin = begin_right m past lane run serial (owed m past) right.turn in
    let stage : stage_of past r ≡ Waiting = ap (stage_of past) (sym e) ∙ may_begin_waits past run begin.next.begins in
    rw own (unended m past r ih (ap is_stage_ended stage))
found_own m past lane (App run call reply) r all right once ih e = ih
found_own m past lane (End run kind status size n1 n2) r all right once ih e =
    let own : (run == r) ≡ true = eq-eqb run r e in
    let running = end_running m past lane run kind status size n1 n2 (owed m past) right.turn in
    let stage : stage_of past r ≡ Unfinished = ap (stage_of past) (sym e) ∙ unfinished_is (stage_of past run)
    running.unfinished in
    pushed_own m past lane (End run kind status size n1 n2) r (answer_by m past run kind) all ih
    (ap is_stage_ended stage) (rw own refl) refl (rw own refl)
    (ap (λ k. with_answer (ready m past) k (answer_by m past run kind)) e)
found_own m past lane (Take run) r all right once ih e = found_take m past lane run r right once ih
found_own m past lane Stop r all right once ih e = ih
found_own m past lane Halt r all right once ih e = ih

found_other : (m : Rules) (past : List Entry) (lane : ℕ) (what : What) (r : ℕ) → IsRight m past (with_lane lane what)
    → AreOnce (ready m past) → WaitsFor m past r → (run_in what == r) ≡ false → WaitsFor m (with_lane lane what ∷ past)
    r
found_other m past lane (Queue run work key) r right once ih e = rw e ih
found_other m past lane (Admit run key fresh job) r right once ih e = rw e ih
found_other m past lane (Refuse run job) r right once ih e =
    rw e (push_other r run (ready m past) (unavailable_in m TooManySessions job.work) (eqb_sym run r e) ∙ ih)
found_other m past lane (Tick moment) r right once ih e = ih
found_other m past lane (Begin run serial) r right once ih e = rw e ih
found_other m past lane (App run call reply) r right once ih e = ih
found_other m past lane (End run kind status size n1 n2) r right once ih e =
    rw e (push_other r run (ready m past) (answer_by m past run kind) (eqb_sym run r e) ∙ ih)
found_other m past lane (Take run) r right once ih e = found_take m past lane run r right once ih
found_other m past lane Stop r right once ih e = ih
found_other m past lane Halt r right once ih e = ih

-- the answer of the run of an entry is not among those before it
once_more : (m : Rules) (past : List Entry) (lane : ℕ) (what : What) → AreRight m past
    → IsRight m past (with_lane lane what) → AreOnce (ready m past) → ((r : ℕ) → WaitsFor m past r)
    → AreOnce (ready m (with_lane lane what ∷ past))
once_more m past lane (Queue run work key) all right once ih = once
once_more m past lane (Admit run key fresh job) all right once ih = once
once_more m past lane (Refuse run job) all right once ih =
    let n = drawn_next m past lane (Refuse run job) (owed m past) right.turn refl in
    once_push run (ready m past) (unavailable_in m TooManySessions job.work)
    (unended m past run (ih run) (undrawn_before m past run all n)) once
once_more m past lane (Tick moment) all right once ih = once
once_more m past lane (Begin run serial) all right once ih = once
once_more m past lane (App run call reply) all right once ih = once
once_more m past lane (End run kind status size n1 n2) all right once ih =
    let running = end_running m past lane run kind status size n1 n2 (owed m past) right.turn in
    once_push run (ready m past) (answer_by m past run kind)
    (unended m past run (ih run) (ap is_stage_ended (unfinished_is (stage_of past run) running.unfinished))) once
once_more m past lane (Take run) all right once ih = once_remove run (ready m past) once
once_more m past lane Stop all right once ih = once
once_more m past lane Halt all right once ih = once

-- they are those of the runs that ended and were not handed out
pub are_those : (m : Rules) (past : List Entry) → AreRight m past → AreThose m past
are_those m [] right = record { once = tt; found = λ r. refl }
are_those m (entry ∷ past) right =
    let ih = are_those m past right.1 in
    record {
      once = once_more m past entry.lane entry.what right.1 right.0 ih.once ih.found;
      found = λ r. elim (cases_Bool (run_in entry.what == r)) [
        | inl own ↦ found_own m past entry.lane entry.what r right.1 right.0 ih.once (ih.found r)
            (eqb-true (run_in entry.what) r own)
        | inr other ↦ found_other m past entry.lane entry.what r right.0 ih.once (ih.found r) other
      ];
    }

-- ---- which runs that ended have an answer: those of pages

pub page_answered : (m : Rules) (c : Cause) (w : Work) → is_some (unavailable_in m c w) ≡ is_page w
page_answered m c (work.Page request) = refl
page_answered m c work.Start = refl
page_answered m c work.SessionEnd = refl
page_answered m c work.Stop = refl

abbrev HasItsAnswer : Rules → List Entry → ℕ → Type 0
HasItsAnswer m past r = has_ended past r ≡ true → is_some (answer_of_run m past r) ≡ is_page (job_of past r).work

answered_own : (m : Rules) (past : List Entry) (lane : ℕ) (what : What) (r : ℕ) → AreRight m past
    → IsRight m past (with_lane lane what) → IsAnswered m (with_lane lane what ∷ past) → HasItsAnswer m past r
    → run_in what ≡ r → HasItsAnswer m (with_lane lane what ∷ past) r
answered_own m past lane (Queue run work key) r all right answered ih e ended =
    let own : (run == r) ≡ true = eq-eqb run r e in
    absurd (let no : has_ended (with_lane lane (Queue run work key) ∷ past) r ≡ false = rw own refl in cc)
answered_own m past lane (Admit run key fresh job) r all right answered ih e ended =
    let own : (run == r) ≡ true = eq-eqb run r e in
    absurd (let no : has_ended (with_lane lane (Admit run key fresh job) ∷ past) r ≡ false = rw own refl in cc)
answered_own m past lane (Refuse run job) r all right answered ih e ended =
    let own : (run == r) ≡ true = eq-eqb run r e in
    rw own (page_answered m TooManySessions job.work)
answered_own m past lane (Tick moment) r all right answered ih e ended = ih ended
answered_own m past lane (Begin run serial) r all right answered ih e ended =
    let own : (run == r) ≡ true = eq-eqb run r e in
    absurd (let no : has_ended (with_lane lane (Begin run serial) ∷ past) r ≡ false = rw own refl in cc)
answered_own m past lane (App run call reply) r all right answered ih e ended = ih ended
answered_own m past lane (End run kind status size n1 n2) r all right answered ih e ended =
    let own : (run == r) ≡ true = eq-eqb run r e in
    let here : is_some (answer_by m past run kind) ≡ is_page (job_of past run).work = answered.0 in
    rw own (here ∙ ap (λ k. is_page (job_of past k).work) e)
answered_own m past lane (Take run) r all right answered ih e ended = ih ended
answered_own m past lane Stop r all right answered ih e ended = ih ended
answered_own m past lane Halt r all right answered ih e ended = ih ended

answer_other : (m : Rules) (past : List Entry) (lane : ℕ) (what : What) (r : ℕ) → (run_in what == r) ≡ false
    → answer_of_run m (with_lane lane what ∷ past) r ≡ answer_of_run m past r
answer_other m past lane (Queue run work key) r e = refl
answer_other m past lane (Admit run key fresh job) r e = refl
answer_other m past lane (Refuse run job) r e = rw e refl
answer_other m past lane (Tick moment) r e = refl
answer_other m past lane (Begin run serial) r e = refl
answer_other m past lane (App run call reply) r e = refl
answer_other m past lane (End run kind status size n1 n2) r e = rw e refl
answer_other m past lane (Take run) r e = refl
answer_other m past lane Stop r e = refl
answer_other m past lane Halt r e = refl

pub its_answer : (m : Rules) (past : List Entry) → AreRight m past → IsAnswered m past → (r : ℕ) → HasItsAnswer m past r
its_answer m [] right answered r = λ ended. absurd cc
its_answer m (entry ∷ past) right answered r = elim (cases_Bool (run_in entry.what == r)) [
  | inl own ↦ answered_own m past entry.lane entry.what r right.1 right.0 answered
      (its_answer m past right.1 answered.1 r) (eqb-true (run_in entry.what) r own)
  | inr other ↦ (λ ended. ap is_some (answer_other m past entry.lane entry.what r other)
      ∙ its_answer m past right.1 answered.1 r (sym (ap is_stage_ended (stage_other past entry.lane r entry.what other))
      ∙ ended)
      ∙ sym (ap (λ (j : Job). is_page j.work) (job_other past entry.lane r entry.what other)))
]
