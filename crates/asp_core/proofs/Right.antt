-- What holds of the runs of a right journal.
use Rattle.std.proofs.Common.{◌≡◌, ℕ, ◌+◌, ◌<◌, ◌≤◌, ◌==◌, ◌&&◌, Bool, true, false, if◌then◌else◌, List, [], ◌∷◌, ◌++◌}
use Rattle.std.proofs.Common.{Some, None, unwrap_or, refl, ap, sym, ◌∙◌, append-nil, arith, inl, inr}
use Rattle.std.proofs.lemmas.Bool.{cases_Bool, eqb-true, eq-eqb}
use Rattle.asp_job.specs.History.{run_in, with_lane}
use Rattle.asp_job.specs.Journal.{AreRight, IsRight}
use Rattle.asp_job.specs.Keys.{given}
use Rattle.asp_job.specs.Rules.{Rules}
use Rattle.asp_job.specs.Runs.{drawn, draws, is_stage_unfinished, is_stage_waiting, replies_of, stage_of}
use Rattle.asp_job.specs.Told.{begun}
use Rattle.asp_job.specs.Turns.{IsBegin, IsRunning, MayFollow, may_begin, owed}
use Rattle.asp_job.specs.declared.entry.EndKind.{EndKind}
use Rattle.asp_job.specs.declared.entry.Entry.{Entry}
use Rattle.asp_job.specs.declared.entry.Stage.{Stage}
use Rattle.asp_job.specs.declared.entry.Stage.TheVariants.{Ended, Undrawn, Unfinished, Waiting}
use Rattle.asp_job.specs.declared.entry.What.{What}
use Rattle.asp_job.specs.declared.entry.What.TheVariants.{Admit, App, Begin, End, Halt, Queue, Refuse, Stop, Take, Tick}
use Rattle.asp_job.specs.declared.job.Work.{Work}
use Rattle.vb_value.specs.declared.application.AppCall.{AppCall}
use Rattle.vb_value.specs.declared.application.AppReply.{AppReply}
use Rattle.asp_journal.proofs.Others.{stage_other}
use Rattle.asp_core.proofs.Others.{replies_other}

and_left : (a b : Bool) → (a && b) ≡ true → a ≡ true
and_left true b e = refl
and_left false b e = e

-- a run that is drawn has the next number
pub drawn_next : (m : Rules) (past : List Entry) (lane : ℕ) (what : What) (list : List (Work × ℕ))
    → MayFollow m past list (with_lane lane what) → draws what ≡ true → run_in what ≡ drawn past + 1
drawn_next m past lane (Queue run work key) [] may d = absurd may
drawn_next m past lane (Admit run key fresh job) [] may d = may.number
drawn_next m past lane (Refuse run job) [] may d = may.number
drawn_next m past lane (Take run) [] may d = absurd cc
drawn_next m past lane Halt [] may d = absurd cc
drawn_next m past lane (Tick moment) [] may d = absurd cc
drawn_next m past lane (Begin run serial) [] may d = absurd cc
drawn_next m past lane (App run call reply) [] may d = absurd cc
drawn_next m past lane (End run kind status size n1 n2) [] may d = absurd cc
drawn_next m past lane Stop [] may d = absurd cc
drawn_next m past lane what (first ∷ rest) may d = ap run_in may.0

pub call_running : (m : Rules) (past : List Entry) (lane run : ℕ) (call : AppCall) (reply : AppReply)
    (list : List (Work × ℕ)) → MayFollow m past list (with_lane lane (App run call reply)) → IsRunning past lane run
call_running m past lane run call reply [] may = may
call_running m past lane run call reply (first ∷ rest) may = absurd (let is = may.0 in cc)

pub end_running : (m : Rules) (past : List Entry) (lane run : ℕ) (kind : EndKind) (status size n1 n2 : ℕ)
    (list : List (Work × ℕ)) → MayFollow m past list (with_lane lane (End run kind status size n1 n2))
    → IsRunning past lane run
end_running m past lane run kind status size n1 n2 [] may = may
end_running m past lane run kind status size n1 n2 (first ∷ rest) may = absurd (let is = may.0 in cc)

pub begin_right : (m : Rules) (past : List Entry) (lane run serial : ℕ) (list : List (Work × ℕ))
    → MayFollow m past list (with_lane lane (Begin run serial)) → IsBegin m past run serial
begin_right m past lane run serial [] may = may
begin_right m past lane run serial (first ∷ rest) may = absurd (let is = may.0 in cc)

-- whether a run at this stage was drawn; whether it has begun
abbrev pub is_drawn : Stage → Bool
is_drawn Undrawn = false
is_drawn _ = true

abbrev pub is_begun : Stage → Bool
is_begun Unfinished = true
is_begun Ended = true
is_begun _ = false

pub waiting_is : (stage : Stage) → is_stage_waiting stage ≡ true → stage ≡ Waiting
waiting_is Waiting e = refl
waiting_is Undrawn e = absurd cc
waiting_is Unfinished e = absurd cc
waiting_is Ended e = absurd cc

pub unfinished_is : (stage : Stage) → is_stage_unfinished stage ≡ true → stage ≡ Unfinished
unfinished_is Unfinished e = refl
unfinished_is Undrawn e = absurd cc
unfinished_is Waiting e = absurd cc
unfinished_is Ended e = absurd cc

pub may_begin_waits : (past : List Entry) (r : ℕ) → may_begin past r ≡ true → stage_of past r ≡ Waiting
may_begin_waits past r e = waiting_is (stage_of past r) (and_left _ _ (and_left _ _ (and_left _ _ e)))

drawn_grows : (past : List Entry) (lane : ℕ) (what : What) → drawn past ≤ drawn (with_lane lane what ∷ past)
drawn_grows past lane (Queue run work key) = omega arith
drawn_grows past lane (Admit run key fresh job) = omega arith
drawn_grows past lane (Tick moment) = omega arith
drawn_grows past lane (Begin run serial) = omega arith
drawn_grows past lane (App run call reply) = omega arith
drawn_grows past lane (End run kind status size n1 n2) = omega arith
drawn_grows past lane (Refuse run job) = omega arith
drawn_grows past lane (Take run) = omega arith
drawn_grows past lane Halt = omega arith
drawn_grows past lane Stop = omega arith

-- a run that was drawn has a number from 1 to the number of runs
abbrev pub HasNumber : List Entry → ℕ → Type 0
HasNumber past r = is_drawn (stage_of past r) ≡ true → (0 < r) × (r ≤ drawn past)

number_other : (past : List Entry) (lane : ℕ) (what : What) (r : ℕ) → HasNumber past r → (run_in what == r) ≡ false
    → HasNumber (with_lane lane what ∷ past) r
number_other past lane what r ih e d =
    let before : (0 < r) × (r ≤ drawn past) = ih (ap is_drawn (sym (stage_other past lane r what e)) ∙ d) in
    let more = drawn_grows past lane what in
    let low = before.0 in let high = before.1 in
    (low, omega arith)

-- the entry is about the run r
number_own : (m : Rules) (past : List Entry) (lane : ℕ) (what : What) (r : ℕ) → IsRight m past (with_lane lane what)
    → HasNumber past r → run_in what ≡ r → HasNumber (with_lane lane what ∷ past) r
number_own m past lane (Queue run work key) r right ih e d = let n = drawn_next m past lane (Queue run work key)
    (owed m past) right.turn refl in (omega arith, omega arith)
number_own m past lane (Admit run key fresh job) r right ih e d = let n = drawn_next m past lane
    (Admit run key fresh job) (owed m past) right.turn refl in (omega arith, omega arith)
number_own m past lane (Tick moment) r right ih e d = ih d
number_own m past lane (Begin run serial) r right ih e d =
    let begin = begin_right m past lane run serial (owed m past) right.turn in
    let waits : stage_of past r ≡ Waiting = ap (stage_of past) (sym e) ∙ may_begin_waits past run begin.next.begins in
    ih (ap is_drawn waits)
number_own m past lane (App run call reply) r right ih e d = ih d
number_own m past lane (End run kind status size n1 n2) r right ih e d =
    let running = end_running m past lane run kind status size n1 n2 (owed m past) right.turn in
    let stage : stage_of past r ≡ Unfinished = ap (stage_of past) (sym e) ∙ unfinished_is (stage_of past run)
    running.unfinished in
    ih (ap is_drawn stage)
number_own m past lane (Refuse run job) r right ih e d = let n = drawn_next m past lane (Refuse run job) (owed m past)
    right.turn refl in (omega arith, omega arith)
number_own m past lane (Take run) r right ih e d = ih d
number_own m past lane Halt r right ih e d = ih d
number_own m past lane Stop r right ih e d = ih d

pub numbered : (m : Rules) (past : List Entry) → AreRight m past → (r : ℕ) → HasNumber past r
numbered m [] right r = λ d. absurd cc
numbered m (entry ∷ past) right r = elim (cases_Bool (run_in entry.what == r)) [
  | inl own ↦ number_own m past entry.lane entry.what r right.0 (numbered m past right.1 r)
      (eqb-true (run_in entry.what) r own)
  | inr other ↦ number_other past entry.lane entry.what r (numbered m past right.1 r) other
]

-- a run that has not begun has no replies
abbrev pub HasNoReplies : List Entry → ℕ → Type 0
HasNoReplies past r = is_begun (stage_of past r) ≡ false → replies_of past r ≡ []

not_drawn : (stage : Stage) → is_drawn stage ≡ false → stage ≡ Undrawn
not_drawn Undrawn e = refl
not_drawn Waiting e = absurd cc
not_drawn Unfinished e = absurd cc
not_drawn Ended e = absurd cc

-- the next number is of no run
pub next_undrawn : (m : Rules) (past : List Entry) → AreRight m past → (r : ℕ) → drawn past < r → stage_of past r
    ≡ Undrawn
next_undrawn m past right r l = elim (cases_Bool (is_drawn (stage_of past r))) [
  | inl d ↦ (let known = numbered m past right r d in let low = known.0 in let high = known.1 in absurd (omega arith))
  | inr d ↦ not_drawn (stage_of past r) d
]

-- the stage that an entry gives to its own run is not one that has not begun
begun_twice : (own : Bool) → own ≡ true → (given before : Stage) → is_begun given ≡ true
    → is_begun (unwrap_or (if own then Some given else None) before) ≡ false → ⊥
begun_twice true e given before begun fresh = cc
begun_twice false e given before begun fresh = cc

replies_drawn : (m : Rules) (past : List Entry) (r : ℕ) → AreRight m past → HasNoReplies past r → r ≡ drawn past + 1
    → replies_of past r ++ [] ≡ []
replies_drawn m past r right ih e = let fresh = next_undrawn m past right r (omega arith) in
    append-nil (replies_of past r) ∙ ih (ap is_begun fresh)

replies_own : (m : Rules) (past : List Entry) (lane : ℕ) (what : What) (r : ℕ) → AreRight m past
    → IsRight m past (with_lane lane what) → HasNoReplies past r → run_in what ≡ r
    → HasNoReplies (with_lane lane what ∷ past) r
replies_own m past lane (Queue run work key) r all right ih e b = replies_drawn m past r all ih
    (sym e ∙ drawn_next m past lane (Queue run work key) (owed m past) right.turn refl)
replies_own m past lane (Admit run key fresh job) r all right ih e b = replies_drawn m past r all ih
    (sym e ∙ drawn_next m past lane (Admit run key fresh job) (owed m past) right.turn refl)
replies_own m past lane (Tick moment) r all right ih e b = append-nil (replies_of past r) ∙ ih b
replies_own m past lane (Begin run serial) r all right ih e b =
    absurd (begun_twice (run == r) (eq-eqb run r e) Unfinished (stage_of past r) refl b)
replies_own m past lane (App run call reply) r all right ih e b =
    let running = call_running m past lane run call reply (owed m past) right.turn in
    let stage : stage_of past r ≡ Unfinished = ap (stage_of past) (sym e) ∙ unfinished_is (stage_of past run)
    running.unfinished in
    absurd cc
replies_own m past lane (End run kind status size n1 n2) r all right ih e b =
    absurd (begun_twice (run == r) (eq-eqb run r e) Ended (stage_of past r) refl b)
replies_own m past lane (Refuse run job) r all right ih e b =
    absurd (begun_twice (run == r) (eq-eqb run r e) Ended (stage_of past r) refl b)
replies_own m past lane (Take run) r all right ih e b = append-nil (replies_of past r) ∙ ih b
replies_own m past lane Halt r all right ih e b = append-nil (replies_of past r) ∙ ih b
replies_own m past lane Stop r all right ih e b = append-nil (replies_of past r) ∙ ih b

pub no_replies : (m : Rules) (past : List Entry) → AreRight m past → (r : ℕ) → HasNoReplies past r
no_replies m [] right r = λ b. refl
no_replies m (entry ∷ past) right r = elim (cases_Bool (run_in entry.what == r)) [
  | inl own ↦ replies_own m past entry.lane entry.what r right.1 right.0 (no_replies m past right.1 r)
      (eqb-true (run_in entry.what) r own)
  | inr other ↦ (λ b. replies_other past entry.lane r entry.what other ∙ no_replies m past right.1 r
      (ap is_begun (sym (stage_other past entry.lane r entry.what other)) ∙ b))
]
