-- A core's journal is short: few of its entries count, each run is handed out once, and one Halt stands.
use Rattle.std.proofs.Common.{◌≡◌, ℕ, ◌+◌, ◌<◌, ◌≤◌, ◌==◌, ◌||◌, Bool, true, false, List, [], ◌∷◌, length}
use Rattle.std.proofs.Common.{reverse, filter, refl, ap, ◌∙◌, arith, length-append}
use Rattle.asp_job.specs.declared.entry.Entry.{Entry}
use Rattle.asp_job.specs.declared.entry.Stage.{Stage}
use Rattle.asp_job.specs.declared.entry.Stage.TheVariants.{Undrawn, Waiting, Unfinished, Ended}
use Rattle.asp_job.specs.declared.entry.What.{What}
use Rattle.asp_job.specs.declared.entry.What.TheVariants.{Admit, App, Begin, End, Halt, Queue, Refuse, Stop, Take, Tick}
use Rattle.asp_job.specs.declared.job.Work.{Work}
use Rattle.asp_job.specs.History.{entries_in, with_lane}
use Rattle.asp_job.specs.Journal.{AreRight, IsRight, IsValidJournal}
use Rattle.asp_job.specs.Rules.{Rules}
use Rattle.asp_job.specs.Runs.{drawn, is_halted, is_stage_ended, is_taken, numbers, stage_of}
use Rattle.asp_job.specs.Turns.{MayFollow, owed}
use Rattle.asp_journal.proofs.Bounds.{drawn_small}
use Rattle.asp_journal.proofs.Numbers.{filter_more}
use Rattle.asp_journal.proofs.Open.{length_numbers, passed_few}
use Rattle.asp_journal.proofs.Others.{own_number}
use Rattle.asp_journal.proofs.Past.{length_past}
use Rattle.asp_core.specs.Kernel.{IsWithin}
use Rattle.asp_core.proofs.Answering.{take_right}
use Rattle.asp_core.proofs.Counts.{filter_one}
use Rattle.asp_core.proofs.Right.{is_drawn, numbered}

-- how many entries hand an answer out, and how many are a Halt
takes_in : List Entry → ℕ
takes_in [] = 0
takes_in (entry ∷ past) = elim entry.what [ Take run ↦ takes_in past + 1 | _ ↦ takes_in past ]

halts_in : List Entry → ℕ
halts_in [] = 0
halts_in (entry ∷ past) = elim entry.what [ Halt ↦ halts_in past + 1 | _ ↦ halts_in past ]

abbrev AreAll : List Entry → Type 0
AreAll past = length past ≡ entries_in past + takes_in past + halts_in past

all_more : (past : List Entry) (lane : ℕ) (what : What) → AreAll past → AreAll (with_lane lane what ∷ past)
unfolding takes_in halts_in
all_more past lane (Queue run work key) all = omega arith
all_more past lane (Admit run key fresh job) all = omega arith
all_more past lane (Refuse run job) all = omega arith
all_more past lane (Tick moment) all = omega arith
all_more past lane (Begin run serial) all = omega arith
all_more past lane (App run call reply) all = omega arith
all_more past lane (End run kind status size n1 n2) all = omega arith
all_more past lane (Take run) all = omega arith
all_more past lane Stop all = omega arith
all_more past lane Halt all = omega arith

all_are : (past : List Entry) → AreAll past
unfolding takes_in halts_in
all_are [] = refl
all_are (entry ∷ past) = all_more past entry.lane entry.what (all_are past)

-- ---- a Halt

halt_right : (m : Rules) (past : List Entry) (lane : ℕ) (list : List (Work × ℕ))
    → MayFollow m past list (with_lane lane Halt) → is_halted past ≡ false
halt_right m past lane [] may = may
halt_right m past lane (first ∷ rest) may = absurd (let is = may.0 in cc)

true_not_false : (b : Bool) → (true || b) ≡ false → ⊥
true_not_false b e = cc

-- without a Halt there is none
abbrev HaltsWhere : List Entry → Type 0
HaltsWhere past = is_halted past ≡ false → halts_in past ≡ 0

halts_more : (past : List Entry) (lane : ℕ) (what : What) → HaltsWhere past → HaltsWhere (with_lane lane what ∷ past)
unfolding halts_in
halts_more past lane (Queue run work key) none e = none e
halts_more past lane (Admit run key fresh job) none e = none e
halts_more past lane (Refuse run job) none e = none e
halts_more past lane (Tick moment) none e = none e
halts_more past lane (Begin run serial) none e = none e
halts_more past lane (App run call reply) none e = none e
halts_more past lane (End run kind status size n1 n2) none e = none e
halts_more past lane (Take run) none e = none e
halts_more past lane Stop none e = none e
halts_more past lane Halt none e = absurd (true_not_false (is_halted past) e)

no_halts : (past : List Entry) → HaltsWhere past
unfolding halts_in
no_halts [] e = refl
no_halts (entry ∷ past) e = halts_more past entry.lane entry.what (no_halts past) e

one_more : (m : Rules) (past : List Entry) (lane : ℕ) (what : What) → IsRight m past (with_lane lane what)
    → halts_in past ≤ 1 → halts_in (with_lane lane what ∷ past) ≤ 1
unfolding halts_in
one_more m past lane (Queue run work key) right one = one
one_more m past lane (Admit run key fresh job) right one = one
one_more m past lane (Refuse run job) right one = one
one_more m past lane (Tick moment) right one = one
one_more m past lane (Begin run serial) right one = one
one_more m past lane (App run call reply) right one = one
one_more m past lane (End run kind status size n1 n2) right one = one
one_more m past lane (Take run) right one = one
one_more m past lane Stop right one = one
one_more m past lane Halt right one =
    let none = no_halts past (halt_right m past lane (owed m past) right.turn) in omega arith

one_halt : (m : Rules) (past : List Entry) → AreRight m past → halts_in past ≤ 1
unfolding halts_in
one_halt m [] right = omega arith
one_halt m (entry ∷ past) right = one_more m past entry.lane entry.what right.0 (one_halt m past right.1)

-- ---- hand-outs

abbrev taken_runs : List Entry → List ℕ
taken_runs past = filter (is_taken past) (numbers (drawn past))

drawn_one : (p : ℕ → Bool) (n k : ℕ) → k ≤ length (filter p (numbers n)) → k ≤ length (filter p (numbers (n + 1)))
drawn_one p n k few =
    let more = ap length (filter_more p n) ∙ length-append (filter p (numbers n)) _ in
    omega arith

ended_is : (stage : Stage) → is_stage_ended stage ≡ true → is_drawn stage ≡ true
ended_is Undrawn e = absurd cc
ended_is Waiting e = absurd cc
ended_is Unfinished e = absurd cc
ended_is Ended e = refl

or_own : (a b : Bool) → a ≡ true → (a || b) ≡ true
or_own true b e = refl
or_own false b e = absurd cc

or_other : (a b : Bool) → a ≡ false → b ≡ (a || b)
or_other true b e = absurd cc
or_other false b e = refl

abbrev AreFewTaken : List Entry → Type 0
AreFewTaken past = takes_in past ≤ length (taken_runs past)

taken_more : (m : Rules) (past : List Entry) (lane : ℕ) (what : What) → AreRight m past
    → IsRight m past (with_lane lane what) → AreFewTaken past → AreFewTaken (with_lane lane what ∷ past)
unfolding takes_in
taken_more m past lane (Queue run work key) all right few = drawn_one (is_taken past) (drawn past) (takes_in past) few
taken_more m past lane (Admit run key fresh job) all right few =
    drawn_one (is_taken past) (drawn past) (takes_in past) few
taken_more m past lane (Refuse run job) all right few = drawn_one (is_taken past) (drawn past) (takes_in past) few
taken_more m past lane (Tick moment) all right few = few
taken_more m past lane (Begin run serial) all right few = few
taken_more m past lane (App run call reply) all right few = few
taken_more m past lane (End run kind status size n1 n2) all right few = few
taken_more m past lane (Take run) all right few =
    let is = take_right m past lane run (owed m past) right.turn in
    let known = numbered m past all run (ended_is (stage_of past run) is.ended) in
    let new = is_taken (with_lane lane (Take run) ∷ past) in
    let one : length (filter (is_taken past) (numbers (drawn past))) + 1 ≡ length (filter new (numbers (drawn past))) =
    filter_one (is_taken past) new (drawn past) run known.0 known.1
    (or_own (run == run) (is_taken past run) (own_number run)) is.kept
    (λ other e. or_other (run == other) (is_taken past other) e) in
    omega arith
taken_more m past lane Stop all right few = few
taken_more m past lane Halt all right few = few

few_taken : (m : Rules) (past : List Entry) → AreRight m past → AreFewTaken past
unfolding takes_in
few_taken m [] right = omega arith
few_taken m (entry ∷ past) right = taken_more m past entry.lane entry.what right.1 right.0 (few_taken m past right.1)

-- ---- together

short_past : (m : Rules) (past : List Entry) → AreRight m past → IsWithin past → length past < 4294967296
short_past m past right within =
    let all = all_are past in
    let halts = one_halt m past right in
    let taken = few_taken m past right in
    let few = passed_few (is_taken past) (numbers (drawn past)) in
    let long = length_numbers (drawn past) in
    let drawn_few = drawn_small past in
    let entries = within.few in
    omega arith

pub short_journal : (m : Rules) (journal : List Entry) → IsValidJournal m (reverse journal)
    → IsWithin (reverse journal) → length journal < 4294967296
short_journal m journal valid within =
    let same = length_past journal in
    let short = short_past m (reverse journal) valid.entries within in
    omega arith
