-- Runs stay as they are while other entries come.
use Rattle.std.proofs.Common.{◌≡◌, ◌≢◌, ℕ, ◌==◌, false, List, [], ◌∷◌, refl, ap, ◌∙◌, arith, inl}
use Rattle.std.proofs.Common.{inr}
use Rattle.std.proofs.lemmas.Bool.{cases_Bool, eqb-true}
use Rattle.asp_core.specs.Laws.{AreNoSteps, AreOfOthers, RunStays, is_step_of}
use Rattle.asp_job.specs.History.{run_in, with_lane}
use Rattle.asp_job.specs.Journal.{AreRight, IsRight, past_after}
use Rattle.asp_job.specs.Rules.{Rules}
use Rattle.asp_job.specs.Runs.{is_stage_unfinished, lane_of, stage_of}
use Rattle.asp_job.specs.Turns.{IsRunning, owed}
use Rattle.asp_job.specs.declared.entry.Entry.{Entry}
use Rattle.asp_job.specs.declared.entry.Stage.TheVariants.{Unfinished, Waiting}
use Rattle.asp_job.specs.declared.entry.What.{What}
use Rattle.asp_job.specs.declared.entry.What.TheVariants.{Admit, App, Begin, End, Halt, Queue, Refuse, Stop, Take, Tick}
use Rattle.asp_journal.proofs.Others.{stage_other}
use Rattle.asp_core.proofs.Others.{lane_other, told_other}
use Rattle.asp_core.proofs.Right.{numbered, drawn_next, begin_right, call_running, end_running, may_begin_waits}
use Rattle.asp_core.proofs.Right.{unfinished_is, is_drawn}

pub unequal : (a b : ℕ) → (a ≡ b → ⊥) → (a == b) ≡ false
unequal a b n = elim (cases_Bool (a == b)) [ inl e ↦ absurd (n (eqb-true a b e)) | inr e ↦ e ]

-- an entry that is no step of an unfinished run is not about it
not_about : (m : Rules) (past : List Entry) (lane r : ℕ) (lane' : ℕ) (what : What) → AreRight m past
    → IsRight m past (with_lane lane' what) → IsRunning past lane r → is_step_of r what ≡ false → (run_in what == r)
    ≡ false
not_about m past lane r lane' (Queue run work key) right one running e =
    let n = drawn_next m past lane' (Queue run work key) (owed m past) one.turn refl in
    let stage = unfinished_is (stage_of past r) running.unfinished in
    let known = numbered m past right r (ap is_drawn stage) in let high = known.1 in
    unequal run r (λ same. omega arith)
not_about m past lane r lane' (Admit run key fresh job) right one running e =
    let n = drawn_next m past lane' (Admit run key fresh job) (owed m past) one.turn refl in
    let stage = unfinished_is (stage_of past r) running.unfinished in
    let known = numbered m past right r (ap is_drawn stage) in let high = known.1 in
    unequal run r (λ same. omega arith)
not_about m past lane r lane' (Tick moment) right one running e =
    let stage = unfinished_is (stage_of past r) running.unfinished in
    let known = numbered m past right r (ap is_drawn stage) in let low = known.0 in
    unequal 0 r (λ same. omega arith)
not_about m past lane r lane' (Begin run serial) right one running e =
    let waits : stage_of past run ≡ Waiting = may_begin_waits past run
    (begin_right m past lane' run serial (owed m past) one.turn).next.begins in
    let stage : stage_of past r ≡ Unfinished = unfinished_is (stage_of past r) running.unfinished in
    unequal run r (λ same. let moved : stage_of past run ≡ stage_of past r = ap (stage_of past) same in cc)
not_about m past lane r lane' (App run call reply) right one running e = e
not_about m past lane r lane' (End run kind status size n1 n2) right one running e = e
not_about m past lane r lane' (Refuse run job) right one running e =
    let n = drawn_next m past lane' (Refuse run job) (owed m past) one.turn refl in
    let stage = unfinished_is (stage_of past r) running.unfinished in
    let known = numbered m past right r (ap is_drawn stage) in let high = known.1 in
    unequal run r (λ same. omega arith)
not_about m past lane r lane' (Take run) right one running e =
    let stage = unfinished_is (stage_of past r) running.unfinished in
    let known = numbered m past right r (ap is_drawn stage) in let low = known.0 in
    unequal 0 r (λ same. omega arith)
not_about m past lane r lane' Halt right one running e =
    let stage = unfinished_is (stage_of past r) running.unfinished in
    let known = numbered m past right r (ap is_drawn stage) in let low = known.0 in
    unequal 0 r (λ same. omega arith)
not_about m past lane r lane' Stop right one running e =
    let stage = unfinished_is (stage_of past r) running.unfinished in
    let known = numbered m past right r (ap is_drawn stage) in let low = known.0 in
    unequal 0 r (λ same. omega arith)

pub stays_one : (m : Rules) (past : List Entry) (lane r : ℕ) (entry : Entry) → AreRight m (entry ∷ past)
    → IsRunning past lane r → is_step_of r entry.what ≡ false → RunStays m past (entry ∷ past) lane r
stays_one m past lane r entry right running e =
    let apart = not_about m past lane r entry.lane entry.what right.1 right.0 running e in
    record {
      running = record {
        unfinished = ap is_stage_unfinished (stage_other past entry.lane r entry.what apart) ∙ running.unfinished;
        begun_by = lane_other past entry.lane r entry.what apart ∙ running.begun_by;
      };
      same = told_other m past entry.lane r entry.what apart;
    }

pub right_before : (m : Rules) (past entries : List Entry) → AreRight m (past_after past entries) → AreRight m past
right_before m past [] right = right
right_before m past (entry ∷ entries) right = (right_before m (entry ∷ past) entries right).1

pub stays : (m : Rules) (past entries : List Entry) (lane r : ℕ) → AreRight m (past_after past entries)
    → IsRunning past lane r → AreNoSteps r entries → RunStays m past (past_after past entries) lane r
stays m past [] lane r right running none = record { running = running; same = refl }
stays m past (entry ∷ entries) lane r right running none =
    let one = stays_one m past lane r entry (right_before m (entry ∷ past) entries right) running none.0 in
    let rest = stays m (entry ∷ past) entries lane r right one.running none.1 in
    record { running = rest.running; same = rest.same ∙ one.same }

-- an entry of another lane is no step of the run
no_step : (m : Rules) (past : List Entry) (lane r lane' : ℕ) (what : What) → IsRight m past (with_lane lane' what)
    → IsRunning past lane r → lane' ≢ lane → is_step_of r what ≡ false
no_step m past lane r lane' (Queue run work key) one running other = refl
no_step m past lane r lane' (Admit run key fresh job) one running other = refl
no_step m past lane r lane' (Tick moment) one running other = refl
no_step m past lane r lane' (Begin run serial) one running other = refl
no_step m past lane r lane' (App run call reply) one running other =
    let its = call_running m past lane' run call reply (owed m past) one.turn in
    unequal run r (λ same. let moved : lane_of past run ≡ lane_of past r = ap (lane_of past) same in let mine =
    running.begun_by in let theirs = its.begun_by in other cc)
no_step m past lane r lane' (End run kind status size n1 n2) one running other =
    let its = end_running m past lane' run kind status size n1 n2 (owed m past) one.turn in
    unequal run r (λ same. let moved : lane_of past run ≡ lane_of past r = ap (lane_of past) same in let mine =
    running.begun_by in let theirs = its.begun_by in other cc)
no_step m past lane r lane' (Refuse run job) one running other = refl
no_step m past lane r lane' (Take run) one running other = refl
no_step m past lane r lane' Halt one running other = refl
no_step m past lane r lane' Stop one running other = refl

-- entries of other lanes leave a lane's run as it is
pub stays_lane : (m : Rules) (past entries : List Entry) (lane r : ℕ) → AreRight m (past_after past entries)
    → IsRunning past lane r → AreOfOthers lane entries → RunStays m past (past_after past entries) lane r
stays_lane m past [] lane r right running others = record { running = running; same = refl }
stays_lane m past (entry ∷ entries) lane r right running others =
    let before = right_before m (entry ∷ past) entries right in
    let one = stays_one m past lane r entry before running (no_step m past lane r entry.lane entry.what before.0 running
    others.0) in
    let rest = stays_lane m (entry ∷ past) entries lane r right one.running others.1 in
    record { running = rest.running; same = rest.same ∙ one.same }
