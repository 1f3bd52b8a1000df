-- How many runs wait, and how many jobs came, at most.
use Rattle.std.proofs.Common.{ℕ, ◌≤◌, Bool, List, [], ◌∷◌}
use Rattle.std.proofs.Common.{length, filter, arith}
use Rattle.asp_job.specs.History.{entries_in, with_lane}
use Rattle.asp_job.specs.Runs.{drawn, is_waiting, numbers, waiting}
use Rattle.asp_job.specs.Turns.{is_waiting_page, waiting_pages}
use Rattle.asp_job.specs.declared.entry.Entry.{Entry}
use Rattle.asp_job.specs.declared.entry.What.{What}
use Rattle.asp_job.specs.declared.entry.What.TheVariants.{Admit, App, Begin, End, Halt, Queue, Refuse, Stop, Take, Tick}
use Rattle.asp_journal.specs.Telling.{admitted}
use Rattle.asp_journal.proofs.Bounds.{drawn_small}
use Rattle.asp_journal.proofs.Open.{length_numbers, passed_few}

runs_few : (p : ℕ → Bool) (past : List Entry) → length (filter p (numbers (drawn past))) ≤ entries_in past
runs_few p past =
    let few = passed_few p (numbers (drawn past)) in
    let all = length_numbers (drawn past) in
    let small = drawn_small past in
    omega arith

pub waiting_small : (past : List Entry) → length (waiting past) ≤ entries_in past
waiting_small past = runs_few (is_waiting past) past

pub pages_small : (past : List Entry) → length (waiting_pages past) ≤ entries_in past
pages_small past = runs_few (is_waiting_page past) past

admitted_more : (past : List Entry) (lane : ℕ) (what : What) → admitted past ≤ entries_in past
    → admitted (with_lane lane what ∷ past) ≤ entries_in (with_lane lane what ∷ past)
admitted_more past lane (Queue run work key) h = omega arith
admitted_more past lane (Admit run key fresh job) h = omega arith
admitted_more past lane (Refuse run job) h = omega arith
admitted_more past lane (Tick moment) h = omega arith
admitted_more past lane (Begin run serial) h = omega arith
admitted_more past lane (App run call reply) h = omega arith
admitted_more past lane (End run kind status size n1 n2) h = omega arith
admitted_more past lane (Take run) h = h
admitted_more past lane Stop h = omega arith
admitted_more past lane Halt h = h

pub admitted_small : (past : List Entry) → admitted past ≤ entries_in past
admitted_small [] = omega arith
admitted_small (entry ∷ past) = admitted_more past entry.lane entry.what (admitted_small past)
