-- How many runs and keys a journal has at most.
use Rattle.std.proofs.Common.{ℕ, ◌+◌, ◌≤◌, Bool, true, false, if◌then◌else◌, List, [], ◌∷◌, arith}
use Rattle.asp_job.specs.History.{entries_in, with_lane}
use Rattle.asp_job.specs.Keys.{made}
use Rattle.asp_job.specs.Runs.{drawn}
use Rattle.asp_job.specs.declared.entry.Entry.{Entry}
use Rattle.asp_job.specs.declared.entry.What.{What}
use Rattle.asp_job.specs.declared.entry.What.TheVariants.{Admit, App, Begin, End, Halt, Queue, Refuse, Stop, Take, Tick}

drawn_more : (past : List Entry) (lane : ℕ) (what : What) → drawn past ≤ entries_in past
    → drawn (with_lane lane what ∷ past) ≤ entries_in (with_lane lane what ∷ past)
drawn_more past lane (Queue run work key) h = omega arith
drawn_more past lane (Admit run key fresh job) h = omega arith
drawn_more past lane (Refuse run job) h = omega arith
drawn_more past lane (Tick moment) h = omega arith
drawn_more past lane (Begin run serial) h = omega arith
drawn_more past lane (App run call reply) h = omega arith
drawn_more past lane (End run kind status size n1 n2) h = omega arith
drawn_more past lane (Take run) h = h
drawn_more past lane Stop h = omega arith
drawn_more past lane Halt h = h

pub drawn_small : (past : List Entry) → drawn past ≤ entries_in past
drawn_small [] = omega arith
drawn_small (entry ∷ past) = drawn_more past entry.lane entry.what (drawn_small past)

made_if : (fresh : Bool) (n k : ℕ) → n ≤ k → (if fresh then n + 1 else n) ≤ k + 1
made_if true n k h = omega arith
made_if false n k h = omega arith

made_more : (past : List Entry) (lane : ℕ) (what : What) → made past ≤ entries_in past
    → made (with_lane lane what ∷ past) ≤ entries_in (with_lane lane what ∷ past)
made_more past lane (Queue run work key) h = omega arith
made_more past lane (Admit run key fresh job) h = made_if fresh (made past) (entries_in past) h
made_more past lane (Refuse run job) h = omega arith
made_more past lane (Tick moment) h = omega arith
made_more past lane (Begin run serial) h = omega arith
made_more past lane (App run call reply) h = omega arith
made_more past lane (End run kind status size n1 n2) h = omega arith
made_more past lane (Take run) h = h
made_more past lane Stop h = omega arith
made_more past lane Halt h = h

pub made_small : (past : List Entry) → made past ≤ entries_in past
made_small [] = omega arith
made_small (entry ∷ past) = made_more past entry.lane entry.what (made_small past)
