-- An entry says nothing of other runs than its own.
use Rattle.std.proofs.Common.{◌≡◌, ℕ, ◌+◌, ◌≤◌, ◌==◌, true, false, List, ◌∷◌, refl, arith}
use Rattle.asp_job.specs.History.{run_in, with_lane}
use Rattle.asp_job.specs.Runs.{key_of, stage_of}
use Rattle.asp_job.specs.declared.entry.Entry.{Entry}
use Rattle.asp_job.specs.declared.entry.What.{What}
use Rattle.asp_job.specs.declared.entry.What.TheVariants.{Admit, App, Begin, End, Halt, Queue, Refuse, Stop, Take, Tick}

-- no number is the next one
pub other_number : (r n : ℕ) → r ≤ n → ((n + 1) == r) ≡ false
other_number r n l = grind arith

pub own_number : (n : ℕ) → (n == n) ≡ true
own_number n = grind arith

pub stage_other : (past : List Entry) (lane r : ℕ) (what : What) → (run_in what == r) ≡ false
    → stage_of (with_lane lane what ∷ past) r ≡ stage_of past r
stage_other past lane r (Queue run work key) e = rw e refl
stage_other past lane r (Admit run key fresh job) e = rw e refl
stage_other past lane r (Tick moment) e = refl
stage_other past lane r (Begin run serial) e = rw e refl
stage_other past lane r (App run call reply) e = refl
stage_other past lane r (End run kind status size n1 n2) e = rw e refl
stage_other past lane r Stop e = refl
stage_other past lane r (Refuse run job) e = rw e refl
stage_other past lane r (Take run) e = refl
stage_other past lane r Halt e = refl

pub key_other : (past : List Entry) (lane r : ℕ) (what : What) → (run_in what == r) ≡ false
    → key_of (with_lane lane what ∷ past) r ≡ key_of past r
key_other past lane r (Queue run work key) e = rw e refl
key_other past lane r (Admit run key fresh job) e = rw e refl
key_other past lane r (Tick moment) e = refl
key_other past lane r (Begin run serial) e = refl
key_other past lane r (App run call reply) e = refl
key_other past lane r (End run kind status size n1 n2) e = refl
key_other past lane r Stop e = refl
key_other past lane r (Refuse run job) e = rw e refl
key_other past lane r (Take run) e = refl
key_other past lane r Halt e = refl
