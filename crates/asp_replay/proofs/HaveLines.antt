-- The lines of a valid journal may stand in one.
use Rattle.std.proofs.Common.{◌≡◌, ℕ, zero, suc, ◌^◌, ◌<◌, Bool, true, false, if◌then◌else◌, List, [], ◌∷◌, ◌++◌, drop}
use Rattle.std.proofs.Common.{filter, refl, subst, arith}
use Rattle.std.specs.List.{All}
use Rattle.std.proofs.lemmas.List.Elements.{All-filter, All-head, All-nil, All-push, All-tail}
use Rattle.asp_job.specs.declared.entry.Entry.{Entry}
use Rattle.asp_job.specs.declared.entry.What.{What}
use Rattle.asp_job.specs.declared.entry.What.TheVariants as entry
use Rattle.asp_job.specs.declared.job.Work.{Work}
use Rattle.asp_job.specs.declared.job.Work.TheVariants as work
use Rattle.asp_job.specs.History.{with_lane}
use Rattle.asp_job.specs.Journal.{AreRight, IsRight}
use Rattle.asp_job.specs.Keys.{is_due_key, is_live, live, made, session_of}
use Rattle.asp_job.specs.Rules.{Rules}
use Rattle.asp_job.specs.Runs.{is_stopping, numbers}
use Rattle.asp_job.specs.Turns.{MayFollow, closing_runs, owed}
use Rattle.asp_record.specs.EntryLines.{lines_in}
use Rattle.asp_record.specs.Journal.{AreLines, IsOwnWork}
use Rattle.asp_record.specs.Ranged.{AreRanged, IsRanged}
use Rattle.asp_core.specs.Kernel.{AreWellFormed, IsWellFormed}

-- ---- what is owed

-- work of the host's own, which has a key for the end of a session alone
abbrev IsOwed : Work → ℕ → Type 0
IsOwed work.Start key = key ≡ 0
IsOwed work.SessionEnd key = 0 < key
IsOwed work.Stop key = key ≡ 0
IsOwed (work.Page request) key = ⊥

abbrev AreOwed : List (Work × ℕ) → Type 0
AreOwed [] = Unit {0}
AreOwed (first ∷ rest) = IsOwed first.0 first.1 × AreOwed rest

numbers_from_one : (n : ℕ) → All (λ k. 0 < k) (numbers n)
numbers_from_one zero = All-nil (λ k. 0 < k)
numbers_from_one (suc n) = All-push (λ k. 0 < k) (numbers n) (suc n) (numbers_from_one n) (omega arith)

owed_closing : (keys : List ℕ) → All (λ k. 0 < k) keys → AreOwed (closing_runs keys)
owed_closing [] some = tt
owed_closing (k ∷ keys) some =
    (All-head (λ k. 0 < k) k keys some, owed_closing keys (All-tail (λ k. 0 < k) k keys some))

owed_picked : (picks : ℕ → Bool) (n : ℕ) → AreOwed (closing_runs (filter picks (numbers n)))
owed_picked picks n =
    owed_closing (filter picks (numbers n)) (All-filter picks (λ k. 0 < k) (numbers n) (numbers_from_one n))

owed_unless : (stopping : Bool) (picks : ℕ → Bool) (n : ℕ)
    → AreOwed (closing_runs (if stopping then [] else filter picks (numbers n)))
owed_unless true picks n = tt
owed_unless false picks n = owed_picked picks n

owed_last : (list : List (Work × ℕ)) → AreOwed list → AreOwed (list ++ (work.Stop, 0) ∷ [])
owed_last [] are = (refl, tt)
owed_last (first ∷ rest) are = (are.0, owed_last rest are.1)

owed_drop : (list : List (Work × ℕ)) → AreOwed list → AreOwed (drop 1 list)
owed_drop [] are = tt
owed_drop (first ∷ rest) are = are.1

owed_more : (rules : Rules) (past : List Entry) (lane : ℕ) (done : What) → AreOwed (owed rules past)
    → AreOwed (owed rules (with_lane lane done ∷ past))
owed_more rules past lane (entry.Queue run work key) are = owed_drop (owed rules past) are
owed_more rules past lane (entry.Admit run key fresh job) are = tt
owed_more rules past lane (entry.Refuse run job) are = tt
owed_more rules past lane (entry.Tick moment) are =
    owed_unless (is_stopping past) (is_due_key (session_of rules past) past moment) (made past)
owed_more rules past lane (entry.Begin run serial) are = tt
owed_more rules past lane (entry.App run call reply) are = tt
owed_more rules past lane (entry.End run kind status size made finished) are = tt
owed_more rules past lane (entry.Take run) are = tt
owed_more rules past lane entry.Stop are =
    owed_last (closing_runs (live (session_of rules past) past))
    (owed_picked (is_live (session_of rules past) past) (made past))
owed_more rules past lane entry.Halt are = tt

are_owed : (rules : Rules) (past : List Entry) → AreOwed (owed rules past)
are_owed rules [] = (refl, tt)
are_owed rules (one ∷ past) = owed_more rules past one.lane one.what (are_owed rules past)

-- ---- what was queued

first_owed : (rules : Rules) (past : List Entry) (lane run : ℕ) (work : Work) (key : ℕ) (list : List (Work × ℕ))
    → MayFollow rules past list (with_lane lane (entry.Queue run work key)) → AreOwed list → IsOwed work key
first_owed rules past lane run work key [] may are = absurd may
first_owed rules past lane run work key (first ∷ rest) may are =
    let is = may.0 in
    let same : first.0 ≡ work = cc in
    let with : first.1 ≡ key = cc in
    subst (λ w. IsOwed w key) same (subst (λ k. IsOwed first.0 k) with are.0)

own_work : (work : Work) (key : ℕ) → IsOwed work key → key < 2 ^ 32 → IsOwnWork work key
own_work work.Start key is small = is
own_work work.SessionEnd key is small = (is, small)
own_work work.Stop key is small = is
own_work (work.Page request) key is small = is

-- ---- its lines

more_lines : (rules : Rules) (past : List Entry) (lane : ℕ) (done : What) → IsRight rules past (with_lane lane done)
    → IsWellFormed done → IsRanged (with_lane lane done) → AreLines (lines_in past)
    → AreLines (lines_in (with_lane lane done ∷ past))
more_lines rules past lane (entry.Queue run work key) right formed ranged lines =
    let is = first_owed rules past lane run work key (owed rules past) right.turn (are_owed rules past) in
    (record { lane = ranged.lane; right = (ranged.what.0, own_work work key is ranged.what.1) }, lines)
more_lines rules past lane (entry.Admit run key fresh job) right formed ranged lines =
    (record { lane = ranged.lane; right = ranged.what }, lines)
more_lines rules past lane (entry.Refuse run job) right formed ranged lines =
    (record { lane = ranged.lane; right = ranged.what }, lines)
more_lines rules past lane (entry.Tick moment) right formed ranged lines =
    (record { lane = ranged.lane; right = ranged.what }, lines)
more_lines rules past lane (entry.Begin run serial) right formed ranged lines =
    (record { lane = ranged.lane; right = ranged.what }, lines)
more_lines rules past lane (entry.App run call reply) right formed ranged lines = (
  record {
    lane = ranged.lane;
    right = (ranged.what.0, formed.0, formed.1, ranged.what.1, ranged.what.2);
  },
  lines,
)
more_lines rules past lane (entry.End run kind status size made finished) right formed ranged lines =
    (record { lane = ranged.lane; right = ranged.what }, lines)
more_lines rules past lane (entry.Take run) right formed ranged lines = lines
more_lines rules past lane entry.Stop right formed ranged lines = (record { lane = ranged.lane; right = tt }, lines)
more_lines rules past lane entry.Halt right formed ranged lines = lines

pub are_lines : (rules : Rules) (past : List Entry) → AreRight rules past → AreWellFormed past → AreRanged past
    → AreLines (lines_in past)
are_lines rules [] right formed ranged = tt
are_lines rules (one ∷ past) right formed ranged =
    more_lines rules past one.lane one.what right.0 formed.0 ranged.0
    (are_lines rules past right.1 formed.1 ranged.1)
