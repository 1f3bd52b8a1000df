-- How many entries a Tick adds, with the runs that are then owed.
use Rattle.std.proofs.Common.{◌≡◌, ℕ, suc, ◌+◌, ◌-◌, ◌≤◌, Bool, true, false, if◌then◌else◌, List, [], ◌∷◌, ◌++◌}
use Rattle.std.proofs.Common.{length, reverse, filter, Option, append_assoc, ap, ◌∙◌, refl, sym}
use Rattle.std.proofs.Common.{arith, nat_lt, subst}
use Rattle.asp_core.specs.Drawing.{drawn_by, drawn_then, entries_by, tick_before}
use Rattle.asp_core.specs.Kernel.{expired_by, ticked}
use Rattle.asp_job.specs.History.{counts, entries_in, with_lane}
use Rattle.asp_job.specs.Journal.{past_after, queue_entries}
use Rattle.asp_job.specs.Keys.{due_at, is_due_key, made}
use Rattle.asp_job.specs.Rules.{Rules}
use Rattle.asp_job.specs.Runs.{drawn, is_stopping, moment_of, numbers}
use Rattle.asp_job.specs.Turns.{closing_runs}
use Rattle.asp_job.specs.declared.entry.Entry.{Entry}
use Rattle.asp_job.specs.declared.entry.TheConstants.{MOST_ENTRIES}
use Rattle.asp_job.specs.declared.entry.What.TheVariants.{Tick}
use Rattle.asp_job.specs.declared.job.Job.{Job}
use Rattle.asp_job.specs.declared.session.SessionState.{SessionState}
use Rattle.asp_journal.proofs.Bounds.{made_small}
use Rattle.asp_journal.proofs.Open.{length_numbers, passed_few}
use Rattle.asp_core.proofs.Kept.{past_of_more}

one_or_none : (b : Bool) (n k : ℕ) → n ≤ k → (if b then n + 1 else n) ≤ k + 1
one_or_none true n k h = omega arith
one_or_none false n k h = omega arith

entries_after : (past entries : List Entry) → entries_in (past_after past entries) ≤ entries_in past + length entries
entries_after past [] = omega arith
entries_after past (entry ∷ entries) =
    let rest = entries_after (entry ∷ past) entries in
    let one = one_or_none (counts entry.what) (entries_in past) (entries_in past) (omega arith) in
    omega arith

queue_length : (lane run : ℕ) (keys : List ℕ) → length (queue_entries lane run (closing_runs keys)) ≡ length keys
queue_length lane run [] = refl
queue_length lane run (k ∷ keys) = ap suc (queue_length lane (run + 1) keys)

due_if : (b : Bool) (keys : List ℕ) (n : ℕ) → length keys ≤ n → length (if b then [] else keys) ≤ n
due_if true keys n h = omega arith
due_if false keys n h = h

pub due_length : (sessions : ℕ → Option SessionState) (past : List Entry) (moment : ℕ)
    → length (due_at sessions past moment) ≤ made past
due_length sessions past moment =
    let all = passed_few (is_due_key sessions past moment) (numbers (made past)) in
    let size = length_numbers (made past) in
    due_if (is_stopping past) (filter (is_due_key sessions past moment) (numbers (made past))) (made past) (omega arith)

ticked_if : (b : Bool) (entries : List Entry) (n : ℕ) → length entries ≤ n → length (if b then entries else []) ≤ n
ticked_if true entries n h = h
ticked_if false entries n h = omega arith

pub tick_length : (sessions : ℕ → Option SessionState) (past : List Entry) (lane moment : ℕ)
    → length (ticked sessions past lane moment) ≤ entries_in past + 1
tick_length sessions past lane moment =
    let queued = queue_entries lane (drawn past + 1) (closing_runs (due_at sessions past moment)) in
    let size : length queued ≡ length (due_at sessions past moment) = queue_length lane (drawn past + 1)
    (due_at sessions past moment) in
    let due = due_length sessions past moment in
    let few = made_small past in
    ticked_if (nat_lt (moment_of past) moment) (with_lane lane (Tick moment) ∷ queued) (entries_in past + 1)
    (omega arith)

counted_if : (b : Bool) (first : Entry) (queued : List Entry) (keys : List ℕ) → length queued ≡ length keys
    → length (if b then first ∷ queued else []) - 1 ≡ (if b then length keys else 0)
counted_if true first queued keys e = omega arith
counted_if false first queued keys e = refl

-- the entries of a Tick but one are as many as the keys whose sessions are over
pub expired_is : (sessions : ℕ → Option SessionState) (past : List Entry) (lane moment : ℕ)
    → length (ticked sessions past lane moment) - 1 ≡ expired_by sessions past moment
expired_is sessions past lane moment =
    let keys = due_at sessions past moment in
    counted_if (nat_lt (moment_of past) moment) (with_lane lane (Tick moment))
    (queue_entries lane (drawn past + 1) (closing_runs keys)) keys (queue_length lane (drawn past + 1) keys)

-- after the Tick of a job
pub few_after_tick : (sessions : ℕ → Option SessionState) (journal next : List Entry) (lane moment : ℕ)
    → next ≡ journal ++ ticked sessions (reverse journal) lane moment → entries_in (reverse journal) ≤ MOST_ENTRIES
    → entries_in (reverse next) ≤ MOST_ENTRIES + MOST_ENTRIES + 1
few_after_tick sessions journal next lane moment e few =
    let past = reverse journal in
    let entries = ticked sessions past lane moment in
    let whole : reverse next ≡ past_after past entries = ap reverse e ∙ past_of_more journal entries in
    let more = entries_after past entries in
    let size = tick_length sessions past lane moment in
    let all : entries_in (past_after past entries) ≤ MOST_ENTRIES + MOST_ENTRIES + 1 = omega arith in
    subst (λ p. entries_in p ≤ MOST_ENTRIES + MOST_ENTRIES + 1) (sym whole) all

-- the entry after the Tick is that of the job
pub then_drawn : (rules : Rules) (sessions : ℕ → Option SessionState) (journal next : List Entry) (lane : ℕ) (job : Job)
    → next ≡ journal ++ tick_before sessions (reverse journal) lane job → drawn_by rules sessions (reverse next) lane
    job ≡ drawn_then rules sessions (reverse journal) lane job
then_drawn rules sessions journal next lane job e =
    ap (λ p. drawn_by rules sessions p lane job)
    (ap reverse e ∙ past_of_more journal (tick_before sessions (reverse journal) lane job))

-- both are added
pub job_added : (rules : Rules) (sessions : ℕ → Option SessionState) (journal mid new : List Entry) (lane : ℕ)
    (job : Job) → mid ≡ journal ++ tick_before sessions (reverse journal) lane job
    → new ≡ mid ++ drawn_by rules sessions (reverse mid) lane job ∷ []
    → new ≡ journal ++ entries_by rules sessions (reverse journal) lane job
job_added rules sessions journal mid new lane job more is =
    let entry = drawn_then rules sessions (reverse journal) lane job in
    is ∙ ap (λ last. mid ++ last ∷ []) (then_drawn rules sessions journal mid lane job more)
    ∙ ap (λ xs. xs ++ entry ∷ []) more
    ∙ append_assoc journal (tick_before sessions (reverse journal) lane job) (entry ∷ [])
