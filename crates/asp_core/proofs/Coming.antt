-- Room for the entries of a job's Tick and for the job's own.
use Rattle.std.proofs.Common.{◌≡◌, ℕ, ◌+◌, ◌-◌, ◌^◌, ◌<◌, ◌++◌, List, Option, length, min, reverse, subst, sum_by}
use Rattle.std.proofs.Common.{ap, sym, ◌∙◌}
use Rattle.asp_job.specs.declared.entry.Entry.{Entry}
use Rattle.asp_job.specs.declared.entry.What.{What}
use Rattle.asp_job.specs.declared.job.Job.{Job}
use Rattle.asp_job.specs.declared.session.SessionState.{SessionState}
use Rattle.asp_job.specs.History.{with_lane, work_weight}
use Rattle.asp_job.specs.Journal.{past_after}
use Rattle.asp_job.specs.Rules.{Rules}
use Rattle.asp_journal.specs.declared.full.Full.{Full}
use Rattle.asp_core.specs.Book.{BookView, HasRoomFor, LeavesRoom, past_in}
use Rattle.asp_core.specs.Calm.{HasLoad, IsCalm, IsOver, entry_weight}
use Rattle.asp_core.specs.Drawing.{drawn_by, entries_by, tick_before}
use Rattle.asp_core.specs.Kernel.{IsTooMuch, IsWithin}
use Rattle.asp_core.proofs.Calm.{calm_much, calm_within}
use Rattle.asp_core.proofs.Booking.{calm_leaves, calm_roomy}
use Rattle.asp_core.proofs.Fits.{drawn_calm, drawn_fit, job_calm, job_fit, job_length, job_weight}
use Rattle.asp_journal.specs.Tables.{IsFit}

count_is : (rules : Rules) (sessions : ℕ → Option SessionState) (past more : List Entry) (lane : ℕ) (job : Job)
    (count : ℕ) → more ≡ tick_before sessions past lane job → count ≡ length more
    → count + 1 ≡ length (entries_by rules sessions past lane job)
count_is rules sessions past more lane job count tick c =
    ap (λ n. n + 1) (c ∙ ap length tick) ∙ sym (job_length rules sessions past lane job)

weight_is : (rules : Rules) (sessions : ℕ → Option SessionState) (past more : List Entry) (lane : ℕ) (job : Job)
    (weight : ℕ) → more ≡ tick_before sessions past lane job
    → weight ≡ min (sum_by entry_weight more + (64 + work_weight job.work)) (2 ^ 64 - 1)
    → weight ≡ min (sum_by entry_weight (entries_by rules sessions past lane job)) (2 ^ 64 - 1)
weight_is rules sessions past more lane job weight tick w =
    w ∙ ap (λ (entries : List Entry). min (sum_by entry_weight entries + (64 + work_weight job.work)) (2 ^ 64 - 1)) tick
    ∙ ap (λ x. min x (2 ^ 64 - 1)) (sym (job_weight rules sessions past lane job))

pub job_within : (rules : Rules) (sessions : ℕ → Option SessionState) (journal next more : List Entry) (lane : ℕ)
    (job : Job) (count weight : ℕ) → more ≡ tick_before sessions (reverse journal) lane job
    → next ≡ journal ++ entries_by rules sessions (reverse journal) lane job → count ≡ length more
    → weight ≡ min (sum_by entry_weight more + (64 + work_weight job.work)) (2 ^ 64 - 1)
    → HasLoad (reverse journal) (count + 1) weight → IsWithin (reverse next)
job_within rules sessions journal next more lane job count weight tick e c w has =
    let past = reverse journal in
    calm_within journal next (entries_by rules sessions past lane job) (count + 1) weight e
    (job_fit rules sessions past lane job) (job_calm rules sessions past lane job)
    (count_is rules sessions past more lane job count tick c)
    (weight_is rules sessions past more lane job weight tick w) has

pub job_much : (rules : Rules) (sessions : ℕ → Option SessionState) (past more : List Entry) (lane : ℕ) (job : Job)
    (count weight : ℕ) (full : Full) → more ≡ tick_before sessions past lane job → count ≡ length more
    → weight ≡ min (sum_by entry_weight more + (64 + work_weight job.work)) (2 ^ 64 - 1)
    → IsOver past (count + 1) weight full
    → IsTooMuch (past_after past (entries_by rules sessions past lane job)) full
job_much rules sessions past more lane job count weight full tick c w over =
    calm_much past (entries_by rules sessions past lane job) (count + 1) weight full
    (job_fit rules sessions past lane job) (job_calm rules sessions past lane job)
    (count_is rules sessions past more lane job count tick c)
    (weight_is rules sessions past more lane job weight tick w) over

-- the entry of a job takes one place of the room
pub job_roomy : (rules : Rules) (sessions : ℕ → Option SessionState) (book : BookView) (lane : ℕ) (job : Job)
    (what : What) → what ≡ (drawn_by rules sessions (past_in book) 0 job).what → 0 < book.room
    → HasRoomFor book (with_lane lane what)
job_roomy rules sessions book lane job what is room =
    let past = past_in book in
    calm_roomy book (with_lane lane what) (subst (IsFit past) (sym is) (drawn_fit rules sessions past 0 job))
    (subst IsCalm (sym is) (drawn_calm rules sessions past 0 job)) room

pub job_leaves : (rules : Rules) (sessions : ℕ → Option SessionState) (old new : BookView) (lane : ℕ) (job : Job)
    (what : What) → what ≡ (drawn_by rules sessions (past_in old) 0 job).what
    → LeavesRoom old (with_lane lane what) new → (new.room + 1 ≡ old.room) × (new.places ≡ old.places)
job_leaves rules sessions old new lane job what is leaves =
    let past = past_in old in
    calm_leaves old new (with_lane lane what) (subst (IsFit past) (sym is) (drawn_fit rules sessions past 0 job))
    (subst IsCalm (sym is) (drawn_calm rules sessions past 0 job)) leaves

pub tick_added : (journal mid more tick : List Entry) → mid ≡ journal ++ more → more ≡ tick → mid ≡ journal ++ tick
tick_added journal mid more tick added is = added ∙ ap (λ entries. journal ++ entries) is
