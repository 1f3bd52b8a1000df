-- An entry says nothing of other runs than its own.
use Rattle.std.proofs.Common.{◌≡◌, ℕ, ◌==◌, false, List, ◌∷◌, refl, ap, append-nil}
use Rattle.asp_job.specs.History.{run_in, with_lane}
use Rattle.asp_job.specs.Keys.{began_with, letters_of, told}
use Rattle.asp_job.specs.Rules.{Rules}
use Rattle.asp_job.specs.Runs.{draw_of, is_fresh, job_of, key_of, lane_of, replies_of}
use Rattle.asp_job.specs.declared.entry.Entry.{Entry}
use Rattle.asp_job.specs.declared.entry.What.{What}
use Rattle.asp_job.specs.declared.entry.What.TheVariants.{Admit, App, Begin, End, Halt, Queue, Refuse, Stop, Take, Tick}
use Rattle.asp_journal.proofs.Others.{key_other}

pub job_other : (past : List Entry) (lane r : ℕ) (what : What) → (run_in what == r) ≡ false
    → job_of (with_lane lane what ∷ past) r ≡ job_of past r
job_other past lane r (Queue run work key) e = rw e refl
job_other past lane r (Admit run key fresh job) e = rw e refl
job_other past lane r (Tick moment) e = refl
job_other past lane r (Begin run serial) e = refl
job_other past lane r (App run call reply) e = refl
job_other past lane r (End run kind status size n1 n2) e = refl
job_other past lane r Stop e = refl
job_other past lane r (Refuse run job) e = rw e refl
job_other past lane r (Take run) e = refl
job_other past lane r Halt e = refl

pub fresh_other : (past : List Entry) (lane r : ℕ) (what : What) → (run_in what == r) ≡ false
    → is_fresh (with_lane lane what ∷ past) r ≡ is_fresh past r
fresh_other past lane r (Queue run work key) e = rw e refl
fresh_other past lane r (Admit run key fresh job) e = rw e refl
fresh_other past lane r (Tick moment) e = refl
fresh_other past lane r (Begin run serial) e = refl
fresh_other past lane r (App run call reply) e = refl
fresh_other past lane r (End run kind status size n1 n2) e = refl
fresh_other past lane r Stop e = refl
fresh_other past lane r (Refuse run job) e = rw e refl
fresh_other past lane r (Take run) e = refl
fresh_other past lane r Halt e = refl

pub draw_other : (past : List Entry) (lane r : ℕ) (what : What) → (run_in what == r) ≡ false
    → draw_of (with_lane lane what ∷ past) r ≡ draw_of past r
draw_other past lane r what e =
    let job : job_of (with_lane lane what ∷ past) r ≡ job_of past r = job_other past lane r what e in
    let key : key_of (with_lane lane what ∷ past) r ≡ key_of past r = key_other past lane r what e in
    let fresh : is_fresh (with_lane lane what ∷ past) r ≡ is_fresh past r = fresh_other past lane r what e in
    cc (job, key, fresh)

pub lane_other : (past : List Entry) (lane r : ℕ) (what : What) → (run_in what == r) ≡ false
    → lane_of (with_lane lane what ∷ past) r ≡ lane_of past r
lane_other past lane r (Queue run work key) e = refl
lane_other past lane r (Admit run key fresh job) e = refl
lane_other past lane r (Tick moment) e = refl
lane_other past lane r (Begin run serial) e = rw e refl
lane_other past lane r (App run call reply) e = refl
lane_other past lane r (End run kind status size n1 n2) e = refl
lane_other past lane r Stop e = refl
lane_other past lane r (Refuse run job) e = refl
lane_other past lane r (Take run) e = refl
lane_other past lane r Halt e = refl

pub replies_other : (past : List Entry) (lane r : ℕ) (what : What) → (run_in what == r) ≡ false
    → replies_of (with_lane lane what ∷ past) r ≡ replies_of past r
replies_other past lane r (Queue run work key) e = append-nil (replies_of past r)
replies_other past lane r (Admit run key fresh job) e = append-nil (replies_of past r)
replies_other past lane r (Tick moment) e = append-nil (replies_of past r)
replies_other past lane r (Begin run serial) e = append-nil (replies_of past r)
replies_other past lane r (App run call reply) e = rw e (append-nil (replies_of past r))
replies_other past lane r (End run kind status size n1 n2) e = append-nil (replies_of past r)
replies_other past lane r Stop e = append-nil (replies_of past r)
replies_other past lane r (Refuse run job) e = append-nil (replies_of past r)
replies_other past lane r (Take run) e = append-nil (replies_of past r)
replies_other past lane r Halt e = append-nil (replies_of past r)

pub began_other : (m : Rules) (past : List Entry) (lane r : ℕ) (what : What) → (run_in what == r) ≡ false
    → began_with m (with_lane lane what ∷ past) r ≡ began_with m past r
began_other m past lane r (Queue run work key) e = refl
began_other m past lane r (Admit run key fresh job) e = refl
began_other m past lane r (Tick moment) e = refl
began_other m past lane r (Begin run serial) e = rw e refl
began_other m past lane r (App run call reply) e = refl
began_other m past lane r (End run kind status size n1 n2) e = refl
began_other m past lane r Stop e = refl
began_other m past lane r (Refuse run job) e = refl
began_other m past lane r (Take run) e = refl
began_other m past lane r Halt e = refl

pub told_other : (m : Rules) (past : List Entry) (lane r : ℕ) (what : What) → (run_in what == r) ≡ false
    → told m (with_lane lane what ∷ past) r ≡ told m past r
told_other m past lane r what e =
    let new = with_lane lane what ∷ past in
    let draw : draw_of new r ≡ draw_of past r = draw_other past lane r what e in
    let began : began_with m new r ≡ began_with m past r = began_other m past lane r what e in
    let replies : replies_of new r ≡ replies_of past r = replies_other past lane r what e in
    cc (
      ap (λ d. d.job) draw,
      ap (λ d. letters_of m d) draw,
      ap (λ b. b.session) began,
      ap (λ b. b.is_new) began,
      replies,
    )
