-- The jobs of the pages that wait or are unfinished, and what entries leave of them.
use Rattle.std.proofs.Common.{◌≡◌, ℕ, zero, suc, ◌<◌, ◌≤◌, ◌==◌, ◌&&◌, ◌||◌, Bool, true, false, if◌then◌else◌}
use Rattle.std.proofs.Common.{List, [], ◌∷◌, ◌++◌, filter, length, is_some, refl, ap, sym, ◌∙◌, subst, arith}
use Rattle.std.proofs.Common.{inl, inr}
use Rattle.std.proofs.lemmas.Bool.{cases_Bool, eqb-true}
use Rattle.std.proofs.lemmas.List.Elements.{filter-append}
use Rattle.asp_core.proofs.Counts.{smaller}
use Rattle.asp_core.proofs.Jobs.{admit_right, page_asked}
use Rattle.asp_core.proofs.Others.{job_other}
use Rattle.asp_journal.proofs.Others.{stage_other}
use Rattle.asp_core.proofs.Right.{begin_right, drawn_next, is_drawn, may_begin_waits, next_undrawn, numbered}
use Rattle.asp_core.proofs.Right.{unfinished_is, waiting_is}
use Rattle.asp_job.specs.declared.entry.Entry.{Entry}
use Rattle.asp_job.specs.declared.entry.Stage.{Stage}
use Rattle.asp_job.specs.declared.entry.Stage.TheVariants.{Undrawn, Waiting}
use Rattle.asp_job.specs.declared.entry.What.{What}
use Rattle.asp_job.specs.declared.entry.What.TheVariants.{Admit, App, Begin, End, Halt, Queue, Refuse, Stop, Take, Tick}
use Rattle.asp_job.specs.declared.job.Work.{Work}
use Rattle.asp_job.specs.History.{run_in, with_lane}
use Rattle.asp_job.specs.Journal.{AreRight, IsRight}
use Rattle.asp_job.specs.Rules.{Rules}
use Rattle.asp_job.specs.Running.{is_page}
use Rattle.asp_job.specs.Runs.{asking_lane_of, drawn, is_open, is_stage_unfinished, is_stage_waiting, is_unfinished}
use Rattle.asp_job.specs.Runs.{is_waiting, job_of, moment_of, numbers, stage_of, unfinished, waiting}
use Rattle.asp_job.specs.Turns.{owed}
use Rattle.asp_feed.specs.Feeding.{is_calm}
use Rattle.asp_replay.specs.Underway.{AreCurrent}

-- ---- where nothing is under way

nothing_both : (xs ys : List ℕ) → xs ++ ys ≡ [] → (xs ≡ []) × (ys ≡ [])
nothing_both [] ys e = (refl, e)
nothing_both (x ∷ xs) ys e = absurd cc

nothing_one : (b : Bool) (n : ℕ) → (if b then n ∷ [] else []) ≡ [] → b ≡ false
nothing_one true n e = absurd cc
nothing_one false n e = refl

none_passes : (p : ℕ → Bool) (n k : ℕ) → filter p (numbers n) ≡ [] → 0 < k → k ≤ n → p k ≡ false
none_passes p zero k e low high = absurd (omega arith)
none_passes p (suc n) k e low high =
    let parts = nothing_both (filter p (numbers n)) (filter p (suc n ∷ []))
    (sym (filter-append p (numbers n) (suc n ∷ [])) ∙ e) in
    elim (cases_Bool (k == suc n)) [
      | inl own ↦ ap p (eqb-true k (suc n) own) ∙ nothing_one (p (suc n)) (suc n) parts.1
      | inr other ↦ none_passes p n k parts.0 low (smaller k n high other)
    ]

nothing_in : (xs : List ℕ) → (length xs == 0) ≡ true → xs ≡ []
nothing_in [] e = refl
nothing_in (x ∷ xs) e = absurd (let none = eqb-true (length (x ∷ xs)) 0 e in omega arith)

both_true : (a b : Bool) → (a && b) ≡ true → (a ≡ true) × (b ≡ true)
both_true true b e = (refl, e)
both_true false b e = absurd cc

pub calm_waiting : (past : List Entry) → is_calm past ≡ true → waiting past ≡ []
calm_waiting past calm = nothing_in (waiting past)
    (both_true (length (waiting past) == 0) (length (unfinished past) == 0) calm).0

pub calm_unfinished : (past : List Entry) → is_calm past ≡ true → unfinished past ≡ []
calm_unfinished past calm = nothing_in (unfinished past)
    (both_true (length (waiting past) == 0) (length (unfinished past) == 0) calm).1

pub none_waiting : (m : Rules) (past : List Entry) → AreRight m past → is_calm past ≡ true → (r : ℕ)
    → is_waiting past r ≡ false
none_waiting m past right calm r = elim (cases_Bool (is_waiting past r)) [
  | inl busy ↦ (let known = numbered m past right r (ap is_drawn (waiting_is (stage_of past r) busy)) in
      none_passes (is_waiting past) (drawn past) r (calm_waiting past calm) known.0 known.1)
  | inr idle ↦ idle
]

pub none_unfinished : (m : Rules) (past : List Entry) → AreRight m past → is_calm past ≡ true → (r : ℕ)
    → is_unfinished past r ≡ false
none_unfinished m past right calm r = elim (cases_Bool (is_unfinished past r)) [
  | inl busy ↦ (let known = numbered m past right r (ap is_drawn (unfinished_is (stage_of past r) busy)) in
      none_passes (is_unfinished past) (drawn past) r (calm_unfinished past calm) known.0 known.1)
  | inr idle ↦ idle
]

pub calm_open : (m : Rules) (past : List Entry) → AreRight m past → is_calm past ≡ true → (r : ℕ)
    → is_open past r ≡ false
calm_open m past right calm r =
    ap (λ b. b || is_unfinished past r) (none_waiting m past right calm r) ∙ none_unfinished m past right calm r

-- so time may go on
pub current_ticked : (m : Rules) (past : List Entry) (lane moment : ℕ) → AreRight m past → is_calm past ≡ true
    → AreCurrent (with_lane lane (Tick moment) ∷ past)
current_ticked m past lane moment right calm = λ r under page.
    absurd (let none = calm_open m past right calm r in let both : true ≡ false = sym under ∙ none in cc)

-- ---- a run for which a lane asked was drawn

abbrev IsDrawnAsked : List Entry → ℕ → Type 0
IsDrawnAsked past r = is_some (asking_lane_of past r) ≡ true → is_drawn (stage_of past r) ≡ true

asked_more : (past : List Entry) (lane : ℕ) (what : What) (r : ℕ) → IsDrawnAsked past r
    → IsDrawnAsked (with_lane lane what ∷ past) r
asked_more past lane (Queue run work key) r ih some = elim (cases_Bool (run == r)) [
  | inl own ↦ rw own refl
  | inr other ↦ rw other (ih some)
]
asked_more past lane (Admit run key fresh job) r ih some = elim (cases_Bool (run == r)) [
  | inl own ↦ rw own refl
  | inr other ↦ rw other (ih (rw other at some))
]
asked_more past lane (Refuse run job) r ih some = elim (cases_Bool (run == r)) [
  | inl own ↦ rw own refl
  | inr other ↦ rw other (ih (rw other at some))
]
asked_more past lane (Begin run serial) r ih some = elim (cases_Bool (run == r)) [
  | inl own ↦ rw own refl
  | inr other ↦ rw other (ih some)
]
asked_more past lane (End run kind status size n1 n2) r ih some = elim (cases_Bool (run == r)) [
  | inl own ↦ rw own refl
  | inr other ↦ rw other (ih some)
]
asked_more past lane (App run call reply) r ih some = ih some
asked_more past lane (Tick moment) r ih some = ih some
asked_more past lane (Take run) r ih some = ih some
asked_more past lane Stop r ih some = ih some
asked_more past lane Halt r ih some = ih some

asked_drawn : (past : List Entry) (r : ℕ) → IsDrawnAsked past r
asked_drawn [] r some = absurd cc
asked_drawn (entry ∷ past) r some = asked_more past entry.lane entry.what r (asked_drawn past r) some

-- the host queues no page
queued_other : (m : Rules) (past : List Entry) (lane run : ℕ) (work : Work) (key : ℕ) → AreRight m past
    → IsRight m past (with_lane lane (Queue run work key))
    → is_page (job_of (with_lane lane (Queue run work key) ∷ past) run).work ≡ true → ⊥
queued_other m past lane run work key right one page =
    let some = page_asked m (with_lane lane (Queue run work key) ∷ past) (one, right) run page in
    let is = asked_drawn past run some in
    let next = drawn_next m past lane (Queue run work key) (owed m past) one.turn refl in
    let fresh : stage_of past run ≡ Undrawn = next_undrawn m past right run (omega arith) in
    let both : true ≡ false = sym is ∙ ap is_drawn fresh in
    cc

-- ---- an entry that is neither a Tick nor a hand-out

-- whether the entry is a Tick or a hand-out
abbrev pub is_tick_or_take : What → Bool
is_tick_or_take (Tick moment) = true
is_tick_or_take (Take run) = true
is_tick_or_take _ = false

-- the job of the run came at the journal's moment, where it is that of a page under way
abbrev IsCurrent : List Entry → ℕ → Type 0
IsCurrent past r = is_open past r ≡ true → is_page (job_of past r).work ≡ true
    → (job_of past r).moment ≡ moment_of past

abbrev is_under_way : Stage → Bool
is_under_way stage = is_stage_waiting stage || is_stage_unfinished stage

current_other : (past : List Entry) (lane : ℕ) (what : What) (r : ℕ)
    → moment_of (with_lane lane what ∷ past) ≡ moment_of past → (run_in what == r) ≡ false → IsCurrent past r
    → IsCurrent (with_lane lane what ∷ past) r
current_other past lane what r same other ih under page =
    let stage : stage_of (with_lane lane what ∷ past) r ≡ stage_of past r = stage_other past lane r what other in
    let job : job_of (with_lane lane what ∷ past) r ≡ job_of past r = job_other past lane r what other in
    ap (λ job. job.moment) job
    ∙ ih (sym (ap is_under_way stage) ∙ under) (sym (ap (λ job. is_page job.work) job) ∙ page) ∙ sym same

current_own : (m : Rules) (past : List Entry) (lane : ℕ) (what : What) (r : ℕ) → AreRight m past
    → IsRight m past (with_lane lane what) → is_tick_or_take what ≡ false → (run_in what == r) ≡ true
    → IsCurrent past r → IsCurrent (with_lane lane what ∷ past) r
current_own m past lane (Queue run work key) r right one plain own ih under page =
    let is : r ≡ run = sym (eqb-true run r own) in
    absurd (queued_other m past lane run work key right one (subst (λ k. is_page (job_of (with_lane lane
    (Queue run work key) ∷ past) k).work ≡ true) is page))
current_own m past lane (Admit run key fresh job) r right one plain own ih under page =
    let may = admit_right m past lane run key fresh job (owed m past) one.turn in
    let moment = may.asked.moment in
    rw own moment
current_own m past lane (Refuse run job) r right one plain own ih under page =
    absurd (let ended : is_open (with_lane lane (Refuse run job) ∷ past) r ≡ false = rw own refl in
    let both : true ≡ false = sym under ∙ ended in cc)
current_own m past lane (Begin run serial) r right one plain own ih under page =
    let begin = begin_right m past lane run serial (owed m past) one.turn in
    let stage : stage_of past r ≡ Waiting =
    ap (stage_of past) (sym (eqb-true run r own)) ∙ may_begin_waits past run begin.next.begins in
    ih (ap is_under_way stage) page
current_own m past lane (End run kind status size n1 n2) r right one plain own ih under page =
    absurd (let ended : is_open (with_lane lane (End run kind status size n1 n2) ∷ past) r ≡ false = rw own refl in
    let both : true ≡ false = sym under ∙ ended in cc)
current_own m past lane (App run call reply) r right one plain own ih under page = ih under page
current_own m past lane Stop r right one plain own ih under page = ih under page
current_own m past lane Halt r right one plain own ih under page = ih under page
current_own m past lane (Tick moment) r right one plain own ih under page = absurd cc
current_own m past lane (Take run) r right one plain own ih under page = absurd cc

-- time stands still
pub moment_stays : (past : List Entry) (lane : ℕ) (what : What) → is_tick_or_take what ≡ false
    → moment_of (with_lane lane what ∷ past) ≡ moment_of past
moment_stays past lane (Queue run work key) plain = refl
moment_stays past lane (Admit run key fresh job) plain = refl
moment_stays past lane (Refuse run job) plain = refl
moment_stays past lane (Begin run serial) plain = refl
moment_stays past lane (End run kind status size n1 n2) plain = refl
moment_stays past lane (App run call reply) plain = refl
moment_stays past lane Stop plain = refl
moment_stays past lane Halt plain = refl
moment_stays past lane (Tick moment) plain = absurd cc
moment_stays past lane (Take run) plain = absurd cc

pub current_grows : (m : Rules) (past : List Entry) (entry : Entry) → AreRight m past → IsRight m past entry
    → is_tick_or_take entry.what ≡ false → AreCurrent past → AreCurrent (entry ∷ past)
current_grows m past entry right one plain current = λ r. elim (cases_Bool (run_in entry.what == r)) [
  | inl own ↦ current_own m past entry.lane entry.what r right one plain own (current r)
  | inr other ↦ current_other past entry.lane entry.what r (moment_stays past entry.lane entry.what plain) other
      (current r)
]
