-- Where nothing is under way and a run waits, one may begin.
use Rattle.std.proofs.Common.{◌≡◌, ℕ, zero, suc, ◌+◌, ◌<◌, ◌≤◌, ◌==◌, ◌&&◌, ◌||◌, Bool, true, false, not, nat_lt}
use Rattle.std.proofs.Common.{filter, drop, if◌then◌else◌, List, [], ◌∷◌, ◌++◌, Some, None, unwrap_or, refl, ap, sym}
use Rattle.std.proofs.Common.{◌∙◌, arith, inl, inr}
use Rattle.std.specs.List.{list_any}
use Rattle.std.proofs.lemmas.Bool.{cases_Bool, eqb-true, eq-eqb}
use Rattle.std.proofs.lemmas.List.Elements.{filter-append}
use Rattle.asp_job.specs.History.{run_in, with_lane}
use Rattle.asp_job.specs.Journal.{AreRight, IsRight}
use Rattle.asp_job.specs.Keys.{due_at, live, session_of}
use Rattle.asp_job.specs.Rules.{Rules}
use Rattle.asp_job.specs.Running.{is_page}
use Rattle.asp_job.specs.Runs.{drawn, has_ended, is_stage_ended, is_stage_unfinished, is_stage_waiting, is_stopping}
use Rattle.asp_job.specs.Runs.{is_unfinished, is_waiting, job_of, key_of, numbers, queued_job, stage_of, unfinished}
use Rattle.asp_job.specs.Runs.{waiting}
use Rattle.asp_job.specs.Turns.{IsAsked, MayFollow, closing_runs, goes_before, has_company, is_behind, is_last_work}
use Rattle.asp_job.specs.Turns.{is_other_open, may_begin, owed}
use Rattle.asp_job.specs.declared.entry.Entry.{Entry}
use Rattle.asp_job.specs.declared.entry.Stage.{Stage}
use Rattle.asp_job.specs.declared.entry.Stage.TheVariants.{Ended, Undrawn, Unfinished, Waiting}
use Rattle.asp_job.specs.declared.entry.What.{What}
use Rattle.asp_job.specs.declared.entry.What.TheVariants.{Admit, App, Begin, End, Halt, Queue, Refuse, Stop, Take}
use Rattle.asp_job.specs.declared.entry.What.TheVariants.{Tick}
use Rattle.asp_job.specs.declared.job.Job.{Job}
use Rattle.asp_job.specs.declared.job.Work.{Work}
use Rattle.asp_job.specs.declared.job.Work.TheVariants as work
use Rattle.asp_core.proofs.Others.{job_other}
use Rattle.asp_core.proofs.Right.{drawn_next, is_drawn, numbered, unfinished_is, waiting_is}
use Rattle.asp_core.proofs.Counts.{smaller}

-- ---- the last run is the last one that is drawn

-- the last work stands last in a list of runs that must be queued, and after a Stop
abbrev IsLastOnly : Bool → List (Work × ℕ) → Type 0
IsLastOnly stopping [] = Unit {0}
IsLastOnly stopping (first ∷ rest) =
    (is_last_work first.0 ≡ true → (rest ≡ []) × (stopping ≡ true)) × IsLastOnly stopping rest

last_closing : (stopping : Bool) (keys : List ℕ) → IsLastOnly stopping (closing_runs keys)
last_closing stopping [] = tt
last_closing stopping (k ∷ keys) = ((λ e. absurd cc), last_closing stopping keys)

last_after : (keys : List ℕ) → IsLastOnly true (closing_runs keys ++ (work.Stop, 0) ∷ [])
last_after [] = ((λ e. (refl, refl)), tt)
last_after (k ∷ keys) = ((λ e. absurd cc), last_after keys)

last_drop : (stopping : Bool) (list : List (Work × ℕ)) → IsLastOnly stopping list → IsLastOnly stopping (drop 1 list)
last_drop stopping [] a = tt
last_drop stopping (first ∷ rest) a = a.1

last_more : (m : Rules) (past : List Entry) (lane : ℕ) (what : What) → IsLastOnly (is_stopping past) (owed m past)
    → IsLastOnly (is_stopping (with_lane lane what ∷ past)) (owed m (with_lane lane what ∷ past))
last_more m past lane (Queue run work key) a = last_drop (is_stopping past) (owed m past) a
last_more m past lane (Admit run key fresh job) a = tt
last_more m past lane (Refuse run job) a = tt
last_more m past lane (Tick moment) a = last_closing (is_stopping past) (due_at (session_of m past) past moment)
last_more m past lane (Begin run serial) a = tt
last_more m past lane (App run call reply) a = tt
last_more m past lane (End run kind status size n1 n2) a = tt
last_more m past lane (Take run) a = tt
last_more m past lane Stop a = last_after (live (session_of m past) past)
last_more m past lane Halt a = tt

owed_last : (m : Rules) (past : List Entry) → IsLastOnly (is_stopping past) (owed m past)
owed_last m [] = ((λ e. absurd cc), tt)
owed_last m (entry ∷ past) = last_more m past entry.lane entry.what (owed_last m past)

-- the last run was drawn last of all, after a Stop, and nothing is owed
record IsLast (m : Rules) (past : List Entry) (r : ℕ) : Type 0 where
  newest : r ≡ drawn past
  settled : owed m past ≡ []
  stopping : is_stopping past ≡ true

abbrev HasLast : Rules → List Entry → ℕ → Type 0
HasLast m past r = is_last_work (job_of past r).work ≡ true → IsLast m past r

no_queue : (m : Rules) (past : List Entry) (lane run : ℕ) (work : Work) (key : ℕ) (list : List (Work × ℕ))
    → MayFollow m past list (with_lane lane (Queue run work key)) → list ≡ [] → ⊥
no_queue m past lane run work key [] may e = may
no_queue m past lane run work key (first ∷ rest) may e = absurd cc

-- a job comes where no Stop stands
asked_open : (m : Rules) (past : List Entry) (lane run key : ℕ) (fresh : Bool) (job : Job) (list : List (Work × ℕ))
    → MayFollow m past list (with_lane lane (Admit run key fresh job)) → IsAsked past job
asked_open m past lane run key fresh job [] may = may.asked
asked_open m past lane run key fresh job (first ∷ rest) may = absurd (let is = may.0 in cc)

refused_open : (m : Rules) (past : List Entry) (lane run : ℕ) (job : Job) (list : List (Work × ℕ))
    → MayFollow m past list (with_lane lane (Refuse run job)) → IsAsked past job
refused_open m past lane run job [] may = may.asked
refused_open m past lane run job (first ∷ rest) may = absurd (let is = may.0 in cc)

stop_open : (m : Rules) (past : List Entry) (lane : ℕ) (list : List (Work × ℕ))
    → MayFollow m past list (with_lane lane Stop) → is_stopping past ≡ false
stop_open m past lane [] may = may
stop_open m past lane (first ∷ rest) may = absurd (let is = may.0 in cc)

page_not_last : (work : Work) → is_page work ≡ true → is_last_work work ≡ false
page_not_last (work.Page request) e = refl
page_not_last work.Start e = absurd cc
page_not_last work.SessionEnd e = absurd cc
page_not_last work.Stop e = absurd cc

-- the last run was queued, by the last that was owed
queued_last : (m : Rules) (past : List Entry) (lane run : ℕ) (work : Work) (key : ℕ) (list : List (Work × ℕ))
    → MayFollow m past list (with_lane lane (Queue run work key)) → IsLastOnly (is_stopping past) list
    → is_last_work work ≡ true → (drop 1 list ≡ []) × (is_stopping past ≡ true)
queued_last m past lane run work key [] may only last = absurd may
queued_last m past lane run work key (first ∷ rest) may only last =
    let is = may.0 in let same : work ≡ first.0 = cc in
    only.0 (sym (ap is_last_work same) ∙ last)

-- after a Stop no session is over
none_due : (m : Rules) (past : List Entry) (moment : ℕ) → is_stopping past ≡ true
    → closing_runs (due_at (session_of m past) past moment) ≡ []
none_due m past moment e = rw e refl

-- the last run stays the one that was drawn last: none is drawn after it
last_stays : (m : Rules) (past : List Entry) (lane : ℕ) (what : What) (r : ℕ) → IsRight m past (with_lane lane what)
    → IsLast m past r → IsLast m (with_lane lane what ∷ past) r
last_stays m past lane (Queue run work key) r one last =
    absurd (no_queue m past lane run work key (owed m past) one.turn last.settled)
last_stays m past lane (Admit run key fresh job) r one last =
    absurd (let asked = asked_open m past lane run key fresh job (owed m past) one.turn in
    let both : true ≡ false = sym last.stopping ∙ asked.«open» in cc)
last_stays m past lane (Refuse run job) r one last =
    absurd (let asked = refused_open m past lane run job (owed m past) one.turn in
    let both : true ≡ false = sym last.stopping ∙ asked.«open» in cc)
last_stays m past lane (Tick moment) r one last =
    record { newest = last.newest; settled = none_due m past moment last.stopping; stopping = last.stopping }
last_stays m past lane (Begin run serial) r one last =
    record { newest = last.newest; settled = refl; stopping = last.stopping }
last_stays m past lane (App run call reply) r one last =
    record { newest = last.newest; settled = refl; stopping = last.stopping }
last_stays m past lane (End run kind status size n1 n2) r one last =
    record { newest = last.newest; settled = refl; stopping = last.stopping }
last_stays m past lane (Take run) r one last =
    record { newest = last.newest; settled = refl; stopping = last.stopping }
last_stays m past lane Stop r one last =
    absurd (let both : true ≡ false = sym last.stopping ∙ stop_open m past lane (owed m past) one.turn in cc)
last_stays m past lane Halt r one last =
    record { newest = last.newest; settled = refl; stopping = last.stopping }

-- a job of the entry's own run
own_last : (job : Job) (run r : ℕ) (before : Job) → run ≡ r
    → unwrap_or (if run == r then Some job else None) before ≡ job
own_last job run r before e = let own = eq-eqb run r e in rw own refl

last_own : (m : Rules) (past : List Entry) (lane : ℕ) (what : What) (r : ℕ) → IsRight m past (with_lane lane what)
    → HasLast m past r → run_in what ≡ r → HasLast m (with_lane lane what ∷ past) r
last_own m past lane (Queue run work key) r one ih e last =
    let is = own_last (queued_job work) run r (job_of past r) e in
    let owes = queued_last m past lane run work key (owed m past) one.turn (owed_last m past)
    (sym (ap (λ job. is_last_work job.work) is) ∙ last) in
    let next = drawn_next m past lane (Queue run work key) (owed m past) one.turn refl in
    record { newest = sym e ∙ next; settled = owes.0; stopping = owes.1 }
last_own m past lane (Admit run key fresh job) r one ih e last =
    let is = own_last job run r (job_of past r) e in
    let asked = asked_open m past lane run key fresh job (owed m past) one.turn in
    let no = page_not_last job.work asked.page in
    let yes : is_last_work job.work ≡ true = sym (ap (λ job. is_last_work job.work) is) ∙ last in
    absurd (let both : true ≡ false = sym yes ∙ no in cc)
last_own m past lane (Refuse run job) r one ih e last =
    let is = own_last job run r (job_of past r) e in
    let asked = refused_open m past lane run job (owed m past) one.turn in
    let no = page_not_last job.work asked.page in
    let yes : is_last_work job.work ≡ true = sym (ap (λ job. is_last_work job.work) is) ∙ last in
    absurd (let both : true ≡ false = sym yes ∙ no in cc)
last_own m past lane (Tick moment) r one ih e last = last_stays m past lane (Tick moment) r one (ih last)
last_own m past lane (Begin run serial) r one ih e last = last_stays m past lane (Begin run serial) r one (ih last)
last_own m past lane (App run call reply) r one ih e last = last_stays m past lane (App run call reply) r one (ih last)
last_own m past lane (End run kind status size n1 n2) r one ih e last =
    last_stays m past lane (End run kind status size n1 n2) r one (ih last)
last_own m past lane (Take run) r one ih e last = last_stays m past lane (Take run) r one (ih last)
last_own m past lane Stop r one ih e last = last_stays m past lane Stop r one (ih last)
last_own m past lane Halt r one ih e last = last_stays m past lane Halt r one (ih last)

has_last : (m : Rules) (past : List Entry) → AreRight m past → (r : ℕ) → HasLast m past r
has_last m [] right r = λ last. absurd cc
has_last m (entry ∷ past) right r = elim (cases_Bool (run_in entry.what == r)) [
  | inl own ↦ last_own m past entry.lane entry.what r right.0 (has_last m past right.1 r)
      (eqb-true (run_in entry.what) r own)
  | inr other ↦ (λ last. last_stays m past entry.lane entry.what r right.0 (has_last m past right.1 r
      (sym (ap (λ job. is_last_work job.work) (job_other past entry.lane r entry.what other)) ∙ last)))
]

-- ---- a number of a run is one that was drawn

abbrev WasDrawn : List Entry → ℕ → Type 0
WasDrawn past r = 0 < r → r ≤ drawn past → is_drawn (stage_of past r) ≡ true

stage_if : (own : Bool) (given before : Stage) → is_drawn given ≡ true → (own ≡ false → is_drawn before ≡ true)
    → is_drawn (unwrap_or (if own then Some given else None) before) ≡ true
stage_if true given before drawn_one other = drawn_one
stage_if false given before drawn_one other = other refl

below_next : (n run r : ℕ) → run ≡ n + 1 → r ≤ n + 1 → (run == r) ≡ false → r ≤ n
below_next n run r e l other = grind arith

drawn_more : (m : Rules) (past : List Entry) (lane : ℕ) (what : What) (r : ℕ) → IsRight m past (with_lane lane what)
    → WasDrawn past r → WasDrawn (with_lane lane what ∷ past) r
drawn_more m past lane (Queue run work key) r one ih low high =
    let next = drawn_next m past lane (Queue run work key) (owed m past) one.turn refl in
    stage_if (run == r) Waiting (stage_of past r) refl (λ other. ih low (below_next (drawn past) run r next high other))
drawn_more m past lane (Admit run key fresh job) r one ih low high =
    let next = drawn_next m past lane (Admit run key fresh job) (owed m past) one.turn refl in
    stage_if (run == r) Waiting (stage_of past r) refl (λ other. ih low (below_next (drawn past) run r next high other))
drawn_more m past lane (Refuse run job) r one ih low high =
    let next = drawn_next m past lane (Refuse run job) (owed m past) one.turn refl in
    stage_if (run == r) Ended (stage_of past r) refl (λ other. ih low (below_next (drawn past) run r next high other))
drawn_more m past lane (Tick moment) r one ih low high = ih low high
drawn_more m past lane (Begin run serial) r one ih low high =
    stage_if (run == r) Unfinished (stage_of past r) refl (λ other. ih low high)
drawn_more m past lane (App run call reply) r one ih low high = ih low high
drawn_more m past lane (End run kind status size n1 n2) r one ih low high =
    stage_if (run == r) Ended (stage_of past r) refl (λ other. ih low high)
drawn_more m past lane (Take run) r one ih low high = ih low high
drawn_more m past lane Stop r one ih low high = ih low high
drawn_more m past lane Halt r one ih low high = ih low high

pub was_drawn : (m : Rules) (past : List Entry) → AreRight m past → (r : ℕ) → WasDrawn past r
was_drawn m [] right r = λ low high. absurd (omega arith)
was_drawn m (entry ∷ past) right r = drawn_more m past entry.lane entry.what r right.0 (was_drawn m past right.1 r)

-- ---- tests that no number passes

any_false : (p : ℕ → Bool) (xs : List ℕ) → ((r : ℕ) → p r ≡ false) → list_any p xs ≡ false
any_false p [] none = refl
any_false p (x ∷ xs) none = rw (none x) (any_false p xs none)

filter_false : (p : ℕ → Bool) (xs : List ℕ) → ((r : ℕ) → p r ≡ false) → filter p xs ≡ []
filter_false p [] none = refl
filter_false p (x ∷ xs) none = rw (none x) (filter_false p xs none)

append_empty : (xs ys : List ℕ) → xs ++ ys ≡ [] → (xs ≡ []) × (ys ≡ [])
append_empty [] ys e = (refl, e)
append_empty (x ∷ xs) ys e = absurd cc

one_empty : (b : Bool) (n : ℕ) → (if b then n ∷ [] else []) ≡ [] → b ≡ false
one_empty true n e = absurd cc
one_empty false n e = refl

-- no number up to n passes a test that none of them passes
filter_empty : (p : ℕ → Bool) (n r : ℕ) → filter p (numbers n) ≡ [] → 0 < r → r ≤ n → p r ≡ false
filter_empty p zero r e low high = absurd (omega arith)
filter_empty p (suc n) r e low high =
    let parts = append_empty (filter p (numbers n)) (filter p (suc n ∷ [])) (sym (filter-append p (numbers n)
    (suc n ∷ [])) ∙ e) in
    let last : p (suc n) ≡ false = one_empty (p (suc n)) (suc n) parts.1 in
    elim (cases_Bool (r == suc n)) [
      | inl own ↦ (let is : r ≡ suc n = eqb-true r (suc n) own in ap p is ∙ last)
      | inr other ↦ filter_empty p n r parts.0 low (smaller r n high other)
    ]

-- ---- the least run that waits may begin

no_one_unfinished : (m : Rules) (past : List Entry) → AreRight m past → unfinished past ≡ [] → (r : ℕ)
    → is_unfinished past r ≡ false
no_one_unfinished m past right none r = elim (cases_Bool (is_unfinished past r)) [
  | inl busy ↦ (let stage : stage_of past r ≡ Unfinished = unfinished_is (stage_of past r) busy in
      let known = numbered m past right r (ap is_drawn stage) in
      filter_empty (is_unfinished past) (drawn past) r none known.0 known.1)
  | inr idle ↦ idle
]

before_false : (same busy waits less : Bool) → busy ≡ false → (less ≡ true → waits ≡ false)
    → (same && (busy || (waits && less))) ≡ false
before_false same busy waits less e h = grind arith

open_false : (own waits busy : Bool) → busy ≡ false → (own ≡ false → waits ≡ false)
    → (not own && (waits || busy)) ≡ false
open_false own waits busy e h = grind arith

may_if : (waits first behind last company : Bool) → waits ≡ true → first ≡ true → behind ≡ false
    → (last ≡ true → company ≡ false) → (waits && first && not behind && not (last && company)) ≡ true
may_if waits first behind last company w f b c = grind arith

behind_false : (b c : Bool) → c ≡ false → (b && c) ≡ false
behind_false b c e = grind arith

first_if : (own over : Bool) → (own ≡ false → over ≡ true) → (own || over) ≡ true
first_if own over h = grind arith

ended_if : (stage : Stage) → is_drawn stage ≡ true → is_stage_waiting stage ≡ false → is_stage_unfinished stage ≡ false
    → is_stage_ended stage ≡ true
ended_if Undrawn d w u = absurd cc
ended_if Waiting d w u = absurd cc
ended_if Unfinished d w u = absurd cc
ended_if Ended d w u = refl

not_one : (r : ℕ) → 0 < r → (r == 1) ≡ false → 1 < r
not_one r low e = grind arith

less_is : (a b : ℕ) → nat_lt a b ≡ true → a < b
less_is a b e = grind arith

apart_below : (r other n : ℕ) → r ≡ n → other ≤ n → (other == r) ≡ false → other < r
apart_below r other n e l apart = grind arith

-- where r is the newest run, another that waits is less
waits_below : (m : Rules) (past : List Entry) → AreRight m past → (r other : ℕ) → r ≡ drawn past
    → (other == r) ≡ false → ((run : ℕ) → run < r → is_waiting past run ≡ false) → is_waiting past other ≡ false
waits_below m past right r other newest apart least = elim (cases_Bool (is_waiting past other)) [
  | inl waits ↦ (let stage : stage_of past other ≡ Waiting = waiting_is (stage_of past other) waits in
      let known = numbered m past right other (ap is_drawn stage) in
      least other (apart_below r other (drawn past) newest known.1 apart))
  | inr idle ↦ idle
]

least_may_begin : (m : Rules) (past : List Entry) (r : ℕ) → AreRight m past → unfinished past ≡ []
    → is_waiting past r ≡ true → ((other : ℕ) → other < r → is_waiting past other ≡ false) → may_begin past r ≡ true
least_may_begin m past r right none waits least =
    let idle = no_one_unfinished m past right none in
    let stage : stage_of past r ≡ Waiting = waiting_is (stage_of past r) waits in
    let known = numbered m past right r (ap is_drawn stage) in
    let low : 0 < r = known.0 in let high : r ≤ drawn past = known.1 in
    let first : (r == 1 || has_ended past 1) ≡ true = first_if (r == 1) (has_ended past 1) (λ other.
    ended_if (stage_of past 1) (was_drawn m past right 1 (omega arith) (omega arith))
    (least 1 (not_one r low other)) (idle 1)) in
    let before : (other : ℕ) → goes_before past r other ≡ false = λ other.
    before_false (key_of past other == key_of past r) (is_unfinished past other) (is_waiting past other)
    (nat_lt other r) (idle other) (λ less. least other (less_is other r less)) in
    let behind : is_behind past r ≡ false = behind_false (not (key_of past r == 0))
    (list_any (goes_before past r) (numbers (drawn past)))
    (any_false (goes_before past r) (numbers (drawn past)) before) in
    let alone : is_last_work (job_of past r).work ≡ true → has_company past r ≡ false = λ last.
    (let newest : r ≡ drawn past = (has_last m past right r last).newest in
    any_false (is_other_open past r) (numbers (drawn past)) (λ other.
    open_false (other == r) (is_waiting past other) (is_unfinished past other) (idle other) (λ apart.
    waits_below m past right r other newest apart least))) in
    may_if (is_waiting past r) (r == 1 || has_ended past 1) (is_behind past r) (is_last_work (job_of past r).work)
    (has_company past r) waits first behind alone

none_below : (m : Rules) (past : List Entry) → AreRight m past → unfinished past ≡ []
    → ((run : ℕ) → may_begin past run ≡ false) → (n r : ℕ) → r < n → is_waiting past r ≡ false
none_below m past right none stuck zero r l = absurd (omega arith)
none_below m past right none stuck (suc n) r l = elim (cases_Bool (is_waiting past r)) [
  | inl waits ↦ absurd (let may = least_may_begin m past r right none waits (λ other less.
      none_below m past right none stuck n other (omega arith)) in
      let both : true ≡ false = sym may ∙ stuck r in cc)
  | inr idle ↦ idle
]

-- where nothing is under way and no run may begin, none waits
pub none_waits : (m : Rules) (past : List Entry) → AreRight m past → unfinished past ≡ []
    → ((run : ℕ) → may_begin past run ≡ false) → waiting past ≡ []
none_waits m past right none stuck = filter_false (is_waiting past) (numbers (drawn past)) (λ r.
    none_below m past right none stuck (suc r) r (omega arith))
