-- The runs that wait or are unfinished, after an entry.
use Rattle.std.proofs.Common.{◌≡◌, ℕ, ◌+◌, ◌≤◌, ◌==◌, ◌||◌, ◌&&◌, Bool, true, false, if◌then◌else◌, not, nat_lt}
use Rattle.std.proofs.Common.{List, [], ◌∷◌, ◌++◌, length, filter, refl, ap, sym, ◌∙◌, arith, inl, inr, append-nil}
use Rattle.std.proofs.lemmas.Bool.{cases_Bool, eqb-true}
use Rattle.asp_job.specs.History.{entries_in, with_lane}
use Rattle.std.specs.List.{find, list_any}
use Rattle.asp_job.specs.Runs.{drawn, is_open, is_stage_unfinished, is_stage_waiting, is_unfinished, is_waiting}
use Rattle.asp_job.specs.Runs.{numbers}
use Rattle.asp_job.specs.Runs.{key_of, job_of, stage_of, unfinished, waiting}
use Rattle.asp_job.specs.Running.{is_page}
use Rattle.asp_job.specs.Turns.{goes_before, has_company, is_other_open, waiting_pages, is_waiting_page, may_begin}
use Rattle.asp_job.specs.declared.entry.Entry.{Entry}
use Rattle.asp_job.specs.declared.entry.Stage.{Stage}
use Rattle.asp_job.specs.declared.entry.Stage.TheVariants.{Ended, Unfinished, Waiting}
use Rattle.asp_job.specs.declared.entry.What.{What}
use Rattle.asp_job.specs.declared.entry.What.TheVariants.{Admit, App, Begin, End, Halt, Queue, Refuse, Stop, Take, Tick}
use Rattle.asp_journal.specs.Tables.{IsTimely, open_after, open_runs}
use Rattle.asp_journal.specs.Rows.{IsNumberedFor}
use Rattle.asp_journal.proofs.Passing.{any_narrow, filter_narrow, filter_without, find_narrow}
use Rattle.asp_journal.proofs.Numbers.{filter_more, filter_same}
use Rattle.asp_journal.proofs.Others.{other_number, own_number, stage_other}
use Rattle.std.proofs.Common.{zero, suc, reverse, length-append, add-one}
use Rattle.asp_journal.proofs.Bounds.{drawn_small}
use Rattle.asp_journal.proofs.Indexing.{entries_few}
use Rattle.asp_journal.proofs.Past.{length_past}

-- whether a run at this stage waits or is unfinished
is_open_at : Stage → Bool
is_open_at stage = is_stage_waiting stage || is_stage_unfinished stage

-- ---- an entry that draws a run

pub next_is : (run n r : ℕ) → run ≡ n + 1 → r ≤ n → (run == r) ≡ false
next_is run n r e l = ap (λ i. i == r) e ∙ other_number r n l

pub own_next : (run n : ℕ) → run ≡ n + 1 → (run == (n + 1)) ≡ true
own_next run n e = ap (λ i. i == (n + 1)) e ∙ own_number (n + 1)

-- the runs that were drawn before stay as they are
open_before : (past : List Entry) (lane run : ℕ) (what : What) → ((r : ℕ) → r ≤ drawn past
    → stage_of (with_lane lane what ∷ past) r ≡ stage_of past r)
    → filter (is_open (with_lane lane what ∷ past)) (numbers (drawn past)) ≡ open_runs past
unfolding is_open_at
open_before past lane run what same =
    filter_same (is_open (with_lane lane what ∷ past)) (is_open past) (drawn past) (λ r l. ap is_open_at (same r l))

open_drawn : (past : List Entry) (lane run : ℕ) (what : What) (opens : Bool) → run ≡ drawn past + 1
    → ((r : ℕ) → r ≤ drawn past → stage_of (with_lane lane what ∷ past) r ≡ stage_of past r)
    → is_open (with_lane lane what ∷ past) (drawn past + 1) ≡ opens
    → filter (is_open (with_lane lane what ∷ past)) (numbers (drawn past + 1))
    ≡ open_runs past ++ (if opens then run ∷ [] else [])
open_drawn past lane run what opens e same last =
    let new = with_lane lane what ∷ past in
    filter_more (is_open new) (drawn past)
    ∙ ap (λ xs. xs ++ (if is_open new (drawn past + 1) then (drawn past + 1) ∷ [] else []))
    (open_before past lane run what same)
    ∙ ap (λ b. open_runs past ++ (if b then (drawn past + 1) ∷ [] else [])) last
    ∙ ap (λ i. open_runs past ++ (if opens then i ∷ [] else [])) (sym e)

-- ---- a run that begins, and one that ends

pub open_begun : (past : List Entry) (lane run serial r : ℕ) → is_open past run ≡ true
    → is_open (with_lane lane (Begin run serial) ∷ past) r ≡ is_open past r
unfolding is_open_at
open_begun past lane run serial r e =
    let new = with_lane lane (Begin run serial) ∷ past in
    elim (cases_Bool (run == r)) [
      | inl own ↦ (let is : run ≡ r = eqb-true run r own in
          let stage : stage_of new r ≡ Unfinished = rw own refl in
          let here : is_open new r ≡ true = ap is_open_at stage in
          here ∙ sym (ap (is_open past) (sym is) ∙ e))
      | inr other ↦ ap is_open_at (stage_other past lane r (Begin run serial) other)
    ]

turned : (run r : ℕ) → (run == r) ≡ true → (r == run) ≡ true
turned run r e = grind arith

turned_not : (run r : ℕ) → (run == r) ≡ false → (r == run) ≡ false
turned_not run r e = grind arith

and_true : (b : Bool) → b ≡ (b && true)
and_true true = refl
and_true false = refl

and_false : (b : Bool) → false ≡ (b && false)
and_false true = refl
and_false false = refl

pub open_ended : (past : List Entry) (lane r : ℕ) (what : What) (run : ℕ)
    → stage_of (with_lane lane what ∷ past) run ≡ Ended
    → ((run == r) ≡ false → stage_of (with_lane lane what ∷ past) r ≡ stage_of past r)
    → is_open (with_lane lane what ∷ past) r ≡ (is_open past r && not (r == run))
unfolding is_open_at
open_ended past lane r what run own_stage other_stage =
    let new = with_lane lane what ∷ past in
    elim (cases_Bool (run == r)) [
      | inl own ↦ (let is : run ≡ r = eqb-true run r own in
          let here : is_open new r ≡ false = ap (is_open new) (sym is) ∙ ap is_open_at own_stage in
          let turn = turned run r own in
          here ∙ and_false (is_open past r) ∙ ap (λ b. is_open past r && not b) (sym turn))
      | inr other ↦ (let turn = turned_not run r other in
          ap is_open_at (other_stage other) ∙ and_true (is_open past r)
          ∙ ap (λ b. is_open past r && not b) (sym turn))
    ]

-- ---- an entry

pub open_more : (past : List Entry) (lane : ℕ) (what : What) → IsNumberedFor (drawn past) what → IsTimely past what
    → open_runs (with_lane lane what ∷ past) ≡ open_after what (open_runs past)
unfolding is_open_at
open_more past lane (Queue run work key) n t =
    let own = own_next run (drawn past) n in
    let stage : stage_of (with_lane lane (Queue run work key) ∷ past) (drawn past + 1) ≡ Waiting = rw own refl in
    open_drawn past lane run (Queue run work key) true n
    (λ r l. stage_other past lane r (Queue run work key) (next_is run (drawn past) r n l)) (ap is_open_at stage)
open_more past lane (Admit run key fresh job) n t =
    let own = own_next run (drawn past) n in
    let stage : stage_of (with_lane lane (Admit run key fresh job) ∷ past) (drawn past + 1) ≡ Waiting = rw own refl in
    open_drawn past lane run (Admit run key fresh job) true n
    (λ r l. stage_other past lane r (Admit run key fresh job) (next_is run (drawn past) r n l)) (ap is_open_at stage)
open_more past lane (Refuse run job) n t =
    let own = own_next run (drawn past) n in
    let stage : stage_of (with_lane lane (Refuse run job) ∷ past) (drawn past + 1) ≡ Ended = rw own refl in
    open_drawn past lane run (Refuse run job) false n
    (λ r l. stage_other past lane r (Refuse run job) (next_is run (drawn past) r n l)) (ap is_open_at stage)
    ∙ append-nil (open_runs past)
open_more past lane (Begin run serial) n t =
    filter_same (is_open (with_lane lane (Begin run serial) ∷ past)) (is_open past) (drawn past)
    (λ r l. open_begun past lane run serial r t)
open_more past lane (End run kind status size n1 n2) n t =
    let what = End run kind status size n1 n2 in
    let own = own_number run in
    let stage : stage_of (with_lane lane what ∷ past) run ≡ Ended = rw own refl in
    filter_without (is_open past) (is_open (with_lane lane what ∷ past)) run
    (λ r. open_ended past lane r what run stage (λ other. stage_other past lane r what other)) (numbers (drawn past))
open_more past lane (Tick moment) n t = refl
open_more past lane (App run call reply) n t = refl
open_more past lane (Take run) n t = refl
open_more past lane Stop n t = refl
open_more past lane Halt n t = refl

-- ---- tests that pass open runs only

or_left : (a b : Bool) → a ≡ true → (a || b) ≡ true
or_left true b e = refl
or_left false b e = absurd cc

or_right : (a b : Bool) → b ≡ true → (a || b) ≡ true
or_right true b e = refl
or_right false b e = e

and_first : (a b : Bool) → (a && b) ≡ true → a ≡ true
and_first true b e = refl
and_first false b e = e

and_second : (a b : Bool) → (a && b) ≡ true → b ≡ true
and_second true b e = e
and_second false b e = absurd cc

-- one of the two, or the other with more
either : (a b c : Bool) → (a || (b && c)) ≡ true → (b || a) ≡ true
either true b c e = or_right b true refl
either false b c e = or_left b false (and_first b c e)

pub unfinished_open : (past : List Entry) (r : ℕ) → is_unfinished past r ≡ true → is_open past r ≡ true
unfinished_open past r e = or_right (is_waiting past r) (is_unfinished past r) e

pub waiting_open : (past : List Entry) (r : ℕ) → is_waiting past r ≡ true → is_open past r ≡ true
waiting_open past r e = or_left (is_waiting past r) (is_unfinished past r) e

pub page_open : (past : List Entry) (r : ℕ) → is_waiting_page past r ≡ true → is_open past r ≡ true
page_open past r e = waiting_open past r (and_first (is_waiting past r) (is_page (job_of past r).work) e)

pub company_open : (past : List Entry) (run r : ℕ) → is_other_open past run r ≡ true → is_open past r ≡ true
company_open past run r e = and_second (not (r == run)) (is_open past r) e

pub before_open : (past : List Entry) (run r : ℕ) → goes_before past run r ≡ true → is_open past r ≡ true
before_open past run r e = either (is_unfinished past r) (is_waiting past r) (nat_lt r run)
    (and_second (key_of past r == key_of past run) _ e)

pub may_open : (past : List Entry) (r : ℕ) → may_begin past r ≡ true → is_open past r ≡ true
may_open past r e = waiting_open past r (and_first _ _ (and_first _ _ (and_first _ _ e)))

-- ---- what is told of the open runs is told of all

pub unfinished_listed : (past : List Entry) (listed : List ℕ) → listed ≡ open_runs past
    → length (filter (is_unfinished past) listed) ≡ length (unfinished past)
unfinished_listed past listed e = ap (λ xs. length (filter (is_unfinished past) xs)) e
    ∙ ap length (filter_narrow (is_open past) (is_unfinished past) (unfinished_open past) (numbers (drawn past)))

pub waiting_listed : (past : List Entry) (listed : List ℕ) → listed ≡ open_runs past
    → length (filter (is_waiting past) listed) ≡ length (waiting past)
waiting_listed past listed e = ap (λ xs. length (filter (is_waiting past) xs)) e
    ∙ ap length (filter_narrow (is_open past) (is_waiting past) (waiting_open past) (numbers (drawn past)))

pub pages_listed : (past : List Entry) (listed : List ℕ) → listed ≡ open_runs past
    → length (filter (is_waiting_page past) listed) ≡ length (waiting_pages past)
pages_listed past listed e = ap (λ xs. length (filter (is_waiting_page past) xs)) e
    ∙ ap length (filter_narrow (is_open past) (is_waiting_page past) (page_open past) (numbers (drawn past)))

pub before_listed : (past : List Entry) (run : ℕ) (listed : List ℕ) → listed ≡ open_runs past
    → list_any (goes_before past run) listed ≡ list_any (goes_before past run) (numbers (drawn past))
before_listed past run listed e = ap (list_any (goes_before past run)) e
    ∙ any_narrow (is_open past) (goes_before past run) (before_open past run) (numbers (drawn past))

pub company_listed : (past : List Entry) (run : ℕ) (listed : List ℕ) → listed ≡ open_runs past
    → list_any (is_other_open past run) listed ≡ has_company past run
company_listed past run listed e = ap (list_any (is_other_open past run)) e
    ∙ any_narrow (is_open past) (is_other_open past run) (company_open past run) (numbers (drawn past))

pub first_listed : (past : List Entry) (listed : List ℕ) → listed ≡ open_runs past
    → find (may_begin past) listed ≡ find (may_begin past) (numbers (drawn past))
first_listed past listed e = ap (find (may_begin past)) e
    ∙ find_narrow (is_open past) (may_begin past) (may_open past) (numbers (drawn past))

-- ---- how many are unfinished at most

pub length_numbers : (n : ℕ) → length (numbers n) ≡ n
length_numbers zero = refl
length_numbers (suc n) =
    let one = length-append (numbers n) (suc n ∷ []) in
    let before = length_numbers n in
    one ∙ ap (λ k. k + 1) before ∙ add-one n

pub passed_few : (p : ℕ → Bool) (xs : List ℕ) → length (filter p xs) ≤ length xs
passed_few p [] = omega arith
passed_few p (x ∷ xs) = elim (cases_Bool (p x)) [
  | inl passes ↦ (let rest = passed_few p xs in rw passes (omega arith))
  | inr stops ↦ (let rest = passed_few p xs in rw stops (omega arith))
]

pub unfinished_few : (past : List Entry) → length (unfinished past) ≤ entries_in past
unfinished_few past =
    let one : length (unfinished past) ≤ length (numbers (drawn past)) =
    passed_few (is_unfinished past) (numbers (drawn past)) in
    let two = length_numbers (drawn past) in
    let three = drawn_small past in
    omega arith

pub unfinished_within : (journal : List Entry) → length (unfinished (reverse journal)) ≤ length journal
unfinished_within journal =
    let one = unfinished_few (reverse journal) in
    let two = entries_few (reverse journal) in
    let three = length_past journal in
    omega arith
