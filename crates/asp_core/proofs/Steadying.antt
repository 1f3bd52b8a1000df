-- What the account of the session keys rests on in a right journal.
use Rattle.std.proofs.Common.{◌≡◌, ℕ, ◌+◌, ◌<◌, ◌≤◌, ◌==◌, ◌&&◌, ◌||◌, Bool, true, false, not}
use Rattle.std.proofs.Common.{if◌then◌else◌, List, [], ◌∷◌, Option, Some, None, refl, unwrap_or}
use Rattle.std.proofs.Common.{ap, sym, ◌∙◌, arith, inl, inr}
use Rattle.std.specs.List.{list_any}
use Rattle.std.proofs.lemmas.Bool.{cases_Bool, eqb-true, eq-eqb}
use Rattle.asp_job.specs.declared.entry.EndKind.TheVariants as kind
use Rattle.asp_job.specs.declared.entry.Entry.{Entry}
use Rattle.asp_job.specs.declared.entry.Stage.{Stage}
use Rattle.asp_job.specs.declared.entry.Stage.TheVariants.{Ended, Unfinished, Waiting}
use Rattle.asp_job.specs.declared.entry.What.{What}
use Rattle.asp_job.specs.declared.entry.What.TheVariants.{Admit, App, Begin, End, Halt, Queue, Refuse, Stop, Take, Tick}
use Rattle.asp_job.specs.declared.job.Job.{Job}
use Rattle.asp_job.specs.declared.job.Work.{Work}
use Rattle.asp_job.specs.declared.job.Work.TheVariants as work
use Rattle.asp_job.specs.declared.session.SessionState.{SessionState}
use Rattle.asp_job.specs.History.{run_in, with_lane}
use Rattle.asp_job.specs.Journal.{AreRight, IsRight}
use Rattle.asp_job.specs.Keys.{closes, is_closing, made}
use Rattle.asp_job.specs.Keys.{session_of}
use Rattle.asp_job.specs.Rules.{Rules}
use Rattle.asp_job.specs.Runs.{drawn, is_stage_unfinished, is_unfinished}
use Rattle.asp_job.specs.Running.{is_page}
use Rattle.asp_job.specs.Runs.{job_of, key_of, numbers, stage_of}
use Rattle.asp_job.specs.Turns.{goes_before, is_behind, owed}
use Rattle.asp_journal.proofs.Others.{key_other, stage_other}
use Rattle.asp_core.specs.Sessions.{is_session_end}
use Rattle.asp_core.proofs.Accounts.{IsBeyond}
use Rattle.asp_core.proofs.Jobs.{admit_right}
use Rattle.asp_core.proofs.Made.{keys_made, owed_keys, queue_key}
use Rattle.asp_core.proofs.Others.{job_other}
use Rattle.asp_core.proofs.Owing.{IsOwed, queue_owed}
use Rattle.asp_core.proofs.Right.{begin_right, is_drawn, numbered, unfinished_is}
use Rattle.asp_core.proofs.Rising.{none_of_any}

-- ---- keys that were not made

zero_if : (b : Bool) (k : ℕ) (s t : Option SessionState) → k ≡ 0 → (if b && not (k == 0) then s else t) ≡ t
zero_if true k s t e = let none : (k == 0) ≡ true = grind arith in rw none refl
zero_if false k s t e = refl

-- no key has number 0
pub session_zero : (m : Rules) (past : List Entry) (k : ℕ) → k ≡ 0 → session_of m past k ≡ None
session_zero m [] k e = refl
session_zero m (entry ∷ past) k e = one entry.what (session_zero m past k e)
  where
    one : (what : What) → session_of m past k ≡ None
        → session_of m (with_lane entry.lane what ∷ past) k ≡ None
    one (Queue run work key) ih = ih
    one (Admit run key fresh job) ih = ih
    one (Refuse run job) ih = ih
    one (Tick moment) ih = ih
    one (Begin run serial) ih = ih
    one (App run call reply) ih = ih
    one (End run kind.Done status size n1 n2) ih = zero_if (key_of past run == k) k _ _ e ∙ ih
    one (End run kind.Memory status size n1 n2) ih = ih
    one (End run kind.JournalFull status size n1 n2) ih = ih
    one (Take run) ih = ih
    one Stop ih = ih
    one Halt ih = ih

less_apart : (key n k : ℕ) → key ≤ n → n < k → (key == k) ≡ false
less_apart key n k l m = grind arith

more_if : (b : Bool) (n k : ℕ) → (if b then n + 1 else n) < k → n < k
more_if true n k l = omega arith
more_if false n k l = l

-- a key that was not made has no session
session_unmade : (m : Rules) (past : List Entry) → AreRight m past → (k : ℕ) → made past < k
    → session_of m past k ≡ None
session_unmade m [] right k l = refl
session_unmade m (entry ∷ past) right k l = one entry.what l (session_unmade m past right.1 k)
  where
    one : (what : What) → made (with_lane entry.lane what ∷ past) < k → (made past < k → session_of m past k ≡ None)
        → session_of m (with_lane entry.lane what ∷ past) k ≡ None
    one (Queue run work key) l ih = ih l
    one (Admit run key fresh job) l ih = ih (more_if fresh (made past) k l)
    one (Refuse run job) l ih = ih l
    one (Tick moment) l ih = ih l
    one (Begin run serial) l ih = ih l
    one (App run call reply) l ih = ih l
    one (End run kind.Done status size n1 n2) l ih =
        let other : (key_of past run == k) ≡ false = less_apart (key_of past run) (made past) k
        (keys_made m past right.1 run) l in
        rw other (ih l)
    one (End run kind.Memory status size n1 n2) l ih = ih l
    one (End run kind.JournalFull status size n1 n2) l ih = ih l
    one (Take run) l ih = ih l
    one Stop l ih = ih l
    one Halt l ih = ih l

pub no_session_beyond : (m : Rules) (past : List Entry) → AreRight m past → (k : ℕ) → IsBeyond (made past) k
    → session_of m past k ≡ None
no_session_beyond m past right k (inl none) = session_zero m past k none
no_session_beyond m past right k (inr more) = session_unmade m past right k more

-- no run is one of it
pub none_of_unmade : (m : Rules) (past : List Entry) → AreRight m past → (k r : ℕ) → made past < k
    → (key_of past r == k) ≡ false
none_of_unmade m past right k r l = less_apart (key_of past r) (made past) k (keys_made m past right r) l

closes_apart : (k run : ℕ) (work : Work) (key : ℕ) → (key == k) ≡ false → closes k (Queue run work key) ≡ false
closes_apart k run work.SessionEnd key e = e
closes_apart k run work.Start key e = refl
closes_apart k run work.Stop key e = refl
closes_apart k run (work.Page request) key e = refl

-- its session was never to end
pub closing_unmade : (m : Rules) (past : List Entry) → AreRight m past → (k : ℕ) → made past < k
    → is_closing past k ≡ false
closing_unmade m [] right k l = refl
closing_unmade m (entry ∷ past) right k l = one entry.what right.0 l (closing_unmade m past right.1 k)
  where
    one : (what : What) → IsRight m past (with_lane entry.lane what)
        → made (with_lane entry.lane what ∷ past) < k → (made past < k → is_closing past k ≡ false) → (closes k what || is_closing past k) ≡ false
    one (Queue run work key) here l ih =
        let small = queue_key m past entry.lane run work key (owed m past) here.turn (owed_keys m past) in
        rw (closes_apart k run work key (less_apart key (made past) k small l)) (ih l)
    one (Admit run key fresh job) here l ih = ih (more_if fresh (made past) k l)
    one (Refuse run job) here l ih = ih l
    one (Tick moment) here l ih = ih l
    one (Begin run serial) here l ih = ih l
    one (App run call reply) here l ih = ih l
    one (End run kind status size n1 n2) here l ih = ih l
    one (Take run) here l ih = ih l
    one Stop here l ih = ih l
    one Halt here l ih = ih l

-- ---- the runs of a key are unfinished one at a time

abbrev IsAlone : List Entry → ℕ → ℕ → Type 0
IsAlone past r s = is_unfinished past r ≡ true → is_unfinished past s ≡ true → key_of past r ≡ key_of past s
    → 0 < key_of past r → r ≡ s

and_false_of : (b c : Bool) → (b && c) ≡ false → b ≡ true → c ≡ false
and_false_of true c e f = e
and_false_of false c e f = absurd cc

or_false_left : (b c : Bool) → (b || c) ≡ false → b ≡ false
or_false_left true c e = absurd cc
or_false_left false c e = refl

not_true : (b : Bool) → not b ≡ true → b ≡ false
not_true true e = absurd cc
not_true false e = refl

and_left : (a b : Bool) → (a && b) ≡ true → a ≡ true
and_left true b e = refl
and_left false b e = e

and_right : (a b : Bool) → (a && b) ≡ true → b ≡ true
and_right true b e = e
and_right false b e = absurd cc

-- a run that may begin is not behind another
pub not_behind : (past : List Entry) (r : ℕ) → 0 < key_of past r → is_behind past r ≡ false
    → list_any (goes_before past r) (numbers (drawn past)) ≡ false
not_behind past r l e =
    let keyed : not (key_of past r == 0) ≡ true = grind arith in
    and_false_of (not (key_of past r == 0)) (list_any (goes_before past r) (numbers (drawn past))) e keyed

-- an entry about neither of the two leaves them
alone_other : (past : List Entry) (lane r s : ℕ) (what : What) → (run_in what == r) ≡ false → (run_in what == s) ≡ false
    → IsAlone past r s → IsAlone (with_lane lane what ∷ past) r s
alone_other past lane r s what e f ih one other same low =
    let new = with_lane lane what ∷ past in
    let key_r : key_of new r ≡ key_of past r = key_other past lane r what e in
    let key_s : key_of new s ≡ key_of past s = key_other past lane s what f in
    let stage_r : stage_of new r ≡ stage_of past r = stage_other past lane r what e in
    let stage_s : stage_of new s ≡ stage_of past s = stage_other past lane s what f in
    ih (ap is_stage_unfinished (sym stage_r) ∙ one) (ap is_stage_unfinished (sym stage_s) ∙ other)
    (sym key_r ∙ same ∙ key_s) (omega arith)

-- the run that begins is the only one of its key that is unfinished
alone_begun : (m : Rules) (past : List Entry) (lane run serial s : ℕ) → AreRight m past
    → IsRight m past (with_lane lane (Begin run serial)) → (run == s) ≡ false
    → is_unfinished past s ≡ true → key_of past run ≡ key_of past s → 0 < key_of past run → ⊥
alone_begun m past lane run serial s all right apart open_ same low =
    let begins = begin_right m past lane run serial (owed m past) right.turn in
    let behind : is_behind past run ≡ false = not_true (is_behind past run)
    (and_right _ _ (and_left _ _ begins.next.begins)) in
    let none = not_behind past run low behind in
    let stage : stage_of past s ≡ Unfinished = unfinished_is (stage_of past s) open_ in
    let known = numbered m past all s (ap is_drawn stage) in
    let goes : goes_before past run s ≡ false =
    none_of_any (goes_before past run) (drawn past) s none known.0 known.1 in
    let of_key : (key_of past s == key_of past run) ≡ true = eq-eqb (key_of past s) (key_of past run) (sym same) in
    let no : is_unfinished past s ≡ false = or_false_left (is_unfinished past s) _ (and_false_of _ _ goes of_key) in
    let both : true ≡ false = sym open_ ∙ no in
    cc

own_stage : (given before : Stage) (run r : ℕ) → (run == r) ≡ true
    → unwrap_or (if run == r then Some given else None) before ≡ given
own_stage given before run r e = rw e refl

-- an entry about one of them: either is its own run
alone_own : (m : Rules) (past : List Entry) (lane r s : ℕ) (what : What) → AreRight m past
    → IsRight m past (with_lane lane what) → IsAlone past r s → (run_in what == r) ≡ true → (run_in what == s) ≡ false
    → IsAlone (with_lane lane what ∷ past) r s
alone_own m past lane r s (Queue run work key) all right ih e f one other same low =
    absurd (let is = own_stage Waiting (stage_of past r) run r e in
    let both : false ≡ true = sym (ap is_stage_unfinished is) ∙ one in cc)
alone_own m past lane r s (Admit run key fresh job) all right ih e f one other same low =
    absurd (let is = own_stage Waiting (stage_of past r) run r e in
    let both : false ≡ true = sym (ap is_stage_unfinished is) ∙ one in cc)
alone_own m past lane r s (Refuse run job) all right ih e f one other same low =
    absurd (let is = own_stage Ended (stage_of past r) run r e in
    let both : false ≡ true = sym (ap is_stage_unfinished is) ∙ one in cc)
alone_own m past lane r s (End run kind status size n1 n2) all right ih e f one other same low =
    absurd (let is = own_stage Ended (stage_of past r) run r e in
    let both : false ≡ true = sym (ap is_stage_unfinished is) ∙ one in cc)
alone_own m past lane r s (Begin run serial) all right ih e f one other same low =
    let is : run ≡ r = eqb-true run r e in
    let open_ : is_unfinished past s ≡ true =
    ap is_stage_unfinished (sym (stage_other past lane s (Begin run serial) f)) ∙ other in
    absurd (alone_begun m past lane run serial s all right f open_ (ap (key_of past) is ∙ same)
    (let key : key_of past run ≡ key_of past r = ap (key_of past) is in omega arith))
alone_own m past lane r s (Tick moment) all right ih e f one other same low = ih one other same low
alone_own m past lane r s (App run call reply) all right ih e f one other same low = ih one other same low
alone_own m past lane r s (Take run) all right ih e f one other same low = ih one other same low
alone_own m past lane r s Stop all right ih e f one other same low = ih one other same low
alone_own m past lane r s Halt all right ih e f one other same low = ih one other same low

flip : (past : List Entry) (r s : ℕ) → IsAlone past s r → IsAlone past r s
flip past r s ih one other same low = sym (ih other one (sym same) (let s_low : 0 < key_of past s = omega arith in s_low))

pub one_unfinished : (m : Rules) (past : List Entry) → AreRight m past → (r s : ℕ) → IsAlone past r s
one_unfinished m [] right r s = λ one other same low. absurd cc
one_unfinished m (entry ∷ past) right r s =
    let ih = one_unfinished m past right.1 r s in
    elim (cases_Bool (run_in entry.what == r)) [
      | inl own ↦ elim (cases_Bool (run_in entry.what == s)) [
        | inl own_s ↦ (λ one other same low. sym (eqb-true (run_in entry.what) r own) ∙ eqb-true (run_in entry.what) s own_s)
        | inr other ↦ alone_own m past entry.lane r s entry.what right.1 right.0 ih own other
      ]
      | inr apart ↦ elim (cases_Bool (run_in entry.what == s)) [
        | inl own_s ↦ flip (entry ∷ past) r s (alone_own m past entry.lane s r entry.what right.1 right.0
            (flip past s r ih) own_s apart)
        | inr other ↦ alone_other past entry.lane r s entry.what apart other ih
      ]
    ]

-- ---- a run with a key is that of a page, or one for the end of a session

abbrev IsOfPage : List Entry → ℕ → Type 0
IsOfPage past r = (key_of past r == 0) ≡ false → not (is_session_end (job_of past r).work) ≡ is_page (job_of past r).work

page_kind : (work : Work) → is_page work ≡ true → not (is_session_end work) ≡ is_page work
page_kind (work.Page request) e = refl
page_kind work.Start e = absurd cc
page_kind work.SessionEnd e = absurd cc
page_kind work.Stop e = absurd cc

owed_kind : (m : Rules) (past : List Entry) (work : Work) (key : ℕ) → IsOwed m past work key → (key == 0) ≡ false
    → not (is_session_end work) ≡ is_page work
owed_kind m past work.SessionEnd key is e = refl
owed_kind m past work.Start key is e = absurd (let none : (key == 0) ≡ true = eq-eqb key 0 is in cc)
owed_kind m past work.Stop key is e = absurd (let none : (key == 0) ≡ true = eq-eqb key 0 is in cc)
owed_kind m past (work.Page request) key is e = absurd (let none : (key == 0) ≡ true = eq-eqb key 0 is in cc)

kind_own : (m : Rules) (past : List Entry) (lane r : ℕ) (what : What) → AreRight m past
    → IsRight m past (with_lane lane what) → IsOfPage past r → (run_in what == r) ≡ true
    → IsOfPage (with_lane lane what ∷ past) r
kind_own m past lane r (Queue run work key) all right ih e keyed =
    let key_is : key_of (with_lane lane (Queue run work key) ∷ past) r ≡ key = rw e refl in
    rw e (owed_kind m past work key (queue_owed m past lane run work key all right)
    (ap (λ k. k == 0) (sym key_is) ∙ keyed))
kind_own m past lane r (Admit run key fresh job) all right ih e keyed =
    let may = admit_right m past lane run key fresh job (owed m past) right.turn in
    rw e (page_kind job.work may.asked.page)
kind_own m past lane r (Refuse run job) all right ih e keyed =
    let none : key_of (with_lane lane (Refuse run job) ∷ past) r ≡ 0 = rw e refl in
    absurd (let zero_key = ap (λ k. k == 0) none in let both : false ≡ true = sym keyed ∙ zero_key in cc)
kind_own m past lane r (Tick moment) all right ih e keyed = ih keyed
kind_own m past lane r (Begin run serial) all right ih e keyed = ih keyed
kind_own m past lane r (App run call reply) all right ih e keyed = ih keyed
kind_own m past lane r (End run kind status size n1 n2) all right ih e keyed = ih keyed
kind_own m past lane r (Take run) all right ih e keyed = ih keyed
kind_own m past lane r Stop all right ih e keyed = ih keyed
kind_own m past lane r Halt all right ih e keyed = ih keyed

pub keyed_work : (m : Rules) (past : List Entry) → AreRight m past → (r : ℕ) → IsOfPage past r
keyed_work m [] right r = λ keyed. absurd cc
keyed_work m (entry ∷ past) right r =
    let ih = keyed_work m past right.1 r in
    elim (cases_Bool (run_in entry.what == r)) [
      | inl own ↦ kind_own m past entry.lane r entry.what right.1 right.0 ih own
      | inr other ↦ (λ keyed. let job = job_other past entry.lane r entry.what other in
          let key = key_other past entry.lane r entry.what other in
          ap (λ (j : Job). not (is_session_end j.work)) job ∙ ih (ap (λ k. k == 0) (sym key) ∙ keyed)
          ∙ sym (ap (λ (j : Job). is_page j.work) job))
    ]
