-- The key of each run of a right journal was made.
use Rattle.std.proofs.Common.{◌≡◌, ℕ, zero, suc, ◌+◌, ◌≤◌, ◌==◌, ◌&&◌, Bool, true, false, not, if◌then◌else◌}
use Rattle.std.proofs.Common.{nat_le, List, [], ◌∷◌, ◌++◌, map, filter, drop, Option, refl, arith}
use Rattle.std.proofs.Common.{inl, inr}
use Rattle.std.proofs.lemmas.Bool.{cases_Bool, eqb-true, eq-eqb}
use Rattle.asp_job.specs.History.{run_in, with_lane}
use Rattle.asp_job.specs.Journal.{AreRight, IsRight}
use Rattle.asp_job.specs.Keys.{due_at, is_askable, is_due_key, is_live, live, made, session_of}
use Rattle.asp_job.specs.Rules.{Rules}
use Rattle.asp_job.specs.Runs.{is_stopping, key_of, numbers}
use Rattle.asp_job.specs.Turns.{MayFollow, closing_runs, key_asked_by, key_for, needs_key, owed}
use Rattle.asp_job.specs.declared.entry.Entry.{Entry}
use Rattle.asp_job.specs.declared.entry.What.{What}
use Rattle.asp_job.specs.declared.entry.What.TheVariants.{Admit, App, Begin, End, Halt, Queue, Refuse, Stop, Take, Tick}
use Rattle.asp_job.specs.declared.job.Job.{Job}
use Rattle.asp_job.specs.declared.job.Work.{Work}
use Rattle.asp_job.specs.declared.job.Work.TheVariants as work
use Rattle.asp_job.specs.declared.session.SessionState.{SessionState}
use Rattle.asp_journal.proofs.Others.{key_other}
use Rattle.asp_core.proofs.Jobs.{admit_right}

abbrev AreWithin : ℕ → List ℕ → Type 0
AreWithin n [] = Unit {0}
AreWithin n (x ∷ xs) = (x ≤ n) × AreWithin n xs

within_append : (n : ℕ) (xs ys : List ℕ) → AreWithin n xs → AreWithin n ys → AreWithin n (xs ++ ys)
within_append n [] ys a b = b
within_append n (x ∷ xs) ys a b = (a.0, within_append n xs ys a.1 b)

within_more : (n : ℕ) (xs : List ℕ) → AreWithin n xs → AreWithin (suc n) xs
within_more n [] a = tt
within_more n (x ∷ xs) a = let here = a.0 in (omega arith, within_more n xs a.1)

within_numbers : (n : ℕ) → AreWithin n (numbers n)
within_numbers zero = tt
within_numbers (suc n) = within_append (suc n) (numbers n) (suc n ∷ []) (within_more n (numbers n) (within_numbers n))
    (omega arith, tt)

within_if : (n x : ℕ) (b : Bool) (xs : List ℕ) → x ≤ n → AreWithin n xs → AreWithin n (if b then x ∷ xs else xs)
within_if n x true xs l a = (l, a)
within_if n x false xs l a = a

within_filter : (n : ℕ) (p : ℕ → Bool) (xs : List ℕ) → AreWithin n xs → AreWithin n (filter p xs)
within_filter n p [] a = tt
within_filter n p (x ∷ xs) a = within_if n x (p x) (filter p xs) a.0 (within_filter n p xs a.1)

-- the keys of the runs that are owed
abbrev KeysWithin : ℕ → List (Work × ℕ) → Type 0
KeysWithin n list = AreWithin n (map (λ pair. pair.1) list)

keys_closing : (n : ℕ) (keys : List ℕ) → AreWithin n keys → KeysWithin n (closing_runs keys)
keys_closing n [] a = tt
keys_closing n (k ∷ keys) a = (a.0, keys_closing n keys a.1)

keys_last : (n : ℕ) (list : List (Work × ℕ)) → KeysWithin n list → KeysWithin n (list ++ (work.Stop, 0) ∷ [])
keys_last n [] a = (omega arith, tt)
keys_last n (first ∷ rest) a = (a.0, keys_last n rest a.1)

keys_drop : (n : ℕ) (list : List (Work × ℕ)) → KeysWithin n list → KeysWithin n (drop 1 list)
keys_drop n [] a = tt
keys_drop n (first ∷ rest) a = a.1

within_due : (stop : Bool) (p : ℕ → Bool) (n : ℕ) → AreWithin n (if stop then [] else filter p (numbers n))
within_due true p n = tt
within_due false p n = within_filter n p (numbers n) (within_numbers n)

owed_more : (m : Rules) (past : List Entry) (lane : ℕ) (what : What) → KeysWithin (made past) (owed m past)
    → KeysWithin (made (with_lane lane what ∷ past)) (owed m (with_lane lane what ∷ past))
owed_more m past lane (Queue run work key) a = keys_drop (made past) (owed m past) a
owed_more m past lane (Admit run key fresh job) a = tt
owed_more m past lane (Refuse run job) a = tt
owed_more m past lane (Tick moment) a = keys_closing (made past) (due_at (session_of m past) past moment)
    (within_due (is_stopping past) (is_due_key (session_of m past) past moment) (made past))
owed_more m past lane (Begin run serial) a = tt
owed_more m past lane (App run call reply) a = tt
owed_more m past lane (End run kind status size n1 n2) a = tt
owed_more m past lane (Take run) a = tt
owed_more m past lane Stop a = keys_last (made past) (closing_runs (live (session_of m past) past))
    (keys_closing (made past) (live (session_of m past) past)
    (within_filter (made past) (is_live (session_of m past) past) (numbers (made past)) (within_numbers (made past))))
owed_more m past lane Halt a = tt

pub owed_keys : (m : Rules) (past : List Entry) → KeysWithin (made past) (owed m past)
owed_keys m [] = (omega arith, tt)
owed_keys m (entry ∷ past) = owed_more m past entry.lane entry.what (owed_keys m past)

and_right : (a b : Bool) → (a && b) ≡ true → b ≡ true
and_right true b e = e
and_right false b e = absurd cc

and_left : (a b : Bool) → (a && b) ≡ true → a ≡ true
and_left true b e = refl
and_left false b e = e

le_of : (k n : ℕ) → nat_le k n ≡ true → k ≤ n
le_of k n e = grind arith

askable_small : (sessions : ℕ → Option SessionState) (past : List Entry) (k : ℕ) → is_askable sessions past k ≡ true
    → k ≤ made past
askable_small sessions past k e = le_of k (made past) (and_right _ _ (and_left _ _ (and_left _ _ e)))

-- whether the key that is asked for may be
key_if : (b : Bool) (k n : ℕ) → (b ≡ true → k ≤ n) → (if not b then n + 1 else k) ≤ (if not b then n + 1 else n)
key_if true k n h = h refl
key_if false k n h = omega arith

key_small : (keyed : Bool) (asked : ℕ) (sessions : ℕ → Option SessionState) (past : List Entry)
    → key_for keyed asked sessions past ≤ (if needs_key keyed asked sessions past then made past + 1 else made past)
key_small true asked sessions past = key_if (is_askable sessions past asked) asked (made past)
    (askable_small sessions past asked)
key_small false asked sessions past = omega arith

made_if : (b : Bool) (n : ℕ) → n ≤ (if b then n + 1 else n)
made_if true n = omega arith
made_if false n = omega arith

made_grows : (past : List Entry) (lane : ℕ) (what : What) → made past ≤ made (with_lane lane what ∷ past)
made_grows past lane (Queue run work key) = omega arith
made_grows past lane (Admit run key fresh job) = made_if fresh (made past)
made_grows past lane (Refuse run job) = omega arith
made_grows past lane (Tick moment) = omega arith
made_grows past lane (Begin run serial) = omega arith
made_grows past lane (App run call reply) = omega arith
made_grows past lane (End run kind status size n1 n2) = omega arith
made_grows past lane (Take run) = omega arith
made_grows past lane Stop = omega arith
made_grows past lane Halt = omega arith

-- the key of a queued run is that of the first run that is owed
pub queue_key : (m : Rules) (past : List Entry) (lane run : ℕ) (work : Work) (key : ℕ) (list : List (Work × ℕ))
    → MayFollow m past list (with_lane lane (Queue run work key)) → KeysWithin (made past) list → key ≤ made past
queue_key m past lane run work key [] may a = absurd may
queue_key m past lane run work key (first ∷ rest) may a = let is = may.0 in let same : key ≡ first.1 = cc in let small =
    a.0 in omega arith

admit_key : (m : Rules) (past : List Entry) (lane run key : ℕ) (fresh : Bool) (job : Job)
    → IsRight m past (with_lane lane (Admit run key fresh job)) → key ≤ (if fresh then made past + 1 else made past)
admit_key m past lane run key fresh job right =
    let may = admit_right m past lane run key fresh job (owed m past) right.turn in
    rw (may.key_is, may.fresh_is) (key_small (m.meaning.is_keyed job) (key_asked_by m job) (session_of m past) past)

key_own : (m : Rules) (past : List Entry) (lane : ℕ) (what : What) (r : ℕ) → IsRight m past (with_lane lane what)
    → key_of past r ≤ made past → run_in what ≡ r → key_of (with_lane lane what ∷ past) r ≤ made
    (with_lane lane what ∷ past)
key_own m past lane (Queue run work key) r right ih e =
    let own : (run == r) ≡ true = eq-eqb run r e in
    let small = queue_key m past lane run work key (owed m past) right.turn (owed_keys m past) in
    let key_is : key_of (with_lane lane (Queue run work key) ∷ past) r ≡ key = rw own refl in
    omega arith
key_own m past lane (Admit run key fresh job) r right ih e =
    let own : (run == r) ≡ true = eq-eqb run r e in
    let small : key ≤ made (with_lane lane (Admit run key fresh job) ∷ past) = admit_key m past lane run key fresh job
    right in
    let key_is : key_of (with_lane lane (Admit run key fresh job) ∷ past) r ≡ key = rw own refl in
    omega arith
key_own m past lane (Refuse run job) r right ih e =
    let own : (run == r) ≡ true = eq-eqb run r e in
    let key_is : key_of (with_lane lane (Refuse run job) ∷ past) r ≡ 0 = rw own refl in
    omega arith
key_own m past lane (Tick moment) r right ih e = ih
key_own m past lane (Begin run serial) r right ih e = ih
key_own m past lane (App run call reply) r right ih e = ih
key_own m past lane (End run kind status size n1 n2) r right ih e = ih
key_own m past lane (Take run) r right ih e = ih
key_own m past lane Stop r right ih e = ih
key_own m past lane Halt r right ih e = ih

pub keys_made : (m : Rules) (past : List Entry) → AreRight m past → (r : ℕ) → key_of past r ≤ made past
keys_made m [] right r = omega arith
keys_made m (entry ∷ past) right r = elim (cases_Bool (run_in entry.what == r)) [
  | inl own ↦ key_own m past entry.lane entry.what r right.0 (keys_made m past right.1 r)
      (eqb-true (run_in entry.what) r own)
  | inr other ↦ (let before = keys_made m past right.1 r in let more = made_grows past entry.lane entry.what in
      let same : key_of (entry ∷ past) r ≡ key_of past r = key_other past entry.lane r entry.what other in omega arith)
]
