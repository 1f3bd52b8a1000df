-- What an entry that draws a run makes of the account of the session keys.
use Rattle.std.proofs.Common.{◌≡◌, ℕ, ◌+◌, ◌<◌, ◌≤◌, ◌==◌, ◌&&◌, ◌||◌, Bool, true, false, not, if◌then◌else◌}
use Rattle.std.proofs.Common.{List, [], ◌∷◌, ◌++◌, filter, map, is_some, Option, refl}
use Rattle.std.proofs.Common.{ap, sym, ◌∙◌, arith, inl, inr, append-nil}
use Rattle.std.specs.List.{list_any}
use Rattle.std.proofs.lemmas.Bool.{cases_Bool, eqb-true, eq-eqb}
use Rattle.std.proofs.lemmas.List.{map-append}
use Rattle.asp_job.specs.declared.entry.Entry.{Entry}
use Rattle.asp_job.specs.declared.entry.Stage.{Stage}
use Rattle.asp_job.specs.declared.entry.Stage.TheVariants.{Ended, Waiting}
use Rattle.asp_job.specs.declared.entry.What.TheVariants.{Admit, Queue, Refuse}
use Rattle.asp_job.specs.declared.job.Job.{Job}
use Rattle.asp_job.specs.declared.job.Work.{Work}
use Rattle.asp_job.specs.declared.job.Work.TheVariants as work
use Rattle.asp_job.specs.declared.session.SessionState.{SessionState}
use Rattle.asp_job.specs.History.{with_lane}
use Rattle.asp_job.specs.Journal.{AreRight, IsRight}
use Rattle.asp_job.specs.Keys.{closes, is_busy, is_closing, is_live, keeps_busy, made}
use Rattle.asp_job.specs.Keys.{session_of}
use Rattle.asp_job.specs.Rules.{Rules}
use Rattle.asp_job.specs.Runs.{drawn, is_open, is_stage_unfinished, is_stage_waiting, is_unfinished, is_waiting, job_of}
use Rattle.asp_job.specs.Runs.{key_of, numbers, stage_of}
use Rattle.asp_job.specs.Turns.{owed}
use Rattle.asp_core.specs.Sessions.{is_session_end}
use Rattle.asp_journal.proofs.Numbers.{filter_more}
use Rattle.asp_journal.proofs.Others.{key_other, stage_other}
use Rattle.asp_session.specs.declared.key.KeyState.{KeyState}
use Rattle.asp_session.specs.declared.key.Waiter.{Waiter}
use Rattle.asp_session.specs.Account.{Account}
use Rattle.asp_session.specs.Steps.{barred, changed, queued}
use Rattle.asp_core.specs.Sessions.{account_of, account_queued, if_keyed, is_running, keys_by, runs_for}
use Rattle.asp_core.specs.Sessions.{state_at, waiter_of, waiters_of, waits_keyed}
use Rattle.asp_core.proofs.Others.{job_other}
use Rattle.asp_core.proofs.Right.{drawn_next}
use Rattle.asp_core.proofs.Rising.{any_more, any_same, changed_map, map_same, or_none}
use Rattle.asp_core.proofs.Rising.{passing_rise}
use Rattle.asp_core.proofs.Owing.{IsOwed, queue_owed}

-- ---- records of which each field is the same

pub same_state : (a b : KeyState) → a.session ≡ b.session → a.asked ≡ b.asked → a.running ≡ b.running
    → a.closing ≡ b.closing → a ≡ b
same_state a b e f g h = λ i. record { session = e i; asked = f i; running = g i; closing = h i }

pub same_account : (a b : Account) → a.seed ≡ b.seed → a.keys ≡ b.keys → a.waiting ≡ b.waiting → a.made ≡ b.made
    → a.opened ≡ b.opened → a ≡ b
same_account a b d e f g h = λ i. record { seed = d i; keys = e i; waiting = f i; made = g i; opened = h i }

-- an entry about a run of no key, and one about a run of a key
pub unkeyed : (key : ℕ) (account changed : Account) → (key == 0) ≡ true → account ≡ if_keyed key account changed
unkeyed key account changed e = rw e refl

pub keyed : (key : ℕ) (account changed : Account) → (key == 0) ≡ false → changed ≡ if_keyed key account changed
keyed key account changed e = rw e refl

-- ---- the keys of two journals

-- the same keys are live, and what is kept of each is the same
pub keys_same : (one other : ℕ → Option SessionState) (past new : List Entry) → made new ≡ made past
    → ((k : ℕ) → 0 < k → k ≤ made past → is_live other new k ≡ is_live one past k)
    → ((k : ℕ) → 0 < k → k ≤ made past → state_at other new k ≡ state_at one past k)
    → keys_by other new ≡ keys_by one past
keys_same one other past new e live state =
    ap (λ n. map (λ k. (k, state_at other new k)) (filter (is_live other new) (numbers n))) e
    ∙ map_same (λ k. (k, state_at other new k)) (λ k. (k, state_at one past k)) (is_live other new) (is_live one past)
    (made past) live (λ k l m lives. ap (λ s. (k, s)) (state k l m))

-- the same keys are live, and what is kept of one of them has changed
pub keys_changed : (f : KeyState → KeyState) (key : ℕ) (one other : ℕ → Option SessionState) (past new : List Entry)
    → made new ≡ made past
    → ((k : ℕ) → 0 < k → k ≤ made past → is_live other new k ≡ is_live one past k)
    → ((k : ℕ) → 0 < k → k ≤ made past
    → state_at other new k ≡ (if key == k then f (state_at one past k) else state_at one past k))
    → keys_by other new ≡ changed f key (keys_by one past)
keys_changed f key one other past new e live state =
    ap (λ n. map (λ k. (k, state_at other new k)) (filter (is_live other new) (numbers n))) e
    ∙ map_same (λ k. (k, state_at other new k))
    (λ k. (k, if key == k then f (state_at one past k) else state_at one past k)) (is_live other new)
    (is_live one past) (made past) live (λ k l m lives. ap (λ s. (k, s)) (state k l m))
    ∙ sym (changed_map f key 0 (state_at one past) (filter (is_live one past) (numbers (made past)))
    (passing_rise (is_live one past) (made past)))

-- ---- an entry that draws a run

-- The next run was drawn: it has this key and this stage, and `last` is whether it is for the end of a session.
pub record IsDraw (past new : List Entry) (key : ℕ) (stage : Stage) (last : Bool) : Type 0 where
  pub count : drawn new ≡ drawn past + 1
  pub keys : (r : ℕ) → r ≤ drawn past → key_of new r ≡ key_of past r
  pub stages : (r : ℕ) → r ≤ drawn past → stage_of new r ≡ stage_of past r
  pub jobs : (r : ℕ) → r ≤ drawn past → job_of new r ≡ job_of past r
  pub own_key : key_of new (drawn past + 1) ≡ key
  pub own_stage : stage_of new (drawn past + 1) ≡ stage
  pub own_last : is_session_end (job_of new (drawn past + 1)).work ≡ last

next_apart : (run n r : ℕ) → run ≡ n + 1 → r ≤ n → (run == r) ≡ false
next_apart run n r e l = grind arith

own_next : (run n : ℕ) → run ≡ n + 1 → (run == (n + 1)) ≡ true
own_next run n e = grind arith

pub queue_draw : (past : List Entry) (lane run : ℕ) (work : Work) (key : ℕ) → run ≡ drawn past + 1
    → IsDraw past (with_lane lane (Queue run work key) ∷ past) key Waiting (is_session_end work)
queue_draw past lane run work key e =
    let what = Queue run work key in
    let own = own_next run (drawn past) e in
    record {
      count = refl;
      keys = λ r l. key_other past lane r what (next_apart run (drawn past) r e l);
      stages = λ r l. stage_other past lane r what (next_apart run (drawn past) r e l);
      jobs = λ r l. job_other past lane r what (next_apart run (drawn past) r e l);
      own_key = rw own refl;
      own_stage = rw own refl;
      own_last = rw own refl;
    }

pub admit_draw : (past : List Entry) (lane run key : ℕ) (fresh : Bool) (job : Job) → run ≡ drawn past + 1
    → IsDraw past (with_lane lane (Admit run key fresh job) ∷ past) key Waiting (is_session_end job.work)
admit_draw past lane run key fresh job e =
    let what = Admit run key fresh job in
    let own = own_next run (drawn past) e in
    record {
      count = refl;
      keys = λ r l. key_other past lane r what (next_apart run (drawn past) r e l);
      stages = λ r l. stage_other past lane r what (next_apart run (drawn past) r e l);
      jobs = λ r l. job_other past lane r what (next_apart run (drawn past) r e l);
      own_key = rw own refl;
      own_stage = rw own refl;
      own_last = rw own refl;
    }

pub refuse_draw : (past : List Entry) (lane run : ℕ) (job : Job) → run ≡ drawn past + 1
    → IsDraw past (with_lane lane (Refuse run job) ∷ past) 0 Ended (is_session_end job.work)
refuse_draw past lane run job e =
    let what = Refuse run job in
    let own = own_next run (drawn past) e in
    record {
      count = refl;
      keys = λ r l. key_other past lane r what (next_apart run (drawn past) r e l);
      stages = λ r l. stage_other past lane r what (next_apart run (drawn past) r e l);
      jobs = λ r l. job_other past lane r what (next_apart run (drawn past) r e l);
      own_key = rw own refl;
      own_stage = rw own refl;
      own_last = rw own refl;
    }

and_false : (b : Bool) → (b && false) ≡ false
and_false true = refl
and_false false = refl

and_true : (b : Bool) → (b && true) ≡ b
and_true true = refl
and_true false = refl

-- a run that is drawn is not unfinished
abbrev IsIdle : Stage → Type 0
IsIdle stage = is_stage_unfinished stage ≡ false

pub draw_running : (past new : List Entry) (key : ℕ) (stage : Stage) (last : Bool) → IsDraw past new key stage last
    → IsIdle stage → (k : ℕ) → is_running new k ≡ is_running past k
draw_running past new key stage last is idle k =
    ap (λ n. list_any (runs_for new k) (numbers n)) is.count ∙ any_more (runs_for new k) (drawn past)
    ∙ ap (λ b. b || runs_for new k (drawn past + 1))
    (any_same (runs_for new k) (runs_for past k) (drawn past) (λ r l m.
    ap (λ j. j == k && is_unfinished new r) (is.keys r m)
    ∙ ap (λ s. key_of past r == k && is_stage_unfinished s) (is.stages r m)))
    ∙ ap (λ s. is_running past k || (key_of new (drawn past + 1) == k && is_stage_unfinished s)) is.own_stage
    ∙ ap (λ b. is_running past k || (key_of new (drawn past + 1) == k && b)) idle
    ∙ ap (λ b. is_running past k || b) (and_false (key_of new (drawn past + 1) == k))
    ∙ or_none (is_running past k)

abbrev open_at : Stage → Bool
open_at stage = is_stage_waiting stage || is_stage_unfinished stage

pub draw_busy : (past new : List Entry) (key : ℕ) (stage : Stage) (last : Bool) → IsDraw past new key stage last
    → (k : ℕ) → is_busy new k ≡ (is_busy past k || (key == k && open_at stage))
draw_busy past new key stage last is k =
    ap (λ n. list_any (keeps_busy new k) (numbers n)) is.count ∙ any_more (keeps_busy new k) (drawn past)
    ∙ ap (λ b. b || keeps_busy new k (drawn past + 1))
    (any_same (keeps_busy new k) (keeps_busy past k) (drawn past) (λ r l m.
    ap (λ j. j == k && is_open new r) (is.keys r m)
    ∙ ap (λ s. key_of past r == k && open_at s) (is.stages r m)))
    ∙ ap (λ s. is_busy past k || (key_of new (drawn past + 1) == k && open_at s)) is.own_stage
    ∙ ap (λ j. is_busy past k || (j == k && open_at stage)) is.own_key

waits_at : Stage → ℕ → Bool
waits_at stage key = is_stage_waiting stage && not (key == 0)

same_waiter : (a b : Waiter) → a.key ≡ b.key → a.run ≡ b.run → a.last ≡ b.last → a ≡ b
same_waiter a b e f g = λ i. record { key = e i; run = f i; last = g i }

waiters_front : (past new : List Entry) (key : ℕ) (stage : Stage) (last : Bool) → IsDraw past new key stage last
    → map (waiter_of new) (filter (waits_keyed new) (numbers (drawn past))) ≡ waiters_of past
waiters_front past new key stage last is =
    map_same (waiter_of new) (waiter_of past) (waits_keyed new) (waits_keyed past) (drawn past)
    (λ r l m. ap (λ s. is_stage_waiting s && not (key_of new r == 0)) (is.stages r m)
    ∙ ap (λ j. is_waiting past r && not (j == 0)) (is.keys r m))
    (λ r l m waits. same_waiter (waiter_of new r) (waiter_of past r) (is.keys r m) refl
    (ap (λ (j : Job). is_session_end j.work) (is.jobs r m)))

waiters_drawn : (past new : List Entry) (key : ℕ) (stage : Stage) (last : Bool) → IsDraw past new key stage last
    → waiters_of new ≡ waiters_of past
    ++ map (waiter_of new) (if waits_keyed new (drawn past + 1) then (drawn past + 1) ∷ [] else [])
waiters_drawn past new key stage last is =
    ap (λ n. map (waiter_of new) (filter (waits_keyed new) (numbers n))) is.count
    ∙ ap (map (waiter_of new)) (filter_more (waits_keyed new) (drawn past))
    ∙ map-append (waiter_of new) (filter (waits_keyed new) (numbers (drawn past)))
    (if waits_keyed new (drawn past + 1) then (drawn past + 1) ∷ [] else [])
    ∙ ap (λ ws. ws ++ map (waiter_of new) (if waits_keyed new (drawn past + 1) then (drawn past + 1) ∷ [] else []))
    (waiters_front past new key stage last is)

-- the next run waits for its key
pub waiters_more : (past new : List Entry) (key run : ℕ) (last : Bool) → IsDraw past new key Waiting last
    → (key == 0) ≡ false → run ≡ drawn past + 1
    → waiters_of new ≡ waiters_of past ++ record { key = key; run = run; last = last } ∷ []
waiters_more past new key run last is keyed next =
    let waits : waits_keyed new (drawn past + 1) ≡ true =
    ap (λ s. is_stage_waiting s && not (key_of new (drawn past + 1) == 0)) is.own_stage
    ∙ ap (λ j. not (j == 0)) is.own_key ∙ ap not keyed in
    let one : waiter_of new (drawn past + 1) ≡ record { key = key; run = run; last = last } =
    same_waiter (waiter_of new (drawn past + 1)) (record { key = key; run = run; last = last }) is.own_key (sym next)
    is.own_last in
    waiters_drawn past new key Waiting last is
    ∙ ap (λ b. waiters_of past ++ map (waiter_of new) (if b then (drawn past + 1) ∷ [] else [])) waits
    ∙ ap (λ w. waiters_of past ++ w ∷ []) one

-- a run of no key, or one that was refused, waits for none
pub waiters_same : (past new : List Entry) (key : ℕ) (stage : Stage) (last : Bool) → IsDraw past new key stage last
    → (is_stage_waiting stage && not (key == 0)) ≡ false → waiters_of new ≡ waiters_of past
waiters_same past new key stage last is none =
    let waits : waits_keyed new (drawn past + 1) ≡ false =
    ap (λ s. is_stage_waiting s && not (key_of new (drawn past + 1) == 0)) is.own_stage
    ∙ ap (λ j. is_stage_waiting stage && not (j == 0)) is.own_key ∙ none in
    waiters_drawn past new key stage last is
    ∙ ap (λ b. waiters_of past ++ map (waiter_of new) (if b then (drawn past + 1) ∷ [] else [])) waits
    ∙ append-nil (waiters_of past)

-- ---- a run is queued

closes_own : (work : Work) (run key k : ℕ) (closing : Bool) → (key == k) ≡ true
    → (closes k (Queue run work key) || closing) ≡ (closing || is_session_end work)
closes_own work.SessionEnd run key k true e = rw e refl
closes_own work.SessionEnd run key k false e = rw e refl
closes_own work.Start run key k closing e = sym (or_none closing)
closes_own work.Stop run key k closing e = sym (or_none closing)
closes_own (work.Page request) run key k closing e = sym (or_none closing)

closes_other : (work : Work) (run key k : ℕ) (closing : Bool) → (key == k) ≡ false
    → (closes k (Queue run work key) || closing) ≡ closing
closes_other work.SessionEnd run key k closing e = rw e refl
closes_other work.Start run key k closing e = refl
closes_other work.Stop run key k closing e = refl
closes_other (work.Page request) run key k closing e = refl

live_or : (s b : Bool) → (s || b) ≡ true → (s || (b || true)) ≡ (s || b)
live_or true b e = refl
live_or false true e = refl
live_or false false e = absurd cc

-- a run of a live key that is drawn leaves the same keys live
pub live_drawn : (sessions : ℕ → Option SessionState) (past new : List Entry) (key : ℕ) (last : Bool)
    → IsDraw past new key Waiting last → is_live sessions past key ≡ true → (k : ℕ)
    → is_live sessions new k ≡ is_live sessions past k
live_drawn sessions past new key last is lives k = elim (cases_Bool (key == k)) [
  | inl same ↦ (let here : key ≡ k = eqb-true key k same in
      let now : is_live sessions past k ≡ true = ap (is_live sessions past) (sym here) ∙ lives in
      ap (λ b. is_some (sessions k) || b) (draw_busy past new key Waiting last is k)
      ∙ ap (λ b. is_some (sessions k) || (is_busy past k || (b && true))) same
      ∙ live_or (is_some (sessions k)) (is_busy past k) now)
  | inr other ↦ ap (λ b. is_some (sessions k) || b) (draw_busy past new key Waiting last is k
      ∙ ap (λ b. is_busy past k || (b && true)) other ∙ or_none (is_busy past k))
]

-- so does a run of no key
pub live_undrawn : (sessions : ℕ → Option SessionState) (past new : List Entry) (key : ℕ) (stage : Stage) (last : Bool)
    → IsDraw past new key stage last → (k : ℕ) → (key == k) ≡ false
    → is_live sessions new k ≡ is_live sessions past k
live_undrawn sessions past new key stage last is k other =
    ap (λ b. is_some (sessions k) || b) (draw_busy past new key stage last is k
    ∙ ap (λ b. is_busy past k || (b && open_at stage)) other ∙ or_none (is_busy past k))

zero_other : (key k : ℕ) → (key == 0) ≡ true → 0 < k → (key == k) ≡ false
zero_other key k e l = grind arith

some_keyed : (key : ℕ) → 0 < key → (key == 0) ≡ false
some_keyed key l = grind arith

-- of no key
queue_unkeyed : (m : Rules) (seed : List ℕ) (past : List Entry) (lane run : ℕ) (work : Work) (key : ℕ)
    → run ≡ drawn past + 1 → (key == 0) ≡ true
    → account_of m seed (with_lane lane (Queue run work key) ∷ past) ≡ account_of m seed past
queue_unkeyed m seed past lane run work key next none =
    let new = with_lane lane (Queue run work key) ∷ past in
    let is = queue_draw past lane run work key next in
    let waits_not : not (key == 0) ≡ false = ap not none in
    same_account (account_of m seed new) (account_of m seed past) refl
    (keys_same (session_of m past) (session_of m past) past new refl
    (λ k l h. live_undrawn (session_of m past) past new key Waiting (is_session_end work) is k
    (zero_other key k none l))
    (λ k l h. same_state (state_at (session_of m past) new k) (state_at (session_of m past) past k) refl refl
    (draw_running past new key Waiting (is_session_end work) is refl k)
    (closes_other work run key k (is_closing past k) (zero_other key k none l))))
    (waiters_same past new key Waiting (is_session_end work) is waits_not) refl refl

-- of a live key
queue_keyed : (m : Rules) (seed : List ℕ) (past : List Entry) (lane run : ℕ) (work : Work) (key : ℕ)
    → run ≡ drawn past + 1 → (key == 0) ≡ false → is_live (session_of m past) past key ≡ true
    → account_of m seed (with_lane lane (Queue run work key) ∷ past)
    ≡ queued key run (is_session_end work) (account_of m seed past)
queue_keyed m seed past lane run work key next keyed lives =
    let new = with_lane lane (Queue run work key) ∷ past in
    let last = is_session_end work in
    let s = session_of m past in
    let is = queue_draw past lane run work key next in
    same_account (account_of m seed new) (queued key run last (account_of m seed past)) refl
    (keys_changed (barred last) key s s past new refl (λ k l h. live_drawn s past new key last is lives k)
    (λ k l h. elim (cases_Bool (key == k)) [
      | inl same ↦ rw same (same_state (state_at s new k) (barred last (state_at s past k)) refl refl
          (draw_running past new key Waiting last is refl k) (closes_own work run key k (is_closing past k) same))
      | inr other ↦ rw other (same_state (state_at s new k) (state_at s past k) refl refl
          (draw_running past new key Waiting last is refl k) (closes_other work run key k (is_closing past k) other))
    ]))
    (waiters_more past new key run last is keyed next) refl refl

queue_either : (m : Rules) (seed : List ℕ) (past : List Entry) (lane run : ℕ) (work : Work) (key : ℕ)
    → run ≡ drawn past + 1 → IsOwed m past work key
    → account_of m seed (with_lane lane (Queue run work key) ∷ past)
    ≡ account_queued (Queue run work key) (account_of m seed past)
queue_either m seed past lane run work.SessionEnd key next is =
    let keyed = some_keyed key is.low in
    rw keyed (queue_keyed m seed past lane run work.SessionEnd key next keyed is.lives)
queue_either m seed past lane run work.Start key next is =
    let none : (key == 0) ≡ true = eq-eqb key 0 is in
    rw none (queue_unkeyed m seed past lane run work.Start key next none)
queue_either m seed past lane run work.Stop key next is =
    let none : (key == 0) ≡ true = eq-eqb key 0 is in
    rw none (queue_unkeyed m seed past lane run work.Stop key next none)
queue_either m seed past lane run (work.Page request) key next is =
    let none : (key == 0) ≡ true = eq-eqb key 0 is in
    rw none (queue_unkeyed m seed past lane run (work.Page request) key next none)

pub queue_step : (m : Rules) (seed : List ℕ) (past : List Entry) (lane run : ℕ) (work : Work) (key : ℕ)
    → AreRight m past → IsRight m past (with_lane lane (Queue run work key))
    → account_of m seed (with_lane lane (Queue run work key) ∷ past)
    ≡ account_queued (Queue run work key) (account_of m seed past)
queue_step m seed past lane run work key all right =
    queue_either m seed past lane run work key
    (drawn_next m past lane (Queue run work key) (owed m past) right.turn refl)
    (queue_owed m past lane run work key all right)

-- a job that is refused leaves the account
pub refuse_step : (m : Rules) (seed : List ℕ) (past : List Entry) (lane run : ℕ) (job : Job)
    → IsRight m past (with_lane lane (Refuse run job))
    → account_of m seed (with_lane lane (Refuse run job) ∷ past) ≡ account_of m seed past
refuse_step m seed past lane run job right =
    let new = with_lane lane (Refuse run job) ∷ past in
    let last = is_session_end job.work in
    let s = session_of m past in
    let next = drawn_next m past lane (Refuse run job) (owed m past) right.turn refl in
    let is = refuse_draw past lane run job next in
    same_account (account_of m seed new) (account_of m seed past) refl
    (keys_same s s past new refl
    (λ k l h. live_undrawn s past new 0 Ended last is k (zero_other 0 k refl l))
    (λ k l h. same_state (state_at s new k) (state_at s past k) refl refl
    (draw_running past new 0 Ended last is refl k) refl))
    (waiters_same past new 0 Ended last is refl) refl refl
