-- What the end of a run, and each entry of a right journal, makes of the account of the session keys.
use Rattle.std.proofs.Common.{◌≡◌, ℕ, ◌<◌, ◌≤◌, ◌==◌, ◌&&◌, ◌||◌, ◌⊎◌, Bool, true, false, not, if◌then◌else◌}
use Rattle.std.proofs.Common.{nat_eq, List, ◌∷◌, map, is_some, Option, Some, None, unwrap_or, refl, ap, sym}
use Rattle.std.proofs.Common.{◌∙◌, arith, inl, inr}
use Rattle.std.proofs.Math.Path.{fun_ext}
use Rattle.std.specs.Map.{remove_entry}
use Rattle.std.specs.Option.{option_map_or}
use Rattle.std.proofs.lemmas.Bool.{cases_Bool, cases_lt, eqb-true, eq-eqb}
use Rattle.asp_job.specs.declared.entry.EndKind.{EndKind}
use Rattle.asp_job.specs.declared.entry.EndKind.TheVariants as kind
use Rattle.asp_job.specs.declared.entry.Entry.{Entry}
use Rattle.asp_job.specs.declared.entry.Stage.{Stage}
use Rattle.asp_job.specs.declared.entry.Stage.TheVariants.{Ended, Unfinished}
use Rattle.asp_job.specs.declared.entry.What.{What}
use Rattle.asp_job.specs.declared.entry.What.TheVariants.{Admit, App, Begin, End, Halt, Queue, Refuse, Stop, Take, Tick}
use Rattle.asp_job.specs.declared.session.SessionState.{SessionState}
use Rattle.asp_job.specs.History.{with_lane}
use Rattle.asp_job.specs.Journal.{AreRight, IsRight}
use Rattle.asp_job.specs.Keys.{is_busy, is_live, keeps_busy, live, made, session_of}
use Rattle.asp_job.specs.Rules.{Rules}
use Rattle.asp_job.specs.Runs.{drawn, is_stage_unfinished, is_stage_waiting, is_unfinished, is_waiting, key_of, numbers}
use Rattle.asp_job.specs.Runs.{stage_of}
use Rattle.asp_job.specs.Turns.{owed}
use Rattle.asp_journal.proofs.Others.{own_number, stage_other}
use Rattle.asp_session.specs.declared.after.After.{After}
use Rattle.asp_session.specs.declared.key.KeyState.{KeyState}
use Rattle.asp_session.specs.Account.{Account, waits}
use Rattle.asp_session.specs.Reading.{session_in}
use Rattle.asp_session.specs.Steps.{after_end, finished, forgotten, left_by}
use Rattle.asp_core.specs.Sessions.{Tells, account_after, account_ended, account_of}
use Rattle.asp_core.specs.Sessions.{is_running, keys_by, left_after, runs_for, sessions_in, state_at, waiter_of}
use Rattle.asp_core.specs.Sessions.{waiters_of, waits_keyed}
use Rattle.asp_core.proofs.Accounts.{IsBeyond, busy_either, is_waited, session_beyond, session_here}
use Rattle.asp_core.proofs.Accounts.{waits_are, waits_for}
use Rattle.asp_core.proofs.Made.{keys_made}
use Rattle.asp_core.proofs.Right.{end_running, is_drawn, numbered, unfinished_is}
use Rattle.asp_core.proofs.Rising.{among, any_found, any_none, any_same, changed_map, filter_twice, lookup_map, map_same}
use Rattle.asp_core.proofs.Rising.{passing_rise, removed_map}
use Rattle.asp_core.proofs.Steadying.{no_session_beyond, one_unfinished}
use Rattle.asp_core.proofs.Stepping.{admit_step, begin_step}
use Rattle.asp_core.proofs.Steps.{keyed, keys_same, queue_step, refuse_step, same_account, same_state, unkeyed}

-- ---- a run ends

own_is : (given before : Stage) (run r : ℕ) → (run == r) ≡ true
    → unwrap_or (if run == r then Some given else None) before ≡ given
own_is given before run r e = rw e refl

-- what the session of a key is then
session_if : (own zero_key : Bool) (one other : Option SessionState) → zero_key ≡ false
    → (if own && not zero_key then one else other) ≡ (if own then one else other)
session_if true zero_key one other e = rw e refl
session_if false zero_key one other e = refl

same_if : (own : Bool) (x : Option SessionState) → x ≡ (if own then x else x)
same_if true x = refl
same_if false x = refl

session_ended : (m : Rules) (past : List Entry) (lane run : ℕ) (how : EndKind) (status size n1 n2 k : ℕ) → 0 < k
    → session_of m (with_lane lane (End run how status size n1 n2) ∷ past) k
    ≡ (if key_of past run == k then left_by (left_after m past run how) (session_of m past k) else session_of m past k)
session_ended m past lane run kind.Done status size n1 n2 k l =
    let some : (k == 0) ≡ false = grind arith in
    session_if (key_of past run == k) (k == 0) _ (session_of m past k) some
session_ended m past lane run kind.Memory status size n1 n2 k l = same_if (key_of past run == k) (session_of m past k)
session_ended m past lane run kind.JournalFull status size n1 n2 k l =
    same_if (key_of past run == k) (session_of m past k)

module _ (m : Rules) (past : List Entry) (lane run : ℕ) (how : EndKind) (status size n1 n2 : ℕ)
    (all : AreRight m past) (right : IsRight m past (with_lane lane (End run how status size n1 n2))) where
  abbrev what : What
  what = End run how status size n1 n2

  abbrev new : List Entry
  new = with_lane lane what ∷ past

  -- it was unfinished
  was_unfinished : (r : ℕ) → (run == r) ≡ true → stage_of past r ≡ Unfinished
  was_unfinished r e =
      let running = end_running m past lane run how status size n1 n2 (owed m past) right.turn in
      ap (stage_of past) (sym (eqb-true run r e)) ∙ unfinished_is (stage_of past run) running.unfinished

  waiting_same : (r : ℕ) → is_waiting new r ≡ is_waiting past r
  waiting_same r = elim (cases_Bool (run == r)) [
    | inl own ↦ ap is_stage_waiting (own_is Ended (stage_of past r) run r own)
        ∙ sym (ap is_stage_waiting (was_unfinished r own))
    | inr other ↦ ap is_stage_waiting (stage_other past lane r what other)
  ]

  waited_same : (k : ℕ) → is_waited new k ≡ is_waited past k
  waited_same k = any_same (waits_for new k) (waits_for past k) (drawn past)
      (λ r l h. ap (λ b. key_of past r == k && b) (waiting_same r))

  -- no other run of its key is unfinished
  own_idle : (k : ℕ) → 0 < k → (key_of past run == k) ≡ true → is_running new k ≡ false
  own_idle k low e = any_none (runs_for new k) (drawn past) (λ r l h. elim (cases_Bool (run == r)) [
    | inl own ↦ ap (λ s. key_of past r == k && is_stage_unfinished s) (own_is Ended (stage_of past r) run r own)
        ∙ none (key_of past r == k)
    | inr other ↦ ap (λ s. key_of past r == k && is_stage_unfinished s) (stage_other past lane r what other)
        ∙ apart r other (cases_Bool (key_of past r == k)) (cases_Bool (is_unfinished past r))
  ])
    where
      none : (b : Bool) → (b && false) ≡ false
      none true = refl
      none false = refl

      apart : (r : ℕ) → (run == r) ≡ false → ((key_of past r == k) ≡ true) ⊎ ((key_of past r == k) ≡ false)
          → (is_unfinished past r ≡ true) ⊎ (is_unfinished past r ≡ false)
          → (key_of past r == k && is_unfinished past r) ≡ false
      apart r other (inr not_mine) unfinished = ap (λ b. b && is_unfinished past r) not_mine
      apart r other (inl mine) (inr idle) = ap (λ b. key_of past r == k && b) idle ∙ none (key_of past r == k)
      apart r other (inl mine) (inl open_) =
          let of_run : key_of past run ≡ k = eqb-true (key_of past run) k e in
          let of_r : key_of past r ≡ k = eqb-true (key_of past r) k mine in
          let keyed_run : 0 < key_of past run = omega arith in
          let same : run ≡ r = one_unfinished m past all run r
          (ap is_stage_unfinished (was_unfinished run (own_number run))) open_ (of_run ∙ sym of_r) keyed_run in
          absurd (let both : true ≡ false = sym (eq-eqb run r same) ∙ other in cc)

  other_runs : (k : ℕ) → (key_of past run == k) ≡ false → is_running new k ≡ is_running past k
  other_runs k e = any_same (runs_for new k) (runs_for past k) (drawn past) (λ r l h. elim (cases_Bool (run == r)) [
    | inl own ↦ (let no : (key_of past r == k) ≡ false =
        ap (λ r. key_of past r == k) (sym (eqb-true run r own)) ∙ e in
        ap (λ b. b && is_unfinished new r) no ∙ sym (ap (λ b. b && is_unfinished past r) no))
    | inr other ↦ ap (λ s. key_of past r == k && is_stage_unfinished s) (stage_other past lane r what other)
  ])

  other_busy : (k : ℕ) → (key_of past run == k) ≡ false → is_busy new k ≡ is_busy past k
  other_busy k e = busy_either new k ∙ ap (λ b. b || is_waited new k) (other_runs k e)
      ∙ ap (λ b. is_running past k || b) (waited_same k) ∙ sym (busy_either past k)

  waiters_stay : waiters_of new ≡ waiters_of past
  waiters_stay = map_same (waiter_of new) (waiter_of past) (waits_keyed new) (waits_keyed past) (drawn past)
      (λ r l h. ap (λ b. b && not (key_of past r == 0)) (waiting_same r)) (λ r l h waits. refl)

  other_session : (k : ℕ) → 0 < k → (key_of past run == k) ≡ false → session_of m new k ≡ session_of m past k
  other_session k low e = session_ended m past lane run how status size n1 n2 k low
      ∙ ap (λ b. if b then left_by (left_after m past run how) (session_of m past k) else session_of m past k) e

  own_session : (k : ℕ) → 0 < k → (key_of past run == k) ≡ true
      → session_of m new k ≡ left_by (left_after m past run how) (session_of m past k)
  own_session k low e = session_ended m past lane run how status size n1 n2 k low
      ∙ ap (λ b. if b then left_by (left_after m past run how) (session_of m past k) else session_of m past k) e

  other_live : (k : ℕ) → 0 < k → (key_of past run == k) ≡ false
      → is_live (session_of m new) new k ≡ is_live (session_of m past) past k
  other_live k low e = ap (λ (s : Option SessionState). is_some s || is_busy new k) (other_session k low e)
      ∙ ap (λ b. is_some (session_of m past k) || b) (other_busy k e)

  other_state : (k : ℕ) → 0 < k → (key_of past run == k) ≡ false
      → state_at (session_of m new) new k ≡ state_at (session_of m past) past k
  other_state k low e = same_state (state_at (session_of m new) new k) (state_at (session_of m past) past k)
      (other_session k low e) refl (other_runs k e) refl

  own_state : (k : ℕ) → 0 < k → (key_of past run == k) ≡ true
      → state_at (session_of m new) new k
      ≡ finished (left_after m past run how) (state_at (session_of m past) past k)
  own_state k low e = same_state (state_at (session_of m new) new k)
      (finished (left_after m past run how) (state_at (session_of m past) past k)) (own_session k low e) refl
      (own_idle k low e) refl

  -- the account where the run has no key
  end_unkeyed : (seed : List ℕ) → (key_of past run == 0) ≡ true → account_of m seed new ≡ account_of m seed past
  end_unkeyed seed none = same_account (account_of m seed new) (account_of m seed past) refl
      (keys_same (session_of m past) (session_of m new) past new refl
      (λ k l h. other_live k l (zero_other (key_of past run) k none l))
      (λ k l h. other_state k l (zero_other (key_of past run) k none l)))
      waiters_stay refl refl
    where
      zero_other : (key k : ℕ) → (key == 0) ≡ true → 0 < k → (key == k) ≡ false
      zero_other key k e l = grind arith

  -- ---- and where it has one

  abbrev key : ℕ
  key = key_of past run

  abbrev after : After
  after = left_after m past run how

  abbrev then_state : ℕ → KeyState
  then_state k = if key == k then finished after (state_at (session_of m past) past k)
      else state_at (session_of m past) past k

  abbrev then_keys : List (ℕ × KeyState)
  then_keys = map (λ k. (k, then_state k)) (live (session_of m past) past)

  own_key : (key == key) ≡ true
  own_key = own_number key

  was_busy : is_busy past key ≡ true
  was_busy =
      let stage = was_unfinished run (own_number run) in
      let known = numbered m past all run (ap is_drawn stage) in
      any_found (keeps_busy past key) (drawn past) run known.0 known.1
      (ap (λ s. key == key && (is_stage_waiting s || is_stage_unfinished s)) stage ∙ ap (λ b. b && true) own_key)

  was_live : is_live (session_of m past) past key ≡ true
  was_live = or_right (is_some (session_of m past key)) (is_busy past key) was_busy
    where
      or_right : (a b : Bool) → b ≡ true → (a || b) ≡ true
      or_right true b e = refl
      or_right false b e = e

  -- the states of all live keys of before
  states_are : (k : ℕ) → 0 < k → state_at (session_of m new) new k ≡ then_state k
  states_are k low = by (cases_Bool (key == k))
    where
      by : ((key == k) ≡ true) ⊎ ((key == k) ≡ false) → state_at (session_of m new) new k ≡ then_state k
      by (inl same) = own_state k low same ∙ sym (ap (λ b. if b then finished after (state_at (session_of m past) past k)
          else state_at (session_of m past) past k) same)
      by (inr other) = other_state k low other
          ∙ sym (ap (λ b. if b then finished after (state_at (session_of m past) past k)
          else state_at (session_of m past) past k) other)

  session_then : 0 < key → key ≤ made past → session_in key then_keys ≡ session_of m new key
  session_then low high =
      ap (λ (found : Option KeyState). option_map_or (λ (state : KeyState). state.session) found None)
      (lookup_map key then_state (live (session_of m past) past)
      ∙ ap (λ b. if b then Some (then_state key) else None)
      (among (is_live (session_of m past) past) (made past) key low high was_live))
      ∙ ap (λ (state : KeyState). state.session) (sym (states_are key low))

  live_then : 0 < key → (is_some (session_of m new key) || waits key (waiters_of past))
      ≡ is_live (session_of m new) new key
  live_then low = ap (λ b. is_some (session_of m new key) || b)
      (waits_are past key low ∙ sym (waited_same key)
      ∙ sym (busy_either new key ∙ ap (λ b. b || is_waited new key) (own_idle key low own_key)))

  keys_stay : 0 < key → is_live (session_of m new) new key ≡ true → keys_by (session_of m new) new ≡ then_keys
  keys_stay low lives = map_same (λ k. (k, state_at (session_of m new) new k)) (λ k. (k, then_state k))
      (is_live (session_of m new) new) (is_live (session_of m past) past) (made past)
      (λ k l h. by k l (cases_Bool (key == k))) (λ k l h is. ap (λ (state : KeyState). (k, state)) (states_are k l))
    where
      by : (k : ℕ) → 0 < k → ((key == k) ≡ true) ⊎ ((key == k) ≡ false)
          → is_live (session_of m new) new k ≡ is_live (session_of m past) past k
      by k l (inl same) =
          let is : key ≡ k = eqb-true key k same in
          ap (is_live (session_of m new) new) (sym is) ∙ lives
          ∙ sym (ap (is_live (session_of m past) past) (sym is) ∙ was_live)
      by k l (inr other) = other_live k l other

  keys_less : 0 < key → is_live (session_of m new) new key ≡ false
      → keys_by (session_of m new) new ≡ remove_entry (nat_eq key) then_keys
  keys_less low dies =
      map_same (λ k. (k, state_at (session_of m new) new k)) (λ k. (k, then_state k))
      (is_live (session_of m new) new) (λ k. is_live (session_of m past) past k && not (key == k)) (made past)
      (λ k l h. by k l (cases_Bool (key == k))) (λ k l h is. ap (λ (state : KeyState). (k, state)) (states_are k l))
      ∙ ap (map (λ k. (k, then_state k)))
      (sym (filter_twice (is_live (session_of m past) past) (λ x. not (key == x)) (numbers (made past))))
      ∙ sym (removed_map key 0 then_state (live (session_of m past) past)
      (passing_rise (is_live (session_of m past) past) (made past)))
    where
      none : (b : Bool) → false ≡ (b && false)
      none true = refl
      none false = refl

      one : (b : Bool) → b ≡ (b && true)
      one true = refl
      one false = refl

      by : (k : ℕ) → 0 < k → ((key == k) ≡ true) ⊎ ((key == k) ≡ false)
          → is_live (session_of m new) new k ≡ (is_live (session_of m past) past k && not (key == k))
      by k l (inl same) =
          let is : key ≡ k = eqb-true key k same in
          ap (is_live (session_of m new) new) (sym is) ∙ dies ∙ none (is_live (session_of m past) past k)
          ∙ ap (λ b. is_live (session_of m past) past k && not b) (sym same)
      by k l (inr other) = other_live k l other ∙ one (is_live (session_of m past) past k)
          ∙ ap (λ b. is_live (session_of m past) past k && not b) (sym other)

  keys_forgotten : 0 < key → keys_by (session_of m new) new
      ≡ (if is_live (session_of m new) new key then then_keys else remove_entry (nat_eq key) then_keys)
  keys_forgotten low = by (cases_Bool (is_live (session_of m new) new key))
    where
      by : (is_live (session_of m new) new key ≡ true) ⊎ (is_live (session_of m new) new key ≡ false)
          → keys_by (session_of m new) new
          ≡ (if is_live (session_of m new) new key then then_keys else remove_entry (nat_eq key) then_keys)
      by (inl lives) = keys_stay low lives
          ∙ sym (ap (λ b. if b then then_keys else remove_entry (nat_eq key) then_keys) lives)
      by (inr dies) = keys_less low dies
          ∙ sym (ap (λ b. if b then then_keys else remove_entry (nat_eq key) then_keys) dies)

  end_keyed : (seed : List ℕ) → (key == 0) ≡ false
      → account_of m seed new ≡ after_end key after (account_of m seed past)
  end_keyed seed some =
      let low : 0 < key = grind arith in
      let high : key ≤ made past = keys_made m past all run in
      same_account (account_of m seed new) (after_end key after (account_of m seed past)) refl
      (keys_forgotten low
      ∙ ap (λ b. if b then then_keys else remove_entry (nat_eq key) then_keys)
      (sym (live_then low) ∙ ap (λ (s : Option SessionState). is_some s || waits key (waiters_of past))
      (sym (session_then low high)))
      ∙ ap (forgotten key (waiters_of past)) (sym (changed_map (finished after) key 0
      (state_at (session_of m past) past) (live (session_of m past) past)
      (passing_rise (is_live (session_of m past) past) (made past)))))
      waiters_stay refl refl

  pub end_step : (seed : List ℕ) → account_of m seed new ≡ account_ended key after (account_of m seed past)
  end_step seed = by (cases_Bool (key == 0))
    where
      by : ((key == 0) ≡ true) ⊎ ((key == 0) ≡ false)
          → account_of m seed new ≡ account_ended key after (account_of m seed past)
      by (inl none) = end_unkeyed seed none
          ∙ unkeyed key (account_of m seed past) (after_end key after (account_of m seed past)) none
      by (inr some) = end_keyed seed some
          ∙ keyed key (account_of m seed past) (after_end key after (account_of m seed past)) some

-- ---- each entry

pub account_step : (m : Rules) (seed : List ℕ) (past : List Entry) (lane : ℕ) (what : What) → AreRight m past
    → IsRight m past (with_lane lane what)
    → account_of m seed (with_lane lane what ∷ past) ≡ account_after m past what (account_of m seed past)
account_step m seed past lane (Queue run work key) all right = queue_step m seed past lane run work key all right
account_step m seed past lane (Admit run key fresh job) all right =
    admit_step m seed past lane run key fresh job all right
account_step m seed past lane (Refuse run job) all right = refuse_step m seed past lane run job right
account_step m seed past lane (Tick moment) all right = refl
account_step m seed past lane (Begin run serial) all right = begin_step m seed past lane run serial all right
account_step m seed past lane (App run call reply) all right = refl
account_step m seed past lane (End run how status size n1 n2) all right =
    end_step m past lane run how status size n1 n2 all right seed
account_step m seed past lane (Take run) all right = refl
account_step m seed past lane Stop all right = refl
account_step m seed past lane Halt all right = refl

-- ---- what an account tells that is read off a right journal

pub sessions_are : (m : Rules) (seed : List ℕ) (past : List Entry) → AreRight m past
    → sessions_in (account_of m seed past) ≡ session_of m past
sessions_are m seed past right = fun_ext (λ k. by k (cases_Bool (k == 0)) (cases_lt (made past) k))
  where
    by : (k : ℕ) → ((k == 0) ≡ true) ⊎ ((k == 0) ≡ false) → (made past < k) ⊎ (k ≤ made past)
        → sessions_in (account_of m seed past) k ≡ session_of m past k
    by k (inl none) large =
        let beyond : IsBeyond (made past) k = inl (eqb-true k 0 none) in
        session_beyond (session_of m past) past k beyond ∙ sym (no_session_beyond m past right k beyond)
    by k (inr some) (inl large) =
        let beyond : IsBeyond (made past) k = inr large in
        session_beyond (session_of m past) past k beyond ∙ sym (no_session_beyond m past right k beyond)
    by k (inr some) (inr small) =
        let low : 0 < k = grind arith in
        session_here (session_of m past) past k low small

pub it_tells : (m : Rules) (past : List Entry) (account : Account) → AreRight m past
    → account ≡ account_of m account.seed past
    → Tells account past × (sessions_in account ≡ session_of m past)
it_tells m past account right is =
    let of : sessions_in account ≡ session_of m past =
    ap sessions_in is ∙ sessions_are m account.seed past right in (
      record {
        keys_are = ap (λ (a : Account). a.keys) is ∙ ap (λ (s : ℕ → Option SessionState). keys_by s past) (sym of);
        waiting_are = ap (λ (a : Account). a.waiting) is;
        made_is = ap (λ (a : Account). a.made) is;
      },
      of,
    )
