-- What each entry of a right journal makes of the account of the session keys.
use Rattle.std.proofs.Common.{◌≡◌, ℕ, ◌+◌, ◌<◌, ◌≤◌, ◌==◌, ◌&&◌, ◌||◌, Bool, true, false, not, if◌then◌else◌}
use Rattle.std.proofs.Common.{nat_lt, List, [], ◌∷◌, ◌++◌, filter, map, is_some, Option, Some, None, unwrap_or}
use Rattle.std.proofs.Common.{refl, ap, sym, ◌∙◌, subst, arith, inl, inr}
use Rattle.std.proofs.lemmas.Bool.{cases_Bool, eqb-true, eq-eqb, lt-ltb}
use Rattle.std.proofs.lemmas.List.{map-append}
use Rattle.asp_job.specs.declared.entry.Entry.{Entry}
use Rattle.asp_job.specs.declared.entry.Stage.{Stage}
use Rattle.asp_job.specs.declared.entry.Stage.TheVariants.{Unfinished, Waiting}
use Rattle.asp_job.specs.declared.entry.What.TheVariants.{Admit, Begin}
use Rattle.asp_job.specs.declared.job.Job.{Job}
use Rattle.asp_job.specs.declared.job.Work.{Work}
use Rattle.asp_job.specs.declared.job.Work.TheVariants as work
use Rattle.asp_job.specs.declared.session.SessionState.{SessionState}
use Rattle.asp_job.specs.History.{with_lane}
use Rattle.asp_job.specs.Journal.{AreRight, IsRight}
use Rattle.asp_job.specs.Keys.{is_askable, is_busy, is_live, keeps_busy, made, opened, opens, session_of}
use Rattle.asp_job.specs.Rules.{Rules}
use Rattle.asp_job.specs.Running.{is_page}
use Rattle.asp_job.specs.Runs.{draw_of, drawn, is_stage_unfinished, is_stage_waiting, is_unfinished, is_waiting}
use Rattle.asp_job.specs.Runs.{job_of, key_of, numbers, stage_of}
use Rattle.asp_job.specs.Turns.{goes_before, is_behind, key_asked_by, owed}
use Rattle.asp_core.specs.Sessions.{is_session_end}
use Rattle.asp_journal.proofs.Numbers.{filter_more}
use Rattle.asp_journal.proofs.Others.{own_number, stage_other}
use Rattle.asp_session.specs.declared.key.KeyState.{KeyState}
use Rattle.asp_session.specs.Steps as session
use Rattle.asp_session.specs.Steps.{after_begin, asked_at, barred, begun, changed, ends_next, new_key, queued, touched}
use Rattle.asp_session.specs.Steps.{with_key, without_first}
use Rattle.asp_core.specs.Sessions.{account_admitted, account_begun, account_of, asked_for, is_running, keys_by, runs_for, state_at}
use Rattle.asp_core.specs.Sessions.{waiter_of, waiters_of, waits_keyed}
use Rattle.asp_core.proofs.Accounts.{session_here}
use Rattle.asp_core.proofs.Jobs.{admit_right}
use Rattle.asp_core.proofs.Made.{keys_made}
use Rattle.asp_core.proofs.Right.{begin_right, is_drawn, may_begin_waits, numbered}
use Rattle.asp_core.proofs.Rising.{any_found, any_none, any_same, changed_none, filter_twice, first_map, in_passing}
use Rattle.asp_core.proofs.Rising.{map_same, none_before, none_of_any, or_none, pass_same, passing_rise}
use Rattle.asp_core.proofs.Steadying.{closing_unmade, keyed_work, no_session_beyond, none_of_unmade, not_behind}
use Rattle.asp_core.proofs.Steps.{IsDraw, admit_draw, draw_busy, draw_running, keys_changed, keys_same, live_drawn}
use Rattle.asp_core.proofs.Steps.{live_undrawn, keyed, same_account, same_state, unkeyed}
use Rattle.asp_core.proofs.Steps.{waiters_more, waiters_same}

-- ---- a job is admitted

page_last : (work : Work) → is_page work ≡ true → is_session_end work ≡ false
page_last (work.Page request) e = refl
page_last work.Start e = refl
page_last work.SessionEnd e = absurd cc
page_last work.Stop e = refl

barred_none : (state : KeyState) → barred false state ≡ state
barred_none state = same_state (barred false state) state refl refl refl (or_none state.closing)

and_left : (a b : Bool) → (a && b) ≡ true → a ≡ true
and_left true b e = refl
and_left false b e = e

and_right : (a b : Bool) → (a && b) ≡ true → b ≡ true
and_right true b e = e
and_right false b e = absurd cc

zero_other : (key k : ℕ) → (key == 0) ≡ true → 0 < k → (key == k) ≡ false
zero_other key k e l = grind arith

less_other : (key n k : ℕ) → key ≡ n + 1 → k ≤ n → (key == k) ≡ false
less_other key n k e l = grind arith

asked_if : (keyed askable : Bool) (asked n key : ℕ)
    → key ≡ (if keyed && not askable then n + 1 else (if keyed then asked else 0)) → false ≡ (keyed && not askable)
    → (key == 0) ≡ false → (askable ≡ true) × (key ≡ asked)
asked_if true true asked n key e f g = (refl, e)
asked_if true false asked n key e f g = absurd cc
asked_if false askable asked n key e f g = absurd (let none : (key == 0) ≡ true = eq-eqb key 0 e in cc)

new_if : (needs : Bool) (n k key : ℕ) → key ≡ (if needs then n + 1 else k) → true ≡ needs → key ≡ n + 1
new_if true n k key e f = e
new_if false n k key e f = absurd cc

-- under the key that it asked for
admit_asked : (m : Rules) (seed : List ℕ) (past : List Entry) (lane run key : ℕ) (job : Job)
    → run ≡ drawn past + 1 → is_page job.work ≡ true → (key == 0) ≡ false
    → is_live (session_of m past) past key ≡ true
    → account_of m seed (with_lane lane (Admit run key false job) ∷ past)
    ≡ queued key run false (touched key job.moment (account_of m seed past))
admit_asked m seed past lane run key job next page some lives =
    let new = with_lane lane (Admit run key false job) ∷ past in
    let s = session_of m past in
    let is = subst (IsDraw past new key Waiting) (page_last job.work page) (admit_draw past lane run key false job next) in
    same_account (account_of m seed new) (queued key run false (touched key job.moment (account_of m seed past))) refl
    (keys_changed (asked_at job.moment) key s s past new refl (λ k l h. live_drawn s past new key false is lives k)
    (λ k l h. elim (cases_Bool (key == k)) [
      | inl same ↦ same_state (state_at s new k) (asked_at job.moment (state_at s past k)) refl (rw same refl)
          (draw_running past new key Waiting false is refl k) refl
          ∙ sym (ap (λ b. if b then asked_at job.moment (state_at s past k) else state_at s past k) same)
      | inr other ↦ same_state (state_at s new k) (state_at s past k) refl (rw other refl)
          (draw_running past new key Waiting false is refl k) refl
          ∙ sym (ap (λ b. if b then asked_at job.moment (state_at s past k) else state_at s past k) other)
    ]) ∙ sym (changed_none (barred false) key barred_none (changed (asked_at job.moment) key (keys_by s past))))
    (waiters_more past new key run false is some next) refl refl

-- under no key
admit_unkeyed : (m : Rules) (seed : List ℕ) (past : List Entry) (lane run key : ℕ) (job : Job)
    → run ≡ drawn past + 1 → (key == 0) ≡ true
    → account_of m seed (with_lane lane (Admit run key false job) ∷ past) ≡ account_of m seed past
admit_unkeyed m seed past lane run key job next none =
    let new = with_lane lane (Admit run key false job) ∷ past in
    let s = session_of m past in
    let last = is_session_end job.work in
    let is = admit_draw past lane run key false job next in
    let waits_not : not (key == 0) ≡ false = ap not none in
    same_account (account_of m seed new) (account_of m seed past) refl
    (keys_same s s past new refl (λ k l h. live_undrawn s past new key Waiting last is k (zero_other key k none l))
    (λ k l h. let other = zero_other key k none l in
    same_state (state_at s new k) (state_at s past k) refl (rw other refl)
    (draw_running past new key Waiting last is refl k) refl))
    (waiters_same past new key Waiting last is waits_not) refl refl

some_new : (s b : Bool) → (s || (b || true)) ≡ true
some_new true b = refl
some_new false true = refl
some_new false false = refl

-- under a key that is made for it
admit_fresh : (m : Rules) (seed : List ℕ) (past : List Entry) (lane run key : ℕ) (job : Job) → AreRight m past
    → run ≡ drawn past + 1 → is_page job.work ≡ true → key ≡ made past + 1
    → account_of m seed (with_lane lane (Admit run key true job) ∷ past)
    ≡ queued key run false (with_key job.moment (account_of m seed past))
admit_fresh m seed past lane run key job all next page new_is =
    let new = with_lane lane (Admit run key true job) ∷ past in
    let s = session_of m past in
    let n = made past in
    let own : (key == (n + 1)) ≡ true = eq-eqb key (n + 1) new_is in
    let some : (key == 0) ≡ false = grind arith in
    let is = subst (IsDraw past new key Waiting) (page_last job.work page) (admit_draw past lane run key true job next) in
    let front : map (λ k. (k, state_at s new k)) (filter (is_live s new) (numbers n)) ≡ keys_by s past =
    map_same (λ k. (k, state_at s new k)) (λ k. (k, state_at s past k)) (is_live s new) (is_live s past) n
    (λ k l h. live_undrawn s past new key Waiting false is k (less_other key n k new_is h))
    (λ k l h lives. let other = less_other key n k new_is h in
    ap (λ (state : KeyState). (k, state)) (same_state (state_at s new k) (state_at s past k) refl (rw other refl)
    (draw_running past new key Waiting false is refl k) refl)) in
    let lives : is_live s new (n + 1) ≡ true =
    ap (λ b. is_some (s (n + 1)) || b) (draw_busy past new key Waiting false is (n + 1)
    ∙ ap (λ b. is_busy past (n + 1) || (b && true)) own) ∙ some_new (is_some (s (n + 1))) (is_busy past (n + 1)) in
    let none : is_running past (n + 1) ≡ false =
    any_none (runs_for past (n + 1)) (drawn past)
    (λ r l h. ap (λ b. b && is_unfinished past r) (none_of_unmade m past all (n + 1) r (omega arith))) in
    let last : state_at s new (n + 1) ≡ new_key job.moment =
    same_state (state_at s new (n + 1)) (new_key job.moment) (no_session_beyond m past all (n + 1) (inr (omega arith)))
    (rw own refl) (draw_running past new key Waiting false is refl (n + 1) ∙ none)
    (closing_unmade m past all (n + 1) (omega arith)) in
    let keys : keys_by s new ≡ keys_by s past ++ (n + 1, new_key job.moment) ∷ [] =
    ap (map (λ k. (k, state_at s new k))) (filter_more (is_live s new) n)
    ∙ map-append (λ k. (k, state_at s new k)) (filter (is_live s new) (numbers n))
    (if is_live s new (n + 1) then (n + 1) ∷ [] else [])
    ∙ ap (λ es. es ++ map (λ k. (k, state_at s new k)) (if is_live s new (n + 1) then (n + 1) ∷ [] else [])) front
    ∙ ap (λ b. keys_by s past ++ map (λ k. (k, state_at s new k)) (if b then (n + 1) ∷ [] else [])) lives
    ∙ ap (λ (state : KeyState). keys_by s past ++ (n + 1, state) ∷ []) last in
    same_account (account_of m seed new) (queued key run false (with_key job.moment (account_of m seed past))) refl
    (keys ∙ sym (changed_none (barred false) key barred_none (keys_by s past ++ (n + 1, new_key job.moment) ∷ [])))
    (waiters_more past new key run false is some next) refl refl

pub admit_step : (m : Rules) (seed : List ℕ) (past : List Entry) (lane run key : ℕ) (fresh : Bool) (job : Job)
    → AreRight m past → IsRight m past (with_lane lane (Admit run key fresh job))
    → account_of m seed (with_lane lane (Admit run key fresh job) ∷ past)
    ≡ account_admitted (Admit run key fresh job) (account_of m seed past)
admit_step m seed past lane run key true job all right =
    let may = admit_right m past lane run key true job (owed m past) right.turn in
    let new_is : key ≡ made past + 1 = new_if _ (made past) _ key may.key_is may.fresh_is in
    let some : (key == 0) ≡ false = grind arith in
    admit_fresh m seed past lane run key job all may.number may.asked.page new_is
    ∙ keyed key (account_of m seed past) (queued key run false (asked_for key true job.moment (account_of m seed past)))
    some
admit_step m seed past lane run key false job all right = elim (cases_Bool (key == 0)) [
  | inl none ↦ (let may = admit_right m past lane run key false job (owed m past) right.turn in
      admit_unkeyed m seed past lane run key job may.number none
      ∙ unkeyed key (account_of m seed past)
      (queued key run false (asked_for key false job.moment (account_of m seed past))) none)
  | inr some ↦ (let may = admit_right m past lane run key false job (owed m past) right.turn in
      let s = session_of m past in
      let asks = asked_if (m.meaning.is_keyed job) (is_askable s past (key_asked_by m job)) (key_asked_by m job)
      (made past) key may.key_is may.fresh_is some in
      let lives : is_live s past key ≡ true =
      ap (is_live s past) asks.1 ∙ and_right _ _ (and_left _ _ asks.0) in
      admit_asked m seed past lane run key job may.number may.asked.page some lives
      ∙ keyed key (account_of m seed past)
      (queued key run false (asked_for key false job.moment (account_of m seed past))) some)
]

-- ---- a run begins

own_is : (given before : Stage) (run r : ℕ) → (run == r) ≡ true
    → unwrap_or (if run == r then Some given else None) before ≡ given
own_is given before run r e = rw e refl

abbrev open_at : Stage → Bool
open_at stage = is_stage_waiting stage || is_stage_unfinished stage

-- it waited
begins_waiting : (m : Rules) (past : List Entry) (lane run serial r : ℕ)
    → IsRight m past (with_lane lane (Begin run serial)) → (run == r) ≡ true → stage_of past r ≡ Waiting
begins_waiting m past lane run serial r right e =
    let begins = begin_right m past lane run serial (owed m past) right.turn in
    ap (stage_of past) (sym (eqb-true run r e)) ∙ may_begin_waits past run begins.next.begins

begin_busy : (m : Rules) (past : List Entry) (lane run serial : ℕ)
    → IsRight m past (with_lane lane (Begin run serial)) → (k : ℕ)
    → is_busy (with_lane lane (Begin run serial) ∷ past) k ≡ is_busy past k
begin_busy m past lane run serial right k =
    let new = with_lane lane (Begin run serial) ∷ past in
    any_same (keeps_busy new k) (keeps_busy past k) (drawn past) (λ r l h. elim (cases_Bool (run == r)) [
      | inl own ↦ ap (λ s. key_of past r == k && open_at s) (own_is Unfinished (stage_of past r) run r own)
          ∙ sym (ap (λ s. key_of past r == k && open_at s) (begins_waiting m past lane run serial r right own))
      | inr other ↦ ap (λ s. key_of past r == k && open_at s) (stage_other past lane r (Begin run serial) other)
    ])

begin_running : (m : Rules) (past : List Entry) (lane run serial : ℕ) → AreRight m past
    → IsRight m past (with_lane lane (Begin run serial)) → (k : ℕ) → (key_of past run == k) ≡ true
    → is_running (with_lane lane (Begin run serial) ∷ past) k ≡ true
begin_running m past lane run serial all right k e =
    let new = with_lane lane (Begin run serial) ∷ past in
    let own = own_number run in
    let waited = begins_waiting m past lane run serial run right own in
    let known = numbered m past all run (ap is_drawn waited) in
    any_found (runs_for new k) (drawn past) run known.0 known.1
    (ap (λ s. key_of past run == k && is_stage_unfinished s) (own_is Unfinished (stage_of past run) run run own)
    ∙ ap (λ b. b && true) e)

begin_runs : (past : List Entry) (lane run serial k : ℕ) → (key_of past run == k) ≡ false
    → is_running (with_lane lane (Begin run serial) ∷ past) k ≡ is_running past k
begin_runs past lane run serial k e =
    let new = with_lane lane (Begin run serial) ∷ past in
    any_same (runs_for new k) (runs_for past k) (drawn past) (λ r l h. elim (cases_Bool (run == r)) [
      | inl own ↦ (let none : (key_of past r == k) ≡ false =
          ap (λ r. key_of past r == k) (sym (eqb-true run r own)) ∙ e in
          ap (λ b. b && is_unfinished new r) none ∙ sym (ap (λ b. b && is_unfinished past r) none))
      | inr other ↦ ap (λ s. key_of past r == k && is_stage_unfinished s)
          (stage_other past lane r (Begin run serial) other)
    ])

and_false : (b : Bool) → false ≡ (b && false)
and_false true = refl
and_false false = refl

and_true : (b : Bool) → b ≡ (b && true)
and_true true = refl
and_true false = refl

begin_waits : (past : List Entry) (lane run serial r : ℕ)
    → waits_keyed (with_lane lane (Begin run serial) ∷ past) r ≡ (waits_keyed past r && not (run == r))
begin_waits past lane run serial r = elim (cases_Bool (run == r)) [
  | inl own ↦ ap (λ s. is_stage_waiting s && not (key_of past r == 0)) (own_is Unfinished (stage_of past r) run r own)
      ∙ and_false (waits_keyed past r) ∙ ap (λ b. waits_keyed past r && not b) (sym own)
  | inr other ↦ ap (λ s. is_stage_waiting s && not (key_of past r == 0))
      (stage_other past lane r (Begin run serial) other)
      ∙ and_true (waits_keyed past r) ∙ ap (λ b. waits_keyed past r && not b) (sym other)
]

not_true : (b : Bool) → not b ≡ true → b ≡ false
not_true true e = absurd cc
not_true false e = refl

-- a run of the key that waits before it would have to begin first
first_of_key : (of_key busy waits less : Bool) → (of_key && (busy || (waits && less))) ≡ false → waits ≡ true
    → less ≡ true → of_key ≡ false
first_of_key false busy waits less e f g = refl
first_of_key true true waits less e f g = absurd cc
first_of_key true false true true e f g = absurd cc
first_of_key true false true false e f g = absurd cc
first_of_key true false false less e f g = absurd cc

begin_first : (m : Rules) (past : List Entry) (lane run serial : ℕ) → AreRight m past
    → IsRight m past (with_lane lane (Begin run serial)) → (key_of past run == 0) ≡ false
    → (without_first (key_of past run) (waiters_of past) ≡ waiters_of (with_lane lane (Begin run serial) ∷ past))
    × (ends_next (key_of past run) (waiters_of past) ≡ is_session_end (job_of past run).work)
begin_first m past lane run serial all right keyed =
    let new = with_lane lane (Begin run serial) ∷ past in
    let key = key_of past run in
    let begins = begin_right m past lane run serial (owed m past) right.turn in
    let own = own_number run in
    let waited = begins_waiting m past lane run serial run right own in
    let known = numbered m past all run (ap is_drawn waited) in
    let behind : is_behind past run ≡ false = not_true (is_behind past run)
    (and_right _ _ (and_left _ _ begins.next.begins)) in
    let low : 0 < key = grind arith in
    let none = not_behind past run low behind in
    let waits : waits_keyed past run ≡ true =
    ap (λ s. is_stage_waiting s && not (key == 0)) waited ∙ ap not keyed in
    let found = first_map (waiter_of past) run key 0 (filter (waits_keyed past) (numbers (drawn past)))
    (passing_rise (waits_keyed past) (drawn past)) (in_passing (waits_keyed past) (drawn past) run known.0 known.1 waits)
    (none_before (waiter_of past) run key (waits_keyed past) (drawn past) (λ r l h passes less.
    first_of_key (key_of past r == key) (is_unfinished past r) (is_waiting past r) (nat_lt r run)
    (none_of_any (goes_before past run) (drawn past) r none l h) (and_left _ _ passes) (lt-ltb r run less)))
    (own_number key) in (
      found.0 ∙ ap (map (waiter_of past)) (filter_twice (waits_keyed past) (λ x. not (run == x)) (numbers (drawn past))
          ∙ sym (pass_same (waits_keyed new) (λ r. waits_keyed past r && not (run == r)) (drawn past)
          (λ r l h. begin_waits past lane run serial r))),
      found.1,
    )

opens_if : (page last zero_key some : Bool) → zero_key ≡ false → not last ≡ page
    → (page && not zero_key && not some) ≡ (not some && not last)
opens_if true true zero_key some e f = absurd cc
opens_if true false true some e f = absurd cc
opens_if true false false true e f = refl
opens_if true false false false e f = refl
opens_if false true zero_key true e f = refl
opens_if false true zero_key false e f = refl
opens_if false false zero_key some e f = absurd cc

begin_keyed : (m : Rules) (seed : List ℕ) (past : List Entry) (lane run serial : ℕ) → AreRight m past
    → IsRight m past (with_lane lane (Begin run serial)) → (key_of past run == 0) ≡ false
    → account_of m seed (with_lane lane (Begin run serial) ∷ past)
    ≡ after_begin (key_of past run) (account_of m seed past)
begin_keyed m seed past lane run serial all right keyed =
    let new = with_lane lane (Begin run serial) ∷ past in
    let key = key_of past run in
    let s = session_of m past in
    let low : 0 < key = grind arith in
    let first = begin_first m past lane run serial all right keyed in
    let holds = session_here s past key low (keys_made m past all run) in
    let kind = keyed_work m past all run keyed in
    let opening : opens (draw_of past run) (s key) ≡ session.opens key (account_of m seed past) =
    opens_if (is_page (job_of past run).work) (is_session_end (job_of past run).work) (key == 0) (is_some (s key)) keyed
    kind
    ∙ ap (λ (held : Option SessionState). not (is_some held) && not (is_session_end (job_of past run).work)) (sym holds)
    ∙ ap (λ last. not (is_some (session.session_of key (account_of m seed past))) && not last) (sym first.1) in
    same_account (account_of m seed new) (after_begin key (account_of m seed past)) refl
    (keys_changed begun key s s past new refl
    (λ k l h. ap (λ b. is_some (s k) || b) (begin_busy m past lane run serial right k))
    (λ k l h. elim (cases_Bool (key == k)) [
      | inl same ↦ rw same (same_state (state_at s new k) (begun (state_at s past k)) refl refl
          (begin_running m past lane run serial all right k same) refl)
      | inr other ↦ rw other (same_state (state_at s new k) (state_at s past k) refl refl
          (begin_runs past lane run serial k other) refl)
    ]))
    (sym first.0) refl (ap (λ b. if b then opened m past + 1 else opened m past) opening)

opens_none : (page some : Bool) (key : ℕ) → (key == 0) ≡ true → (page && not (key == 0) && not some) ≡ false
opens_none true some key e = rw e refl
opens_none false some key e = refl

unkeyed_waits : (waits : Bool) (key : ℕ) → (key == 0) ≡ true → (waits && not (key == 0)) ≡ false
unkeyed_waits true key e = rw e refl
unkeyed_waits false key e = refl

begin_unkeyed : (m : Rules) (seed : List ℕ) (past : List Entry) (lane run serial : ℕ)
    → IsRight m past (with_lane lane (Begin run serial)) → (key_of past run == 0) ≡ true
    → account_of m seed (with_lane lane (Begin run serial) ∷ past) ≡ account_of m seed past
begin_unkeyed m seed past lane run serial right none =
    let new = with_lane lane (Begin run serial) ∷ past in
    let key = key_of past run in
    let s = session_of m past in
    same_account (account_of m seed new) (account_of m seed past) refl
    (keys_same s s past new refl (λ k l h. ap (λ b. is_some (s k) || b) (begin_busy m past lane run serial right k))
    (λ k l h. same_state (state_at s new k) (state_at s past k) refl refl
    (begin_runs past lane run serial k (zero_other key k none l)) refl))
    (map_same (waiter_of new) (waiter_of past) (waits_keyed new) (waits_keyed past) (drawn past)
    (λ r l h. begin_waits past lane run serial r ∙ elim (cases_Bool (run == r)) [
      | inl own ↦ (let no : (key_of past r == 0) ≡ true =
          ap (λ r. key_of past r == 0) (sym (eqb-true run r own)) ∙ none in
          ap (λ b. b && not (run == r)) (unkeyed_waits (is_waiting past r) (key_of past r) no)
          ∙ sym (unkeyed_waits (is_waiting past r) (key_of past r) no))
      | inr other ↦ ap (λ b. waits_keyed past r && not b) other ∙ sym (and_true (waits_keyed past r))
    ]) (λ r l h waits. refl))
    refl
    (ap (λ b. if b then opened m past + 1 else opened m past)
    (opens_none (is_page (job_of past run).work) (is_some (s key)) key none))

pub begin_step : (m : Rules) (seed : List ℕ) (past : List Entry) (lane run serial : ℕ) → AreRight m past
    → IsRight m past (with_lane lane (Begin run serial))
    → account_of m seed (with_lane lane (Begin run serial) ∷ past) ≡ account_begun past run (account_of m seed past)
begin_step m seed past lane run serial all right = elim (cases_Bool (key_of past run == 0)) [
  | inl none ↦ begin_unkeyed m seed past lane run serial right none
      ∙ unkeyed (key_of past run) (account_of m seed past) (after_begin (key_of past run) (account_of m seed past)) none
  | inr some ↦ begin_keyed m seed past lane run serial all right some
      ∙ keyed (key_of past run) (account_of m seed past) (after_begin (key_of past run) (account_of m seed past)) some
]
