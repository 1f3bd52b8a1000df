-- What an account of the session keys tells is what the journal tells.
use Rattle.std.proofs.Common.{◌≡◌, ℕ, ◌+◌, ◌*◌, ◌<◌, ◌≤◌, ◌==◌, ◌&&◌, ◌||◌, ◌⊎◌, Bool, true, false, not}
use Rattle.std.proofs.Common.{if◌then◌else◌, nat_eq, nat_le, nat_lt, List, [], ◌∷◌, filter, length, map, is_some}
use Rattle.std.proofs.Common.{Option, Some, None, refl, ap, sym, ◌∙◌, arith, inl, inr}
use Rattle.std.specs.List.{list_any}
use Rattle.std.specs.Map.{lookup, keys_of}
use Rattle.std.specs.Option.{option_map_or}
use Rattle.std.proofs.lemmas.Bool.{cases_Bool, eqb-true}
use Rattle.asp_job.specs.declared.entry.Entry.{Entry}
use Rattle.asp_job.specs.declared.session.SessionState.{SessionState}
use Rattle.asp_job.specs.Keys as job
use Rattle.asp_job.specs.Keys.{made, is_live, is_closing, is_busy, is_due_key, keeps_busy, last_asked}
use Rattle.asp_job.specs.Runs.{numbers, drawn, is_unfinished, is_waiting, key_of}
use Rattle.asp_job.specs.Turns.{has_most_keys}
use Rattle.asp_session.specs.declared.key.KeyState.{KeyState}
use Rattle.asp_session.specs.declared.key.Waiter.{Waiter}
use Rattle.asp_session.specs.Account as kept
use Rattle.asp_session.specs.Account.{Account, is_over, waits}
use Rattle.asp_session.specs.Reading.{session_in}
use Rattle.asp_session.specs.Steps.{most_live}
use Rattle.asp_core.specs.Sessions.{Tells, is_running, keys_by, sessions_in, state_at, waiter_of, waiters_of}
use Rattle.asp_core.specs.Sessions.{waits_keyed}
use Rattle.asp_core.proofs.Rising.{among, any_same, keys_of_map, filter_twice, lookup_map, not_among, pass_same}

-- ---- which keys are there

-- a key that is live is found with what is kept of it
pub found_key : (sessions : ℕ → Option SessionState) (past : List Entry) (k : ℕ) → 0 < k → k ≤ made past
    → is_live sessions past k ≡ true → lookup (nat_eq k) (keys_by sessions past) ≡ Some (state_at sessions past k)
found_key sessions past k low high lives = lookup_map k (state_at sessions past) (job.live sessions past)
    ∙ ap (λ b. if b then Some (state_at sessions past k) else None)
    (among (is_live sessions past) (made past) k low high lives)

apart_key : (sessions : ℕ → Option SessionState) (past : List Entry) (k r : ℕ) → is_live sessions past k ≡ false
    → is_live sessions past r ≡ true → (k == r) ≡ false
apart_key sessions past k r dies lives = elim (cases_Bool (k == r)) [
  | inl same ↦ (let is : k ≡ r = eqb-true k r same in
      absurd (let both : false ≡ true = sym dies ∙ ap (is_live sessions past) is ∙ lives in cc))
  | inr other ↦ other
]

missing_by : (sessions : ℕ → Option SessionState) (past : List Entry) (k : ℕ)
    → ((r : ℕ) → 0 < r → r ≤ made past → is_live sessions past r ≡ true → (k == r) ≡ false)
    → lookup (nat_eq k) (keys_by sessions past) ≡ None
missing_by sessions past k none = lookup_map k (state_at sessions past) (job.live sessions past)
    ∙ ap (λ b. if b then Some (state_at sessions past k) else None)
    (not_among (is_live sessions past) (made past) k none)

pub dead_key : (sessions : ℕ → Option SessionState) (past : List Entry) (k : ℕ) → is_live sessions past k ≡ false
    → lookup (nat_eq k) (keys_by sessions past) ≡ None
dead_key sessions past k dies = missing_by sessions past k (λ r l m lives. apart_key sessions past k r dies lives)

-- no number beyond the last key, and not 0, is one
abbrev pub IsBeyond : ℕ → ℕ → Type 0
IsBeyond n k = (k ≡ 0) ⊎ (n < k)

beyond_apart : (n k r : ℕ) → IsBeyond n k → 0 < r → r ≤ n → (k == r) ≡ false
beyond_apart n k r (inl none) l m = grind arith
beyond_apart n k r (inr more) l m = grind arith

pub beyond_key : (sessions : ℕ → Option SessionState) (past : List Entry) (k : ℕ) → IsBeyond (made past) k
    → lookup (nat_eq k) (keys_by sessions past) ≡ None
beyond_key sessions past k beyond =
    missing_by sessions past k (λ r l m lives. beyond_apart (made past) k r beyond l m)

-- ---- the session of a key

abbrev session_found : Option KeyState → Option SessionState
session_found found = option_map_or (λ (state : KeyState). state.session) found None

no_session : (s : Option SessionState) (busy : Bool) → (is_some s || busy) ≡ false → None ≡ s
no_session None busy e = refl
no_session (Some s) busy e = absurd cc

pub session_here : (sessions : ℕ → Option SessionState) (past : List Entry) (k : ℕ) → 0 < k → k ≤ made past
    → session_in k (keys_by sessions past) ≡ sessions k
session_here sessions past k low high = elim (cases_Bool (is_live sessions past k)) [
  | inl lives ↦ ap session_found (found_key sessions past k low high lives)
  | inr dies ↦ ap session_found (dead_key sessions past k dies) ∙ no_session (sessions k) (is_busy past k) dies
]

pub session_beyond : (sessions : ℕ → Option SessionState) (past : List Entry) (k : ℕ) → IsBeyond (made past) k
    → session_in k (keys_by sessions past) ≡ None
session_beyond sessions past k beyond = ap session_found (beyond_key sessions past k beyond)

-- ---- which keys are live, and which may be asked for

pub live_are : (account : Account) (past : List Entry) → Tells account past
    → kept.live account ≡ job.live (sessions_in account) past
live_are account past tells = ap keys_of tells.keys_are
    ∙ keys_of_map (state_at (sessions_in account) past) (job.live (sessions_in account) past)

abbrev ask_found : Option KeyState → Bool
ask_found found = option_map_or (λ (state : KeyState). not state.closing) found false

ask_if : (zero_key small live closing : Bool) → zero_key ≡ false → small ≡ true → live ≡ true
    → not closing ≡ (not zero_key && small && live && not closing)
ask_if zero_key small live closing e f g = rw (e, f, g) refl

ask_dead : (zero_key small live closing : Bool) → live ≡ false
    → false ≡ (not zero_key && small && live && not closing)
ask_dead true small live closing e = refl
ask_dead false true live closing e = rw e refl
ask_dead false false live closing e = refl

ask_zero : (k : ℕ) (small live closing : Bool) → (k == 0) ≡ true
    → false ≡ (not (k == 0) && small && live && not closing)
ask_zero k small live closing e = rw e refl

ask_large : (zero_key small live closing : Bool) → small ≡ false
    → false ≡ (not zero_key && small && live && not closing)
ask_large true small live closing e = refl
ask_large false small live closing e = rw e refl

more_than : (k n : ℕ) → nat_le k n ≡ false → n < k
more_than k n e = grind arith

most_of : (k n : ℕ) → nat_le k n ≡ true → k ≤ n
most_of k n e = grind arith

positive : (k : ℕ) → (k == 0) ≡ false → 0 < k
positive k e = grind arith

ask_is : (sessions : ℕ → Option SessionState) (past : List Entry) (k : ℕ)
    → ask_found (lookup (nat_eq k) (keys_by sessions past)) ≡ job.is_askable sessions past k
ask_is sessions past k = elim (cases_Bool (k == 0)) [
  | inl zero_key ↦ ap ask_found (beyond_key sessions past k (inl (eqb-true k 0 zero_key)))
      ∙ ask_zero k (nat_le k (made past)) (is_live sessions past k) (is_closing past k) zero_key
  | inr some_key ↦ elim (cases_Bool (nat_le k (made past))) [
    | inr large ↦ ap ask_found (beyond_key sessions past k (inr (more_than k (made past) large)))
        ∙ ask_large (k == 0) (nat_le k (made past)) (is_live sessions past k) (is_closing past k) large
    | inl small ↦ elim (cases_Bool (is_live sessions past k)) [
      | inl lives ↦ ap ask_found (found_key sessions past k (positive k some_key) (most_of k (made past) small) lives)
          ∙ ask_if (k == 0) (nat_le k (made past)) (is_live sessions past k) (is_closing past k) some_key small lives
      | inr dies ↦ ap ask_found (dead_key sessions past k dies)
          ∙ ask_dead (k == 0) (nat_le k (made past)) (is_live sessions past k) (is_closing past k) dies
    ]
  ]
]

pub askable_is : (account : Account) (past : List Entry) (k : ℕ) → Tells account past
    → kept.is_askable k account ≡ job.is_askable (sessions_in account) past k
askable_is account past k tells =
    ap (λ (entries : List (ℕ × KeyState)). ask_found (lookup (nat_eq k) entries)) tells.keys_are
    ∙ ask_is (sessions_in account) past k

-- ---- whether as many are live as may be

length_map : {X Y : Type 0} → (h : X → Y) (xs : List X) → length (map h xs) ≡ length xs
length_map h [] = refl
length_map h (x ∷ xs) = let rest = length_map h xs in omega arith

not_fewer : (n k : ℕ) → not (nat_lt n k) ≡ nat_le k n
not_fewer n k = grind arith

pub most_are : (account : Account) (past : List Entry) → Tells account past
    → not (nat_lt (length account.keys) most_live) ≡ has_most_keys (sessions_in account) past
most_are account past tells =
    ap (λ n. not (nat_lt n most_live)) (ap length tells.keys_are
    ∙ length_map (λ k. (k, state_at (sessions_in account) past k)) (job.live (sessions_in account) past))
    ∙ not_fewer (length (job.live (sessions_in account) past)) most_live

-- ---- runs of a key

-- whether a run of the key waits
abbrev pub waits_for : List Entry → ℕ → ℕ → Bool
waits_for past k r = key_of past r == k && is_waiting past r

abbrev pub is_waited : List Entry → ℕ → Bool
is_waited past k = list_any (waits_for past k) (numbers (drawn past))

either_if : (a b c w u : Bool) → ((a && (b || c)) || (u || w)) ≡ (((a && c) || u) || ((a && b) || w))
either_if false b c w u = refl
either_if true true true w u = refl
either_if true true false w true = refl
either_if true true false w false = refl
either_if true false true w u = refl
either_if true false false w u = refl

any_either : (a b c : ℕ → Bool) (xs : List ℕ) → list_any (λ r. a r && (b r || c r)) xs
    ≡ (list_any (λ r. a r && c r) xs || list_any (λ r. a r && b r) xs)
any_either a b c [] = refl
any_either a b c (x ∷ xs) = ap (λ any. (a x && (b x || c x)) || any) (any_either a b c xs)
    ∙ either_if (a x) (b x) (c x) (list_any (λ r. a r && b r) xs) (list_any (λ r. a r && c r) xs)

pub busy_either : (past : List Entry) (k : ℕ) → is_busy past k ≡ (is_running past k || is_waited past k)
busy_either past k =
    any_either (λ r. key_of past r == k) (is_waiting past) (is_unfinished past) (numbers (drawn past))

any_map : (t : Waiter → Bool) (w : ℕ → Waiter) (p : ℕ → Bool) (xs : List ℕ)
    → list_any t (map w (filter p xs)) ≡ list_any (λ x. p x && t (w x)) xs
any_map t w p [] = refl
any_map t w p (x ∷ xs) = elim (cases_Bool (p x)) [
  | inl passes ↦ rw passes (ap (λ b. t (w x) || b) (any_map t w p xs))
  | inr stops ↦ rw stops (any_map t w p xs)
]

keyed_if : (waiting own none : Bool) → (own ≡ true → none ≡ false) → ((waiting && not none) && own) ≡ (own && waiting)
keyed_if true true none h = rw (h refl) refl
keyed_if true false true h = refl
keyed_if true false false h = refl
keyed_if false true none h = refl
keyed_if false false none h = refl

own_is_some : (key k : ℕ) → 0 < k → (key == k) ≡ true → (key == 0) ≡ false
own_is_some key k l e = grind arith

pub waits_are : (past : List Entry) (k : ℕ) → 0 < k → waits k (waiters_of past) ≡ is_waited past k
waits_are past k low =
    any_map (λ waiter. waiter.key == k) (waiter_of past) (waits_keyed past) (numbers (drawn past))
    ∙ any_same (λ r. waits_keyed past r && key_of past r == k) (waits_for past k) (drawn past)
    (λ r l m. keyed_if (is_waiting past r) (key_of past r == k) (key_of past r == 0) (own_is_some (key_of past r) k low))

-- ---- whose sessions are over

due_if : (session : Option SessionState) (asked moment : ℕ) (busy running waited : Bool) → busy ≡ (running || waited)
    → ((is_some session || busy) && (is_over moment asked session && not running && not waited))
    ≡ elim session [ None ↦ false | Some s ↦ not busy && nat_le (asked + s.timeout * 60) moment ]
due_if None asked moment true running waited e = refl
due_if None asked moment false running waited e = refl
due_if (Some s) asked moment busy running waited e =
    rw e (over_if (nat_le (asked + s.timeout * 60) moment) running waited)
  where
    over_if : (over running waited : Bool) → (over && not running && not waited) ≡ (not (running || waited) && over)
    over_if true true waited = refl
    over_if true false true = refl
    over_if true false false = refl
    over_if false true waited = refl
    over_if false false true = refl
    over_if false false false = refl

as_due : (session : Option SessionState) (past : List Entry) (moment k : ℕ)
    → elim session [ None ↦ false | Some s ↦ not (is_busy past k) && nat_le (last_asked past k + s.timeout * 60) moment ]
    ≡ job.is_due session past moment k
as_due None past moment k = refl
as_due (Some s) past moment k = refl

due_map : (test : ℕ × KeyState → Bool) (g : ℕ → KeyState) (xs : List ℕ)
    → keys_of (filter test (map (λ k. (k, g k)) xs)) ≡ filter (λ k. test (k, g k)) xs
due_map test g [] = refl
due_map test g (x ∷ xs) = elim (cases_Bool (test (x, g x))) [
  | inl passes ↦ rw passes (ap (λ (ys : List ℕ). x ∷ ys) (due_map test g xs))
  | inr stops ↦ rw stops (due_map test g xs)
]

due_by_keys : (sessions : ℕ → Option SessionState) (past : List Entry) (moment : ℕ)
    → keys_of (filter (kept.is_due moment (waiters_of past)) (keys_by sessions past))
    ≡ filter (is_due_key sessions past moment) (numbers (made past))
due_by_keys sessions past moment =
    due_map (kept.is_due moment (waiters_of past)) (state_at sessions past) (job.live sessions past)
    ∙ filter_twice (is_live sessions past) (λ k. kept.is_due moment (waiters_of past) (k, state_at sessions past k))
    (numbers (made past))
    ∙ pass_same
    (λ k. is_live sessions past k && kept.is_due moment (waiters_of past) (k, state_at sessions past k))
    (is_due_key sessions past moment) (made past) (λ k l m.
    ap (λ b. is_live sessions past k
    && (is_over moment (last_asked past k) (sessions k) && not (is_running past k) && not b)) (waits_are past k l)
    ∙ due_if (sessions k) (last_asked past k) moment (is_busy past k) (is_running past k) (is_waited past k)
    (busy_either past k) ∙ as_due (sessions k) past moment k)

pub due_are : (account : Account) (past : List Entry) (moment : ℕ) → Tells account past
    → kept.due moment account ≡ filter (is_due_key (sessions_in account) past moment) (numbers (made past))
due_are account past moment tells =
    ap (λ (ws : List Waiter). keys_of (filter (kept.is_due moment ws) account.keys)) tells.waiting_are
    ∙ ap (λ (es : List (ℕ × KeyState)). keys_of (filter (kept.is_due moment (waiters_of past)) es)) tells.keys_are
    ∙ due_by_keys (sessions_in account) past moment
