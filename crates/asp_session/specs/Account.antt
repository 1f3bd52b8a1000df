-- The account of the session keys (ASP 3.0, "Session Object"; how they are numbered and forgotten is our own).
use Rattle.std.specs.Prelude.{ℕ, ◌+◌, ◌*◌, ◌==◌, ◌&&◌, Bool, false, not, nat_eq, nat_le, if◌then◌else◌}
use Rattle.std.specs.Prelude.{List, [], filter, Option, Some, None}
use Rattle.std.specs.List.{list_any}
use Rattle.std.specs.Map.{keys_of, lookup}
use Rattle.std.specs.Option.{option_map_or}
use Rattle.asp_job.specs.declared.session.SessionState.{SessionState}
use Rattle.asp_session.specs.declared.key.KeyState.{KeyState}
use Rattle.asp_session.specs.declared.key.Waiter.{Waiter}
use Rattle.asp_session.specs.Letters.{key_of_letters}

-- The live keys by their numbers, in order, each with what is kept of it; the runs that wait for them, in the order in
-- which they were queued; and how many keys were made and sessions opened.
pub record Account : Type 0 where
  pub seed : List ℕ
  pub keys : List (ℕ × KeyState)
  pub waiting : List Waiter
  pub made : ℕ
  pub opened : ℕ

-- before the first key
abbrev pub first_account : List ℕ → Account
first_account seed = record { seed = seed; keys = []; waiting = []; made = 0; opened = 0 }

-- ---- keys

-- what is kept of a key; it is live where something is
abbrev pub state_of : ℕ → Account → Option KeyState
state_of key account = lookup (nat_eq key) account.keys

-- whether a run waits for the key
abbrev pub waits : ℕ → List Waiter → Bool
waits key waiting = list_any (λ waiter. waiter.key == key) waiting

-- whether a key may be asked for
abbrev pub is_askable : ℕ → Account → Bool
is_askable key account = option_map_or (λ state. not state.closing) (state_of key account) false

-- the key, if it may be asked for
abbrev pub if_askable : Account → Option ℕ → Option ℕ
if_askable account None = None
if_askable account (Some key) = if is_askable key account then Some key else None

-- the key that may be asked for and whose letters these are
abbrev pub found : List ℕ → Account → Option ℕ
found letters account = if_askable account (key_of_letters account.seed letters)

-- the live keys, in order
abbrev pub live : Account → List ℕ
live account = keys_of account.keys

-- ---- sessions that are over

-- whether a session is over at the moment, where the last job was admitted at `asked`
abbrev pub is_over : ℕ → ℕ → Option SessionState → Bool
is_over moment asked session = option_map_or (λ session. nat_le (asked + session.timeout * 60) moment) session false

-- whether the key's session is to end at the moment: it is over, and no run of the key waits or is unfinished
abbrev pub is_due : ℕ → List Waiter → ℕ × KeyState → Bool
is_due moment waiting entry =
    is_over moment entry.1.asked entry.1.session && not entry.1.running && not (waits entry.0 waiting)

-- the keys whose sessions are to end at the moment, in order
abbrev pub due : ℕ → Account → List ℕ
due moment account = keys_of (filter (is_due moment account.waiting) account.keys)

-- ---- room

-- the account, and for how many more keys and runs there is room, so that they take no memory
pub record WithRoom : Type 0 where
  pub account : Account
  pub key_room : ℕ
  pub run_room : ℕ
