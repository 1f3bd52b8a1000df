-- What each call makes of the account of the session keys. All is our own.
use Rattle.std.specs.Prelude.{ℕ, ◌+◌, ◌==◌, ◌&&◌, ◌||◌, Bool, true, false, not, if◌then◌else◌, nat_eq, nat_lt}
use Rattle.std.specs.Prelude.{List, [], ◌∷◌, ◌++◌, length, Option, None, Result, Ok, Err, is_some}
use Rattle.std.specs.Map.{remove_entry}
use Rattle.std.specs.Option.{option_map_or}
use Rattle.asp_job.specs.declared.session.SessionState.{SessionState}
use Rattle.asp_session.specs.declared.after.After.{After}
use Rattle.asp_session.specs.declared.after.After.TheVariants.{Kept, Now}
use Rattle.asp_session.specs.declared.key.KeyState.{KeyState}
use Rattle.asp_session.specs.declared.key.Waiter.{Waiter}
use Rattle.asp_session.specs.declared.stop.KeyStop.{KeyStop}
use Rattle.asp_session.specs.declared.stop.KeyStop.TheVariants.{Full}
use Rattle.asp_session.specs.Account.{Account, waits}
use Rattle.asp_session.specs.Reading.{session_in}

-- ---- one key

-- the keys with what is kept of one of them changed, if it is there
abbrev pub changed : (KeyState → KeyState) → ℕ → List (ℕ × KeyState) → List (ℕ × KeyState)
changed change key [] = []
changed change key (entry ∷ entries) =
    if nat_eq key entry.0 then (entry.0, change entry.1) ∷ entries else entry ∷ changed change key entries

-- ---- a key is made, and asked for again

-- at most so many keys are live
abbrev pub most_live : ℕ
most_live = 4096

-- what is kept of a key that was just made
abbrev pub new_key : ℕ → KeyState
new_key moment = record { session = None; asked = moment; running = false; closing = false }

-- `add_key`: the number of the new key, unless as many are live as may be
abbrev pub added_key : Account → Result ℕ KeyStop
added_key account = if nat_lt (length account.keys) most_live then Ok (account.made + 1) else Err Full

-- the account with a key more
abbrev pub with_key : ℕ → Account → Account
with_key moment account = record account {
  keys = account.keys ++ (account.made + 1, new_key moment) ∷ [];
  made = account.made + 1;
}

-- `touch`: a job was admitted for the key at the moment
abbrev pub asked_at : ℕ → KeyState → KeyState
asked_at moment state = record state { asked = moment }

abbrev pub touched : ℕ → ℕ → Account → Account
touched key moment account = record account { keys = changed (asked_at moment) key account.keys }

-- ---- a run waits

-- a run for the end of the session bars the key; any other leaves it as it is
abbrev pub barred : Bool → KeyState → KeyState
barred last state = record state { closing = state.closing || last }

-- `queue`: a run of the key waits
abbrev pub queued : ℕ → ℕ → Bool → Account → Account
queued key run last account = record account {
  keys = changed (barred last) key account.keys;
  waiting = account.waiting ++ record { key = key; run = run; last = last } ∷ [];
}

-- ---- a run begins

-- whether the first run that waits for the key is for the end of its session; true where none waits
abbrev pub ends_next : ℕ → List Waiter → Bool
ends_next key [] = true
ends_next key (waiter ∷ waiting) = if waiter.key == key then waiter.last else ends_next key waiting

-- the runs that wait without the first that waits for the key
abbrev pub without_first : ℕ → List Waiter → List Waiter
without_first key [] = []
without_first key (waiter ∷ waiting) = if waiter.key == key then waiting else waiter ∷ without_first key waiting

-- the session of a key
abbrev pub session_of : ℕ → Account → Option SessionState
session_of key account = session_in key account.keys

-- whether the next run of the key opens a session: it has none, and the run is not for the end of one
abbrev pub opens : ℕ → Account → Bool
opens key account = not (is_some (session_of key account)) && not (ends_next key account.waiting)

-- the number of the session that the next run of the key begins with; 0 without one
abbrev pub serial_of : ℕ → Account → ℕ
serial_of key account =
    option_map_or (λ session. session.serial) (session_of key account) (if opens key account then account.opened + 1 else 0)

-- `begin` and `peek`: that number, and the session where the key has one
abbrev pub begins_with : ℕ → Account → ℕ × Option SessionState
begins_with key account = (serial_of key account, session_of key account)

-- one of its runs is unfinished from now on
abbrev pub begun : KeyState → KeyState
begun state = record state { running = true }

-- `begin`: the first run that waits for the key is unfinished
abbrev pub after_begin : ℕ → Account → Account
after_begin key account = record account {
  keys = changed begun key account.keys;
  waiting = without_first key account.waiting;
  opened = if opens key account then account.opened + 1 else account.opened;
}

-- ---- a run ends

-- the session that a run leaves
abbrev pub left_by : After → Option SessionState → Option SessionState
left_by Kept session = session
left_by (Now session) before = session

-- no run of the key is unfinished, and its session is what the run left
abbrev pub finished : After → KeyState → KeyState
finished after state = record state { session = left_by after state.session; running = false }

-- the keys without this one, if it has no session and no run waits for it: then it is forgotten
abbrev pub forgotten : ℕ → List Waiter → List (ℕ × KeyState) → List (ℕ × KeyState)
forgotten key waiting keys =
    if is_some (session_in key keys) || waits key waiting then keys else remove_entry (nat_eq key) keys

-- `end`: the unfinished run of the key has ended
abbrev pub after_end : ℕ → After → Account → Account
after_end key after account = record account {
  keys = forgotten key account.waiting (changed (finished after) key account.keys);
}
