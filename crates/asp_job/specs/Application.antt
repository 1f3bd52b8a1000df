-- The Application object (ASP 3.0, "Application Object"), as runs call it one after another. Its lock, its limit and
-- the form of its names are our own.
use Rattle.std.specs.Prelude.{◌≢◌, ℕ, zero, suc, ◌≤◌, ◌==◌, nat_eq, nat_lt, ℤ, pos, negsuc, Bool, true, false}
use Rattle.std.specs.Prelude.{if◌then◌else◌, List, [], ◌∷◌, length, map, sum_by, slice_get, All, AllPairs}
use Rattle.std.specs.Prelude.{Option, Some, None, IsSome, unwrap_or}
use Rattle.std.specs.Cmp.Lexicographic.{pointwise}
use Rattle.std.specs.Map.{lookup, remove_entry}
use Rattle.std.specs.Option.{option_map_or}
use Rattle.vb_value.specs.declared.application.AppCall.{AppCall}
use Rattle.vb_value.specs.declared.application.AppCall.TheVariants as call
use Rattle.vb_value.specs.declared.application.AppReply.{AppReply}
use Rattle.vb_value.specs.declared.application.AppReply.TheVariants as reply
use Rattle.vb_value.specs.declared.value.Value.{Value, Empty}
use Rattle.asp_job.specs.Calls.{IsName, IsShared}
use Rattle.asp_job.specs.Session.{entry_weight}

-- the entries, each a name and its value, in the order of their first writing; and the run that has the lock
pub record AppState : Type 0 where
  pub entries : List (List ℕ × Value)
  pub holder : Option ℕ

-- the object before any call
abbrev pub first_state : AppState
first_state = record { entries = []; holder = None }

-- ---- entries

-- whether a name is this one; both are folded
abbrev pub is_name : List ℕ → List ℕ → Bool
is_name name = pointwise nat_eq name

-- the value of a name, Empty where it is absent
abbrev pub value_under : List ℕ → List (List ℕ × Value) → Value
value_under name entries = unwrap_or (lookup (is_name name) entries) Empty

-- the entries with this value for the name, in its place, or last where it is absent
abbrev pub with_value : List ℕ → Value → List (List ℕ × Value) → List (List ℕ × Value)
with_value name value [] = (name, value) ∷ []
with_value name value (entry ∷ entries) =
    if is_name name entry.0 then (entry.0, value) ∷ entries else entry ∷ with_value name value entries

-- the entries without the name, as they are where it is absent
abbrev pub without : List ℕ → List (List ℕ × Value) → List (List ℕ × Value)
without name entries = remove_entry (is_name name) entries

-- the name at a place, counted from 1
abbrev pub name_at : ℤ → List (List ℕ × Value) → AppReply
name_at (pos zero) entries = reply.NoName
name_at (pos (suc before)) entries = option_map_or (λ entry. reply.Name entry.0) (slice_get entries before) reply.NoName
name_at (negsuc less) entries = reply.NoName

-- what an entry weighs: as much as an entry of a session
abbrev pub weight_of_entry : List ℕ × Value → ℕ
weight_of_entry entry = entry_weight (record { name = entry.0; value = entry.1 })

-- what all of them weigh
abbrev pub weight_of_entries : List (List ℕ × Value) → ℕ
weight_of_entries entries = sum_by weight_of_entry entries

-- the most that they may weigh: 16 MiB
abbrev pub most_weight : ℕ
most_weight = 16777216

-- ---- the lock

-- whether the run has the lock
abbrev pub has_lock : ℕ → AppState → Bool
has_lock run state = option_map_or (λ holder. holder == run) state.holder false

-- the lock let go if the run has it; so does the end of a run
abbrev pub freed : ℕ → AppState → AppState
freed run state = if has_lock run state then record state { holder = None } else state

-- Whether the call is one that another run's lock keeps out: a write and Lock always, a read under the strict rule, and
-- Unlock never.
abbrev pub is_guarded : Bool → AppCall → Bool
is_guarded strict (call.Put name value) = true
is_guarded strict (call.Remove name) = true
is_guarded strict call.RemoveAll = true
is_guarded strict call.Lock = true
is_guarded strict (call.Get name) = strict
is_guarded strict call.Count = strict
is_guarded strict (call.KeyAt place) = strict
is_guarded strict call.Names = strict
is_guarded strict call.Unlock = false

-- The run whose lock keeps out a call of this run, if one does. The run that has the lock is never kept out.
abbrev pub blocker_of : Bool → AppState → ℕ → AppCall → Option ℕ
blocker_of strict state run call =
    if has_lock run state then None else if is_guarded strict call then state.holder else None

-- another run has the lock, and it keeps the call out
abbrev pub Blocks : Bool → AppState → ℕ → AppCall → Type 0
Blocks strict state run call = IsSome (blocker_of strict state run call)

-- ---- calls

-- whether these entries are too heavy
abbrev pub is_full : List (List ℕ × Value) → Bool
is_full entries = nat_lt most_weight (weight_of_entries entries)

-- the state with other entries, unless they are too heavy: then nothing changes
abbrev pub filled : AppState → List (List ℕ × Value) → AppState × AppReply
filled state entries = if is_full entries then (state, reply.Full) else (record state { entries = entries }, reply.Done)

-- a call of a run that is let through: the state after it, and the reply
abbrev pub apply : AppState → ℕ → AppCall → AppState × AppReply
apply state run (call.Get name) = (state, reply.Value (value_under name state.entries))
apply state run (call.Put name value) = filled state (with_value name value state.entries)
apply state run (call.Remove name) = (record state { entries = without name state.entries }, reply.Done)
apply state run call.RemoveAll = (record state { entries = [] }, reply.Done)
apply state run call.Count = (state, reply.Number (pos (length state.entries)))
apply state run (call.KeyAt place) = (state, name_at place state.entries)
apply state run call.Names = (state, reply.Names (map (λ entry. entry.0) state.entries))
apply state run call.Lock = (record state { holder = Some run }, reply.Done)
apply state run call.Unlock = (freed run state, reply.Done)

-- ---- what a state may be

-- an entry that may be: its name is folded, and its value plain and sound
pub record IsAppEntry (entry : List ℕ × Value) : Type 0 where
  pub name : IsName entry.0
  pub shared : IsShared entry.1

-- two entries of different names
abbrev pub NamesDiffer : List ℕ × Value → List ℕ × Value → Type 0
NamesDiffer one other = one.0 ≢ other.0

-- a state that may be: its entries may be, their names differ, and they weigh 16 MiB at most
pub record IsAppState (state : AppState) : Type 0 where
  pub entries : All IsAppEntry state.entries
  pub differ : AllPairs NamesDiffer state.entries
  pub light : weight_of_entries state.entries ≤ most_weight
