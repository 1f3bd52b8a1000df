-- The account of the session keys, read off a journal, and what each entry makes of it. All of it is our own.
use Rattle.std.specs.Prelude.{◌≡◌, ℕ, ◌==◌, ◌&&◌, Bool, true, false, not, if◌then◌else◌}
use Rattle.std.specs.Prelude.{List, [], ◌∷◌, filter, map, Option}
use Rattle.std.specs.List.{list_any}
use Rattle.asp_job.specs.declared.entry.EndKind.{EndKind}
use Rattle.asp_job.specs.declared.entry.EndKind.TheVariants as kind
use Rattle.asp_job.specs.declared.entry.Entry.{Entry}
use Rattle.asp_job.specs.declared.entry.What.{What}
use Rattle.asp_job.specs.declared.entry.What.TheVariants.{Queue, Admit, Begin, End}
use Rattle.asp_job.specs.declared.job.Work.{Work}
use Rattle.asp_job.specs.declared.job.Work.TheVariants as work
use Rattle.asp_job.specs.declared.session.SessionState.{SessionState}
use Rattle.asp_job.specs.Journal.{IsValidJournal}
use Rattle.asp_job.specs.Keys.{made, opened, live, session_of, session_left, told, last_asked, is_closing}
use Rattle.asp_job.specs.Rules.{Rules}
use Rattle.asp_job.specs.Runs.{numbers, drawn, key_of, job_of, is_unfinished, is_waiting}
use Rattle.asp_session.specs.declared.after.After.{After}
use Rattle.asp_session.specs.declared.after.After.TheVariants.{Kept, Now}
use Rattle.asp_session.specs.declared.key.KeyState.{KeyState}
use Rattle.asp_session.specs.declared.key.Waiter.{Waiter}
use Rattle.asp_session.specs.Account.{Account}
use Rattle.asp_session.specs.Reading.{session_in}
use Rattle.asp_session.specs.Steps.{after_begin, after_end, queued, touched, with_key}

-- ---- read off a journal

-- whether one of the key's runs is unfinished
abbrev pub runs_for : List Entry → ℕ → ℕ → Bool
runs_for past k r = key_of past r == k && is_unfinished past r

abbrev pub is_running : List Entry → ℕ → Bool
is_running past k = list_any (runs_for past k) (numbers (drawn past))

-- What is kept of a key. In this and the next, `sessions` is the session of each key.
abbrev pub state_at : (ℕ → Option SessionState) → List Entry → ℕ → KeyState
state_at sessions past k = record {
  session = sessions k;
  asked = last_asked past k;
  running = is_running past k;
  closing = is_closing past k;
}

-- the live keys, in order, each with what is kept of it
abbrev pub keys_by : (ℕ → Option SessionState) → List Entry → List (ℕ × KeyState)
keys_by sessions past = map (λ k. (k, state_at sessions past k)) (live sessions past)

-- whether the work is the end of a session
abbrev pub is_session_end : Work → Bool
is_session_end work.SessionEnd = true
is_session_end _ = false

-- the runs with a key that wait, in order
abbrev pub waits_keyed : List Entry → ℕ → Bool
waits_keyed past r = is_waiting past r && not (key_of past r == 0)

abbrev pub waiter_of : List Entry → ℕ → Waiter
waiter_of past r = record { key = key_of past r; run = r; last = is_session_end (job_of past r).work }

abbrev pub waiters_of : List Entry → List Waiter
waiters_of past = map (waiter_of past) (filter (waits_keyed past) (numbers (drawn past)))

-- the account of the session keys, whose letters come from the seed
abbrev pub account_of : Rules → List ℕ → List Entry → Account
account_of rules seed past = record {
  seed = seed;
  keys = keys_by (session_of rules past) past;
  waiting = waiters_of past;
  made = made past;
  opened = opened rules past;
}

-- ---- what each entry makes of it

-- an entry about a run of no key leaves it
abbrev pub if_keyed : ℕ → Account → Account → Account
if_keyed key account changed = if key == 0 then account else changed

-- a job comes with a key that was made for it, or with the one that it asked for
abbrev pub asked_for : ℕ → Bool → ℕ → Account → Account
asked_for key fresh moment account = if fresh then with_key moment account else touched key moment account

-- what a run that ends so leaves of its session, where that is what it left by itself
abbrev pub after_of : EndKind → Option SessionState → After
after_of kind.Done session = Now session
after_of kind.Memory session = Kept
after_of kind.JournalFull session = Kept

-- what its meaning leaves
abbrev pub left_after : Rules → List Entry → ℕ → EndKind → After
left_after rules past run kind = after_of kind (session_left (rules.meaning.does (told rules past run)))

-- a run is queued; any other entry leaves it
abbrev pub account_queued : What → Account → Account
account_queued (Queue run work key) account = if_keyed key account (queued key run (is_session_end work) account)
account_queued _ account = account

-- a job is admitted; any other entry leaves it
abbrev pub account_admitted : What → Account → Account
account_admitted (Admit run key fresh job) account =
    if_keyed key account (queued key run false (asked_for key fresh job.moment account))
account_admitted _ account = account

-- a run begins, and ends
abbrev pub account_begun : List Entry → ℕ → Account → Account
account_begun past run account = if_keyed (key_of past run) account (after_begin (key_of past run) account)

abbrev pub account_ended : ℕ → After → Account → Account
account_ended key after account = if_keyed key account (after_end key after account)

-- the step of an entry after these
abbrev pub account_after : Rules → List Entry → What → Account → Account
account_after rules past (Begin run serial) account = account_begun past run account
account_after rules past (End run kind status size made finished) account =
    account_ended (key_of past run) (left_after rules past run kind) account
account_after rules past (Queue run work key) account = account_queued (Queue run work key) account
account_after rules past (Admit run key fresh job) account = account_admitted (Admit run key fresh job) account
account_after rules past _ account = account

-- the steps of entries, the oldest first
abbrev pub account_grown : Rules → List Entry → List Entry → Account → Account
account_grown rules past [] account = account
account_grown rules past (entry ∷ entries) account =
    account_grown rules (entry ∷ past) entries (account_after rules past entry.what account)

-- the same of entries that queue runs, and of such as leave the account
abbrev pub account_closed : List Entry → Account → Account
account_closed [] account = account
account_closed (entry ∷ entries) account = account_closed entries (account_queued entry.what account)

-- ---- what an account tells

-- the session of each key
abbrev pub sessions_in : Account → ℕ → Option SessionState
sessions_in account k = session_in k account.keys

-- The account is that of a journal, where the sessions are its own.
pub record Tells (account : Account) (past : List Entry) : Type 0 where
  pub keys_are : account.keys ≡ keys_by (sessions_in account) past
  pub waiting_are : account.waiting ≡ waiters_of past
  pub made_is : account.made ≡ made past

-- the journal is valid, and the account is read off it
pub record IsAccountOf (rules : Rules) (past : List Entry) (account : Account) : Type 0 where
  pub journal : IsValidJournal rules past
  pub account_is : account ≡ account_of rules account.seed past
