-- The keys whose sessions are over, and those that are live.
use Rattle.std.proofs.Common.{◌≡◌, ℕ, ◌≤◌, Bool, true, false, if◌then◌else◌, List, [], length, refl, ap, ◌∙◌, Option}
use Rattle.std.proofs.Common.{arith}
use Rattle.asp_job.specs.declared.entry.Entry.{Entry}
use Rattle.asp_job.specs.declared.session.SessionState.{SessionState}
use Rattle.asp_job.specs.History.{entries_in}
use Rattle.asp_job.specs.Keys.{due_at, is_live, live, made}
use Rattle.asp_job.specs.Runs.{is_stopping, numbers}
use Rattle.asp_session.specs.Account as kept
use Rattle.asp_session.specs.Account.{Account}
use Rattle.asp_journal.proofs.Bounds.{made_small}
use Rattle.asp_journal.proofs.Open.{length_numbers, passed_few}
use Rattle.asp_core.specs.Sessions.{Tells, sessions_in}
use Rattle.asp_core.proofs.Accounts.{due_are, live_are}
use Rattle.asp_core.proofs.Fits.{stop_calm, stop_fit, tick_calm, tick_fit}
use Rattle.asp_core.proofs.Growing.{account_tells}
use Rattle.asp_core.proofs.Kept.{stopped_is, ticked_is}
use Rattle.asp_core.proofs.Ticking.{due_length}

none_if : (stopping : Bool) (keys : List ℕ) → stopping ≡ true → (if stopping then [] else keys) ≡ []
none_if stopping keys e = rw e refl

all_if : (stopping : Bool) (keys : List ℕ) → stopping ≡ false → keys ≡ (if stopping then [] else keys)
all_if stopping keys e = rw e refl

-- none are after a Stop
pub due_none : (account : Account) (past : List Entry) (moment : ℕ) → is_stopping past ≡ true
    → due_at (sessions_in account) past moment ≡ []
due_none account past moment stopping = none_if (is_stopping past) _ stopping

pub due_told : (account : Account) (past : List Entry) (moment : ℕ) → Tells account past → is_stopping past ≡ false
    → kept.due moment account ≡ due_at (sessions_in account) past moment
due_told account past moment tells going = due_are account past moment tells ∙ all_if (is_stopping past) _ going

-- as many at most as entries that count
pub due_few : (sessions : ℕ → Option SessionState) (past : List Entry) (moment : ℕ)
    → length (due_at sessions past moment) ≤ entries_in past
due_few sessions past moment =
    let all = due_length sessions past moment in
    let small = made_small past in
    omega arith

pub live_few : (account : Account) (past : List Entry) → Tells account past
    → length (kept.live account) ≤ entries_in past
live_few account past tells =
    let is : length (kept.live account) ≡ length (live (sessions_in account) past) = ap length (live_are account past tells) in
    let all = passed_few (is_live (sessions_in account) past) (numbers (made past)) in
    let size = length_numbers (made past) in
    let small = made_small past in
    omega arith

-- of a Tick, and of a Stop
pub ruleset of_ticks = (account_tells, ticked_is, tick_fit, tick_calm)

pub ruleset of_stops = (account_tells, stopped_is, stop_fit, stop_calm)
