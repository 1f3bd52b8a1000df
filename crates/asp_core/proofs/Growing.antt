-- What entries make of the account of the session keys, one after another.
use Rattle.std.proofs.Common.{◌≡◌, ℕ, ◌+◌, ◌++◌, Bool, true, false, if◌then◌else◌, nat_lt, List, [], ◌∷◌, Option}
use Rattle.std.proofs.Common.{◌<◌, drop, get_or, length, refl, ap, sym, ◌∙◌, subst}
use Rattle.std.proofs.lemmas.List.{drop_more}
use Rattle.asp_job.specs.declared.entry.Entry.{Entry}
use Rattle.asp_job.specs.declared.entry.What.{What}
use Rattle.asp_job.specs.declared.entry.What.TheVariants.{Admit, App, Begin, End, Halt, Queue, Refuse, Stop, Take, Tick}
use Rattle.asp_job.specs.declared.job.Job.{Job}
use Rattle.asp_job.specs.declared.job.Work.{Work}
use Rattle.asp_job.specs.declared.session.SessionState.{SessionState}
use Rattle.asp_job.specs.Journal.{AreRight, IsValidJournal, is_refused, job_now, past_after, queue_entries}
use Rattle.asp_job.specs.Keys.{session_of}
use Rattle.asp_job.specs.Rules.{Rules}
use Rattle.asp_job.specs.Runs.{drawn, moment_of}
use Rattle.asp_job.specs.Turns.{key_asked_by, key_for, needs_key}
use Rattle.asp_session.specs.Account.{Account}
use Rattle.asp_core.specs.Drawing.{drawn_by}
use Rattle.asp_core.specs.Kernel.{stopped_by, ticked}
use Rattle.asp_core.specs.Sessions.{IsAccountOf, Tells, account_admitted, account_after, account_closed, account_grown}
use Rattle.asp_core.specs.Sessions.{account_of, account_queued, sessions_in}
use Rattle.asp_core.proofs.Finishing.{account_step, it_tells}
use Rattle.asp_core.proofs.Staying.{right_before}

-- ---- the account of a longer journal

pub grown_is : (m : Rules) (seed : List ℕ) (past entries : List Entry) → AreRight m (past_after past entries)
    → account_grown m past entries (account_of m seed past) ≡ account_of m seed (past_after past entries)
grown_is m seed past [] right = refl
grown_is m seed past (entry ∷ entries) right =
    let before = right_before m (entry ∷ past) entries right in
    ap (account_grown m (entry ∷ past) entries) (sym (account_step m seed past entry.lane entry.what before.1 before.0))
    ∙ grown_is m seed (entry ∷ past) entries right

-- an account that is read off a journal is then read off the longer one
pub account_then : (m : Rules) (past entries : List Entry) (account then_account : Account) → IsAccountOf m past account
    → IsValidJournal m (past_after past entries) → then_account ≡ account_grown m past entries account
    → IsAccountOf m (past_after past entries) then_account
account_then m past entries account then_account is valid e =
    let new = past_after past entries in
    let whole : then_account ≡ account_of m account.seed new =
    e ∙ ap (account_grown m past entries) is.account_is ∙ grown_is m account.seed past entries valid.entries in
    record {
      journal = valid;
      account_is = whole ∙ ap (λ seed. account_of m seed new) (sym (ap (λ (a : Account). a.seed) whole));
    }

-- what it tells
pub account_tells : (m : Rules) (past : List Entry) (account : Account) → IsAccountOf m past account
    → Tells account past × (sessions_in account ≡ session_of m past)
account_tells m past account is = it_tells m past account is.journal.entries is.account_is

-- one entry after others
pub grown_then : (m : Rules) (past entries : List Entry) (entry : Entry) (account : Account)
    → account_grown m past (entries ++ entry ∷ []) account
    ≡ account_after m (past_after past entries) entry.what (account_grown m past entries account)
grown_then m past [] entry account = refl
grown_then m past (first ∷ entries) entry account =
    grown_then m (first ∷ past) entries entry (account_after m past first.what account)

-- ---- entries that queue runs, and such as leave the account

abbrev IsClosing : What → Type 0
IsClosing (Queue run work key) = Unit {0}
IsClosing (Tick moment) = Unit {0}
IsClosing Stop = Unit {0}
IsClosing _ = ⊥

abbrev pub AreClosing : List Entry → Type 0
AreClosing [] = Unit {0}
AreClosing (entry ∷ entries) = IsClosing entry.what × AreClosing entries

closing_one : (m : Rules) (past : List Entry) (what : What) (account : Account) → IsClosing what
    → account_queued what account ≡ account_after m past what account
closing_one m past (Queue run work key) account is = refl
closing_one m past (Tick moment) account is = refl
closing_one m past Stop account is = refl
closing_one m past (Admit run key fresh job) account is = absurd is
closing_one m past (Refuse run job) account is = absurd is
closing_one m past (Begin run serial) account is = absurd is
closing_one m past (App run call reply) account is = absurd is
closing_one m past (End run kind status size n1 n2) account is = absurd is
closing_one m past (Take run) account is = absurd is
closing_one m past Halt account is = absurd is

pub closed_is : (m : Rules) (past entries : List Entry) (account : Account) → AreClosing entries
    → account_closed entries account ≡ account_grown m past entries account
closed_is m past [] account are = refl
closed_is m past (entry ∷ entries) account are =
    ap (account_closed entries) (closing_one m past entry.what account are.0)
    ∙ closed_is m (entry ∷ past) entries (account_after m past entry.what account) are.1

-- the first of what is left, and the others
pub closed_first : (entries : List Entry) (account : Account) (i : ℕ) (d : Entry) → i < length entries
    → account_closed (drop i entries) account
    ≡ account_closed (drop (i + 1) entries) (account_queued (get_or entries i d).what account)
closed_first entries account i d h = ap (λ list. account_closed list account) (drop_more entries i d h)

queue_closing : (lane run : ℕ) (runs : List (Work × ℕ)) → AreClosing (queue_entries lane run runs)
queue_closing lane run [] = tt
queue_closing lane run (first ∷ rest) = (tt, queue_closing lane (run + 1) rest)

closing_if : (b : Bool) (entries : List Entry) → AreClosing entries → AreClosing (if b then entries else [])
closing_if true entries are = are
closing_if false entries are = tt

pub tick_closing : (sessions : ℕ → Option SessionState) (past more : List Entry) (lane moment : ℕ)
    → more ≡ ticked sessions past lane moment → AreClosing more
tick_closing sessions past more lane moment e =
    subst AreClosing (sym e) (closing_if (nat_lt (moment_of past) moment) _
    (tt, queue_closing lane (drawn past + 1) _))

pub stop_closing : (sessions : ℕ → Option SessionState) (past more : List Entry) (lane : ℕ)
    → more ≡ stopped_by sessions past lane → AreClosing more
stop_closing sessions past more lane e =
    subst AreClosing (sym e) (tt, queue_closing lane (drawn past + 1) _)

-- ---- the entry of a job

admit_if : (m : Rules) (past : List Entry) (refused : Bool) (run key : ℕ) (fresh : Bool) (job : Job) (account : Account)
    → account_admitted (if refused then Refuse run job else Admit run key fresh job) account
    ≡ account_after m past (if refused then Refuse run job else Admit run key fresh job) account
admit_if m past true run key fresh job account = refl
admit_if m past false run key fresh job account = refl

pub drawn_is : (m : Rules) (sessions : ℕ → Option SessionState) (past : List Entry) (lane : ℕ) (job : Job)
    (account : Account) → account_admitted (drawn_by m sessions past lane job).what account
    ≡ account_after m past (drawn_by m sessions past lane job).what account
drawn_is m sessions past lane job account =
    let now = job_now past job in
    let keyed = m.meaning.is_keyed now in
    let asked = key_asked_by m now in
    admit_if m past (is_refused keyed asked sessions past) (drawn past + 1) (key_for keyed asked sessions past)
    (needs_key keyed asked sessions past) now account
