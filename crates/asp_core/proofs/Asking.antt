-- What a job makes of the account of the session keys: its Tick, and the job itself.
use Rattle.std.proofs.Common.{◌≡◌, ◌++◌, ℕ, List, reverse, refl, ap, sym, ◌∙◌, subst, Option}
use Rattle.asp_job.specs.declared.entry.Entry.{Entry}
use Rattle.asp_job.specs.declared.job.Job.{Job}
use Rattle.asp_job.specs.declared.session.SessionState.{SessionState}
use Rattle.asp_job.specs.Journal.{IsValidJournal, past_after, tick_entries}
use Rattle.asp_job.specs.Keys.{session_of}
use Rattle.asp_job.specs.Rules.{Rules}
use Rattle.asp_session.specs.Account.{Account}
use Rattle.asp_core.specs.Drawing.{drawn_by, drawn_then, entries_by, tick_before}
use Rattle.asp_core.specs.Sessions.{IsAccountOf, Tells, account_admitted, account_closed, account_grown, sessions_in}
use Rattle.asp_core.proofs.Growing.{account_tells, account_then, closed_is, drawn_is, grown_then, tick_closing}
use Rattle.asp_core.proofs.Kept.{grown_past, quiet_tick, ticked_is, valid_tick}
use Rattle.asp_core.proofs.Ticking.{then_drawn}

-- the account after the Tick
pub ticked_account : (m : Rules) (past more : List Entry) (account then_account : Account) (lane : ℕ) (job : Job)
    → IsAccountOf m past account → more ≡ tick_before (sessions_in account) past lane job
    → then_account ≡ account_closed more account → IsAccountOf m (past_after past more) then_account
ticked_account m past more account then_account lane job is e closed =
    let owed : more ≡ tick_entries m past lane job.moment = e ∙ ticked_is m past account lane job.moment is in
    account_then m past more account then_account is
    (subst (λ entries. IsValidJournal m (past_after past entries)) (sym owed)
    (valid_tick m past lane job.moment is.journal))
    (closed ∙ closed_is m past more account (tick_closing (sessions_in account) past more lane job.moment e))

-- it tells of the keys then, and the Tick leaves their sessions
pub ticked_tells : (m : Rules) (journal mid more : List Entry) (account then_account : Account) (lane : ℕ) (job : Job)
    → IsAccountOf m (reverse journal) account → more ≡ tick_before (sessions_in account) (reverse journal) lane job
    → mid ≡ journal ++ tick_before (sessions_in account) (reverse journal) lane job
    → then_account ≡ account_closed more account
    → Tells then_account (reverse mid) × (sessions_in then_account ≡ sessions_in account)
ticked_tells m journal mid more account then_account lane job is tick e closed =
    let past = reverse journal in
    let owed : more ≡ tick_entries m past lane job.moment = tick ∙ ticked_is m past account lane job.moment is in
    let of : reverse mid ≡ past_after past more =
    grown_past journal mid (tick_before (sessions_in account) past lane job) e
    ∙ ap (λ entries. past_after past entries) (sym tick) in
    let tells = account_tells m (past_after past more) then_account
    (ticked_account m past more account then_account lane job is tick closed) in (
      subst (Tells then_account) (sym of) tells.0,
      tells.1 ∙ ap (λ entries. session_of m (past_after past entries)) owed
          ∙ (quiet_tick m past lane job.moment).sessions ∙ sym (account_tells m past account is).1,
    )

-- the account after both
pub asked_account : (m : Rules) (journal mid more : List Entry) (account mid_account then_account : Account) (lane : ℕ)
    (job : Job) → let sessions = sessions_in account in let past = reverse journal in
    more ≡ tick_before sessions past lane job → mid ≡ journal ++ tick_before sessions past lane job
    → mid_account ≡ account_closed more account → sessions_in mid_account ≡ sessions
    → then_account ≡ account_admitted (drawn_by m (sessions_in mid_account) (reverse mid) lane job).what mid_account
    → then_account ≡ account_grown m past (entries_by m sessions past lane job) account
asked_account m journal mid more account mid_account then_account lane job tick e closed same is =
    let sessions = sessions_in account in
    let past = reverse journal in
    let ticks = tick_before sessions past lane job in
    let grown : mid_account ≡ account_grown m past ticks account =
    closed ∙ ap (λ entries. account_closed entries account) tick
    ∙ closed_is m past ticks account (tick_closing sessions past ticks lane job.moment refl) in
    is
    ∙ ap (λ (s : ℕ → Option SessionState). account_admitted (drawn_by m s (reverse mid) lane job).what mid_account) same
    ∙ ap (λ (entry : Entry). account_admitted entry.what mid_account) (then_drawn m sessions journal mid lane job e)
    ∙ ap (account_admitted (drawn_then m sessions past lane job).what) grown
    ∙ drawn_is m sessions (past_after past ticks) lane job (account_grown m past ticks account)
    ∙ sym (grown_then m past ticks (drawn_then m sessions past lane job) account)
