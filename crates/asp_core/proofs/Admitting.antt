-- What a job leaves of a right journal.
use Rattle.std.proofs.Common.{◌≡◌, ℕ, ◌+◌, ◌<◌, ◌≤◌, ◌&&◌, Bool, true, false, if◌then◌else◌, List}
use Rattle.std.proofs.Common.{[], ◌∷◌, ◌++◌, length, reverse, Option, Some, None, refl}
use Rattle.std.proofs.Common.{ap, sym, ◌∙◌, subst, arith, inl, inr, length-append}
use Rattle.std.proofs.lemmas.Bool.{cases_Bool}
use Rattle.std.proofs.lemmas.List.{reverse-append}
use Rattle.asp_core.specs.Drawing.{answer_for, drawn_then, entries_by, entry_then, told_of, tick_before}
use Rattle.asp_core.specs.Book.{BookView, IsSound, past_in}
use Rattle.asp_core.specs.Calm.{AreCalm}
use Rattle.asp_core.specs.Kernel.{IsKept, rules_by}
use Rattle.asp_core.specs.Ready.{with_answer}
use Rattle.asp_core.specs.Sessions.{account_after, account_grown, sessions_in}
use Rattle.asp_core.specs.Standing.{stand_in}
use Rattle.asp_core.specs.Taking.{HasTaken, refused_before}
use Rattle.asp_app.specs.View.{AppView}
use Rattle.asp_job.specs.History.{with_lane}
use Rattle.asp_job.specs.Journal.{admission, admit_entries, is_refused, job_now, past_after, tick_entries}
use Rattle.asp_job.specs.Keys.{session_of}
use Rattle.asp_job.specs.Output.{unavailable_in}
use Rattle.asp_job.specs.Rules.{Rules, TooManySessions}
use Rattle.asp_job.specs.Running.{is_page}
use Rattle.asp_job.specs.Runs.{drawn, is_stopping}
use Rattle.asp_job.specs.Size.{IsSmall}
use Rattle.asp_job.specs.Told.{Meaning}
use Rattle.asp_job.specs.Turns.{IsAsked, has_most_keys, key_asked_by, key_for, needs_key, waiting_pages}
use Rattle.asp_job.specs.declared.answer.Answer.{Answer}
use Rattle.asp_job.specs.declared.answer.Fail.{Fail}
use Rattle.asp_job.specs.declared.entry.Entry.{Entry}
use Rattle.asp_job.specs.declared.entry.TheConstants.{MOST_WAITING}
use Rattle.asp_job.specs.declared.entry.What.{What}
use Rattle.asp_job.specs.declared.entry.What.TheVariants.{Admit, Refuse}
use Rattle.asp_job.specs.declared.job.Job.{Job}
use Rattle.asp_job.specs.declared.job.Work.{Work}
use Rattle.asp_job.specs.declared.job.Work.TheVariants as work
use Rattle.asp_job.specs.declared.session.SessionState.{SessionState}
use Rattle.asp_response.specs.declared.fixed.Unavailable.TheVariants as cause
use Rattle.asp_session.specs.Account.{Account}
use Rattle.asp_core.proofs.Failing.{fail_calm}
use Rattle.asp_core.proofs.Fits.{job_calm}
use Rattle.asp_core.proofs.Growing.{account_tells, account_then, grown_then}
use Rattle.asp_core.proofs.Kept.{may_follow, kept_tick, grown_past, past_after_is, quiet_tick}
use Rattle.asp_core.proofs.Refusing.{none_before}
use Rattle.asp_core.proofs.Waiting.{tick_stopping, tick_waiting}
use Rattle.asp_core.specs.declared.setting.Setting.{Setting}

and_left : (a b : Bool) → (a && b) ≡ true → a ≡ true
and_left true b e = refl
and_left false b e = e

and_right : (a b : Bool) → (a && b) ≡ true → b ≡ true
and_right true b e = e
and_right false b e = absurd cc

-- the answer of a refused job
pub refused_answer : (m : Meaning) (setting : Setting) (work : Work) → stand_in cause.TooManySessions work
    ≡ unavailable_in (rules_by m setting) TooManySessions work
refused_answer m setting (work.Page request) = refl
refused_answer m setting work.Start = refl
refused_answer m setting work.SessionEnd = refl
refused_answer m setting work.Stop = refl

-- the entry of a job is one of two
abbrev drawn_if : Bool → ℕ → ℕ → Bool → Job → What
drawn_if refused run key fresh job = if refused then Refuse run job else Admit run key fresh job

abbrev KeptWith : Rules → List Entry → Account → AppView → List (ℕ × Answer) → ℕ → What → Type 0
KeptWith m past account held answers lane what =
    IsKept m (with_lane lane what ∷ past) (account_after m past what account) held
    (with_answer answers (told_of what).run (answer_for what))

kept_refused : (m : Meaning) (setting : Setting) (past : List Entry) (account : Account)
    (held : AppView) (answers : List (ℕ × Answer)) (lane : ℕ) (job : Job) → let rules = rules_by m setting in
    IsKept rules past account held answers → IsAsked past job → IsSmall job
    → needs_key (m.is_keyed job) (key_asked_by rules job) (session_of rules past) past ≡ true
    → has_most_keys (session_of rules past) past ≡ true → KeptWith rules past account held answers lane
    (Refuse (drawn past + 1) job)
kept_refused m setting past account held answers lane job kept asked small needs most =
    let rules = rules_by m setting in
    let entry = with_lane lane (Refuse (drawn past + 1) job) in
    let turn = may_follow rules past entry kept.sessions.journal.settled
    (record { asked = asked; number = refl; needs = needs; most = most }) in
    record {
      sessions = account_then rules past (entry ∷ []) account (account_after rules past entry.what account) kept.sessions
          (record {
            entries = (record { turn = turn; legal = tt; follows = tt }, kept.sessions.journal.entries);
            settled = refl;
          }) refl;
      held_is = kept.held_is;
      answers_are = ap (λ list. with_answer list (drawn past + 1) (stand_in cause.TooManySessions job.work))
          kept.answers_are
          ∙ ap (with_answer _ (drawn past + 1)) (refused_answer m setting job.work);
      answered = (tt, kept.answered);
      formed = (small, kept.formed);
    }

kept_admitted : (m : Meaning) (setting : Setting) (past : List Entry) (account : Account)
    (held : AppView) (answers : List (ℕ × Answer)) (lane : ℕ) (job : Job) → let rules = rules_by m setting in
    IsKept rules past account held answers → IsAsked past job → IsSmall job
    → is_refused (m.is_keyed job) (key_asked_by rules job) (session_of rules past) past ≡ false
    → KeptWith rules past account held answers lane
    (Admit (drawn past + 1) (key_for (m.is_keyed job) (key_asked_by rules job) (session_of rules past) past)
    (needs_key (m.is_keyed job) (key_asked_by rules job) (session_of rules past) past) job)
kept_admitted m setting past account held answers lane job kept asked small live =
    let rules = rules_by m setting in
    let fresh = needs_key (m.is_keyed job) (key_asked_by rules job) (session_of rules past) past in
    let key = key_for (m.is_keyed job) (key_asked_by rules job) (session_of rules past) past in
    let entry = with_lane lane (Admit (drawn past + 1) key fresh job) in
    let turn = may_follow rules past entry kept.sessions.journal.settled
    (record { asked = asked; number = refl; key_is = refl; fresh_is = refl; live = live }) in
    record {
      sessions = account_then rules past (entry ∷ []) account (account_after rules past entry.what account) kept.sessions
          (record {
            entries = (record { turn = turn; legal = tt; follows = tt }, kept.sessions.journal.entries);
            settled = refl;
          }) refl;
      held_is = kept.held_is;
      answers_are = kept.answers_are;
      answered = (tt, kept.answered);
      formed = (small, kept.formed);
    }

kept_drawn : (m : Meaning) (setting : Setting) (past : List Entry) (account : Account)
    (held : AppView) (answers : List (ℕ × Answer)) (lane : ℕ) (job : Job) → let rules = rules_by m setting in
    IsKept rules past account held answers → IsAsked past job → IsSmall job → KeptWith rules past account held
    answers lane (admission (m.is_keyed job) (key_asked_by rules job) (session_of rules past) past job)
kept_drawn m setting past account held answers lane job kept asked small =
    let rules = rules_by m setting in
    let keyed = m.is_keyed job in
    let key = key_asked_by rules job in
    let needs = needs_key keyed key (session_of rules past) past in
    let Kept : Bool → Type 0 = λ b. KeptWith rules past account held answers lane
    (drawn_if b (drawn past + 1) (key_for keyed key (session_of rules past) past) needs job) in
    elim (cases_Bool (is_refused keyed key (session_of rules past) past)) [
      | inl refused ↦ subst Kept (sym refused) (kept_refused m setting past account held answers lane job kept asked
          small (and_left _ _ refused) (and_right _ _ refused))
      | inr taken ↦ subst Kept (sym taken) (kept_admitted m setting past account held answers lane job kept asked
          small
          taken)
    ]

-- the past of a journal with a Tick and the entry of a job
joined : (m : Rules) (past : List Entry) (lane : ℕ) (job : Job) → past_after past (admit_entries m past lane job)
    ≡ entry_then m past lane job ∷ past_after past (tick_entries m past lane job.moment)
joined m past lane job =
    let entries = tick_entries m past lane job.moment in
    let entry = entry_then m past lane job in
    past_after_is past (entries ++ entry ∷ []) ∙ ap (λ xs. xs ++ past) (reverse-append entries (entry ∷ []))
    ∙ ap (λ xs. entry ∷ xs) (sym (past_after_is past entries))

-- a journal with a Tick where the job's moment is greater, and the entry of the job
pub kept_after_job : (m : Meaning) (setting : Setting) (journal next : List Entry) (account then_account : Account)
    (held : AppView) (answers : List (ℕ × Answer)) (lane : ℕ) (job : Job) → let rules = rules_by m setting in
    let past = reverse journal in let what = (entry_then rules past lane job).what in IsKept rules past account held
    answers → is_stopping past ≡ false → is_page job.work ≡ true → IsSmall job
    → length (waiting_pages past) < MOST_WAITING → next ≡ journal ++ admit_entries rules past lane job
    → then_account ≡ account_grown rules past (admit_entries rules past lane job) account
    → IsKept rules (reverse next) then_account held (with_answer answers (told_of what).run (answer_for what))
kept_after_job m setting journal next account then_account held answers lane job kept going page small few e grown =
    let rules = rules_by m setting in
    let past = reverse journal in
    let entries = tick_entries rules past lane job.moment in
    let then_past = past_after past entries in
    let now = job_now then_past job in
    let then_going : is_stopping then_past ≡ false = tick_stopping rules past lane job.moment ∙ going in
    let then_few : length (waiting_pages then_past) < MOST_WAITING = rw (tick_waiting rules past lane job.moment) few in
    let asked : IsAsked then_past now = record { «open» = then_going; page = page; moment = refl; few = then_few } in
    let after = kept_drawn m setting then_past (account_grown rules past entries account) held answers lane now
    (kept_tick rules past account held answers lane job.moment kept) asked small in
    rw (
      grown_past journal next (admit_entries rules past lane job) e ∙ joined rules past lane job,
      grown ∙ grown_then rules past entries (entry_then rules past lane job) account,
    ) after

-- the entry that the code makes of a job is the job's
pub job_entry : (m : Rules) (past : List Entry) (sessions : ℕ → Option SessionState) (lane : ℕ) (job : Job)
    → sessions ≡ session_of m past → drawn_then m sessions past lane job ≡ entry_then m past lane job
job_entry m past sessions lane job right =
    let then_past = past_after past (tick_entries m past lane job.moment) in
    let now = job_now then_past job in
    let then_right : session_of m then_past ≡ session_of m past = (quiet_tick m past lane job.moment).sessions in
    ap (λ s. drawn_then m s past lane job) right
    ∙ ap (λ s. with_lane lane (admission (m.meaning.is_keyed now) (key_asked_by m now) s then_past now))
    (sym then_right)

-- what the code makes of a job is what the job adds
pub job_made : (m : Rules) (past : List Entry) (sessions : ℕ → Option SessionState) (lane : ℕ) (job : Job)
    → sessions ≡ session_of m past → entries_by m sessions past lane job ≡ admit_entries m past lane job
job_made m past sessions lane job right =
    let entries = tick_entries m past lane job.moment in
    ap (λ s. tick_before s past lane job ++ drawn_then m sessions past lane job ∷ []) right
    ∙ ap (λ entry. entries ++ entry ∷ []) (job_entry m past sessions lane job right)

-- what a core keeps after a job
pub sound_taken : (m : Meaning) (setting : Setting) (old new : BookView) (account then_account : Account)
    (held : AppView) (fail : Option Fail) (lane : ℕ) (job : Job) → let rules = rules_by m setting in
    IsSound rules (past_in old) account held old.answers fail → refused_before (past_in old) ≡ None
    → is_page job.work ≡ true → IsSmall job → HasTaken rules lane job old account new then_account
    → IsSound rules (past_in new) then_account held new.answers fail
sound_taken m setting old new account then_account held fail lane job sound none page small taken =
    let rules = rules_by m setting in
    let past = past_in old in
    let free = none_before past none in
    let whole = kept_after_job m setting old.items new.items account then_account held old.answers lane job sound.0
    free.0 page small free.1 taken.items_are taken.account_is in
    let sessions = sessions_in account in
    let made = job_made rules past sessions lane job (account_tells rules past account sound.0.sessions).1 in
    let calm = subst AreCalm made (job_calm rules sessions past lane job) in (
      rw taken.answers_are whole,
      taken.within,
      sound.2 ∙ sym (fail_calm rules old.items new.items _ taken.items_are calm),
    )

-- one answer more at most
pub answers_few : (answers : List (ℕ × Answer)) (run : ℕ) (answer : Option Answer)
    → length (with_answer answers run answer) ≤ length answers + 1
answers_few answers run None = omega arith
answers_few answers run (Some answer) = let size = length-append answers ((run, answer) ∷ []) in omega arith
