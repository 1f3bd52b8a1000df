-- What a Tick, a Stop and the runs that are then owed leave of a right journal.
use Rattle.std.proofs.Common.{◌≡◌, ℕ, ◌+◌, ◌<◌, ◌≤◌, false, List, [], ◌∷◌, ◌++◌, reverse, refl, ap, sym, ◌∙◌, Bool}
use Rattle.std.proofs.Common.{subst, arith, append_assoc, nat_lt, drop, inl, inr}
use Rattle.std.proofs.lemmas.List.{reverse-append}
use Rattle.std.proofs.lemmas.Bool.{lt-ltb, cases_lt}
use Rattle.asp_core.specs.Kernel.{AreWellFormed, IsKept, stopped_by, ticked}
use Rattle.asp_core.specs.Ready.{ready, IsAnswered}
use Rattle.asp_core.specs.Sessions.{IsAccountOf, account_closed, account_grown, sessions_in}
use Rattle.asp_core.proofs.Growing.{account_tells, account_then, closed_is, stop_closing, tick_closing}
use Rattle.asp_app.specs.View.{AppView}
use Rattle.asp_job.specs.Application.{AppState}
use Rattle.asp_job.specs.History.{held_by, with_lane}
use Rattle.asp_job.specs.Journal.{AreRight, IsRight, IsValidJournal, past_after, queue_entries, stop_entries}
use Rattle.asp_job.specs.Journal.{tick_entries, with_owed}
use Rattle.asp_job.specs.Keys.{session_of}
use Rattle.asp_job.specs.Rules.{Rules}
use Rattle.asp_job.specs.Runs.{drawn, is_stopping, moment_of}
use Rattle.asp_job.specs.Turns.{HasLaneOf, IsNext, MayFollow, owed}
use Rattle.asp_job.specs.declared.answer.Answer.{Answer}
use Rattle.asp_job.specs.declared.entry.Entry.{Entry}
use Rattle.asp_job.specs.declared.entry.What.TheVariants.{Queue, Stop, Tick}
use Rattle.asp_job.specs.declared.job.Work.{Work}
use Rattle.asp_session.specs.Account.{Account}

-- the past of a journal that grows
pub past_after_is : (past entries : List Entry) → past_after past entries ≡ reverse entries ++ past
past_after_is past [] = refl
past_after_is past (entry ∷ entries) = past_after_is (entry ∷ past) entries
    ∙ sym (append_assoc (reverse entries) (entry ∷ []) past) ∙ ap (λ xs. xs ++ past)
    (sym (reverse-append (entry ∷ []) entries))

pub past_of_more : (journal entries : List Entry) → reverse (journal ++ entries) ≡ past_after (reverse journal) entries
past_of_more journal entries = reverse-append journal entries ∙ sym (past_after_is (reverse journal) entries)

-- the sessions, the Application object and the answers are the same after new as after old
pub record IsQuiet (m : Rules) (old new : List Entry) : Type 0 where
  pub sessions : session_of m new ≡ session_of m old
  pub held_is : held_by new ≡ held_by old
  pub answers_are : ready m new ≡ ready m old
  pub answered : IsAnswered m old → IsAnswered m new
  pub formed : AreWellFormed old → AreWellFormed new

pub quiet_queue : (m : Rules) (past : List Entry) (lane run : ℕ) (list : List (Work × ℕ))
    → IsQuiet m past (past_after past (queue_entries lane run list))
quiet_queue m past lane run [] = record {
  sessions = refl;
  held_is = refl;
  answers_are = refl;
  answered = λ a. a;
  formed = λ s. s;
}
quiet_queue m past lane run (first ∷ rest) =
    let after = quiet_queue m (with_lane lane (Queue run first.0 first.1) ∷ past) lane (run + 1) rest in
    record {
      sessions = after.sessions;
      held_is = after.held_is;
      answers_are = after.answers_are;
      answered = λ a. after.answered (tt, a);
      formed = λ s. after.formed (tt, s);
    }

-- a run that is owed may come
queue_right : (m : Rules) (past : List Entry) (lane : ℕ) (first : Work × ℕ) (rest : List (Work × ℕ))
    → owed m past ≡ first ∷ rest → HasLaneOf past lane
    → IsRight m past (with_lane lane (Queue (drawn past + 1) first.0 first.1))
queue_right m past lane first rest e has =
    record {
      turn = subst (λ list. MayFollow m past list (with_lane lane (Queue (drawn past + 1) first.0 first.1)))
          (sym e) (refl, has);
      legal = tt;
      follows = tt;
    }

-- all that are owed, one after another
pub right_queue : (m : Rules) (past : List Entry) (lane : ℕ) (list : List (Work × ℕ)) → AreRight m past
    → owed m past ≡ list → HasLaneOf past lane
    → IsValidJournal m (past_after past (queue_entries lane (drawn past + 1) list))
right_queue m past lane [] right e has = record { entries = right; settled = e }
right_queue m past lane (first ∷ rest) right e has =
    right_queue m (with_lane lane (Queue (drawn past + 1) first.0 first.1) ∷ past) lane rest
    (queue_right m past lane first rest e has, right) (ap (drop 1) e) refl

-- the object under a rule when it holds this
abbrev object_by : Bool → AppState → AppView
object_by strict state = record { strict = strict; state = state }

-- what is kept says the same of a past that is quiet
pub kept_quiet : (m : Rules) (old new : List Entry) (account then_account : Account) (held : AppView)
    (answers : List (ℕ × Answer)) → IsKept m old account held answers → IsQuiet m old new
    → IsAccountOf m new then_account → IsKept m new then_account held answers
kept_quiet m old new account then_account held answers kept quiet sessions =
    record {
      sessions = sessions;
      held_is = kept.held_is ∙ ap (λ (h : AppState). object_by m.strict h) (sym quiet.held_is);
      answers_are = kept.answers_are ∙ sym quiet.answers_are;
      answered = quiet.answered kept.answered;
      formed = quiet.formed kept.formed;
    }

-- one more entry that changes nothing
pub quiet_more : (m : Rules) (old : List Entry) (entry : Entry) (new : List Entry) → IsQuiet m old (entry ∷ old)
    → IsQuiet m (entry ∷ old) new → IsQuiet m old new
quiet_more m old entry new one more =
    record {
      sessions = more.sessions ∙ one.sessions;
      held_is = more.held_is ∙ one.held_is;
      answers_are = more.answers_are ∙ one.answers_are;
      answered = λ a. more.answered (one.answered a);
      formed = λ s. more.formed (one.formed s);
    }

-- an entry that changes nothing of these, and the runs that are then owed
quiet_owed : (m : Rules) (past : List Entry) (entry : Entry) → IsQuiet m past (entry ∷ past)
    → IsQuiet m past (past_after past (with_owed m past entry))
quiet_owed m past entry quiet =
    quiet_more m past entry (past_after past (with_owed m past entry)) quiet
    (quiet_queue m (entry ∷ past) entry.lane (drawn (entry ∷ past) + 1) (owed m (entry ∷ past)))

valid_owed : (m : Rules) (past : List Entry) (entry : Entry) → IsValidJournal m past → IsRight m past entry
    → IsValidJournal m (past_after past (with_owed m past entry))
valid_owed m past entry valid right =
    right_queue m (entry ∷ past) entry.lane (owed m (entry ∷ past)) (right, valid.entries) refl refl

-- an entry that may come where nothing is owed
pub may_follow : (m : Rules) (past : List Entry) (entry : Entry) → owed m past ≡ [] → MayFollow m past [] entry
    → IsNext m past entry
may_follow m past entry settled may = subst (λ list. MayFollow m past list entry) (sym settled) may

pub tick_is : (m : Rules) (past : List Entry) (lane moment : ℕ) → moment_of past < moment
    → tick_entries m past lane moment ≡ with_owed m past (with_lane lane (Tick moment))
tick_is m past lane moment later = let test = lt-ltb (moment_of past) moment later in rw test refl

pub no_tick_is : (m : Rules) (past : List Entry) (lane moment : ℕ) → moment ≤ moment_of past
    → tick_entries m past lane moment ≡ []
no_tick_is m past lane moment early = let test : nat_lt (moment_of past) moment ≡ false = grind arith in rw test refl

-- a Tick where the moment is greater, and what is then owed
pub valid_tick : (m : Rules) (past : List Entry) (lane moment : ℕ) → IsValidJournal m past
    → IsValidJournal m (past_after past (tick_entries m past lane moment))
valid_tick m past lane moment valid = elim (cases_lt (moment_of past) moment) [
  | inl later ↦ rw (tick_is m past lane moment later) (valid_owed m past (with_lane lane (Tick moment)) valid
      (record {
        turn = may_follow m past (with_lane lane (Tick moment)) valid.settled later;
        legal = tt;
        follows = tt;
      }))
  | inr early ↦ rw (no_tick_is m past lane moment early) valid
]

pub quiet_tick : (m : Rules) (past : List Entry) (lane moment : ℕ)
    → IsQuiet m past (past_after past (tick_entries m past lane moment))
quiet_tick m past lane moment = elim (cases_lt (moment_of past) moment) [
  | inl later ↦ rw (tick_is m past lane moment later) (quiet_owed m past (with_lane lane (Tick moment))
      (record {
        sessions = refl;
        held_is = refl;
        answers_are = refl;
        answered = λ a. (tt, a);
        formed = λ s. (tt, s);
      }))
  | inr early ↦ rw (no_tick_is m past lane moment early) (record {
    sessions = refl;
    held_is = refl;
    answers_are = refl;
    answered = λ a. a;
    formed = λ s. s;
  })
]

-- a Stop and what is then owed
pub valid_stop : (m : Rules) (past : List Entry) (lane : ℕ) → IsValidJournal m past → is_stopping past ≡ false
    → IsValidJournal m (past_after past (stop_entries m past lane))
valid_stop m past lane valid going = valid_owed m past (with_lane lane Stop) valid
    (record { turn = may_follow m past (with_lane lane Stop) valid.settled going; legal = tt; follows = tt })

quiet_stop : (m : Rules) (past : List Entry) (lane : ℕ) → IsQuiet m past (past_after past (stop_entries m past lane))
quiet_stop m past lane = quiet_owed m past (with_lane lane Stop)
    (record {
      sessions = refl;
      held_is = refl;
      answers_are = refl;
      answered = λ a. (tt, a);
      formed = λ s. (tt, s);
    })

pub kept_tick : (m : Rules) (past : List Entry) (account : Account) (held : AppView) (answers : List (ℕ × Answer))
    (lane moment : ℕ) → let entries = tick_entries m past lane moment in IsKept m past account held answers
    → IsKept m (past_after past entries) (account_grown m past entries account) held answers
kept_tick m past account held answers lane moment kept =
    let entries = tick_entries m past lane moment in
    let then_account = account_grown m past entries account in
    kept_quiet m past (past_after past entries) account then_account held answers kept (quiet_tick m past lane moment)
    (account_then m past entries account then_account kept.sessions
    (valid_tick m past lane moment kept.sessions.journal) refl)

-- the past of a journal that has these entries more
pub grown_past : (journal next entries : List Entry) → next ≡ journal ++ entries → reverse next
    ≡ past_after (reverse journal) entries
grown_past journal next entries e = ap reverse e ∙ past_of_more journal entries

-- what is kept of a journal that has these entries more
kept_grown : (m : Rules) (journal next entries : List Entry) (account then_account : Account) (held : AppView)
    (answers : List (ℕ × Answer)) → let past = reverse journal in IsKept m past account held answers
    → next ≡ journal ++ entries → then_account ≡ account_grown m past entries account
    → IsQuiet m past (past_after past entries) → IsValidJournal m (past_after past entries)
    → IsKept m (reverse next) then_account held answers
kept_grown m journal next entries account then_account held answers kept e grown quiet valid =
    let past = reverse journal in
    rw (grown_past journal next entries e) (kept_quiet m past (past_after past entries) account then_account held answers
    kept quiet (account_then m past entries account then_account kept.sessions valid grown))

pub kept_after_tick : (m : Rules) (journal next : List Entry) (account then_account : Account) (held : AppView)
    (answers : List (ℕ × Answer)) (lane moment : ℕ) → let past = reverse journal in
    let entries = tick_entries m past lane moment in IsKept m past account held answers → next ≡ journal ++ entries
    → then_account ≡ account_grown m past entries account → IsKept m (reverse next) then_account held answers
kept_after_tick m journal next account then_account held answers lane moment kept e grown =
    let past = reverse journal in
    kept_grown m journal next (tick_entries m past lane moment) account then_account held answers kept e grown
    (quiet_tick m past lane moment) (valid_tick m past lane moment kept.sessions.journal)

pub kept_after_stop : (m : Rules) (journal next : List Entry) (account then_account : Account) (held : AppView)
    (answers : List (ℕ × Answer)) (lane : ℕ) → let past = reverse journal in
    let entries = stop_entries m past lane in IsKept m past account held answers → is_stopping past ≡ false
    → next ≡ journal ++ entries → then_account ≡ account_grown m past entries account
    → IsKept m (reverse next) then_account held answers
kept_after_stop m journal next account then_account held answers lane kept going e grown =
    let past = reverse journal in
    kept_grown m journal next (stop_entries m past lane) account then_account held answers kept e grown
    (quiet_stop m past lane) (valid_stop m past lane kept.sessions.journal going)

-- what the code makes of a Tick and of a Stop is what the journal owes
pub ticked_is : (m : Rules) (past : List Entry) (account : Account) (lane moment : ℕ) → IsAccountOf m past account
    → ticked (sessions_in account) past lane moment ≡ tick_entries m past lane moment
ticked_is m past account lane moment is =
    ap (λ sessions. ticked sessions past lane moment) (account_tells m past account is).1

pub ticked_grown : (m : Rules) (past more : List Entry) (account : Account) (lane moment : ℕ) → IsAccountOf m past account
    → more ≡ ticked (sessions_in account) past lane moment
    → account_closed more account ≡ account_grown m past (tick_entries m past lane moment) account
ticked_grown m past more account lane moment is e =
    let entries = tick_entries m past lane moment in
    ap (λ list. account_closed list account) (e ∙ ticked_is m past account lane moment is)
    ∙ closed_is m past entries account (tick_closing (session_of m past) past entries lane moment refl)

pub stopped_is : (m : Rules) (past : List Entry) (account : Account) (lane : ℕ) → IsAccountOf m past account
    → stopped_by (sessions_in account) past lane ≡ stop_entries m past lane
stopped_is m past account lane is = ap (λ sessions. stopped_by sessions past lane) (account_tells m past account is).1

pub stopped_grown : (m : Rules) (past more : List Entry) (account : Account) (lane : ℕ) → IsAccountOf m past account
    → more ≡ stopped_by (sessions_in account) past lane
    → account_closed more account ≡ account_grown m past (stop_entries m past lane) account
stopped_grown m past more account lane is e =
    let entries = stop_entries m past lane in
    ap (λ list. account_closed list account) (e ∙ stopped_is m past account lane is)
    ∙ closed_is m past entries account (stop_closing (session_of m past) past entries lane refl)
