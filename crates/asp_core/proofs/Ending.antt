-- What an End leaves of a right journal.
use Rattle.std.proofs.Common.{◌≡◌, ℕ, ◌+◌, ◌^◌, ◌<◌, List, [], ◌∷◌, ◌++◌, length, reverse, Option, Some, None}
use Rattle.std.proofs.Common.{IfSome}
use Rattle.std.proofs.Common.{is_some, refl, ap, sym, ◌∙◌, subst, arith}
use lib.Utf8.{encode}
use Rattle.std.specs.Prelude.{codes, encode_utf8_all}
use Rattle.asp_core.specs.Book.{BookView, IsSound, past_in}
use Rattle.asp_core.specs.Ends.{CanEnd, end_what, left_of}
use Rattle.asp_core.specs.Kernel.{CoreView, IsEndOf, IsKept, IsRunOf, IsSessionIn, IsWithin}
use Rattle.asp_core.specs.Kernel.{RunView, StandsAt, past_of, rules_by, rules_of, wanted_by}
use Rattle.asp_core.specs.Ready.{ready, with_answer}
use Rattle.asp_core.specs.Sessions.{account_ended, after_of, left_after}
use Rattle.asp_core.specs.Standing.{stand_in, stand_ins}
use Rattle.asp_core.specs.Start.{fail_after, fail_by, fail_in, start_fail}
use Rattle.asp_core.specs.declared.ends.Left.{Left}
use Rattle.asp_core.specs.declared.run.Progress.{Progress}
use Rattle.asp_core.specs.declared.run.Progress.TheVariants as progress
use Rattle.asp_core.specs.declared.run.StandIns.{StandIns}
use Rattle.asp_job.specs.Application.{freed}
use Rattle.asp_app.specs.View.{AppView, with_state}
use Rattle.asp_job.specs.History.{with_lane}
use Rattle.asp_job.specs.Journal.{AreRight, MayEnd, end_entry}
use Rattle.asp_job.specs.Keys.{session_left, told}
use Rattle.asp_job.specs.Output.{answer_by, answer_in, counted, end_of, finished_in, length_in, made_in, status_in}
use Rattle.asp_job.specs.Output.{unavailable_in}
use Rattle.asp_job.specs.Rules.{Rules, JournalFull, OutOfMemory}
use Rattle.asp_job.specs.Running.{IsBounded, IsFinish, Over, is_page}
use Rattle.asp_job.specs.Runs.{job_of, key_of, unfinished}
use Rattle.asp_job.specs.Told.{Ends, Meaning, Outcome, Told, Wants}
use Rattle.asp_job.specs.Turns.{IsRunning}
use Rattle.asp_job.specs.declared.answer.Answer.{Answer}
use Rattle.asp_job.specs.declared.answer.Fail.{Fail}
use Rattle.asp_job.specs.declared.answer.Finished.{Finished}
use Rattle.asp_job.specs.declared.entry.EndKind.{EndKind}
use Rattle.asp_job.specs.declared.entry.EndKind.TheVariants as how
use Rattle.asp_job.specs.declared.entry.Entry.{Entry}
use Rattle.asp_job.specs.declared.entry.What.TheVariants.{End}
use Rattle.asp_job.specs.declared.job.Work.{Work}
use Rattle.asp_job.specs.declared.job.Work.TheVariants as work
use Rattle.asp_job.specs.declared.session.SessionState.{SessionState}
use Rattle.asp_response.specs.Fixed.{why}
use Rattle.asp_response.specs.declared.fixed.Unavailable.{Unavailable}
use Rattle.asp_response.specs.declared.fixed.Unavailable.TheVariants as cause
use Rattle.asp_job.specs.Session.{IsSession}
use Rattle.asp_session.specs.Account.{Account}
use Rattle.asp_session.specs.declared.after.After.{After}
use Rattle.asp_session.specs.declared.after.After.TheVariants.{Kept, Now}
use Rattle.vb_value.specs.declared.application.AppCall.{AppCall}
use Rattle.asp_journal.proofs.Open.{unfinished_open}
use Rattle.asp_journal.proofs.Past.{past_push}
use Rattle.asp_core.proofs.Answering.{page_answered}
use Rattle.asp_core.proofs.Counts.{fewer_unfinished}
use Rattle.asp_core.proofs.Kept.{may_follow}
use Rattle.asp_core.proofs.Fits.{end_numbered}
use Rattle.asp_core.proofs.Growing.{account_then}
use Rattle.asp_core.specs.declared.setting.Setting.{Setting}

-- ---- what the run leaves is what its meaning has

-- an End of this kind may come, and what the run leaves is what its entry and its answer tell
pub record IsEnding (m : Rules) (past : List Entry) (lane run : ℕ) (kind : EndKind) (left : Left) : Type 0 where
  pub may : MayEnd m past lane run kind
  pub session_is : kind ≡ how.Done → left.session ≡ session_left (m.meaning.does (told m past run))
  pub answer_is : left.answer ≡ answer_by m past run kind
  pub made_is : left.made ≡ counted kind (made_in (m.meaning.does (told m past run)))
  pub finished_is : left.finished ≡ counted kind (finished_in (m.meaning.does (told m past run)))
  pub fail_is : left.fail ≡ fail_by m past run kind
  pub answered : is_some (answer_by m past run kind) ≡ is_page (job_of past run).work
  pub bounded : IfSome left.answer IsBounded
  pub valid : IsSessionIn left.session

short : (c : Unavailable) → length (encode_utf8_all (why c) ++ codes "\n") < 2 ^ 32
unfolding encode
short cause.TooManySessions = omega arith
short cause.OutOfMemory = omega arith
short cause.JournalFull = omega arith

bounded_in : (c : Unavailable) (w : Work) → IfSome (stand_in c w) IsBounded
bounded_in c (work.Page request) = short c
bounded_in c work.Start = tt
bounded_in c work.SessionEnd = tt
bounded_in c work.Stop = tt

memory_in : (m : Meaning) (setting : Setting) (w : Work) → stand_in cause.OutOfMemory w ≡ unavailable_in (rules_by m
    setting)
    OutOfMemory w
memory_in m setting (work.Page request) = refl
memory_in m setting work.Start = refl
memory_in m setting work.SessionEnd = refl
memory_in m setting work.Stop = refl

full_in : (m : Meaning) (setting : Setting) (w : Work) → stand_in cause.JournalFull w ≡ unavailable_in (rules_by m
    setting)
    JournalFull w
full_in m setting (work.Page request) = refl
full_in m setting work.Start = refl
full_in m setting work.SessionEnd = refl
full_in m setting work.Stop = refl

done_ending : (m : Rules) (past : List Entry) (lane run : ℕ) (finished : Option Finished) (ins : StandIns)
    → IsFinish Over finished (told m past run) (m.meaning.does (told m past run)) → IsEnding m past lane run how.Done
    (left_of how.Done finished ins)
done_ending m past lane run None ins is = absurd is
done_ending m past lane run (Some f) ins is =
    let does : m.meaning.does (told m past run) ≡ Ends f = is.0 in
    record {
      may = (f, does);
      session_is = λ done. ap session_left (sym does);
      answer_is = ap answer_in (sym does);
      made_is = ap made_in (sym does);
      finished_is = ap finished_in (sym does);
      fail_is = ap fail_in (sym does);
      answered = ap is_some (ap answer_in does) ∙ is.1.answered;
      bounded = is.1.bounded;
      valid = is.1.session_is;
    }

-- a run that stands and wants a call has a meaning that wants it
pub stands_wants : (p : Progress) (Stands : ℕ → Type 0) (outcome : Outcome) (call : AppCall) → wanted_by p ≡ Some call
    → StandsAt p Stands outcome → outcome ≡ Wants call
stands_wants progress.Going Stands outcome call w s = absurd cc
stands_wants (progress.Wants other) Stands outcome call w s = let same : other ≡ call = cc in s.1
    ∙ ap (λ k. Wants k) same
stands_wants progress.Ended Stands outcome call w s = absurd cc
stands_wants progress.Dead Stands outcome call w s = absurd cc

pub ending : {State : Type 0} → (m : Meaning) (setting : Setting) (past : List Entry) (lane : ℕ) (run : RunView State)
    (Stands : ℕ → Type 0) (kind : EndKind) (finished : Option Finished) → let rules = rules_by m setting in
    IsEndOf setting.strict past lane run kind → StandsAt run.progress Stands (m.does (told rules past run.number))
    → (run.progress ≡ progress.Ended → (spent : ℕ) → Stands spent → IsFinish Over finished (told rules past run.number)
    (m.does (told rules past run.number))) → run.stand_ins ≡ stand_ins (job_of past run.number).work
    → IsEnding rules past lane run.number kind (left_of kind finished run.stand_ins)
ending m setting past lane run Stands how.Done finished of s told_at ins =
    let rules = rules_by m setting in
    let ended = subst (λ (p : Progress). StandsAt p Stands (m.does (told rules past run.number))) of s in
    done_ending rules past lane run.number finished run.stand_ins (told_at of ended.0.0 ended.0.1)
ending m setting past lane run Stands how.Memory finished of s told_at ins =
    let w = (job_of past run.number).work in
    let answer : run.stand_ins.memory ≡ stand_in cause.OutOfMemory w = ap (λ (i : StandIns). i.memory) ins in
    record {
      may = tt;
      session_is = λ done. absurd cc;
      answer_is = answer ∙ memory_in m setting w;
      made_is = refl;
      finished_is = refl;
      fail_is = refl;
      answered = page_answered (rules_by m setting) OutOfMemory w;
      bounded = subst (λ (a : Option Answer). IfSome a IsBounded) (sym answer) (bounded_in cause.OutOfMemory w);
      valid = tt;
    }
ending m setting past lane run Stands how.JournalFull finished of s told_at ins =
    let w = (job_of past run.number).work in
    let rules = rules_by m setting in
    let answer : run.stand_ins.full ≡ stand_in cause.JournalFull w = ap (λ (i : StandIns). i.full) ins in
    record {
      may = (of.0, stands_wants run.progress Stands (m.does (told rules past run.number)) of.0 of.1 s, of.2);
      session_is = λ done. absurd cc;
      answer_is = answer ∙ full_in m setting w;
      made_is = refl;
      finished_is = refl;
      fail_is = refl;
      answered = page_answered rules JournalFull w;
      bounded = subst (λ (a : Option Answer). IfSome a IsBounded) (sym answer) (bounded_in cause.JournalFull w);
      valid = tt;
    }

-- the run of a core that ends so is unfinished, and leaves this where the runner told that
pub ending_of : {R Site State : Type 0} → (meaning : R → Site → Meaning)
    (stands : R → Site → State → Told → ℕ → Type 0) (core old : CoreView R Site) (lane : ℕ) (run : RunView State)
    (kind : EndKind) (finished : Option Finished) (left : Left) → old ≡ core → IsRunOf meaning stands core lane run
    → IsEndOf core.setting.strict (past_of core) lane run kind
    → (run.progress ≡ progress.Ended → (t : Told) (spent : ℕ) → stands core.runner core.site run.state t spent
    → IsFinish Over finished t ((meaning core.runner core.site).does t)) → left ≡ left_of kind finished run.stand_ins
    → IsRunning (past_of old) lane run.number
    × IsEnding (rules_of meaning old) (past_of old) lane run.number kind left
ending_of {R} {Site} meaning stands core old lane run kind finished left same is of finish leaves =
    let t = told (rules_of meaning core) (past_of core) run.number in
    let ends = ending (meaning core.runner core.site) core.setting (past_of core) lane run
    (stands core.runner core.site run.state t) kind finished of is.stands_for (λ e spent. finish e t spent)
    is.stand_ins_are in
    let here = subst (IsEnding (rules_of meaning core) (past_of core) lane run.number kind) (sym leaves) ends in (
      subst (λ (v : CoreView R Site). IsRunning (past_of v) lane run.number) (sym same) is.running,
      subst (λ (v : CoreView R Site). IsEnding (rules_of meaning v) (past_of v) lane run.number kind left)
          (sym same) here,
    )

-- the entry tells what the run leaves
end_is : (m : Rules) (past : List Entry) (lane run : ℕ) (kind : EndKind) (left : Left)
    → IsEnding m past lane run kind left → end_what run kind left ≡ end_of m past run kind
end_is m past lane run kind left is =
    ap (λ (a : Option Answer). End run kind (status_in a) (length_in a) left.made left.finished) is.answer_is
    ∙ ap (λ n. End run kind (status_in (answer_by m past run kind)) (length_in (answer_by m past run kind)) n
    left.finished) is.made_is
    ∙ ap (End run kind (status_in (answer_by m past run kind)) (length_in (answer_by m past run kind))
    (counted kind (made_in (m.meaning.does (told m past run))))) is.finished_is

-- ---- the account of the session keys

pub ended_is : (m : Rules) (past : List Entry) (run : ℕ) (kind : EndKind) (session : Option SessionState)
    (account : Account) → (kind ≡ how.Done → session ≡ session_left (m.meaning.does (told m past run)))
    → account_ended (key_of past run) (after_of kind session) account
    ≡ account_ended (key_of past run) (left_after m past run kind) account
ended_is m past run how.Done session account left =
    ap (λ s. account_ended (key_of past run) (after_of how.Done s) account) (left refl)
ended_is m past run how.Memory session account left = refl
ended_is m past run how.JournalFull session account left = refl

-- a session that is left may be
pub left_may : (kind : EndKind) (session : Option SessionState) (after : After) → IsSessionIn session
    → after ≡ after_of kind session → (one : SessionState) → after ≡ Now (Some one) → IsSession one
left_may how.Done None after may e one is = absurd (let both : Now None ≡ Now (Some one) = sym e ∙ is in cc)
left_may how.Done (Some session) after may e one is =
    let both : Now (Some session) ≡ Now (Some one) = sym e ∙ is in
    let same : session ≡ one = cc in
    subst IsSession same may
left_may how.Memory session after may e one is = absurd (let both : Kept ≡ Now (Some one) = sym e ∙ is in cc)
left_may how.JournalFull session after may e one is = absurd (let both : Kept ≡ Now (Some one) = sym e ∙ is in cc)

-- ---- the End

kept_end : (m : Rules) (past : List Entry) (account : Account) (held : AppView)
    (answers : List (ℕ × Answer)) (lane run : ℕ) (kind : EndKind) (left : Left) → IsKept m past account held answers
    → IsRunning past lane run → IsEnding m past lane run kind left → IsKept m (end_entry m past lane run kind ∷ past)
    (account_ended (key_of past run) (after_of kind left.session) account) (with_state held (freed run held.state))
    (with_answer answers run left.answer)
kept_end m past account held answers lane run kind left kept running is =
    let entry = end_entry m past lane run kind in
    let answer = answer_by m past run kind in
    let turn = may_follow m past entry kept.sessions.journal.settled running in
    let then_account = account_ended (key_of past run) (after_of kind left.session) account in
    record {
      sessions = account_then m past (entry ∷ []) account then_account kept.sessions
          (record {
            entries = (record { turn = turn; legal = tt; follows = (is.may, refl) }, kept.sessions.journal.entries);
            settled = refl;
          }) (ended_is m past run kind left.session account is.session_is);
      held_is = ap (λ (h : AppView). with_state h (freed run h.state)) kept.held_is;
      answers_are = ap (λ list. with_answer list run left.answer) kept.answers_are ∙ ap (with_answer (ready m past) run)
          is.answer_is;
      answered = (is.answered, kept.answered);
      formed = (tt, kept.formed);
    }

-- the run may be ended so
pub can_end : (m : Rules) (past : List Entry) (lane run : ℕ) (kind : EndKind) (left : Left) → AreRight m past
    → IsRunning past lane run → IsEnding m past lane run kind left → CanEnd past lane run kind left
can_end m past lane run kind left right running is = record {
  bounded = is.bounded;
  session = is.valid;
  timely = unfinished_open past run running.unfinished;
  numbered = end_numbered m past run right running.unfinished;
  fewer = fewer_unfinished m past lane run kind (status_in left.answer) (length_in left.answer) left.made left.finished
      right running.unfinished;
}

-- the journal grows by the entry of the End
pub end_grown : (m : Rules) (journal next : List Entry) (lane run : ℕ) (kind : EndKind) (left : Left)
    → IsEnding m (reverse journal) lane run kind left → next ≡ journal ++ with_lane lane (end_what run kind left) ∷ []
    → next ≡ journal ++ end_entry m (reverse journal) lane run kind ∷ []
end_grown m journal next lane run kind left is e = e ∙ ap (λ what. journal ++ with_lane lane what ∷ [])
    (end_is m (reverse journal) lane run kind left is)

-- what a core keeps after the End
pub sound_end : (m : Rules) (old new : BookView) (account then_account : Account) (held : AppView)
    (before then_fail : Option Fail) (lane run : ℕ) (kind : EndKind) (left : Left)
    → IsSound m (past_in old) account held old.answers before → IsRunning (past_in old) lane run
    → IsEnding m (past_in old) lane run kind left
    → new.items ≡ old.items ++ with_lane lane (end_what run kind left) ∷ []
    → new.answers ≡ with_answer old.answers run left.answer
    → then_account ≡ account_ended (key_of (past_in old) run) (after_of kind left.session) account
    → then_fail ≡ fail_after before run left.fail
    → IsSound m (past_in new) then_account (with_state held (freed run held.state)) new.answers then_fail
sound_end m old new account then_account held before then_fail lane run kind left sound running is e added ended after =
    let past = past_in old in
    let entry = end_entry m past lane run kind in
    let of : past_in new ≡ entry ∷ past = ap reverse (end_grown m old.items new.items lane run kind left is e)
    ∙ past_push old.items entry in
    let answer = answer_by m past run kind in
    let outcome = m.meaning.does (told m past run) in
    let fewer : length (unfinished (entry ∷ past)) + 1 ≡ length (unfinished past) = fewer_unfinished m past lane run
    kind (status_in answer) (length_in answer) (counted kind (made_in outcome)) (counted kind (finished_in outcome))
    sound.0.sessions.journal.entries running.unfinished in
    let few = sound.1.few in
    let light = sound.1.light in
    let within : IsWithin (entry ∷ past) = record { few = omega arith; light = omega arith } in
    let failed : then_fail ≡ start_fail m (entry ∷ past) = after ∙ ap (λ fail. fail_after fail run left.fail) sound.2
    ∙ ap (fail_after (start_fail m past) run) is.fail_is in
    rw (of, added, ended) (kept_end m past account held old.answers lane run kind left sound.0 running is, within, failed)
