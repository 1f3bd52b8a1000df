-- What a Halt leaves of a right journal.
use Rattle.std.proofs.Common.{◌≡◌, ℕ, true, false, if◌then◌else◌, Bool, List, [], ◌∷◌, Option}
use Rattle.std.proofs.Common.{reverse, refl, ap, ◌∙◌, arith}
use Rattle.asp_core.specs.Book.{Adds, BookView, HasRoomFor, IsSound, past_in}
use Rattle.asp_core.specs.Kernel.{IsKept, IsWithin, halts_to_come}
use Rattle.asp_app.specs.View.{AppView}
use Rattle.asp_job.specs.History.{with_lane}
use Rattle.asp_job.specs.Rules.{Rules}
use Rattle.asp_job.specs.Runs.{is_halted}
use Rattle.asp_job.specs.declared.answer.Answer.{Answer}
use Rattle.asp_job.specs.declared.answer.Fail.{Fail}
use Rattle.asp_job.specs.declared.entry.Entry.{Entry}
use Rattle.asp_job.specs.declared.entry.What.TheVariants.{Halt}
use Rattle.asp_session.specs.Account.{Account}
use Rattle.asp_journal.proofs.Past.{past_push}
use Rattle.asp_core.proofs.Kept.{kept_quiet, may_follow}

kept_halt : (m : Rules) (past : List Entry) (account : Account) (held : AppView)
    (answers : List (ℕ × Answer)) (lane : ℕ) → IsKept m past account held answers → is_halted past ≡ false
    → IsKept m (with_lane lane Halt ∷ past) account held answers
kept_halt m past account held answers lane kept going =
    let entry = with_lane lane Halt in
    let turn = may_follow m past entry kept.sessions.journal.settled going in
    kept_quiet m past (entry ∷ past) account account held answers kept
    (record {
      sessions = refl;
      held_is = refl;
      answers_are = refl;
      answered =
          λ a. (tt, a);
      formed = λ s. (tt, s);
    })
    (record {
      journal = record {
        entries = (record { turn = turn; legal = tt; follows = tt }, kept.sessions.journal.entries);
        settled = refl;
      };
      account_is = kept.sessions.account_is;
    })

going_one : (b : Bool) (n : ℕ) → n ≡ (if b then 0 else 1) → b ≡ false → n ≡ 1
going_one true n is e = absurd cc
going_one false n is e = is

-- a Halt takes the room that was kept for it
pub halt_roomy : (book : BookView) (lane : ℕ) → is_halted (past_in book) ≡ false
    → HasRoomFor book (with_lane lane Halt)
halt_roomy book lane going =
    let past = past_in book in
    let one : halts_to_come past ≡ 1 = going_one (is_halted past) (halts_to_come past) refl going in
    let none : halts_to_come (with_lane lane Halt ∷ past) ≡ 0 = refl in
    (omega arith, omega arith)

-- a journal with a Halt is kept
pub sound_halt : (m : Rules) (old new : BookView) (account : Account) (held : AppView) (fail : Option Fail) (lane : ℕ)
    → IsSound m (past_in old) account held old.answers fail → is_halted (past_in old) ≡ false
    → Adds old (with_lane lane Halt ∷ []) new → IsSound m (past_in new) account held new.answers fail
sound_halt m old new account held fail lane sound going adds =
    let past = past_in old in
    let of : past_in new ≡ with_lane lane Halt ∷ past = ap reverse adds.0 ∙ past_push old.items (with_lane lane Halt) in
    let light = sound.1.light in
    let within : IsWithin (with_lane lane Halt ∷ past) = record { few = sound.1.few; light = omega arith } in
    rw (of, adds.1) (kept_halt m past account held old.answers lane sound.0 going, within, sound.2)
