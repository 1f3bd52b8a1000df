-- A new core's journal.
use Rattle.std.proofs.Common.{◌≡◌, ℕ, List, [], ◌∷◌, None}
use Rattle.std.proofs.Common.{refl, arith}
use Rattle.asp_job.specs.declared.job.Work.TheVariants as work
use Rattle.asp_core.specs.Book.{BookView, IsSound, past_in}
use Rattle.asp_core.specs.Kernel.{IsWithin, IsKept}
use Rattle.asp_app.specs.View.{AppView, first_view}
use Rattle.asp_job.specs.History.{with_lane}
use Rattle.asp_job.specs.Rules.{Rules}
use Rattle.asp_job.specs.declared.entry.What.TheVariants.{Queue}
use Rattle.asp_session.specs.Account.{Account, first_account}

pub sound_start : (m : Rules) (book : BookView) (account : Account) (held : AppView) (seed : List ℕ) (lane : ℕ)
    → book.items ≡ with_lane lane (Queue 1 work.Start 0) ∷ [] → book.answers ≡ [] → account ≡ first_account seed
    → held ≡ first_view m.strict → IsSound m (past_in book) account held book.answers None
sound_start m book account held seed lane e none f h =
    let past = with_lane lane (Queue 1 work.Start 0) ∷ [] in
    let kept : IsKept m past (first_account seed) (first_view m.strict) [] = record {
      sessions = record {
        journal = record { entries = (record { turn = (refl, tt); legal = tt; follows = tt }, tt); settled = refl };
        account_is = refl;
      };
      held_is = refl;
      answers_are = refl;
      answered = (tt, tt);
      formed = (tt, tt);
    } in
    let within : IsWithin past = record { few = omega arith; light = omega arith } in
    let whole : IsSound m past (first_account seed) (first_view m.strict) [] None = (kept, within, refl) in
    rw (e, none, f, h) whole
