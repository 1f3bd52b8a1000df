-- What hand-outs leave of a journal.
use Rattle.std.proofs.Common.{◌≡◌, ℕ, nat_eq, List, [], ◌∷◌, ◌++◌, refl, ap, sym, ◌∙◌, append-nil}
use Rattle.std.specs.Map.{remove_entry}
use Rattle.asp_journal.proofs.Others.{own_number}
use Rattle.asp_core.specs.Ready.{IsAnswered, first_for, ready}
use Rattle.asp_job.specs.declared.answer.Answer.{Answer}
use Rattle.asp_job.specs.declared.entry.Entry.{Entry}
use Rattle.asp_job.specs.declared.entry.What.TheVariants.{Take}
use Rattle.asp_job.specs.History.{with_lane}
use Rattle.asp_job.specs.Journal.{past_after}
use Rattle.asp_job.specs.Rules.{Rules}
use Rattle.asp_job.specs.Runs.{is_halted, is_open, is_stopping, job_of, moment_of, stage_of, unfinished, waiting}
use Rattle.asp_replay.specs.Sequential.{hand_outs}
use Rattle.asp_feed.specs.Shown.{shown_of}
use Rattle.asp_replay.specs.Underway.{AreCurrent}

-- the new past is the old one but for hand-outs
pub record StandsAsBefore (m : Rules) (old new : List Entry) : Type 0 where
  pub shown : shown_of m new ≡ shown_of m old
  pub stages : (r : ℕ) → stage_of new r ≡ stage_of old r
  pub open_is : (r : ℕ) → is_open new r ≡ is_open old r
  pub jobs : (r : ℕ) → job_of new r ≡ job_of old r
  pub moment : moment_of new ≡ moment_of old
  pub waiting_is : waiting new ≡ waiting old
  pub unfinished_is : unfinished new ≡ unfinished old
  pub stopping : is_stopping new ≡ is_stopping old
  pub halted : is_halted new ≡ is_halted old
  pub current : AreCurrent old → AreCurrent new
  pub answered : IsAnswered m old → IsAnswered m new

pub shown_handed : (m : Rules) (past : List Entry) (answers : List (ℕ × Answer))
    → StandsAsBefore m past (past_after past (hand_outs answers))
shown_handed m past [] =
    record {
      shown = refl;
      stages = λ r. refl;
      open_is = λ r. refl;
      jobs = λ r. refl;
      moment = refl;
      waiting_is = refl;
      unfinished_is = refl;
      stopping = refl;
      halted = refl;
      current = λ current. current;
      answered = λ answered. answered;
    }
shown_handed m past (first ∷ answers) =
    let after = shown_handed m (with_lane 0 (Take first.0) ∷ past) answers in
    record {
      shown = after.shown;
      stages = after.stages;
      open_is = after.open_is;
      jobs = after.jobs;
      moment = after.moment;
      waiting_is = after.waiting_is;
      unfinished_is = after.unfinished_is;
      stopping = after.stopping;
      halted = after.halted;
      current = after.current;
      answered = λ answered. after.answered (tt, answered);
    }

-- who is asked first stays
pub first_handed : (past : List Entry) (answers left : List (ℕ × Answer)) (lane : ℕ)
    → first_for (past_after past (hand_outs answers)) lane left ≡ first_for past lane left
first_handed past [] left lane = refl
first_handed past (first ∷ answers) left lane = first_handed (with_lane 0 (Take first.0) ∷ past) answers left lane

-- what is left of the answers that wait, where the first of them were handed out
pub ready_handed : (m : Rules) (past : List Entry) (answers left : List (ℕ × Answer))
    → ready m past ≡ answers ++ left → ready m (past_after past (hand_outs answers)) ≡ left
ready_handed m past [] left is = is
ready_handed m past (first ∷ answers) left is =
    let own = own_number first.0 in
    let gone : remove_entry (nat_eq first.0) (first ∷ (answers ++ left)) ≡ answers ++ left = rw own refl in
    ready_handed m (with_lane 0 (Take first.0) ∷ past) answers left (ap (remove_entry (nat_eq first.0)) is ∙ gone)

-- nothing is left where all were
pub ready_none : (m : Rules) (past : List Entry) → ready m (past_after past (hand_outs (ready m past))) ≡ []
ready_none m past = ready_handed m past (ready m past) [] (sym (append-nil (ready m past)))
