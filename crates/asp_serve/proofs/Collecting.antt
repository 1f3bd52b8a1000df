-- A look, and a hand-out, in a turn.
use Rattle.std.proofs.Common.{◌≡◌, ◌==◌, ℕ, Bool, true, false, [], ◌∷◌, refl, ap, sym, ◌∙◌, reverse}
use Rattle.std.proofs.Common.{Option, Some, None, Ok, Err, inl, inr}
use Rattle.std.specs.Option.{is_some}
use Rattle.std.proofs.lemmas.Bool.{cases_Bool}
use Rattle.asp_job.specs.declared.answer.Answer.{Answer}
use Rattle.asp_job.specs.declared.entry.What.TheVariants.{Take}
use Rattle.asp_job.specs.History.{with_lane}
use Rattle.asp_job.specs.Output.{answer_of_run}
use Rattle.asp_job.specs.Rules.{Rules}
use Rattle.asp_job.specs.Runs.{asking_lane_of, has_ended, is_halted, is_stopping, is_taken, job_of}
use Rattle.asp_job.specs.Running.{is_page}
use Rattle.asp_core.specs.declared.stop.CollectStop.{CollectStop}
use Rattle.asp_core.specs.Kernel.{RunView}
use Rattle.asp_core.specs.Ready.{ended_stop, lane_stop}
use Rattle.asp_core.proofs.Kept.{past_of_more}
use Rattle.asp_desk.specs.declared.looking.Looked.{Looked}
use Rattle.asp_desk.specs.Calls.{Collects, IsTurn, Looks, looked_of}
use Rattle.asp_desk.specs.Hands.{held_number}
use Rattle.asp_serve.specs.Served.{Lane}
use Rattle.asp_serve.specs.declared.ending.LinkEnd.TheVariants as end
use Rattle.asp_serve.specs.Steps.{HasCome, IsHindered, Works}
use Rattle.asp_serve.proofs.Lanes.{turn_rests, turn_works, works_then}

ended_if : (ended page taken : Bool) → ended_stop ended page taken ≡ None → ended ≡ true
ended_if true page taken none = refl
ended_if false page taken none = absurd cc

stop_none : (lane : ℕ) (asking : Option ℕ) (ended page taken : Bool) → lane_stop lane asking ended page taken ≡ None
    → ended ≡ true
stop_none lane None ended page taken none = ended_if ended page taken none
stop_none lane (Some asking) ended page taken none = elim (cases_Bool (asking == lane)) [
  | inl own ↦ ended_if ended page taken (rw own at none)
  | inr other ↦ absurd (let no = rw other at none in cc)
]

module _ {F : Type 0} (m : Rules) where
  -- the answer was handed out
  pub collected : (run : ℕ) (answer : Answer) (a b : Lane F) → IsTurn (Collects m a.number run) a (Ok answer) b
      → HasCome m run answer a b
  collected run answer a b turn =
      let past = reverse turn.before in
      let entry = with_lane a.number (Take run) in
      let is : reverse b.seen ≡ entry ∷ past = ap reverse turn.done.0 ∙ past_of_more turn.before (entry ∷ []) in
      record {
        works = turn_works (Collects m a.number run) a b (Ok answer) turn (entry ∷ []) turn.done.0 (tt, tt);
        ended = ap (λ p. has_ended p run) is ∙ stop_none a.number (asking_lane_of past run) (has_ended past run)
            (is_page (job_of past run).work) (is_taken past run) turn.done.2;
        answer_is = ap (λ p. answer_of_run m p run) is ∙ turn.done.1;
      }

  -- it was not
  pub kept_back : (run : ℕ) (stop : CollectStop) (a b : Lane F) → IsTurn (Collects m a.number run) a (Err stop) b
      → Works a b
  kept_back run stop a b turn = turn_rests (Collects m a.number run) a b (Err stop) turn turn.done.0

  -- a look
  pub looks_work : (looked : Looked) (a b : Lane F) → IsTurn (Looks m) a looked b → Works a b
  looks_work looked a b turn = turn_rests (Looks m) a b looked turn turn.done.0

  looks_at : (looked : Looked) (a b : Lane F) → IsTurn (Looks m) a looked b → looked ≡ looked_of m (reverse b.seen)
  looks_at looked a b turn = turn.done.1 ∙ ap (λ l. looked_of m (reverse l)) (sym turn.done.0)

  pub looks_halted : (looked : Looked) (a b : Lane F) → IsTurn (Looks m) a looked b → looked.halted ≡ true
      → is_halted (reverse b.seen) ≡ true
  looks_halted looked a b turn is = sym (ap (λ (l : Looked). l.halted) (looks_at looked a b turn)) ∙ is

  pub looks_stopping : (looked : Looked) (a b : Lane F) → IsTurn (Looks m) a looked b → looked.stopping ≡ true
      → is_stopping (reverse b.seen) ≡ true
  looks_stopping looked a b turn is = sym (ap (λ (l : Looked). l.stopping) (looks_at looked a b turn)) ∙ is

  -- a host that is halted
  pub halted_hinders : (looked : Looked) (a b : Lane F) → IsTurn (Looks m) a looked b → looked.halted ≡ true
      → IsHindered m (λ request. ⊥) false a b end.Drained
  halted_hinders looked a b turn is =
      record { works = looks_work looked a b turn; why = inr (looks_halted looked a b turn is) }

  -- the answer comes after some work
  pub come_then : (run : ℕ) (answer : Answer) (a b c : Lane F) → Works a b → HasCome m run answer b c
      → HasCome m run answer a c
  come_then run answer a b c before x = record {
    works = works_then a b c before x.works;
    ended = x.ended;
    answer_is = x.answer_is;
  }

-- a hand that tells no run holds none
pub free_held : {State : Type 0} (held : Option (RunView State)) (told : Option ℕ) → told ≡ held_number held
    → is_some told ≡ false → held ≡ None
free_held None told is none = refl
free_held (Some run) told is none = absurd (let some : is_some told ≡ true = ap is_some is in cc)
