-- The terminators that an act enters.
use Rattle.std.proofs.Common.{ℕ, ◌≡◌, List, [], ◌++◌, Option, Some, None, refl, sym, ap, subst, ◌∙◌, inl, inr, ◌⊎◌}
use Rattle.std.proofs.Common.{arith}
use Rattle.vb_value.specs.declared.application.AppReply.{AppReply}
use Rattle.vb_syntax.specs.declared.act.Act.{Act}
use Rattle.vb_syntax.specs.declared.act.ActEnd.{ActEnd}
use Rattle.vb_syntax.specs.declared.act.ActEnd.TheVariants as end
use Rattle.vb_syntax.specs.declared.program.Program.{Program}
use Rattle.vb_syntax.specs.declared.program.unit.Procedure.{Procedure}
use Rattle.vb_heap.specs.Held.{let_go_to}
use Rattle.vb_meaning.specs.declared.plain_end.PlainEnd.{PlainEnd}
use Rattle.vb_meaning.specs.declared.plain_end.PlainEnd.TheVariants.{Wants, Ends as Ended}
use Rattle.vb_meaning.specs.declared.reached.Argument.{Argument}
use Rattle.vb_meaning.specs.declared.stop.Stop.TheVariants as stop
use Rattle.vb_meaning.specs.Acts as acts
use Rattle.vb_meaning.specs.Asking.{Host}
use Rattle.vb_meaning.specs.Errors.{raised_by}
use Rattle.vb_meaning.specs.Inner.{Inner, Owner}
use Rattle.vb_meaning.specs.Meaning.{most_levels}
use Rattle.vb_meaning.specs.Releases.{end_all, in_world, settle, settle_last}
use Rattle.vb_meaning.specs.State.{Does, State, on_world}
use Rattle.vb_meaning.specs.Step.{Step, Returns, Ends, ◌>>◌}
use Rattle.act_laws.specs.Entries.{AreOf, EntersAll, EntersBy, EntersEach, Noted, NotesStay, entries_of, no_notes}
use Rattle.act_laws.specs.Entries.{noted_act, noted_inside, terminators}
use Rattle.act_laws.specs.Laws.{EntriesChangeNothing, NoneEnteredTwice, TerminatorsAreEntered}
use Rattle.act_laws.specs.Objects.{HasBegun, Kept, Settled, account_at}
use Rattle.vb_meaning.specs.Step.{state_of}
use Rattle.act_laws.proofs.Acting.{ActsAlike, act_alike, both_end, both_lack, both_want, one_wants, runs_fits}
use Rattle.act_laws.proofs.Entered.{page_end_keeps, page_end_tells, settle_tells}
use Rattle.act_laws.proofs.Ending.{settle_keeps}
use Rattle.act_laws.proofs.Finishing.{fresh_adds_up}
use Rattle.act_laws.proofs.Keeping.{Keeps, told_of}
use Rattle.act_laws.proofs.Linked.{Fits}
use Rattle.act_laws.proofs.Marks.{emptied_still}
use Rattle.act_laws.proofs.Noting.{beside, levels_noted, telling_of}
use Rattle.act_laws.proofs.Standings.{begun_or_not}
use Rattle.act_laws.proofs.Telling.{Telling, Right, Told, changed_told, next_tells, right_after}

-- ---- notes change nothing

module _ (E : Type 0) (host : Host E) (program : Program) where
  same_act : (first : Option PlainEnd × E) (second : Option PlainEnd × Noted E)
      → ActsAlike (beside E host program) first second → second ≡ (first.0, (first.1, second.1.1))
  same_act _ _ (both_end done env replies other others now) = ap (λ found. (Some (Ended done), (found, other.1))) now.0
  same_act _ _ (both_lack env replies other others now) = ap (λ found. (None, (found, other.1))) now.0
  same_act _ _ (both_want call env replies other others now) = ap (λ found. (Some (Wants call), (found, other.1))) now.0
  same_act _ _ (one_wants call env other others past) = absurd past

  noted_alike : (which : Act) (env : E) (replies : List AppReply)
      → ActsAlike (beside E host program) (acts.act_of E host program which env replies)
      (noted_act E host program which env replies)
  unfolding acts.act_of
  noted_alike which env replies = act_alike (beside E host program) (levels_noted E host program most_levels) which
      acts.fresh_world acts.most_ticks env replies (env, no_notes) replies (refl, refl)

pub entries_nothing : (E : Type 0) → EntriesChangeNothing E
entries_nothing E host program which env replies = same_act E host program
    (acts.act_of E host program which env replies) (noted_act E host program which env replies)
    (noted_alike E host program which env replies)

-- ---- all that is done

-- no notes are those of the world in which an act begins
fresh_notes : AreOf acts.fresh_world no_notes
fresh_notes = record {
  adds_up = fresh_adds_up;
  ending = λ number is. absurd (cc);
  running = λ number is. absurd (cc);
}

module _ (E : Type 0) (host : Host E) (program : Program) where
  entered_by : {A : Type 0} (s : State (Noted E)) → Right (telling_of E host program) s → (step : Step (State (Noted E)) A)
      → Kept account_at (account_at s) step → Told (telling_of E host program) s (state_of step)
      → EntersEach program s.world s.env.1 (state_of step).world (state_of step).env.1 × NotesStay step
  entered_by s right (Returns value after) kept told =
      (told.enters, right_after (telling_of E host program) s after right kept told)
  entered_by s right (Ends (stop.Error what line) after) kept told =
      (told.enters, right_after (telling_of E host program) s after right kept told)
  entered_by s right (Ends stop.Page after) kept told =
      (told.enters, right_after (telling_of E host program) s after right kept told)
  entered_by s right (Ends (stop.Limit kind line) after) kept told = (told.enters, tt)
  entered_by s right (Ends (stop.Wants call) after) kept told = (told.enters, tt)
  entered_by s right (Ends stop.Memory after) kept told = (told.enters, tt)

  by_fits : {A : Type 0} {first : Does E A} {second : Does (Noted E) A} → Fits (beside E host program) first second
      → (s : State (Noted E)) → Right (telling_of E host program) s → EntersBy program s second
  by_fits {second} fits s right = entered_by s right (second s) (fits.keeps s right.adds_up) (fits.tells tt s right)

  each_entered : (levels : ℕ) (s : State (Noted E)) → AreOf s.world s.env.1
      → EntersAll E program (noted_inside E host program levels) s
  each_entered levels s right =
      let i = levels_noted E host program levels in
      let m = noted_inside E host program levels in
      let t = telling_of E host program in
      let keeps : (owner : Owner) (procedure : Procedure) (arguments : List Argument)
      → Keeps account_at (m.enter owner procedure arguments) =
      λ owner procedure arguments. (i.enter_fits owner procedure arguments).keeps in
      record {
        value = λ x. by_fits (i.value_fits x) s right;
        argument = λ x. by_fits (i.argument_fits x) s right;
        assign = λ how path found. by_fits (i.assign_fits how path found) s right;
        call = λ path. by_fits (i.call_fits path) s right;
        statement = λ x. by_fits (i.statement_fits x) s right;
        enter = λ owner procedure arguments. by_fits (i.enter_fits owner procedure arguments) s right;
        settle = entered_by s right (settle (Noted E) m s) (settle_keeps (Noted E) m keeps s right.adds_up)
            (settle_tells t m refl keeps (i.enters tt) s right);
        part = λ which. by_fits (runs_fits (beside E host program) i which) s right;
        page_end = entered_by s right ((settle_last (Noted E) m >> end_all (Noted E) m) s)
            (page_end_keeps t m refl keeps (i.enters tt) s right.adds_up)
            (page_end_tells t m refl keeps (i.enters tt) s right);
      }

pub all_entered : (E : Type 0) → TerminatorsAreEntered E
all_entered E = (fresh_notes, λ host program levels s right. each_entered E host program levels s right)

-- ---- an act

module _ (E : Type 0) (host : Host E) (program : Program) where
  abbrev m : Inner (Noted E)
  m = noted_inside E host program most_levels

  abbrev t : Telling (Noted E)
  t = telling_of E host program

  keeps : (owner : Owner) (procedure : Procedure) (arguments : List Argument)
      → Keeps account_at (m.enter owner procedure arguments)
  keeps owner procedure arguments =
      ((levels_noted E host program most_levels).enter_fits owner procedure arguments).keeps

  closed_env : (how : ActEnd) (step : Step (State (Noted E)) (Unit {0}))
      → (acts.closed (Noted E) m how step).1 ≡ (state_of step).env
  closed_env how (Returns done s) = refl
  closed_env how (Ends (stop.Limit kind line) s) = refl
  closed_env how (Ends (stop.Error what line) s) = refl
  closed_env how (Ends stop.Page s) = refl
  closed_env how (Ends (stop.Wants call) s) = refl
  closed_env how (Ends stop.Memory s) = refl

  -- a state that terminators were entered to as they should, with the environment in which an act ended
  record Comes (s : State (Noted E)) (env : Noted E) : Type 0 where
    pub last : State (Noted E)
    pub told : Told t s last
    pub is : env ≡ last.env

  page_comes : (how : ActEnd) (s after : State (Noted E)) → Right t s
      → Kept account_at (account_at s) (Returns (tt {0}) after) → Told t s after
      → Comes s (acts.page_ends (Noted E) m how after).1
  page_comes how s after right kept told =
      let left = in_world (Noted E) (acts.page_left after.world) after in
      let before = changed_told t s after (acts.page_left after.world) right.adds_up kept.onward
      (ap (λ seen. told_of seen.0 seen.1)
      (emptied_still after.world.page (let_go_to 0 after.world.store) after.world.finished)) told in
      let still : Kept account_at (account_at s) (Returns (tt {0}) left) =
      subst (λ account. Settled (account_at s) account)
      (sym (ap (λ seen. seen.0) (emptied_still after.world.page (let_go_to 0 after.world.store) after.world.finished)))
      kept in
      let run = settle_last (Noted E) m >> end_all (Noted E) m in
      record {
        last = state_of (run left);
        told = next_tells t (λ done. run)
            (λ done. page_end_keeps t m refl keeps ((levels_noted E host program most_levels).enters tt))
            (λ done. page_end_tells t m refl keeps ((levels_noted E host program most_levels).enters tt))
            s (Returns (tt {0}) left) right still before;
        is = closed_env how (run left);
      }

  act_comes : (s : State (Noted E)) (step : Step (State (Noted E)) (Unit {0})) → Right t s
      → Kept account_at (account_at s) step → Told t s (state_of step)
      → Comes s (acts.ends_act (Noted E) m step).1
  act_comes s (Returns done after) right kept told = page_comes end.Done s after right kept told
  act_comes s (Ends stop.Page after) right kept told = page_comes end.Stopped s after right kept told
  act_comes s (Ends (stop.Error what line) after) right kept told =
      page_comes (acts.error_end (raised_by what) (acts.line_or_none line)) s after right kept told
  act_comes s (Ends (stop.Limit kind line) after) right kept told = record { last = after; told = told; is = refl }
  act_comes s (Ends (stop.Wants call) after) right kept told = record { last = after; told = told; is = refl }
  act_comes s (Ends stop.Memory after) right kept told = record { last = after; told = told; is = refl }

  -- the state in which an act begins, and what comes of it
  abbrev begun : E → List AppReply → State (Noted E)
  begun env replies =
      record { world = acts.fresh_world; ticks = acts.most_ticks; env = (env, no_notes); replies = replies }

  fresh_right : (env : E) (replies : List AppReply) → Right t (begun env replies)
  fresh_right env replies = fresh_notes

  whole : (which : Act) (env : E) (replies : List AppReply)
      → Comes (begun env replies) (noted_act E host program which env replies).1
  whole which env replies =
      let fits = runs_fits (beside E host program) (levels_noted E host program most_levels) which in
      let s = begun env replies in
      let right = fresh_right env replies in
      act_comes s ((on_world (acts.page_begins program.unit) >> acts.part (Noted E) m which) s) right
      (fits.keeps s right.adds_up) (fits.tells tt s right)

  once : (object : ℕ) (s : State (Noted E)) (env : Noted E) (comes : Comes s env) → s.world.store.objects_made ≡ 0
      → s.env.1.entered ≡ [] → (class : Option ℕ)
      × (entries_of object env.1.entered ≡ terminators program class)
  once object s env comes made none = by (begun_or_not object (account_at comes.last))
    where
      by : HasBegun object (account_at comes.last) ⊎ (HasBegun object (account_at comes.last) → ⊥)
          → (class : Option ℕ) × (entries_of object env.1.entered ≡ terminators program class)
      by (inl has) =
          let found = comes.told.enters.made object (omega (arith, made)) has in (
            found.0,
            ap (λ (env : Noted E). entries_of object env.1.entered) comes.is ∙ found.1
                ∙ ap (λ entered. entries_of object entered ++ terminators program found.0) none,
          )
      by (inr not) = (
        None,
        ap (λ (env : Noted E). entries_of object env.1.entered) comes.is ∙ comes.told.enters.not_yet object not
            ∙ ap (λ entered. entries_of object entered) none,
      )

pub none_twice : (E : Type 0) → NoneEnteredTwice E
none_twice E host program which env replies object =
    once E host program object (begun E host program env replies) (noted_act E host program which env replies).1
    (whole E host program which env replies) refl refl
