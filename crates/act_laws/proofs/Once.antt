-- Terminators that are run once.
use Rattle.std.proofs.Common.{ℕ, ◌≡◌, List, true, false, Some, sym, subst, ◌∙◌}
use Rattle.vb_heap.specs.Releases.{with_ending}
use Rattle.vb_syntax.specs.declared.program.unit.Procedure.{Procedure}
use Rattle.vb_meaning.specs.declared.reached.Argument.{Argument}
use Rattle.vb_meaning.specs.declared.stop.Stop.TheVariants as stop
use Rattle.vb_meaning.specs.Inner.{Inner, Owner}
use Rattle.vb_meaning.specs.Meaning.{inside}
use Rattle.vb_meaning.specs.Releases.{end_all, settle, settle_last, terminate}
use Rattle.vb_meaning.specs.State.{State, with_store}
use Rattle.vb_meaning.specs.Step.{Step, Returns, Ends, ◌>>◌}
use Rattle.act_laws.specs.Laws.{TerminatorsRunOnce}
use Rattle.act_laws.specs.Objects.{Account, AddsUp, HasBegun, HasEnded, IsEnding, IsLive, account_at, account_of}
use Rattle.act_laws.specs.Terminators.{AllEnded, ComesOut, NoneLoose, RunsEach}
use Rattle.act_laws.proofs.Accounts.{marked, not_there, there_below}
use Rattle.act_laws.proofs.Coming.{Comes, Outcome, Ran, comes_kept}
use Rattle.act_laws.proofs.Counting.{ended_all, ended_count}
use Rattle.act_laws.proofs.Ending.{HasNoneLoose, IsEmptied, end_all_comes, page_comes, settle_comes, settle_keeps}
use Rattle.act_laws.proofs.Ending.{settle_last_comes, terminate_out}
use Rattle.act_laws.proofs.Finishing.{fresh_adds_up, levels_alone}
use Rattle.act_laws.proofs.Keeping.{Keeps}
use Rattle.act_laws.proofs.Marks.{ending_marks, loose_is_live, oldest_is_live}

ran_ended : (object : ℕ) (before after : Account) → IsEnding object before → Ran object before after
    → HasEnded object after
ran_ended object before after ends ran = subst (λ account. HasEnded object account) (sym ran.is) (
  there_below ran.last.objects ran.last.made object true ran.settled.onward.adds_up.below
      (ran.settled.stays object ends),
  not_there ran.last object ran.settled.onward.adds_up,
)

has_begun : (object : ℕ) (account : Account) → AddsUp account → IsEnding object account → HasBegun object account
has_begun object account right ends = (
  there_below account.objects account.made object true right.below ends,
  λ live. let both : Some true ≡ Some false = sym ends ∙ live in absurd (cc),
)

comes_out : {E : Type 0} (object : ℕ) (before : Account) → AddsUp before → IsEnding object before
    → (step : Step (State E) (Unit {0})) → Outcome object before step → ComesOut object step
comes_out object before right ends (Returns done s) out = ran_ended object before (account_at s) ends out
comes_out object before right ends (Ends stop.Page s) out = ran_ended object before (account_at s) ends out
comes_out object before right ends (Ends (stop.Error what line) s) out = out
comes_out object before right ends (Ends (stop.Limit kind line) s) out =
    out.begun object (has_begun object before right ends)
comes_out object before right ends (Ends (stop.Wants call) s) out =
    out.begun object (has_begun object before right ends)
comes_out object before right ends (Ends stop.Memory s) out =
    out.begun object (has_begun object before right ends)

all_ended : {E : Type 0} (before : Account) → ((number : ℕ) → IsEnding number before → ⊥)
    → (step : Step (State E) (Unit {0})) → Comes ⊥ IsEmptied before step → AllEnded step
all_ended before none (Returns done s) comes =
    ended_all (account_at s) (comes.1 (λ other ends. none other (comes.0.stood other ends)))
all_ended before none (Ends why s) comes = tt

leaves_none : {E : Type 0} (stops : Type 0) (before : Account) (step : Step (State E) (Unit {0}))
    → Comes stops HasNoneLoose before step → NoneLoose step
leaves_none stops before (Returns done s) comes = comes.1
leaves_none stops before (Ends why s) comes = tt

begins : {E : Type 0} (s : State E) (object : ℕ) → AddsUp (account_at s) → IsLive object (account_at s)
    → IsEnding object (account_of (with_store (with_ending (Some object)) s.world))
begins s object right live = subst (λ account. IsEnding object account)
    (sym (ending_marks s.world.store object s.world.finished live)) (marked (account_at s) object right live)

module _ (E : Type 0) (m : Inner E)
    (enter : (owner : Owner) (procedure : Procedure) (arguments : List Argument)
    → Keeps account_at (m.enter owner procedure arguments)) where
  runs_each : (s : State E) → AddsUp (account_at s) → RunsEach E m s
  runs_each s right = record {
    loose = λ object is. loose_is_live s.world.store object s.world.finished right.differ is;
    last = λ object is. oldest_is_live s.world.store object s.world.finished right.differ is;
    begins = λ object live. begins s object right live;
    ends = λ object ends. comes_out object (account_at s) right ends (terminate E m object s)
        (terminate_out E m enter object s right ends);
    counted = ended_count (account_at s) right;
    settles = leaves_none (Unit {0}) (account_at s) (settle E m s) (settle_comes E m enter s right);
    settles_last = leaves_none ⊥ (account_at s) (settle_last E m s) (settle_last_comes E m enter s right);
    all = λ none. all_ended (account_at s) none ((settle_last E m >> end_all E m) s) (page_comes E m enter s right);
  }

pub run_once : (E : Type 0) → TerminatorsRunOnce E
run_once E = (
  fresh_adds_up,
  λ host program levels s right.
      let i = levels_alone E host program levels in
      let m = inside E host program levels in
      let enter : (owner : Owner) (procedure : Procedure) (arguments : List Argument)
      → Keeps account_at (m.enter owner procedure arguments) =
      λ owner procedure arguments. (i.enter_fits owner procedure arguments).keeps in (
        runs_each E m enter s right,
        record {
          settle = settle_keeps E m enter s right;
          settle_last = comes_kept ⊥ HasNoneLoose (account_at s) (settle_last E m s)
              (settle_last_comes E m enter s right);
          end_all = comes_kept ⊥ IsEmptied (account_at s) (end_all E m s) (end_all_comes E m enter s right);
          value = λ x. (i.value_fits x).keeps s right;
          argument = λ x. (i.argument_fits x).keeps s right;
          assign = λ how path found. (i.assign_fits how path found).keeps s right;
          call = λ path. (i.call_fits path).keeps s right;
          statement = λ x. (i.statement_fits x).keeps s right;
          enter = λ owner procedure arguments. (i.enter_fits owner procedure arguments).keeps s right;
        },
      ),
)
