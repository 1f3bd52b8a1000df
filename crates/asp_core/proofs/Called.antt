-- What the core's contract says of a call, and the steps of the code.
use Rattle.std.proofs.Common.{◌≡◌, ◌↔◌, ℕ}
use Rattle.std.proofs.Common.{List, [], ◌∷◌, ◌++◌, reverse, Option, Some, None, IsSome, Result}
use Rattle.std.proofs.Common.{Ok, Err, refl, ap, sym, ◌∙◌, subst}
use Rattle.asp_journal.specs.declared.full.Full.{Full}
use Rattle.asp_core.specs.Calling.{HasCalled, IsCallTooMuch, IsReplied, blocker_by}
use Rattle.asp_core.specs.Book.{Adds, BookView, Stays, past_in}
use Rattle.asp_core.specs.Kernel.{CoreView, IsKept, IsRunOf, IsTooMuch, RunView}
use Rattle.asp_core.specs.Kernel.{HasNotFitFor, called, grown, past_of, wanted_by}
use Rattle.asp_core.specs.Stops.{app_stop}
use Rattle.asp_core.specs.declared.stop.AppStepStop.{AppStepStop}
use Rattle.asp_core.specs.declared.stop.AppStepStop.TheVariants as step
use Rattle.asp_core.specs.declared.stop.EventStop.{EventStop}
use Rattle.asp_core.specs.declared.stop.EventStop.TheVariants as event
use Rattle.asp_core.specs.declared.run.Progress.TheVariants as progress
use Rattle.asp_app.specs.View.{AppView, with_state}
use Rattle.asp_job.specs.Application.{apply, blocker_of}
use Rattle.asp_job.specs.Calls.{IsAppCall, IsReply}
use Rattle.asp_job.specs.History.{call_entry, held_by, with_lane}
use Rattle.asp_job.specs.Rules.{Rules}
use Rattle.asp_job.specs.Told.{Meaning, Told, heard}
use Rattle.asp_job.specs.declared.answer.Answer.{Answer}
use Rattle.asp_job.specs.declared.entry.What.TheVariants.{App}
use Rattle.asp_session.specs.Account.{Account}
use Rattle.vb_value.specs.declared.application.AppCall.{AppCall}
use Rattle.vb_value.specs.declared.application.AppReply.{AppReply}
use Rattle.asp_journal.proofs.Past.{past_push}
use Rattle.asp_core.proofs.Same.{view_of}
use Rattle.asp_job.specs.Journal.{past_after}
use Rattle.asp_core.proofs.Calling.{call_grown, run_called, not_fit}
use Rattle.asp_core.specs.declared.setting.Setting.{Setting}

-- ---- what the core's contract says of it

called_is : {R Site State : Type 0} → (core : CoreView R Site) (lane : ℕ) (run : RunView State) (c : AppCall) →
    wanted_by run.progress ≡ Some c → called core lane run ≡ call_entry (past_of core) lane run.number c ∷ []
called_is core lane run c wants = rw (wants, called) refl

-- the core has the entry of the call more
pub core_called : {R Site State : Type 0} → (runner : R) (site : Site) (setting : Setting)
    (stands : Site → State → Told → ℕ → Type 0) (lane : ℕ) (old : BookView) (held : AppView) (run : RunView State)
    (new : BookView) (then_held : AppView) (then_run : RunView State) → held.state ≡ held_by (past_in old) →
    HasCalled stands lane old held run new then_held then_run →
    view_of runner site setting new.items
    ≡ grown (view_of runner site setting old.items) (called (view_of runner site setting old.items) lane run)
core_called runner site setting stands lane old held run new then_held then_run held_is has =
    let core = view_of runner site setting old.items in
    let made = call_grown stands lane old held run new then_held then_run held_is has in
    ap (view_of runner site setting) made ∙ ap (grown core) (sym (called_is core lane run has.call has.wanted))

-- the run that made it is the core's still
pub run_of_called : {R Site State : Type 0} → (meaning : R → Site → Meaning)
    (stands : R → Site → State → Told → ℕ → Type 0) (runner : R) (site : Site) (setting : Setting) (lane : ℕ)
    (old : BookView) (held : AppView) (run : RunView State) (new : BookView) (then_held : AppView)
    (then_run : RunView State) → held.state ≡ held_by (past_in old) →
    IsRunOf meaning stands (view_of runner site setting old.items) lane run →
    HasCalled (stands runner) lane old held run new then_held then_run →
    IsRunOf meaning stands (view_of runner site setting new.items) lane then_run
run_of_called meaning stands runner site setting lane old held run new then_held then_run held_is is has =
    let made = call_grown (stands runner) lane old held run new then_held then_run held_is has in
    run_called meaning stands (view_of runner site setting old.items) lane run then_run new.items has.call
    (apply held.state run.number has.call).1 is has.wanted made (ap (λ h. (apply h run.number has.call).1) held_is)
    has.number_is has.stand_ins_are has.progress_is (has.heard_so site)

-- it was let through
pub free_called : {Site State : Type 0} → (stands : Site → State → Told → ℕ → Type 0) (lane : ℕ) (old : BookView)
    (held : AppView) (run : RunView State) (new : BookView) (then_held : AppView) (then_run : RunView State) →
    HasCalled stands lane old held run new then_held then_run → blocker_by held run ≡ None
free_called stands lane old held run new then_held then_run has =
    let wants = has.wanted in rw (wants, blocker_by) has.free

-- its entry does not fit
pub full_called : {R Site State : Type 0} → (m : Rules) (core : CoreView R Site)
    (account : Account) (held : AppView) (answers : List (ℕ × Answer)) (lane : ℕ)
    (run : RunView State) (full : Full) → IsKept m (past_of core) account held answers →
    IsCallTooMuch (past_of core) lane held run full →
    IsTooMuch (past_after (past_of core) (called core lane run)) full × HasNotFitFor m.strict (past_of core) lane run
full_called m core account held answers lane run full kept is =
    let past = past_of core in
    let both = not_fit m past account held answers lane run.number full is.call kept is.free is.much in (
      subst (λ es. IsTooMuch (past_after past es) full)
          (sym (called_is core lane run is.call is.wanted)) both.0,
      (is.call, is.wanted, both.1),
    )

-- ---- the steps of the code

abbrev stopped : AppStepStop → Result (Unit {0}) AppStepStop
stopped stop = Err stop

abbrev done : Result (Unit {0}) AppStepStop
done = Ok tt

pub no_call : (o : Option AppCall) → IsSome o → o ≡ None → ⊥
no_call None some none = cc
no_call (Some c) some none = cc

pub blocker_known : {State : Type 0} → (held : AppView) (run : RunView State) (number : ℕ) (c : AppCall)
    (b : Option ℕ) → wanted_by run.progress ≡ Some c → number ≡ run.number → b ≡ blocker_of held.strict held.state number c →
    blocker_by held run ≡ b
blocker_known held run number c b wants same is =
    rw (wants, blocker_by) (sym (is ∙ ap (λ n. blocker_of held.strict held.state n c) same))

pub blocked_exact : (b : Option ℕ) (mine holder : ℕ) → b ≡ Some mine →
    (stopped (step.Blocked mine) ≡ stopped (step.Blocked holder)) ↔ (b ≡ Some holder)
blocked_exact b mine holder is = (
  λ e. let same : mine ≡ holder = cc in is ∙ ap Some same,
  λ e. let same : mine ≡ holder = cc in ap (λ h. stopped (step.Blocked h)) same,
)

no_block : (stop : EventStop) (holder : ℕ) → app_stop stop ≡ step.Blocked holder → ⊥
no_block (event.JournalFull full) holder e = cc
no_block event.Memory holder e = cc

pub unblocked_exact : (b : Option ℕ) (stop : EventStop) (told_stop : AppStepStop) (holder : ℕ) → b ≡ None →
    told_stop ≡ app_stop stop → (stopped told_stop ≡ stopped (step.Blocked holder)) ↔ (b ≡ Some holder)
unblocked_exact b stop told_stop holder none is = (
  λ e. absurd (let same : told_stop ≡ step.Blocked holder = cc in no_block stop holder (sym is ∙ same)),
  λ e. absurd cc,
)

pub done_exact : (b : Option ℕ) (holder : ℕ) → b ≡ None →
    (done ≡ stopped (step.Blocked holder)) ↔ (b ≡ Some holder)
done_exact b holder none = (λ e. absurd cc, λ e. absurd cc)

full_back : (stop : EventStop) (full : Full) → app_stop stop ≡ step.JournalFull full →
    stop ≡ event.JournalFull full
full_back (event.JournalFull most) full e = cc
full_back event.Memory full e = absurd cc

pub full_told : (stop : EventStop) (told_stop : AppStepStop) (full : Full) → told_stop ≡ app_stop stop →
    stopped told_stop ≡ stopped (step.JournalFull full) → stop ≡ event.JournalFull full
full_told stop told_stop full is e =
    let same : told_stop ≡ step.JournalFull full = cc in full_back stop full (sym is ∙ same)

-- what was made of the call
pub has_called : {Site State : Type 0} → (stands : Site → State → Told → ℕ → Type 0) (lane : ℕ)
    (old mid new : BookView) (held then_held : AppView) (run then_run : RunView State) (number : ℕ)
    (c taken : AppCall) (replies : AppReply × AppReply) → wanted_by run.progress ≡ Some c →
    Some taken ≡ wanted_by run.progress → number ≡ run.number → IsAppCall c →
    IsReplied mid lane number c held then_held replies → Stays old mid →
    Adds mid (with_lane lane (App number taken replies.0) ∷ []) new → then_run.number ≡ run.number →
    then_run.stand_ins ≡ run.stand_ins → then_run.progress ≡ progress.Going →
    ((site : Site) (t : Told) (spent : ℕ) → stands site run.state t spent →
    stands site then_run.state (heard t replies.1) spent) → HasCalled stands lane old held run new then_held then_run
has_called stands lane old mid new held then_held run then_run number c taken replies wants took same asks is stays
    adds number_is ins going heard_so =
    let taken_is : taken ≡ c = cc in
    let entry = with_lane lane (App number c replies.0) in
    let here : new.items ≡ mid.items ++ entry ∷ [] =
    adds.0 ∙ ap (λ x. mid.items ++ with_lane lane (App number x replies.0) ∷ []) taken_is in
    let of : past_in new ≡ entry ∷ past_in mid = ap reverse here ∙ past_push mid.items entry in
    let made : new.items ≡ old.items ++ entry ∷ [] = here ∙ ap (λ items. items ++ entry ∷ []) stays.0 in
    let free = is.free in
    record {
      call = c;
      wanted = wants;
      asks = asks;
      replied = subst (λ n. IsReply (apply held.state n c).1) same (subst IsReply is.reply_is is.may);
      free = subst (λ n. blocker_of held.strict held.state n c ≡ None) same free;
      grows = (
        (
          made ∙ ap (λ r. old.items ++ with_lane lane (App number c r) ∷ []) is.reply_is
              ∙ ap (λ n. old.items ++ with_lane lane (App n c (apply held.state n c).1) ∷ []) same,
          adds.1 ∙ stays.1,
        ),
        rw of is.within,
      );
      held_is = is.held_is ∙ ap (λ n. with_state held (apply held.state n c).0) same;
      number_is = number_is;
      stand_ins_are = ins;
      progress_is = going;
      heard_so = λ site t spent s. subst (λ r. stands site then_run.state (heard t r) spent)
          (is.copy_is ∙ is.reply_is ∙ ap (λ n. (apply held.state n c).1) same) (heard_so site t spent s);
    }
