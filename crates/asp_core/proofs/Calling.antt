-- What a call of the Application object leaves of a right journal.
use Rattle.std.proofs.Common.{◌≡◌, ℕ, ◌-◌, ◌^◌, ◌<◌, ◌⊎◌, min, Bool, true, false}
use Rattle.std.proofs.Common.{if◌then◌else◌, List, [], ◌∷◌, ◌++◌, reverse, Option, Some, None}
use Rattle.std.proofs.Common.{refl, ap, sym, ◌∙◌, subst, arith, inl, inr}
use Rattle.asp_journal.specs.declared.full.Full.{Full}
use Rattle.asp_core.specs.Calling.{HasCalled, IsShort, is_read}
use Rattle.asp_core.specs.Book.{BookView, IsSound, past_in}
use Rattle.asp_core.specs.Kernel.{CoreView, IsKept, IsRunOf, IsTooMuch, IsWithin, RunView}
use Rattle.asp_core.specs.Kernel.{StandsAt, past_of, rules_of, wanted_by}
use Rattle.asp_core.specs.declared.run.Progress.{Progress}
use Rattle.asp_core.specs.declared.run.Progress.TheVariants as progress
use Rattle.asp_app.specs.View.{AppView, with_state}
use Rattle.asp_job.specs.Application.{AppState, apply, blocker_of, is_full, with_value}
use Rattle.asp_job.specs.Calls.{IsAppCall, IsReply}
use Rattle.asp_job.specs.History.{HasNoRoom, HasNotFit, call_entry, held_by, load, reply_weight, weight_load}
use Rattle.asp_job.specs.History.{with_lane}
use Rattle.asp_job.specs.Keys.{told}
use Rattle.asp_job.specs.Rules.{Rules}
use Rattle.asp_job.specs.Runs.{replies_of}
use Rattle.asp_job.specs.Told.{Meaning, Outcome, Told, Wants, heard}
use Rattle.asp_job.specs.Turns.{IsRunning}
use Rattle.asp_job.specs.declared.answer.Answer.{Answer}
use Rattle.asp_job.specs.declared.answer.Fail.{Fail}
use Rattle.asp_job.specs.declared.entry.Entry.{Entry}
use Rattle.asp_job.specs.declared.entry.TheConstants.{MOST_ENTRIES, MOST_WEIGHT}
use Rattle.asp_job.specs.declared.entry.What.TheVariants.{App}
use Rattle.asp_session.specs.Account.{Account}
use Rattle.vb_value.specs.declared.application.AppCall.{AppCall}
use Rattle.vb_value.specs.declared.application.AppCall.TheVariants as call
use Rattle.vb_value.specs.declared.application.AppReply.{AppReply}
use Rattle.vb_value.specs.declared.application.AppReply.TheVariants as reply
use Rattle.asp_journal.proofs.Others.{own_number}
use Rattle.asp_journal.proofs.Past.{past_push}
use Rattle.asp_core.proofs.Failing.{fail_push}
use Rattle.asp_core.proofs.Kept.{may_follow}
use Rattle.asp_core.proofs.Same.{sound_grown}

-- ---- calls that read, and calls that write

pub read_same : (object : AppView) (run : ℕ) (c : AppCall) → is_read c ≡ true →
    with_state object (apply object.state run c).0 ≡ object
read_same object run (call.Get name) e = refl
read_same object run call.Count e = refl
read_same object run (call.KeyAt place) e = refl
read_same object run call.Names e = refl
read_same object run (call.Put name value) e = absurd cc
read_same object run (call.Remove name) e = absurd cc
read_same object run call.RemoveAll e = absurd cc
read_same object run call.Lock e = absurd cc
read_same object run call.Unlock e = absurd cc

abbrev filled_if : Bool → AppState → AppState → AppState × AppReply
filled_if full state other = if full then (state, reply.Full) else (other, reply.Done)

short_filled : (full : Bool) (state other : AppState) → IsShort (filled_if full state other).1
short_filled true state other = tt
short_filled false state other = tt

pub write_short : (state : AppState) (run : ℕ) (c : AppCall) → is_read c ≡ false → IsShort (apply state run c).1
write_short state run (call.Get name) e = absurd cc
write_short state run call.Count e = absurd cc
write_short state run (call.KeyAt place) e = absurd cc
write_short state run call.Names e = absurd cc
write_short state run (call.Put name value) e =
    let entries = with_value name value state.entries in
    short_filled (is_full entries) state (record state { entries = entries })
write_short state run (call.Remove name) e = tt
write_short state run call.RemoveAll e = tt
write_short state run call.Lock e = tt
write_short state run call.Unlock e = tt

short_weight : (r : AppReply) → IsShort r → reply_weight r ≡ 0
short_weight reply.Done s = refl
short_weight reply.Full s = refl
short_weight (reply.Value value) s = absurd s
short_weight (reply.Number n) s = absurd s
short_weight (reply.Name name) s = absurd s
short_weight reply.NoName s = absurd s
short_weight (reply.Names names) s = absurd s

-- a short reply weighs as much as another
same_load : (past : List Entry) (lane run : ℕ) (c : AppCall) (r : AppReply) → IsShort r →
    weight_load (with_lane lane (App run c r) ∷ past) ≡ weight_load (with_lane lane (App run c reply.Done) ∷ past)
same_load past lane run c r short = let none = short_weight r short in omega arith

pub short_within : (past : List Entry) (lane run : ℕ) (c : AppCall) (r : AppReply) → IsShort r →
    IsWithin (with_lane lane (App run c reply.Done) ∷ past) → IsWithin (with_lane lane (App run c r) ∷ past)
short_within past lane run c r short within =
    let same = same_load past lane run c r short in
    let few = within.few in
    let light = within.light in
    record { few = few; light = rw same light }

pub short_much : (past : List Entry) (lane run : ℕ) (full : Full) (c : AppCall) (r : AppReply) → IsShort r →
    IsTooMuch (with_lane lane (App run c reply.Done) ∷ past) full →
    IsTooMuch (with_lane lane (App run c r) ∷ past) full
short_much past lane run full c r short much =
    let same = same_load past lane run c r short in
    record {
      entries_are = much.entries_are;
      weight_is = much.weight_is ∙ ap (λ w. min w (2 ^ 64 - 1)) (sym same);
      much = much.much;
    }

-- of calls that write
pub ruleset of_writes = (write_short, short_within, short_much)

-- ---- the entry of a call

kept_call : (m : Rules) (past : List Entry) (account : Account) (held : AppView)
    (answers : List (ℕ × Answer)) (lane run : ℕ) (c : AppCall) → IsKept m past account held answers →
    IsRunning past lane run → m.meaning.does (told m past run) ≡ Wants c →
    blocker_of held.strict held.state run c ≡ None → IsAppCall c → IsReply (apply held.state run c).1 →
    IsKept m (call_entry past lane run c ∷ past) account (with_state held (apply held.state run c).0) answers
kept_call m past account held answers lane run c kept running wants free asks replied =
    let entry = call_entry past lane run c in
    let turn = may_follow m past entry kept.sessions.journal.settled running in
    let free_now : blocker_of m.strict (held_by past) run c ≡ None =
    ap (λ (h : AppView). blocker_of h.strict h.state run c) (sym kept.held_is) ∙ free in
    record {
      sessions = record {
        journal = record {
          entries = (record { turn = turn; legal = (free_now, refl); follows = wants }, kept.sessions.journal.entries);
          settled = refl;
        };
        account_is = kept.sessions.account_is;
      };
      held_is = ap (λ (h : AppView). with_state h (apply h.state run c).0) kept.held_is;
      answers_are = kept.answers_are;
      answered = (tt, kept.answered);
      formed = ((asks, subst (λ (h : AppView). IsReply (apply h.state run c).1) kept.held_is replied), kept.formed);
    }

-- what a run was told after a reply
pub called_told : (m : Rules) (past : List Entry) (lane run : ℕ) (c : AppCall) →
    told m (call_entry past lane run c ∷ past) run ≡ heard (told m past run) (apply (held_by past) run c).1
called_told m past lane run c =
    let own = own_number run in
    let replies : replies_of (call_entry past lane run c ∷ past) run
    ≡ replies_of past run ++ (apply (held_by past) run c).1 ∷ [] = rw own refl in
    ap (λ r. record (told m past run) { replies = r }) replies

-- the journal grows by the entry of the call
pub call_grown : {Site State : Type 0} → (stands : Site → State → Told → ℕ → Type 0) (lane : ℕ) (old : BookView)
    (held : AppView) (run : RunView State) (new : BookView) (then_held : AppView) (then_run : RunView State) →
    held.state ≡ held_by (past_in old) → (has : HasCalled stands lane old held run new then_held then_run) →
    new.items ≡ old.items ++ call_entry (past_in old) lane run.number has.call ∷ []
call_grown stands lane old held run new then_held then_run held_is has =
    has.grows.0.0
    ∙ ap (λ h. old.items ++ with_lane lane (App run.number has.call (apply h run.number has.call).1) ∷ []) held_is

-- what a run that is the core's wants, its meaning wants
abbrev pub MeansIt : {State : Type 0} → Rules → List Entry → RunView State → Type 0
MeansIt m past run = (c : AppCall) → wanted_by run.progress ≡ Some c → m.meaning.does (told m past run.number) ≡ Wants c

-- what a core keeps after the call
pub sound_called : {Site State : Type 0} → (m : Rules) (stands : Site → State → Told → ℕ → Type 0) (lane : ℕ)
    (old new : BookView) (account : Account) (held then_held : AppView) (fail : Option Fail)
    (run then_run : RunView State) → IsSound m (past_in old) account held old.answers fail →
    IsRunning (past_in old) lane run.number → MeansIt m (past_in old) run →
    HasCalled stands lane old held run new then_held then_run →
    IsSound m (past_in new) account then_held new.answers fail
sound_called m stands lane old new account held then_held fail run then_run sound running means has =
    let past = past_in old in
    let entry = call_entry past lane run.number has.call in
    let made = call_grown stands lane old held run new then_held then_run
    (ap (λ (h : AppView). h.state) sound.0.held_is) has in
    let of : past_in new ≡ entry ∷ past = ap reverse made ∙ past_push old.items entry in
    let all : IsKept m (entry ∷ past) account (with_state held (apply held.state run.number has.call).0) old.answers =
    kept_call m past account held old.answers lane run.number has.call sound.0 running
    (means has.call has.wanted) has.free has.asks has.replied in
    sound_grown m old new _ account then_held fail has.grows (rw (of, has.held_is) all)
    (fail_push m old.items new.items entry made refl) sound.2

-- ---- the run that made the call

wants_is : (p : Progress) (c : AppCall) → wanted_by p ≡ Some c → p ≡ progress.Wants c
wants_is progress.Going c e = absurd cc
wants_is (progress.Wants other) c e = cc
wants_is progress.Ended c e = absurd cc
wants_is progress.Dead c e = absurd cc

-- its meaning wants the call
wants_call : (p : Progress) (Stands : ℕ → Type 0) (o : Outcome) (c : AppCall) → wanted_by p ≡ Some c →
    StandsAt p Stands o → ((spent : ℕ) × Stands spent) × (o ≡ Wants c)
wants_call p Stands o c e s = subst (λ q. StandsAt q Stands o) (wants_is p c e) s

pub run_wants : {R Site State : Type 0} → (meaning : R → Site → Meaning)
    (stands : R → Site → State → Told → ℕ → Type 0) (core : CoreView R Site) (lane : ℕ) (run : RunView State)
    (c : AppCall) → IsRunOf meaning stands core lane run → wanted_by run.progress ≡ Some c →
    (meaning core.runner core.site).does (told (rules_of meaning core) (past_of core) run.number) ≡ Wants c
run_wants meaning stands core lane run c is wants =
    let t = told (rules_of meaning core) (past_of core) run.number in
    (wants_call run.progress (stands core.runner core.site run.state t) ((meaning core.runner core.site).does t) c wants
    is.stands_for).1

-- it was told the reply, and is the core's still
pub run_called : {R Site State : Type 0} → (meaning : R → Site → Meaning)
    (stands : R → Site → State → Told → ℕ → Type 0) (core : CoreView R Site) (lane : ℕ) (run then_run : RunView State)
    (next : List Entry) (c : AppCall) (answer : AppReply) → IsRunOf meaning stands core lane run →
    wanted_by run.progress ≡ Some c → next ≡ core.journal ++ call_entry (past_of core) lane run.number c ∷ [] →
    answer ≡ (apply (held_by (past_of core)) run.number c).1 → then_run.number ≡ run.number →
    then_run.stand_ins ≡ run.stand_ins → then_run.progress ≡ progress.Going →
    ((t : Told) (spent : ℕ) → stands core.runner core.site run.state t spent →
    stands core.runner core.site then_run.state (heard t answer) spent) →
    IsRunOf meaning stands (record core { journal = next }) lane then_run
run_called meaning stands core lane run then_run next c answer is wants made replied number_is ins going heard_so =
    let rules = rules_of meaning core in
    let past = past_of core in
    let entry = call_entry past lane run.number c in
    let of : reverse next ≡ entry ∷ past = ap reverse made ∙ past_push core.journal entry in
    let t = told rules past run.number in
    let stood = (wants_call run.progress (stands core.runner core.site run.state t)
    ((meaning core.runner core.site).does t) c wants is.stands_for).0 in
    let heard_is : heard t answer ≡ told rules (entry ∷ past) run.number =
    ap (heard t) replied ∙ sym (called_told rules past lane run.number c) in
    let told_so : told rules (entry ∷ past) run.number ≡ told rules (reverse next) then_run.number =
    ap (λ p. told rules p run.number) (sym of) ∙ ap (told rules (reverse next)) (sym number_is) in
    let here = subst (λ x. stands core.runner core.site then_run.state x stood.0) (heard_is ∙ told_so)
    (heard_so t stood.0 stood.1) in
    record {
      running = rw (of, number_is) (record { unfinished = is.running.unfinished; begun_by = is.running.begun_by });
      stands_for = subst (λ p. StandsAt p
          (stands core.runner core.site then_run.state (told rules (reverse next) then_run.number))
          ((meaning core.runner core.site).does (told rules (reverse next) then_run.number))) (sym going)
          (stood.0, here);
      stand_ins_are = rw (of, number_is) (ins ∙ is.stand_ins_are);
    }

-- ---- a call that does not fit

-- a call that has no room now has not fitted
not_fit_now : (strict : Bool) (past : List Entry) (lane run : ℕ) (c : AppCall) → HasNoRoom strict past lane run c →
    HasNotFit strict past lane run c
not_fit_now strict [] lane run c h = h
not_fit_now strict (entry ∷ past) lane run c h = inl h

too_much : (past : List Entry) (full : Full) → IsTooMuch past full →
    (MOST_ENTRIES < load past) ⊎ (MOST_WEIGHT < weight_load past)
too_much past full is = elim is.much [
  | inl many ↦ (let same = is.entries_are in inl (omega arith))
  | inr heavy ↦ (let same = is.weight_is in inr (omega arith))
]

pub not_fit : (m : Rules) (past : List Entry) (account : Account) (held : AppView)
    (answers : List (ℕ × Answer)) (lane run : ℕ) (full : Full) (c : AppCall) →
    IsKept m past account held answers → blocker_of held.strict held.state run c ≡ None →
    IsTooMuch (with_lane lane (App run c (apply held.state run c).1) ∷ past) full →
    IsTooMuch (call_entry past lane run c ∷ past) full × HasNotFit m.strict past lane run c
not_fit m past account held answers lane run full c kept free much =
    let here : IsTooMuch (call_entry past lane run c ∷ past) full =
    subst (λ (h : AppView). IsTooMuch (with_lane lane (App run c (apply h.state run c).1) ∷ past) full)
    kept.held_is much in (
      here,
      not_fit_now m.strict past lane run c (record {
        free = ap (λ (h : AppView). blocker_of h.strict h.state run c) (sym kept.held_is) ∙ free;
        overfull = too_much (call_entry past lane run c ∷ past) full here;
      }),
    )
