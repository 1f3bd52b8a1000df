-- What each turn leaves of a core.
use Rattle.std.proofs.Common.{◌≡◌, ℕ, Bool, List, [], ◌∷◌, refl, ap, sym, ◌∙◌, subst, append-nil, inl, inr}
use Rattle.std.proofs.Common.{Option, Some, None, IsSome}
use Rattle.vb_value.specs.declared.application.AppCall.{AppCall}
use Rattle.asp_job.specs.declared.entry.EndKind.{EndKind}
use Rattle.asp_job.specs.declared.entry.EndKind.TheVariants as kind
use Rattle.asp_job.specs.declared.entry.Entry.{Entry}
use Rattle.asp_job.specs.Application.{blocker_of}
use Rattle.asp_job.specs.History.{call_entry, held_by}
use Rattle.asp_job.specs.Journal.{AreRight, MayEnd, begin_entry, end_entry, past_after}
use Rattle.asp_job.specs.Keys.{told}
use Rattle.asp_job.specs.Output.{answer_by, counted, finished_in, length_in, made_in, status_in}
use Rattle.asp_job.specs.Rules.{Rules}
use Rattle.asp_job.specs.Runs.{unfinished}
use Rattle.asp_job.specs.Told.{Meaning, Told, Wants}
use Rattle.asp_job.specs.Turns.{IsBegin, serial_of}
use Rattle.asp_journal.specs.declared.full.Full.{Full}
use Rattle.asp_core.specs.declared.run.Progress.{Progress}
use Rattle.asp_core.specs.declared.run.Progress.TheVariants as progress
use Rattle.asp_core.specs.declared.stop.BeginStop.{BeginStop}
use Rattle.asp_core.specs.declared.stop.BeginStop.TheVariants as begin
use Rattle.asp_core.specs.Kernel.{CoreView, RunView, IsBeginTooMuch, IsIdle, IsRunOf, IsTooMuch, StandsAsBefore}
use Rattle.asp_core.specs.Kernel.{StandsAt, blocker, called, grown, past_of, rules_of, wanted_by}
use Rattle.asp_journal.proofs.Past.{past_push}
use Rattle.asp_lane.specs.declared.turn.TurnEnd.{TurnEnd}
use Rattle.asp_lane.specs.declared.turn.TurnEnd.TheVariants as turn
use Rattle.asp_lane.specs.Turns.{AddsTurn, IsAlone, IsTurn, turn_of}
use Rattle.asp_lane.proofs.Unfinished.{begun_alone, ended_none, never_blocked}

-- ---- cores

pub grown_none : {R Site : Type 0} → (core : CoreView R Site) → grown core [] ≡ core
grown_none core =
    ap (λ journal. record { journal = journal; runner = core.runner; site = core.site; setting = core.setting })
    (append-nil core.journal)

past_grown : {R Site : Type 0} → (old new : CoreView R Site) (entry : Entry) → new ≡ grown old (entry ∷ [])
    → past_of new ≡ entry ∷ past_of old
past_grown old new entry e = ap past_of e ∙ past_push old.journal entry

-- the entry of the call that a run wants
one_call : {R Site : Type 0} → (core : CoreView R Site) (lane run : ℕ) (wanted : Option AppCall) (call : AppCall)
    → wanted ≡ Some call
    → (elim wanted [ Some made ↦ call_entry (past_of core) lane run made ∷ [] | None ↦ [] ])
    ≡ call_entry (past_of core) lane run call ∷ []
one_call core lane run wanted call e = rw e refl

-- ---- what a run wants

wants_is : (at : Progress) (call : AppCall) → wanted_by at ≡ Some call → at ≡ progress.Wants call
wants_is progress.Going call e = absurd cc
wants_is (progress.Wants made) call e = cc
wants_is progress.Ended call e = absurd cc
wants_is progress.Dead call e = absurd cc

pub some_is : {A : Type 0} → (o : Option A) → IsSome o → (x : A) × (o ≡ Some x)
some_is None wants = absurd cc
some_is (Some x) wants = (x, refl)

no_holder : (holder : Option ℕ) → ((run : ℕ) → holder ≡ Some run → ⊥) → holder ≡ None
no_holder None never = refl
no_holder (Some run) never = absurd (never run refl)

module _ {R Site State : Type 0} (meaning : R → Site → Meaning) (stands : R → Site → State → Told → ℕ → Type 0) where
  -- the call that the run wants is the one that its meaning wants
  pub wants_so : (core : CoreView R Site) (lane : ℕ) (run : RunView State) (call : AppCall)
      → IsRunOf meaning stands core lane run → wanted_by run.progress ≡ Some call
      → (meaning core.runner core.site).does (told (rules_of meaning core) (past_of core) run.number) ≡ Wants call
  wants_so core lane run call is_of e =
      let t = told (rules_of meaning core) (past_of core) run.number in
      let at : StandsAt (progress.Wants call) (stands core.runner core.site run.state t)
      ((meaning core.runner core.site).does t) =
      subst (λ (p : Progress). StandsAt p (stands core.runner core.site run.state t)
      ((meaning core.runner core.site).does t)) (wants_is run.progress call e) is_of.stands_for in
      at.1

  -- a run that has ended did so by its meaning
  ends_so : (core : CoreView R Site) (lane : ℕ) (run : RunView State) → IsRunOf meaning stands core lane run
      → run.progress ≡ progress.Ended → MayEnd (rules_of meaning core) (past_of core) lane run.number kind.Done
  ends_so core lane run is_of e =
      let t = told (rules_of meaning core) (past_of core) run.number in
      let at : StandsAt progress.Ended (stands core.runner core.site run.state t)
      ((meaning core.runner core.site).does t) =
      subst (λ (p : Progress). StandsAt p (stands core.runner core.site run.state t)
      ((meaning core.runner core.site).does t)) e is_of.stands_for in
      at.1

  -- ---- turns with no run in hand

  -- a run has begun
  pub begun_turn : (lane : ℕ) (old new : CoreView R Site) (run : RunView State)
      → AreRight (rules_of meaning old) (past_of old) → unfinished (past_of old) ≡ []
      → IsBegin (rules_of meaning old) (past_of old) run.number
      (serial_of (rules_of meaning old) (past_of old) run.number)
      → new ≡ grown old (begin_entry (rules_of meaning old) (past_of old) lane run.number ∷ [])
      → IsRunOf meaning stands new lane run → run.progress ≡ progress.Going
      → IsTurn meaning stands lane old None new (Some run) turn.Done
  begun_turn lane old new run right none begins new_is is_of going =
      let rules = rules_of meaning old in
      let past = past_of old in
      let entry = begin_entry rules past lane run.number in
      let alone : unfinished (past_of new) ≡ run.number ∷ [] = ap unfinished (past_grown old new entry new_is)
      ∙ begun_alone rules past lane run.number (serial_of rules past run.number) right none begins.next.begins in
      record {
        entries = entry ∷ [];
        new_is = new_is;
        adds = (run.number, begins, refl);
        fits = (record { is_of = is_of; alone = alone }, going);
      }

  -- nothing was added
  pub none_turn : (lane : ℕ) (old new : CoreView R Site) (turn : TurnEnd) → unfinished (past_of old) ≡ []
      → new ≡ old → AddsTurn {State = State} (rules_of meaning old) (past_of old) lane None [] turn
      → IsTurn meaning stands lane old None new None turn
  none_turn lane old new turn none same adds = record {
    entries = [];
    new_is = same ∙ sym (grown_none old);
    adds = adds;
    fits = ap (λ core. unfinished (past_of core)) same ∙ none;
  }

  -- no run has begun
  pub stopped_turn : (lane : ℕ) (old new : CoreView R Site) (stop : BeginStop) → unfinished (past_of old) ≡ []
      → new ≡ old → (stop ≡ begin.Idle → IsIdle (rules_of meaning old) (past_of old))
      → ((full : Full) → stop ≡ begin.JournalFull full
      → IsBeginTooMuch (rules_of meaning old) (past_of old) lane full)
      → IsTurn meaning stands lane old None new None (turn_of stop)
  stopped_turn lane old new begin.Idle none same idle full =
      none_turn lane old new turn.Idle none same (idle refl, refl)
  stopped_turn lane old new (begin.JournalFull full) none same idle much =
      none_turn lane old new (turn.JournalFull full) none same (much full refl, refl)
  stopped_turn lane old new begin.Memory none same idle full = none_turn lane old new turn.Memory none same refl

  -- ---- turns with a run in hand

  -- the run has gone on, and is still the only one
  pub still_alone : (core : CoreView R Site) (lane : ℕ) (run then_run : RunView State)
      → IsAlone meaning stands core lane run → then_run.number ≡ run.number → then_run.stand_ins ≡ run.stand_ins
      → StandsAsBefore (stands core.runner core.site) (meaning core.runner core.site) run then_run
      → IsAlone meaning stands core lane then_run
  still_alone core lane run then_run alone number stand_ins stands_still =
      let is_of = alone.is_of in
      let t = told (rules_of meaning core) (past_of core) run.number in
      let stands_for = stands_still t is_of.stands_for in
      rw number (record {
        is_of = record {
          running = is_of.running;
          stands_for = stands_for;
          stand_ins_are = stand_ins ∙ is_of.stand_ins_are;
        };
        alone = alone.alone;
      })

  -- it has more to do
  pub more_turn : (core : CoreView R Site) (lane : ℕ) (run then_run : RunView State)
      → IsAlone meaning stands core lane then_run → then_run.progress ≡ progress.Going
      → IsTurn meaning stands lane core (Some run) core (Some then_run) turn.More
  more_turn core lane run then_run alone going = record {
    entries = [];
    new_is = sym (grown_none core);
    adds = refl;
    fits = (alone, going);
  }

  -- it has made a call
  pub called_turn : (lane : ℕ) (old new : CoreView R Site) (run then_run : RunView State) (call : AppCall)
      → IsAlone meaning stands old lane run → wanted_by run.progress ≡ Some call
      → new ≡ grown old (called old lane run) → IsRunOf meaning stands new lane then_run
      → then_run.number ≡ run.number → then_run.progress ≡ progress.Going
      → IsTurn meaning stands lane old (Some run) new (Some then_run) turn.Done
  called_turn lane old new run then_run call alone wanted new_is is_of number going =
      let entry = call_entry (past_of old) lane run.number call in
      let made : called old lane run ≡ entry ∷ [] =
      one_call old lane run.number (wanted_by run.progress) call wanted in
      let grows : new ≡ grown old (entry ∷ []) = new_is ∙ ap (λ entries. grown old entries) made in
      let past : past_of new ≡ entry ∷ past_of old = past_grown old new entry grows in
      let then_alone : unfinished (past_of new) ≡ then_run.number ∷ [] =
      ap unfinished past ∙ alone.alone ∙ ap (λ n. n ∷ []) (sym number) in
      record {
        entries = entry ∷ [];
        new_is = grows;
        adds = (entry, inl (call, wants_so old lane run call alone.is_of wanted, refl), refl);
        fits = (record { is_of = is_of; alone = then_alone }, going);
      }

  -- it has ended
  ended_turn : (lane : ℕ) (old new : CoreView R Site) (run : RunView State) (kind : EndKind) (turn : TurnEnd)
      → AreRight (rules_of meaning old) (past_of old) → IsAlone meaning stands old lane run
      → new ≡ grown old (end_entry (rules_of meaning old) (past_of old) lane run.number kind ∷ [])
      → AddsTurn (rules_of meaning old) (past_of old) lane (Some run)
      (end_entry (rules_of meaning old) (past_of old) lane run.number kind ∷ []) turn
      → IsTurn meaning stands lane old (Some run) new None turn
  ended_turn lane old new run kind turn right alone new_is adds =
      let rules = rules_of meaning old in
      let past = past_of old in
      let entry = end_entry rules past lane run.number kind in
      let answer = answer_by rules past run.number kind in
      let does = rules.meaning.does (told rules past run.number) in
      record {
        entries = entry ∷ [];
        new_is = new_is;
        adds = adds;
        fits = ap unfinished (past_grown old new entry new_is)
            ∙ ended_none rules past lane run.number kind (status_in answer) (length_in answer)
            (counted kind (made_in does)) (counted kind (finished_in does)) right
            alone.is_of.running.unfinished alone.alone;
      }

  -- by itself
  pub done_turn : (lane : ℕ) (old new : CoreView R Site) (run : RunView State)
      → AreRight (rules_of meaning old) (past_of old) → IsAlone meaning stands old lane run
      → run.progress ≡ progress.Ended
      → new ≡ grown old (end_entry (rules_of meaning old) (past_of old) lane run.number kind.Done ∷ [])
      → IsTurn meaning stands lane old (Some run) new None turn.Done
  done_turn lane old new run right alone ended new_is =
      ended_turn lane old new run kind.Done turn.Done right alone new_is (
        end_entry (rules_of meaning old) (past_of old) lane run.number kind.Done,
        inr (inl (ends_so old lane run alone.is_of ended, refl)),
        refl,
      )

  -- for want of memory
  pub dead_turn : (lane : ℕ) (old new : CoreView R Site) (run : RunView State)
      → AreRight (rules_of meaning old) (past_of old) → IsAlone meaning stands old lane run
      → new ≡ grown old (end_entry (rules_of meaning old) (past_of old) lane run.number kind.Memory ∷ [])
      → IsTurn meaning stands lane old (Some run) new None turn.Done
  dead_turn lane old new run right alone new_is =
      ended_turn lane old new run kind.Memory turn.Done right alone new_is
      (end_entry (rules_of meaning old) (past_of old) lane run.number kind.Memory, inr (inr refl), refl)

  -- because its call does not fit
  pub full_turn : (lane : ℕ) (old new : CoreView R Site) (run : RunView State) (call : AppCall) (full : Full)
      → AreRight (rules_of meaning old) (past_of old) → IsAlone meaning stands old lane run
      → wanted_by run.progress ≡ Some call
      → IsTooMuch (past_after (past_of old) (called old lane run)) full
      → new ≡ grown old (end_entry (rules_of meaning old) (past_of old) lane run.number kind.JournalFull ∷ [])
      → IsTurn meaning stands lane old (Some run) new None (turn.JournalFull full)
  full_turn lane old new run call full right alone wanted much new_is =
      let entry = call_entry (past_of old) lane run.number call in
      let made : called old lane run ≡ entry ∷ [] =
      one_call old lane run.number (wanted_by run.progress) call wanted in
      let too : IsTooMuch (entry ∷ past_of old) full =
      subst (λ (list : List Entry). IsTooMuch (past_after (past_of old) list) full) made much in
      ended_turn lane old new run kind.JournalFull (turn.JournalFull full) right alone new_is (
        record {
          running = alone.is_of.running;
          call = call;
          wants = wants_so old lane run call alone.is_of wanted;
          free = no_holder (blocker_of old.setting.strict (held_by (past_of old)) run.number call)
              (λ holder e. never_blocked (rules_of meaning old) old.setting.strict (past_of old) run.number holder call right alone.alone e);
          much = too;
        },
        refl,
      )

  -- what a run's turn adds depends on its number alone
  pub same_turn : (lane : ℕ) (old new : CoreView R Site) (run then_run : RunView State)
      (in_hand : Option (RunView State)) (turn : TurnEnd) → then_run.number ≡ run.number
      → IsTurn meaning stands lane old (Some then_run) new in_hand turn
      → IsTurn meaning stands lane old (Some run) new in_hand turn
  same_turn lane old new run then_run in_hand turn number is = record {
    entries = is.entries;
    new_is = is.new_is;
    adds = rw number at is.adds;
    fits = is.fits;
  }

kept_out : (m : Rules) (strict : Bool) (past : List Entry) (run holder : ℕ) (wanted : Option AppCall) → AreRight m past
    → unfinished past ≡ run ∷ []
    → (elim wanted [ Some call ↦ blocker_of strict (held_by past) run call | None ↦ None ]) ≡ Some holder → ⊥
kept_out m strict past run holder None right alone e = absurd cc
kept_out m strict past run holder (Some call) right alone e = never_blocked m strict past run holder call right alone e

-- no lock keeps the call of the run in hand out
pub not_kept_out : {R Site State : Type 0} → (m : Rules) (core : CoreView R Site) (run : RunView State) (holder : ℕ)
    → AreRight m (past_of core) → unfinished (past_of core) ≡ run.number ∷ [] → blocker core run ≡ Some holder → ⊥
not_kept_out m core run holder right alone e =
    kept_out m core.setting.strict (past_of core) run.number holder (wanted_by run.progress) right alone e
