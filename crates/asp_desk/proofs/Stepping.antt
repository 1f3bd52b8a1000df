-- What a begin and a step of a run are as turns, and what the lane then holds.
use Rattle.std.proofs.Common.{◌≡◌, ◌↔◌, ℕ, ◌==◌, ◌++◌, false, [], ◌∷◌, reverse, refl, ap, sym, ◌∙◌, subst}
use Rattle.std.proofs.Common.{inl, inr}
use Rattle.std.proofs.Common.{append-nil, arith, Option, Some, None, IsSome, IfSome, Result, Ok, Err, IfOk, IfErr}
use Rattle.std.proofs.Common.{OnOk, OnErr}
use Rattle.vb_value.specs.declared.application.AppCall.{AppCall}
use Rattle.asp_job.specs.declared.entry.EndKind.{EndKind}
use Rattle.asp_job.specs.declared.entry.EndKind.TheVariants as kind
use Rattle.asp_job.specs.declared.entry.Entry.{Entry}
use Rattle.asp_job.specs.Application.{blocker_of}
use Rattle.asp_job.specs.History.{call_entry, held_by}
use Rattle.asp_job.specs.Journal.{IsValidJournal, begin_entry, end_entry, past_after}
use Rattle.asp_job.specs.Rules.{Rules}
use Rattle.asp_job.specs.Told.{Meaning, Told}
use Rattle.asp_job.specs.Turns.{IsBegin, IsRunning, serial_of}
use Rattle.turn_desk.specs.Histories.{GrowsBy}
use Rattle.asp_journal.specs.declared.full.Full.{Full}
use Rattle.asp_core.specs.declared.run.Progress.{Progress}
use Rattle.asp_core.specs.declared.run.Progress.TheVariants as progress
use Rattle.asp_core.specs.declared.stop.AppStepStop.{AppStepStop}
use Rattle.asp_core.specs.declared.stop.AppStepStop.TheVariants as app
use Rattle.asp_core.specs.declared.stop.BeginStop.{BeginStop}
use Rattle.asp_core.specs.declared.stop.BeginStop.TheVariants as stop
use Rattle.asp_core.specs.Kernel.{CoreView, IsBeginTooMuch, IsIdle, IsRunOf, IsTooMuch, NextFits, RunView, blocker}
use Rattle.asp_core.specs.Kernel.{called}
use Rattle.asp_core.specs.Kernel.{grown, past_of, rules_of, wanted_by}
use Rattle.asp_core.specs.Ready.{HasBodyRoom}
use Rattle.asp_core.proofs.Bearing.{none_of, one_of}
use Rattle.asp_journal.proofs.Past.{past_push}
use Rattle.asp_desk.specs.declared.steps.Stepped.{Stepped}
use Rattle.asp_desk.specs.declared.steps.Stepped.TheVariants as step
use Rattle.asp_desk.specs.Hands.{Holds, held_number}
use Rattle.asp_desk.specs.Steps.{Begins, Leaves, Steps, begun_of, end_at, run_of}
use Rattle.asp_desk.proofs.Running.{before_begin, before_call, before_end}

module _ {R Site : Type 0} (lane : ℕ) (old new : CoreView R Site) where
  journal_is : (core : CoreView R Site) → new ≡ core → new.journal ≡ core.journal
  journal_is core is = ap (λ (c : CoreView R Site). c.journal) is

  -- ---- a begin

  pub begins_turn : {State Store : Type 0} (rules : Rules) (result : Result (RunView State) (Store × BeginStop))
      → IfOk result (λ run. IsBegin rules (past_of old) run.number (serial_of rules (past_of old) run.number))
      → OnOk result (HasBodyRoom rules (past_of old))
      → IfOk result (λ run. new ≡ grown old (begin_entry rules (past_of old) lane run.number ∷ []))
      → IfErr result (λ refused. refused.1 ≡ stop.Idle ↔ IsIdle rules (past_of old))
      → ((full : Full) → IfErr result (λ refused. refused.1 ≡ stop.JournalFull full →
      IsBeginTooMuch rules (past_of old) lane full))
      → IfErr result (λ refused. refused.1 ≡ stop.Memory → NextFits rules (past_of old) lane)
      → OnErr result (new ≡ old) → Begins rules lane old.journal (begun_of result) new.journal
  begins_turn rules (Ok run) next light begun idle much fits err = (next, light, journal_is (grown old _) begun)
  begins_turn rules (Err (store, stop.Idle)) next light begun idle much fits err = (journal_is old err, idle.0 refl)
  begins_turn rules (Err (store, stop.JournalFull full)) next light begun idle much fits err =
      (journal_is old err, much full refl)
  begins_turn rules (Err (store, stop.Memory)) next light begun idle much fits err = (journal_is old err, fits refl)

  pub begins_grow : {State Store : Type 0} (rules : Rules) (result : Result (RunView State) (Store × BeginStop))
      → Begins rules lane old.journal (begun_of result) new.journal
      → GrowsBy (λ (entry : Entry). entry.lane) lane old.journal new.journal
  begins_grow rules (Ok run) begins = (_, begins.2, one_of lane _ refl)
  begins_grow rules (Err (store, stop.Idle)) begins =
      ([], begins.0 ∙ sym (append-nil old.journal), none_of lane)
  begins_grow rules (Err (store, stop.JournalFull full)) begins =
      ([], begins.0 ∙ sym (append-nil old.journal), none_of lane)
  begins_grow rules (Err (store, stop.Memory)) begins =
      ([], begins.0 ∙ sym (append-nil old.journal), none_of lane)

  -- ---- a step

  pub steps_grow : {State : Type 0} (rules : Rules) (run : RunView State) (stepped : Stepped)
      → Steps rules lane run old.journal stepped new.journal
      → GrowsBy (λ (entry : Entry). entry.lane) lane old.journal new.journal
  steps_grow rules run step.Called steps = (_, steps.2, one_of lane _ refl)
  steps_grow rules run step.Ended steps = (_, steps, one_of lane _ refl)
  steps_grow rules run (step.Blocked holder) steps =
      ([], steps.2 ∙ sym (append-nil old.journal), none_of lane)
  steps_grow rules run (step.JournalFull full) steps = (_, steps.3, one_of lane _ refl)

-- ---- the call that a run wants

some_is : {A : Type 0} → (o : Option A) → IsSome o → (x : A) × (o ≡ Some x)
some_is None wants = absurd cc
some_is (Some x) wants = (x, refl)

no_holder : (holder : Option ℕ) → ((run : ℕ) → holder ≡ Some run → ⊥) → holder ≡ None
no_holder None never = refl
no_holder (Some run) never = absurd (never run refl)

pub dead_end : (at : Progress) → IsSome (wanted_by at) → end_at at ≡ kind.Memory
dead_end progress.Going wants = refl
dead_end (progress.Wants call) wants = refl
dead_end progress.Ended wants = absurd cc
dead_end progress.Dead wants = refl

abbrev full_of : {A : Type 0} → Full → Result A AppStepStop
full_of full = Err (app.JournalFull full)

abbrev blocked_of : {A : Type 0} → ℕ → Result A AppStepStop
blocked_of holder = Err (app.Blocked holder)

module _ {R Site State : Type 0} (rules : Rules) (lane : ℕ) (old new : CoreView R Site) (run : RunView State)
    (wants : IsSome (wanted_by run.progress)) (same : old.setting.strict ≡ rules.strict) where
  abbrev the_call : AppCall
  the_call = (some_is (wanted_by run.progress) wants).0

  is_wanted : wanted_by run.progress ≡ Some the_call
  is_wanted = (some_is (wanted_by run.progress) wants).1

  entries_are : called old lane run ≡ call_entry (past_of old) lane run.number the_call ∷ []
  entries_are = ap (λ (wanted : Option AppCall). elim wanted [
    | Some call ↦ call_entry (past_of old) lane run.number call ∷ []
    | None ↦ []
  ]) is_wanted

  holder_is : blocker old run ≡ blocker_of rules.strict (held_by (past_of old)) run.number the_call
  holder_is = ap (λ (wanted : Option AppCall). elim wanted [
    | Some call ↦ blocker_of old.setting.strict (held_by (past_of old)) run.number call
    | None ↦ None
  ]) is_wanted ∙ ap (λ strict. blocker_of strict (held_by (past_of old)) run.number the_call) same

  pub call_made : new ≡ grown old (called old lane run) → blocker old run ≡ None
      → Steps rules lane run old.journal step.Called new.journal
  call_made new_is free = (
    the_call,
    (is_wanted, sym holder_is ∙ free),
    ap (λ (core : CoreView R Site). core.journal) new_is ∙ ap (λ entries. old.journal ++ entries) entries_are,
  )

  pub call_blocked : (holder : ℕ) → new ≡ old → blocker old run ≡ Some holder
      → Steps rules lane run old.journal (step.Blocked holder) new.journal
  call_blocked holder new_is held =
      (the_call, (is_wanted, sym holder_is ∙ held), ap (λ (core : CoreView R Site). core.journal) new_is)

  pub call_too_much : {A : Type 0} (result : Result A AppStepStop) (full : Full)
      → ((holder : ℕ) → result ≡ Err (app.Blocked holder) ↔ (blocker old run ≡ Some holder))
      → result ≡ Err (app.JournalFull full)
      → IsTooMuch (past_after (past_of old) (called old lane run)) full
      → new ≡ grown old (end_entry rules (past_of old) lane run.number kind.JournalFull ∷ [])
      → Steps rules lane run old.journal (step.JournalFull full) new.journal
  call_too_much {A = A} result full blocked is much new_is = (
    the_call,
    (
      is_wanted,
      sym holder_is
          ∙ no_holder (blocker old run) (λ holder held. let other = (blocked holder).1 held in
          not_both holder (sym is ∙ other)),
    ),
    subst (λ list. IsTooMuch (past_after (past_of old) list) full) entries_are much,
    ap (λ (core : CoreView R Site). core.journal) new_is,
  )
    where
      not_both : (holder : ℕ) → full_of {A = A} full ≡ blocked_of holder → ⊥
      not_both holder e = cc

  pub call_dead : new ≡ grown old (end_entry rules (past_of old) lane run.number kind.Memory ∷ [])
      → Steps rules lane run old.journal step.Ended new.journal
  call_dead new_is = ap (λ (core : CoreView R Site). core.journal) new_is
      ∙ ap (λ k. old.journal ++ end_entry rules (past_of old) lane run.number k ∷ []) (sym (dead_end run.progress
      wants))

-- ---- what the lane then holds

module _ {R Site State : Type 0} (meaning : R → Site → Meaning) (stands : R → Site → State → Told → ℕ → Type 0)
    (lane : ℕ) (old new : CoreView R Site) where
  -- the past with one entry more
  running_then : (entry : Entry) (r : ℕ) → new.journal ≡ old.journal ++ entry ∷ [] → IsRunning (past_of new) lane r
      → IsRunning (entry ∷ past_of old) lane r
  running_then entry r is running =
      subst (λ past. IsRunning past lane r) (ap reverse is ∙ past_push old.journal entry) running

  pub begin_holds : {Store : Type 0} (rules : Rules) (result : Result (RunView State) (Store × BeginStop))
      → Begins rules lane old.journal (begun_of result) new.journal
      → IfOk result (λ run. IsRunOf meaning stands new lane run) → OnErr result (new ≡ old)
      → IsValidJournal (rules_of meaning new) (past_of new) → Holds meaning stands old lane None
      → Holds meaning stands new lane (run_of result)
  begin_holds rules (Ok run) begins is_of err valid holds =
      let serial = serial_of rules (past_of old) run.number in
      record {
        valid = valid;
        run_is = is_of;
        alone = λ r running. elim (before_begin (past_of old) lane r lane run.number serial
            (running_then (begin_entry rules (past_of old) lane run.number) r begins.2 running)) [
              | inl was ↦ absurd (let none = holds.alone r was in cc)
              | inr own ↦ ap Some own.0
            ];
      }
  begin_holds rules (Err refused) begins is_of err valid holds =
      subst (λ core. Holds meaning stands core lane None) (sym err) holds

  -- a run that has ended
  ended : (rules : Rules) (run : RunView State) (kind : EndKind) (held : Option (RunView State)) → held ≡ None
      → new.journal ≡ old.journal ++ end_entry rules (past_of old) lane run.number kind ∷ []
      → IsValidJournal (rules_of meaning new) (past_of new) → Holds meaning stands old lane (Some run)
      → Holds meaning stands new lane held
  ended rules run kind held none is valid holds =
      let entry = end_entry rules (past_of old) lane run.number kind in
      subst (Holds meaning stands new lane) (sym none) (record {
        valid = valid;
        run_is = tt;
        alone = λ r running. (let was = before_end (past_of old) lane r lane run.number kind _ _ _ _
            (running_then entry r is running) in
            let same : Some run.number ≡ Some r = holds.alone r was.0 in absurd (not_same run.number r same was.1));
      })
    where
      not_same : (a b : ℕ) → Some a ≡ Some b → (a == b) ≡ false → ⊥
      not_same a b same apart = let is : a ≡ b = cc in grind arith

  pub step_holds : (rules : Rules) (run : RunView State) (stepped : Stepped) (held : Option (RunView State))
      → Steps rules lane run old.journal stepped new.journal → Leaves run stepped held
      → IfSome held (IsRunOf meaning stands new lane) → IsValidJournal (rules_of meaning new) (past_of new)
      → Holds meaning stands old lane (Some run) → Holds meaning stands new lane held
  step_holds rules run step.Called held steps leaves is_of valid holds = record {
    valid = valid;
    run_is = is_of;
    alone = λ r running. (let was = before_call (past_of old) lane r lane run.number steps.0 _
        (running_then (call_entry (past_of old) lane run.number steps.0) r steps.2 running) in
        ap held_number leaves.1 ∙ ap Some leaves.2 ∙ holds.alone r was);
  }
  step_holds rules run step.Ended held steps leaves is_of valid holds =
      ended rules run (end_at run.progress) held leaves steps valid holds
  step_holds rules run (step.Blocked holder) held steps leaves is_of valid holds = record {
    valid = valid;
    run_is = is_of;
    alone = λ r running. ap held_number leaves ∙ holds.alone r
        (subst (λ past. IsRunning past lane r) (ap reverse steps.2) running);
  }
  step_holds rules run (step.JournalFull full) held steps leaves is_of valid holds =
      ended rules run kind.JournalFull held leaves steps.3 valid holds

-- the end of a run that a refused call has left as it was
pub ended_same : {R Site State : Type 0} (meaning : R → Site → Meaning) (lane : ℕ) (old mid new : CoreView R Site)
    (run then_run : RunView State) (kind : EndKind) → mid ≡ old → then_run ≡ run
    → new ≡ grown mid (end_entry (rules_of meaning mid) (past_of mid) lane then_run.number kind ∷ [])
    → new ≡ grown old (end_entry (rules_of meaning old) (past_of old) lane run.number kind ∷ [])
ended_same meaning lane old mid new run then_run kind core_is run_is ended_is =
    subst (λ c. new ≡ grown c (end_entry (rules_of meaning c) (past_of c) lane run.number kind ∷ [])) core_is
    (subst (λ (r : RunView _). new ≡ grown mid (end_entry (rules_of meaning mid) (past_of mid) lane r.number kind ∷ []))
    run_is ended_is)
