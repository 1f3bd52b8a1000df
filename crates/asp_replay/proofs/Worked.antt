-- What the work of a turn leaves of a core.
use Rattle.std.proofs.Common.{◌≡◌, ℕ, ◌&&◌, true, false, List, [], ◌∷◌, append_assoc, refl, ap, sym, ◌∙◌, subst}
use Rattle.std.proofs.Common.{inl, inr, length, ◌==◌, Option, Some, None}
use Rattle.asp_job.specs.declared.entry.Entry.{Entry}
use Rattle.asp_job.specs.Journal.{AreRight, begin_entry, past_after}
use Rattle.asp_job.specs.Runs.{is_halted, unfinished, waiting}
use Rattle.asp_job.specs.Told.{Meaning, Told}
use Rattle.asp_job.specs.Turns.{serial_of}
use Rattle.asp_core.specs.Kernel.{CoreView, RunView, grown, past_of, rules_of}
use Rattle.asp_core.specs.Ready.{ready}
use Rattle.asp_journal.proofs.Past.{past_push}
use Rattle.asp_lane.specs.declared.turn.TurnEnd.{TurnEnd}
use Rattle.asp_lane.specs.declared.turn.TurnEnd.TheVariants as turn
use Rattle.asp_lane.specs.Turns.{AddsBegin, AddsStep, Fits, IsTurn}
use Rattle.asp_lane.proofs.Turns.{grown_none}
use Rattle.asp_lane.proofs.Unfinished.{begun_alone}
use Rattle.asp_feed.specs.Feeding.{is_calm}
use Rattle.asp_replay.specs.Sequential.{HasInHand}
use Rattle.asp_replay.specs.Underway.{HasStepped, HasWorked, Steps, Works, is_done, is_more}

first_is : (a b : ℕ) → a ∷ [] ≡ b ∷ [] → a ≡ b
first_is a b e = cc

-- two growths are one
grown_twice : {R Site : Type 0} → (core : CoreView R Site) (entry : Entry) (more : List Entry)
    → grown (grown core (entry ∷ [])) more ≡ grown core (entry ∷ more)
grown_twice core entry more =
    ap (λ journal. record { journal = journal; runner = core.runner; site = core.site; setting = core.setting })
    (append_assoc core.journal (entry ∷ []) more)

module _ {R Site State : Type 0} (meaning : R → Site → Meaning) (stands : R → Site → State → Told → ℕ → Type 0) where
  -- ---- steps

  step_adds : (old : CoreView R Site) (run : ℕ) (entries : List Entry) (t : TurnEnd)
      → is_more t ≡ false → AddsStep (rules_of meaning old) (past_of old) 0 run entries t
      → Steps (rules_of meaning old) (past_of old) run entries t
  step_adds old run entries turn.Done e adds = adds
  step_adds old run entries turn.More e adds = absurd cc
  step_adds old run entries turn.Idle e adds = absurd adds
  step_adds old run entries (turn.JournalFull full) e adds = adds
  step_adds old run entries turn.Memory e adds = absurd adds

  -- a turn of the run in hand that came to an end is a step
  pub one_step : (old new : CoreView R Site) (in_hand then_in_hand : Option (RunView State)) (t : TurnEnd) (run : ℕ)
      → Fits meaning stands old 0 in_hand → unfinished (past_of old) ≡ run ∷ []
      → IsTurn meaning stands 0 old in_hand new then_in_hand t → is_more t ≡ false
      → HasStepped meaning stands old run new then_in_hand t
  one_step old new None then_in_hand t run fits one is e = absurd (let both : [] ≡ run ∷ [] = sym fits ∙ one in cc)
  one_step old new (Some held) then_in_hand t run fits one is e =
      let number : held.number ≡ run = first_is held.number run (sym fits.0.alone ∙ one) in
      record {
        entries = is.entries;
        new_is = is.new_is;
        steps = step_adds old run is.entries t e (rw number at is.adds);
        fits = is.fits;
      }

  -- a turn after which there is more to do leaves the core
  pub more_stays : (old new : CoreView R Site) (in_hand then_in_hand : Option (RunView State)) (t : TurnEnd)
      → IsTurn meaning stands 0 old in_hand new then_in_hand t → is_more t ≡ true → new ≡ old
  more_stays old new None then_in_hand turn.More is e = absurd is.adds
  more_stays old new (Some held) then_in_hand turn.More is e =
      is.new_is ∙ ap (λ entries. grown old entries) is.adds ∙ grown_none old
  more_stays old new in_hand then_in_hand turn.Done is e = absurd cc
  more_stays old new in_hand then_in_hand turn.Idle is e = absurd cc
  more_stays old new in_hand then_in_hand (turn.JournalFull full) is e = absurd cc
  more_stays old new in_hand then_in_hand turn.Memory is e = absurd cc

  -- nothing was done
  pub no_step : (core : CoreView R Site) (in_hand : Option (RunView State)) (run : ℕ)
      → Fits meaning stands core 0 in_hand → HasStepped meaning stands core run core in_hand turn.Memory
  no_step core in_hand run fits =
      record { entries = []; new_is = sym (grown_none core); steps = refl; fits = fits }

  -- ---- work

  in_hand_works : (old : CoreView R Site) (run : ℕ) (entries : List Entry) (t : TurnEnd)
      → unfinished (past_of old) ≡ run ∷ [] → Steps (rules_of meaning old) (past_of old) run entries t
      → Works (rules_of meaning old) (past_of old) entries t
  in_hand_works old run entries turn.Done one steps = record {
    mid = past_of old;
    run = run;
    in_hand = inl (one, refl);
    entry = steps.0;
    step = steps.1;
    entries_are = rw steps.2 refl;
  }
  in_hand_works old run entries turn.More one steps = absurd steps
  in_hand_works old run entries turn.Idle one steps = absurd steps
  in_hand_works old run entries (turn.JournalFull full) one steps = inr (record {
    mid = past_of old;
    run = run;
    in_hand = inl (one, refl);
    much = steps.0;
    entries_are = rw steps.1 refl;
  })
  in_hand_works old run entries turn.Memory one steps = inl steps

  -- the run in hand went on
  pub worked_in_hand : (old new : CoreView R Site) (then_in_hand : Option (RunView State)) (t : TurnEnd) (run : ℕ)
      → unfinished (past_of old) ≡ run ∷ [] → HasStepped meaning stands old run new then_in_hand t
      → HasWorked meaning stands old new then_in_hand t
  worked_in_hand old new then_in_hand t run one is = record {
    entries = is.entries;
    new_is = is.new_is;
    works = in_hand_works old run is.entries t one is.steps;
    fits = is.fits;
  }

  begun_works : (old : CoreView R Site) (run : ℕ) (entry : Entry) (entries : List Entry) (t : TurnEnd)
      → HasInHand (rules_of meaning old) (past_of old) (entry ∷ past_of old) run
      → Steps (rules_of meaning old) (entry ∷ past_of old) run entries t
      → Works (rules_of meaning old) (past_of old) (entry ∷ entries) t
  begun_works old run entry entries turn.Done in_hand steps = record {
    mid = entry ∷ past_of old;
    run = run;
    in_hand = in_hand;
    entry = steps.0;
    step = steps.1;
    entries_are = ap (λ more. past_after (entry ∷ past_of old) more) steps.2;
  }
  begun_works old run entry entries turn.More in_hand steps = absurd steps
  begun_works old run entry entries turn.Idle in_hand steps = absurd steps
  begun_works old run entry entries (turn.JournalFull full) in_hand steps = inr (record {
    mid = entry ∷ past_of old;
    run = run;
    in_hand = in_hand;
    much = steps.0;
    entries_are = ap (λ more. past_after (entry ∷ past_of old) more) steps.1;
  })
  begun_works old run entry entries turn.Memory in_hand steps =
      inr (entry ∷ past_of old, run, in_hand, ap (λ more. past_after (entry ∷ past_of old) more) steps)

  -- a run began, and went on
  pub worked_begun : (old mid new : CoreView R Site) (in_hand then_in_hand : Option (RunView State)) (begun t : TurnEnd)
      → AreRight (rules_of meaning old) (past_of old) → unfinished (past_of old) ≡ []
      → IsTurn meaning stands 0 old None mid in_hand begun → is_done begun ≡ true
      → ((run : ℕ) → unfinished (past_of mid) ≡ run ∷ [] → HasStepped meaning stands mid run new then_in_hand t)
      → HasWorked meaning stands old new then_in_hand t
  worked_begun old mid new in_hand then_in_hand turn.Done t right none is e stepped =
      let run = is.adds.0 in
      let begins = is.adds.1 in
      let entry = begin_entry (rules_of meaning old) (past_of old) 0 run in
      let begun = grown old (entry ∷ []) in
      let mid_is : mid ≡ begun = is.new_is ∙ ap (λ entries. grown old entries) is.adds.2 in
      let past : past_of begun ≡ entry ∷ past_of old = past_push old.journal entry in
      let alone : unfinished (past_of mid) ≡ run ∷ [] = ap (λ core. unfinished (past_of core)) mid_is
      ∙ ap unfinished past
      ∙ begun_alone (rules_of meaning old) (past_of old) 0 run (serial_of (rules_of meaning old) (past_of old) run)
      right
      none begins.next.begins in
      let last : HasStepped meaning stands begun run new then_in_hand t =
      subst (λ core. HasStepped meaning stands core run new then_in_hand t) mid_is (stepped run alone) in
      let steps : Steps (rules_of meaning old) (entry ∷ past_of old) run last.entries t =
      subst (λ some. Steps (rules_of meaning old) some run last.entries t) past last.steps in
      record {
        entries = entry ∷ last.entries;
        new_is = last.new_is ∙ grown_twice old entry last.entries;
        works = begun_works old run entry last.entries t (inr (none, begins, refl)) steps;
        fits = last.fits;
      }
  worked_begun old mid new in_hand then_in_hand turn.More t right none is e stepped = absurd cc
  worked_begun old mid new in_hand then_in_hand turn.Idle t right none is e stepped = absurd cc
  worked_begun old mid new in_hand then_in_hand (turn.JournalFull full) t right none is e stepped = absurd cc
  worked_begun old mid new in_hand then_in_hand turn.Memory t right none is e stepped = absurd cc

  both_none : (xs ys : List ℕ) → xs ≡ [] → ys ≡ [] → (length xs == 0) && (length ys == 0) ≡ true
  both_none xs ys first second = rw first (rw second refl)

  begin_works : (old : CoreView R Site) (entries : List Entry) (t : TurnEnd) → is_done t ≡ false → ¬ (t ≡ turn.Idle)
      → AddsBegin (rules_of meaning old) (past_of old) 0 entries t
      → Works (rules_of meaning old) (past_of old) entries t
  begin_works old entries turn.Done e some adds = absurd cc
  begin_works old entries turn.More e some adds = absurd adds
  begin_works old entries turn.Idle e some adds = absurd (some refl)
  begin_works old entries (turn.JournalFull full) e some adds = inl adds
  begin_works old entries turn.Memory e some adds = inl adds

  -- a turn without a run in hand that came to idle added nothing
  idle_stays : (old new : CoreView R Site) (then_in_hand : Option (RunView State)) (t : TurnEnd) → t ≡ turn.Idle
      → IsTurn meaning stands 0 old None new then_in_hand t → new ≡ old
  idle_stays old new then_in_hand t e is =
      let adds = rw e at is.adds in is.new_is ∙ ap (λ entries. grown old entries) adds.1 ∙ grown_none old

  -- no run began, and not because there was none
  pub worked_not : (old new : CoreView R Site) (then_in_hand : Option (RunView State)) (t : TurnEnd)
      → unfinished (past_of old) ≡ [] → is_calm (past_of old) ≡ false
      → ready (rules_of meaning old) (past_of old) ≡ [] → is_halted (past_of old) ≡ false
      → IsTurn meaning stands 0 old None new then_in_hand t → is_done t ≡ false
      → (t ≡ turn.Idle → ready (rules_of meaning new) (past_of new) ≡ [] → is_halted (past_of new) ≡ false
      → waiting (past_of new) ≡ [])
      → HasWorked meaning stands old new then_in_hand t
  worked_not old new then_in_hand t none busy answers going is e idle = record {
    entries = is.entries;
    new_is = is.new_is;
    works = begin_works old is.entries t e
        (λ idles. let same = idle_stays old new then_in_hand t idles is in
        let waits : waiting (past_of old) ≡ [] = ap (λ core. waiting (past_of core)) (sym same)
        ∙ idle idles (ap (λ core. ready (rules_of meaning core) (past_of core)) same ∙ answers)
        (ap (λ core. is_halted (past_of core)) same ∙ going) in
        let calm : is_calm (past_of old) ≡ true = both_none (waiting (past_of old)) (unfinished (past_of old)) waits
        none in
        (let both : true ≡ false = sym calm ∙ busy in cc))
        is.adds;
    fits = is.fits;
  }
