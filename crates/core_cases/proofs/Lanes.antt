-- The runs of other lanes stay while a lane makes a call.
use Rattle.std.proofs.Common.{◌≡◌, ℕ, zero, suc, ◌<◌, true, false, List, [], ◌∷◌, ◌++◌, length, get_or, reverse}
use Rattle.std.proofs.Common.{refl, ap, sym, ◌∙◌, subst, append-nil, inl, inr, Option, Some, None, Result, Ok, Err}
use Rattle.std.proofs.Common.{OnOk, OnErr, IsOk, IfSome, IfNone}
use Rattle.std.proofs.lemmas.Bool.{cases_Bool, cases_eq}
use Rattle.std.proofs.lemmas.List.{get_or-set_same, get_or-set_other, length-set}
use Rattle.std.proofs.lemmas.List.Elements.{All-head, All-tail}
use Rattle.std.proofs.lemmas.Grind.{get_or-set_at}
use Rattle.std.proofs.Math.ListN.{set}
use Rattle.vb_value.specs.declared.application.AppCall.{AppCall}
use Rattle.asp_job.specs.declared.answer.Answer.{Answer}
use Rattle.asp_job.specs.declared.entry.Entry.{Entry}
use Rattle.asp_job.specs.declared.entry.What.{What}
use Rattle.asp_job.specs.declared.entry.What.TheVariants.{Take, Halt}
use Rattle.asp_job.specs.History.{call_entry, with_lane}
use Rattle.asp_job.specs.Journal.{AreRight, IsValidJournal, past_after, stop_entries}
use Rattle.asp_job.specs.Keys.{told}
use Rattle.asp_job.specs.Rules.{Rules}
use Rattle.asp_job.specs.Runs.{is_stopping, is_halted}
use Rattle.asp_job.specs.Told.{Told, Meaning}
use Rattle.asp_core.specs.Kernel.{CoreView, RunView, IsHostOf, IsRunOf, called, grown, past_of}
use Rattle.asp_core.specs.Kernel.{rules_of, wanted_by, HasNotFitFor}
use Rattle.asp_core.specs.Laws.{AreOfLane, AreOfOthers}
use Rattle.asp_core.specs.Standing.{stand_ins}
use Rattle.asp_core.proofs.Bearing.{none_of, one_of, stop_of}
use Rattle.asp_core.proofs.Kept.{past_of_more}
use Rattle.asp_core.proofs.Moved.{of_others as still}
use Rattle.asp_core.proofs.Same.{on_ok}
use Rattle.core_cases.specs.Lanes.{IsDesk, IsFree, IsTaken, HasGone, AreNone}

-- ---- entries of a lane

-- they are of others for each other lane
of_others : (lane other : ℕ) (entries : List Entry) → AreOfLane lane entries → (other ≡ lane → ⊥)
    → AreOfOthers other entries
of_others lane other [] all apart = tt
of_others lane other (entry ∷ entries) all apart =
    let bears = λ (one : Entry). one.lane ≡ lane in (
      λ e. apart (sym e ∙ All-head bears entry entries all),
      of_others lane other entries (All-tail bears entry entries all) apart,
    )

-- ---- what a call leaves of a core

-- the core has entries of the lane more, or none
pub record HasGrown {R Site : Type 0} (lane : ℕ) (old new : CoreView R Site) : Type 0 where
  pub entries : List Entry
  pub of_lane : AreOfLane lane entries
  pub new_is : new ≡ grown old entries

grown_none : {R Site : Type 0} → (core : CoreView R Site) → grown core [] ≡ core
grown_none core =
    ap (λ journal. record { journal = journal; runner = core.runner; site = core.site; setting = core.setting })
    (append-nil core.journal)

pub same_grown : {R Site : Type 0} → (lane : ℕ) (old new : CoreView R Site) → new ≡ old → HasGrown lane old new
same_grown lane old new same = record { entries = []; of_lane = none_of lane; new_is = same ∙ sym (grown_none old) }

pub ok_grown : {T E R Site : Type 0} → (result : Result T E) (lane : ℕ) (old new : CoreView R Site)
    (entries : List Entry) → AreOfLane lane entries → OnOk result (new ≡ grown old entries) → OnErr result (new ≡ old)
    → HasGrown lane old new
ok_grown (Ok done) lane old new entries of_lane ok err = record { entries = entries; of_lane = of_lane; new_is = ok }
ok_grown (Err stop) lane old new entries of_lane ok err = same_grown lane old new err

pub one_grown : {R Site : Type 0} → (lane : ℕ) (old new : CoreView R Site) (what : What)
    → new ≡ grown old (with_lane lane what ∷ []) → HasGrown lane old new
one_grown lane old new what e = record {
  entries = with_lane lane what ∷ [];
  of_lane = one_of lane (with_lane lane what) refl;
  new_is = e;
}

pub halt_grown : {R Site : Type 0} → (lane : ℕ) (old new : CoreView R Site)
    → (is_halted (past_of old) ≡ false → new ≡ grown old (with_lane lane Halt ∷ []))
    → (is_halted (past_of old) ≡ true → new ≡ old) → HasGrown lane old new
halt_grown lane old new first again = elim (cases_Bool (is_halted (past_of old))) [
  | inl halted ↦ same_grown lane old new (again halted)
  | inr going ↦ one_grown lane old new Halt (first going)
]

pub stop_grown : {T E R Site : Type 0} → (result : Result T E) (rules : Rules) (lane : ℕ) (old new : CoreView R Site)
    → OnOk result (is_stopping (past_of old) ≡ false → new ≡ grown old (stop_entries rules (past_of old) lane))
    → (is_stopping (past_of old) ≡ true → IsOk result × (new ≡ old)) → OnErr result (new ≡ old) → HasGrown lane old new
stop_grown result rules lane old new ok again err = elim (cases_Bool (is_stopping (past_of old))) [
  | inl stopped ↦ same_grown lane old new (again stopped).1
  | inr going ↦ ok_grown result lane old new (stop_entries rules (past_of old) lane)
      (stop_of rules (past_of old) lane) (on_ok result _ _ (λ made. made going) ok) err
]

pub first_grown : {R Site : Type 0} → (told : Option (ℕ × Answer)) (lane : ℕ) (old new : CoreView R Site)
    → IfSome told (λ given. new ≡ grown old (with_lane lane (Take given.0) ∷ [])) → IfNone told (new ≡ old)
    → HasGrown lane old new
first_grown None lane old new some none = same_grown lane old new none
first_grown (Some given) lane old new some none = one_grown lane old new (Take given.0) some

wanted_of : {R Site : Type 0} → (core : CoreView R Site) (lane run : ℕ) (wanted : Option AppCall)
    → AreOfLane lane (elim wanted [ Some call ↦ call_entry (past_of core) lane run call ∷ [] | None ↦ [] ])
wanted_of core lane run None = none_of lane
wanted_of core lane run (Some call) = one_of lane (call_entry (past_of core) lane run call) refl

pub called_of : {R Site State : Type 0} → (core : CoreView R Site) (lane : ℕ) (run : RunView State)
    → AreOfLane lane (called core lane run)
called_of core lane run = wanted_of core lane run.number (wanted_by run.progress)

-- ---- the runs of lanes

right_after : (rules : Rules) (journal entries : List Entry) → IsValidJournal rules (reverse (journal ++ entries))
    → AreRight rules (past_after (reverse journal) entries)
right_after rules journal entries valid = subst (AreRight rules) (past_of_more journal entries) valid.entries

-- a list to which None is added still has none
pub none_more : {A : Type 0} → (xs : List (Option A)) → ((i : ℕ) → get_or xs i None ≡ None) → (i : ℕ)
    → get_or (xs ++ None ∷ []) i None ≡ None
none_more [] none zero = refl
none_more [] none (suc i) = refl
none_more (x ∷ xs) none zero = none zero
none_more (x ∷ xs) none (suc i) = none_more xs (λ j. none (suc j)) i

-- the place from which a lane took its run is empty
gone : {State : Type 0} → (runs : List (Option (RunView State))) (lane : ℕ) → lane < length runs
    → get_or (set runs lane None) lane None ≡ None
gone runs lane within = get_or-set_same runs lane None None within

module _ {R Site State : Type 0} (meaning : R → Site → Meaning) (stands : R → Site → State → Told → ℕ → Type 0) where
  grown_desk : (core : CoreView R Site) (entries : List Entry) (lane : ℕ) (runner : R) (site : Site)
      (runs : List (Option (RunView State)))
      → IsValidJournal (rules_of meaning (grown core entries)) (past_of (grown core entries)) → AreOfLane lane entries
      → get_or runs lane None ≡ None → IsDesk meaning stands core runner site runs
      → IsDesk meaning stands (grown core entries) runner site runs
  grown_desk core entries lane runner site runs valid of_lane free desk =
      record {
        host = record { runner_is = desk.host.runner_is; site_is = desk.host.site_is };
        runs_are = λ other run at.
            let apart : other ≡ lane → ⊥ = λ same. (let moved : get_or runs other None ≡ get_or runs lane None =
            ap (λ n. get_or runs n None) same in cc) in
            still meaning stands core entries other run (right_after (rules_of meaning core) core.journal entries valid)
            (desk.runs_are other run at) (of_others lane other entries of_lane apart);
      }

  -- a call of a lane that has no run under way leaves each lane's run
  pub stays : (old new : CoreView R Site) (lane : ℕ) (runner : R) (site : Site) (runs : List (Option (RunView State)))
      → IsDesk meaning stands old runner site runs → get_or runs lane None ≡ None → HasGrown lane old new
      → IsValidJournal (rules_of meaning new) (past_of new) → IsDesk meaning stands new runner site runs
  stays old new lane runner site runs desk free grows valid =
      let after : IsValidJournal (rules_of meaning (grown old grows.entries)) (past_of (grown old grows.entries)) =
      subst (λ core. IsValidJournal (rules_of meaning core) (past_of core)) grows.new_is valid in
      subst (λ core. IsDesk meaning stands core runner site runs) (sym grows.new_is)
      (grown_desk old grows.entries lane runner site runs after grows.of_lane free desk)

  -- a lane takes its run out
  without : (core : CoreView R Site) (lane : ℕ) (runner : R) (site : Site) (runs : List (Option (RunView State)))
      → lane < length runs → IsDesk meaning stands core runner site runs
      → IsDesk meaning stands core runner site (set runs lane None)
  without core lane runner site runs within desk =
      record {
        host = desk.host;
        runs_are = λ other run at. elim (cases_eq other lane) [
          | inl same ↦ let none = get_or-set_at runs lane other None None same within in
              absurd (let e : None ≡ Some run = sym none ∙ at in cc)
          | inr apart ↦ desk.runs_are other run (sym (get_or-set_other runs lane other None None apart) ∙ at)
        ];
      }

  -- a lane puts a run in
  put : (core : CoreView R Site) (lane : ℕ) (runner : R) (site : Site) (runs : List (Option (RunView State)))
      (run : RunView State) → lane < length runs → IsRunOf meaning stands core lane run
      → IsDesk meaning stands core runner site runs → IsDesk meaning stands core runner site (set runs lane (Some run))
  put core lane runner site runs run within one desk =
      record {
        host = desk.host;
        runs_are = λ other found at. elim (cases_eq other lane) [
          | inl same ↦
              let here = get_or-set_at runs lane other (Some run) None same within in
              let e : Some run ≡ Some found = sym here ∙ at in
              let f : run ≡ found = cc in
              subst (λ r. IsRunOf meaning stands core other r) f
              (subst (λ l. IsRunOf meaning stands core l run) (sym same) one)
          | inr apart ↦ desk.runs_are other found (sym (get_or-set_other runs lane other (Some run) None apart) ∙ at)
        ];
      }

  -- a run that has gone on is still the core's
  went : (core : CoreView R Site) (lane : ℕ) (runner : R) (site : Site) (old new : RunView State)
      → IsHostOf core runner site → HasGone (stands runner site) (meaning runner site) old new
      → IsRunOf meaning stands core lane old → IsRunOf meaning stands core lane new
  went core lane runner site old new host gone one =
      let still = rw (host.runner_is, host.site_is) at gone.stands_still in
      record {
        running = rw gone.number_is one.running;
        stands_for = rw gone.number_is (still _ one.stands_for);
        stand_ins_are = gone.stand_ins_are ∙ one.stand_ins_are
            ∙ ap (λ n. stand_ins (told (rules_of meaning core) (past_of core) n).job.work) (sym gone.number_is);
      }

-- ---- what each call leaves of a desk

-- a run may be put back where it was taken
left_within : {State : Type 0} → (runs left : List (Option (RunView State))) (lane : ℕ) (run : RunView State)
    → IsTaken runs left lane run → lane < length left
left_within runs left lane run taken = rw (taken.left_are, length-set) taken.within

module _ {R Site State : Type 0} (meaning : R → Site → Meaning) (stands : R → Site → State → Told → ℕ → Type 0)
    (core : CoreView R Site) (lane : ℕ) (runner : R) (site : Site) (runs : List (Option (RunView State))) where
  pub desk_fresh : IsHostOf core runner site → AreNone runs → IsDesk meaning stands core runner site runs
  desk_fresh host none = record {
    host = host;
    runs_are = λ other run at. absurd (let e : None ≡ Some run = sym (none other) ∙ at in cc);
  }

  pub desk_begun : (next : CoreView R Site) (then_runs : List (Option (RunView State))) (run : RunView State)
      → IsDesk meaning stands core runner site runs → IsFree runs lane → HasGrown lane core next
      → IsValidJournal (rules_of meaning next) (past_of next) → IsRunOf meaning stands next lane run
      → then_runs ≡ set runs lane (Some run) → IsDesk meaning stands next runner site then_runs
  desk_begun next then_runs run desk free grows valid one e =
      rw e (put meaning stands next lane runner site runs run free.within one
      (stays meaning stands core next lane runner site runs desk free.none grows valid))

  pub desk_taken : (left : List (Option (RunView State))) (run : RunView State)
      → IsDesk meaning stands core runner site runs → IsTaken runs left lane run
      → IsDesk meaning stands core runner site left
  desk_taken left run desk taken =
      rw taken.left_are (without meaning stands core lane runner site runs taken.within desk)

  pub desk_gone : (left next : List (Option (RunView State))) (old new : RunView State)
      → IsDesk meaning stands core runner site runs → IsTaken runs left lane old
      → HasGone (stands runner site) (meaning runner site) old new → next ≡ set left lane (Some new)
      → IsDesk meaning stands core runner site next
  desk_gone left next old new desk taken goes e =
      let one = went meaning stands core lane runner site old new desk.host goes
      (desk.runs_are lane old taken.run_is) in
      rw e (put meaning stands core lane runner site left new (left_within runs left lane old taken) one
      (desk_taken left old desk taken))

  pub desk_ended : (next : CoreView R Site) (left : List (Option (RunView State))) (run : RunView State)
      → IsDesk meaning stands core runner site runs → IsTaken runs left lane run → HasGrown lane core next
      → IsValidJournal (rules_of meaning next) (past_of next) → IsDesk meaning stands next runner site left
  desk_ended next left run desk taken grows valid =
      let free : get_or left lane None ≡ None = rw taken.left_are (gone runs lane taken.within) in
      stays meaning stands core next lane runner site left (desk_taken left run desk taken) free grows valid

  -- a call of the run was made, or was not and has changed nothing
  pub desk_called : {T E : Type 0} → (result : Result T E) (next : CoreView R Site)
      (left then_runs : List (Option (RunView State))) (old new : RunView State)
      → IsDesk meaning stands core runner site runs → IsTaken runs left lane old
      → OnOk result (next ≡ grown core (called core lane old)) → OnOk result (IsRunOf meaning stands next lane new)
      → OnErr result ((next ≡ core) × (new ≡ old)) → IsValidJournal (rules_of meaning next) (past_of next)
      → then_runs ≡ set left lane (Some new) → IsDesk meaning stands next runner site then_runs
  desk_called (Ok done) next left then_runs old new desk taken ok one err valid e =
      let grows : HasGrown lane core next =
      record { entries = called core lane old; of_lane = called_of core lane old; new_is = ok } in
      rw e (put meaning stands next lane runner site left new (left_within runs left lane old taken) one
      (desk_ended next left old desk taken grows valid))
  desk_called (Err stop) next left then_runs old new desk taken ok one err valid e =
      let still = put meaning stands core lane runner site left old (left_within runs left lane old taken)
      (desk.runs_are lane old taken.run_is) (desk_taken left old desk taken) in
      rw (e, err.0, err.1) still

  -- a call of the run did not fit, and the run was ended
  pub desk_full : (next last : CoreView R Site) (left : List (Option (RunView State))) (old : RunView State)
      (what : What) → IsDesk meaning stands core runner site runs → IsTaken runs left lane old → next ≡ core
      → last ≡ grown next (with_lane lane what ∷ []) → IsValidJournal (rules_of meaning last) (past_of last)
      → IsDesk meaning stands last runner site left
  desk_full next last left old what desk taken same e valid =
      let grows : HasGrown lane core last =
      subst (λ from. HasGrown lane from last) same (one_grown lane next last what e) in
      desk_ended last left old desk taken grows valid

  pub run_full : (next : CoreView R Site) (old new : RunView State) → IsRunOf meaning stands core lane old
      → (next ≡ core) × (new ≡ old) → IsRunOf meaning stands next lane new
  run_full next old new one same = rw (same.0, same.1) one

  pub kind_full : (next : CoreView R Site) (old new : RunView State) → HasNotFitFor core.setting.strict (past_of core) lane old
      → (next ≡ core) × (new ≡ old) → HasNotFitFor next.setting.strict (past_of next) lane new
  kind_full next old new full same = rw (same.0, same.1) full
