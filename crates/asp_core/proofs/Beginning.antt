-- What a Begin leaves of a right journal.
use Rattle.std.proofs.Common.{◌≡◌, ℕ, ◌+◌, ◌<◌, ◌≤◌, ◌==◌, ◌&&◌, ◌^◌, Bool, true, false, not}
use Rattle.std.proofs.Common.{◌↔◌, if◌then◌else◌, List, [], ◌∷◌, ◌++◌, reverse}
use Rattle.std.proofs.Common.{Option, Result, Ok, Err, IfOk, OnOk, refl, ap, sym, ◌∙◌, subst, arith}
use Rattle.std.proofs.Common.{inl, inr}
use Rattle.asp_journal.specs.declared.full.Full.{Full}
use Rattle.asp_core.specs.Book.{Adds, BookView, IsSound, past_in}
use Rattle.asp_core.specs.Calm.{HasLoad, IsOver}
use Rattle.asp_core.specs.Kernel.{IsBeginTooMuch, IsKept, IsRunOf}
use Rattle.asp_core.specs.Kernel.{IsWithin, NextFits, RunView, StandsAt, rules_by}
use Rattle.asp_core.specs.Opening.{CanBegin, CanOpen, HasBegun, HasOpened, IsIdleWith, IsNext, IsNextOver, IsNextWith}
use Rattle.asp_core.specs.Ready.{bodies_with_one}
use Rattle.asp_core.specs.Sessions.{account_begun, sessions_in}
use Rattle.asp_core.specs.Stops.{begin_stop}
use Rattle.asp_core.specs.declared.opening.SessionNumber.{SessionNumber}
use Rattle.asp_core.specs.declared.ready.TheConstants.{MOST_BODY_BYTES}
use Rattle.asp_core.specs.declared.stop.BeginStop.{BeginStop}
use Rattle.asp_core.specs.declared.stop.BeginStop.TheVariants as stops
use Rattle.asp_core.specs.declared.stop.EventStop.{EventStop}
use Rattle.asp_core.specs.declared.stop.EventStop.TheVariants as event
use Rattle.asp_app.specs.View.{AppView}
use Rattle.asp_job.specs.History.{entries_in, load, with_lane}
use Rattle.asp_job.specs.Journal.{AreRight, begin_entry}
use Rattle.asp_job.specs.Keys.{opened, opens, session_of}
use Rattle.asp_job.specs.Keys.{told}
use Rattle.asp_job.specs.Rules.{Rules}
use Rattle.asp_job.specs.Running.{is_page}
use Rattle.asp_job.specs.Runs.{draw_of, drawn, key_of}
use Rattle.asp_job.specs.Told.{Meaning, Told}
use Rattle.asp_job.specs.Turns.{IsRunning, serial_of}
use Rattle.asp_job.specs.declared.answer.Answer.{Answer}
use Rattle.asp_job.specs.declared.answer.Fail.{Fail}
use Rattle.asp_job.specs.declared.entry.Entry.{Entry}
use Rattle.asp_job.specs.declared.entry.TheConstants.{MOST_ENTRIES}
use Rattle.asp_job.specs.declared.entry.What.{What}
use Rattle.asp_job.specs.declared.entry.What.TheVariants.{Admit, App, Begin, End, Halt, Queue, Refuse, Stop, Take, Tick}
use Rattle.asp_session.specs.Account.{Account}
use Rattle.asp_journal.proofs.Bounds.{drawn_small}
use Rattle.asp_journal.proofs.Others.{own_number}
use Rattle.asp_journal.proofs.Past.{past_push}
use Rattle.asp_core.proofs.Begun.{begin_much, begin_within}
use Rattle.asp_core.proofs.Failing.{fail_push}
use Rattle.asp_core.proofs.Jobs.{fresh_key, small_job}
use Rattle.asp_core.proofs.Kept.{may_follow}
use Rattle.asp_core.proofs.Least.{AreNumbered, are_numbered}
use Rattle.asp_core.proofs.Same.{sound_grown, view_of}
use Rattle.asp_core.proofs.Growing.{account_then}
use Rattle.asp_core.proofs.Opened.{session_valid, serial_right, number_right, told_right}
use Rattle.asp_core.specs.declared.setting.Setting.{Setting}

one_more : (b : Bool) (n k : ℕ) → n ≤ k → (if b then n + 1 else n) ≤ k + 1
one_more true n k h = omega arith
one_more false n k h = omega arith

opened_more : (m : Rules) (past : List Entry) (lane : ℕ) (what : What) → opened m past ≤ entries_in past →
    opened m (with_lane lane what ∷ past) ≤ entries_in (with_lane lane what ∷ past)
opened_more m past lane (Queue run work key) h = omega arith
opened_more m past lane (Admit run key fresh job) h = omega arith
opened_more m past lane (Refuse run job) h = omega arith
opened_more m past lane (Tick moment) h = omega arith
opened_more m past lane (Begin run serial) h =
    one_more (opens (draw_of past run) (session_of m past (key_of past run))) (opened m past) (entries_in past) h
opened_more m past lane (App run call reply) h = omega arith
opened_more m past lane (End run kind status size n1 n2) h = omega arith
opened_more m past lane (Take run) h = h
opened_more m past lane Stop h = omega arith
opened_more m past lane Halt h = h

-- no more sessions were opened than there are entries that count
opened_small : (m : Rules) (past : List Entry) → opened m past ≤ entries_in past
opened_small m [] = omega arith
opened_small m (entry ∷ past) = opened_more m past entry.lane entry.what (opened_small m past)

-- ---- a core's parts suffice

pub can_number : (m : Rules) (past : List Entry) (account : Account)
    (answers : List (ℕ × Answer)) → CanBegin m past account answers → AreNumbered past
can_number m past account answers can = are_numbered m past can.kept.sessions.journal.entries

pub can_count : (m : Rules) (past : List Entry) (account : Account)
    (answers : List (ℕ × Answer)) → CanBegin m past account answers → account.opened + 1 < 2 ^ 31
can_count m past account answers can =
    let is : account.opened ≡ opened m past = ap (λ (a : Account). a.opened) can.kept.sessions.account_is in
    let small = opened_small m past in
    let few : load past ≤ MOST_ENTRIES = can.within.few in
    omega arith

pub can_add : (m : Rules) (past : List Entry) (account : Account)
    (answers : List (ℕ × Answer)) → CanBegin m past account answers → entries_in past ≤ MOST_ENTRIES
can_add m past account answers can =
    let few : load past ≤ MOST_ENTRIES = can.within.few in
    omega arith

-- a run that was drawn has a small number
pub few_drawn : (past : List Entry) (run : ℕ) → entries_in past ≤ MOST_ENTRIES → run ≤ drawn past → run < 2 ^ 32
few_drawn past run few low = let small = drawn_small past in omega arith

-- ---- the run that is begun

-- what the runner needs is there
pub can_open : (m : Rules) (past : List Entry) (account : Account)
    (answers : List (ℕ × Answer)) (run : ℕ) (number : SessionNumber) →
    CanBegin m past account answers → IsNextWith past account answers run number →
    CanOpen (draw_of past run) (sessions_in account (key_of past run)) number
can_open m past account answers run number can next =
    let is = next.number_is in
    let draw = draw_of past run in
    let s = sessions_in account (key_of past run) in
    let serial_is = is.serial_is ∙ serial_right account.opened draw s in
    let valid = session_valid (is_page draw.job.work && not (draw.key == 0)) s account.opened next.may
    (can_count m past account answers can) in
    record {
      fresh = fresh_key m past can.kept.sessions.journal.entries run;
      small = small_job m past can.kept.sessions.journal.entries can.kept.formed run;
      valid = rw (is.new_is, serial_is) valid;
    }

-- ---- which run is next

-- where a run is next and there is room for its body, the core is not idle
pub not_idle : (past : List Entry) (answers : List (ℕ × Answer)) (run : ℕ) → IsNext past run →
    bodies_with_one answers past ≤ MOST_BODY_BYTES → IsIdleWith answers past → ⊥
not_idle past answers run next light (inl (inl halted)) = let going = next.going in cc
not_idle past answers run next light (inl (inr (inl many))) = let few = next.few in omega arith
not_idle past answers run next light (inl (inr (inr none))) =
    let begins = next.first.begins in let may = none run in cc
not_idle past answers run next light (inr heavy) = omega arith

-- a run is next, and it does not fit
pub refused_busy : (past : List Entry) (answers : List (ℕ × Answer)) (run : ℕ) (why : EventStop) (stop : BeginStop) →
    IsNext past run → bodies_with_one answers past ≤ MOST_BODY_BYTES → stop ≡ begin_stop why →
    stop ≡ stops.Idle ↔ IsIdleWith answers past
refused_busy past answers run (event.JournalFull full) stop next light e =
    (λ idle. absurd cc, λ idle. absurd (not_idle past answers run next light idle))
refused_busy past answers run event.Memory stop next light e =
    (λ idle. absurd cc, λ idle. absurd (not_idle past answers run next light idle))

-- why it does not
pub full_over : (past : List Entry) (run : ℕ) (full : Full) (why : EventStop) (stop : BeginStop) →
    IsNext past run → ((most : Full) → why ≡ event.JournalFull most → IsOver past 2 128 most) →
    stop ≡ begin_stop why → stop ≡ stops.JournalFull full → IsNextOver past full
full_over past run full (event.JournalFull most) stop next over e is =
    let same : event.JournalFull most ≡ event.JournalFull full = cc in
    record { run = run; next = next; over = over full same }
full_over past run full event.Memory stop next over e is = absurd cc

-- ---- the Begin

kept_begin : (m : Rules) (past : List Entry) (account : Account) (held : AppView)
    (answers : List (ℕ × Answer)) (lane run : ℕ) → IsKept m past account held answers → IsNext past run →
    IsKept m (begin_entry m past lane run ∷ past) (account_begun past run account) held answers
kept_begin m past account held answers lane run kept next =
    let entry = begin_entry m past lane run in
    let turn = may_follow m past entry kept.sessions.journal.settled
    (record { next = next.first; few = next.few; going = next.going; session = refl }) in
    record {
      sessions = account_then m past (entry ∷ []) account (account_begun past run account) kept.sessions
          (record {
            entries = (record { turn = turn; legal = tt; follows = tt }, kept.sessions.journal.entries);
            settled = refl;
          }) refl;
      held_is = kept.held_is;
      answers_are = kept.answers_are;
      answered = (tt, kept.answered);
      formed = (tt, kept.formed);
    }

-- the run is unfinished, and the lane is its own
begun_running : (m : Rules) (past : List Entry) (lane run : ℕ) → IsRunning (begin_entry m past lane run ∷ past) lane run
begun_running m past lane run =
    let own = own_number run in record { unfinished = rw own refl; begun_by = rw own refl }

-- what was begun, where the run has this number
pub has_begun : {State : Type 0} → (m : Meaning) (setting : Setting) (stands : State → Told → ℕ → Type 0) (lane : ℕ)
    (old new : BookView) (account then_account : Account) (run : RunView State) (next : ℕ) (number : SessionNumber) →
    let rules = rules_by m setting in let past = past_in old in
    CanBegin rules past account old.answers → IsNextWith past account old.answers next number →
    Adds old (with_lane lane (Begin next number.serial) ∷ []) new → then_account ≡ account_begun past next account →
    HasOpened stands setting.seed (draw_of past next) (sessions_in account (key_of past next)) number next run →
    HasBegun rules stands lane old account new then_account run
has_begun m setting stands lane old new account then_account run next number can is adds begun opened_so =
    let rules = rules_by m setting in
    let past = past_in old in
    let entry = with_lane lane (Begin next number.serial) in
    let right : AreRight rules past = can.kept.sessions.journal.entries in
    let may = is.next.first.begins in
    let of : past_in new ≡ entry ∷ past = ap reverse adds.0 ∙ past_push old.items entry in
    let is_right = number_right rules past account next number can.kept.sessions is.number_is in
    let same = told_right m setting past account lane next number can.kept.sessions may is.number_is in
    rw opened_so.number_is (record {
      next = is.next;
      light = is.light;
      grows = (
        (adds.0 ∙ ap (λ s. old.items ++ with_lane lane (Begin next s) ∷ []) is_right.0, adds.1),
        subst IsWithin (sym of) (begin_within rules past lane next number.serial right may is.load),
      );
      account_is = begun;
      progress_is = opened_so.progress_is;
      told_is = subst (λ t. stands run.state t 0) same opened_so.told_is;
      stand_ins_are = opened_so.stand_ins_are;
      turns_is = opened_so.turns_is;
    })

-- what a core keeps then
pub sound_begun : {State : Type 0} → (m : Rules) (stands : State → Told → ℕ → Type 0) (lane : ℕ) (old new : BookView)
    (account then_account : Account) (held : AppView) (fail : Option Fail) (run : RunView State) →
    IsSound m (past_in old) account held old.answers fail →
    HasBegun m stands lane old account new then_account run →
    IsSound m (past_in new) then_account held new.answers fail
sound_begun m stands lane old new account then_account held fail run sound has =
    let past = past_in old in
    let entry = begin_entry m past lane run.number in
    let of : past_in new ≡ entry ∷ past = ap reverse has.grows.0.0 ∙ past_push old.items entry in
    let kept = kept_begin m past account held old.answers lane run.number sound.0 has.next in
    sound_grown m old new (entry ∷ []) then_account held fail has.grows (rw (of, has.account_is) kept)
    (fail_push m old.items new.items entry has.grows.0.0 refl) sound.2

-- the run is one of the core
pub begun_run : {R Site State : Type 0} → (meaning : R → Site → Meaning)
    (stands : R → Site → State → Told → ℕ → Type 0) (runner : R) (site : Site) (setting : Setting) (lane : ℕ)
    (old new : BookView) (account then_account : Account) (run : RunView State) →
    HasBegun (rules_by (meaning runner site) setting) (stands runner site) lane old account new then_account run →
    IsRunOf meaning stands (view_of runner site setting new.items) lane run
begun_run meaning stands runner site setting lane old new account then_account run has =
    let m = rules_by (meaning runner site) setting in
    let past = past_in old in
    let entry = begin_entry m past lane run.number in
    let of : past_in new ≡ entry ∷ past = ap reverse has.grows.0.0 ∙ past_push old.items entry in
    let here : stands runner site run.state (told m (past_in new) run.number) 0 =
    subst (λ p. stands runner site run.state (told m p run.number) 0) (sym of) has.told_is in
    record {
      running = rw of (begun_running m past lane run.number);
      stands_for = subst (λ p. StandsAt p (stands runner site run.state (told m (past_in new) run.number))
          ((meaning runner site).does (told m (past_in new) run.number))) (sym has.progress_is) (0, here);
      stand_ins_are = rw of has.stand_ins_are;
    }

-- ---- a Begin that does not fit, and one that does

pub begin_too_much : (m : Rules) (past : List Entry) (account : Account)
    (answers : List (ℕ × Answer)) (lane : ℕ) (full : Full) → CanBegin m past account answers →
    IsNextOver past full → IsBeginTooMuch m past lane full
begin_too_much m past account answers lane full can is =
    let next = is.next in (
      is.run,
      record { next = next.first; few = next.few; going = next.going; session = refl },
      begin_much m past lane is.run (serial_of m past is.run) full can.kept.sessions.journal.entries
          next.first.begins is.over,
    )

pub begin_fits : (m : Rules) (past : List Entry) (account : Account)
    (answers : List (ℕ × Answer)) (lane : ℕ) → CanBegin m past account answers →
    HasLoad past 2 128 → NextFits m past lane
begin_fits m past account answers lane can load run next =
    begin_within m past lane run (serial_of m past run) can.kept.sessions.journal.entries next.begins load

-- a fact of a result that was given becomes one that does not name it
pub on_each_ok : {T E : Type 0} → (result : Result T E) (P : T → Type 0) (Q : Type 0) → ((x : T) → P x → Q) →
    IfOk result P → OnOk result Q
on_each_ok (Ok given) P Q f p = f given p
on_each_ok (Err stop) P Q f p = tt

-- a run that did not begin for want of memory was refused so
pub memory_back : (why : EventStop) (stop : BeginStop) → stop ≡ begin_stop why → stop ≡ stops.Memory →
    why ≡ event.Memory
memory_back (event.JournalFull full) stop e out = absurd cc
memory_back event.Memory stop e out = refl

-- the rules of the runner and the site that a core was given
pub rules_same : {R Site : Type 0} → (meaning : R → Site → Meaning) (runner then_runner : R) (site then_site : Site)
    (setting : Setting) → runner ≡ then_runner → site ≡ then_site →
    rules_by (meaning runner site) setting ≡ rules_by (meaning then_runner then_site) setting
rules_same meaning runner then_runner site then_site setting same_runner same_site =
    ap (λ r. rules_by (meaning r site) setting) same_runner ∙ ap (λ s. rules_by (meaning then_runner s) setting)
    same_site
