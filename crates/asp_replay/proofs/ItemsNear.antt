-- What lane 0 brings to a host while other lanes work: items, and the Stop.
use Rattle.std.proofs.Common.{◌≡◌, ℕ, ◌<◌, List, [], ◌∷◌, ◌++◌, Ok, Err}
use Rattle.std.proofs.Common.{refl, ap, sym, ◌∙◌, subst, reverse}
use Rattle.turn_desk.specs.Shown.{HasOwn, LaneView}
use Rattle.asp_core.proofs.Kept.{past_of_more}
use Rattle.asp_core.specs.declared.admitted.Admitted.{Admitted}
use Rattle.asp_core.specs.declared.stop.AdmitStop.{AdmitStop}
use Rattle.asp_core.specs.declared.stop.AdmitStop.TheVariants as admit
use Rattle.asp_core.specs.declared.stop.EventStop.{EventStop}
use Rattle.asp_core.specs.declared.stop.EventStop.TheVariants as event
use Rattle.asp_core.specs.Drawing.{entry_then, told_of}
use Rattle.asp_core.specs.Kernel.{IsTooMuch}
use Rattle.asp_desk.specs.Calls.{Admits, IsTurn, Ticks}
use Rattle.asp_core.specs.Ready.{ready}
use Rattle.asp_job.specs.declared.answer.Fail.{Fail}
use Rattle.asp_job.specs.declared.entry.Entry.{Entry}
use Rattle.asp_job.specs.declared.entry.What.{What}
use Rattle.asp_job.specs.declared.job.Job.{Job}
use Rattle.asp_job.specs.Journal.{AreRight, admit_entries, past_after, tick_entries}
use Rattle.asp_job.specs.Rules.{Rules}
use Rattle.asp_journal.specs.declared.full.Full.{Full}
use Rattle.asp_job.specs.Runs.{moment_of}
use Rattle.asp_record.specs.declared.recording.Item.{Item}
use Rattle.asp_record.specs.declared.recording.Item.TheVariants as item
use Rattle.asp_record.specs.Recorded as recorded
use Rattle.asp_replay.specs.declared.stop.FeedStop.{FeedStop}
use Rattle.asp_replay.specs.declared.stop.FeedStop.TheVariants as stop
use Rattle.asp_feed.specs.Feeding.{Clients, IsJobOf, clients_after}
use Rattle.asp_replay.specs.Near.{BringsNear, EndsNear, HasWorked, IsBorneOut, IsDue, IsNear}
use Rattle.asp_replay.specs.Sequential.{AddsItem}
use Rattle.asp_replay.specs.Underway.{IsItemTooMuch, admit_stop, event_stop}
use Rattle.asp_replay.proofs.Causes.{item_cause, next_is}
use Rattle.asp_replay.proofs.Grown.{calm_where}
use Rattle.asp_replay.proofs.Others.{lane_in, turn_borne, turn_found}
use Rattle.asp_replay.proofs.Quiet.{borne_before, calm_none, may_stays}
use Rattle.asp_replay.proofs.Showing.{right_before}
use Rattle.asp_replay.proofs.StandsNear.{near_came, near_ends, near_worked}
use Rattle.asp_replay.proofs.TakenNear.{quiet_moment, worked_quiet}

-- nothing more was done
pub brings_memory : (m : Rules) (past : List Entry) (clients then_clients : Clients) (next : Item)
    → BringsNear (Err stop.Memory) m past past clients then_clients next
brings_memory m past clients then_clients next = λ items left before held borne is.
    near_ends m items before held past clients (next ∷ left) stop.Memory tt is

-- ---- an item, at the journal that was found

module _ (m : Rules) (old mid : List Entry) (worked : HasWorked old mid) (right : AreRight m mid)
    (next : Item) (due : IsDue m old (recorded.moment_of next)) where
  abbrev its_moment : ℕ
  its_moment = recorded.moment_of next

  -- where time goes on nothing came meanwhile
  same_where : moment_of mid < its_moment → mid ≡ old
  same_where later =
      let then_later = subst (λ n. n < its_moment) (quiet_moment old mid (worked_quiet old mid worked)) later in
      let calm = calm_where old its_moment due.may then_later in
      let none = calm_none m old worked.entries (subst (AreRight m) worked.new_is right) calm worked.work in
      worked.new_is ∙ ap (past_after old) none

  none_where : moment_of mid < its_moment → ready m mid ≡ []
  none_where later = ap (ready m) (same_where later) ∙ due.none_ready

  -- the item came
  pub brings_item : (new entries : List Entry) (clients then_clients : Clients)
      → new ≡ past_after mid entries → AreRight m new → AddsItem m mid clients next entries then_clients
      → BringsNear (Ok tt) m old new clients then_clients next
  brings_item new entries clients then_clients is right_new adds = λ items left before held borne near.
      let borne_then = subst (IsBorneOut m) is borne in
      let here = borne_before m mid entries borne_then in
      let found = near_worked m items before held old mid clients (next ∷ left) worked right here.answered near in
      let may = may_stays m old mid its_moment (worked_quiet old mid worked) right due.may in
      subst (λ past. IsNear m items past then_clients left before held) (sym is)
      (near_came m items before held mid entries clients then_clients next left (subst (AreRight m) is right_new)
      borne_then.answered may none_where adds found)

  -- it did not
  pub brings_not : (new : List Entry) (clients then_clients : Clients) (ended : FeedStop) → new ≡ mid
      → ((full : Full) → ended ≡ stop.JournalFull full → IsItemTooMuch m mid clients next full) → ((fail : Fail) → ended ≡ stop.StartFailed fail → ⊥)
      → BringsNear (Err ended) m old new clients then_clients next
  brings_not new clients then_clients ended is so not = λ items left before held borne near.
      let here = subst (IsBorneOut m) is borne in
      let found = near_worked m items before held old mid clients (next ∷ left) worked right here.answered near in
      let may = may_stays m old mid its_moment (worked_quiet old mid worked) right due.may in
      subst (λ past. EndsNear m items past ended before held) (sym is)
      (near_ends m items before held mid clients (next ∷ left) ended
      (item_cause m items mid clients next ended found.started (next_is items mid clients next left may found.stands)
      so not) found)

-- ---- in a turn of lane 0

module _ {F : Type 0} (m : Rules) (a b : LaneView Entry F) (has : HasOwn lane_in a) (zero : a.number ≡ 0)
    (right : AreRight m (reverse b.seen)) where
  -- what a turn found, which left these entries more
  pub found_so : {A : Type 0} (does : List Entry → A → List Entry → Type 0) (answer : A) (turn : IsTurn does a answer b)
      (entries : List Entry) → reverse b.seen ≡ past_after (reverse turn.before) entries
      → IsBorneOut m (reverse b.seen)
      → HasWorked (reverse a.seen) (reverse turn.before) × AreRight m (reverse turn.before)
  found_so does answer turn entries is borne = (
    turn_found does a b answer turn has zero
        (borne_before m (reverse turn.before) entries (subst (IsBorneOut m) is borne)).others,
    right_before m (reverse turn.before) entries (subst (AreRight m) is right),
  )

  -- the entries that a call for lane 0 left
  pub zero_entries : (before after : List Entry) (entries : ℕ → List Entry) → after ≡ before ++ entries a.number
      → reverse after ≡ past_after (reverse before) (entries 0)
  zero_entries before after entries is = ap reverse is ∙ past_of_more before (entries a.number)
      ∙ ap (λ n. past_after (reverse before) (entries n)) zero

  -- ---- time goes on

  pub tick_near : (moment count : ℕ) (turn : IsTurn (Ticks m a.number moment) a (Ok count) b)
      → (IsBorneOut m (reverse a.seen) → IsDue m (reverse a.seen) moment) → (clients : Clients)
      → BringsNear (Ok tt) m (reverse a.seen) (reverse b.seen) clients clients (item.Tick moment)
  tick_near moment count turn due clients = λ items left before held borne near.
      let does = Ticks m a.number moment in
      let past = reverse turn.before in
      let entries = tick_entries m past 0 moment in
      let is = zero_entries turn.before b.seen (λ n. tick_entries m past n moment) turn.done.0 in
      let found = found_so does (Ok count) turn entries is borne in
      brings_item m (reverse a.seen) past found.0 found.1 (item.Tick moment)
      (due (turn_borne m does a b (Ok count) turn borne)) (reverse b.seen) entries clients clients is right (refl, refl)
      items left before held borne near

  tick_same : (at : ℕ) (before after : List Entry) (ended : EventStop)
      → Ticks m a.number at before (Err ended) after → after ≡ before
  tick_same at before after (event.JournalFull full) does = does.0
  tick_same at before after event.Memory does = does.0

  tick_much : (moment : ℕ) (before after : List Entry) (ended : EventStop) (told : FeedStop) (full : Full)
      → Ticks m a.number moment before (Err ended) after → told ≡ event_stop ended
      → told ≡ stop.JournalFull full
      → IsTooMuch (past_after (reverse before) (tick_entries m (reverse before) 0 moment)) full
  tick_much moment before after (event.JournalFull much) told full does from is =
      let same : much ≡ full = cc in
      let past = reverse before in
      subst (IsTooMuch (past_after past (tick_entries m past 0 moment))) same
      (subst (λ n. IsTooMuch (past_after past (tick_entries m past n moment)) much) zero does.2)
  tick_much moment before after event.Memory told full does from is = absurd cc

  pub event_no_start : (ended : EventStop) (told : FeedStop) (fail : Fail) → told ≡ event_stop ended
      → told ≡ stop.StartFailed fail → ⊥
  event_no_start (event.JournalFull much) told fail from is = cc
  event_no_start event.Memory told fail from is = cc

  pub tick_not : (moment : ℕ) (ended : EventStop) (told : FeedStop)
      (turn : IsTurn (Ticks m a.number moment) a (Err ended) b) → told ≡ event_stop ended
      → (IsBorneOut m (reverse a.seen) → IsDue m (reverse a.seen) moment) → (clients : Clients)
      → BringsNear (Err told) m (reverse a.seen) (reverse b.seen) clients clients (item.Tick moment)
  tick_not moment ended told turn from due clients = λ items left before held borne near.
      let does = Ticks m a.number moment in
      let past = reverse turn.before in
      let is : reverse b.seen ≡ past = ap reverse (tick_same moment turn.before b.seen ended turn.done) in
      let found = found_so does (Err ended) turn [] is borne in
      brings_not m (reverse a.seen) past found.0 found.1 (item.Tick moment)
      (due (turn_borne m does a b (Err ended) turn borne)) (reverse b.seen) clients clients told is
      (λ full e. (
        tick_entries m past 0 moment,
        clients,
        (refl, refl),
        tick_much moment turn.before b.seen ended told full turn.done from e,
      ))
      (λ fail e. event_no_start ended told fail from e) items left before held borne near

  -- ---- a request comes

  pub admit_near : (client moment : ℕ) (bytes : List ℕ) (job : Job) (told : Admitted)
      (turn : IsTurn (Admits m a.number job) a (Ok told) b) → (clients then_clients : Clients)
      → IsJobOf clients client moment bytes job
      → ((what : What) → told ≡ told_of what → then_clients ≡ clients_after clients client what)
      → (IsBorneOut m (reverse a.seen) → IsDue m (reverse a.seen) moment)
      → BringsNear (Ok tt) m (reverse a.seen) (reverse b.seen) clients then_clients (item.Request client moment bytes)
  admit_near client moment bytes job told turn clients then_clients of noted due = λ items left before held borne near.
      let does = Admits m a.number job in
      let past = reverse turn.before in
      let entries = admit_entries m past 0 job in
      let is = zero_entries turn.before b.seen (λ n. admit_entries m past n job) turn.done.0 in
      let found = found_so does (Ok told) turn entries is borne in
      let told_is : told ≡ told_of (entry_then m past 0 job).what =
      turn.done.1 ∙ ap (λ n. told_of (entry_then m past n job).what) zero in
      brings_item m (reverse a.seen) past found.0 found.1 (item.Request client moment bytes)
      (due (turn_borne m does a b (Ok told) turn borne)) (reverse b.seen) entries clients then_clients is right
      (job, of, refl, noted (entry_then m past 0 job).what told_is) items left before held borne near

  admit_same : (job : Job) (before after : List Entry) (ended : AdmitStop)
      → Admits m a.number job before (Err ended) after → after ≡ before
  admit_same job before after admit.Stopping does = does.0
  admit_same job before after admit.WaitingFull does = does.0
  admit_same job before after (admit.JournalFull full) does = does.0
  admit_same job before after admit.Memory does = does.0

  admit_much : (job : Job) (before after : List Entry) (ended : AdmitStop) (told : FeedStop) (full : Full)
      → Admits m a.number job before (Err ended) after → told ≡ admit_stop ended
      → told ≡ stop.JournalFull full
      → IsTooMuch (past_after (reverse before) (admit_entries m (reverse before) 0 job)) full
  admit_much job before after (admit.JournalFull much) told full does from is =
      let same : much ≡ full = cc in
      let past = reverse before in
      subst (IsTooMuch (past_after past (admit_entries m past 0 job))) same
      (subst (λ n. IsTooMuch (past_after past (admit_entries m past n job)) much) zero does.2)
  admit_much job before after admit.Stopping told full does from is = absurd cc
  admit_much job before after admit.WaitingFull told full does from is = absurd cc
  admit_much job before after admit.Memory told full does from is = absurd cc

  admit_no_start : (ended : AdmitStop) (told : FeedStop) (fail : Fail) → told ≡ admit_stop ended
      → told ≡ stop.StartFailed fail → ⊥
  admit_no_start admit.Stopping told fail from is = cc
  admit_no_start admit.WaitingFull told fail from is = cc
  admit_no_start (admit.JournalFull much) told fail from is = cc
  admit_no_start admit.Memory told fail from is = cc

  pub admit_not : (client moment : ℕ) (bytes : List ℕ) (job : Job) (ended : AdmitStop) (told : FeedStop)
      (turn : IsTurn (Admits m a.number job) a (Err ended) b) → told ≡ admit_stop ended
      → (clients then_clients : Clients) → IsJobOf clients client moment bytes job
      → (IsBorneOut m (reverse a.seen) → IsDue m (reverse a.seen) moment)
      → BringsNear (Err told) m (reverse a.seen) (reverse b.seen) clients then_clients (item.Request client moment bytes)
  admit_not client moment bytes job ended told turn from clients then_clients of due = λ items left before held borne near.
      let does = Admits m a.number job in
      let past = reverse turn.before in
      let is : reverse b.seen ≡ past = ap reverse (admit_same job turn.before b.seen ended turn.done) in
      let found = found_so does (Err ended) turn [] is borne in
      brings_not m (reverse a.seen) past found.0 found.1 (item.Request client moment bytes)
      (due (turn_borne m does a b (Err ended) turn borne)) (reverse b.seen) clients then_clients told is
      (λ full e. (
        admit_entries m past 0 job,
        clients_after clients client (entry_then m past 0 job).what,
        (job, of, refl, refl),
        admit_much job turn.before b.seen ended told full turn.done from e,
      ))
      (λ fail e. admit_no_start ended told fail from e) items left before held borne near
