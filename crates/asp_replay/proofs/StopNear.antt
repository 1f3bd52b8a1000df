-- The Stop, which lane 0 brings to a host while other lanes work.
use Rattle.std.proofs.Common.{◌≡◌, ℕ, true, false, List, [], Option, Ok, Err, ap, sym}
use Rattle.std.proofs.Common.{subst, reverse, inl, inr}
use Rattle.std.proofs.lemmas.Bool.{cases_Bool}
use Rattle.turn_desk.specs.Shown.{HasOwn, LaneView}
use Rattle.asp_core.specs.declared.stop.EventStop.{EventStop}
use Rattle.asp_core.specs.declared.stop.EventStop.TheVariants as event
use Rattle.asp_core.specs.Kernel.{IsTooMuch}
use Rattle.asp_desk.specs.Calls.{IsTurn, Stops}
use Rattle.asp_job.specs.declared.entry.Entry.{Entry}
use Rattle.asp_job.specs.Journal.{AreRight, past_after, stop_entries}
use Rattle.asp_job.specs.Rules.{Rules}
use Rattle.asp_job.specs.Runs.{is_stopping}
use Rattle.asp_journal.specs.declared.full.Full.{Full}
use Rattle.asp_record.specs.declared.recording.Item.{Item}
use Rattle.asp_replay.specs.declared.stop.FeedStop.{FeedStop}
use Rattle.asp_replay.specs.declared.stop.FeedStop.TheVariants as stop
use Rattle.asp_feed.specs.Feeding.{Clients, is_calm}
use Rattle.asp_replay.specs.Near.{EndsNear, IsBorneOut, IsNear}
use Rattle.asp_replay.specs.Underway.{event_stop}
use Rattle.asp_replay.proofs.Causes.{stop_cause}
use Rattle.asp_replay.proofs.Grown.{all_come}
use Rattle.asp_replay.proofs.ItemsNear.{event_no_start, found_so, zero_entries}
use Rattle.asp_replay.proofs.Others.{lane_in, turn_borne}
use Rattle.asp_replay.proofs.Quiet.{borne_before, calm_stays}
use Rattle.asp_replay.proofs.StandsNear.{near_ends, near_stopped, near_worked}
use Rattle.asp_replay.proofs.TakenNear.{worked_quiet}

module _ {F : Type 0} (m : Rules) (a b : LaneView Entry F) (has : HasOwn lane_in a) (zero : a.number ≡ 0)
    (right : AreRight m (reverse b.seen)) (due : IsBorneOut m (reverse a.seen) → is_calm (reverse a.seen) ≡ true)
    (items : List Item) (clients : Clients) (before held : Option (List ℕ)) (borne : IsBorneOut m (reverse b.seen))
    (near : IsNear m items (reverse a.seen) clients [] before held) where
  -- it came
  stop_comes : (turn : IsTurn (Stops m a.number {A = Unit {0}}) a (Ok tt) b)
      → is_stopping (reverse turn.before) ≡ false → IsNear m items (reverse b.seen) clients [] before held
  stop_comes turn once =
      let does = Stops m a.number {A = Unit {0}} in
      let past = reverse turn.before in
      let entries = stop_entries m past 0 in
      let is = zero_entries m a b has zero right turn.before b.seen (λ n. stop_entries m past n) (turn.done.0 once) in
      let found = found_so m a b has zero right does (Ok tt) turn entries is borne in
      let borne_then = subst (IsBorneOut m) is borne in
      let here = near_worked m items before held (reverse a.seen) past clients [] found.0 found.1
      (borne_before m past entries borne_then).answered near in
      let calm = calm_stays m (reverse a.seen) past (worked_quiet (reverse a.seen) past found.0) found.1
      (due (turn_borne m does a b (Ok tt) turn borne)) in
      subst (λ new. IsNear m items new clients [] before held) (sym is)
      (near_stopped m items before held past clients (subst (AreRight m) is right) borne_then.answered calm once here)

  -- it stood already
  stop_stood : (turn : IsTurn (Stops m a.number {A = Unit {0}}) a (Ok tt) b)
      → is_stopping (reverse turn.before) ≡ true → IsNear m items (reverse b.seen) clients [] before held
  stop_stood turn stood =
      let does = Stops m a.number {A = Unit {0}} in
      let past = reverse turn.before in
      let is : reverse b.seen ≡ past = ap reverse (turn.done.1 stood) in
      let found = found_so m a b has zero right does (Ok tt) turn [] is borne in
      subst (λ new. IsNear m items new clients [] before held) (sym is)
      (near_worked m items before held (reverse a.seen) past clients [] found.0 found.1
      (subst (IsBorneOut m) is borne).answered near)

  pub stop_near : (turn : IsTurn (Stops m a.number {A = Unit {0}}) a (Ok tt) b)
      → IsNear m items (reverse b.seen) clients [] before held
  stop_near turn = elim (cases_Bool (is_stopping (reverse turn.before))) [
    | inl stood ↦ stop_stood turn stood
    | inr once ↦ stop_comes turn once
  ]

  stop_same : (before_it after : List Entry) (ended : EventStop)
      → Stops m a.number {A = Unit {0}} before_it (Err ended) after
      → (after ≡ before_it) × (is_stopping (reverse before_it) ≡ false)
  stop_same before_it after (event.JournalFull full) does = (does.0, does.1)
  stop_same before_it after event.Memory does = (does.0, does.1)

  stop_much : (before_it after : List Entry) (ended : EventStop) (told : FeedStop) (full : Full)
      → Stops m a.number {A = Unit {0}} before_it (Err ended) after → told ≡ event_stop ended
      → told ≡ stop.JournalFull full
      → IsTooMuch (past_after (reverse before_it) (stop_entries m (reverse before_it) 0)) full
  stop_much before_it after (event.JournalFull much) told full does from is =
      let same : much ≡ full = cc in
      let past = reverse before_it in
      subst (IsTooMuch (past_after past (stop_entries m past 0))) same
      (subst (λ n. IsTooMuch (past_after past (stop_entries m past n)) much) zero does.2)
  stop_much before_it after event.Memory told full does from is = absurd cc

  -- it did not come
  pub stop_not : (ended : EventStop) (told : FeedStop) (turn : IsTurn (Stops m a.number {A = Unit {0}}) a (Err ended) b)
      → told ≡ event_stop ended → EndsNear m items (reverse b.seen) told before held
  stop_not ended told turn from =
      let does = Stops m a.number {A = Unit {0}} in
      let past = reverse turn.before in
      let same = stop_same turn.before b.seen ended turn.done in
      let is : reverse b.seen ≡ past = ap reverse same.0 in
      let found = found_so m a b has zero right does (Err ended) turn [] is borne in
      let here = near_worked m items before held (reverse a.seen) past clients [] found.0 found.1
      (subst (IsBorneOut m) is borne).answered near in
      let calm = calm_stays m (reverse a.seen) past (worked_quiet (reverse a.seen) past found.0) found.1
      (due (turn_borne m does a b (Err ended) turn borne)) in
      subst (λ new. EndsNear m items new told before held) (sym is)
      (near_ends m items before held past clients [] told
      (stop_cause m items past told here.started (record {
        clients = clients;
        came = all_come items past clients same.1 here.stands;
        calm = calm;
      }) (λ full e. stop_much turn.before b.seen ended told full turn.done from e)
      (λ fail e. event_no_start m a b has zero right ended told fail from e)) here)
