-- The rounds of lane 0.
use Rattle.std.proofs.Common.{◌≡◌, ℕ, ◌++◌, true, false, List, [], Option, ap, sym, ◌∙◌, subst, append-nil, reverse}
use Rattle.std.proofs.Common.{inl, inr, Result}
use Rattle.turn_desk.specs.Shown.{HasOwn, LaneView}
use Rattle.asp_desk.specs.Calls.{IsTurn, Looks, looked_of}
use Rattle.asp_desk.specs.declared.looking.Looked.{Looked}
use Rattle.asp_core.specs.Ready.{ready}
use Rattle.asp_job.specs.declared.entry.Entry.{Entry}
use Rattle.asp_job.specs.Journal.{AreRight}
use Rattle.asp_job.specs.Rules.{Rules}
use Rattle.asp_job.specs.Runs.{is_stopping, moment_of}
use Rattle.asp_record.specs.declared.recording.Item.{Item}
use Rattle.asp_feed.specs.Feeding.{Clients, IsFed, is_calm}
use Rattle.asp_feed.specs.Shown.{AreRecords, shown_of}
use Rattle.asp_replay.specs.declared.stop.FeedStop.{FeedStop}
use Rattle.asp_replay.specs.Near.{GrowsQuietly, HasWorked, IsBorneOut, IsDue, IsFedNear, IsNear, IsSeen, NearAfter}
use Rattle.asp_replay.specs.Near.{StaysNear, calm_by, may_by}
use Rattle.asp_replay.specs.Underway.{StandsAt}
use Rattle.asp_replay.proofs.Others.{lane_in, turn_found}
use Rattle.asp_replay.proofs.Quiet.{borne_quiet, calm_stays, may_stays, stopping_stays}
use Rattle.asp_replay.proofs.Showing.{stamp}
use Rattle.asp_replay.proofs.StandsNear.{near_worked}

-- ---- a look

module _ {F : Type 0} (m : Rules) (a b : LaneView Entry F) (looked : Looked) (turn : IsTurn (Looks m) a looked b) where
  -- what it told holds of what the hand has then seen
  pub look_is : looked ≡ looked_of m (reverse b.seen)
  look_is = turn.done.1 ∙ ap (λ journal. looked_of m (reverse journal)) (sym turn.done.0)

  pub look_moment : looked.moment ≡ moment_of (reverse b.seen)
  look_moment = ap (λ (l : Looked). l.moment) look_is

  pub look_found : HasOwn lane_in a → a.number ≡ 0 → IsBorneOut m (reverse b.seen)
      → HasWorked (reverse a.seen) (reverse b.seen)
  look_found has zero borne =
      let is : reverse b.seen ≡ reverse turn.before = ap reverse turn.done.0 in
      subst (HasWorked (reverse a.seen)) (sym is)
      (turn_found (Looks m) a b looked turn has zero (subst (IsBorneOut m) is borne).others)

  -- the hand-outs behind it
  pub seen_by : (past : List Entry) → GrowsQuietly (reverse b.seen) past → ready m past ≡ [] → IsSeen m looked past
  seen_by past grows none = record { before = reverse b.seen; looked_is = look_is; grows = grows; none_ready = none }

  -- a feed stands there, or has ended in them
  pub round_near : {T : Type 0} (result : Result T FeedStop) (past : List Entry) (items left : List Item)
      (clients : Clients) (before held after : Option (List ℕ)) → HasOwn lane_in a → a.number ≡ 0
      → AreRight m (reverse b.seen) → IsBorneOut m past → StaysNear m result (reverse b.seen) past held after
      → IsNear m items (reverse a.seen) clients left before held
      → NearAfter result m items past clients left before after
  round_near result past items left clients before held after has zero right borne stays near =
      let here = borne_quiet m (reverse b.seen) past stays.grows borne in
      stays.near items left clients before
      (near_worked m items before held (reverse a.seen) (reverse b.seen) clients left (look_found has zero here) right
      here.answered near)

-- ---- what may be done by it

module _ (m : Rules) (looked : Looked) (past : List Entry) (seen : IsSeen m looked past) (right : AreRight m past) where
  -- what may come by the look may come now
  pub due_seen : (moment : ℕ) → may_by looked moment ≡ true → IsDue m past moment
  due_seen moment may = record {
    may = may_stays m seen.before past moment seen.grows right
        (subst (λ l. may_by l moment ≡ true) seen.looked_is may);
    none_ready = seen.none_ready;
  }

  pub calm_seen : calm_by looked ≡ true → is_calm past ≡ true
  calm_seen calm = calm_stays m seen.before past seen.grows right
      (subst (λ l. calm_by l ≡ true) seen.looked_is calm)

  stopping_seen : looked.stopping ≡ true → is_stopping past ≡ true
  stopping_seen is = stopping_stays seen.before past seen.grows
      ∙ sym (ap (λ (l : Looked). l.stopping) seen.looked_is) ∙ is

  stands_fed : (items : List Item) (clients : Clients) → is_stopping past ≡ true → StandsAt items past clients []
      → IsFed items past
  stands_fed items clients stopped (inl feeding) =
      absurd (let both : true ≡ false = sym stopped ∙ feeding.open_still in cc)
  stands_fed items clients stopped (inr fed) = fed.fed

  -- all were fed
  pub all_fed : (items : List Item) (clients : Clients) (before held : Option (List ℕ)) → looked.stopping ≡ true
      → calm_by looked ≡ true → IsNear m items past clients [] before held → IsFedNear m items past before held
  all_fed items clients before held stops calm is =
      let stopped = stopping_seen stops in
      let shown : shown_of m past ≡ is.done =
      is.shown ∙ ap (λ answers. is.done ++ stamp (moment_of past) answers) seen.none_ready ∙ append-nil is.done in
      record {
        started = is.started;
        fed = stands_fed items clients stopped is.stands;
        stopped = stopped;
        calm = calm_seen calm;
        none_ready = seen.none_ready;
        written = record {
          records = is.records;
          are_records = subst (λ all. AreRecords all is.records) (sym shown) is.are_records;
          wrote = is.wrote;
        };
      }
