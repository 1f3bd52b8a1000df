-- Hand-outs of lane 0, one after another, while other lanes work.
use Rattle.std.proofs.Common.{◌≡◌, ℕ, List, [], ◌∷◌, Option, Some, None, Result, Ok, Err, ap, sym, ◌∙◌}
use Rattle.std.proofs.Common.{subst, reverse, IfNone, IfSome}
use Rattle.turn_desk.specs.Shown.{HasOwn, LaneView}
use Rattle.asp_core.proofs.Kept.{past_of_more}
use Rattle.asp_core.specs.Ready.{first_for, ready}
use Rattle.asp_desk.specs.Calls.{CollectsFirst, IsTurn}
use Rattle.asp_job.specs.declared.answer.Answer.{Answer}
use Rattle.asp_job.specs.declared.entry.Entry.{Entry}
use Rattle.asp_job.specs.declared.entry.What.TheVariants.{Take}
use Rattle.asp_job.specs.History.{with_lane}
use Rattle.asp_job.specs.Journal.{AreRight}
use Rattle.asp_job.specs.Rules.{Rules}
use Rattle.asp_job.specs.Runs.{moment_of}
use Rattle.asp_replay.specs.declared.stop.FeedStop.{FeedStop}
use Rattle.asp_feed.specs.Shown.{IsRecord}
use Rattle.asp_replay.specs.Near.{EndsNear, GrowsQuietly, HasTaken, HasWorked, IsBorneOut, IsNear, StaysNear}
use Rattle.asp_replay.specs.Underway.{WritesRecord}
use Rattle.asp_replay.proofs.Events.{quiet_all}
use Rattle.asp_replay.proofs.HandingOut.{head_first, none_first, ready_asked}
use Rattle.asp_replay.proofs.Others.{lane_in, turn_found}
use Rattle.asp_replay.proofs.Quiet.{borne_before, quiet_comes, quiet_none, quiet_then, work_quiet}
use Rattle.asp_replay.proofs.StandsNear.{near_out, near_worked, out_ends, shown_one, taken}

-- ---- one hand-out

module _ {F : Type 0} (m : Rules) (a b : LaneView Entry F) where
  -- the first answer that waits was handed out
  pub one_taken : (first : ℕ × Answer) → IsTurn (CollectsFirst m a.number) a (Some first) b → HasOwn lane_in a
      → a.number ≡ 0 → AreRight m (reverse b.seen) → IsBorneOut m (reverse b.seen)
      → HasTaken m (reverse a.seen) (reverse b.seen) first
  one_taken first turn has zero right borne =
      let past = reverse turn.before in
      let entry = with_lane 0 (Take first.0) in
      let is : reverse b.seen ≡ taken past first =
      ap reverse turn.done.0 ∙ past_of_more turn.before (with_lane a.number (Take first.0) ∷ [])
      ∙ ap (λ n. with_lane n (Take first.0) ∷ past) zero in
      let there = borne_before m past (entry ∷ []) (subst (IsBorneOut m) is borne) in
      let passed = ready_asked m past (subst (AreRight m) is right).1 there.answered there.others in
      let found : Some first ≡ first_for past 0 (ready m past) =
      sym (subst (λ n. first_for past n (ready m past) ≡ Some first) zero turn.done.2) in
      let head = head_first past (ready m past) first passed found in
      record {
        mid = past;
        worked = turn_found (CollectsFirst m a.number) a b (Some first) turn has zero there.others;
        rest = head.0;
        waits = head.1;
        new_is = is;
      }

  -- none waits
  pub none_taken : IsTurn (CollectsFirst m a.number) a None b → HasOwn lane_in a → a.number ≡ 0
      → AreRight m (reverse b.seen) → IsBorneOut m (reverse b.seen)
      → HasWorked (reverse a.seen) (reverse b.seen) × (ready m (reverse b.seen) ≡ [])
  none_taken turn has zero right borne =
      let is : reverse b.seen ≡ reverse turn.before = ap reverse turn.done.0 in
      let found : None ≡ first_for (reverse b.seen) 0 (ready m (reverse b.seen)) =
      sym (ap (λ past. first_for past 0 (ready m past)) is
      ∙ subst (λ n. first_for (reverse turn.before) n (ready m (reverse turn.before)) ≡ None) zero turn.done.1) in (
        subst (HasWorked (reverse a.seen)) (sym is)
            (turn_found (CollectsFirst m a.number) a b None turn has zero
            (subst (IsBorneOut m) is borne).others),
        none_first (reverse b.seen) (ready m (reverse b.seen))
            (ready_asked m (reverse b.seen) right borne.answered borne.others) found,
      )

  -- what a call told
  pub told_some : (told : Option (ℕ × Answer)) → IsTurn (CollectsFirst m a.number) a told b → HasOwn lane_in a
      → a.number ≡ 0 → AreRight m (reverse b.seen)
      → IfSome told (λ first. IsBorneOut m (reverse b.seen) → HasTaken m (reverse a.seen) (reverse b.seen) first)
  told_some None turn has zero right = tt
  told_some (Some first) turn has zero right = λ borne. one_taken first turn has zero right borne

  pub told_none : (told : Option (ℕ × Answer)) → IsTurn (CollectsFirst m a.number) a told b → HasOwn lane_in a
      → a.number ≡ 0 → AreRight m (reverse b.seen)
      → IfNone told (IsBorneOut m (reverse b.seen)
      → HasWorked (reverse a.seen) (reverse b.seen) × (ready m (reverse b.seen) ≡ []))
  told_none None turn has zero right = λ borne. none_taken turn has zero right borne
  told_none (Some first) turn has zero right = tt

-- ---- and its record

pub worked_quiet : (old new : List Entry) → HasWorked old new → GrowsQuietly old new
worked_quiet old new has = record {
  entries = has.entries;
  new_is = has.new_is;
  quiet = work_quiet has.entries has.work;
}

pub quiet_moment : (old new : List Entry) → GrowsQuietly old new → moment_of new ≡ moment_of old
quiet_moment old new grows =
    ap moment_of grows.new_is ∙ (quiet_all old grows.entries (quiet_comes grows.entries grows.quiet)).moment

pub taken_quiet : (m : Rules) (old new : List Entry) (first : ℕ × Answer) → HasTaken m old new first
    → GrowsQuietly old new
taken_quiet m old new first has = quiet_then old has.mid new (worked_quiet old has.mid has.worked) (record {
  entries = with_lane 0 (Take first.0) ∷ [];
  new_is = has.new_is;
  quiet = (tt, tt);
})

-- with nothing written, as runs went on
pub stays_worked : {T : Type 0} (given : T) (m : Rules) (old new : List Entry) (held : Option (List ℕ))
    → HasWorked old new → AreRight m new → IsBorneOut m new → StaysNear m (Ok given) old new held held
stays_worked given m old new held has right borne = record {
  grows = worked_quiet old new has;
  near = λ items left clients before is. near_worked m items before held old new clients left has right borne.answered
      is;
}

module _ (m : Rules) (old new : List Entry) (held after : Option (List ℕ)) (first : ℕ × Answer) (moment : ℕ)
    (has : HasTaken m old new first) (right : AreRight m new) (borne : IsBorneOut m new)
    (at : moment ≡ moment_of old) where
  its_shown : record { run = first.0; moment = moment; answer = first.1 } ≡ shown_one has.mid first
  its_shown = ap (λ n. record { run = first.0; moment = n; answer = first.1 })
      (at ∙ sym (quiet_moment old has.mid (worked_quiet old has.mid has.worked)))

  right_taken : AreRight m (taken has.mid first)
  right_taken = subst (AreRight m) has.new_is right

  borne_mid : IsBorneOut m has.mid
  borne_mid = borne_before m has.mid (with_lane 0 (Take first.0) ∷ []) (subst (IsBorneOut m) has.new_is borne)

  pub stays_taken : WritesRecord {T = Unit {0}} (record { run = first.0; moment = moment; answer = first.1 }) (Ok tt) held after
      → StaysNear {T = Unit {0}} m (Ok tt) old new held after
  stays_taken wrote = record {
    grows = taken_quiet m old new first has;
    near = λ items left clients before is.
        subst (λ past. IsNear m items past clients left before after) (sym has.new_is)
        (near_out m items before has.mid clients left held after first has.rest wrote.0 has.waits right_taken
        (subst (λ shown. IsRecord shown wrote.0) its_shown wrote.1) wrote.2
        (near_worked m items before held old has.mid clients left has.worked right_taken.1 borne_mid.answered is));
  }

  pub stays_ended : (ended : FeedStop)
      → WritesRecord {T = Unit {0}} (record { run = first.0; moment = moment; answer = first.1 }) (Err ended) held after
      → StaysNear {T = Unit {0}} m (Err ended) old new held after
  stays_ended ended wrote = record {
    grows = taken_quiet m old new first has;
    near = λ items left clients before is.
        subst (λ past. EndsNear m items past ended before after) (sym has.new_is)
        (out_ends m items before has.mid clients left held after first has.rest ended has.waits
        right_taken (subst (λ shown. WritesRecord {T = Unit {0}} shown (Err ended) held after) its_shown wrote)
        (near_worked m items before held old has.mid clients left has.worked right_taken.1 borne_mid.answered is));
  }

-- ---- one behind another

pub stays_none : (m : Rules) (past : List Entry) (held : Option (List ℕ))
    → StaysNear {T = Unit {0}} m (Ok tt) past past held held
stays_none m past held = record { grows = quiet_none past; near = λ items left clients before is. is }

pub stays_then : {T U : Type 0} → (given : T) (result : Result U FeedStop) (m : Rules) (old mid new : List Entry)
    (held between after : Option (List ℕ)) → StaysNear m (Ok given) old mid held between
    → StaysNear m result mid new between after → StaysNear m result old new held after
stays_then given result m old mid new held between after one two = record {
  grows = quiet_then old mid new one.grows two.grows;
  near = λ items left clients before is. two.near items left clients before (one.near items left clients before is);
}
