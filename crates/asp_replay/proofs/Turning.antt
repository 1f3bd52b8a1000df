-- What turns leave of a core: its journal grows, and then the answers that wait are handed out.
use Rattle.std.proofs.Common.{◌≡◌, ℕ, true, false, List, [], ◌∷◌, ◌++◌, append_assoc, refl, ap, sym, ◌∙◌, subst}
use Rattle.std.proofs.Common.{Option, Some, Result, Ok, Err}
use Rattle.asp_journal.specs.declared.full.Full.{Full}
use Rattle.asp_core.specs.Kernel.{CoreView, IsTooMuch, RunView, grown, past_of, rules_of}
use Rattle.asp_core.specs.Ready.{IsAnswered, ready}
use Rattle.asp_core.proofs.Kept.{past_of_more}
use Rattle.asp_job.specs.declared.answer.Fail.{Fail}
use Rattle.asp_job.specs.declared.entry.Entry.{Entry}
use Rattle.asp_job.specs.Journal.{AreRight, past_after, stop_entries}
use Rattle.asp_job.specs.Runs.{is_stopping}
use Rattle.asp_job.specs.Told.{Meaning, Told}
use Rattle.asp_lane.specs.declared.turn.TurnEnd.{TurnEnd}
use Rattle.asp_lane.specs.declared.turn.TurnEnd.TheVariants as turn
use Rattle.asp_lane.specs.Started.{HasStarted}
use Rattle.asp_lane.specs.Turns.{Fits}
use Rattle.asp_record.specs.declared.recording.Item.{Item}
use Rattle.asp_record.specs.Recorded as recorded
use Rattle.asp_job.specs.Rules.{Rules}
use Rattle.asp_replay.specs.declared.stop.FeedStop.{FeedStop}
use Rattle.asp_replay.specs.declared.stop.FeedStop.TheVariants as stop
use Rattle.asp_feed.specs.Feeding.{Clients, is_calm}
use Rattle.asp_replay.specs.Sequential.{AddsItem, IsBusy, hand_outs, may_come}
use Rattle.asp_replay.specs.Underway.{After, AreOfLane, EndsSo, HandsOut, IsItemTooMuch, IsOfOneLane, IsOfWriting}
use Rattle.asp_replay.specs.Underway.{IsUnderWay, WorkAdds, Works, turn_stop}
use Rattle.asp_replay.proofs.Aside.{AreAside, aside_handed, fits_still}
use Rattle.asp_replay.proofs.Causes.{item_cause, next_is, stop_cause}
use Rattle.asp_replay.proofs.Grown.{IsGrown, all_come, come_grown, ends_here, handed_after, item_stays, stays_of, stop_grown}
use Rattle.asp_replay.proofs.Grown.{work_grown}
use Rattle.asp_replay.proofs.Plain.{plain_stopped, stays_plain, stays_worked}

-- two growths are one
pub grown_both : {R Site : Type 0} → (core : CoreView R Site) (first second : List Entry)
    → grown (grown core first) second ≡ grown core (first ++ second)
grown_both core first second =
    ap (λ journal. record { journal = journal; runner = core.runner; site = core.site; setting = core.setting })
    (append_assoc core.journal first second)

module _ {R Site : Type 0} (meaning : R → Site → Meaning) where
  -- what was handed out are entries of the journal
  hands_entries : {T : Type 0} → (result : Result T FeedStop) (mid new : CoreView R Site) (held after : Option (List ℕ))
      → HandsOut meaning result mid new held after
      → (entries : List Entry) × (new ≡ grown mid entries) × AreAside entries
  hands_entries (Ok given) mid new held after out = (
    hand_outs (ready (rules_of meaning mid) (past_of mid)),
    out.1,
    aside_handed (ready (rules_of meaning mid) (past_of mid)),
  )
  hands_entries (Err ended) mid new held after out =
      (hand_outs out.0.taken, out.0.new_is, aside_handed out.0.taken)

  -- the core has grown
  pub turn_grows : {T : Type 0} → (result : Result T FeedStop) (old mid new : CoreView R Site) (entries : List Entry)
      (held after : Option (List ℕ)) → mid ≡ grown old entries → HandsOut meaning result mid new held after
      → (all : List Entry) × (new ≡ grown old all)
  turn_grows result old mid new entries held after mid_is out =
      let more = hands_entries result mid new held after out in
      (entries ++ more.0, more.1 ∙ ap (λ core. grown core more.0) mid_is ∙ grown_both old entries more.0)

  pub right_grown : (old new : CoreView R Site) (entries : List Entry) → new ≡ grown old entries
      → AreRight (rules_of meaning new) (past_of new) → AreRight (rules_of meaning old) (past_after (past_of old)
      entries)
  right_grown old new entries is right =
      let grown_right : AreRight (rules_of meaning old) (past_of (grown old entries)) =
      subst (λ core. AreRight (rules_of meaning core) (past_of core)) is right in
      subst (AreRight (rules_of meaning old)) (past_of_more old.journal entries) grown_right

  answered_grown : (old new : CoreView R Site) (entries : List Entry) → new ≡ grown old entries
      → IsAnswered (rules_of meaning new) (past_of new)
      → IsAnswered (rules_of meaning old) (past_after (past_of old) entries)
  answered_grown old new entries is answered =
      let grown_answered : IsAnswered (rules_of meaning old) (past_of (grown old entries)) =
      subst (λ core. IsAnswered (rules_of meaning core) (past_of core)) is answered in
      subst (IsAnswered (rules_of meaning old)) (past_of_more old.journal entries) grown_answered

  -- what is in hand fits still
  pub turn_fits : {T State : Type 0} → (stands : R → Site → State → Told → ℕ → Type 0) (result : Result T FeedStop)
      (old mid new : CoreView R Site) (entries : List Entry) (held after : Option (List ℕ))
      (in_hand : Option (RunView State)) → mid ≡ grown old entries → AreAside entries
      → AreRight (rules_of meaning mid) (past_of mid) → AreRight (rules_of meaning new) (past_of new)
      → HandsOut meaning result mid new held after → Fits meaning stands old 0 in_hand
      → Fits meaning stands new 0 in_hand
  turn_fits stands result old mid new entries held after in_hand mid_is aside right_mid right_new out fits =
      let more = hands_entries result mid new held after out in
      let fits_mid : Fits meaning stands mid 0 in_hand =
      subst (λ core. Fits meaning stands core 0 in_hand) (sym mid_is)
      (fits_still meaning stands old entries in_hand (right_grown old mid entries mid_is right_mid) aside fits) in
      subst (λ core. Fits meaning stands core 0 in_hand) (sym more.1)
      (fits_still meaning stands mid more.0 in_hand (right_grown mid new more.0 more.1 right_new) more.2 fits_mid)

  -- what is in hand fits when answers were handed out
  pub handed_fits : {T State : Type 0} → (stands : R → Site → State → Told → ℕ → Type 0) (result : Result T FeedStop)
      (mid new : CoreView R Site) (held after : Option (List ℕ)) (in_hand : Option (RunView State))
      → AreRight (rules_of meaning new) (past_of new) → HandsOut meaning result mid new held after
      → Fits meaning stands mid 0 in_hand → Fits meaning stands new 0 in_hand
  handed_fits stands result mid new held after in_hand right out fits =
      let more = hands_entries result mid new held after out in
      subst (λ core. Fits meaning stands core 0 in_hand) (sym more.1)
      (fits_still meaning stands mid more.0 in_hand (right_grown mid new more.0 more.1 right) more.2 fits)

  -- what holds of the journal that has grown holds of the core
  grown_core : (old mid : CoreView R Site) (entries : List Entry) (items left : List Item) (clients : Clients)
      (before held : Option (List ℕ)) → mid ≡ grown old entries
      → IsGrown (rules_of meaning old) items (past_after (past_of old) entries) clients left before held
      → IsGrown (rules_of meaning mid) items (past_of mid) clients left before held
  grown_core old mid entries items left clients before held mid_is is =
      let at_grown : IsGrown (rules_of meaning old) items (past_of (grown old entries)) clients left before held =
      subst (λ past. IsGrown (rules_of meaning old) items past clients left before held)
      (sym (past_of_more old.journal entries)) is in
      subst (λ core. IsGrown (rules_of meaning core) items (past_of core) clients left before held) (sym mid_is)
      at_grown

  after_core : {T : Type 0} → (result : Result T FeedStop) (old mid new : CoreView R Site) (entries : List Entry)
      (items left : List Item)
      (clients : Clients) (before held after : Option (List ℕ)) → mid ≡ grown old entries
      → IsGrown (rules_of meaning old) items (past_after (past_of old) entries) clients left before held
      → IsOfWriting result → HandsOut meaning result mid new held after
      → After result (rules_of meaning old) items (past_of new) clients left before after
  after_core result old mid new entries items left clients before held after mid_is is of out =
      subst (λ core. After result (rules_of meaning core) items (past_of new) clients left before after) mid_is
      (handed_after meaning result mid new items left clients before held after
      (grown_core old mid entries items left clients before held mid_is is) of out)

  -- ---- an item comes

  pub come_lanes : (old mid : CoreView R Site) (entries : List Entry) (clients then_clients : Clients) (next : Item)
      → mid ≡ grown old entries → AddsItem (rules_of meaning old) (past_of old) clients next entries then_clients
      → IsOfOneLane (rules_of meaning old) (past_of old) → AreOfLane (past_of mid)
  come_lanes old mid entries clients then_clients next mid_is adds lane =
      subst AreOfLane (sym (ap past_of mid_is ∙ past_of_more old.journal entries))
      (item_stays (rules_of meaning old) (past_of old) entries clients then_clients next adds
      (stays_of (rules_of meaning old) (past_of old) lane)).lanes

  pub come_after : {T : Type 0} → (result : Result T FeedStop) (old mid new : CoreView R Site) (entries : List Entry)
      (items left : List Item) (clients then_clients : Clients) (next : Item) (before held after : Option (List ℕ))
      → mid ≡ grown old entries → AddsItem (rules_of meaning old) (past_of old) clients next entries then_clients
      → may_come (past_of old) (recorded.moment_of next) ≡ true
      → AreRight (rules_of meaning mid) (past_of mid) → IsAnswered (rules_of meaning mid) (past_of mid)
      → IsOfWriting result → HandsOut meaning result mid new held after
      → IsUnderWay (rules_of meaning old) items (past_of old) clients (next ∷ left) before held
      → After result (rules_of meaning old) items (past_of new) then_clients left before after
  come_after result old mid new entries items left clients then_clients next before held after mid_is adds may right
      answered of out is =
      after_core result old mid new entries items left then_clients before held after mid_is
      (come_grown (rules_of meaning old) items (past_of old) entries clients then_clients next left before held is
      (right_grown old mid entries mid_is right) (answered_grown old mid entries mid_is answered) may adds) of out

  -- an item did not come
  pub come_ends : (old mid : CoreView R Site) (items left : List Item) (clients : Clients) (next : Item)
      (before held : Option (List ℕ)) (ended : FeedStop) → mid ≡ old
      → may_come (past_of old) (recorded.moment_of next) ≡ true → HasStarted (rules_of meaning old) (past_of old)
      → ((full : Full) → ended ≡ stop.JournalFull full
      → IsItemTooMuch (rules_of meaning old) (past_of old) clients next full)
      → ((fail : Fail) → ended ≡ stop.StartFailed fail → ⊥)
      → IsUnderWay (rules_of meaning old) items (past_of old) clients (next ∷ left) before held
      → EndsSo (rules_of meaning old) items (past_of mid) ended before held
  come_ends old mid items left clients next before held ended same may started full not is =
      subst (λ core. EndsSo (rules_of meaning old) items (past_of core) ended before held) (sym same)
      (ends_here (rules_of meaning old) items (past_of old) clients (next ∷ left) before held ended is
      (item_cause (rules_of meaning old) items (past_of old) clients next ended started
      (next_is items (past_of old) clients next left may is.stands) full not))

  -- ---- the host stops

  pub stop_lanes : (old mid : CoreView R Site)
      → mid ≡ grown old (stop_entries (rules_of meaning old) (past_of old) 0)
      → IsOfOneLane (rules_of meaning old) (past_of old) → AreOfLane (past_of mid)
  stop_lanes old mid mid_is lane =
      let m = rules_of meaning old in
      let entries = stop_entries m (past_of old) 0 in
      subst AreOfLane (sym (ap past_of mid_is ∙ past_of_more old.journal entries))
      (stays_plain (past_of old) entries (plain_stopped m (past_of old)) (stays_of m (past_of old) lane)).lanes

  pub stop_after : {T : Type 0} → (result : Result T FeedStop) (old mid new : CoreView R Site) (items : List Item)
      (clients : Clients)
      (before held after : Option (List ℕ)) → mid ≡ grown old (stop_entries (rules_of meaning old) (past_of old) 0)
      → is_calm (past_of old) ≡ true → is_stopping (past_of old) ≡ false
      → AreRight (rules_of meaning mid) (past_of mid) → IsAnswered (rules_of meaning mid) (past_of mid)
      → IsOfWriting result → HandsOut meaning result mid new held after
      → IsUnderWay (rules_of meaning old) items (past_of old) clients [] before held
      → After result (rules_of meaning old) items (past_of new) clients [] before after
  stop_after result old mid new items clients before held after mid_is calm once right answered of out is =
      let entries = stop_entries (rules_of meaning old) (past_of old) 0 in
      after_core result old mid new entries items [] clients before held after mid_is
      (stop_grown (rules_of meaning old) items (past_of old) clients before held is
      (right_grown old mid entries mid_is right) (answered_grown old mid entries mid_is answered) calm once) of out

  -- the host did not stop
  pub stop_ends : (old mid : CoreView R Site) (items : List Item) (clients : Clients) (before held : Option (List ℕ))
      (ended : FeedStop) → mid ≡ old → is_calm (past_of old) ≡ true → is_stopping (past_of old) ≡ false
      → HasStarted (rules_of meaning old) (past_of old)
      → ((full : Full) → ended ≡ stop.JournalFull full
      → IsTooMuch (past_after (past_of old) (stop_entries (rules_of meaning old) (past_of old) 0)) full)
      → ((fail : Fail) → ended ≡ stop.StartFailed fail → ⊥)
      → IsUnderWay (rules_of meaning old) items (past_of old) clients [] before held
      → EndsSo (rules_of meaning old) items (past_of mid) ended before held
  stop_ends old mid items clients before held ended same calm once started full not is =
      subst (λ core. EndsSo (rules_of meaning old) items (past_of core) ended before held) (sym same)
      (ends_here (rules_of meaning old) items (past_of old) clients [] before held ended is
      (stop_cause (rules_of meaning old) items (past_of old) ended started (record {
        clients = clients;
        came = all_come items (past_of old) clients once is.stands;
        calm = calm;
      }) full not))

  -- ---- work

  -- work that came to no stop
  pub work_adds : (m : Rules) (past entries : List Entry) (t : TurnEnd)
      → ((ended : FeedStop) → turn_stop t ≡ Some ended → ⊥) → Works m past entries t → WorkAdds m past entries
  work_adds m past entries turn.Done none works = works
  work_adds m past entries turn.More none works = absurd works
  work_adds m past entries turn.Idle none works = absurd works
  work_adds m past entries (turn.JournalFull full) none works = absurd (none (stop.JournalFull full) refl)
  work_adds m past entries turn.Memory none works = absurd (none stop.Memory refl)

  pub work_lanes : (old mid : CoreView R Site) (entries : List Entry) → mid ≡ grown old entries
      → WorkAdds (rules_of meaning old) (past_of old) entries → IsOfOneLane (rules_of meaning old) (past_of old)
      → AreOfLane (past_of mid)
  work_lanes old mid entries mid_is adds lane =
      let m = rules_of meaning old in
      subst AreOfLane (sym (ap past_of mid_is ∙ past_of_more old.journal entries))
      (stays_worked m (past_of old) entries adds (stays_of m (past_of old) lane)).lanes

  pub work_after : {T : Type 0} → (result : Result T FeedStop) (old mid new : CoreView R Site) (entries : List Entry)
      (items left : List Item) (clients : Clients) (before held after : Option (List ℕ)) → mid ≡ grown old entries
      → WorkAdds (rules_of meaning old) (past_of old) entries
      → AreRight (rules_of meaning mid) (past_of mid) → IsAnswered (rules_of meaning mid) (past_of mid)
      → IsOfWriting result → HandsOut meaning result mid new held after
      → IsUnderWay (rules_of meaning old) items (past_of old) clients left before held → IsBusy (past_of old) left
      → After result (rules_of meaning old) items (past_of new) clients left before after
  work_after result old mid new entries items left clients before held after mid_is adds right answered of out is busy =
      after_core result old mid new entries items left clients before held after mid_is
      (work_grown (rules_of meaning old) items (past_of old) entries clients left before held is
      (right_grown old mid entries mid_is right) (answered_grown old mid entries mid_is answered) busy adds) of out
