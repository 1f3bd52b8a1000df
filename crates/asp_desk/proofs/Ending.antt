-- Once all hands are back and hold no run, no run is unfinished.
use Rattle.std.proofs.Common.{◌≡◌, ℕ, zero, suc, ◌==◌, ◌<◌, ◌++◌, All, Bool, true, false, List, [], ◌∷◌, arith, ap, sym}
use Rattle.std.proofs.Common.{◌∙◌, filter, inl, inr, length, map, refl, reverse, slice_index_or, subst, Some, None}
use Rattle.std.proofs.lemmas.Bool.{cases_Bool}
use Rattle.std.proofs.lemmas.List.Elements.{All-head, All-tail}
use Rattle.turn_desk.specs.Histories.{AreOfLanes, own_part}
use Rattle.turn_desk.specs.Shown.{AreAll, HasOwn, LaneFits, LaneView}
use Rattle.asp_job.specs.declared.entry.Entry.{Entry}
use Rattle.asp_job.specs.declared.entry.Stage.TheVariants.{Ended, Waiting}
use Rattle.asp_job.specs.declared.entry.What.{What}
use Rattle.asp_job.specs.declared.entry.What.TheVariants.{Admit, App, Begin, End, Halt, Queue, Refuse, Stop, Take, Tick}
use Rattle.asp_job.specs.History.{run_in, with_lane}
use Rattle.asp_job.specs.Journal.{past_after}
use Rattle.asp_job.specs.Runs.{drawn, is_stage_unfinished, is_unfinished, lane_of, numbers, stage_of, unfinished}
use Rattle.asp_job.specs.Told.{Meaning, Told}
use Rattle.asp_job.specs.Turns.{IsRunning}
use Rattle.asp_journal.proofs.Others.{stage_other}
use Rattle.asp_core.specs.Kernel.{RunView}
use Rattle.asp_core.proofs.Kept.{past_of_more}
use Rattle.asp_core.proofs.Others.{lane_other}
use Rattle.asp_desk.specs.Hands.{Fixed, HandView, HostView, IsHandOf, held_number}
use Rattle.asp_desk.proofs.Running.{are_others, before_others}

-- ---- an unfinished run was begun by one of the lanes

module _ (count r : ℕ) where
  -- the run's Begin has the number of one of so many lanes
  abbrev IsBegun : List Entry → Type 0
  IsBegun past = (lane : ℕ) × (lane < count) × (lane_of past r ≡ Some lane)

  abbrev BegunIf : List Entry → Type 0
  BegunIf past = is_unfinished past r ≡ true → IsBegun past

  other_run : (past : List Entry) (lane : ℕ) (what : What) → (run_in what == r) ≡ false → BegunIf past
      → BegunIf (with_lane lane what ∷ past)
  other_run past lane what apart was busy =
      let begun = was (sym (ap is_stage_unfinished (stage_other past lane r what apart)) ∙ busy) in
      (begun.0, begun.1, lane_other past lane r what apart ∙ begun.2)

  begun_one : (past : List Entry) (lane : ℕ) (what : What) → lane < count → BegunIf past
      → BegunIf (with_lane lane what ∷ past)
  begun_one past lane (Queue run work key) low was busy = elim (cases_Bool (run == r)) [
    | inl own ↦ absurd (let stage : stage_of (with_lane lane (Queue run work key) ∷ past) r ≡ Waiting = rw own refl in
        let no : is_unfinished (with_lane lane (Queue run work key) ∷ past) r ≡ false = ap is_stage_unfinished stage in
        cc)
    | inr apart ↦ other_run past lane (Queue run work key) apart was busy
  ]
  begun_one past lane (Admit run key fresh job) low was busy = elim (cases_Bool (run == r)) [
    | inl own ↦ absurd (let stage : stage_of (with_lane lane (Admit run key fresh job) ∷ past) r ≡ Waiting = rw own
        refl in
        let no : is_unfinished (with_lane lane (Admit run key fresh job) ∷ past) r ≡ false =
        ap is_stage_unfinished stage in cc)
    | inr apart ↦ other_run past lane (Admit run key fresh job) apart was busy
  ]
  begun_one past lane (Refuse run job) low was busy = elim (cases_Bool (run == r)) [
    | inl own ↦ absurd (let stage : stage_of (with_lane lane (Refuse run job) ∷ past) r ≡ Ended = rw own refl in
        let no : is_unfinished (with_lane lane (Refuse run job) ∷ past) r ≡ false = ap is_stage_unfinished stage in cc)
    | inr apart ↦ other_run past lane (Refuse run job) apart was busy
  ]
  begun_one past lane (Tick moment) low was busy = was busy
  begun_one past lane (Begin run serial) low was busy = elim (cases_Bool (run == r)) [
    | inl own ↦ (lane, low, rw own refl)
    | inr apart ↦ other_run past lane (Begin run serial) apart was busy
  ]
  begun_one past lane (App run call reply) low was busy = was busy
  begun_one past lane (End run kind status size made finished) low was busy = elim (cases_Bool (run == r)) [
    | inl own ↦ absurd (let what = End run kind status size made finished in
        let stage : stage_of (with_lane lane what ∷ past) r ≡ Ended = rw own refl in
        let no : is_unfinished (with_lane lane what ∷ past) r ≡ false = ap is_stage_unfinished stage in cc)
    | inr apart ↦ other_run past lane (End run kind status size made finished) apart was busy
  ]
  begun_one past lane (Take run) low was busy = was busy
  begun_one past lane Stop low was busy = was busy
  begun_one past lane Halt low was busy = was busy

  begun_after : (past entries : List Entry) → All (λ (entry : Entry). entry.lane < count) entries → BegunIf past
      → BegunIf (past_after past entries)
  begun_after past [] below was = was
  begun_after past (entry ∷ entries) below was = begun_after (entry ∷ past) entries
      (All-tail (λ (one : Entry). one.lane < count) entry entries below)
      (begun_one past entry.lane entry.what (All-head (λ (one : Entry). one.lane < count) entry entries below) was)

  begun_by : (journal : List Entry) → AreOfLanes (λ (entry : Entry). entry.lane) count journal
      → BegunIf (reverse journal)
  begun_by journal below = subst BegunIf (sym (past_of_more [] journal))
      (begun_after [] journal below (λ busy. absurd (let yes : is_unfinished [] r ≡ true = busy in cc)))

filter_none : (p : ℕ → Bool) (xs : List ℕ) → ((r : ℕ) → p r ≡ false) → filter p xs ≡ []
filter_none p [] none = refl
filter_none p (x ∷ xs) none = rw (none x) (filter_none p xs none)

-- ---- hands that are back

module _ {R Site State : Type 0} (meaning : R → Site → Meaning) (stands : R → Site → State → Told → ℕ → Type 0)
    (host : HostView R Site) (journal : List Entry) where
  abbrev Lane : Type 0
  Lane = LaneView Entry (Fixed R Site)

  abbrev Hand : Type 0
  Hand = HandView Entry (Fixed R Site) (RunView State)

  -- a free hand that is back
  pub record IsBack (hand : Hand) : Type 0 where
    pub of_host : IsHandOf meaning stands host hand
    pub free : hand.run ≡ None
    pub own : HasOwn (λ (entry : Entry). entry.lane) hand.lane
    pub fits : LaneFits (λ (entry : Entry). entry.lane) journal hand.lane

  -- no run of its lane is unfinished
  none_of_lane : (hand : Hand) (r : ℕ) → IsBack hand → IsRunning (reverse journal) hand.lane.number r → ⊥
  none_of_lane hand r back running =
      let number = hand.lane.number in
      let seen = hand.lane.seen in
      let rest = back.fits.0.0 in
      let is : journal ≡ seen ++ rest = back.fits.0.1 in
      let own = own_part (λ (entry : Entry). entry.lane) number in
      let same : own (seen ++ rest) ≡ own seen = ap own (sym is) ∙ back.fits.1 ∙ back.own in
      let was = before_others (reverse seen) rest number r (are_others number seen rest same)
      (subst (λ past. IsRunning past number r) (ap reverse is ∙ past_of_more seen rest) running) in
      let held = back.of_host.1.alone r was in
      let free : held_number hand.run ≡ None = ap held_number back.free in
      cc

  hand_at : (hands : List Hand) (k : ℕ) (lane : Lane) → k < length (map (λ (hand : Hand). hand.lane) hands)
      → slice_index_or (map (λ (hand : Hand). hand.lane) hands) k lane ≡ lane → All IsBack hands
      → (hand : Hand) × (hand.lane ≡ lane) × IsBack hand
  hand_at [] k lane low is all = absurd (omega (arith, low))
  hand_at (hand ∷ hands) zero lane low is all = (hand, is, All-head IsBack hand hands all)
  hand_at (hand ∷ hands) (suc k) lane low is all =
      hand_at hands k lane (omega (arith, low)) is (All-tail IsBack hand hands all)

  none_of_any : (hands : List Hand) (count lane r : ℕ) → All IsBack hands
      → AreAll count (map (λ (hand : Hand). hand.lane) hands) → lane < count → IsRunning (reverse journal) lane r → ⊥
  none_of_any hands count lane r all each low running =
      let any = each lane low in
      let at = hand_at hands any.0 any.1 any.2 any.3 all in
      let number : at.0.lane.number ≡ lane = ap (λ (l : Lane). l.number) at.1 ∙ any.4 in
      none_of_lane at.0 r at.2 (subst (λ n. IsRunning (reverse journal) n r) (sym number) running)

  -- where all are back, no run is unfinished
  pub all_ended : (hands : List Hand) (count : ℕ) → All (IsHandOf meaning stands host) hands
      → All (λ (hand : Hand). hand.run ≡ None) hands
      → All (λ (hand : Hand). HasOwn (λ (entry : Entry). entry.lane) hand.lane) hands
      → All (λ (hand : Hand). LaneFits (λ (entry : Entry). entry.lane) journal hand.lane) hands
      → AreAll count (map (λ (hand : Hand). hand.lane) hands)
      → AreOfLanes (λ (entry : Entry). entry.lane) count journal → unfinished (reverse journal) ≡ []
  all_ended hands count are free own fit each below =
      let past = reverse journal in
      let back : All IsBack hands = λ k d low.
      record { of_host = are k d low; free = free k d low; own = own k d low; fits = fit k d low } in
      filter_none (is_unfinished past) (numbers (drawn past)) (λ r. elim (cases_Bool (is_unfinished past r)) [
        | inl busy ↦ absurd (let begun = begun_by count r journal below busy in
            none_of_any hands count begun.0 r back each begun.1
            (record { unfinished = busy; begun_by = begun.2 }))
        | inr idle ↦ idle
      ])
