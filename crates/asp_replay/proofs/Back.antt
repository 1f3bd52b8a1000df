-- The hands that are back: those beside lane 0 have only worked, and what lane 0 left holds of the whole journal.
use Rattle.std.proofs.Common.{◌≡◌, ℕ, suc, ◌+◌, ◌<◌, ◌≤◌, List, [], ◌∷◌, ◌++◌, All, Option}
use Rattle.std.proofs.Common.{None, Result, refl, ap, sym, ◌∙◌, subst, arith, inl, inr, length, map, reverse, length-append}
use Rattle.std.proofs.Common.{append-nil, append_assoc, IfSome}
use Rattle.std.specs.List.{AllByRecursion, AllZip}
use Rattle.std.specs.Option.{option_or}
use Rattle.std.proofs.lemmas.Bool.{cases_lt}
use Rattle.std.proofs.lemmas.List.Elements.{All-from_recursion, recursion_from_All}
use Rattle.turn_desk.specs.Histories.{AreOfLanes, own_part}
use Rattle.turn_desk.specs.Shown.{HasOwn, LaneFits, LaneView}
use Rattle.asp_core.specs.Kernel.{RunView}
use Rattle.asp_core.specs.Ready.{IsAnswered}
use Rattle.asp_desk.specs.Calls.{AreWork}
use Rattle.asp_desk.specs.Crews.{with_place}
use Rattle.asp_desk.specs.declared.slices.Slice.{Slice}
use Rattle.asp_desk.specs.declared.slices.Slice.TheVariants as slice
use Rattle.asp_desk.specs.declared.worker.WorkerOf.{WorkerOf}
use Rattle.asp_desk.specs.Hands.{Fixed, HandView, HostView, IsHandOf, rules_at}
use Rattle.asp_job.specs.declared.entry.Entry.{Entry}
use Rattle.asp_job.specs.Journal.{AreRight}
use Rattle.asp_job.specs.Rules.{Rules}
use Rattle.asp_job.specs.Told.{Meaning, Told}
use Rattle.asp_journal.specs.declared.full.Full.{Full}
use Rattle.asp_record.specs.declared.recording.Item.{Item}
use Rattle.asp_replay.specs.declared.stop.FeedStop.{FeedStop}
use Rattle.asp_replay.specs.Near.{HasWorked, IsBorneOut, IsLead, IsTooMuchHere, LeavesBy}
use Rattle.asp_replay.specs.declared.stop.FeedStop.TheVariants as stop
use Rattle.asp_replay.specs.Workers.{HasHelped, IsEarly, MeetsEnd, MetFull, first_stop, stop_of}
use Rattle.asp_replay.proofs.Endings.{leaves_whole}
use Rattle.asp_replay.proofs.LeftNear.{borne_silent, worked_silent}
use Rattle.asp_replay.proofs.Others.{lane_in, work_between}
use Rattle.std.proofs.lemmas.List.{reverse-append}
use Rattle.asp_replay.proofs.Closing.{AreFresh, others_work}

module _ {R Site State : Type 0} (meaning : R → Site → Meaning) (stands : R → Site → State → Told → ℕ → Type 0)
    (host : HostView R Site) where
  abbrev Hand : Type 0
  Hand = HandView Entry (Fixed R Site) (RunView State)

  abbrev Worker : Type 0
  Worker = WorkerOf Hand Slice

  -- ---- hands that are back

  -- numbered from this number on; their own entries are work
  abbrev AreHelpers : ℕ → List Hand → Type 0
  AreHelpers number [] = Unit {0}
  AreHelpers number (hand ∷ hands) =
      (hand.lane.number ≡ number) × AreWork hand.lane.own × AreHelpers (suc number) hands

  pub helpers : (number : ℕ) (olds news : List Worker) → AreFresh meaning stands host number olds
      → AllZip (HasHelped meaning stands host) olds news
      → AreHelpers number (map (λ (worker : Worker). worker.hand) news)
  helpers number [] [] fresh all = tt
  helpers number [] (new ∷ news) fresh all = absurd all
  helpers number (old ∷ olds) [] fresh all = absurd all
  helpers number (old ∷ olds) (new ∷ news) fresh all = (
    all.0.work.number ∙ fresh.0,
    subst AreWork (sym (all.0.work.own_is ∙ ap (λ own. own ++ all.0.work.entries) fresh.1)) all.0.work.work,
    helpers (suc number) olds news fresh.2 all.1,
  )

  helped_are : (olds news : List Worker) → AllZip (HasHelped meaning stands host) olds news
      → AllByRecursion (IsHandOf meaning stands host) (map (λ (worker : Worker). worker.hand) news)
  helped_are [] [] all = tt
  helped_are [] (new ∷ news) all = absurd all
  helped_are (old ∷ olds) [] all = absurd all
  helped_are (old ∷ olds) (new ∷ news) all = (all.0.hand, helped_are olds news all.1)

  helped_free : (olds news : List Worker) → AllZip (HasHelped meaning stands host) olds news
      → AllByRecursion (λ (hand : Hand). hand.run ≡ None) (map (λ (worker : Worker). worker.hand) news)
  helped_free [] [] all = tt
  helped_free [] (new ∷ news) all = absurd all
  helped_free (old ∷ olds) [] all = absurd all
  helped_free (old ∷ olds) (new ∷ news) all = (all.0.free, helped_free olds news all.1)

  helped_many : (olds news : List Worker) → AllZip (HasHelped meaning stands host) olds news → length news ≡ length olds
  helped_many [] [] all = refl
  helped_many [] (new ∷ news) all = absurd all
  helped_many (old ∷ olds) [] all = absurd all
  helped_many (old ∷ olds) (new ∷ news) all = ap suc (helped_many olds news all.1)

  theirs_by : (journal : List Entry) (hands : List Hand) (from : ℕ) → AreHelpers from hands
      → AllByRecursion (λ (hand : Hand). LaneFits lane_in journal hand.lane) hands → (k : ℕ) → from ≤ k
      → k < from + length hands → AreWork (own_part lane_in k journal)
  theirs_by journal [] from are fits k low high = absurd (omega (arith, low, high))
  theirs_by journal (hand ∷ hands) from are fits k low high = elim (cases_lt from k) [
    | inl later ↦ theirs_by journal hands (suc from) are.2 fits.1 k (omega (arith, later)) (omega (arith, high))
    | inr here ↦ (let at : from ≡ k = omega (arith, low, here) in
        let same : k ≡ hand.lane.number = sym at ∙ sym are.0 in
        subst AreWork (sym (ap (λ n. own_part lane_in n journal) same ∙ fits.0.1)) are.1)
  ]

  -- ---- all are back, lane 0's hand last

  abbrev pub hands_in : List Worker → List Hand
  hands_in workers = map (λ (worker : Worker). worker.hand) workers

  last_by : (P : Hand → Type 0) (hands : List Hand) (hand : Hand) → AllByRecursion P hands → P hand
      → AllByRecursion P (hands ++ hand ∷ [])
  last_by P [] hand all last = (last, tt)
  last_by P (first ∷ hands) hand all last = (all.0, last_by P hands hand all.1 last)

  by_last : (P : Hand → Type 0) (hands : List Hand) (hand : Hand) → AllByRecursion P (hands ++ hand ∷ [])
      → AllByRecursion P hands × P hand
  by_last P [] hand all = (tt, all.0)
  by_last P (first ∷ hands) hand all = (let rest = by_last P hands hand all.1 in ((all.0, rest.0), rest.1))

  pub back_are : (hand : Hand) (olds news : List Worker) → IsHandOf meaning stands host hand
      → AllZip (HasHelped meaning stands host) olds news
      → All (IsHandOf meaning stands host) (hands_in news ++ hand ∷ [])
  back_are hand olds news of all = All-from_recursion (IsHandOf meaning stands host) (hands_in news ++ hand ∷ [])
      (last_by (IsHandOf meaning stands host) (hands_in news) hand (helped_are olds news all) of)

  pub back_free : (hand : Hand) (olds news : List Worker) → hand.run ≡ None
      → AllZip (HasHelped meaning stands host) olds news
      → All (λ (hand : Hand). hand.run ≡ None) (hands_in news ++ hand ∷ [])
  back_free hand olds news free all =
      All-from_recursion (λ (hand : Hand). hand.run ≡ None) (hands_in news ++ hand ∷ [])
      (last_by (λ (hand : Hand). hand.run ≡ None) (hands_in news) hand (helped_free olds news all) free)

  mapped : (news : List Worker) → length (hands_in news) ≡ length news
  mapped [] = refl
  mapped (new ∷ news) = ap suc (mapped news)

  placed : (hands : List Hand) → length (map (with_place {T = Slice} slice.Idle) hands) ≡ length hands
  placed [] = refl
  placed (hand ∷ hands) = ap suc (placed hands)

  -- as many as there were
  pub many_in : (rest : List Hand) (news : List Worker)
      → AllZip (HasHelped meaning stands host) (map (with_place slice.Idle) rest) news
      → length (hands_in news) ≡ length rest
  many_in rest news all = mapped news ∙ helped_many (map (with_place slice.Idle) rest) news all ∙ placed rest

  pub back_many : (hand : Hand) (rest : List Hand) (news : List Worker)
      → AllZip (HasHelped meaning stands host) (map (with_place slice.Idle) rest) news
      → length (hands_in news ++ hand ∷ []) ≡ length (hand ∷ rest)
  back_many hand rest news all =
      let many = many_in rest news all in
      let behind = length-append (hands_in news) (hand ∷ []) in
      let one : length (hand ∷ rest) ≡ suc (length rest) = refl in
      omega (arith, many, behind, one)

  module _ (journal : List Entry) (hand : Hand) (olds news : List Worker) (count : ℕ)
      (fits : All (λ (hand : Hand). LaneFits lane_in journal hand.lane) (hands_in news ++ hand ∷ []))
      (many : length (hands_in news ++ hand ∷ []) ≡ count)
      (below : AreOfLanes lane_in count journal) (fresh : AreFresh meaning stands host 1 olds)
      (all : AllZip (HasHelped meaning stands host) olds news) where
    each : AllByRecursion (λ (hand : Hand). LaneFits lane_in journal hand.lane) (hands_in news)
        × LaneFits lane_in journal hand.lane
    each = by_last (λ (hand : Hand). LaneFits lane_in journal hand.lane) (hands_in news) hand
        (recursion_from_All (λ (hand : Hand). LaneFits lane_in journal hand.lane) (hands_in news ++ hand ∷ []) fits)

    pub borne_whole : (m : Rules) → IsAnswered m (reverse journal) → IsBorneOut m (reverse journal)
    borne_whole m answered = record {
      others = others_work count journal below (λ k some low.
          theirs_by journal (hands_in news) 1 (helpers 1 olds news fresh all) each.0 k some
          (let behind = length-append (hands_in news) (hand ∷ []) in omega (arith, low, many, behind)));
      answered = answered;
    }

    pub worked_whole : (m : Rules) → IsAnswered m (reverse journal) → HasOwn lane_in hand.lane → hand.lane.number ≡ 0
        → HasWorked (reverse hand.lane.seen) (reverse journal)
    worked_whole m answered own lead =
        work_between hand.lane journal each.1.0 [] own lead
        (ap (λ n. own_part lane_in n journal) (sym lead) ∙ each.1.1 ∙ sym (append-nil hand.lane.own)) tt
        (borne_whole m answered).others

    -- what lane 0 left so holds of the whole journal
    pub closed_leaves : (m : Rules) (items : List Item) (told : Result (Unit {0}) FeedStop) (before after : Option (List ℕ))
        → IsAnswered m (reverse journal) → AreRight m (reverse journal) → IsLead meaning stands host hand
        → (IsBorneOut m (reverse hand.lane.seen) → LeavesBy told m items (reverse hand.lane.seen) before after)
        → LeavesBy told m items (reverse journal) before after
    closed_leaves m items told before after answered right lead leaves =
        let worked = worked_whole m answered lead.own lead.number in
        let seen = reverse hand.lane.seen in
        leaves_whole m items told seen (reverse journal) before after worked right
        (leaves (borne_silent m seen (reverse journal) (worked_silent seen (reverse journal) worked)
        (borne_whole m answered)))

  -- ---- what another lane ended early for

  met_later : (m : Rules) (count number : ℕ) (journal : List Entry) (lane : LaneView Entry (Fixed R Site)) (full : Full)
      → 0 < number → number < count → lane.number ≡ number → LaneFits lane_in journal lane → MetFull m lane full
      → IsEarly count m (reverse journal) (stop.JournalFull full)
  met_later m count number journal lane full some low same fits met =
      let rest = fits.0.0 in (
        number,
        some,
        low,
        met.0,
        reverse rest ++ met.1,
        ap reverse fits.0.1 ∙ reverse-append lane.seen rest ∙ ap (λ past. reverse rest ++ past) met.2
            ∙ sym (append_assoc (reverse rest) met.1 met.0),
        subst (λ n. IsTooMuchHere m met.0 n full) same met.3,
      )

  or_met : (P : FeedStop → Type 0) (made : Slice) (rest : Option FeedStop)
      → ((full : Full) → made ≡ slice.JournalFull full → P (stop.JournalFull full)) → P stop.Memory → IfSome rest P
      → IfSome (option_or (stop_of made) rest) P
  or_met P (slice.JournalFull full) rest full_is memory others = full_is full refl
  or_met P slice.Memory rest full_is memory others = memory
  or_met P slice.Worked rest full_is memory others = others
  or_met P slice.Idle rest full_is memory others = others
  or_met P (slice.Blocked holder) rest full_is memory others = others
  or_met P slice.Held rest full_is memory others = others

  met_in : (count number : ℕ) (journal : List Entry) (olds news : List Worker) → 0 < number
      → number + length news ≤ count → AreFresh meaning stands host number olds
      → AllZip (HasHelped meaning stands host) olds news
      → AllByRecursion (λ (hand : Hand). LaneFits lane_in journal hand.lane) (hands_in news)
      → IfSome (first_stop (map (λ (worker : Worker). worker.made) news))
      (IsEarly count (rules_at meaning host) (reverse journal))
  met_in count number journal [] [] some low fresh all fits = tt
  met_in count number journal [] (new ∷ news) some low fresh all fits = absurd all
  met_in count number journal (old ∷ olds) [] some low fresh all fits = absurd all
  met_in count number journal (old ∷ olds) (new ∷ news) some low fresh all fits =
      let m = rules_at meaning host in
      let more : length (new ∷ news) ≡ suc (length news) = refl in
      or_met (IsEarly count m (reverse journal)) new.made (first_stop (map (λ (worker : Worker). worker.made) news))
      (λ full is. met_later m count number journal new.hand.lane full some (omega (arith, low, more))
      (all.0.work.number ∙ fresh.0) fits.0 (subst (MeetsEnd m new.hand.lane) is all.0.ends)) tt
      (met_in count (suc number) journal olds news (omega (arith, some)) (omega (arith, low, more)) fresh.2 all.1 fits.1)

  pub early_met : (journal : List Entry) (hand : Hand) (olds news : List Worker) (count : ℕ)
      → All (λ (hand : Hand). LaneFits lane_in journal hand.lane) (hands_in news ++ hand ∷ [])
      → length (hands_in news ++ hand ∷ []) ≡ count → AreFresh meaning stands host 1 olds
      → AllZip (HasHelped meaning stands host) olds news
      → IfSome (first_stop (map (λ (worker : Worker). worker.made) news))
      (IsEarly count (rules_at meaning host) (reverse journal))
  early_met journal hand olds news count fits many fresh all =
      let each = (by_last (λ (hand : Hand). LaneFits lane_in journal hand.lane) (hands_in news) hand
      (recursion_from_All (λ (hand : Hand). LaneFits lane_in journal hand.lane) (hands_in news ++ hand ∷ []) fits)).0 in
      let behind = length-append (hands_in news) (hand ∷ []) in
      let same = mapped news in
      met_in count 1 journal olds news (omega arith) (omega (arith, many, behind, same)) fresh all each
