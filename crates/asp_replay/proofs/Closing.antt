-- Once all hands are back: the lanes beside lane 0 have only worked. The hands of a new host, and what helpers come to.
use Rattle.std.proofs.Common.{◌≡◌, ◌⊎◌, ℕ, zero, suc, ◌<◌, ◌≤◌, ◌==◌, true, false, List, [], ◌∷◌, ◌++◌, All}
use Rattle.std.proofs.Common.{None, refl, ap, sym, ◌∙◌, subst, arith, inl, inr, length, map, reverse, take, drop, get_or}
use Rattle.std.specs.List.{AllByRecursion, AllZip}
use Rattle.std.proofs.lemmas.Bool.{cases_Bool, eq-eqb, eqb-true}
use Rattle.std.proofs.lemmas.List.Elements.{All-from_recursion, recursion_from_All}
use Rattle.turn_desk.specs.Histories.{AreOfLanes, own_part}
use Rattle.turn_desk.specs.Rule.{known}
use Rattle.turn_desk.specs.Shown.{LaneView, lane_view}
use Rattle.turn_desk.specs.Steps.{fresh_lanes}
use Rattle.asp_core.proofs.Kept.{past_of_more}
use Rattle.asp_core.specs.Kernel.{RunView}
use Rattle.asp_desk.specs.Calls.{AreWork, IsWork}
use Rattle.asp_desk.specs.Crews.{LoopsOn, with_place}
use Rattle.asp_desk.specs.declared.slices.Slice.{Slice}
use Rattle.asp_desk.specs.declared.slices.Slice.TheVariants as slice
use Rattle.asp_desk.specs.declared.worker.WorkerOf.{WorkerOf}
use Rattle.asp_desk.specs.Hands.{Fixed, HandView, HostView, IsHandOf, rules_at}
use Rattle.asp_desk.specs.Loops.{IsLast}
use Rattle.asp_desk.specs.Opening.{first_journal, free_hand}
use Rattle.asp_replay.proofs.Adding.{adds_none, loop_adds, slice_adds}
use Rattle.asp_job.specs.declared.entry.Entry.{Entry}
use Rattle.asp_job.specs.Journal.{past_after}
use Rattle.asp_job.specs.Running.{Pace}
use Rattle.asp_job.specs.Told.{Meaning, Told}
use Rattle.asp_journal.specs.declared.full.Full.{Full}
use Rattle.asp_replay.specs.Near.{IsLead, IsTooMuchHere, OthersWork}
use Rattle.asp_replay.specs.Workers.{HasHelped, IsIdle, MeetsEnd, MetFull}
use Rattle.asp_replay.proofs.Freeing.{looped_free}
use Rattle.asp_replay.proofs.Others.{lane_in}
use Rattle.asp_replay.proofs.SliceNear.{slice_much}
use Rattle.std.proofs.lemmas.List.{reverse-append}

-- ---- a journal whose lanes but lane 0 have work alone

abbrev pub AreTheirs : ℕ → List Entry → Type 0
AreTheirs count entries = (k : ℕ) → 0 < k → k < count → AreWork (own_part lane_in k entries)

tail_own : (k : ℕ) (entry : Entry) (entries : List Entry) → AreWork (own_part lane_in k (entry ∷ entries))
    → AreWork (own_part lane_in k entries)
tail_own k entry entries work = elim (cases_Bool (entry.lane == k)) [
  | inl own ↦ (let is : own_part lane_in k (entry ∷ entries) ≡ entry ∷ own_part lane_in k entries = rw own refl in
      (subst AreWork is work).1)
  | inr other ↦ (let is : own_part lane_in k (entry ∷ entries) ≡ own_part lane_in k entries = rw other refl in
      subst AreWork is work)
]

head_own : (entry : Entry) (entries : List Entry) → AreWork (own_part lane_in entry.lane (entry ∷ entries))
    → IsWork entry.what
head_own entry entries work =
    let own : (entry.lane == entry.lane) ≡ true = eq-eqb entry.lane entry.lane refl in
    let is : own_part lane_in entry.lane (entry ∷ entries) ≡ entry ∷ own_part lane_in entry.lane entries =
    rw own refl in
    (subst AreWork is work).0

positive : (n : ℕ) → (n == 0) ≡ false → 0 < n
positive zero e = absurd cc
positive (suc n) e = omega arith

one_other : (count : ℕ) (entry : Entry) (entries : List Entry) → entry.lane < count
    → AreTheirs count (entry ∷ entries) → (entry.lane ≡ 0) ⊎ IsWork entry.what
one_other count entry entries below theirs = elim (cases_Bool (entry.lane == 0)) [
  | inl own ↦ inl (eqb-true entry.lane 0 own)
  | inr not ↦ inr (head_own entry entries (theirs entry.lane (positive entry.lane not) below))
]

others_in : (count : ℕ) (entries : List Entry) → AllByRecursion (λ (entry : Entry). entry.lane < count) entries
    → AreTheirs count entries → OthersWork entries
others_in count [] below theirs = tt
others_in count (entry ∷ entries) below theirs = (
  one_other count entry entries below.0 theirs,
  others_in count entries below.1 (λ k some low. tail_own k entry entries (theirs k some low)),
)

others_after : (past entries : List Entry) → OthersWork past → OthersWork entries
    → OthersWork (past_after past entries)
others_after past [] before behind = before
others_after past (entry ∷ entries) before behind = others_after (entry ∷ past) entries (behind.0, before) behind.1

pub others_work : (count : ℕ) (journal : List Entry) → AreOfLanes lane_in count journal → AreTheirs count journal
    → OthersWork (reverse journal)
others_work count journal below theirs =
    subst OthersWork (sym (past_of_more [] journal))
    (others_after [] journal tt (others_in count journal
    (recursion_from_All (λ (entry : Entry). entry.lane < count) journal below) theirs))

-- ---- the hands of a new host

-- the first of a list, and the others
pub first_of : {A : Type 0} (xs : List A) (x : A) (rest : List A) → 1 ≤ length xs → x ≡ get_or xs 0 x
    → rest ≡ take 0 xs ++ drop 1 xs → xs ≡ x ∷ rest
first_of [] x rest some is behind = absurd (omega (arith, some))
first_of (first ∷ xs) x rest some is behind = ap (λ y. y ∷ xs) (sym is) ∙ ap (λ ys. x ∷ ys) (sym behind)

fresh_own : (k : ℕ) → 0 < k → own_part lane_in k first_journal ≡ []
fresh_own k some = elim (cases_Bool (0 == k)) [
  | inl own ↦ absurd (let same = eqb-true 0 k own in omega (arith, some, same))
  | inr other ↦ rw other refl
]

module _ {R Site State : Type 0} (meaning : R → Site → Meaning) (stands : R → Site → State → Told → ℕ → Type 0)
    (host : HostView R Site) where
  abbrev Hand : Type 0
  Hand = HandView Entry (Fixed R Site) (RunView State)

  abbrev Worker : Type 0
  Worker = WorkerOf Hand Slice

  -- the hands from this number on
  abbrev pub hands_from : ℕ → ℕ → List Hand
  hands_from number count = map free_hand (map (lane_view host.desk) (fresh_lanes lane_in first_journal number count))

  -- workers numbered from this number on, which have no entries yet
  abbrev pub AreFresh : ℕ → List Worker → Type 0
  AreFresh number [] = Unit {0}
  AreFresh number (worker ∷ workers) =
      (worker.hand.lane.number ≡ number) × (worker.hand.lane.own ≡ []) × AreFresh (suc number) workers

  pub fresh_from : (number count : ℕ) → 0 < number
      → AreFresh number (map (with_place slice.Idle) (hands_from number count))
  fresh_from number zero some = tt
  fresh_from number (suc count) some =
      (refl, fresh_own number some, fresh_from (suc number) count (omega (arith, some)))

  pub hands_many : (number count : ℕ) → length (hands_from number count) ≡ count
  hands_many number zero = refl
  hands_many number (suc count) = ap suc (hands_many (suc number) count)

  abbrev pub first_hand : Hand
  first_hand = free_hand (lane_view host.desk (known 0 first_journal (own_part lane_in 0 first_journal)))

  -- the first of the hands of a new host, and the others
  pub dealt_from : (count : ℕ) (hand : Hand) (rest : List Hand) → hands_from 0 count ≡ hand ∷ rest
      → (hand ≡ first_hand) × ((more : ℕ) × (rest ≡ hands_from 1 more))
  dealt_from zero hand rest is = absurd (let no : [] ≡ hand ∷ rest = is in cc)
  dealt_from (suc more) hand rest is =
      let both : first_hand ∷ hands_from 1 more ≡ hand ∷ rest = is in
      let head : first_hand ≡ hand = cc in
      let tail : hands_from 1 more ≡ rest = cc in
      (sym head, (more, sym tail))

  pub first_lead : (hand : Hand) → hand ≡ first_hand → IsHandOf meaning stands host hand
      → IsLead meaning stands host hand
  first_lead hand is of =
      subst (IsLead meaning stands host) (sym is)
      (record { hand_of = subst (IsHandOf meaning stands host) is of; number = refl; own = refl })

  pub first_seen : (hand : Hand) → hand ≡ first_hand → hand.lane.seen ≡ first_journal
  first_seen hand is = ap (λ (hand : Hand). hand.lane.seen) is

  pub fresh_rest : (rest : List Hand) (more : ℕ) → rest ≡ hands_from 1 more
      → AreFresh 1 (map (with_place slice.Idle) rest)
  fresh_rest rest more is =
      subst (λ (hands : List Hand). AreFresh 1 (map (with_place slice.Idle) hands)) (sym is)
      (fresh_from 1 more (omega arith))

  free_from : (number count : ℕ) → AllByRecursion (λ (hand : Hand). hand.run ≡ None) (hands_from number count)
  free_from number zero = tt
  free_from number (suc count) = (refl, free_from (suc number) count)

  idle_by : (rest : List Hand) → AllByRecursion (IsHandOf meaning stands host) rest
      → AllByRecursion (λ (hand : Hand). hand.run ≡ None) rest
      → AllByRecursion (IsIdle meaning stands host) (map (with_place slice.Idle) rest)
  idle_by [] of free = tt
  idle_by (hand ∷ rest) of free = ((of.0, free.0, refl), idle_by rest of.1 free.1)

  pub idle_rest : (hand : Hand) (rest : List Hand) (more : ℕ) → rest ≡ hands_from 1 more
      → All (IsHandOf meaning stands host) (hand ∷ rest)
      → All (IsIdle meaning stands host) (map (with_place slice.Idle) rest)
  idle_rest hand rest more is all =
      All-from_recursion (IsIdle meaning stands host) (map (with_place slice.Idle) rest)
      (idle_by rest (recursion_from_All (IsHandOf meaning stands host) (hand ∷ rest) all).1
      (subst (AllByRecursion (λ (hand : Hand). hand.run ≡ None)) (sym is) (free_from 1 more)))

  -- ---- helpers

  met_by : (lane : LaneView Entry (Fixed R Site)) (made : Slice) → made ≡ slice.Idle
      → MeetsEnd (rules_at meaning host) lane made
  met_by lane made is = subst (MeetsEnd (rules_at meaning host) lane) (sym is) tt

  pub idle_helped : (worker : Worker) → IsIdle meaning stands host worker → HasHelped meaning stands host worker worker
  idle_helped worker idle = record {
    hand = idle.0;
    free = idle.1;
    work = adds_none worker.hand.lane worker.hand.lane refl;
    ends = met_by worker.hand.lane worker.made idle.2;
  }

  module _ (pace : R → Pace) (may_hold : ℕ → Type 0) where
    last_met : (a b : Hand) (full : Full) → IsLast pace meaning stands host may_hold a (slice.JournalFull full) b
        → MetFull (rules_at meaning host) b.lane full
    last_met a b full (inl idle) = absurd (let is = idle.0 in cc)
    last_met a b full (inr (last, is)) =
        let much = slice_much pace meaning stands host may_hold a b full is in
        let number = (slice_adds pace meaning stands host may_hold a b (slice.JournalFull full) is).number in (
          reverse much.before,
          reverse much.earlier.0,
          ap reverse much.earlier.1 ∙ reverse-append much.before much.earlier.0,
          subst (λ n. IsTooMuchHere (rules_at meaning host) (reverse much.before) n full) (sym number) much.much,
        )

    made_met : (a b : Hand) (made : Slice) → IsLast pace meaning stands host may_hold a made b
        → MeetsEnd (rules_at meaning host) b.lane made
    made_met a b (slice.JournalFull full) is = last_met a b full is
    made_met a b slice.Memory is = tt
    made_met a b slice.Worked is = tt
    made_met a b slice.Idle is = tt
    made_met a b (slice.Blocked holder) is = tt
    made_met a b slice.Held is = tt

    pub loop_helped : (old new : Worker) → LoopsOn pace meaning stands may_hold host old new
        → HasHelped meaning stands host old new
    loop_helped old new loops = record {
      hand = loops.hand;
      free = looped_free pace meaning stands host may_hold old.hand new.hand new.made loops.hand loops.slices;
      work = loop_adds pace meaning stands host may_hold old.hand new.hand new.made loops.slices;
      ends = made_met loops.slices.mid new.hand new.made loops.slices.last;
    }

    pub all_helped : (olds news : List Worker) → AllZip (LoopsOn pace meaning stands may_hold host) olds news
        → AllZip (HasHelped meaning stands host) olds news
    all_helped [] [] all = tt
    all_helped [] (new ∷ news) all = absurd all
    all_helped (old ∷ olds) [] all = absurd all
    all_helped (old ∷ olds) (new ∷ news) all = (loop_helped old new all.0, all_helped olds news all.1)

  idles_helped : (workers : List Worker) → AllByRecursion (IsIdle meaning stands host) workers
      → AllZip (HasHelped meaning stands host) workers workers
  idles_helped [] all = tt
  idles_helped (worker ∷ workers) all = (idle_helped worker all.0, idles_helped workers all.1)

  pub none_helped : (workers : List Worker) → All (IsIdle meaning stands host) workers
      → AllZip (HasHelped meaning stands host) workers workers
  none_helped workers all = idles_helped workers (recursion_from_All (IsIdle meaning stands host) workers all)

  idle_hands : (workers : List Worker) → AllByRecursion (IsIdle meaning stands host) workers
      → AllByRecursion (λ (worker : Worker). IsHandOf meaning stands host worker.hand) workers
  idle_hands [] all = tt
  idle_hands (worker ∷ workers) all = (all.0.0, idle_hands workers all.1)

  pub idles_are : (workers : List Worker) → All (IsIdle meaning stands host) workers
      → All (λ (worker : Worker). IsHandOf meaning stands host worker.hand) workers
  idles_are workers all = All-from_recursion (λ (worker : Worker). IsHandOf meaning stands host worker.hand) workers
      (idle_hands workers (recursion_from_All (IsIdle meaning stands host) workers all))
