-- How a host ends that serves.
use Rattle.std.proofs.Common.{◌≡◌, ◌⊎◌, ℕ, ◌==◌, Bool, true, false, if◌then◌else◌, List, [], ◌∷◌, ◌++◌, Option, None, Some, IfSome, All, length}
use Rattle.std.proofs.Common.{ap, arith, inl, inr, map, refl, reverse}
use Rattle.std.specs.List.{AllByRecursion, AllZip}
use Rattle.std.specs.Option.{option_or}
use Rattle.std.proofs.lemmas.List.Elements.{All-from_recursion, All-head, All-map, All-nil, All-push, All-same, All-tail, recursion_from_All}
use Rattle.std.proofs.lemmas.List.{reverse-append}
use Rattle.turn_desk.specs.Shown.{LaneFits, LaneView, new_lanes}
use Rattle.asp_core.specs.Kernel.{RunView}
use Rattle.asp_core.specs.Start.{start_fail}
use Rattle.asp_desk.specs.declared.worker.WorkerOf.{WorkerOf}
use Rattle.asp_desk.specs.Crews.{with_place}
use Rattle.asp_desk.specs.Hands.{Fixed, HandView, HostView, IsHandOf, rules_at}
use Rattle.asp_desk.specs.Opening.{first_journal, free_hand, new_hands}
use Rattle.asp_job.specs.declared.entry.EndKind.{EndKind}
use Rattle.asp_job.specs.declared.entry.EndKind.TheVariants as kind
use Rattle.asp_job.specs.declared.entry.Entry.{Entry}
use Rattle.asp_job.specs.declared.entry.What.{What}
use Rattle.asp_job.specs.declared.entry.What.TheVariants as what
use Rattle.asp_job.specs.Journal.{IsValidJournal}
use Rattle.asp_job.specs.Rules.{Rules}
use Rattle.asp_job.specs.Runs.{unfinished, waiting}
use Rattle.asp_job.specs.Told.{Meaning, Told}
use Rattle.asp_journal.specs.Telling.{end_kind, kind_in}
use Rattle.asp_serve.specs.declared.hosting.ServeStop.{ServeStop}
use Rattle.asp_serve.specs.declared.hosting.ServeStop.TheVariants as stop
use Rattle.asp_serve.specs.declared.visits.Early.{Early}
use Rattle.asp_serve.specs.declared.visits.Early.TheVariants as early
use Rattle.asp_serve.specs.Hosts.{HasWorked, IsStop, IsWhole, first_early, is_full_end, stop_of}
use Rattle.asp_serve.specs.Visits.{HasVisited, IsEarly, IsFreeHand, IsLater}
use Rattle.asp_serve.proofs.Visiting.{early_later}

-- ---- what is left undone

abbrev NotFull : Entry → Type 0
NotFull entry = is_full_end entry.what ≡ false

all_reverse : {X : Type 0} (P : X → Type 0) (xs : List X) → All P xs → All P (reverse xs)
all_reverse P [] all = All-nil P
all_reverse P (x ∷ xs) all =
    All-same P (reverse (x ∷ xs)) (reverse xs ++ x ∷ []) (reverse-append (x ∷ []) xs)
    (All-push P (reverse xs) x (all_reverse P xs (All-tail P x xs all)) (All-head P x xs all))

no_length : {X : Type 0} (xs : List X) → length xs ≡ 0 → xs ≡ []
no_length [] none = refl
no_length (x ∷ xs) none = absurd (omega (arith, none))

picked : (is : Bool) (k : EndKind) → (if is then Some k else None) ≡ Some kind.JournalFull → k ≡ kind.JournalFull
picked true k same = cc
picked false k same = absurd cc

kind_full : (r : ℕ) (w : What) → kind_in r w ≡ Some kind.JournalFull → is_full_end w ≡ false → ⊥
kind_full r (what.End run k status size made finished) is not =
    let same : k ≡ kind.JournalFull = picked (run == r) k is in
    let full : is_full_end (what.End run k status size made finished) ≡ true =
    ap (λ (k : EndKind). is_full_end (what.End run k status size made finished)) same in
    cc
kind_full r (what.Queue run work key) is not = let no : None ≡ Some kind.JournalFull = is in cc
kind_full r (what.Admit run key fresh job) is not = let no : None ≡ Some kind.JournalFull = is in cc
kind_full r (what.Refuse run job) is not = let no : None ≡ Some kind.JournalFull = is in cc
kind_full r (what.Tick moment) is not = let no : None ≡ Some kind.JournalFull = is in cc
kind_full r (what.Begin run serial) is not = let no : None ≡ Some kind.JournalFull = is in cc
kind_full r (what.App run call reply) is not = let no : None ≡ Some kind.JournalFull = is in cc
kind_full r (what.Take run) is not = let no : None ≡ Some kind.JournalFull = is in cc
kind_full r what.Stop is not = let no : None ≡ Some kind.JournalFull = is in cc
kind_full r what.Halt is not = let no : None ≡ Some kind.JournalFull = is in cc

either_is : (found rest : Option EndKind) (k : EndKind) → option_or found rest ≡ Some k
    → (found ≡ Some k) ⊎ (rest ≡ Some k)
either_is None rest k is = inr is
either_is (Some other) rest k is = inl is

none_ends : (run : ℕ) (past : List Entry) → AllByRecursion NotFull past → end_kind past run ≡ Some kind.JournalFull → ⊥
none_ends run [] all is = let no : None ≡ Some kind.JournalFull = is in cc
none_ends run (entry ∷ past) all is = elim (either_is (kind_in run entry.what) (end_kind past run) kind.JournalFull is) [
  | inl this ↦ kind_full run entry.what this all.0
  | inr rest ↦ none_ends run past all.1 rest
]

pub whole : (journal : List Entry) → length (waiting (reverse journal)) ≡ 0 → length (unfinished (reverse journal)) ≡ 0
    → All NotFull journal → IsWhole (reverse journal)
whole journal wait runs all = record {
  none_waits = no_length (waiting (reverse journal)) wait;
  none_runs = no_length (unfinished (reverse journal)) runs;
  none_full = λ run is.
      none_ends run (reverse journal) (recursion_from_All NotFull (reverse journal) (all_reverse NotFull journal all)) is;
}

-- ---- why a host ended

first_is : (Is : Early → Type 0) (made : List (Option Early)) → AllByRecursion (λ (one : Option Early). IfSome one Is) made
    → IfSome (first_early made) Is
first_is Is [] all = tt
first_is Is (None ∷ made) all = first_is Is made all.1
first_is Is (Some one ∷ made) all = all.0

module _ (fails : Type 0) (rules : Rules) where
  pub first_cause : (past : List Entry) (made : List (Option Early))
      → All (λ (one : Option Early). IfSome one (IsEarly fails rules past)) made
      → IfSome (first_early made) (IsEarly fails rules past)
  first_cause past made all = first_is (IsEarly fails rules past) made
      (recursion_from_All (λ (one : Option Early). IfSome one (IsEarly fails rules past)) made all)

  pub early_stops : (past : List Entry) → IsValidJournal rules past → start_fail rules past ≡ None → (one : Early)
      → IsEarly fails rules past one → IsStop fails rules (stop_of one)
  early_stops past valid started (early.JournalFull full) is =
      record { past = past; account = valid; started = started; much = is }
  early_stops past valid started early.AcceptFault is = is
  early_stops past valid started early.Memory is = tt

  pub stop_any : (why : ServeStop) → IsStop ⊥ rules why → IsStop fails rules why
  stop_any (stop.StartFailed fail) is = is
  stop_any (stop.JournalFull full) is = is
  stop_any stop.AcceptFault is = absurd is
  stop_any stop.Memory is = tt

-- ---- hands

module _ {R Site State : Type 0} (meaning : R → Site → Meaning) (stands : R → Site → State → Told → ℕ → Type 0)
    (host : HostView R Site) where
  abbrev Hand : Type 0
  Hand = HandView Entry (Fixed R Site) (RunView State)

  abbrev Worker : Type 0
  Worker = WorkerOf Hand (Option Early)

  free_by : (lanes : List (LaneView Entry (Fixed R Site)))
      → AllByRecursion (IsHandOf {State = State} meaning stands host) (map free_hand lanes)
      → AllByRecursion (IsFreeHand {State = State} meaning stands host) (map free_hand lanes)
  free_by [] all = tt
  free_by (lane ∷ lanes) all = ((all.0, refl), free_by lanes all.1)

  pub new_are_free : All (IsHandOf {State = State} meaning stands host) (new_hands host)
      → All (IsFreeHand {State = State} meaning stands host) (new_hands host)
  new_are_free all =
      let lanes = new_lanes (λ (entry : Entry). entry.lane) host.desk first_journal in
      All-from_recursion (IsFreeHand {State = State} meaning stands host) (map free_hand lanes)
      (free_by lanes (recursion_from_All (IsHandOf {State = State} meaning stands host) (map free_hand lanes) all))

  pub placed_are_free : (hands : List Hand) → All (IsFreeHand meaning stands host) hands
      → All (λ (worker : Worker). IsFreeHand meaning stands host worker.hand) (map (with_place None) hands)
  placed_are_free hands all =
      All-map (λ (worker : Worker). IsFreeHand meaning stands host worker.hand) (with_place None) hands all

  module _ (fails : Type 0) where
    pub have_worked : (olds news : List Worker) → AllZip (HasVisited meaning stands host fails) olds news
        → AllZip (HasWorked meaning stands host fails) (map (λ (worker : Worker). worker.hand) news)
        (map (λ (worker : Worker). worker.made) news)
    have_worked [] [] all = tt
    have_worked [] (new ∷ news) all = absurd all
    have_worked (old ∷ olds) [] all = absurd all
    have_worked (old ∷ olds) (new ∷ news) all =
        (record { free = all.0.hand; cause = all.0.ends.cause }, have_worked olds news all.1)

    lefts : (hands : List Hand) (made : List (Option Early)) → AllZip (HasWorked meaning stands host fails) hands made
        → AllByRecursion (IsHandOf meaning stands host) hands
    lefts [] made all = tt
    lefts (hand ∷ hands) [] all = absurd all
    lefts (hand ∷ hands) (one ∷ made) all = (all.0.free.0, lefts hands made all.1)

    pub hands_are : (hands : List Hand) (made : List (Option Early))
        → AllZip (HasWorked meaning stands host fails) hands made → All (IsHandOf meaning stands host) hands
    hands_are hands made all = All-from_recursion (IsHandOf meaning stands host) hands (lefts hands made all)

    -- what a worker has seen, the whole journal has
    later_cause : (journal : List Entry) (hand : Hand) (made : Option Early) → HasWorked meaning stands host fails hand made
        → LaneFits (λ (entry : Entry). entry.lane) journal hand.lane
        → IfSome made (IsEarly fails (rules_at meaning host) (reverse journal))
    later_cause journal hand made has fits =
        let whole : LaneView Entry (Fixed R Site) = record {
          desk = hand.lane.desk;
          number = hand.lane.number;
          seen = journal;
          own = hand.lane.own;
          fixed = hand.lane.fixed;
        } in
        let later : IsLater hand.lane whole = record { seen = fits.0; number = refl } in
        early_later fails (rules_at meaning host) hand.lane whole made later has.cause

    rights : (journal : List Entry) (hands : List Hand) (made : List (Option Early))
        → AllZip (HasWorked meaning stands host fails) hands made
        → AllByRecursion (λ (hand : Hand). LaneFits (λ (entry : Entry). entry.lane) journal hand.lane) hands
        → AllByRecursion (λ (one : Option Early). IfSome one (IsEarly fails (rules_at meaning host) (reverse journal))) made
    rights journal [] [] all fits = tt
    rights journal [] (one ∷ made) all fits = absurd all
    rights journal (hand ∷ hands) [] all fits = absurd all
    rights journal (hand ∷ hands) (one ∷ made) all fits =
        (later_cause journal hand one all.0 fits.0, rights journal hands made all.1 fits.1)

    pub causes : (journal : List Entry) (hands : List Hand) (made : List (Option Early))
        → AllZip (HasWorked meaning stands host fails) hands made
        → All (λ (hand : Hand). LaneFits (λ (entry : Entry). entry.lane) journal hand.lane) hands
        → All (λ (one : Option Early). IfSome one (IsEarly fails (rules_at meaning host) (reverse journal))) made
    causes journal hands made all fits =
        All-from_recursion (λ (one : Option Early). IfSome one (IsEarly fails (rules_at meaning host) (reverse journal))) made
        (rights journal hands made all
        (recursion_from_All (λ (hand : Hand). LaneFits (λ (entry : Entry). entry.lane) journal hand.lane) hands fits))
