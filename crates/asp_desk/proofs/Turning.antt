-- A call of the core in a turn is one turn of the lane, and leaves a hand of the host.
use Rattle.std.proofs.Common.{◌≡◌, ℕ, ◌<◌, ◌^◌, All, length, map, List, [], ◌∷◌, refl, ap, sym, ◌∙◌, subst, reverse}
use Rattle.std.proofs.Common.{Option, Some, IfSome}
use Rattle.std.proofs.lemmas.List.Elements.{All-cons, All-head, All-map, All-nil, All-tail}
use Rattle.turn_desk.specs.Histories.{GrowsBy, own_part}
use Rattle.turn_desk.specs.Shown.{DeskView, IsLaneOf, LaneFits, LaneView, TurnView}
use Rattle.asp_job.specs.declared.entry.Entry.{Entry}
use Rattle.asp_job.specs.Journal.{IsValidJournal}
use Rattle.asp_job.specs.Rules.{Rules}
use Rattle.asp_job.specs.Told.{Meaning, Told}
use Rattle.asp_core.specs.Kernel.{CoreView, RunView, rules_of}
use Rattle.asp_desk.specs.Calls.{AddsEvents, IsTurn}
use Rattle.asp_desk.specs.Hands.{Fixed, HandView, Holds, HostView, IsHandOf, IsSameHouse, IsUnderWay, core_at, fixed_of}
use Rattle.asp_desk.specs.Hands.{rules_at}
use Rattle.asp_desk.specs.Turns.{LeavesRuns}
use Rattle.asp_desk.proofs.Holding.{core_is, holds_after, holds_found}

-- what stays the same of a core stays the host's
pub fixed_is : {R Site : Type 0} (host : HostView R Site) (seen : List Entry) (core : CoreView R Site)
    (fixed : Option (Fixed R Site)) → IsSameHouse (core_at host seen) core
    → host.desk.fixed ≡ fixed_of host.runner host.site host.setting → fixed ≡ Some host.desk.fixed
    → Some (fixed_of core.runner core.site core.setting) ≡ fixed
fixed_is host seen core fixed same known is =
    let runner = same.runner in let site = same.site in let setting = same.setting in cc

-- a core of the same house with this journal
pub core_next : {R Site : Type 0} (host : HostView R Site) (seen after : List Entry) (core : CoreView R Site)
    → IsSameHouse (core_at host seen) core → after ≡ core.journal → core ≡ core_at host after
core_next host seen after core same is = core_is host core after (sym is) same.runner same.site same.setting

-- the core that a turn finds
pub found_is : {R Site : Type 0} (host : HostView R Site) (core : CoreView R Site) (seen : List Entry)
    → core.journal ≡ seen
    → fixed_of core.runner core.site core.setting ≡ fixed_of host.runner host.site host.setting
    → core ≡ core_at host seen
found_is host core seen journal fixed = core_is host core seen journal (ap (λ (f : Fixed _ _). f.0) fixed)
    (ap (λ (f : Fixed _ _). f.1) fixed) (ap (λ (f : Fixed _ _). f.2) fixed)

-- what a call leaves of the house that its turn found
pub house_found : {R Site : Type 0} (host : HostView R Site) (seen : List Entry) (core next : CoreView R Site)
    → core ≡ core_at host seen → IsSameHouse core next → IsSameHouse (core_at host seen) next
house_found host seen core next is same = subst (λ c. IsSameHouse c next) is same

module _ {R Site State : Type 0} where
  -- a fact of each hand's lane, said of the hands
  pub each_hand : (Fact : LaneView Entry (Fixed R Site) → Type 0)
      (hands : List (HandView Entry (Fixed R Site) (RunView State))) → All Fact (map (λ hand. hand.lane) hands)
      → All (λ hand. Fact hand.lane) hands
  each_hand Fact [] all = All-nil (λ hand. Fact hand.lane)
  each_hand Fact (hand ∷ hands) all = All-cons (λ one. Fact one.lane) hand hands
      (All-head Fact hand.lane (map (λ one. one.lane) hands) all)
      (each_hand Fact hands (All-tail Fact hand.lane (map (λ one. one.lane) hands) all))

  -- the lanes of a host's hands are its desk's
  pub lanes_are : (meaning : R → Site → Meaning) (stands : R → Site → State → Told → ℕ → Type 0)
      (desk : DeskView (Fixed R Site)) (host : HostView R Site)
      (hands : List (HandView Entry (Fixed R Site) (RunView State))) → desk ≡ host.desk
      → All (IsHandOf meaning stands host) hands → All (IsLaneOf desk) (map (λ hand. hand.lane) hands)
  lanes_are meaning stands desk host hands same are =
      subst (λ d. All (IsLaneOf d) (map (λ hand. hand.lane) hands)) (sym same)
      (All-map (IsLaneOf host.desk) (λ hand. hand.lane) hands (λ k d lt. (are k d lt).0))

module _ {R Site S : Type 0} (meaning : R → Site → Meaning) (host : HostView R Site)
    (old new : LaneView Entry (Fixed R Site)) (turn : TurnView S Entry (Fixed R Site)) (core next : CoreView R Site)
    (number : ℕ) where
  -- the call does in the turn what it does to the core
  pub one_turn : {A : Type 0} (does : Rules → ℕ → List Entry → A → List Entry → Type 0) (answer : A)
      → core ≡ core_at host turn.seen → (number ≡ old.number) × (turn.number ≡ old.number)
      → (turn.desk ≡ old.desk) × (turn.fixed ≡ old.fixed) → LaneFits (λ (entry : Entry). entry.lane) turn.seen old
      → does (rules_of meaning core) number core.journal answer next.journal
      → GrowsBy (λ (entry : Entry). entry.lane) number core.journal next.journal → new.seen ≡ next.journal
      → new.own ≡ own_part (λ (entry : Entry). entry.lane) turn.number next.journal
      → (new.desk ≡ turn.desk) × (new.number ≡ turn.number) × (new.fixed ≡ turn.fixed)
      → IsTurn (does (rules_at meaning host) old.number) old answer new
  one_turn does answer found numbers lane fits done grows seen_is own same = record {
    before = turn.seen;
    fits = fits;
    done = subst (λ after. does (rules_at meaning host) old.number turn.seen answer after) (sym seen_is)
        (subst (λ n. does (rules_at meaning host) n turn.seen answer next.journal) numbers.0
        (subst (λ c. does (rules_of meaning c) number c.journal answer next.journal) found done));
    grows = subst (λ after. GrowsBy (λ (entry : Entry). entry.lane) old.number turn.seen after) (sym seen_is)
        (subst (λ n. GrowsBy (λ (entry : Entry). entry.lane) n turn.seen next.journal) numbers.0
        (subst (λ (c : CoreView R Site). GrowsBy (λ (entry : Entry). entry.lane) number c.journal next.journal) found
        grows));
    own = own ∙ ap (λ n. own_part (λ (entry : Entry). entry.lane) n next.journal) numbers.1
        ∙ ap (λ xs. own_part (λ (entry : Entry). entry.lane) old.number xs) (sym seen_is);
    lane = (same.0 ∙ lane.0, same.1 ∙ numbers.1, same.2 ∙ lane.1);
  }

module _ {R Site State : Type 0} (meaning : R → Site → Meaning) (stands : R → Site → State → Told → ℕ → Type 0)
    (host : HostView R Site) (hand : HandView Entry (Fixed R Site) (RunView State)) where
  -- a lane that has seen this journal and holds what it holds there
  pub hand_is : (core : CoreView R Site) (number : ℕ) (held : Option (RunView State)) → IsLaneOf host.desk hand.lane
      → core ≡ core_at host hand.lane.seen → hand.lane.number ≡ number → hand.run ≡ held
      → Holds meaning stands core number held → IfSome held (λ run. IsUnderWay run.progress)
      → IsHandOf meaning stands host hand
  hand_is core number held lane found number_is run_is holds rests = (
    lane,
    subst (λ run. Holds meaning stands (core_at host hand.lane.seen) hand.lane.number run) (sym run_is)
        (subst (λ n. Holds meaning stands (core_at host hand.lane.seen) n held) (sym number_is)
        (subst (λ c. Holds meaning stands c number held) found holds)),
    subst (λ run. IfSome run (λ (one : RunView State). IsUnderWay one.progress)) (sym run_is) rests,
  )

  -- the same after a call that leaves runs as they are
  pub hand_after : (found : List Entry) (core : CoreView R Site) (number : ℕ) (held : Option (RunView State))
      → LeavesRuns meaning stands host number found core held → IsLaneOf host.desk hand.lane
      → hand.lane.seen ≡ core.journal → hand.lane.number ≡ number → hand.run ≡ held
      → IsHandOf meaning stands host hand
  hand_after found core number held leaves lane seen_is number_is run_is =
      hand_is (core_at host core.journal) number held lane (ap (core_at host) (sym seen_is)) number_is run_is
      (holds_after meaning stands host number held found core.journal leaves.adds leaves.valid leaves.holds)
      leaves.rests

module _ {R Site State : Type 0} (meaning : R → Site → Meaning) (stands : R → Site → State → Told → ℕ → Type 0)
    (host : HostView R Site) where
  -- what a lane holds, its turn finds
  pub open_holds : (lane own : LaneView Entry (Fixed R Site)) (held : Option (RunView State)) (found : List Entry)
      (core : CoreView R Site) → lane ≡ own → Holds meaning stands (core_at host lane.seen) lane.number held
      → own.own ≡ own_part (λ (entry : Entry). entry.lane) own.number own.seen
      → LaneFits (λ (entry : Entry). entry.lane) found own → core ≡ core_at host found
      → IsValidJournal (rules_of meaning core) (reverse core.journal)
      → Holds meaning stands (core_at host found) lane.number held
  open_holds lane own held found core is holds part fits core_is valid =
      subst (λ (l : LaneView Entry (Fixed R Site)). Holds meaning stands (core_at host found) l.number held) (sym is)
      (holds_found meaning stands host own.number held own.seen found own refl refl part fits
      (subst (λ c. IsValidJournal (rules_of meaning c) (reverse c.journal)) core_is valid)
      (subst (λ (l : LaneView Entry (Fixed R Site)). Holds meaning stands (core_at host l.seen) l.number held) is
      holds))

  -- a call that leaves runs as they are, in a turn
  pub leaves_runs : (number lane old : ℕ) (found : List Entry) (core next : CoreView R Site)
      (held now : Option (RunView State)) → core ≡ core_at host found → (lane ≡ old) × (number ≡ old)
      → AddsEvents lane core.journal next.journal → IsSameHouse core next
      → IsValidJournal (rules_of meaning core) (reverse next.journal) → length next.journal < 2 ^ 32
      → Holds meaning stands (core_at host found) old held → IfSome held (λ run. IsUnderWay run.progress)
      → now ≡ held → LeavesRuns meaning stands host number found next now
  leaves_runs number lane old found core next held now is numbers adds same valid short holds rests now_is = record {
    house = house_found host found core next is same;
    adds = subst (λ n. AddsEvents n found next.journal) (numbers.0 ∙ sym numbers.1)
        (subst (λ (c : CoreView R Site). AddsEvents lane c.journal next.journal) is adds);
    valid = subst (λ c. IsValidJournal (rules_of meaning c) (reverse next.journal)) is valid;
    short = short;
    holds = subst (λ n. Holds meaning stands (core_at host found) n now) (sym numbers.1)
        (subst (λ h. Holds meaning stands (core_at host found) old h) (sym now_is) holds);
    rests = subst (λ h. IfSome h (λ (run : RunView State). IsUnderWay run.progress)) (sym now_is) rests;
  }

  -- the same of what a run's begin or step needs
  pub holds_at : (core : CoreView R Site) (found : List Entry) (lane old : ℕ) (held now : Option (RunView State))
      → core ≡ core_at host found → lane ≡ old → held ≡ now → Holds meaning stands (core_at host found) old held
      → Holds meaning stands core lane now
  holds_at core found lane old held now is lane_is now_is holds =
      subst (λ c. Holds meaning stands c lane now) (sym is)
      (subst (λ n. Holds meaning stands (core_at host found) n now) (sym lane_is)
      (subst (λ h. Holds meaning stands (core_at host found) old h) now_is holds))

  pub grows_found : (number lane old : ℕ) (found : List Entry) (core next : CoreView R Site)
      → core ≡ core_at host found → (lane ≡ old) × (number ≡ old)
      → GrowsBy (λ (entry : Entry). entry.lane) lane core.journal next.journal
      → GrowsBy (λ (entry : Entry). entry.lane) number found next.journal
  grows_found number lane old found core next is numbers grows =
      subst (λ n. GrowsBy (λ (entry : Entry). entry.lane) n found next.journal) (numbers.0 ∙ sym numbers.1)
      (subst (λ (c : CoreView R Site). GrowsBy (λ (entry : Entry). entry.lane) lane c.journal next.journal) is grows)
