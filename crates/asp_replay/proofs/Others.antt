-- What a lane's turn finds, where the other lanes only work.
use Rattle.std.proofs.Common.{◌≡◌, ◌⊎◌, ℕ, ◌==◌, true, false, List, [], ◌∷◌, ◌++◌, refl, ap, sym, ◌∙◌, subst}
use Rattle.std.proofs.Common.{append-nil, inl, inr, reverse}
use Rattle.std.proofs.lemmas.Bool.{cases_Bool, eq-eqb}
use Rattle.std.proofs.lemmas.List.{append_cancel_left}
use Rattle.std.proofs.lemmas.List.Elements.{filter-append}
use Rattle.turn_desk.specs.Histories.{BeginsWith, own_part}
use Rattle.turn_desk.specs.Shown.{HasOwn, LaneView}
use Rattle.asp_core.proofs.Kept.{past_of_more}
use Rattle.asp_core.specs.Kernel.{RunView}
use Rattle.asp_desk.specs.Calls.{AreWork, IsTurn, IsWork}
use Rattle.asp_desk.specs.Hands.{Fixed, HandView, HostView, IsHandOf}
use Rattle.asp_replay.specs.Adds.{AddsWork}
use Rattle.asp_replay.proofs.Adding.{begins_then}
use Rattle.asp_job.specs.declared.entry.Entry.{Entry}
use Rattle.asp_job.specs.Journal.{past_after}
use Rattle.asp_job.specs.Rules.{Rules}
use Rattle.asp_job.specs.Told.{Meaning, Told}
use Rattle.asp_replay.specs.Near.{HasWorked, IsBorneOut, IsLead, OthersWork}
use Rattle.asp_replay.proofs.Quiet.{borne_before, others_before}

abbrev pub lane_in : Entry → ℕ
lane_in entry = entry.lane

-- ---- the entries of other lanes

-- the last of the entries, oldest first, of a journal whose entries of other lanes are work
pub others_behind : (past entries : List Entry) → OthersWork (past_after past entries) → OthersWork entries
others_behind past [] others = tt
others_behind past (entry ∷ entries) others =
    ((others_before (entry ∷ past) entries others).0, others_behind (entry ∷ past) entries others)

first_work : (entry : Entry) (rest own : List Entry) → (entry.lane == 0) ≡ true → entry ∷ rest ≡ own → AreWork own
    → IsWork entry.what × AreWork rest
first_work entry rest own is same work = subst AreWork (sym same) work

other_work : (entry : Entry) → (entry.lane == 0) ≡ false → (entry.lane ≡ 0) ⊎ IsWork entry.what → IsWork entry.what
other_work entry other (inl zero) = absurd (let both : true ≡ false = sym (eq-eqb entry.lane 0 zero) ∙ other in cc)
other_work entry other (inr work) = work

-- they are work where lane 0's own are
pub all_work : (entries own : List Entry) → own_part lane_in 0 entries ≡ own → AreWork own → OthersWork entries
    → AreWork entries
all_work [] own same work others = tt
all_work (entry ∷ entries) own same work others = elim (cases_Bool (entry.lane == 0)) [
  | inl mine ↦ (let is : entry ∷ own_part lane_in 0 entries ≡ own = rw mine at same in
      let parts = first_work entry (own_part lane_in 0 entries) own mine is work in
      (parts.0, all_work entries (own_part lane_in 0 entries) refl parts.1 others.1))
  | inr other ↦ (
    other_work entry other others.0,
    all_work entries own (rw other at same) work others.1,
  )
]

-- ---- what lies between two moments of lane 0

more_own : {F : Type 0} → (a : LaneView Entry F) (whole : List Entry) (begins : BeginsWith whole a.seen)
    (own : List Entry) → HasOwn lane_in a → a.number ≡ 0 → own_part lane_in 0 whole ≡ a.own ++ own
    → own_part lane_in 0 begins.0 ≡ own
more_own a whole begins own has zero same =
    append_cancel_left a.own (own_part lane_in 0 begins.0) own
    (ap (λ part. part ++ own_part lane_in 0 begins.0) (has ∙ ap (λ n. own_part lane_in n a.seen) zero)
    ∙ sym (filter-append (λ (entry : Entry). entry.lane == 0) a.seen begins.0)
    ∙ sym (ap (own_part lane_in 0) begins.1) ∙ same)

-- where lane 0's own entries are work, all that came is
between_work : {F : Type 0} → (a : LaneView Entry F) (whole : List Entry) (begins : BeginsWith whole a.seen)
    → (own : List Entry) → HasOwn lane_in a → a.number ≡ 0 → own_part lane_in 0 whole ≡ a.own ++ own → AreWork own
    → OthersWork (reverse whole) → AreWork begins.0
between_work a whole begins own has zero same work others =
    let is : reverse whole ≡ past_after (reverse a.seen) begins.0 =
    ap reverse begins.1 ∙ past_of_more a.seen begins.0 in
    all_work begins.0 own (more_own a whole begins own has zero same) work
    (others_behind (reverse a.seen) begins.0 (subst OthersWork is others))

pub work_between : {F : Type 0} → (a : LaneView Entry F) (whole : List Entry) → BeginsWith whole a.seen
    → (own : List Entry) → HasOwn lane_in a → a.number ≡ 0 → own_part lane_in 0 whole ≡ a.own ++ own → AreWork own
    → OthersWork (reverse whole) → HasWorked (reverse a.seen) (reverse whole)
work_between a whole begins own has zero same work others = record {
  entries = begins.0;
  new_is = ap reverse begins.1 ∙ past_of_more a.seen begins.0;
  work = between_work a whole begins own has zero same work others;
}

-- what a turn of lane 0 finds
pub turn_found : {F A : Type 0} → (does : List Entry → A → List Entry → Type 0) (a b : LaneView Entry F) (answer : A)
    (turn : IsTurn does a answer b) → HasOwn lane_in a → a.number ≡ 0 → OthersWork (reverse turn.before)
    → HasWorked (reverse a.seen) (reverse turn.before)
turn_found does a b answer turn has zero others = work_between a turn.before turn.fits.0 [] has zero
    (ap (λ n. own_part lane_in n turn.before) (sym zero) ∙ turn.fits.1 ∙ sym (append-nil a.own)) tt others

-- what came while lane 0 worked
own_adds : {F : Type 0} → (a b : LaneView Entry F) (adds : AddsWork a b) → HasOwn lane_in a → a.number ≡ 0
    → own_part lane_in 0 b.seen ≡ a.own ++ adds.entries
own_adds a b adds has zero =
    ap (λ n. own_part lane_in n b.seen) (sym (adds.number ∙ zero)) ∙ sym (adds.keeps has) ∙ adds.own_is

pub later_work : {F : Type 0} → (a b : LaneView Entry F) (adds : AddsWork a b) → HasOwn lane_in a → a.number ≡ 0
    → OthersWork (reverse b.seen) → AreWork adds.later.0
later_work a b adds has zero others =
    between_work a b.seen adds.later adds.entries has zero (own_adds a b adds has zero) adds.work others

pub work_found : {F : Type 0} → (a b : LaneView Entry F) → AddsWork a b → HasOwn lane_in a → a.number ≡ 0
    → OthersWork (reverse b.seen) → HasWorked (reverse a.seen) (reverse b.seen)
work_found a b adds has zero others =
    work_between a b.seen adds.later adds.entries has zero (own_adds a b adds has zero) adds.work others

-- what is borne out after a turn was before it
pub turn_borne : {F A : Type 0} → (m : Rules) (does : List Entry → A → List Entry → Type 0) (a b : LaneView Entry F)
    (answer : A) → IsTurn does a answer b → IsBorneOut m (reverse b.seen) → IsBorneOut m (reverse a.seen)
turn_borne m does a b answer turn borne =
    let all = begins_then a.seen turn.before b.seen turn.fits.0 (turn.grows.0, turn.grows.1) in
    borne_before m (reverse a.seen) all.0
    (subst (IsBorneOut m) (ap reverse all.1 ∙ past_of_more a.seen all.0) borne)

-- ---- the hand

module _ {R Site State : Type 0} (meaning : R → Site → Meaning) (stands : R → Site → State → Told → ℕ → Type 0)
    (host : HostView R Site) where
  abbrev Hand : Type 0
  Hand = HandView Entry (Fixed R Site) (RunView State)

  -- it is lane 0's after a turn
  pub lead_turn : {A : Type 0} → (does : List Entry → A → List Entry → Type 0) (a b : Hand) (answer : A)
      → IsLead meaning stands host a → IsHandOf meaning stands host b → IsTurn does a.lane answer b.lane
      → IsLead meaning stands host b
  lead_turn does a b answer lead of turn = record {
    hand_of = of;
    number = turn.lane.1 ∙ lead.number;
    own = turn.own ∙ ap (λ n. own_part lane_in n b.lane.seen) (sym turn.lane.1);
  }

  -- and after work
  pub lead_work : (a b : Hand) → IsLead meaning stands host a → IsHandOf meaning stands host b
      → AddsWork a.lane b.lane → IsLead meaning stands host b
  lead_work a b lead of adds = record {
    hand_of = of;
    number = adds.number ∙ lead.number;
    own = adds.keeps lead.own;
  }
