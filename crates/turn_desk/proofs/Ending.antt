-- At the end the state is at home.
use Rattle.std.proofs.Common.{◌≡◌, ℕ, List, [], ◌∷◌, sym, ap, ◌∙◌, subst, arith, Option, ◌≢◌, ◌<◌, ◌≤◌, Some, length}
use Rattle.std.proofs.Common.{⊎_elim}
use lib.ListN.{get_elem?}
use mathlib.Core.Option.{some, none, some-injective}
use Rattle.atomic_table.specs.Table.{Me, State, Final, Seen}
use Rattle.turn_desk.specs.declared.view.Known.{Known}
use Rattle.turn_desk.specs.declared.view.Stage.TheVariants.{Idle}
use Rattle.turn_desk.specs.declared.view.View.{View}
use Rattle.turn_desk.specs.Histories.{total, Every, AreOfLanes}
use Rattle.turn_desk.specs.Rule.{IsServing, one_where, times_seated, view, KnownFits, IsOrderly}
use Rattle.turn_desk.specs.Steps.{IsAtRest}
use Rattle.turn_desk.proofs.Parts.{one_below-yes, one_where_le}
use Rattle.turn_desk.proofs.Stages.{Some_is, serving_lane}
use Rattle.turn_desk.proofs.Totals.{terms_le, total-of_one}

seated_few : {E : Type 0} (number : ℕ) (lanes : List (Known E))
    → total (λ (l : Known E). one_where l.number number) lanes ≤ length lanes
seated_few number [] = omega arith
seated_few number (l ∷ ls) = omega (arith, one_where_le l.number number, seated_few number ls)

module _ {S E F : Type 0} (lane_of : E → ℕ) (entries : S → List E) (fixed : S → F) (count : ℕ) (part : F) where
  abbrev Rule : State (Option S) (View E F) → Type 0
  Rule = IsOrderly lane_of entries fixed count part

  -- the state at the end, with what each lane knows of it
  abbrev pub Home : List (Known E) → S → Type 0
  Home lanes state = Every (KnownFits lane_of entries fixed (entries state)) lanes
      × AreOfLanes lane_of count (entries state) × (length (entries state) < 4294967296) × (fixed state ≡ part)

  -- where one seat has all lanes and no ticket, the state is at home
  pub ends : (id : ℕ) (lanes : List (Known E)) (f : Option F) (ws : List ℕ) (xs : List (Option S))
      → length lanes ≡ count → Final (Seen Rule id (view lanes Idle f)) ws xs
      → (state : S) × (get_elem? xs 0 ≡ some (Some state)) × Home lanes state
  ends id lanes f ws xs all final =
      let s = final.0 in
      let o = final.1.0 in
      let me = final.1.1 in
      let v : View E F = view lanes Idle f in
      let mine = o.views id v me in
      ⊎_elim
      (λ (t : (state : S) × (s.homes ≡ some (Some state) ∷ []) × (entries state ≡ o.history)
      × (fixed state ≡ part)). (
        t.0,
        final.4 0 (Some t.0) (ap (λ (hs : List _). get_elem? hs 0) t.1),
        subst (λ h. Every (KnownFits lane_of entries fixed h) lanes × AreOfLanes lane_of count h
            × (length h < 4294967296) × (fixed t.0 ≡ part)) (sym t.2) (mine.1, o.of_lanes, o.short, t.3),
      ))
      (λ (t : (s.homes ≡ none ∷ []) × ((j : ℕ) × (u : View E F) × (get_elem? s.views j ≡ some u)
      × IsServing u.stage)).
      let apart : t.1.0 ≢ id = λ e. subst (λ (x : View E F). IsServing x.stage)
      (some-injective t.1.1 v (sym t.1.2 ∙ (ap (λ j. get_elem? s.views j) e ∙ me))) t.1.3 in
      let lane = serving_lane o.drawn o.served o.history t.1.1.lanes t.1.1.stage (o.views t.1.0 t.1.1 t.1.2).2 t.1.3
      in
      absurd (omega (
        arith,
        lane,
        all,
        o.lanes,
        terms_le (λ (u : View E F). length u.lanes) s.views id t.1.0 v t.1.1
            apart me t.1.2,
      )))
      o.state

  -- what came out of the closed table's slot
  pub ends_as : (id : ℕ) (m : Me (Option S) (View E F)) (ws : List ℕ) (xs : List (Option S)) (out : Option S)
      → IsAtRest m → length m.0.lanes ≡ count → Final (Seen Rule id m.0) ws xs → get_elem? xs 0 ≡ some out
      → (state : S) × (out ≡ Some state) × Home m.0.lanes state
  ends_as id m ws xs out rested all final first =
      let final' : Final (Seen Rule id (view m.0.lanes Idle m.0.fixed)) ws xs =
      subst (λ (x : View E F). Final (Seen Rule id x) ws xs)
      (ap (λ (x : Me (Option S) (View E F)). x.0) rested.0) final in
      let t = ends id m.0.lanes m.0.fixed ws xs all final' in
      (t.0, some-injective out (Some t.0) (sym first ∙ t.1), t.2)

  pub end_is : (lanes : List (Known E)) (out : Option S) (result : S)
      → (state : S) × (out ≡ Some state) × Home lanes state → out ≡ Some result → Home lanes result
  end_is lanes out result t is = subst (Home lanes) (Some_is (sym t.1 ∙ is)) t.2

  -- and has the lane of each number
  pub seats_each : (id : ℕ) (m : Me (Option S) (View E F)) (ws : List ℕ) (xs : List (Option S))
      → length m.0.lanes ≡ count → Final (Seen Rule id m.0) ws xs → (number : ℕ) → number < count
      → times_seated number m.0 ≡ 1
  seats_each id m ws xs all final number low =
      let s = final.0 in
      let o = final.1.0 in
      let one = total-of_one (times_seated number) (λ (u : View E F). length u.lanes) s.views id m.0 final.1.1
      (o.lanes ∙ sym all) (λ u. seated_few number u.lanes) in
      sym one ∙ o.once number ∙ one_below-yes number count low
