-- A split keeps the rule, and lanes are dealt one after another.
use Rattle.std.proofs.Common.{◌≡◌, ℕ, zero, suc, List, [], ◌∷◌, ◌++◌, map, refl, sym, ap, ◌∙◌, subst, arith, Option}
use Rattle.std.proofs.Common.{append_assoc, ◌<◌, ◌≤◌, append-nil, Some, ◌+◌, length, set, inl, inr, ⊎_elim}
use lib.ListN.{get_elem?}
use mathlib.Core.Option.{some, none}
use Rattle.atomic_table.proofs.Lists.{at_snoc, at_longer}
use Rattle.atomic_table.specs.Seated.{TableId}
use Rattle.atomic_table.specs.Table.{Me, State, Splits}
use Rattle.turn_desk.specs.declared.view.Known.{Known}
use Rattle.turn_desk.specs.declared.view.Stage.TheVariants.{Idle}
use Rattle.turn_desk.specs.declared.view.View.{View}
use Rattle.turn_desk.specs.Histories.{total, Every, own_part}
use Rattle.turn_desk.specs.Rule.{one_where, tickets, times_held, IsServing, known, view, times_seated, SeatFits}
use Rattle.turn_desk.specs.Rule.{IsOrderly}
use Rattle.turn_desk.specs.Shown.{DeskView, LaneView, lane_view, IsLaneSeat}
use Rattle.turn_desk.specs.Steps.{seen_of, own_of, first_lane, other_lanes, fresh_lanes, Numbered, split_off}
use Rattle.turn_desk.specs.Steps.{left_behind}
use Rattle.turn_desk.proofs.Kept.{still_there}
use Rattle.turn_desk.proofs.Stages.{views_set}
use Rattle.turn_desk.proofs.Totals.{total-append, total-set}

-- a split leaves the lanes what they are
length-split : {E : Type 0} (lanes : List (Known E)) → length (other_lanes lanes) + length (first_lane lanes) ≡
    length lanes
length-split [] = refl
length-split (l ∷ ls) = omega arith

total-split : {E : Type 0} (g : Known E → ℕ) (lanes : List (Known E))
    → total g (other_lanes lanes) + total g (first_lane lanes) ≡ total g lanes
total-split g [] = refl
total-split g (l ∷ ls) = omega arith

Every-first : {E : Type 0} (P : Known E → Type 0) (lanes : List (Known E)) → Every P lanes
    → Every P (first_lane lanes)
Every-first P [] e = tt
Every-first P (l ∷ ls) e = (e.0, tt)

Every-other : {E : Type 0} (P : Known E → Type 0) (lanes : List (Known E)) → Every P lanes
    → Every P (other_lanes lanes)
Every-other P [] e = tt
Every-other P (l ∷ ls) e = e.1

module _ {S E F : Type 0} (lane_of : E → ℕ) (entries : S → List E) (fixed : S → F) (count : ℕ) (part : F) where
  abbrev Rule : State (Option S) (View E F) → Type 0
  Rule = IsOrderly lane_of entries fixed count part

  abbrev Fits : ℕ → ℕ → List E → View E F → Type 0
  Fits = SeatFits lane_of entries fixed part

  pub splits : (id : ℕ) (lanes : List (Known E)) (f : Option F)
      → Splits Rule id (view lanes Idle f) (left_behind (view lanes Idle f)) (split_off (view lanes Idle f))
  splits id lanes f s o me =
      let v : View E F = view lanes Idle f in
      let left : View E F = left_behind v in
      let right : View E F = split_off v in
      let mine = o.views id v me in
      let both : (g : View E F → ℕ) → total g (set s.views id left ++ right ∷ []) + g v ≡ total g s.views + g left +
      g right =
      λ g. omega (arith, total-append g (set s.views id left) (right ∷ []), total-set g s.views id v left me) in
      let size = length-split lanes in
      record {
        history = o.history;
        drawn = o.drawn;
        served = o.served;
        words = o.words;
        short = o.short;
        of_lanes = o.of_lanes;
        few = o.few;
        lanes = omega (arith, both (λ u. length u.lanes), size, o.lanes);
        once = λ k. omega (arith, both (times_seated k), total-split (λ l. one_where l.number k) lanes, o.once k);
        out = omega (arith, both (λ u. tickets u.stage), o.out);
        apart = λ t. omega (arith, both (λ u. times_held t u.stage), o.apart t);
        views = λ j u at. ⊎_elim
            (λ was. views_set (Fits o.drawn o.served o.history) s.views id left (λ i x ne e. o.views i x e)
            ((λ lt. mine.0 (omega arith)), Every-other _ lanes mine.1, tt) j u was)
            (λ (is : right ≡ u). subst (Fits o.drawn o.served o.history) is
            ((λ lt. mine.0 (omega arith)), Every-first _ lanes mine.1, tt))
            (at_snoc (set s.views id left) right u j at);
        state = ⊎_elim
            (λ (t : (state : S) × (s.homes ≡ some (Some state) ∷ []) × (entries state ≡ o.history)
            × (fixed state ≡ part)). inl t)
            (λ (t : (s.homes ≡ none ∷ []) × ((j : ℕ) × (u : View E F) × (get_elem? (set s.views id left) j ≡ some u)
            × IsServing u.stage)).
            inr (t.0, (t.1.0, t.1.1, at_longer (set s.views id left) (right ∷ []) t.1.0 t.1.1 t.1.2, t.1.3)))
            (still_there lane_of entries fixed count part s [] o.history id v left me (λ is. is) o.state);
      }

  -- the cut, at a seat that is known to have no ticket
  pub splits_as : (id : ℕ) (m : Me (Option S) (View E F)) (f : Option F) → m ≡ (view m.0.lanes Idle f, [])
      → Splits Rule id m.0 (left_behind m.0) (split_off m.0)
  splits_as id m f is = subst (λ (x : View E F). Splits Rule id x (left_behind x) (split_off x))
      (sym (ap (λ (x : Me (Option S) (View E F)). x.0) is)) (splits id m.0.lanes f)

none_left : {A : Type 0} (l : List A) → length l ≡ 0 → l ≡ []
none_left [] e = refl
none_left (x ∷ xs) e = absurd (omega arith)

module _ {S E F : Type 0} (lane_of : E → ℕ) where
  -- the lanes below n have been dealt, and the seat has the others
  abbrev pub Deals : DeskView F → ℕ → List (LaneView E F) → Me (Option S) (View E F) → List (Known E) → Type 0
  Deals d n items m all = (m ≡ (view m.0.lanes Idle (Some d.fixed), [])) × Numbered lane_of n m.0.lanes
      × (n + length m.0.lanes ≡ d.lanes) × (items ++ map (lane_view d) m.0.lanes ≡ map (lane_view d) all)

  abbrev pub dealt_lane : TableId → ℕ → Me (Option S) (View E F) → LaneView E F
  dealt_lane desk n r = record {
    desk = desk;
    number = n;
    seen = seen_of r.0.lanes;
    own = own_of r.0.lanes;
    fixed =
        r.0.fixed;
  }

  deals_at : (d : DeskView F) (n : ℕ) (items : List (LaneView E F)) (lanes all : List (Known E)) (desk : TableId)
      → Numbered lane_of n lanes → n + length lanes ≡ d.lanes
      → items ++ map (lane_view d) lanes ≡ map (lane_view d) all → n < d.lanes → desk ≡ d.id
      → Deals d (n + 1) (items ++ dealt_lane desk n (view (first_lane lanes) Idle (Some d.fixed), []) ∷ [])
      (view (other_lanes lanes) Idle (Some d.fixed), []) all
      × IsLaneSeat {S = S} lane_of n (view (first_lane lanes) Idle (Some d.fixed), [])
  deals_at d n items [] all desk numbers size whole lt e = absurd (omega arith)
  deals_at d n items (l ∷ ls) all desk numbers size whole lt e =
      let is : dealt_lane desk n (view (l ∷ []) Idle (Some d.fixed), []) ≡ lane_view d l =
      λ i. record { desk = e i; number = sym numbers.0 i; seen = l.seen; own = l.own; fixed = Some d.fixed } in
      let step : n + 1 ≡ suc n = omega arith in (
        (
          refl,
          subst (λ k. Numbered lane_of k ls) (sym step) numbers.2,
          omega arith,
          append_assoc items (dealt_lane desk n (view (l ∷ []) Idle (Some d.fixed), []) ∷ []) (map (lane_view d) ls)
              ∙ (ap (λ x. items ++ x ∷ map (lane_view d) ls) is ∙ whole),
        ),
        (
          ap (λ (k : ℕ). (view (known k l.seen l.own ∷ []) Idle (Some d.fixed), [])) numbers.0,
          subst (λ k. own_part lane_of k l.seen ≡ l.own) numbers.0 numbers.1,
        ),
      )

  pub deals : (d : DeskView F) (n : ℕ) (items : List (LaneView E F)) (m m' r : Me (Option S) (View E F))
      (all : List (Known E)) (desk : TableId) → Deals d n items m all → n < d.lanes → desk ≡ d.id
      → m' ≡ (left_behind m.0, m.1) → r ≡ (split_off m.0, [])
      → Deals d (n + 1) (items ++ dealt_lane desk n r ∷ []) m' all × IsLaneSeat lane_of n r
  deals d n items m m' r all desk h lt e left right =
      let lanes = m.0.lanes in
      let left' : m' ≡ (view (other_lanes lanes) Idle (Some d.fixed), []) = left
      ∙ ap (λ (x : Me (Option S) (View E F)). (left_behind x.0, x.1)) h.0 in
      let right' : r ≡ (view (first_lane lanes) Idle (Some d.fixed), []) = right
      ∙ ap (λ (x : Me (Option S) (View E F)). (split_off x.0, [])) h.0 in
      subst (λ (x : Me (Option S) (View E F)). Deals d (n + 1) (items ++ dealt_lane desk n r ∷ []) x all
      × IsLaneSeat lane_of n r) (sym left')
      (subst (λ (x : Me (Option S) (View E F)). Deals d (n + 1) (items ++ dealt_lane desk n x ∷ [])
      (view (other_lanes lanes) Idle (Some d.fixed), []) all × IsLaneSeat lane_of n x) (sym right')
      (deals_at d n items lanes all desk h.1 h.2 h.3 lt e))

  pub all_dealt : (d : DeskView F) (n : ℕ) (items : List (LaneView E F)) (m : Me (Option S) (View E F))
      (all : List (Known E)) → Deals d n items m all → d.lanes ≤ n → items ≡ map (lane_view d) all
  all_dealt d n items m all h le =
      let none = none_left m.0.lanes (omega (arith, h.2)) in
      sym (ap (λ ls. items ++ map (lane_view d) ls) none ∙ append-nil items) ∙ h.3

module _ {E : Type 0} (lane_of : E → ℕ) (history : List E) where
  pub numbered : (n count : ℕ) → Numbered lane_of n (fresh_lanes lane_of history n count)
  numbered n zero = tt
  numbered n (suc count) = (refl, refl, numbered (suc n) count)
