-- A join keeps the rule, and lanes are gathered one after another, from the last.
use Rattle.std.proofs.Common.{◌≡◌, ℕ, zero, suc, List, [], ◌∷◌, ◌++◌, map, refl, sym, ap, ◌∙◌, subst, arith, Option}
use Rattle.std.proofs.Common.{append_assoc, All, Any, ◌==◌, ◌<◌, ◌+◌, cond, inl, inr, length, set, length-append}
use Rattle.std.proofs.lemmas.Bool.{cases_Bool, eqb-true}
use Rattle.atomic_table.proofs.Lists.{set_else}
use Rattle.atomic_table.specs.Table.{Me, rest, State, Joins}
use Rattle.turn_desk.specs.declared.view.Known.{Known}
use Rattle.turn_desk.specs.declared.view.Stage.TheVariants.{Idle}
use Rattle.turn_desk.specs.declared.view.View.{View}
use Rattle.turn_desk.specs.Histories.{total, Every, own_part}
use Rattle.turn_desk.specs.Rule.{one_where, tickets, times_held, known, view, times_seated, KnownFits, SeatFits}
use Rattle.turn_desk.specs.Rule.{IsOrderly}
use Rattle.turn_desk.specs.Shown.{DeskView, LaneView, HasOwn, IsLaneOf, LaneFits, lane_view}
use Rattle.turn_desk.specs.Steps.{idle, IsAtRest, joined, blank}
use Rattle.turn_desk.proofs.Kept.{still_there}
use Rattle.turn_desk.proofs.Parts.{Every-append}
use Rattle.turn_desk.proofs.Stages.{views_set}
use Rattle.turn_desk.proofs.Totals.{total-append, total-set}

-- a seat with one lane and no ticket is at rest
pub at_rest-idle : {S E F : Type 0} (m : Me (Option S) (View E F)) (l : Known E) (f : Option F) → m ≡ idle l f
    → IsAtRest m
at_rest-idle m l f is = subst (λ x. IsAtRest x) (sym is) (refl, omega arith)

module _ {S E F : Type 0} (lane_of : E → ℕ) (entries : S → List E) (fixed : S → F) (count : ℕ) (part : F) where
  abbrev Rule : State (Option S) (View E F) → Type 0
  Rule = IsOrderly lane_of entries fixed count part

  abbrev Fits : ℕ → ℕ → List E → View E F → Type 0
  Fits = SeatFits lane_of entries fixed part

  pub joins : (id : ℕ) (mine-lanes : List (Known E)) (f : Option F) (other : ℕ) (lanes : List (Known E))
      (f' : Option F) → 0 < length mine-lanes
      → Joins Rule id (view mine-lanes Idle f) other (view lanes Idle f')
      (joined (view mine-lanes Idle f) (view lanes Idle f')) blank
  joins id ls f other ks f' some-lane s o me apart them =
      let v : View E F = view ls Idle f in
      let w : View E F = view ks Idle f' in
      let joined : View E F = joined v w in
      let vs : List (View E F) = set s.views id joined in
      let mine = o.views id v me in
      let theirs = o.views other w (sym (set_else s.views id other joined apart) ∙ them) in
      let both : (g : View E F → ℕ) → total g (set vs other blank) + g w + g v ≡ total g s.views + g joined + g
      blank =
      λ g. omega (arith, total-set g s.views id v joined me, total-set g vs other w blank them) in
      record {
        history = o.history;
        drawn = o.drawn;
        served = o.served;
        words = o.words;
        short = o.short;
        of_lanes = o.of_lanes;
        few = o.few;
        lanes = omega (arith, both (λ u. length u.lanes), length-append ks ls, o.lanes);
        once = λ k. omega (
          arith,
          both (times_seated k),
          total-append (λ (l : Known E). one_where l.number k) ks ls,
          o.once k,
        );
        out = omega (arith, both (λ u. tickets u.stage), o.out);
        apart = λ t. omega (arith, both (λ u. times_held t u.stage), o.apart t);
        views = views_set (Fits o.drawn o.served o.history) vs other blank
            (λ j u ne at. views_set (Fits o.drawn o.served o.history) s.views id joined (λ i x ne' e. o.views i x e)
            ((λ lt. mine.0 some-lane), Every-append _ ks ls theirs.1 mine.1, tt) j u at)
            ((λ lt. absurd (omega arith)), tt, tt);
        state = still_there lane_of entries fixed count part (record { words = []; homes = s.homes; views = vs }) []
            o.history other w blank them (λ is. is)
            (still_there lane_of entries fixed count part s [] o.history id v joined me (λ is. is) o.state);
      }

  pub joins_as : (id : ℕ) (m : Me (Option S) (View E F)) (other : ℕ) (w : Me (Option S) (View E F)) → IsAtRest m
      → IsAtRest w → Joins Rule id m.0 other w.0 (joined m.0 w.0) blank
  joins_as id m other w is is' =
      subst (λ (x : View E F). Joins Rule id x other w.0 (joined x w.0) blank)
      (sym (ap (λ (x : Me (Option S) (View E F)). x.0) is.0))
      (subst (λ (x : View E F). Joins Rule id (view m.0.lanes Idle m.0.fixed) other x
      (joined (view m.0.lanes Idle m.0.fixed) x) blank) (sym (ap (λ (x : Me (Option S) (View E F)). x.0) is'.0))
      (joins id m.0.lanes m.0.fixed other w.0.lanes w.0.fixed is.1))

-- a fact of all items of a list with one more holds of the others, and of that one
pub All-front : {A : Type 0} (P : A → Type 0) (xs : List A) (y : A) → All P (xs ++ y ∷ []) → All P xs
All-front P [] y h k d lt = absurd (omega arith)
All-front P (x ∷ xs) y h zero d lt = h zero d (omega arith)
All-front P (x ∷ xs) y h (suc k) d lt = All-front P xs y (λ i e l. h (suc i) e (omega arith)) k d (omega arith)

pub All-last : {A : Type 0} (P : A → Type 0) (xs : List A) (y : A) → All P (xs ++ y ∷ []) → P y
All-last P [] y h = h 0 y (omega arith)
All-last P (x ∷ xs) y h = All-last P xs y (λ i e l. h (suc i) e (omega arith))

-- a lane of this desk is what it knows
lane_same : {E F : Type 0} (d : DeskView F) (l : LaneView E F) → IsLaneOf d l
    → l ≡ lane_view d (known l.number l.seen l.own)
lane_same d l is = λ i. record { desk = is.0 i; number = l.number; seen = l.seen; own = l.own; fixed = is.1 i }

module _ {S E F : Type 0} where
  -- the lanes that are left, and those that the seat has, are all
  abbrev pub Gathers : DeskView F → List (LaneView E F) → Me (Option S) (View E F) → List (LaneView E F) → Type 0
  Gathers d items m all = All (λ l. IsLaneOf d l) items × IsAtRest m × (items ++ map (lane_view d) m.0.lanes ≡ all)

  pub starts_gathering : (d : DeskView F) (items : List (LaneView E F)) (l : LaneView E F)
      (m : Me (Option S) (View E F)) (all : List (LaneView E F))
      → All (λ l. IsLaneOf d l) all → all ≡ items ++ l ∷ [] → m ≡ idle (known l.number l.seen l.own) l.fixed
      → Gathers d items m all
  starts_gathering d items l m all of whole is =
      let of' : All (λ l. IsLaneOf d l) (items ++ l ∷ []) = subst (λ xs. All (λ l. IsLaneOf d l) xs) whole of in
      let last = All-last (λ l. IsLaneOf d l) items l of' in (
        All-front (λ l. IsLaneOf d l) items l of',
        subst (λ (x : Me (Option S) (View E F)). IsAtRest x) (sym is) (refl, omega arith),
        ap (λ (x : Me (Option S) (View E F)). items ++ map (lane_view d) x.0.lanes) is
            ∙ (ap (λ x. items ++ x ∷ []) (sym (lane_same d l last)) ∙ sym whole),
      )

  pub gathers : (d : DeskView F) (items rest : List (LaneView E F)) (l : LaneView E F)
      (m n : Me (Option S) (View E F)) (all : List (LaneView E F))
      → Gathers d items m all → items ≡ rest ++ l ∷ []
      → n ≡ (view (known l.number l.seen l.own ∷ m.0.lanes) Idle m.0.fixed, []) → Gathers d rest n all
  gathers d items rest l m n all h popped is =
      let of' : All (λ l. IsLaneOf d l) (rest ++ l ∷ []) = subst (λ xs. All (λ l. IsLaneOf d l) xs) popped h.0 in
      let last = All-last (λ l. IsLaneOf d l) rest l of' in (
        All-front (λ l. IsLaneOf d l) rest l of',
        subst (λ (x : Me (Option S) (View E F)). IsAtRest x) (sym is) (refl, omega arith),
        ap (λ (x : Me (Option S) (View E F)). rest ++ map (lane_view d) x.0.lanes) is
            ∙ (ap (λ x. rest ++ x ∷ map (lane_view d) m.0.lanes) (sym (lane_same d l last))
            ∙ (sym (append_assoc rest (l ∷ []) (map (lane_view d) m.0.lanes))
            ∙ (ap (λ xs. xs ++ map (lane_view d) m.0.lanes) (sym popped) ∙ h.2))),
      )

  -- what each lane knows, said of the lanes that contracts see
  pub all_end : (lane_of : E → ℕ) (entries : S → List E) (fixed : S → F) (d : DeskView F) (history : List E)
      (lanes : List (Known E)) → Every (KnownFits lane_of entries fixed history) lanes
      → All (LaneFits lane_of history) (map (lane_view d) lanes)
  all_end lane_of entries fixed d history [] h k e lt = absurd (omega arith)
  all_end lane_of entries fixed d history (l ∷ ls) h zero e lt = h.0
  all_end lane_of entries fixed d history (l ∷ ls) h (suc k) e lt =
      all_end lane_of entries fixed d history ls h.1 k e (omega arith)

module _ {E F : Type 0} where
  -- the same of what is a lane's own
  pub all_own : (lane_of : E → ℕ) (d : DeskView F) (lanes : List (Known E))
      → Every (λ (l : Known E). l.own ≡ own_part lane_of l.number l.seen) lanes
      → All (HasOwn lane_of) (map (lane_view d) lanes)
  all_own lane_of d [] h k e lt = absurd (omega arith)
  all_own lane_of d (l ∷ ls) h zero e lt = h.0
  all_own lane_of d (l ∷ ls) h (suc k) e lt = all_own lane_of d ls h.1 k e (omega arith)

  -- a lane of a number that a seat has is among them
  pub any_end : (d : DeskView F) (number : ℕ) (lanes : List (Known E))
      → 0 < total (λ (l : Known E). one_where l.number number) lanes
      → Any (λ (l : LaneView E F). l.number ≡ number) (map (lane_view d) lanes)
  any_end d number [] some = absurd (omega (arith, some))
  any_end d number (l ∷ ls) some = elim (cases_Bool (l.number == number)) [
    | inl own ↦ (0, lane_view d l, omega arith, refl, eqb-true l.number number own)
    | inr other ↦ (let none : one_where l.number number ≡ 0 = ap (λ b. cond b 1 0) other in
        let rest = any_end d number ls (omega (arith, some, none)) in
        (suc rest.0, rest.1, omega (arith, rest.2), rest.3, rest.4))
  ]

module _ {S E F : Type 0} (lane_of : E → ℕ) where
  abbrev pub OwnAll : Me (Option S) (View E F) → Type 0
  OwnAll m = Every (λ (k : Known E). k.own ≡ own_part lane_of k.number k.seen) m.0.lanes

  -- the own entries of the first lane that is gathered, and of one more
  pub own_first : (l : LaneView E F) (m : Me (Option S) (View E F))
      → m ≡ idle (known l.number l.seen l.own) l.fixed → HasOwn lane_of l → OwnAll m
  own_first l m is own = subst OwnAll (sym is) (own, tt)

  pub own_more : (l : LaneView E F) (m n : Me (Option S) (View E F))
      → n ≡ (view (known l.number l.seen l.own ∷ m.0.lanes) Idle m.0.fixed, []) → HasOwn lane_of l → OwnAll m
      → OwnAll n
  own_more l m n is own all = subst OwnAll (sym is) (own, all)
