-- A desk opens under its rule.
use Rattle.std.proofs.Common.{◌≡◌, ℕ, zero, suc, List, [], ◌∷◌, refl, sym, ap, ◌∙◌, subst, arith, Option, ◌<◌, ◌≤◌}
use Rattle.std.proofs.Common.{Some, ◌*◌, ◌+◌, length, inl}
use lib.ListN.{get_elem?}
use mathlib.Core.Logic.{dite}
use mathlib.Core.Option.{some, some-injective, some-ne-none}
use native.Mathlib.Decide.{ℕ_discrete, dec_le}
use Rattle.atomic_table.specs.Table.{State, opening}
use Rattle.turn_desk.specs.declared.view.Stage.TheVariants.{Idle}
use Rattle.turn_desk.specs.declared.view.View.{View}
use Rattle.turn_desk.specs.Histories.{total, Every, AreOfLanes}
use Rattle.turn_desk.specs.Rule.{one_where, one_below, view, KnownFits, SeatFits, IsOrderly}
use Rattle.turn_desk.specs.Steps.{fresh_lanes}
use Rattle.turn_desk.proofs.Parts.{one_where-same, one_where-apart, one_below-no, one_below-yes, begins-self}

module _ {E : Type 0} (lane_of : E → ℕ) (history : List E) where
  pub length-fresh_lanes : (n count : ℕ) → length (fresh_lanes lane_of history n count) ≡ count
  length-fresh_lanes n zero = refl
  length-fresh_lanes n (suc count) = ap suc (length-fresh_lanes (suc n) count)

  numbers : (n count k : ℕ) → (k < n → total (λ l. one_where l.number k) (fresh_lanes lane_of history n count) ≡ 0)
      × (n + count ≤ k → total (λ l. one_where l.number k) (fresh_lanes lane_of history n count) ≡ 0)
      × (n ≤ k → k < n + count → total (λ l. one_where l.number k) (fresh_lanes lane_of history n count) ≡ 1)
  numbers n zero k = ((λ _. refl), (λ _. refl), λ le lt. absurd (omega arith))
  numbers n (suc count) k =
      let more = numbers (suc n) count k in (
        (λ lt. omega (arith, one_where-apart n k (λ e. omega arith), more.0 (omega arith))),
        (λ le. omega (arith, one_where-apart n k (λ e. omega arith), more.1 (omega arith))),
        λ le lt. dite (ℕ_discrete n k)
            (λ e. omega (arith, one_where-same n k e, more.0 (omega arith)))
            (λ ne. omega (arith, one_where-apart n k ne, more.2 (omega arith) (omega arith))),
      )

  numbers_once : (count k : ℕ) → total (λ l. one_where l.number k) (fresh_lanes lane_of history 0 count) ≡ one_below
      k count
  numbers_once count k =
      dite (dec_le count k)
      (λ past. omega (arith, (numbers 0 count k).1 (omega arith), one_below-no k count past))
      (λ below. omega (arith, (numbers 0 count k).2 (omega arith) (omega arith), one_below-yes k count (omega arith)))

module _ {S E F : Type 0} (lane_of : E → ℕ) (entries : S → List E) (fixed : S → F) (count : ℕ) (part : F) where
  abbrev Rule : State (Option S) (View E F) → Type 0
  Rule = IsOrderly lane_of entries fixed count part

  abbrev Fits : ℕ → ℕ → List E → View E F → Type 0
  Fits = SeatFits lane_of entries fixed part

  all_fit : (history : List E) (n k : ℕ) → Every (KnownFits lane_of entries fixed history)
      (fresh_lanes lane_of history n k)
  all_fit history n zero = tt
  all_fit history n (suc k) = ((begins-self history, refl), all_fit history (suc n) k)

  pub opens : (state : S) (long : ℕ) → long ≡ length (entries state) * 4294967296
      → length (entries state) < 4294967296 → AreOfLanes lane_of count (entries state) → count ≤ 32
      → fixed state ≡ part
      → Rule (opening (0 ∷ long ∷ []) (Some state ∷ [])
      (view (fresh_lanes lane_of (entries state) 0 count) Idle (Some part)))
  opens state long is short within few same-part =
      let v : View E F = view (fresh_lanes lane_of (entries state) 0 count) Idle (Some part) in
      record {
        history = entries state;
        drawn = 0;
        served = 0;
        words = ap (λ (n : ℕ). 0 ∷ n ∷ []) (omega arith);
        short = short;
        of_lanes = within;
        few = few;
        lanes = omega (arith, length-fresh_lanes lane_of (entries state) 0 count);
        once = λ k. omega (arith, numbers_once lane_of (entries state) count k);
        out = omega arith;
        apart = λ t. omega arith;
        views = one v ((λ _. refl), all_fit (entries state) 0 count, tt);
        state = inl (state, refl, refl, same-part);
      }
    where
      one : (v : View E F) → Fits 0 0 (entries state) v → (j : ℕ) (u : View E F) → get_elem? (v ∷ []) j ≡ some u
          → Fits 0 0 (entries state) u
      one v fit zero u e = subst (Fits 0 0 (entries state)) (some-injective v u e) fit
      one v fit (suc j) u e = absurd (some-ne-none u (sym e))

  -- the same, over a copy of the state that proofs alone see
  pub opens_as : (state copy : S) (long : ℕ) (slots : List (Option S)) → copy ≡ state → slots ≡ Some state ∷ []
      → long ≡ length (entries state) * 4294967296 → length (entries state) < 4294967296
      → AreOfLanes lane_of count (entries state) → count ≤ 32 → fixed copy ≡ part
      → Rule (opening (0 ∷ long ∷ []) slots (view (fresh_lanes lane_of (entries copy) 0 count) Idle (Some part)))
  opens_as state copy long slots same items is short within few same-part =
      subst (λ x. Rule (opening (0 ∷ long ∷ []) slots
      (view (fresh_lanes lane_of (entries x) 0 count) Idle (Some part)))) (sym same)
      (subst (λ xs. Rule (opening (0 ∷ long ∷ []) xs (view (fresh_lanes lane_of (entries state) 0 count) Idle
      (Some part)))) (sym items) (opens state long is short within few (ap fixed (sym same) ∙ same-part)))
