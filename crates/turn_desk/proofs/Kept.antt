-- A step, and what stays where the state is.
use Rattle.std.proofs.Common.{◌≡◌, ℕ, List, [], ◌∷◌, sym, ap, ◌∙◌, subst, Option, ◌≢◌, Some, set, inl, inr, ⊎_elim}
use Rattle.std.proofs.Common.{get_or}
use lib.ListN.{get_elem?}
use mathlib.Core.Option.{some, none, some-injective}
use Rattle.atomic_table.proofs.Lists.{set_else}
use Rattle.atomic_table.specs.Table.{Me, State, Act, Valid, carried_after, stepped}
use Rattle.turn_desk.specs.declared.view.View.{View}
use Rattle.turn_desk.specs.Rule.{IsServing, StateFits, IsOrderly}

module _ {S E F : Type 0} (lane_of : E → ℕ) (entries : S → List E) (fixed : S → F) (count : ℕ) (part : F) where
  abbrev Rule : State (Option S) (View E F) → Type 0
  Rule = IsOrderly lane_of entries fixed count part

  -- a step of a seat, over words that are written out
  abbrev pub Steps : State (Option S) (View E F) → ℕ → ℕ → Me (Option S) (View E F) → (ℕ → ℕ)
      → (ℕ → Me (Option S) (View E F) → Type 0) → List ℕ → Type 0
  Steps s i id m f then ws =
      (w : View E F) × (a : Act (Option S)) × Valid s.homes m.1 a
      × Rule (stepped (record { words = ws; homes = s.homes; views = s.views }) i (f (get_or ws i 0)) id m.1 w a)
      × then (get_or ws i 0) (w, carried_after m.1 a)

  -- the state is where it was, if the seat that changes its view has not the turn
  pub still_there : (s : State (Option S) (View E F)) (ws : List ℕ) (history : List E) (id : ℕ) (v w : View E F)
      → get_elem? s.views id ≡ some v → (IsServing v.stage → ⊥)
      → StateFits lane_of entries fixed part history s
      → StateFits lane_of entries fixed part history
      (record { words = ws; homes = s.homes; views = set s.views id w })
  still_there s ws history id v w me not slot =
      ⊎_elim
      (λ (t : (state : S) × (s.homes ≡ some (Some state) ∷ []) × (entries state ≡ history) × (fixed state ≡ part)).
      inl t)
      (λ (t : (s.homes ≡ none ∷ []) × ((j : ℕ) × (u : View E F) × (get_elem? s.views j ≡ some u)
      × IsServing u.stage)).
      let apart : t.1.0 ≢ id = λ e. not (subst (λ (x : View E F). IsServing x.stage)
      (some-injective t.1.1 v (sym t.1.2 ∙ (ap (λ j. get_elem? s.views j) e ∙ me))) t.1.3) in
      inr (t.0, (t.1.0, t.1.1, set_else s.views id t.1.0 w apart ∙ t.1.2, t.1.3)))
      slot
