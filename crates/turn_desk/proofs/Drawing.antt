-- A draw keeps the rule.
use Rattle.std.proofs.Common.{◌≡◌, ℕ, List, [], ◌∷◌, refl, sym, ap, subst, arith, Option, ◌%◌, ◌*◌, ◌+◌, length}
use lib.ListN.{get_elem?}
use mathlib.Core.Logic.{dite}
use mathlib.Core.Option.{some}
use native.Mathlib.Decide.{ℕ_discrete}
use Rattle.atomic_table.specs.Table.{Me, State, keeps, Allows}
use Rattle.turn_desk.specs.declared.view.Known.{Known}
use Rattle.turn_desk.specs.declared.view.Stage.TheVariants.{Idle, Waiting}
use Rattle.turn_desk.specs.declared.view.View.{View}
use Rattle.turn_desk.specs.Rule.{tickets, times_held, words_after, view, times_seated, SeatFits, IsOrderly}
use Rattle.turn_desk.specs.Steps.{idle, IsIdle, Draws}
use Rattle.turn_desk.proofs.Kept.{Steps, still_there}
use Rattle.turn_desk.proofs.Parts.{one_where-same, one_where-apart}
use Rattle.turn_desk.proofs.Stages.{views_set, undrawn, drawn_more}
use Rattle.turn_desk.proofs.Totals.{total-set, total-zero}

module _ {S E F : Type 0} (lane_of : E → ℕ) (entries : S → List E) (fixed : S → F) (count : ℕ) (part : F) where
  abbrev Rule : State (Option S) (View E F) → Type 0
  Rule = IsOrderly lane_of entries fixed count part

  abbrev Fits : ℕ → ℕ → List E → View E F → Type 0
  Fits = SeatFits lane_of entries fixed part

  abbrev Goes : State (Option S) (View E F) → ℕ → ℕ → Me (Option S) (View E F) → (ℕ → ℕ)
      → (ℕ → Me (Option S) (View E F) → Type 0) → List ℕ → Type 0
  Goes = Steps lane_of entries fixed count part

  draws_at : (s : State (Option S) (View E F)) (o : Rule s) (id : ℕ) (l : Known E) (f : Option F)
      → get_elem? s.views id ≡ some (view (l ∷ []) Idle f)
      → Goes s 0 id (idle l f) (λ n. (n + 1) % 18446744073709551616) (Draws (idle l f))
      (words_after o.drawn o.served (length o.history))
  draws_at s o id l f me =
      let v : View E F = view (l ∷ []) Idle f in
      let w : View E F = view (l ∷ []) (Waiting o.drawn) f in
      let mine = o.views id v me in (
        w,
        keeps,
        tt,
        record {
          history = o.history;
          drawn = o.drawn + 1;
          served = o.served;
          words = ap (λ (n : ℕ). n ∷ (length o.history * 4294967296 + o.served % 4294967296) ∷ []) (omega arith);
          short = o.short;
          of_lanes = o.of_lanes;
          few = o.few;
          lanes = omega (arith, total-set (λ u. length u.lanes) s.views id v w me, o.lanes);
          once = λ k. omega (arith, total-set (times_seated k) s.views id v w me, o.once k);
          out = omega (arith, total-set (λ u. tickets u.stage) s.views id v w me, o.out);
          apart = λ t. let moved = total-set (λ u. times_held t u.stage) s.views id v w me in
              dite (ℕ_discrete o.drawn t)
              (λ e. let none-yet = total-zero (λ (u : View E F). times_held t u.stage) s.views
              (λ j u at. undrawn o.drawn o.served o.history u.lanes u.stage t (omega (arith, e))
              (o.views j u at).2) in
              omega (arith, one_where-same o.drawn t e))
              (λ ne. omega (arith, one_where-apart o.drawn t ne, o.apart t));
          views = views_set (Fits (o.drawn + 1) o.served o.history) s.views id w
              (λ j u ne at. let was = o.views j u at in (
                was.0,
                was.1,
                drawn_more o.drawn o.served o.history u.lanes u.stage was.2,
              ))
              (mine.0, mine.1, (omega (arith, o.out), omega arith, omega arith));
          state = still_there lane_of entries fixed count part s [] o.history id v w me (λ is. is) o.state;
        },
        (o.drawn, refl, refl),
      )

  pub draws : (slots id : ℕ) (l : Known E) (f : Option F)
      → Allows Rule slots id (idle l f) 0 (λ n. (n + 1) % 18446744073709551616) (Draws (idle l f))
  draws slots id l f s o wide me _ = subst (Goes s 0 id (idle l f) (λ n. (n + 1) % 18446744073709551616)
      (Draws (idle l f))) (sym o.words) (draws_at s o id l f me)

  -- the steps, at a seat that is known to be such
  pub draws_as : (slots id : ℕ) (m : Me (Option S) (View E F)) → IsIdle m
      → Allows Rule slots id m 0 (λ n. (n + 1) % 18446744073709551616) (Draws m)
  draws_as slots id m is = subst (λ (x : Me (Option S) (View E F)). Allows Rule slots id x 0
      (λ n. (n + 1) % 18446744073709551616) (Draws x)) (sym is.2) (draws slots id is.0 is.1)
