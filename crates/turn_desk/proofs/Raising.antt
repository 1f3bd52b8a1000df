-- A raise keeps the rule.
use Rattle.std.proofs.Common.{◌≡◌, ℕ, List, [], ◌∷◌, ◌++◌, refl, sym, ap, ◌∙◌, subst, arith, Option, ◌≢◌, ◌<◌, ◌%◌}
use Rattle.std.proofs.Common.{Some, ◌*◌, ◌+◌, length, set, inl, ⊎_elim}
use Rattle.std.proofs.lemmas.List.Elements.{All-append}
use lib.ListN.{get_elem?}
use mathlib.Core.Logic.{dite}
use mathlib.Core.Option.{some, none}
use native.Mathlib.Decide.{dec_le}
use Rattle.atomic_table.specs.Table.{Me, State, gives, Allows}
use Rattle.turn_desk.specs.declared.view.Known.{Known}
use Rattle.turn_desk.specs.declared.view.Stage.{Stage}
use Rattle.turn_desk.specs.declared.view.Stage.TheVariants.{Idle, Serving}
use Rattle.turn_desk.specs.declared.view.View.{View}
use Rattle.turn_desk.specs.Histories.{Every, BeginsWith, own_part, GrowsBy, AreOfLanes}
use Rattle.turn_desk.specs.Rule.{tickets, times_held, IsServing, words_after, known, view, times_seated, KnownFits}
use Rattle.turn_desk.specs.Rule.{SeatFits, StateFits, IsOrderly}
use Rattle.turn_desk.specs.Steps.{serves, Raises}
use Rattle.turn_desk.proofs.Kept.{Steps}
use Rattle.turn_desk.proofs.Parts.{one_where-same, one_below-no, one_below_le, begins-self, begins-longer, Every-both}
use Rattle.turn_desk.proofs.Parts.{own_part-kept, lanes-apart}
use Rattle.turn_desk.proofs.Stages.{views_set, Some_is, served_more}
use Rattle.turn_desk.proofs.Totals.{total-set, term_le, terms_le}

module _ {S E F : Type 0} (lane_of : E → ℕ) (entries : S → List E) (fixed : S → F) (count : ℕ) (part : F) where
  abbrev Rule : State (Option S) (View E F) → Type 0
  Rule = IsOrderly lane_of entries fixed count part

  abbrev Fits : ℕ → ℕ → List E → View E F → Type 0
  Fits = SeatFits lane_of entries fixed part

  abbrev Goes : State (Option S) (View E F) → ℕ → ℕ → Me (Option S) (View E F) → (ℕ → ℕ)
      → (ℕ → Me (Option S) (View E F) → Type 0) → List ℕ → Type 0
  Goes = Steps lane_of entries fixed count part

  -- the number of a lane is below the number of lanes
  number_within : (s : State (Option S) (View E F)) (o : Rule s) (id : ℕ) (l : Known E) (stage : Stage)
      (f : Option F) → get_elem? s.views id ≡ some (view (l ∷ []) stage f) → l.number < count
  number_within s o id l stage f me =
      dite (dec_le count l.number)
      (λ past. absurd (omega (
        arith,
        term_le (times_seated l.number) s.views id (view (l ∷ []) stage f) me,
        o.once l.number,
        one_below-no l.number count past,
        one_where-same l.number l.number refl,
      )))
      (λ below. omega arith)

  -- no other seat has a lane of this number
  others_apart : (s : State (Option S) (View E F)) (o : Rule s) (id : ℕ) (l : Known E) (stage : Stage)
      (f : Option F) → get_elem? s.views id ≡ some (view (l ∷ []) stage f)
      → (j : ℕ) (u : View E F) → j ≢ id → get_elem? s.views j ≡ some u → Every (λ k. l.number ≢ k.number) u.lanes
  others_apart s o id l stage f me j u ne at =
      lanes-apart l.number u.lanes
      (omega (
        arith,
        terms_le (times_seated l.number) s.views id j (view (l ∷ []) stage f) u ne me at,
        o.once l.number,
        one_below_le l.number count,
        one_where-same l.number l.number refl,
      ))

  homes_one : (s : State (Option S) (View E F)) (history : List E) → StateFits lane_of entries fixed part history s
      → (x : Option S) → set s.homes 0 (some x) ≡ some x ∷ []
  homes_one s history slot x =
      ⊎_elim
      (λ (t : (state : S) × (s.homes ≡ some (Some state) ∷ []) × (entries state ≡ history) × (fixed state ≡ part)).
      ap (λ (hs : List _). set hs 0 (some x)) t.1)
      (λ (t : (s.homes ≡ none ∷ []) × ((j : ℕ) × (u : View E F) × (get_elem? s.views j ≡ some u)
      × IsServing u.stage)). ap (λ (hs : List _). set hs 0 (some x)) t.0)
      slot

  raises_at : (s : State (Option S) (View E F)) (o : Rule s) (id : ℕ) (l : Known E) (t : ℕ) (f : Option F)
      (state : S) (new : ℕ) → get_elem? s.views id ≡ some (view (l ∷ []) (Serving t) f)
      → GrowsBy lane_of l.number l.seen (entries state) → Some (fixed state) ≡ f → length (entries state) < 4294967296
      → new ≡ length (entries state) * 4294967296 + (t + 1) % 4294967296
      → Goes s 1 id (serves l t f (Some state)) (λ _. new)
      (λ _. Raises lane_of entries fixed (serves l t f (Some state)))
      (words_after o.drawn o.served (length o.history))
  raises_at s o id l t f state new me grows same-part short is =
      let v : View E F = view (l ∷ []) (Serving t) f in
      let mine = o.views id v me in
      let h : List E = entries state in
      let more = grows.0 in
      let longer : h ≡ o.history ++ more = grows.1 ∙ ap (λ z. z ++ more) mine.2.3.0 in
      let number = number_within s o id l (Serving t) f me in
      let w : View E F = view (known l.number h (own_part lane_of l.number h) ∷ []) Idle f in
      let part-is = mine.0 (omega arith) in (
        w,
        gives,
        tt,
        record {
          history = h;
          drawn = o.drawn;
          served = o.served + 1;
          words = ap (λ (n : ℕ). (o.drawn % 18446744073709551616) ∷ n ∷ [])
              (is ∙ ap (λ (n : ℕ). length h * 4294967296 + (n + 1) % 4294967296) mine.2.0);
          short = short;
          of_lanes = subst (AreOfLanes lane_of count) (sym longer)
              (All-append (λ e. lane_of e < count) o.history more o.of_lanes
              (λ k d lt. subst (λ (n : ℕ). n < count) (sym (grows.2 k d lt)) number));
          few = o.few;
          lanes = omega (arith, total-set (λ u. length u.lanes) s.views id v w me, o.lanes);
          once = λ k. omega (arith, total-set (times_seated k) s.views id v w me, o.once k);
          out = omega (arith, total-set (λ u. tickets u.stage) s.views id v w me, o.out);
          apart = λ k. omega (arith, total-set (λ u. times_held k u.stage) s.views id v w me, o.apart k);
          views = views_set (Fits o.drawn (o.served + 1) h) s.views id w
              (λ j u ne at. let was = o.views j u at in
              let none-of-it : times_held o.served u.stage ≡ 0 =
              omega (
                arith,
                terms_le (λ (x : View E F). times_held o.served x.stage) s.views id j v u ne me at,
                o.apart o.served,
                one_where-same t o.served mine.2.0,
              ) in (
                was.0,
                Every-both (λ k. l.number ≢ k.number) (KnownFits lane_of entries fixed o.history)
                    (KnownFits lane_of entries fixed h) u.lanes
                    (λ k apart fit. subst (λ z. BeginsWith z k.seen × (own_part lane_of k.number z ≡ k.own))
                    (sym longer) (
                      begins-longer o.history k.seen more fit.0,
                      own_part-kept lane_of l.number k.number o.history more apart grows.2 ∙ fit.1,
                    ))
                    (others_apart s o id l (Serving t) f me j u ne at) was.1,
                served_more o.drawn o.served o.history h u.lanes u.stage was.2 none-of-it,
              ))
              (mine.0, ((begins-self h, refl), tt), tt);
          state = inl (state, homes_one s o.history o.state (Some state), refl, Some_is (same-part ∙ part-is));
        },
        (state, refl, refl),
      )

  pub raises : (slots id : ℕ) (l : Known E) (t : ℕ) (f : Option F) (state : S) (new : ℕ)
      → GrowsBy lane_of l.number l.seen (entries state) → Some (fixed state) ≡ f → length (entries state) < 4294967296
      → new ≡ length (entries state) * 4294967296 + (t + 1) % 4294967296
      → Allows Rule slots id (serves l t f (Some state)) 1 (λ _. new)
      (λ _. Raises lane_of entries fixed (serves l t f (Some state)))
  raises slots id l t f state new grows same-part short is s o wide me _ =
      subst (Goes s 1 id (serves l t f (Some state)) (λ _. new)
      (λ _. Raises lane_of entries fixed (serves l t f (Some state)))) (sym o.words)
      (raises_at s o id l t f state new me grows same-part short is)

  pub raises_as : (slots id : ℕ) (l : Known E) (t : ℕ) (f : Option F) (m : Me (Option S) (View E F)) (state : S)
      (new : ℕ) → m ≡ serves l t f (Some state)
      → GrowsBy lane_of l.number l.seen (entries state) → Some (fixed state) ≡ f → length (entries state) < 4294967296
      → new ≡ length (entries state) * 4294967296 + (t + 1) % 4294967296
      → Allows Rule slots id m 1 (λ _. new) (λ _. Raises lane_of entries fixed m)
  raises_as slots id l t f m state new is grows same-part short word =
      subst (λ (x : Me (Option S) (View E F)). Allows Rule slots id x 1 (λ _. new)
      (λ _. Raises lane_of entries fixed x)) (sym is) (raises slots id l t f state new grows same-part short word)
