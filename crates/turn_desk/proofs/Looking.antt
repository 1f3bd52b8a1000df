-- A look keeps the rule, and what it tells.
use Rattle.std.proofs.Common.{◌≡◌, ℕ, List, [], ◌∷◌, refl, sym, ap, ◌∙◌, subst, arith, Option, ◌≢◌, ◌<◌, ◌≤◌, eq-eqb}
use Rattle.std.proofs.Common.{ne_eqb, ◌%◌, Some, None, MatchBool, IfSome, IfNone, ◌*◌, ◌+◌, length, set, inr, ⊎_elim}
use lib.ListN.{get_elem?}
use mathlib.Core.Logic.{dite}
use mathlib.Core.Option.{some, none, some-injective}
use native.Mathlib.Decide.{ℕ_discrete}
use Rattle.atomic_table.proofs.Lists.{set_here, set_again, one_turn}
use Rattle.atomic_table.specs.Table.{Me, rest, State, keeps, takes, Allows}
use Rattle.turn_desk.specs.declared.view.Known.{Known}
use Rattle.turn_desk.specs.declared.view.Stage.TheVariants.{Waiting, Serving}
use Rattle.turn_desk.specs.declared.view.View.{View}
use Rattle.turn_desk.specs.Histories.{BeginsWith, own_part}
use Rattle.turn_desk.specs.Rule.{tickets, times_held, IsServing, words_after, known, view, times_seated, SeatFits}
use Rattle.turn_desk.specs.Rule.{IsOrderly}
use Rattle.turn_desk.specs.Steps.{ticket_of, waits, IsWaiting, in_turn, HasTurn, Looks, TakesTurn}
use Rattle.turn_desk.proofs.Kept.{Steps}
use Rattle.turn_desk.proofs.Parts.{one_where-same, begins-self}
use Rattle.turn_desk.proofs.Stages.{views_set, at_within, ticket_le, serving_ticket}
use Rattle.turn_desk.proofs.Totals.{total-set, terms_le, total-le}

module _ {S E F : Type 0} (lane_of : E → ℕ) (entries : S → List E) (fixed : S → F) (count : ℕ) (part : F) where
  abbrev Rule : State (Option S) (View E F) → Type 0
  Rule = IsOrderly lane_of entries fixed count part

  abbrev Fits : ℕ → ℕ → List E → View E F → Type 0
  Fits = SeatFits lane_of entries fixed part

  abbrev Goes : State (Option S) (View E F) → ℕ → ℕ → Me (Option S) (View E F) → (ℕ → ℕ)
      → (ℕ → Me (Option S) (View E F) → Type 0) → List ℕ → Type 0
  Goes = Steps lane_of entries fixed count part

  -- fewer than 2^32 tickets are out, so the low half of a ticket tells whether it is the one that is served
  near : (s : State (Option S) (View E F)) (o : Rule s) → o.drawn ≤ o.served + 32
  near s o =
      let small = total-le (λ (u : View E F). tickets u.stage) (λ (u : View E F). length u.lanes) s.views
      (λ j u at. ticket_le o.drawn o.served o.history u.lanes u.stage (o.views j u at).2) in
      omega (arith, small, o.lanes, o.few, o.out)

  -- a seat that waits with the ticket served: the state is at home
  home_at_turn : (s : State (Option S) (View E F)) (o : Rule s) (id : ℕ) (l : Known E) (f : Option F) (t : ℕ)
      → get_elem? s.views id ≡ some (view (l ∷ []) (Waiting t) f) → t ≡ o.served
      → (state : S) × (s.homes ≡ some (Some state) ∷ []) × (entries state ≡ o.history) × (fixed state ≡ part)
  home_at_turn s o id l f t me is =
      ⊎_elim
      (λ (t : (state : S) × (s.homes ≡ some (Some state) ∷ []) × (entries state ≡ o.history)
      × (fixed state ≡ part)). t)
      (λ (x : (s.homes ≡ none ∷ []) × ((j : ℕ) × (u : View E F) × (get_elem? s.views j ≡ some u)
      × IsServing u.stage)).
      let v : View E F = view (l ∷ []) (Waiting t) f in
      let apart : x.1.0 ≢ id = λ e. subst (λ (u : View E F). IsServing u.stage)
      (some-injective x.1.1 v (sym x.1.2 ∙ (ap (λ j. get_elem? s.views j) e ∙ me))) x.1.3 in
      let theirs = serving_ticket o.drawn o.served o.history x.1.1.lanes x.1.1.stage (o.views x.1.0 x.1.1 x.1.2).2
      x.1.3 in
      absurd (omega (
        arith,
        terms_le (λ (u : View E F). times_held o.served u.stage) s.views id x.1.0 v x.1.1 apart
            me x.1.2,
        theirs,
        one_where-same t o.served is,
        o.apart o.served,
      )))
      o.state

  looks_at : (s : State (Option S) (View E F)) (o : Rule s) (id : ℕ) (l : Known E) (t : ℕ) (f : Option F)
      → get_elem? s.views id ≡ some (view (l ∷ []) (Waiting t) f)
      → Goes s 1 id (waits l t f) (λ n. n) (Looks lane_of entries fixed (waits l t f))
      (words_after o.drawn o.served (length o.history))
  looks_at s o id l t f me =
      let v : View E F = view (l ∷ []) (Waiting t) f in
      let mine = o.views id v me in
      let long : ℕ = length o.history in
      let short : long < 4294967296 = o.short in
      let found : ℕ = long * 4294967296 + o.served % 4294967296 in
      let high : found % 4294967296 ≡ o.served % 4294967296 = omega arith in
      let bound = near s o in
      dite (ℕ_discrete (found % 4294967296) (t % 4294967296))
      (λ e.
      let is : t ≡ o.served = sym (one_turn o.served t 4294967296 mine.2.0 (omega (arith, mine.2.1)) (sym high ∙ e))
      in
      let home = home_at_turn s o id l f t me is in
      let h : List E = entries home.0 in
      let whole : h ≡ o.history = home.2 in
      let fit = mine.1.0 in
      let w : View E F = view (known l.number h l.own ∷ []) (Serving t) f in (
        w,
        takes 0 (Some home.0),
        ap (λ (hs : List _). get_elem? hs 0) home.1,
        record {
          history = o.history;
          drawn = o.drawn;
          served = o.served;
          words = refl;
          short = o.short;
          of_lanes = o.of_lanes;
          few = o.few;
          lanes = omega (arith, total-set (λ u. length u.lanes) s.views id v w me, o.lanes);
          once = λ k. omega (arith, total-set (times_seated k) s.views id v w me, o.once k);
          out = omega (arith, total-set (λ u. tickets u.stage) s.views id v w me, o.out);
          apart = λ k. omega (arith, total-set (λ u. times_held k u.stage) s.views id v w me, o.apart k);
          views = views_set (Fits o.drawn o.served o.history) s.views id w (λ j u ne at. o.views j u at) (
            mine.0,
            ((subst (λ z. BeginsWith o.history z) (sym whole) (begins-self o.history), fit.1), tt),
            (is, mine.2.1, mine.2.2, (whole, tt)),
          );
          state = inr (
            ap (λ (hs : List _). set hs 0 none) home.1,
            (id, w, set_here s.views id w (at_within s.views id v me), tt),
          );
        },
        subst (λ b. MatchBool b (HasTurn lane_of entries fixed (waits l t f) (w, (0, Some home.0) ∷ []))
            ((w, (0, Some home.0) ∷ []) ≡ waits l t f)) (sym (eq-eqb _ _ e)) (
              home.0,
              refl,
              (
                (subst (λ z. BeginsWith z l.seen) (sym whole) fit.0, ap (own_part lane_of l.number) whole ∙ fit.1),
                ap Some home.3 ∙ sym (mine.0 (omega arith)),
                subst (λ (z : List E). length z < 4294967296) (sym whole) o.short,
              ),
            ),
      ))
      (λ ne. (
        v,
        keeps,
        tt,
        subst (λ (vs : List (View E F)). Rule (record
            { words = words_after o.drawn o.served long; homes = s.homes; views = vs }))
            (sym (set_again s.views id v me)) (subst (λ (ws : List ℕ). Rule
            (record { words = ws; homes = s.homes; views = s.views })) o.words o),
        subst (λ b. MatchBool b (HasTurn lane_of entries fixed (waits l t f) (v, []))
            ((v, []) ≡ waits {S = S} l t f)) (sym (ne_eqb _ _ ne)) refl,
      ))

  pub looks : (slots id : ℕ) (l : Known E) (t : ℕ) (f : Option F)
      → Allows Rule slots id (waits l t f) 1 (λ n. n) (Looks lane_of entries fixed (waits l t f))
  looks slots id l t f s o wide me _ = subst (Goes s 1 id (waits l t f) (λ n. n)
      (Looks lane_of entries fixed (waits l t f))) (sym o.words) (looks_at s o id l t f me)

  pub looks_as : (slots id ticket : ℕ) (m : Me (Option S) (View E F)) → IsWaiting ticket m
      → Allows Rule slots id m 1 (λ n. n) (Looks lane_of entries fixed m)
  looks_as slots id ticket m is = subst (λ (x : Me (Option S) (View E F)). Allows Rule slots id x 1 (λ n. n)
      (Looks lane_of entries fixed x)) (sym is.3) (looks slots id is.0 is.1 is.2)

-- the value in the slot that was taken last
abbrev value_of : {A : Type 0} → A → List (ℕ × A) → A
value_of d [] = d
value_of d (x ∷ xs) = x.1

module _ {S E F : Type 0} (lane_of : E → ℕ) (entries : S → List E) (fixed : S → F) where
  same_ticket : (ticket found : ℕ) (m : Me (Option S) (View E F)) → IsWaiting ticket m
      → ticket ≡ ticket_of m.0.stage % 4294967296
  same_ticket ticket found m is = is.4 ∙ sym (ap (λ (x : Me (Option S) (View E F)). ticket_of x.0.stage %
      4294967296) is.3)

  pub has_turn : (ticket found : ℕ) (m n : Me (Option S) (View E F)) → IsWaiting ticket m
      → Looks lane_of entries fixed m found n → found % 4294967296 ≡ ticket → HasTurn lane_of entries fixed m n
  has_turn ticket found m n is look e = subst (λ b. MatchBool b (HasTurn lane_of entries fixed m n) (n ≡ m))
      (eq-eqb _ _ (e ∙ same_ticket ticket found m is)) look

  pub has_no_turn : (ticket found : ℕ) (m n : Me (Option S) (View E F)) → IsWaiting ticket m
      → Looks lane_of entries fixed m found n → found % 4294967296 ≢ ticket → n ≡ m
  has_no_turn ticket found m n is look ne = subst (λ b. MatchBool b (HasTurn lane_of entries fixed m n) (n ≡ m))
      (ne_eqb _ _ (λ e. ne (e ∙ sym (same_ticket ticket found m is)))) look

  -- the value that comes out of the slot
  pub taken_out : (m n p : Me (Option S) (View E F)) (out : Option S) → HasTurn lane_of entries fixed m n
      → n.1 ≡ (0, out) ∷ rest n.1 → p ≡ (n.0, (0, None) ∷ rest n.1)
      → (state : S) × (out ≡ Some state) × TakesTurn lane_of entries fixed m state p
  taken_out m n p out turn first put =
      let state = turn.0 in
      let slots : n.1 ≡ (0, Some state) ∷ [] = ap (λ (x : Me (Option S) (View E F)). x.1) turn.1 in
      let same : out ≡ Some state = ap (value_of None) (sym first ∙ slots) in
      let after : p ≡ (in_turn m.0 (entries state), (0, None) ∷ []) = put
      ∙ ap (λ (x : Me (Option S) (View E F)). (x.0, (0, None) ∷ rest x.1)) turn.1 in
      (state, same, (after, turn.2))

  -- the slot that is out with the seat
  pub slot_out : (m n : Me (Option S) (View E F)) → HasTurn lane_of entries fixed m n
      → (x : Option S) × (n.1 ≡ (0, x) ∷ rest n.1)
  slot_out m n turn =
      let slots : n.1 ≡ (0, Some turn.0) ∷ [] = ap (λ (x : Me (Option S) (View E F)). x.1) turn.1 in
      (Some turn.0, slots ∙ ap (λ (l : List (ℕ × Option S)). (0, Some turn.0) ∷ rest l) (sym slots))

  pub if_taken : (m p : Me (Option S) (View E F)) (out : Option S)
      → (state : S) × (out ≡ Some state) × TakesTurn lane_of entries fixed m state p
      → IfSome out (λ state. TakesTurn lane_of entries fixed m state p) × IfNone out (p ≡ m)
  if_taken m p out t = subst (λ (o : Option S). IfSome o (λ state. TakesTurn lane_of entries fixed m state p)
      × IfNone o (p ≡ m)) (sym t.1) (t.2, tt)
