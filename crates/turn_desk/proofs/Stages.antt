-- Tickets, turns and views where one seat changes.
use Rattle.std.proofs.Common.{◌≡◌, ℕ, zero, suc, List, [], ◌∷◌, refl, sym, subst, arith, ◌≢◌, ◌<◌, ◌≤◌, Some, ◌+◌}
use Rattle.std.proofs.Common.{length, set, ⊎_elim}
use lib.ListN.{get_elem?}
use mathlib.Core.Option.{some, some-ne-none}
use Rattle.atomic_table.proofs.Lists.{at_set}
use Rattle.turn_desk.specs.declared.view.Known.{Known}
use Rattle.turn_desk.specs.declared.view.Stage.{Stage}
use Rattle.turn_desk.specs.declared.view.Stage.TheVariants.{Idle, Waiting, Serving}
use Rattle.turn_desk.specs.Rule.{tickets, times_held, IsServing, TicketFits}
use Rattle.turn_desk.proofs.Parts.{one_where-same, one_where-apart, one_where_zero}

-- a fact about each view, after one has changed
pub views_set : {V : Type 0} (P : V → Type 0) (vs : List V) (id : ℕ) (w : V)
    → ((j : ℕ) (u : V) → j ≢ id → get_elem? vs j ≡ some u → P u) → P w
    → (j : ℕ) (u : V) → get_elem? (set vs id w) j ≡ some u → P u
views_set P vs id w others mine j u e =
    ⊎_elim (λ (x : (j ≡ id) × (w ≡ u)). subst P x.1 mine)
    (λ (x : (j ≢ id) × (get_elem? vs j ≡ some u)). others j u x.0 x.1) (at_set vs id j w u e)

pub at_within : {V : Type 0} (vs : List V) (id : ℕ) (v : V) → get_elem? vs id ≡ some v → id < length vs
at_within [] id v e = absurd (some-ne-none v (sym e))
at_within (x ∷ xs) zero v e = omega arith
at_within (x ∷ xs) (suc id) v e = omega (arith, at_within xs id v e)

pub Some_is : {A : Type 0} {a b : A} → Some a ≡ Some b → a ≡ b
Some_is e = cc e

-- a ticket that is not drawn is with no seat
pub undrawn : {E : Type 0} (drawn served : ℕ) (history : List E) (lanes : List (Known E)) (stage : Stage) (t : ℕ)
    → drawn ≤ t → TicketFits drawn served history lanes stage → times_held t stage ≡ 0
undrawn drawn served history lanes Idle t h f = refl
undrawn drawn served history lanes (Waiting u) t h f = one_where-apart u t (λ e. omega (arith, f.1))
undrawn drawn served history lanes (Serving u) t h f = one_where-apart u t (λ e. omega (arith, f.1))

-- one more ticket is drawn
pub drawn_more : {E : Type 0} (drawn served : ℕ) (history : List E) (lanes : List (Known E)) (stage : Stage)
    → TicketFits drawn served history lanes stage → TicketFits (drawn + 1) served history lanes stage
drawn_more drawn served history lanes Idle f = tt
drawn_more drawn served history lanes (Waiting u) f = (f.0, omega (arith, f.1), f.2)
drawn_more drawn served history lanes (Serving u) f = (f.0, omega (arith, f.1), f.2, f.3)

-- a seat with a ticket has a lane
pub ticket_le : {E : Type 0} (drawn served : ℕ) (history : List E) (lanes : List (Known E)) (stage : Stage)
    → TicketFits drawn served history lanes stage → tickets stage ≤ length lanes
ticket_le drawn served history lanes Idle f = omega arith
ticket_le drawn served history lanes (Waiting u) f = omega (arith, f.2)
ticket_le drawn served history lanes (Serving u) f = omega (arith, f.2)

-- who has the turn has the ticket that is served
pub serving_ticket : {E : Type 0} (drawn served : ℕ) (history : List E) (lanes : List (Known E)) (stage : Stage)
    → TicketFits drawn served history lanes stage → IsServing stage → times_held served stage ≡ 1
serving_ticket drawn served history lanes Idle f is = absurd is
serving_ticket drawn served history lanes (Waiting u) f is = absurd is
serving_ticket drawn served history lanes (Serving u) f is = one_where-same u served f.0

-- the turn served has passed, and this seat did not have its ticket
pub served_more : {E : Type 0} (drawn served : ℕ) (history longer : List E) (lanes : List (Known E)) (stage : Stage)
    → TicketFits drawn served history lanes stage → times_held served stage ≡ 0
    → TicketFits drawn (served + 1) longer lanes stage
served_more drawn served history longer lanes Idle f z = tt
served_more drawn served history longer lanes (Waiting u) f z = let ne =
    one_where_zero u served z in (omega (arith, f.0), f.1, f.2)
served_more drawn served history longer lanes (Serving u) f z = absurd (one_where_zero u served z f.0)

-- a seat that has the turn has a lane
pub serving_lane : {E : Type 0} (drawn served : ℕ) (history : List E) (lanes : List (Known E)) (stage : Stage)
    → TicketFits drawn served history lanes stage → IsServing stage → 0 < length lanes
serving_lane drawn served history lanes Idle f is = absurd is
serving_lane drawn served history lanes (Waiting u) f is = absurd is
serving_lane drawn served history lanes (Serving u) f is = f.2
