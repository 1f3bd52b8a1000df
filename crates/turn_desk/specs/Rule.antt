-- The rule of a desk, which holds between any two atomic steps. A desk has two words, for the tickets drawn, and for
-- the turn served with the length of the history; and a slot for the state.
use Rattle.std.specs.Prelude.{◌≡◌, ◌⊎◌, ℕ, ◌+◌, ◌*◌, ◌%◌, ◌<◌, ◌≤◌, ◌==◌, nat_lt, if◌then◌else◌}
use Rattle.std.specs.Prelude.{List, [], ◌∷◌, length, Option, Some}
use mathlib.Core.Option.{some, none}
use lib.ListN.{get_elem?}
use Rattle.atomic_table.specs.Table.{State}
use Rattle.turn_desk.specs.declared.view.Known.{Known}
use Rattle.turn_desk.specs.declared.view.Stage.{Stage}
use Rattle.turn_desk.specs.declared.view.Stage.TheVariants.{Idle, Waiting, Serving}
use Rattle.turn_desk.specs.declared.view.View.{View}
use Rattle.turn_desk.specs.Histories.{total, Every, AreOfLanes, Agrees}

-- 1 where two numbers are equal, else 0
abbrev pub one_where : ℕ → ℕ → ℕ
one_where x y = if x == y then 1 else 0

-- 1 where a lane has this number, else 0
abbrev pub one_below : ℕ → ℕ → ℕ
one_below number count = if nat_lt number count then 1 else 0

-- how many tickets a seat has
abbrev pub tickets : Stage → ℕ
tickets Idle = 0
tickets (Waiting ticket) = 1
tickets (Serving ticket) = 1

-- how often a seat has this ticket
abbrev pub times_held : ℕ → Stage → ℕ
times_held t Idle = 0
times_held t (Waiting ticket) = one_where ticket t
times_held t (Serving ticket) = one_where ticket t

-- the seat has the turn
abbrev pub IsServing : Stage → Type 0
IsServing Idle = ⊥
IsServing (Waiting ticket) = ⊥
IsServing (Serving ticket) = Unit {0}

-- the words: the tickets drawn; the length of the history in the high half of the second, the turn served in its low half
abbrev pub words_after : ℕ → ℕ → ℕ → List ℕ
words_after drawn served long = (drawn % 18446744073709551616) ∷ (long * 4294967296 + served % 4294967296) ∷ []

module _ {E : Type 0} where
  -- a lane's number, what it has seen and its own entries
  abbrev pub known : ℕ → List E → List E → Known E
  known number seen own = record { number = number; seen = seen; own = own }

  -- a ticket that a seat has was drawn, and its turn has not passed; the seat with the turn has seen the whole history
  abbrev pub TicketFits : ℕ → ℕ → List E → List (Known E) → Stage → Type 0
  TicketFits drawn served history lanes Idle = Unit {0}
  TicketFits drawn served history lanes (Waiting ticket) = (served ≤ ticket) × (ticket < drawn) × (0 < length lanes)
  TicketFits drawn served history lanes (Serving ticket) =
      (ticket ≡ served) × (ticket < drawn) × (0 < length lanes) × Every (λ lane. lane.seen ≡ history) lanes

module _ {E F : Type 0} where
  -- what a seat knows: its lanes, its ticket and the fixed part of the state
  abbrev pub view : List (Known E) → Stage → Option F → View E F
  view lanes stage fixed = record { lanes = lanes; stage = stage; fixed = fixed }

  -- how often a seat has the lane of this number
  abbrev pub times_seated : ℕ → View E F → ℕ
  times_seated number v = total (λ lane. one_where lane.number number) v.lanes

module _ {S E F : Type 0} (lane_of : E → ℕ) (entries : S → List E) (fixed : S → F) where
  -- what is known of a lane agrees with the history
  abbrev pub KnownFits : List E → Known E → Type 0
  KnownFits history lane = Agrees lane_of history lane.number lane.seen lane.own

  -- what a seat knows is so
  abbrev pub SeatFits : F → ℕ → ℕ → List E → View E F → Type 0
  SeatFits part drawn served history v =
      (0 < length v.lanes → v.fixed ≡ Some part) × Every (KnownFits history) v.lanes
      × TicketFits drawn served history v.lanes v.stage

  -- the state is at home and has this history, or it is out with the seat that has the turn
  abbrev pub StateFits : F → List E → State (Option S) (View E F) → Type 0
  StateFits part history table =
      ((state : S) × (table.homes ≡ some (Some state) ∷ []) × (entries state ≡ history) × (fixed state ≡ part))
      ⊎ ((table.homes ≡ none ∷ [])
      × ((seat : ℕ) × (v : View E F) × (get_elem? table.views seat ≡ some v) × IsServing v.stage))

  -- a desk of so many lanes, with this fixed part
  pub record IsOrderly (count : ℕ) (part : F) (table : State (Option S) (View E F)) : Type 0 where
    pub history : List E
    pub drawn : ℕ
    pub served : ℕ
    pub words : table.words ≡ words_after drawn served (length history)
    pub short : length history < 4294967296
    pub of_lanes : AreOfLanes lane_of count history
    pub few : count ≤ 32
    -- each lane is with one seat
    pub lanes : total (λ v. length v.lanes) table.views ≡ count
    pub once : (number : ℕ) → total (times_seated number) table.views ≡ one_below number count
    -- each ticket that is out, drawn and not yet served, is with one seat
    pub out : served + total (λ v. tickets v.stage) table.views ≡ drawn
    pub apart : (ticket : ℕ) → total (λ v. times_held ticket v.stage) table.views ≤ 1
    pub views : (seat : ℕ) (v : View E F) → get_elem? table.views seat ≡ some v →
        SeatFits part drawn served history v
    pub state : StateFits part history table
