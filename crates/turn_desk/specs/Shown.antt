-- What contracts see of a desk, a lane and a turn.
use Rattle.std.specs.Prelude.{◌≡◌, ℕ, ◌%◌, ◌<◌, Any, List, map, Option, Some, None}
use Rattle.atomic_table.specs.Seated.{TableId}
use Rattle.atomic_table.specs.Table.{Me}
use Rattle.turn_desk.specs.declared.view.View.{View}
use Rattle.turn_desk.specs.declared.view.Known.{Known}
use Rattle.turn_desk.specs.Rule.{known}
use Rattle.turn_desk.specs.Steps.{seen_of, own_of, ticket_of, idle, serves, fresh_lanes}
use Rattle.turn_desk.specs.Histories.{own_part, Agrees}

-- which desk it is, how many lanes it has, and the fixed part of its state
pub record DeskView (F : Type 0) : Type 0 where
  pub id : TableId
  pub lanes : ℕ
  pub fixed : F

-- a lane's desk and number, the history that it has seen, its own entries, and the fixed part of the state
pub record LaneView (E F : Type 0) : Type 0 where
  pub desk : TableId
  pub number : ℕ
  pub seen : List E
  pub own : List E
  pub fixed : Option F

-- the same of a lane in its turn, which has seen the history as the turn began, and the state as it now is
pub record TurnView (S E F : Type 0) : Type 0 where
  pub desk : TableId
  pub number : ℕ
  pub seen : List E
  pub own : List E
  pub fixed : Option F
  pub state : S

-- a turn with another state
abbrev pub with_state : {S E F : Type 0} → TurnView S E F → S → TurnView S E F
with_state turn state = record turn { state = state }

module _ {E F : Type 0} where
  -- a lane of this desk
  abbrev pub IsLaneOf : DeskView F → LaneView E F → Type 0
  IsLaneOf desk lane = (lane.desk ≡ desk.id) × (lane.fixed ≡ Some desk.fixed)

  -- a lane of the same desk, with the same number
  abbrev pub IsSameLane : LaneView E F → LaneView E F → Type 0
  IsSameLane old new = (new.desk ≡ old.desk) × (new.number ≡ old.number) × (new.fixed ≡ old.fixed)

  -- a history begins with all that the lane has seen, and has of the lane just its own entries
  abbrev pub LaneFits : (E → ℕ) → List E → LaneView E F → Type 0
  LaneFits lane_of history lane = Agrees lane_of history lane.number lane.seen lane.own

  -- a lane's own entries are those with its number in what it has seen
  abbrev pub HasOwn : (E → ℕ) → LaneView E F → Type 0
  HasOwn lane_of lane = lane.own ≡ own_part lane_of lane.number lane.seen

  -- each of so many lanes, which are numbered from 0, is among these
  abbrev pub AreAll : ℕ → List (LaneView E F) → Type 0
  AreAll count lanes = (number : ℕ) → number < count → Any (λ lane. lane.number ≡ number) lanes

  -- a desk's lane that knows this
  abbrev pub lane_view : DeskView F → Known E → LaneView E F
  lane_view desk lane =
      record { desk = desk.id; number = lane.number; seen = lane.seen; own = lane.own; fixed = Some desk.fixed }

  -- the lanes of a new desk, numbered from 0, which have seen all of its history
  abbrev pub new_lanes : (E → ℕ) → DeskView F → List E → List (LaneView E F)
  new_lanes lane_of desk history = map (lane_view desk) (fresh_lanes lane_of history 0 desk.lanes)

-- ---- which seats lanes and turns have

module _ {S E F : Type 0} (lane_of : E → ℕ) where
  -- the lane of this number, without a ticket
  abbrev pub IsLaneSeat : ℕ → Me (Option S) (View E F) → Type 0
  IsLaneSeat number m =
      (m ≡ idle (known number (seen_of m.0.lanes) (own_of m.0.lanes)) m.0.fixed)
      × (own_part lane_of number (seen_of m.0.lanes) ≡ own_of m.0.lanes)

  -- the lane of this number, with the turn of a ticket with this low half, while the state is out of its slot
  abbrev pub IsTurnSeat : ℕ → ℕ → Me (Option S) (View E F) → Type 0
  IsTurnSeat number low m =
      (m ≡ serves (known number (seen_of m.0.lanes) (own_of m.0.lanes)) (ticket_of m.0.stage) m.0.fixed None)
      × (low ≡ ticket_of m.0.stage % 4294967296) × (own_part lane_of number (seen_of m.0.lanes) ≡ own_of m.0.lanes)
