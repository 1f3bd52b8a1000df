-- What callers say of a turn: that it lends its state, and that a call of theirs is one turn of a lane.
use Rattle.std.specs.Prelude.{◌≡◌, ℕ, List, []}
use Rattle.std.specs.Borrow.{Lends, MutBor, Fml}
use denote.RattleType.{RattleType}
use mir.Syntax.{named}
use Rattle.turn_desk.specs.declared.stands.Stands.{Ghosts}
use Rattle.turn_desk.specs.contracts.turn.Turn.{the_row}
use Rattle.turn_desk.specs.Histories.{own_part, GrowsBy}
use Rattle.turn_desk.specs.Shown.{LaneView, TurnView, IsSameLane, LaneFits, with_state}

-- a turn lends its state, and ends with what is left in it
abbrev pub LendsState : (S E F : RattleType) → Ghosts S.Denot E.Denot F.Denot →
    MutBor (TurnView S.Denot E.Denot F.Denot) → MutBor S.Denot → Fml
LendsState S E F stands turn state =
    Lends (the_row (record { mir = named 0; lft = [] }) S E F stands) S turn state (with_state turn.now)

-- a call that is one turn of a lane, with this answer: on some history, which begins with all that the lane had seen and
-- has of the lane just its own entries, it does what `does` says of that history, the answer and the history that it
-- leaves
pub record IsOneTurn {E F A : Type 0} (lane_of : E → ℕ) (does : List E → A → List E → Type 0) (old : LaneView E F)
    (answer : A) (new : LaneView E F) : Type 0 where
  pub before : List E
  pub fits : LaneFits lane_of before old
  pub done : does before answer new.seen
  pub grows : GrowsBy lane_of old.number before new.seen
  pub own : new.own ≡ own_part lane_of old.number new.seen
  pub lane : IsSameLane old new
