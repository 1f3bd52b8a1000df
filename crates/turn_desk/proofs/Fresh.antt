-- The lanes of a new desk.
use Rattle.std.proofs.Common.{refl, ℕ, List, All}
use Rattle.std.proofs.lemmas.List.Elements.{All-map}
use Rattle.turn_desk.specs.Shown.{DeskView, IsLaneOf, lane_view, new_lanes}
use Rattle.turn_desk.specs.Steps.{fresh_lanes}

-- they are that desk's
pub fresh : {E F : Type 0} (lane_of : E → ℕ) (desk : DeskView F) (history : List E)
    → All (IsLaneOf desk) (new_lanes lane_of desk history)
fresh lane_of desk history =
    All-map (IsLaneOf desk) (lane_view desk) (fresh_lanes lane_of history 0 desk.lanes) (λ k d lt. (refl, refl))
