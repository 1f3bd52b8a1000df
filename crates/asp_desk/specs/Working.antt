-- What work adds to the entries of a lane. All of it is the product's own.
use Rattle.std.specs.Prelude.{◌≡◌, List, ◌++◌}
use Rattle.turn_desk.specs.Shown.{LaneView}
use Rattle.asp_job.specs.declared.entry.Entry.{Entry}
use Rattle.asp_desk.specs.Calls.{AreWork}

-- the lane's own entries have grown by Begins, calls and Ends, and by no others
pub record AddsWork {F : Type 0} (old new : LaneView Entry F) : Type 0 where
  pub number : new.number ≡ old.number
  pub entries : List Entry
  pub own_is : new.own ≡ old.own ++ entries
  pub work : AreWork entries
