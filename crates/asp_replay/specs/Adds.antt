-- What work adds to the entries of a lane, and to what it has seen. All of it is the product's own.
use Rattle.std.specs.Prelude.{◌≡◌, List, ◌++◌}
use Rattle.turn_desk.specs.Histories.{BeginsWith}
use Rattle.turn_desk.specs.Shown.{HasOwn, LaneView}
use Rattle.asp_job.specs.declared.entry.Entry.{Entry}
use Rattle.asp_desk.specs.Calls.{AreWork}

-- The lane has seen what it had seen and more. Its own entries have grown by Begins, calls and Ends, and by no others;
-- and they are still those with its number in what it has seen, if they were.
pub record AddsWork {F : Type 0} (old new : LaneView Entry F) : Type 0 where
  pub number : new.number ≡ old.number
  pub later : BeginsWith new.seen old.seen
  pub entries : List Entry
  pub own_is : new.own ≡ old.own ++ entries
  pub work : AreWork entries
  pub keeps : HasOwn (λ entry. entry.lane) old → HasOwn (λ entry. entry.lane) new
