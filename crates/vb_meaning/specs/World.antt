-- The world: all that statements change, but for the ticks, the environment and the replies.
use Rattle.std.specs.Prelude.{ℕ, Bool, List}
use Rattle.vb_heap.specs.declared.place.CellNo.{CellNo}
use Rattle.vb_heap.specs.Store.{Store}
use Rattle.vb_meaning.specs.declared.cause.Raised.{Raised}
use Rattle.vb_meaning.specs.declared.world.Frame.{Frame}

pub record World : Type 0 where
  -- the data of the page: cells and objects
  pub store : Store
  -- the cells of the page's variables, by their numbers
  pub page : List CellNo
  -- the procedure that runs
  pub frame : Frame
  -- what Err holds
  pub err : Raised
  -- how many procedures are entered and not left
  pub calls : ℕ
  -- a terminator runs
  pub terminates : Bool
  -- the page has ended, and its last objects end
  pub page_ended : Bool
  -- how many objects have ended
  pub finished : ℕ
