-- What contracts see of the Application object. All is our own.
use Rattle.std.specs.Prelude.{Bool}
use Rattle.asp_job.specs.Application.{AppState, first_state}

-- whether its lock keeps readers out, and what it holds
pub record AppView : Type 0 where
  pub strict : Bool
  pub state : AppState

-- the object under a rule before any call
abbrev pub first_view : Bool → AppView
first_view strict = record { strict = strict; state = first_state }

-- the object when it holds this: its rule stays
abbrev pub with_state : AppView → AppState → AppView
with_state object state = record { strict = object.strict; state = state }
