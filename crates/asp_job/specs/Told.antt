-- What a run is told, and what it then does. All of it is our own.
use Rattle.std.specs.Prelude.{ℕ, Bool, List, [], ◌∷◌, ◌++◌, Option}
use Rattle.vb_value.specs.declared.application.AppCall.{AppCall}
use Rattle.vb_value.specs.declared.application.AppReply.{AppReply}
use Rattle.asp_job.specs.declared.answer.Finished.{Finished}
use Rattle.asp_job.specs.declared.job.Job.{Job}
use Rattle.asp_job.specs.declared.session.SessionState.{SessionState}

-- What a run was told so far: its job; its session, and whether that is a new one; the letters of its key, where its
-- job made that key; and the replies to its calls, in their order.
pub record Told : Type 0 where
  pub job : Job
  pub session : Option SessionState
  pub is_new : Bool
  pub cookie : Option (List ℕ)
  pub replies : List AppReply

-- what a run comes to: it wants a call of the Application object, or it ends
pub data Outcome : Type 0 where
  Wants : AppCall → Outcome
  Ends : Finished → Outcome

-- What every run of a site does, given what it was told: what it comes to, and how many ticks it has spent by then, those
-- of all its acts together. And which jobs have a session.
pub record Meaning : Type 0 where
  pub does : Told → Outcome
  pub ticks : Told → ℕ
  pub is_keyed : Job → Bool

-- what a run is told as it begins
abbrev pub begun : Job → Option SessionState → Bool → Option (List ℕ) → Told
begun job session is_new cookie =
    record { job = job; session = session; is_new = is_new; cookie = cookie; replies = [] }

-- the same after one more reply
abbrev pub heard : Told → AppReply → Told
heard told reply = record told { replies = told.replies ++ reply ∷ [] }
