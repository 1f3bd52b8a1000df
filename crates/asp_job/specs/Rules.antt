-- What a journal is held against.
use Rattle.std.specs.Prelude.{ℕ, List, Option, Bool}
use Rattle.asp_job.specs.declared.answer.Answer.{Answer}
use Rattle.asp_job.specs.declared.request.Request.{Request}
use Rattle.asp_job.specs.Told.{Meaning}

-- why a page has not answered
pub data Cause : Type 0 where
  TooManySessions : Cause
  OutOfMemory : Cause
  JournalFull : Cause

-- What the runs of the site do, and which jobs have a session; the letters of each session key; the key that the
-- session cookie of a request names, by its letters; the answers that stand in for a page's own; and whether a Lock
-- keeps readers out.
pub record Rules : Type 0 where
  pub meaning : Meaning
  pub letters : ℕ → List ℕ
  pub cookie_key : Request → Option ℕ
  pub unavailable : Cause → Request → Answer
  pub strict : Bool
