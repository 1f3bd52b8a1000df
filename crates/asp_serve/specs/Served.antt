-- What is served on one connection. All of it is the product's own.
use Rattle.std.specs.Prelude.{◌≡◌, ◌⊎◌, ℕ, ◌<◌, ◌≤◌, ◌^◌, Bool, true, false}
use Rattle.std.specs.Prelude.{List, [], ◌∷◌, ◌++◌, length, reverse, take, Option, Some, None, IfSome}
use Rattle.std.specs.Prelude.{option_map, option_to_list}
use Rattle.httparse.specs.Grammar.{RequestHead}
use Rattle.turn_desk.specs.Histories.{BeginsWith}
use Rattle.turn_desk.specs.Shown.{LaneView}
use Rattle.vb_value.specs.declared.application.AppCall.{AppCall}
use Rattle.asp_io.specs.Faults.{HasRisen}
use Rattle.asp_io.specs.Sink.{with_bytes}
use Rattle.asp_job.specs.declared.entry.Entry.{Entry}
use Rattle.asp_job.specs.declared.request.Request.{Request}
use Rattle.asp_job.specs.History.{call_entry}
use Rattle.asp_job.specs.Journal.{admit_entries, past_after}
use Rattle.asp_job.specs.Rules.{Rules}
use Rattle.asp_job.specs.Runs.{is_halted, is_stopping}
use Rattle.asp_journal.specs.declared.full.Full.{Full}
use Rattle.http_front.specs.Front.{IsFront, Taken, Takes}
use Rattle.http_front.specs.Front as front
use Rattle.http_front.specs.Reader.{AreRequests, Wants}
use Rattle.http_front.specs.Request.{IsRequestFor}
use Rattle.asp_response.specs.AnswerText.{IsAnswerText}
use Rattle.asp_response.specs.Fixed.{status_answer_of}
use Rattle.asp_core.specs.Kernel.{IsBeginTooMuch, IsTooMuch}
use Rattle.asp_serve.specs.declared.ending.LinkEnd.{LinkEnd}
use Rattle.asp_serve.specs.declared.ending.LinkEnd.TheVariants as end
use Rattle.asp_serve.specs.Jobs.{AreAdmitted, AreAnswered, AreOfLink, Asking, IsAnswered, NoneBehindClose}
use Rattle.asp_serve.specs.Jobs.{closing, has_closed, job_for, jobs_in}

-- ---- the connection and the lane

-- what contracts see of a connection: the bytes that were not read and those that were written, where it tells them, and
-- its count of faults
pub record LinkView : Type 0 where
  pub left : Option (List ℕ)
  pub held : Option (List ℕ)
  pub faults : ℕ

-- these bytes came, and these were written
pub record Moves (old new : LinkView) (came written : List ℕ) : Type 0 where
  pub came_is : old.left ≡ option_map (λ after. came ++ after) new.left
  pub written_is : new.held ≡ with_bytes old.held written
  pub later : old.faults ≤ new.faults
  pub within : old.faults < 2 ^ 64 → new.faults < 2 ^ 64

-- a lane of journals
abbrev pub Lane : Type 0 → Type 0
Lane F = LaneView Entry F

-- From one moment of a lane to a later one: it has seen more, and its new own entries brought these jobs. None of them is
-- a Stop or a Halt.
pub record Grows {F : Type 0} (may_give : ℕ → Type 0) (old new : Lane F) (jobs : List Asking) : Type 0 where
  pub seen : BeginsWith new.seen old.seen
  pub number : new.number ≡ old.number
  pub more : List Entry
  pub own : new.own ≡ old.own ++ more
  pub jobs_are : jobs_in more ≡ jobs
  pub entries : AreOfLink may_give more

-- ---- what did not fit

-- the job of such a request would have been too much; a call would have been
abbrev pub JobIsTooMuch : Rules → (Request → Type 0) → ℕ → List Entry → Full → Type 0
JobIsTooMuch rules asked lane past full =
    (request : Request) × (second : ℕ) × asked request
    × IsTooMuch (past_after past (admit_entries rules past lane (job_for request second))) full

abbrev pub CallIsTooMuch : ℕ → List Entry → Full → Type 0
CallIsTooMuch lane past full =
    (run : ℕ) × (call : AppCall) × IsTooMuch (call_entry past lane run call ∷ past) full

-- At a turn between these two moments of a lane, which found the journal `before`, it would have been so full: with the
-- job of such a request, with a Begin, or with a call.
pub record IsFull {F : Type 0} (rules : Rules) (asked : Request → Type 0) (old new : Lane F)
    (full : Full) : Type 0 where
  pub before : List Entry
  pub later : BeginsWith before old.seen
  pub earlier : BeginsWith new.seen before
  pub much : JobIsTooMuch rules asked old.number (reverse before) full
      ⊎ (IsBeginTooMuch rules (reverse before) old.number full
      ⊎ CallIsTooMuch old.number (reverse before) full)

-- the request is the one that these bytes give first, maybe as the last of its connection
abbrev pub IsNextOf : List ℕ → Request → Type 0
IsNextOf bytes request =
    (h : RequestHead) × (body : List ℕ) × (after : List ℕ) × (read : Request) × (last : Bool)
    × IsFront bytes (front.Request h body after) × IsRequestFor h body read × (request ≡ closing last read)

-- ---- what was served

-- the jobs whose answers were written whole, then at most one other; the bytes behind the request of the last job; and
-- what was written behind the answers
pub record Served : Type 0 where
  pub answered : List Asking
  pub unanswered : Option Asking
  pub rest : List ℕ
  pub tail : List ℕ

-- all jobs
abbrev pub all_of : Served → List Asking
all_of served = served.answered ++ option_to_list served.unanswered

-- all are answered, and nothing else was written
abbrev pub IsWhole : Served → Type 0
IsWhole served = (served.unanswered ≡ None) × (served.tail ≡ [])

-- the first bytes of a text, maybe none and maybe all
abbrev pub IsCut : List ℕ → List ℕ → Type 0
IsCut text tail = (count : ℕ) × (tail ≡ take count text)

-- the fixed answer of a status, at a second that the clock may give
pub record IsFixed (may_give : ℕ → Type 0) (status : ℕ) (text : List ℕ) : Type 0 where
  pub second : ℕ
  pub may : may_give second
  pub text_is : IsAnswerText (status_answer_of status false true) second text

-- it was cut, and all jobs are answered
abbrev pub CutsFixed : (ℕ → Type 0) → Served → Type 0
CutsFixed may_give served =
    (status : ℕ) × (text : List ℕ) × (served.unanswered ≡ None) × IsFront served.rest (front.Refused status)
    × IsFixed may_give status text × IsCut text served.tail

module _ {F : Type 0} (rules : Rules) (may_give : ℕ → Type 0) where
  -- The lane's new own entries brought the jobs of the first requests of the bytes, in their order, behind so many others
  -- on this connection, and none behind one that ends it. What was written are the answers of these runs, by the history
  -- that the lane has seen, and then the tail.
  pub record HasServed (count : ℕ) (old new : Lane F) (bytes written : List ℕ) (served : Served) : Type 0 where
    pub grows : Grows may_give old new (all_of served)
    pub taken : List Taken
    pub takes : Takes bytes taken served.rest
    pub requests : List Request
    pub requests_are : AreRequests taken requests
    pub admitted : AreAdmitted rules old.number may_give count new.seen requests (all_of served)
    pub ends_it : NoneBehindClose false (all_of served)
    pub texts : List ℕ
    pub answers : AreAnswered rules (reverse new.seen) served.answered texts
    pub written_is : written ≡ texts ++ served.tail

  -- the answer of the one job that is left was cut
  abbrev pub CutsAnswer : Lane F → Served → Type 0
  CutsAnswer new served =
      (asking : Asking) × (text : List ℕ) × (served.unanswered ≡ Some asking)
      × IsAnswered rules (reverse new.seen) asking text × IsCut text served.tail

  -- Which end means what. Closed: all are answered, and the last one has ended the connection, or the end of input came
  -- and the bytes that are left give no request. Drained: a Stop stands and all are answered, or a Halt stands; no job has
  -- ended the connection. Refused: all are answered, the bytes that are left are refused so, and the fixed answer was
  -- written. A failed read: all are answered. A failed write: the last answer, or the fixed one, was cut. A full journal:
  -- something did not fit. Memory ran out.
  abbrev pub Ends : Lane F → Lane F → LinkView → LinkView → Served → LinkEnd → Type 0
  Ends old new link after served (end.Closed rest) =
      IsWhole served × (rest ≡ length served.rest)
      × ((has_closed false served.answered ≡ true) ⊎ (Wants served.rest × IfSome after.left (λ bytes. bytes ≡ [])))
  Ends old new link after served end.Drained =
      (served.tail ≡ []) × (has_closed false served.answered ≡ false)
      × (((served.unanswered ≡ None) × (is_stopping (reverse new.seen) ≡ true))
      ⊎ (is_halted (reverse new.seen) ≡ true))
  Ends old new link after served (end.Refused status) =
      (served.unanswered ≡ None) × IsFront served.rest (front.Refused status) × IsFixed may_give status served.tail
  Ends old new link after served end.ReadFault =
      IsWhole served × Wants served.rest × HasRisen link.faults after.faults
  Ends old new link after served end.WriteFault =
      (CutsAnswer new served ⊎ CutsFixed may_give served) × HasRisen link.faults after.faults
  Ends old new link after served (end.JournalFull full) =
      (served.tail ≡ []) × IsFull rules (IsNextOf served.rest) old new full
  Ends old new link after served end.Memory = served.tail ≡ []

  -- What was served until this end, of bytes that begin with `first`, which came before, on a connection that has taken so
  -- many requests before.
  pub record IsServedFrom (count : ℕ) (first : List ℕ) (old new : Lane F) (link after : LinkView) (ended : LinkEnd) : Type 0
    where
      pub came : List ℕ
      pub written : List ℕ
      pub moves : Moves link after came written
      pub served : Served
      pub has : HasServed count old new (first ++ came) written served
      pub ends : Ends old new link after served ended

  -- what was served on a whole connection
  abbrev pub IsServed : Lane F → Lane F → LinkView → LinkView → LinkEnd → Type 0
  IsServed = IsServedFrom 0 []
