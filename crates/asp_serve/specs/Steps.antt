-- The steps in which a connection is served.
use Rattle.std.specs.Prelude.{◌≡◌, ◌⊎◌, ℕ, Bool, true, false, List, [], ◌∷◌, ◌++◌, length, reverse, Some, None}
use Rattle.std.specs.Prelude.{IfSome, Option, Result, Ok, Err}
use Rattle.turn_desk.specs.Histories.{BeginsWith}
use Rattle.asp_io.specs.Faults.{HasRisen}
use Rattle.asp_job.specs.declared.answer.Answer.{Answer}
use Rattle.asp_job.specs.declared.entry.Entry.{Entry}
use Rattle.asp_job.specs.declared.entry.What.{What}
use Rattle.asp_job.specs.declared.entry.What.TheVariants.{App, Begin, End, Take}
use Rattle.asp_job.specs.declared.request.Request.{Request}
use Rattle.asp_job.specs.Output.{answer_of_run}
use Rattle.asp_job.specs.Rules.{Rules}
use Rattle.asp_job.specs.Runs.{has_ended, is_halted, is_stopping}
use Rattle.asp_core.specs.declared.admitted.Admitted.{Admitted}
use Rattle.http_front.specs.Front.{IsFront}
use Rattle.http_front.specs.Front as front
use Rattle.http_front.specs.Reader.{ComesNext, Wants}
use Rattle.http_front.specs.declared.reader.Next.TheVariants as next
use Rattle.asp_serve.specs.declared.ending.LinkEnd.{LinkEnd}
use Rattle.asp_serve.specs.declared.ending.LinkEnd.TheVariants as end
use Rattle.asp_serve.specs.declared.reading.Heard.{Heard}
use Rattle.asp_serve.specs.declared.reading.Heard.TheVariants as heard
use Rattle.asp_serve.specs.declared.writing.Sent.{Sent}
use Rattle.asp_serve.specs.declared.writing.Sent.TheVariants as sent
use Rattle.asp_serve.specs.Jobs.{Asking, IsAdmitted, has_closed}
use Rattle.asp_serve.specs.Served.{Grows, HasServed, IsCut, IsFull, IsServedFrom, Lane, LinkView, Moves}

-- ---- reading

-- what was heard where the reader had these bytes, and what it has then
abbrev pub Hears : LinkView → LinkView → List ℕ → Heard → List ℕ → Type 0
Hears link after bytes (heard.Request request) rest = ComesNext bytes (next.Request request) rest
Hears link after bytes (heard.Refused status) rest = IsFront bytes (front.Refused status)
Hears link after bytes heard.End rest =
    Wants bytes × (rest ≡ bytes) × IfSome after.left (λ left. left ≡ [])
Hears link after bytes heard.Fault rest = Wants bytes × HasRisen link.faults after.faults
Hears link after bytes heard.Memory rest = Unit {0}

-- bytes came behind those that the reader had, until this was heard
pub record HasHeard (link after : LinkView) (first : List ℕ) (told : Heard) (rest : List ℕ) : Type 0 where
  pub came : List ℕ
  pub moves : Moves link after came []
  pub hears : Hears link after (first ++ came) told rest

-- no end of hearing yet: a piece came, and the reader has it
pub record HasFed (link after : LinkView) (first rest : List ℕ) : Type 0 where
  pub came : List ℕ
  pub moves : Moves link after came []
  pub fed : rest ≡ first ++ came

-- ---- writing

-- the bytes were written whole; some first of them were, and a call failed; or nothing was, without memory
abbrev pub Sends : LinkView → LinkView → (List ℕ → Type 0) → Sent → Type 0
Sends link after IsText sent.Whole = (text : List ℕ) × IsText text × Moves link after [] text
Sends link after IsText sent.Fault =
    (text : List ℕ) × (tail : List ℕ) × IsText text × IsCut text tail × Moves link after [] tail
    × HasRisen link.faults after.faults
Sends link after IsText sent.Memory = after ≡ link

-- ---- working

-- the entry is one of a run's, or hands an answer out
abbrev pub IsOfWork : What → Type 0
IsOfWork (Begin run serial) = Unit {0}
IsOfWork (App run call reply) = Unit {0}
IsOfWork (End run kind status size made finished) = Unit {0}
IsOfWork (Take run) = Unit {0}
IsOfWork _ = ⊥

abbrev pub AreOfWork : List Entry → Type 0
AreOfWork [] = Unit {0}
AreOfWork (entry ∷ entries) = IsOfWork entry.what × AreOfWork entries

module _ {F : Type 0} where
  -- from one moment of the lane to a later one, it has only worked
  pub record Works (old new : Lane F) : Type 0 where
    pub seen : BeginsWith new.seen old.seen
    pub number : new.number ≡ old.number
    pub more : List Entry
    pub own : new.own ≡ old.own ++ more
    pub entries : AreOfWork more

  -- Why nothing more is done on the connection: such a request, a Begin or a call did not fit; memory ran out; or a Halt
  -- stands, or a Stop where a request was due.
  abbrev pub Hinders : Rules → (Request → Type 0) → Bool → Lane F → Lane F → LinkEnd → Type 0
  Hinders rules asked due old new end.Drained =
      ((due ≡ true) × (is_stopping (reverse new.seen) ≡ true)) ⊎ (is_halted (reverse new.seen) ≡ true)
  Hinders rules asked due old new (end.JournalFull full) = IsFull rules asked old new full
  Hinders rules asked due old new end.Memory = Unit {0}
  Hinders rules asked due old new _ = ⊥

  pub record IsHindered (rules : Rules) (asked : Request → Type 0) (due : Bool) (old new : Lane F) (ended : LinkEnd) : Type 0
    where
      pub works : Works old new
      pub why : Hinders rules asked due old new ended

  -- the request has come as a job, of which this is told
  pub record IsTold (rules : Rules) (may_give : ℕ → Type 0) (request : Request) (told : Admitted) (old new : Lane F) : Type 0
    where
      pub asking : Asking
      pub grows : Grows may_give old new (asking ∷ [])
      pub admitted : IsAdmitted rules old.number may_give new.seen request asking
      pub run_is : told.run ≡ asking.0
      pub moment_is : told.moment ≡ asking.1.moment

  -- what came of a request that was due
  abbrev pub Asks : Rules → (ℕ → Type 0) → Request → Lane F → Result Admitted LinkEnd → Lane F → Type 0
  Asks rules may_give request old (Ok told) new = IsTold rules may_give request told old new
  Asks rules may_give request old (Err ended) new = IsHindered rules (λ asked. asked ≡ request) true old new ended

  -- the answer of the run has come
  pub record HasCome (rules : Rules) (run : ℕ) (answer : Answer) (old new : Lane F) : Type 0 where
    pub works : Works old new
    pub ended : has_ended (reverse new.seen) run ≡ true
    pub answer_is : answer_of_run rules (reverse new.seen) run ≡ Some answer

  -- a round of waiting for the answer of a run: it has not come, it has, or why it never does
  abbrev pub Waits : Rules → ℕ → Lane F → Option (Result Answer LinkEnd) → Lane F → Type 0
  Waits rules run old None new = Works old new
  Waits rules run old (Some (Ok answer)) new = HasCome rules run answer old new
  Waits rules run old (Some (Err ended)) new = IsHindered rules (λ request. ⊥) false old new ended

  -- So many requests more were answered, the connection goes on, and the reader has the bytes behind them.
  pub record GoesOn (rules : Rules) (may_give : ℕ → Type 0) (count : ℕ) (first rest : List ℕ) (old new : Lane F)
      (link after : LinkView) (more : ℕ) : Type 0 where
    pub came : List ℕ
    pub written : List ℕ
    pub moves : Moves link after came written
    pub answered : List Asking
    pub has : HasServed rules may_give count old new (first ++ came) written
        (record { answered = answered; unanswered = None; rest = rest; tail = [] })
    pub goes_on : has_closed false answered ≡ false
    pub count_is : length answered ≡ more

  -- what comes of one more request: it was answered and the connection goes on, or it has ended
  abbrev pub Comes : Rules → (ℕ → Type 0) → ℕ → List ℕ → List ℕ → Lane F → Lane F → LinkView → LinkView → Option LinkEnd →
      Type 0
  Comes rules may_give count first rest old new link after None =
      GoesOn rules may_give count first rest old new link after 1
  Comes rules may_give count first rest old new link after (Some ended) =
      IsServedFrom rules may_give count first old new link after ended

-- ---- ends

-- the end where a text was written so far, if there is one: this, where it was written whole
abbrev pub end_after : Sent → Option LinkEnd → Option LinkEnd
end_after sent.Whole whole = whole
end_after sent.Fault whole = Some end.WriteFault
end_after sent.Memory whole = Some end.Memory

-- the end after an answer that ends the connection, with so many bytes behind its request
abbrev pub closed_if : Bool → ℕ → Option LinkEnd
closed_if true rest = Some (end.Closed rest)
closed_if false rest = None

-- the hand holds no run where a connection ended by itself, and not by the host
abbrev pub IsFree : {Run : Type 0} → LinkEnd → Option Run → Type 0
IsFree end.Drained run = Unit {0}
IsFree (end.JournalFull full) run = Unit {0}
IsFree end.Memory run = Unit {0}
IsFree _ run = run ≡ None

-- so does it where the connection goes on
abbrev pub IsFreeAfter : {Run : Type 0} → Option LinkEnd → Option Run → Type 0
IsFreeAfter None run = run ≡ None
IsFreeAfter (Some ended) run = IsFree ended run

-- the hand holds no run where an answer has come
abbrev pub IsFreed : {Run : Type 0} → Option (Result Answer LinkEnd) → Option Run → Type 0
IsFreed (Some (Ok answer)) run = run ≡ None
IsFreed _ run = Unit {0}
