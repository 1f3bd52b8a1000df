-- The requests of one connection as jobs of a journal, and their answers. All of it is the product's own.
use Rattle.std.specs.Prelude.{◌≡◌, ℕ, ◌+◌, ◌==◌, max, Bool, true, false, if◌then◌else◌}
use Rattle.std.specs.Prelude.{List, [], ◌∷◌, ◌++◌, reverse, Some}
use Rattle.asp_job.specs.declared.answer.Answer.{Answer}
use Rattle.asp_job.specs.declared.entry.Entry.{Entry}
use Rattle.asp_job.specs.declared.entry.What.{What}
use Rattle.asp_job.specs.declared.entry.What.TheVariants.{Admit, Halt, Refuse, Stop, Tick}
use Rattle.asp_job.specs.declared.job.Asked.TheVariants.{Cookie}
use Rattle.asp_job.specs.declared.job.Job.{Job}
use Rattle.asp_job.specs.declared.job.Work.{Work}
use Rattle.asp_job.specs.declared.job.Work.TheVariants.{Page}
use Rattle.asp_job.specs.declared.request.Request.{Request}
use Rattle.asp_job.specs.Journal.{admit_entries}
use Rattle.asp_job.specs.Output.{answer_of_run}
use Rattle.asp_job.specs.Rules.{Rules}
use Rattle.asp_job.specs.Runs.{has_ended, moment_of}
use Rattle.asp_core.specs.Drawing.{entry_then}
use Rattle.asp_response.specs.AnswerText.{IsAnswerText}
use Rattle.asp_serve.specs.declared.serving.TheConstants.{MOST_REQUESTS}

-- a run, and the job that it is for
abbrev pub Asking : Type 0
Asking = ℕ × Job

-- ---- what a lane's own entries say

-- the job that an entry brought, with its run: one that was admitted, or refused for want of a session key
abbrev pub brought_by : What → List Asking
brought_by (Admit run key fresh job) = (run, job) ∷ []
brought_by (Refuse run job) = (run, job) ∷ []
brought_by _ = []

abbrev pub jobs_in : List Entry → List Asking
jobs_in [] = []
jobs_in (entry ∷ entries) = brought_by entry.what ++ jobs_in entries

-- no Stop and no Halt, and time goes on to a second that the clock may give
abbrev pub IsOfLink : (ℕ → Type 0) → What → Type 0
IsOfLink may_give (Tick moment) = may_give moment
IsOfLink may_give Stop = ⊥
IsOfLink may_give Halt = ⊥
IsOfLink may_give _ = Unit {0}

abbrev pub AreOfLink : (ℕ → Type 0) → List Entry → Type 0
AreOfLink may_give [] = Unit {0}
AreOfLink may_give (entry ∷ entries) = IsOfLink may_give entry.what × AreOfLink may_give entries

-- ---- the jobs of requests

-- the job of a request, asked by its cookie
abbrev pub job_for : Request → ℕ → Job
job_for request moment = record { work = Page request; moment = moment; asked = Cookie }

-- whether a connection takes no request behind the next one, where it took so many before
abbrev pub is_last : ℕ → Bool
is_last before = before + 1 == MOST_REQUESTS

-- the request as it is asked for: the last that a connection takes ends it
abbrev pub closing : Bool → Request → Request
closing last request = if last then record request { close = true } else request

-- the job ends its connection
abbrev pub work_closes : Work → Bool
work_closes (Page request) = request.close
work_closes _ = false

abbrev pub closes : Asking → Bool
closes asking = work_closes asking.1.work

-- whether the last of these jobs ends the connection, or, without any, it has ended before
abbrev pub has_closed : Bool → List Asking → Bool
has_closed closed [] = closed
has_closed closed (asking ∷ askings) = has_closed (closes asking) askings

-- no job comes on a connection that has ended
abbrev pub NoneBehindClose : Bool → List Asking → Type 0
NoneBehindClose closed [] = Unit {0}
NoneBehindClose closed (asking ∷ askings) = (closed ≡ false) × NoneBehindClose (closes asking) askings

module _ (rules : Rules) (lane : ℕ) (may_give : ℕ → Type 0) where
  -- The request came as this job of the lane: in one turn, which found the journal `before`, the entries of the job were
  -- added, at a second that the clock may give. The job's moment is that second, or that of the journal where it is greater.
  pub record IsAdmitted (seen : List Entry) (request : Request) (asking : Asking) : Type 0 where
    pub before : List Entry
    pub after : List Entry
    pub second : ℕ
    pub may : may_give second
    pub seen_is : seen ≡ before ++ admit_entries rules (reverse before) lane (job_for request second) ++ after
    pub asking_is : brought_by (entry_then rules (reverse before) lane (job_for request second)).what ≡ asking ∷ []
    pub job_is : asking.1 ≡ job_for request (max second (moment_of (reverse before)))

  -- the requests that come behind so many others on a connection came as these jobs, one by one
  abbrev pub AreAdmitted : ℕ → List Entry → List Request → List Asking → Type 0
  AreAdmitted count seen [] [] = Unit {0}
  AreAdmitted count seen [] (asking ∷ askings) = ⊥
  AreAdmitted count seen (request ∷ requests) [] = ⊥
  AreAdmitted count seen (request ∷ requests) (asking ∷ askings) =
      IsAdmitted seen (closing (is_last count) request) asking × AreAdmitted (count + 1) seen requests askings

-- ---- answers

module _ (rules : Rules) (past : List Entry) where
  -- the run has ended or was refused, and these are the bytes of its answer, at the moment of its job
  pub record IsAnswered (asking : Asking) (text : List ℕ) : Type 0 where
    pub ended : has_ended past asking.0 ≡ true
    pub answer : Answer
    pub answer_is : answer_of_run rules past asking.0 ≡ Some answer
    pub text_is : IsAnswerText answer asking.1.moment text

  -- the bytes of the answers of these runs, one behind another
  abbrev pub AreAnswered : List Asking → List ℕ → Type 0
  AreAnswered [] bytes = bytes ≡ []
  AreAnswered (asking ∷ askings) bytes =
      (first : List ℕ) × (rest : List ℕ) × IsAnswered asking first × AreAnswered askings rest × (bytes ≡ first ++ rest)
