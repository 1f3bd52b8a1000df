-- The account of the runs, read off a journal. A past is a journal with its newest entry first. All of it
-- is our own.
use Rattle.std.specs.Prelude.{ℕ, suc, zero, ◌+◌, ◌==◌, ◌||◌, Bool, true, false, if◌then◌else◌}
use Rattle.std.specs.Prelude.{List, [], ◌∷◌, ◌++◌, filter, Option, Some, None, unwrap_or}
use Rattle.std.specs.List.{list_any}
use Rattle.std.specs.Option.{option_or}
use Rattle.vb_value.specs.declared.application.AppReply.{AppReply}
use Rattle.asp_job.specs.declared.entry.Entry.{Entry}
use Rattle.asp_job.specs.declared.entry.Stage.{Stage}
use Rattle.asp_job.specs.declared.entry.Stage.TheVariants.{Undrawn, Waiting, Unfinished, Ended}
use Rattle.asp_job.specs.declared.entry.What.{What}
use Rattle.asp_job.specs.declared.entry.What.TheVariants.{Queue, Admit, Refuse, Tick, Begin, App, End, Take, Stop, Halt}
use Rattle.asp_job.specs.declared.job.Asked.TheVariants.{Fresh}
use Rattle.asp_job.specs.declared.job.Job.{Job}
use Rattle.asp_job.specs.declared.job.Work.{Work}
use Rattle.asp_job.specs.declared.job.Work.TheVariants as work

-- the numbers from 1 to n
abbrev pub numbers : ℕ → List ℕ
numbers zero = []
numbers (suc n) = numbers n ++ suc n ∷ []

-- ---- which runs there are

-- whether the entry draws a run number
abbrev pub draws : What → Bool
draws (Queue run work key) = true
draws (Admit run key fresh job) = true
draws (Refuse run job) = true
draws _ = false

-- how many runs were drawn; they are numbered from 1
abbrev pub drawn : List Entry → ℕ
drawn [] = 0
drawn (entry ∷ past) = if draws entry.what then drawn past + 1 else drawn past

-- the job of a run that the host queued
abbrev pub queued_job : Work → Job
queued_job work = record { work = work; moment = 0; asked = Fresh }

abbrev pub job_in : ℕ → What → Option Job
job_in r (Queue run work key) = if run == r then Some (queued_job work) else None
job_in r (Admit run key fresh job) = if run == r then Some job else None
job_in r (Refuse run job) = if run == r then Some job else None
job_in r _ = None

-- the job of a run; of no run a Start
abbrev pub job_of : List Entry → ℕ → Job
job_of [] r = queued_job work.Start
job_of (entry ∷ past) r = unwrap_or (job_in r entry.what) (job_of past r)

abbrev pub key_in : ℕ → What → Option ℕ
key_in r (Queue run work key) = if run == r then Some key else None
key_in r (Admit run key fresh job) = if run == r then Some key else None
key_in r (Refuse run job) = if run == r then Some 0 else None
key_in r _ = None

-- the session key of a run, 0 for none
abbrev pub key_of : List Entry → ℕ → ℕ
key_of [] r = 0
key_of (entry ∷ past) r = unwrap_or (key_in r entry.what) (key_of past r)

abbrev pub fresh_in : ℕ → What → Option Bool
fresh_in r (Queue run work key) = if run == r then Some false else None
fresh_in r (Admit run key fresh job) = if run == r then Some fresh else None
fresh_in r (Refuse run job) = if run == r then Some false else None
fresh_in r _ = None

-- whether the key of a run was made for it
abbrev pub is_fresh : List Entry → ℕ → Bool
is_fresh [] r = false
is_fresh (entry ∷ past) r = unwrap_or (fresh_in r entry.what) (is_fresh past r)

-- how a run was drawn: its job, its key, and whether that was made for it
pub record Draw : Type 0 where
  pub job : Job
  pub key : ℕ
  pub fresh : Bool

abbrev pub draw_of : List Entry → ℕ → Draw
draw_of past r = record { job = job_of past r; key = key_of past r; fresh = is_fresh past r }

-- ---- where a run stands

abbrev pub stage_in : ℕ → What → Option Stage
stage_in r (Queue run work key) = if run == r then Some Waiting else None
stage_in r (Admit run key fresh job) = if run == r then Some Waiting else None
stage_in r (Refuse run job) = if run == r then Some Ended else None
stage_in r (Begin run serial) = if run == r then Some Unfinished else None
stage_in r (End run kind status size made finished) = if run == r then Some Ended else None
stage_in r _ = None

-- A run waits until its Begin, and is unfinished until its End. One that was refused has ended.
abbrev pub stage_of : List Entry → ℕ → Stage
stage_of [] r = Undrawn
stage_of (entry ∷ past) r = unwrap_or (stage_in r entry.what) (stage_of past r)

abbrev pub is_stage_waiting : Stage → Bool
is_stage_waiting Waiting = true
is_stage_waiting _ = false

abbrev pub is_stage_unfinished : Stage → Bool
is_stage_unfinished Unfinished = true
is_stage_unfinished _ = false

abbrev pub is_stage_ended : Stage → Bool
is_stage_ended Ended = true
is_stage_ended _ = false

abbrev pub is_waiting : List Entry → ℕ → Bool
is_waiting past r = is_stage_waiting (stage_of past r)

abbrev pub is_unfinished : List Entry → ℕ → Bool
is_unfinished past r = is_stage_unfinished (stage_of past r)

abbrev pub has_ended : List Entry → ℕ → Bool
has_ended past r = is_stage_ended (stage_of past r)

abbrev pub is_open : List Entry → ℕ → Bool
is_open past r = is_waiting past r || is_unfinished past r

-- the runs that wait, and those that are unfinished, in order
abbrev pub waiting : List Entry → List ℕ
waiting past = filter (is_waiting past) (numbers (drawn past))

abbrev pub unfinished : List Entry → List ℕ
unfinished past = filter (is_unfinished past) (numbers (drawn past))

-- ---- lanes, calls, moments

abbrev pub lane_in : ℕ → ℕ → What → Option ℕ
lane_in r lane (Begin run serial) = if run == r then Some lane else None
lane_in r lane _ = None

-- the lane of a run's Begin
abbrev pub lane_of : List Entry → ℕ → Option ℕ
lane_of [] r = None
lane_of (entry ∷ past) r = option_or (lane_in r entry.lane entry.what) (lane_of past r)

abbrev pub asking_lane_in : ℕ → ℕ → What → Option ℕ
asking_lane_in r lane (Admit run key fresh job) = if run == r then Some lane else None
asking_lane_in r lane (Refuse run job) = if run == r then Some lane else None
asking_lane_in r lane _ = None

-- the lane that asked for a run: that of its Admit or Refuse
abbrev pub asking_lane_of : List Entry → ℕ → Option ℕ
asking_lane_of [] r = None
asking_lane_of (entry ∷ past) r = option_or (asking_lane_in r entry.lane entry.what) (asking_lane_of past r)

abbrev pub reply_in : ℕ → What → List AppReply
reply_in r (App run call reply) = if run == r then reply ∷ [] else []
reply_in r _ = []

-- the replies to a run's calls, in order
abbrev pub replies_of : List Entry → ℕ → List AppReply
replies_of [] r = []
replies_of (entry ∷ past) r = replies_of past r ++ reply_in r entry.what

abbrev pub moment_in : What → Option ℕ
moment_in (Tick moment) = Some moment
moment_in _ = None

-- the moment of the last Tick, 0 before the first
abbrev pub moment_of : List Entry → ℕ
moment_of [] = 0
moment_of (entry ∷ past) = unwrap_or (moment_in entry.what) (moment_of past)

abbrev pub is_stop : What → Bool
is_stop Stop = true
is_stop _ = false

-- whether a Stop stands
abbrev pub is_stopping : List Entry → Bool
is_stopping past = list_any (λ entry. is_stop entry.what) past

abbrev pub is_halt : What → Bool
is_halt Halt = true
is_halt _ = false

-- whether a Halt stands
abbrev pub is_halted : List Entry → Bool
is_halted past = list_any (λ entry. is_halt entry.what) past

abbrev pub takes : ℕ → What → Bool
takes r (Take run) = run == r
takes r _ = false

-- whether the answer of a run was handed out
abbrev pub is_taken : List Entry → ℕ → Bool
is_taken past r = list_any (λ entry. takes r entry.what) past
