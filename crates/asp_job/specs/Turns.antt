-- Which entry may come next in a journal. All of it is our own.
use Rattle.std.specs.Prelude.{◌≡◌, ℕ, ◌+◌, ◌<◌, ◌==◌, ◌&&◌, ◌||◌, Bool, true, false, not, if◌then◌else◌, nat_lt, nat_le}
use Rattle.std.specs.Prelude.{List, [], ◌∷◌, ◌++◌, length, filter, map, drop, Option, Some, unwrap_or}
use Rattle.std.specs.List.{list_any}
use Rattle.asp_job.specs.declared.entry.Entry.{Entry}
use Rattle.asp_job.specs.declared.entry.TheConstants.{MOST_UNFINISHED, MOST_WAITING, MOST_LIVE}
use Rattle.asp_job.specs.declared.entry.What.{What}
use Rattle.asp_job.specs.declared.entry.What.TheVariants.{Queue, Admit, Refuse, Tick, Begin, App, End, Take, Stop, Halt}
use Rattle.asp_job.specs.declared.job.Asked.{Asked}
use Rattle.asp_job.specs.declared.job.Asked.TheVariants.{Cookie, Key, Fresh}
use Rattle.asp_job.specs.declared.job.Job.{Job}
use Rattle.asp_job.specs.declared.job.Work.{Work}
use Rattle.asp_job.specs.declared.job.Work.TheVariants as work
use Rattle.asp_job.specs.declared.request.Request.{Request}
use Rattle.asp_job.specs.declared.session.SessionState.{SessionState}
use Rattle.asp_job.specs.Keys.{made, session_of, serial_by, opened, live, is_askable, due_at}
use Rattle.asp_job.specs.Rules.{Rules}
use Rattle.asp_job.specs.Running.{is_page}
use Rattle.asp_job.specs.Runs.{numbers, drawn, job_of, key_of, draw_of, is_waiting, is_unfinished, is_open, has_ended}
use Rattle.asp_job.specs.Runs.{unfinished, lane_of, asking_lane_of, moment_of, is_stopping, is_halted, is_taken}

-- ---- runs that must be queued

-- a run for the end of each key's session
abbrev pub closing_runs : List ℕ → List (Work × ℕ)
closing_runs keys = map (λ k. (work.SessionEnd, k)) keys

-- The runs that must be queued next, each with its key: the first run of all, those of sessions that end at a Tick,
-- and at a Stop those of all live keys and the last run.
abbrev pub owed : Rules → List Entry → List (Work × ℕ)
owed rules [] = (work.Start, 0) ∷ []
owed rules (entry ∷ past) = elim entry.what [
  | Queue run work key ↦ drop 1 (owed rules past)
  | Tick moment ↦ closing_runs (due_at (session_of rules past) past moment)
  | Stop ↦ closing_runs (live (session_of rules past) past) ++ (work.Stop, 0) ∷ []
  | _ ↦ []
]

-- ---- which job is admitted

-- the page runs that wait
abbrev pub is_waiting_page : List Entry → ℕ → Bool
is_waiting_page past r = is_waiting past r && is_page (job_of past r).work

abbrev pub waiting_pages : List Entry → List ℕ
waiting_pages past = filter (is_waiting_page past) (numbers (drawn past))

-- the key that the session cookie of a page's request names
abbrev pub cookie_key_of : (Request → Option ℕ) → Work → ℕ
cookie_key_of cookie_key (work.Page request) = unwrap_or (cookie_key request) 0
cookie_key_of cookie_key _ = 0

-- the key for which a job asks, 0 for none
abbrev pub asked_key : (Request → Option ℕ) → Work → Asked → ℕ
asked_key cookie_key work Cookie = cookie_key_of cookie_key work
asked_key cookie_key work (Key k) = k
asked_key cookie_key work Fresh = 0

abbrev pub key_asked_by : Rules → Job → ℕ
key_asked_by rules job = asked_key rules.cookie_key job.work job.asked

-- Whether the job needs a new key: it has a session, and the key that it asks for may not be asked for. In this and the
-- next, `asked` is the key for which it asks and `sessions` the session of each key.
abbrev pub needs_key : Bool → ℕ → (ℕ → Option SessionState) → List Entry → Bool
needs_key keyed asked sessions past = keyed && not (is_askable sessions past asked)

-- The job's run gets a new key, the key that it asks for, or none.
abbrev pub key_for : Bool → ℕ → (ℕ → Option SessionState) → List Entry → ℕ
key_for keyed asked sessions past =
    if needs_key keyed asked sessions past then made past + 1 else (if keyed then asked else 0)

-- no new key can be made
abbrev pub has_most_keys : (ℕ → Option SessionState) → List Entry → Bool
has_most_keys sessions past = nat_le MOST_LIVE (length (live sessions past))

-- a job may come now: there is no Stop, it is that of a page, its moment is the journal's, and not too many pages wait
pub record IsAsked (past : List Entry) (job : Job) : Type 0 where
  pub «open» : is_stopping past ≡ false
  pub page : is_page job.work ≡ true
  pub moment : job.moment ≡ moment_of past
  pub few : length (waiting_pages past) < MOST_WAITING

-- it is admitted under the next number, with its key
pub record IsAdmit (rules : Rules) (past : List Entry) (run key : ℕ) (fresh : Bool) (job : Job) : Type 0 where
  pub asked : IsAsked past job
  pub number : run ≡ drawn past + 1
  pub key_is : key ≡ key_for (rules.meaning.is_keyed job) (key_asked_by rules job) (session_of rules past) past
  pub fresh_is : fresh ≡ needs_key (rules.meaning.is_keyed job) (key_asked_by rules job) (session_of rules past) past
  pub live : (fresh && has_most_keys (session_of rules past) past) ≡ false

-- it is refused under the next number: it needs a new key, and no new key can be made
pub record IsRefuse (rules : Rules) (past : List Entry) (run : ℕ) (job : Job) : Type 0 where
  pub asked : IsAsked past job
  pub number : run ≡ drawn past + 1
  pub needs : needs_key (rules.meaning.is_keyed job) (key_asked_by rules job) (session_of rules past) past ≡ true
  pub most : has_most_keys (session_of rules past) past ≡ true

-- ---- which run may begin

-- whether another run of the same key comes before it
abbrev pub goes_before : List Entry → ℕ → ℕ → Bool
goes_before past r other =
    key_of past other == key_of past r && (is_unfinished past other || (is_waiting past other && nat_lt other r))

-- whether a run with a key has to wait for another of that key
abbrev pub is_behind : List Entry → ℕ → Bool
is_behind past r = not (key_of past r == 0) && list_any (goes_before past r) (numbers (drawn past))

-- whether another run waits or is unfinished
abbrev pub is_other_open : List Entry → ℕ → ℕ → Bool
is_other_open past r other = not (other == r) && is_open past other

abbrev pub has_company : List Entry → ℕ → Bool
has_company past r = list_any (is_other_open past r) (numbers (drawn past))

abbrev pub is_last_work : Work → Bool
is_last_work work.Stop = true
is_last_work _ = false

-- Run 1 begins first and ends before others begin; runs of one key go in order, one at a time; the last run begins
-- alone.
abbrev pub may_begin : List Entry → ℕ → Bool
may_begin past r = is_waiting past r && (r == 1 || has_ended past 1) && not (is_behind past r)
    && not (is_last_work (job_of past r).work && has_company past r)

-- the least run that may begin
pub record IsNextRun (past : List Entry) (r : ℕ) : Type 0 where
  pub begins : may_begin past r ≡ true
  pub least : (other : ℕ) → other < r → may_begin past other ≡ false

-- the number of the session that a run begins with, or 0
abbrev pub serial_of : Rules → List Entry → ℕ → ℕ
serial_of rules past r = serial_by (opened rules past) (draw_of past r) (session_of rules past (key_of past r))

-- the least run that may begin does so, unless many are unfinished or a Halt stands
pub record IsBegin (rules : Rules) (past : List Entry) (run serial : ℕ) : Type 0 where
  pub next : IsNextRun past run
  pub few : length (unfinished past) < MOST_UNFINISHED
  pub going : is_halted past ≡ false
  pub session : serial ≡ serial_of rules past run

-- ---- which entry comes next

-- the run is unfinished, and its Begin has the lane
pub record IsRunning (past : List Entry) (lane run : ℕ) : Type 0 where
  pub unfinished : is_unfinished past run ≡ true
  pub begun_by : lane_of past run ≡ Some lane

-- the answer of a page's run is handed out to the lane that asked for it, once
pub record IsTake (past : List Entry) (lane run : ℕ) : Type 0 where
  pub ended : has_ended past run ≡ true
  pub page : is_page (job_of past run).work ≡ true
  pub asked_by : asking_lane_of past run ≡ Some lane
  pub kept : is_taken past run ≡ false

-- an entry that may come where nothing is owed
abbrev pub MayCome : Rules → List Entry → ℕ → What → Type 0
MayCome rules past lane (Queue run work key) = ⊥
MayCome rules past lane (Admit run key fresh job) = IsAdmit rules past run key fresh job
MayCome rules past lane (Refuse run job) = IsRefuse rules past run job
MayCome rules past lane (Tick moment) = moment_of past < moment
MayCome rules past lane (Begin run serial) = IsBegin rules past run serial
MayCome rules past lane (App run call reply) = IsRunning past lane run
MayCome rules past lane (End run kind status size made finished) = IsRunning past lane run
MayCome rules past lane (Take run) = IsTake past lane run
MayCome rules past lane Stop = is_stopping past ≡ false
MayCome rules past lane Halt = is_halted past ≡ false

-- the lane is that of the entry before
abbrev pub HasLaneOf : List Entry → ℕ → Type 0
HasLaneOf [] lane = Unit {0}
HasLaneOf (before ∷ past) lane = lane ≡ before.lane

-- What is owed comes first, in order, and bears the lane of what owes it.
abbrev pub MayFollow : Rules → List Entry → List (Work × ℕ) → Entry → Type 0
MayFollow rules past [] entry = MayCome rules past entry.lane entry.what
MayFollow rules past (first ∷ rest) entry =
    (entry.what ≡ Queue (drawn past + 1) first.0 first.1) × HasLaneOf past entry.lane

-- the entry may come next
abbrev pub IsNext : Rules → List Entry → Entry → Type 0
IsNext rules past entry = MayFollow rules past (owed rules past) entry
