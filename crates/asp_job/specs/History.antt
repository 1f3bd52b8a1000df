-- The calls of the Application object in a journal, and the room that a journal has. All of it is our own.
use Rattle.std.specs.Prelude.{◌≡◌, ℕ, ◌+◌, ◌*◌, ◌<◌, ◌==◌, ◌⊎◌, Bool, true, false, if◌then◌else◌, MatchBool}
use Rattle.std.specs.Prelude.{List, [], ◌∷◌, ◌++◌, length, sum_by, None}
use Rattle.vb_value.specs.declared.application.AppCall.{AppCall}
use Rattle.vb_value.specs.declared.application.AppCall.TheVariants as call
use Rattle.vb_value.specs.declared.application.AppReply.{AppReply}
use Rattle.vb_value.specs.declared.application.AppReply.TheVariants as reply
use Rattle.vb_value.specs.Weight.{weight_of}
use Rattle.asp_job.specs.declared.entry.Entry.{Entry}
use Rattle.asp_job.specs.declared.entry.TheConstants.{MOST_ENTRIES, MOST_WEIGHT}
use Rattle.asp_job.specs.declared.entry.What.{What}
use Rattle.asp_job.specs.declared.entry.What.TheVariants.{Queue, Admit, Refuse, Tick, Begin, App, End, Take, Stop, Halt}
use Rattle.asp_job.specs.declared.job.Work.{Work}
use Rattle.asp_job.specs.declared.job.Work.TheVariants as work
use Rattle.asp_job.specs.declared.request.Header.{Header}
use Rattle.asp_job.specs.declared.request.Request.{Request}
use Rattle.asp_job.specs.Application.{AppState, first_state, apply, freed, blocker_of}
use Rattle.asp_job.specs.Runs.{unfinished}

-- ---- the Application object

-- what it holds after all calls, and the ends of all runs, in the order of the journal
abbrev pub held_by : List Entry → AppState
held_by [] = first_state
held_by (entry ∷ past) = elim entry.what [
  | App run call reply ↦ (apply (held_by past) run call).0
  | End run kind status size made finished ↦ freed run (held_by past)
  | _ ↦ held_by past
]

-- A call is let through by the lock under this rule, and its reply is that of the object at this place.
abbrev pub IsLegal : Bool → List Entry → What → Type 0
IsLegal strict past (App run call reply) =
    (blocker_of strict (held_by past) run call ≡ None) × (reply ≡ (apply (held_by past) run call).1)
IsLegal strict past _ = Unit {0}

-- the calls of a run, in order
abbrev pub calls_in : ℕ → What → List AppCall
calls_in r (App run call reply) = if run == r then call ∷ [] else []
calls_in r _ = []

abbrev pub calls_of_run : List Entry → ℕ → List AppCall
calls_of_run [] r = []
calls_of_run (entry ∷ past) r = calls_of_run past r ++ calls_in r entry.what

-- ---- what a journal weighs

-- 4 for each character
abbrev pub characters_weight : List ℕ → ℕ
characters_weight text = 4 * length text

-- the name in a call or in a reply weighs as every text does
abbrev pub name_weight : List ℕ → ℕ
name_weight name = characters_weight name + 32

abbrev pub header_weight : Header → ℕ
header_weight header = characters_weight header.name + length header.value

-- 4 for each character and 1 for each byte of a request
abbrev pub request_weight : Request → ℕ
request_weight request =
    characters_weight request.path + length request.query + sum_by header_weight request.headers + length request.body

abbrev pub work_weight : Work → ℕ
work_weight (work.Page request) = request_weight request
work_weight _ = 0

-- the names and the values of a call and of a reply
abbrev pub call_weight : AppCall → ℕ
call_weight (call.Get name) = name_weight name
call_weight (call.Put name value) = name_weight name + weight_of value
call_weight (call.Remove name) = name_weight name
call_weight _ = 0

abbrev pub reply_weight : AppReply → ℕ
reply_weight (reply.Value value) = weight_of value
reply_weight (reply.Name name) = name_weight name
reply_weight (reply.Names names) = sum_by name_weight names
reply_weight _ = 0

-- An entry weighs 64 and what its request, call and reply weigh. One that a hand-out or a Halt made neither counts nor
-- weighs.
abbrev pub what_weight : What → ℕ
what_weight (Queue run work key) = 64
what_weight (Admit run key fresh job) = 64 + work_weight job.work
what_weight (Refuse run job) = 64 + work_weight job.work
what_weight (Tick moment) = 64
what_weight (Begin run serial) = 64
what_weight (App run call reply) = 64 + call_weight call + reply_weight reply
what_weight (End run kind status size made finished) = 64
what_weight (Take run) = 0
what_weight Stop = 64
what_weight Halt = 0

abbrev pub counts : What → Bool
counts (Take run) = false
counts Halt = false
counts _ = true

-- how many entries of a journal count
abbrev pub entries_in : List Entry → ℕ
entries_in [] = 0
entries_in (entry ∷ past) = if counts entry.what then entries_in past + 1 else entries_in past

-- what they weigh
abbrev pub weight_in : List Entry → ℕ
weight_in [] = 0
weight_in (entry ∷ past) = weight_in past + what_weight entry.what

-- ---- room

-- how many entries there would be, and what they would weigh, with one End for each unfinished run
abbrev pub load : List Entry → ℕ
load past = entries_in past + length (unfinished past)

abbrev pub weight_load : List Entry → ℕ
weight_load past = weight_in past + 64 * length (unfinished past)

-- they would be too many or too heavy
abbrev pub IsOverfull : ℕ → ℕ → Type 0
IsOverfull entries weight = (MOST_ENTRIES < entries) ⊎ (MOST_WEIGHT < weight)

abbrev pub with_lane : ℕ → What → Entry
with_lane lane what = record { lane = lane; what = what }

-- the entry of a call
abbrev pub call_entry : List Entry → ℕ → ℕ → AppCall → Entry
call_entry past lane run call = with_lane lane (App run call (apply (held_by past) run call).1)

-- the run that an entry is about, 0 for none; a hand-out comes when the run is over
abbrev pub run_in : What → ℕ
run_in (Queue run work key) = run
run_in (Admit run key fresh job) = run
run_in (Refuse run job) = run
run_in (Begin run serial) = run
run_in (App run call reply) = run
run_in (End run kind status size made finished) = run
run_in _ = 0

-- the call is let through by the lock under this rule, and its entry does not fit
pub record HasNoRoom (strict : Bool) (past : List Entry) (lane run : ℕ) (call : AppCall) : Type 0 where
  pub free : blocker_of strict (held_by past) run call ≡ None
  pub overfull :
      IsOverfull (load (call_entry past lane run call ∷ past)) (weight_load (call_entry past lane run call ∷ past))

-- at some point since the run's last entry, the entry of this call did not fit
abbrev pub HasNotFit : Bool → List Entry → ℕ → ℕ → AppCall → Type 0
HasNotFit strict [] lane run call = HasNoRoom strict [] lane run call
HasNotFit strict (entry ∷ past) lane run call =
    HasNoRoom strict (entry ∷ past) lane run call
    ⊎ MatchBool (run_in entry.what == run) ⊥ (HasNotFit strict past lane run call)
