-- The answers that wait to be handed out, read off a journal. All of it is our own.
use Rattle.std.specs.Prelude.{◌≡◌, ℕ, ◌+◌, ◌*◌, ◌≤◌, ◌==◌, Bool, false, if◌then◌else◌, nat_eq}
use Rattle.std.specs.Prelude.{List, [], ◌∷◌, ◌++◌, length, sum_by, Option, Some, None, Result, Ok, Err, is_some}
use Rattle.std.specs.List.{find}
use Rattle.std.specs.Map.{remove_entry}
use Rattle.std.specs.Option.{option_map_or}
use Rattle.asp_job.specs.declared.answer.Answer.{Answer}
use Rattle.asp_job.specs.declared.entry.Entry.{Entry}
use Rattle.asp_job.specs.declared.entry.What.{What}
use Rattle.asp_job.specs.declared.entry.What.TheVariants.{Refuse, End, Take}
use Rattle.asp_job.specs.Output.{answer_by, unavailable_in}
use Rattle.asp_job.specs.Rules.{Rules, TooManySessions}
use Rattle.asp_job.specs.Running.{is_page}
use Rattle.asp_job.specs.Runs.{job_of, has_ended, asking_lane_of, is_taken, unfinished}
use Rattle.asp_core.specs.declared.stop.CollectStop.{CollectStop}
use Rattle.asp_core.specs.declared.stop.CollectStop.TheVariants.{Foreign, NotEnded, NoAnswer, Taken}
use Rattle.asp_core.specs.declared.ready.TheConstants.{MOST_BODY_BYTES, BODY_ROOM}

-- ---- answers that were made and not handed out

-- the answer of a run at the end of these, if it has one
abbrev pub with_answer : List (ℕ × Answer) → ℕ → Option Answer → List (ℕ × Answer)
with_answer answers run None = answers
with_answer answers run (Some answer) = answers ++ (run, answer) ∷ []

-- The answers, each with its run, in the order in which their runs ended or were refused. One that was handed out is
-- there no more.
abbrev pub ready : Rules → List Entry → List (ℕ × Answer)
ready rules [] = []
ready rules (entry ∷ past) = elim entry.what [
  | End run kind status size made finished ↦ with_answer (ready rules past) run (answer_by rules past run kind)
  | Refuse run job ↦ with_answer (ready rules past) run (unavailable_in rules TooManySessions job.work)
  | Take run ↦ remove_entry (nat_eq run) (ready rules past)
  | _ ↦ ready rules past
]

-- a run that ended left an answer exactly where it was that of a page
abbrev pub IsAnsweredBy : Rules → List Entry → What → Type 0
IsAnsweredBy rules past (End run kind status size made finished) =
    is_some (answer_by rules past run kind) ≡ is_page (job_of past run).work
IsAnsweredBy rules past _ = Unit {0}

abbrev pub IsAnswered : Rules → List Entry → Type 0
IsAnswered rules [] = Unit {0}
IsAnswered rules (entry ∷ past) = IsAnsweredBy rules past entry.what × IsAnswered rules past

-- ---- how much they may be

-- the bytes of the bodies of answers
abbrev pub bodies_of : List (ℕ × Answer) → ℕ
bodies_of answers = sum_by (λ ready. length ready.1.body) answers

-- the bytes of the answers that wait, with as much as a body may have for each unfinished run and for one more
abbrev pub bodies_with_one : List (ℕ × Answer) → List Entry → ℕ
bodies_with_one answers past = bodies_of answers + BODY_ROOM * (length (unfinished past) + 1)

-- there is room for the body of one more run
abbrev pub HasBodyRoom : Rules → List Entry → Type 0
HasBodyRoom rules past = bodies_with_one (ready rules past) past ≤ MOST_BODY_BYTES

-- ---- who is handed an answer

-- whether the lane is the one that asked for the run
abbrev pub asked_by : List Entry → ℕ → ℕ → Bool
asked_by past lane run = option_map_or (λ asking. asking == lane) (asking_lane_of past run) false

-- why the answer of a run is not handed out to the lane, the first cause that holds
abbrev pub taken_stop : Bool → Option CollectStop
taken_stop taken = if taken then Some Taken else None

abbrev pub page_stop : Bool → Bool → Option CollectStop
page_stop page taken = if page then taken_stop taken else Some NoAnswer

abbrev pub ended_stop : Bool → Bool → Bool → Option CollectStop
ended_stop ended page taken = if ended then page_stop page taken else Some NotEnded

abbrev pub lane_stop : ℕ → Option ℕ → Bool → Bool → Bool → Option CollectStop
lane_stop lane None ended page taken = ended_stop ended page taken
lane_stop lane (Some asking) ended page taken =
    if asking == lane then ended_stop ended page taken else Some (Foreign asking)

abbrev pub collect_stop : List Entry → ℕ → ℕ → Option CollectStop
collect_stop past lane run = lane_stop lane (asking_lane_of past run) (has_ended past run)
    (is_page (job_of past run).work) (is_taken past run)

-- the cause of a refusal
abbrev pub stop_of : {T E : Type 0} → Result T E → Option E
stop_of (Ok given) = None
stop_of (Err stop) = Some stop

-- the first answer of a run for which the lane asked
abbrev pub first_for : List Entry → ℕ → List (ℕ × Answer) → Option (ℕ × Answer)
first_for past lane answers = find (λ ready. asked_by past lane ready.0) answers
