-- Which journals are valid, and which entries each event adds. All of it is our own.
use Rattle.std.specs.Prelude.{◌≡◌, ℕ, ◌+◌, ◌&&◌, Bool, if◌then◌else◌, nat_lt, List, [], ◌∷◌, ◌++◌, Option}
use Rattle.vb_value.specs.declared.application.AppCall.{AppCall}
use Rattle.asp_job.specs.declared.answer.Finished.{Finished}
use Rattle.asp_job.specs.declared.entry.EndKind.{EndKind}
use Rattle.asp_job.specs.declared.entry.EndKind.TheVariants as kind
use Rattle.asp_job.specs.declared.entry.Entry.{Entry}
use Rattle.asp_job.specs.declared.entry.What.{What}
use Rattle.asp_job.specs.declared.entry.What.TheVariants.{Queue, Admit, Refuse, Tick, Begin, App, End, Stop}
use Rattle.asp_job.specs.declared.job.Job.{Job}
use Rattle.asp_job.specs.declared.job.Work.{Work}
use Rattle.asp_job.specs.declared.session.SessionState.{SessionState}
use Rattle.asp_job.specs.History.{IsLegal, HasNotFit, with_lane}
use Rattle.asp_job.specs.Keys.{session_of, told}
use Rattle.asp_job.specs.Output.{end_of}
use Rattle.asp_job.specs.Rules.{Rules}
use Rattle.asp_job.specs.Runs.{drawn, moment_of}
use Rattle.asp_job.specs.Told.{Wants, Ends}
use Rattle.asp_job.specs.Turns.{owed, needs_key, key_for, key_asked_by, has_most_keys, serial_of, IsNext}

-- ---- runs and their meaning

-- A run may end by itself where its meaning ends; for want of memory; and because the journal was full, where the call
-- that its meaning wants did not fit.
abbrev pub MayEnd : Rules → List Entry → ℕ → ℕ → EndKind → Type 0
MayEnd rules past lane run kind.Done = (f : Finished) × (rules.meaning.does (told rules past run) ≡ Ends f)
MayEnd rules past lane run kind.Memory = Unit {0}
MayEnd rules past lane run kind.JournalFull =
    (call : AppCall) × (rules.meaning.does (told rules past run) ≡ Wants call) × HasNotFit rules.strict past lane run call

-- A call is the one that the run's meaning wants. An end may come, and tells what the run leaves.
abbrev pub FollowsMeaning : Rules → List Entry → ℕ → What → Type 0
FollowsMeaning rules past lane (App run call reply) = rules.meaning.does (told rules past run) ≡ Wants call
FollowsMeaning rules past lane (End run kind status size made finished) =
    MayEnd rules past lane run kind × (End run kind status size made finished ≡ end_of rules past run kind)
FollowsMeaning rules past lane _ = Unit {0}

-- ---- valid journals

-- the entry is right after these: it may come next, its call is legal, and its run follows its meaning
pub record IsRight (rules : Rules) (past : List Entry) (entry : Entry) : Type 0 where
  pub turn : IsNext rules past entry
  pub legal : IsLegal rules.strict past entry.what
  pub follows : FollowsMeaning rules past entry.lane entry.what

-- each entry is right, given those before it; so is it in each beginning of such a journal
abbrev pub AreRight : Rules → List Entry → Type 0
AreRight rules [] = Unit {0}
AreRight rules (entry ∷ past) = IsRight rules past entry × AreRight rules past

-- A journal is valid where each entry is right and nothing is owed. It is given with its newest entry first.
pub record IsValidJournal (rules : Rules) (past : List Entry) : Type 0 where
  pub entries : AreRight rules past
  pub settled : owed rules past ≡ []

-- ---- what each event adds, oldest first

-- the entries that queue these runs, numbered from there on
abbrev pub queue_entries : ℕ → ℕ → List (Work × ℕ) → List Entry
queue_entries lane run [] = []
queue_entries lane run (first ∷ rest) = with_lane lane (Queue run first.0 first.1) ∷ queue_entries lane (run + 1) rest

-- an entry, and those that are then owed
abbrev pub with_owed : Rules → List Entry → Entry → List Entry
with_owed rules past entry = entry ∷ queue_entries entry.lane (drawn (entry ∷ past) + 1) (owed rules (entry ∷ past))

-- a Tick, where the moment is greater
abbrev pub tick_entries : Rules → List Entry → ℕ → ℕ → List Entry
tick_entries rules past lane moment =
    if nat_lt (moment_of past) moment then with_owed rules past (with_lane lane (Tick moment)) else []

abbrev pub stop_entries : Rules → List Entry → ℕ → List Entry
stop_entries rules past lane = with_owed rules past (with_lane lane Stop)

-- the past after these entries
abbrev pub past_after : List Entry → List Entry → List Entry
past_after past [] = past
past_after past (entry ∷ entries) = past_after (entry ∷ past) entries

-- the job as it is admitted: its moment is the journal's
abbrev pub job_now : List Entry → Job → Job
job_now past job = record job { moment = moment_of past }

-- a job that needs a new key is refused where none can be made
abbrev pub is_refused : Bool → ℕ → (ℕ → Option SessionState) → List Entry → Bool
is_refused keyed asked sessions past = needs_key keyed asked sessions past && has_most_keys sessions past

-- a job is refused, or admitted with its key
abbrev pub admission : Bool → ℕ → (ℕ → Option SessionState) → List Entry → Job → What
admission keyed asked sessions past job =
    if is_refused keyed asked sessions past then Refuse (drawn past + 1) job
    else Admit (drawn past + 1) (key_for keyed asked sessions past) (needs_key keyed asked sessions past) job

-- the entry of a job
abbrev pub admit_entry : Rules → List Entry → ℕ → Job → Entry
admit_entry rules past lane job =
    let now = job_now past job in
    with_lane lane (admission (rules.meaning.is_keyed now) (key_asked_by rules now) (session_of rules past) past now)

-- a Tick where the job's moment is greater, and then the job's own entry
abbrev pub admit_entries : Rules → List Entry → ℕ → Job → List Entry
admit_entries rules past lane job =
    let ticked = tick_entries rules past lane job.moment in
    ticked ++ admit_entry rules (past_after past ticked) lane job ∷ []

abbrev pub begin_entry : Rules → List Entry → ℕ → ℕ → Entry
begin_entry rules past lane run = with_lane lane (Begin run (serial_of rules past run))

abbrev pub end_entry : Rules → List Entry → ℕ → ℕ → EndKind → Entry
end_entry rules past lane run kind = with_lane lane (end_of rules past run kind)
