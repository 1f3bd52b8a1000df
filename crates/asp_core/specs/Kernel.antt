-- What contracts see of a core, and of a run that was moved out of it. All of it is our own.
use Rattle.std.specs.Prelude.{◌≡◌, ℕ, ◌+◌, ◌*◌, ◌-◌, ◌≤◌, ◌<◌, ◌⊎◌, ◌++◌, ◌∷◌, true, false, if◌then◌else◌}
use Rattle.std.specs.Prelude.{nat_lt, min, ◌^◌, Bool}
use Rattle.std.specs.Prelude.{List, [], length, reverse, Option, Some, None, IfSome}
use Rattle.std.specs.Prelude.{Result, Ok, Err}
use Rattle.vb_value.specs.declared.application.AppCall.{AppCall}
use Rattle.vb_value.specs.declared.memory.Memory as memory
use Rattle.asp_job.specs.declared.answer.Answer.{Answer}
use Rattle.asp_job.specs.declared.answer.Finished.{Finished}
use Rattle.asp_job.specs.declared.entry.EndKind.{EndKind}
use Rattle.asp_job.specs.declared.entry.EndKind.TheVariants as kind
use Rattle.asp_job.specs.declared.entry.Entry.{Entry}
use Rattle.asp_job.specs.declared.entry.TheConstants.{MOST_ENTRIES, MOST_WEIGHT, MOST_UNFINISHED}
use Rattle.asp_job.specs.declared.entry.What.{What}
use Rattle.asp_job.specs.declared.entry.What.TheVariants.{Admit, App, Refuse, Tick, Stop}
use Rattle.asp_job.specs.declared.job.Work.TheVariants as work
use Rattle.asp_job.specs.declared.request.Request.{Request}
use Rattle.asp_job.specs.declared.runner.Step.{Step}
use Rattle.asp_job.specs.declared.runner.Step.TheVariants as step
use Rattle.asp_job.specs.declared.session.SessionState.{SessionState}
use Rattle.asp_job.specs.Application.{blocker_of}
use Rattle.asp_job.specs.Calls.{IsAppCall, IsReply}
use Rattle.asp_job.specs.History.{held_by, load, weight_load, call_entry, with_lane, HasNotFit}
use Rattle.asp_job.specs.Journal.{queue_entries, begin_entry}
use Rattle.asp_job.specs.Keys.{session_of, told, live, due_at}
use Rattle.asp_job.specs.Rules.{Rules, Cause, TooManySessions, OutOfMemory, JournalFull}
use Rattle.asp_job.specs.Running.{Phase, Going, Wanting, Over}
use Rattle.asp_job.specs.Runs.{unfinished, drawn, moment_of, is_halted, job_of}
use Rattle.asp_job.specs.Session.{IsSession}
use Rattle.asp_job.specs.Size.{IsSmall}
use Rattle.asp_job.specs.Told.{Told, Outcome, Wants, Ends, Meaning}
use Rattle.asp_job.specs.Turns.{IsRunning, IsNextRun, IsBegin, may_begin, serial_of, closing_runs}
use Rattle.asp_journal.specs.declared.full.Full.{Full}
use Rattle.asp_response.specs.declared.fixed.Unavailable.TheVariants as cause
use Rattle.asp_response.specs.Fixed.{unavailable_of}
use Rattle.asp_app.specs.View.{AppView}
use Rattle.asp_session.specs.Account.{Account}
use Rattle.asp_session.specs.Letters.{letters_of}
use Rattle.asp_core.specs.Cookie.{cookie_key_in}
use Rattle.asp_core.specs.Sessions.{IsAccountOf}
use Rattle.asp_core.specs.Standing.{is_head, stand_ins}
use Rattle.asp_core.specs.Ready.{ready, IsAnswered, bodies_with_one}
use Rattle.asp_core.specs.declared.ready.TheConstants.{MOST_BODY_BYTES}
use Rattle.asp_core.specs.declared.run.Progress.{Progress}
use Rattle.asp_core.specs.declared.run.Progress.TheVariants as progress
use Rattle.asp_core.specs.declared.run.StandIns.{StandIns}
use Rattle.asp_core.specs.declared.setting.Setting.{Setting}

-- ---- what a journal is held against

-- the answer that stands in for a page's own
abbrev pub unavailable_by : Cause → Request → Answer
unavailable_by TooManySessions request = unavailable_of cause.TooManySessions (is_head request.verb) request.close
unavailable_by OutOfMemory request = unavailable_of cause.OutOfMemory (is_head request.verb) request.close
unavailable_by JournalFull request = unavailable_of cause.JournalFull (is_head request.verb) request.close

abbrev pub setting_of : List ℕ → Bool → Setting
setting_of seed strict = record { seed = seed; strict = strict }

-- what the runs of a site do, and the letters of keys, with this setting
abbrev pub rules_by : Meaning → Setting → Rules
rules_by meaning setting = record {
  meaning = meaning;
  letters = letters_of setting.seed;
  cookie_key = cookie_key_in setting.seed;
  unavailable = unavailable_by;
  strict = setting.strict;
}

-- ---- a core

-- a core: its journal, oldest entry first, and the runner, the site and the setting that it was given
pub record CoreView (R Site : Type 0) : Type 0 where
  pub journal : List Entry
  pub runner : R
  pub site : Site
  pub setting : Setting

abbrev pub past_of : {R Site : Type 0} → CoreView R Site → List Entry
past_of core = reverse core.journal

-- what the core's journal is held against
abbrev pub rules_of : {R Site : Type 0} → (R → Site → Meaning) → CoreView R Site → Rules
rules_of meaning core = rules_by (meaning core.runner core.site) core.setting

-- the core with these entries more
abbrev pub grown : {R Site : Type 0} → CoreView R Site → List Entry → CoreView R Site
grown core entries =
    record { journal = core.journal ++ entries; runner = core.runner; site = core.site; setting = core.setting }

-- the runner and the site are those that the core was given
pub record IsHostOf {R Site : Type 0} (core : CoreView R Site) (runner : R) (site : Site) : Type 0 where
  pub runner_is : runner ≡ core.runner
  pub site_is : site ≡ core.site

-- ---- what a core keeps

-- what is to come for sure: the End and the Take of each unfinished run, the Takes of so many answers, and a Halt
abbrev pub halts_to_come : List Entry → ℕ
halts_to_come past = if is_halted past then 0 else 1

abbrev pub to_come : List Entry → ℕ → ℕ
to_come past answers = 2 * length (unfinished past) + answers + halts_to_come past

-- what an entry tells is well formed: a job is small, and a call and its reply are such as a run may have
abbrev pub IsWellFormed : What → Type 0
IsWellFormed (Admit run key fresh job) = IsSmall job
IsWellFormed (Refuse run job) = IsSmall job
IsWellFormed (App run call reply) = IsAppCall call × IsReply reply
IsWellFormed _ = Unit {0}

abbrev pub AreWellFormed : List Entry → Type 0
AreWellFormed [] = Unit {0}
AreWellFormed (entry ∷ past) = IsWellFormed entry.what × AreWellFormed past

-- a session, if it is one, that may be
abbrev pub IsSessionIn : Option SessionState → Type 0
IsSessionIn session = IfSome session IsSession

-- the Application object: its rule is that of the journal, and it holds what the journal says
abbrev pub object_of : Rules → List Entry → AppView
object_of rules past = record { strict = rules.strict; state = held_by past }

-- The journal is valid, and its entries are well formed. The account of the session keys, the Application object and
-- the answers that wait are what it says.
pub record IsKept (rules : Rules) (past : List Entry) (account : Account) (held : AppView)
    (answers : List (ℕ × Answer)) : Type 0 where
  pub sessions : IsAccountOf rules past account
  pub held_is : held ≡ object_of rules past
  pub answers_are : answers ≡ ready rules past
  pub answered : IsAnswered rules past
  pub formed : AreWellFormed past

-- it has at most so many entries, and weighs so much at most, with one End for each unfinished run
pub record IsWithin (past : List Entry) : Type 0 where
  pub few : load past ≤ MOST_ENTRIES
  pub light : weight_load past ≤ MOST_WEIGHT

-- there is room for so many entries, and for all that is to come for sure where so many answers wait
abbrev pub HasRoom : List Entry → ℕ → ℕ → Type 0
HasRoom past answers capacity = length past + to_come past answers ≤ capacity

-- there is room for so many answers, and for one of each unfinished run
abbrev pub HasAnswerRoom : List Entry → ℕ → ℕ → Type 0
HasAnswerRoom past answers capacity = answers + length (unfinished past) ≤ capacity

-- it would be so full: too many entries or too heavy; 2^64 - 1 stands for a greater weight
pub record IsTooMuch (past : List Entry) (full : Full) : Type 0 where
  pub entries_are : full.entries ≡ load past
  pub weight_is : full.weight ≡ min (weight_load past) (2 ^ 64 - 1)
  pub much : (MOST_ENTRIES < full.entries) ⊎ (MOST_WEIGHT < full.weight)

-- a Halt stands, as many are unfinished as may be, or no run may begin
abbrev pub NoneIsNext : List Entry → Type 0
NoneIsNext past = (is_halted past ≡ true) ⊎ (MOST_UNFINISHED ≤ length (unfinished past))
    ⊎ ((run : ℕ) → may_begin past run ≡ false)

-- no run is next, or there is no room for the body of one more
abbrev pub IsIdle : Rules → List Entry → Type 0
IsIdle rules past = NoneIsNext past ⊎ (MOST_BODY_BYTES < bodies_with_one (ready rules past) past)

-- there would be too much with the Begin of the next run
abbrev pub IsBeginTooMuch : Rules → List Entry → ℕ → Full → Type 0
IsBeginTooMuch rules past lane full =
    (run : ℕ) × IsBegin rules past run (serial_of rules past run)
    × IsTooMuch (begin_entry rules past lane run ∷ past) full

-- there is room for the Begin of the next run
abbrev pub NextFits : Rules → List Entry → ℕ → Type 0
NextFits rules past lane = (run : ℕ) → IsNextRun past run → IsWithin (begin_entry rules past lane run ∷ past)

-- ---- what events add, where these are the sessions of the keys

abbrev pub ticked : (ℕ → Option SessionState) → List Entry → ℕ → ℕ → List Entry
ticked sessions past lane moment =
    if nat_lt (moment_of past) moment then with_lane lane (Tick moment)
    ∷ queue_entries lane (drawn past + 1) (closing_runs (due_at sessions past moment)) else []

-- how many keys' sessions are over by a Tick
abbrev pub expired_by : (ℕ → Option SessionState) → List Entry → ℕ → ℕ
expired_by sessions past moment = if nat_lt (moment_of past) moment then length (due_at sessions past moment) else 0

abbrev pub expired : Rules → List Entry → ℕ → ℕ
expired rules past moment = expired_by (session_of rules past) past moment

abbrev pub stopped_by : (ℕ → Option SessionState) → List Entry → ℕ → List Entry
stopped_by sessions past lane =
    with_lane lane Stop ∷ queue_entries lane (drawn past + 1) (closing_runs (live sessions past) ++ (work.Stop, 0) ∷ [])

-- ---- runs that were moved out

-- a run that was moved out, with the answers that stand in for its own
pub record RunView (State : Type 0) : Type 0 where
  pub number : ℕ
  pub progress : Progress
  pub state : State
  pub stand_ins : StandIns
  pub turns : ℕ

-- the runner's state waits for what the progress says; one without memory for anything
abbrev pub IsAtPhase : Progress → Phase → Type 0
IsAtPhase progress.Going phase = phase ≡ Going
IsAtPhase (progress.Wants call) phase = phase ≡ Wanting
IsAtPhase progress.Ended phase = phase ≡ Over
IsAtPhase progress.Dead phase = Unit {0}

-- the call that it wants
abbrev pub wanted_by : Progress → Option AppCall
wanted_by (progress.Wants call) = Some call
wanted_by _ = None

-- the progress after a step; where memory ran out, the run can only be ended
abbrev pub progress_of : Result Step memory.Memory → Progress
progress_of (Ok step.More) = progress.Going
progress_of (Ok (step.Wants call)) = progress.Wants call
progress_of (Ok step.Ended) = progress.Ended
progress_of (Err e) = progress.Dead

-- how many steps ended with more to do, at most 2^64 - 1
abbrev pub turns_after : ℕ → Result Step memory.Memory → ℕ
turns_after turns (Ok step.More) = min (turns + 1) (2 ^ 64 - 1)
turns_after turns _ = turns

-- the entry of the call that the run wants, and the run that keeps the call out
abbrev pub called : {R Site State : Type 0} → CoreView R Site → ℕ → RunView State → List Entry
called core lane run =
    elim (wanted_by run.progress) [ Some call ↦ call_entry (past_of core) lane run.number call ∷ [] | None ↦ [] ]

abbrev pub blocker : {R Site State : Type 0} → CoreView R Site → RunView State → Option ℕ
blocker core run = elim (wanted_by run.progress) [
  | Some call ↦ blocker_of core.setting.strict (held_by (past_of core)) run.number call
  | None ↦ None
]

-- A run that may go on has a state that stands, with the ticks that it has spent, and does next what its meaning has.
abbrev pub StandsAt : Progress → (ℕ → Type 0) → Outcome → Type 0
StandsAt progress.Going Stands outcome = (spent : ℕ) × Stands spent
StandsAt (progress.Wants call) Stands outcome = ((spent : ℕ) × Stands spent) × (outcome ≡ Wants call)
StandsAt progress.Ended Stands outcome = ((spent : ℕ) × Stands spent) × ((f : Finished) × (outcome ≡ Ends f))
StandsAt progress.Dead Stands outcome = Unit {0}

-- the run is one that was told this
abbrev pub StandsFor : {State : Type 0} → (State → Told → ℕ → Type 0) → Meaning → RunView State → Told → Type 0
StandsFor stands meaning run t = StandsAt run.progress (stands run.state t) (meaning.does t)

-- whatever the run was told before, it was told still
abbrev pub StandsAsBefore : {State : Type 0} → (State → Told → ℕ → Type 0) → Meaning →
    RunView State → RunView State → Type 0
StandsAsBefore stands meaning old new = (t : Told) → StandsFor stands meaning old t → StandsFor stands meaning new t

-- The run is one of the core's unfinished runs, of that lane, and was told what the journal says. The answers that
-- stand
-- in for its own are those of its work.
pub record IsRunOf {R Site State : Type 0} (meaning : R → Site → Meaning)
    (stands : R → Site → State → Told → ℕ → Type 0) (core : CoreView R Site) (lane : ℕ) (run : RunView State) : Type 0
  where
    pub running : IsRunning (past_of core) lane run.number
    pub stands_for : StandsFor (stands core.runner core.site) (meaning core.runner core.site) run
        (told (rules_of meaning core) (past_of core) run.number)
    pub stand_ins_are : run.stand_ins ≡ stand_ins (job_of (past_of core) run.number).work

-- ---- how a run ends

-- what is left of the session, and the answer, where the runner told this
abbrev pub left_by : Option Finished → Option SessionState
left_by None = None
left_by (Some finished) = finished.session

abbrev pub answer_left : Option Finished → Option Answer
answer_left None = None
answer_left (Some finished) = finished.answer

-- at some point since the run's last entry, the entry of the call that it wants did not fit
abbrev pub HasNotFitFor : {State : Type 0} → Bool → List Entry → ℕ → RunView State → Type 0
HasNotFitFor strict past lane run =
    (call : AppCall) × (wanted_by run.progress ≡ Some call) × HasNotFit strict past lane run.number call

-- An End of this kind may come: the run has ended by itself, or at some point its call did not fit, or memory ran out.
abbrev pub IsEndOf : {State : Type 0} → Bool → List Entry → ℕ → RunView State → EndKind → Type 0
IsEndOf strict past lane run kind.Done = run.progress ≡ progress.Ended
IsEndOf strict past lane run kind.Memory = Unit {0}
IsEndOf strict past lane run kind.JournalFull = HasNotFitFor strict past lane run
