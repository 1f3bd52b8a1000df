-- How a run begins that was drawn so, where its key has that session and so many were opened.
use Rattle.std.specs.Prelude.{◌≡◌, ℕ, ◌+◌, ◌≤◌, ◌<◌, ◌⊎◌, ◌∷◌, Bool, true, false, if◌then◌else◌}
use Rattle.std.specs.Prelude.{List, [], length, Option, Some, None, IfSome}
use Rattle.asp_job.specs.declared.answer.Answer.{Answer}
use Rattle.asp_job.specs.declared.entry.Entry.{Entry}
use Rattle.asp_job.specs.declared.entry.TheConstants.{MOST_UNFINISHED}
use Rattle.asp_job.specs.declared.session.SessionState.{SessionState}
use Rattle.asp_app.specs.View.{AppView}
use Rattle.asp_job.specs.Journal.{begin_entry}
use Rattle.asp_job.specs.Keys as keys
use Rattle.asp_job.specs.Rules.{Rules}
use Rattle.asp_job.specs.Runs.{Draw, draw_of, key_of, job_of, unfinished, is_halted}
use Rattle.asp_job.specs.Session.{IsSession}
use Rattle.asp_job.specs.Size.{IsSmall}
use Rattle.asp_job.specs.Told.{Told, begun}
use Rattle.asp_job.specs.Turns.{IsNextRun}
use Rattle.asp_journal.specs.declared.full.Full.{Full}
use Rattle.asp_session.specs.Account.{Account}
use Rattle.asp_session.specs.Letters.{letters_of}
use Rattle.asp_core.specs.declared.opening.Opening.{Opening}
use Rattle.asp_core.specs.declared.opening.SessionNumber.{SessionNumber}
use Rattle.asp_core.specs.declared.ready.TheConstants.{MOST_BODY_BYTES}
use Rattle.asp_core.specs.declared.run.Progress.TheVariants as progress
use Rattle.asp_core.specs.Book.{BookView, Grows, past_in}
use Rattle.asp_core.specs.Calm.{HasLoad, IsOver}
use Rattle.asp_core.specs.Kernel.{RunView, IsKept, IsSessionIn, IsWithin, NoneIsNext}
use Rattle.asp_core.specs.Ready.{bodies_with_one}
use Rattle.asp_core.specs.Sessions.{account_begun, sessions_in}
use Rattle.asp_core.specs.Standing.{stand_ins}

-- ---- what it begins with

-- the number of its session, where it opens one or has that one, and the session
abbrev pub serial_if : ℕ → Bool → Option SessionState → ℕ
serial_if opened opens None = if opens then opened + 1 else 0
serial_if opened opens (Some session) = session.serial

abbrev pub session_if : Bool → Option SessionState → ℕ → Option SessionState
session_if opens session serial = if opens then Some (keys.new_session serial) else session

-- the letters of its key, where its job made the key
abbrev pub cookie_if : List ℕ → Bool → ℕ → Option (List ℕ)
cookie_if seed fresh key = if fresh then Some (letters_of seed key) else None

-- the number of its session, and whether it opens that
pub record IsNumberOf (draw : Draw) (session : Option SessionState) (count : ℕ) (number : SessionNumber) : Type 0 where
  pub serial_is : number.serial ≡ keys.serial_by count draw session
  pub new_is : number.is_new ≡ keys.opens draw session

-- what a run begins with that has this number of its session
pub record IsOpening (seed : List ℕ) (draw : Draw) (session : Option SessionState) (number : SessionNumber)
    (opening : Opening) : Type 0 where
  pub job_is : opening.job ≡ draw.job
  pub session_is : opening.session ≡ session_if number.is_new session number.serial
  pub cookie_is : opening.cookie ≡ cookie_if seed draw.fresh draw.key
  pub stand_ins_are : opening.stand_ins ≡ stand_ins draw.job.work

-- what a runner needs to begin it
pub record CanOpen (draw : Draw) (session : Option SessionState) (number : SessionNumber) : Type 0 where
  pub fresh : draw.fresh ≡ true → 0 < draw.key
  pub small : IsSmall draw.job
  pub valid : IfSome (session_if number.is_new session number.serial) IsSession

-- the run with this number has just begun, and was told what it begins with
pub record HasOpened {State : Type 0} (stands : State → Told → ℕ → Type 0) (seed : List ℕ) (draw : Draw)
    (session : Option SessionState) (number : SessionNumber) (run : ℕ) (opened : RunView State) : Type 0 where
  pub number_is : opened.number ≡ run
  pub progress_is : opened.progress ≡ progress.Going
  pub told_is : stands opened.state (begun draw.job (session_if number.is_new session number.serial) number.is_new
      (cookie_if seed draw.fresh draw.key)) 0
  pub stand_ins_are : opened.stand_ins ≡ stand_ins draw.job.work
  pub turns_is : opened.turns ≡ 0

-- ---- what its Begin leaves

-- none is next, or there is no room for the body of one more where these answers wait
abbrev pub IsIdleWith : List (ℕ × Answer) → List Entry → Type 0
IsIdleWith answers past = NoneIsNext past ⊎ (MOST_BODY_BYTES < bodies_with_one answers past)

-- what a run needs to begin: the parts of a core are those of its journal
pub record CanBegin (rules : Rules) (past : List Entry) (account : Account) (answers : List (ℕ × Answer)) : Type 0 where
  pub held : AppView
  pub kept : IsKept rules past account held answers
  pub within : IsWithin past

-- the run is next, few are unfinished and no Halt stands
pub record IsNext (past : List Entry) (run : ℕ) : Type 0 where
  pub first : IsNextRun past run
  pub few : length (unfinished past) < MOST_UNFINISHED
  pub going : is_halted past ≡ false

-- the Begin and the body of the run that is next fit, that is the number of its session, and its session may be
pub record IsNextWith (past : List Entry) (account : Account) (answers : List (ℕ × Answer)) (run : ℕ)
    (number : SessionNumber) : Type 0 where
  pub next : IsNext past run
  pub number_is : IsNumberOf (draw_of past run) (sessions_in account (key_of past run)) account.opened number
  pub may : IsSessionIn (sessions_in account (key_of past run))
  pub light : bodies_with_one answers past ≤ MOST_BODY_BYTES
  pub load : HasLoad past 2 128

-- it would be so full with the Begin of the run that is next: too many entries or too heavy
pub record IsNextOver (past : List Entry) (full : Full) : Type 0 where
  pub run : ℕ
  pub next : IsNext past run
  pub over : IsOver past 2 128 full

-- what the Begin of a run leaves of a book and of the account of the session keys, and the run
pub record HasBegun {State : Type 0} (rules : Rules) (stands : State → Told → ℕ → Type 0) (lane : ℕ) (old : BookView)
    (account : Account) (new : BookView) (then_account : Account) (run : RunView State) : Type 0 where
  pub next : IsNext (past_in old) run.number
  pub light : bodies_with_one old.answers (past_in old) ≤ MOST_BODY_BYTES
  pub grows : Grows old (begin_entry rules (past_in old) lane run.number ∷ []) new
  pub account_is : then_account ≡ account_begun (past_in old) run.number account
  pub progress_is : run.progress ≡ progress.Going
  pub told_is : stands run.state
      (keys.told rules (begin_entry rules (past_in old) lane run.number ∷ past_in old) run.number) 0
  pub stand_ins_are : run.stand_ins ≡ stand_ins (job_of (past_in old) run.number).work
  pub turns_is : run.turns ≡ 0
