-- The account of the session keys, read off a journal (ASP 3.0, "Session Object"; the order of runs is our own).
use Rattle.std.specs.Prelude.{ℕ, ◌+◌, ◌*◌, ◌==◌, ◌&&◌, ◌||◌, Bool, true, false, not, if◌then◌else◌, nat_le}
use Rattle.std.specs.Prelude.{List, [], ◌∷◌, filter, Option, Some, None, unwrap_or, is_some}
use Rattle.std.specs.List.{list_any}
use Rattle.asp_job.specs.declared.entry.EndKind.TheVariants.{Done}
use Rattle.asp_job.specs.declared.entry.Entry.{Entry}
use Rattle.asp_job.specs.declared.entry.What.{What}
use Rattle.asp_job.specs.declared.entry.What.TheVariants.{Queue, Admit, Begin, End}
use Rattle.asp_job.specs.declared.job.Work.TheVariants as work
use Rattle.asp_job.specs.declared.session.SessionState.{SessionState}
use Rattle.asp_job.specs.Rules.{Rules}
use Rattle.asp_job.specs.Running.{is_page}
use Rattle.asp_job.specs.Runs.{Draw, numbers, drawn, draw_of, key_of, is_open, replies_of, is_stopping}
use Rattle.asp_job.specs.Told.{Told, Outcome, Wants, Ends}

-- ---- keys

abbrev pub makes_key : What → Bool
makes_key (Admit run key fresh job) = fresh
makes_key _ = false

-- how many keys were made; they are numbered from 1
abbrev pub made : List Entry → ℕ
made [] = 0
made (entry ∷ past) = if makes_key entry.what then made past + 1 else made past

-- ---- the session that a run begins with

-- a session in which nothing was stored; a session ends after 20 minutes without a request
abbrev pub new_session : ℕ → SessionState
new_session serial = record { serial = serial; timeout = 20; values = []; dicts = [] }

-- whether a run so drawn opens a session, where its key has that session: a page with a key that has none
abbrev pub opens : Draw → Option SessionState → Bool
opens draw session = is_page draw.job.work && not (draw.key == 0) && not (is_some session)

-- the number of the session that a run begins with, where so many were opened; 0 without one
abbrev pub serial_by : ℕ → Draw → Option SessionState → ℕ
serial_by opened draw None = if opens draw None then opened + 1 else 0
serial_by opened draw (Some session) = session.serial

-- the session that a run begins with, and whether it is new
pub record Given : Type 0 where
  pub session : Option SessionState
  pub is_new : Bool

-- A run begins with its key's session. A page whose key has none opens a new one.
abbrev pub given : Draw → Option SessionState → ℕ → Given
given draw session serial =
    if opens draw session then record { session = Some (new_session serial); is_new = true }
    else record { session = session; is_new = false }

-- the letters of a run's key, where its job made the key
abbrev pub letters_of : Rules → Draw → Option (List ℕ)
letters_of rules draw = if draw.fresh then Some (rules.letters draw.key) else None

-- A run was told its job, the session that it began with, the letters of a key that was made for it, and the replies to
-- its calls so far.
abbrev pub told_by : Rules → List Entry → Given → ℕ → Told
told_by rules past began r = record {
  job = (draw_of past r).job;
  session = began.session;
  is_new = began.is_new;
  cookie = letters_of rules (draw_of past r);
  replies = replies_of past r;
}

-- what a run leaves of its session
abbrev pub session_left : Outcome → Option SessionState
session_left (Wants call) = None
session_left (Ends finished) = finished.session

module _ (rules : Rules) where
  abbrev mutual
    -- the session of a key is what the last of its runs that was done leaves; key 0 has none
    pub session_of : List Entry → ℕ → Option SessionState
    session_of [] k = None
    session_of (entry ∷ past) k = elim entry.what [
      | End run kind status size made finished ↦ elim kind [
        | Done ↦
            if key_of past run == k && not (k == 0)
            then session_left (rules.meaning.does (told_by rules past (began_with past run) run))
            else session_of past k
        | _ ↦ session_of past k
      ]
      | _ ↦ session_of past k
    ]

    -- a run began with the session that its key had at that moment
    pub began_with : List Entry → ℕ → Given
    began_with [] r = record { session = None; is_new = false }
    began_with (entry ∷ past) r = elim entry.what [
      | Begin run serial ↦
          if run == r then given (draw_of past run) (session_of past (key_of past run)) serial else began_with past r
      | _ ↦ began_with past r
    ]

  -- what a run was told so far
  abbrev pub told : List Entry → ℕ → Told
  told past r = told_by rules past (began_with past r) r

  -- how many sessions were opened
  abbrev pub opened : List Entry → ℕ
  opened [] = 0
  opened (entry ∷ past) = elim entry.what [
    | Begin run serial ↦
        if opens (draw_of past run) (session_of past (key_of past run)) then opened past + 1 else opened past
    | _ ↦ opened past
  ]

-- ---- which keys are live. `sessions` is the session of each key.

-- whether the run is one of the key, and waits or is unfinished
abbrev pub keeps_busy : List Entry → ℕ → ℕ → Bool
keeps_busy past k r = key_of past r == k && is_open past r

abbrev pub is_busy : List Entry → ℕ → Bool
is_busy past k = list_any (keeps_busy past k) (numbers (drawn past))

-- A key that was made is live while it has a session, or a run that waits or is unfinished.
abbrev pub is_live : (ℕ → Option SessionState) → List Entry → ℕ → Bool
is_live sessions past k = is_some (sessions k) || is_busy past k

-- the live keys, in order
abbrev pub live : (ℕ → Option SessionState) → List Entry → List ℕ
live sessions past = filter (is_live sessions past) (numbers (made past))

abbrev pub closes : ℕ → What → Bool
closes k (Queue run work.SessionEnd key) = key == k
closes k _ = false

-- whether a run for the end of the key's session was ever queued
abbrev pub is_closing : List Entry → ℕ → Bool
is_closing past k = list_any (λ entry. closes k entry.what) past

-- A key may be asked for while it is live, and its session is not to end.
abbrev pub is_askable : (ℕ → Option SessionState) → List Entry → ℕ → Bool
is_askable sessions past k =
    not (k == 0) && nat_le k (made past) && is_live sessions past k && not (is_closing past k)

-- ---- which sessions are over

abbrev pub asked_in : ℕ → What → Option ℕ
asked_in k (Admit run key fresh job) = if key == k then Some job.moment else None
asked_in k _ = None

-- the moment of the last job that was admitted for the key
abbrev pub last_asked : List Entry → ℕ → ℕ
last_asked [] k = 0
last_asked (entry ∷ past) k = unwrap_or (asked_in k entry.what) (last_asked past k)

-- whether the key's session, if it has one, is over at the moment: no run of the key waits or is unfinished, and its
-- last job was admitted so many minutes ago
abbrev pub is_due : Option SessionState → List Entry → ℕ → ℕ → Bool
is_due None past moment k = false
is_due (Some session) past moment k = not (is_busy past k) && nat_le (last_asked past k + session.timeout * 60) moment

abbrev pub is_due_key : (ℕ → Option SessionState) → List Entry → ℕ → ℕ → Bool
is_due_key sessions past moment k = is_due (sessions k) past moment k

-- the keys whose sessions are over at the moment, in order; none after a Stop
abbrev pub due_at : (ℕ → Option SessionState) → List Entry → ℕ → List ℕ
due_at sessions past moment =
    if is_stopping past then [] else filter (is_due_key sessions past moment) (numbers (made past))
