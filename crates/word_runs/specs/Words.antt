-- What the runs of words do. A word is the path of a page: `/`, then `k` where its runs have a session, then a letter for
-- each call of the Application object, and behind them what the run leaves.
use Rattle.std.specs.Prelude.{◌≡◌, ℕ, ◌+◌, ◌*◌, ◌-◌, ◌==◌, Bool, true, false, if◌then◌else◌, List, [], ◌∷◌, ◌++◌}
use Rattle.std.specs.Prelude.{codes, length, slice_get, replicate, Option, Some, None, Ok, Err, IfSome}
use Rattle.std.specs.Prelude.{encode_utf8_all, ℤ, pos, ◌+ℤ◌, int_lt}
use Rattle.vb_value.specs.declared.application.AppCall.{AppCall}
use Rattle.vb_value.specs.declared.application.AppCall.TheVariants as call
use Rattle.vb_value.specs.declared.value.Value.{Value, Int, Long}
use Rattle.vb_value.specs.Conversions.{to_str_of}
use Rattle.asp_job.specs.declared.answer.Answer.{Answer}
use Rattle.asp_job.specs.declared.answer.Fail.{Fail}
use Rattle.asp_job.specs.declared.answer.Fail.TheVariants as fail
use Rattle.asp_job.specs.declared.answer.Finished.{Finished}
use Rattle.asp_job.specs.declared.job.Job.{Job}
use Rattle.asp_job.specs.declared.job.Work.{Work}
use Rattle.asp_job.specs.declared.job.Work.TheVariants as work
use Rattle.asp_job.specs.declared.request.Header.{Header}
use Rattle.asp_job.specs.declared.request.Request.{Request}
use Rattle.asp_job.specs.declared.request.Verb.{Verb}
use Rattle.asp_job.specs.declared.request.Verb.TheVariants as verb
use Rattle.asp_job.specs.declared.session.SessionState.{SessionState}
use Rattle.asp_job.specs.Calls.{IsAppCall}
use Rattle.asp_job.specs.Running.{IsBounded, Phase, Going, Wanting, Over, Dead, IsLeft}
use Rattle.asp_job.specs.Session.{IsSession}
use Rattle.asp_job.specs.Told.{Told, Outcome, Wants, Ends, Meaning}
use Rattle.word_runs.specs.declared.run.At.{At}
use Rattle.word_runs.specs.declared.run.At.TheVariants as at
use Rattle.word_runs.specs.declared.run.Page.{Page}
use Rattle.word_runs.specs.declared.run.WordRun.{WordRun}
use Rattle.word_runs.specs.declared.runner.Came.{Came}
use Rattle.word_runs.specs.declared.runner.Came.TheVariants as came

-- ---- words

-- whether the method is HEAD
abbrev pub is_head : Verb → Bool
is_head verb.Head = true
is_head _ = false

-- the page of a request
abbrev pub requested : Request → Page
requested request = record {
  word = request.path;
  sent = request.body;
  head_only = is_head request.verb;
  close = request.close;
}

-- the page of what is to be done; an event has none
abbrev pub page_of : Work → Option Page
page_of (work.Page request) = Some (requested request)
page_of _ = None

-- whether the letter stands at the place
abbrev pub is_letter : List ℕ → ℕ → ℕ → Bool
is_letter word place letter = elim (slice_get word place) [ Some found ↦ found == letter | None ↦ false ]

-- `k` behind the slash: its runs have a session
abbrev pub has_session : List ℕ → Bool
has_session word = is_letter word 1 107

abbrev pub is_keyed : Job → Bool
is_keyed job = elim (page_of job.work) [ Some page ↦ has_session page.word | None ↦ false ]

-- the place of the first call
abbrev pub first_place : List ℕ → ℕ
first_place word = if has_session word then 2 else 1

-- ---- calls

-- what a letter calls: `l` and `u` lock and unlock, `n` counts, `c` takes all away, `g`, `p` and `r` get, put and remove
-- the name `a`, `i` asks for the name at place 1, and `a` for all names
abbrev pub call_of : ℕ → Option AppCall
call_of letter =
    if letter == 108 then Some call.Lock
    else if letter == 117 then Some call.Unlock
    else if letter == 110 then Some call.Count
    else if letter == 99 then Some call.RemoveAll
    else if letter == 103 then Some (call.Get (97 ∷ []))
    else if letter == 112 then Some (call.Put (97 ∷ []) (Int (pos 1)))
    else if letter == 114 then Some (call.Remove (97 ∷ []))
    else if letter == 105 then Some (call.KeyAt (pos 1))
    else if letter == 97 then Some call.Names
    else None

-- the call at a place, if a call's letter stands there
abbrev pub call_at : List ℕ → ℕ → Option AppCall
call_at word place = elim (slice_get word place) [ Some letter ↦ call_of letter | None ↦ None ]

-- the call at the place was found, with the place behind it
abbrev pub IsCallAt : List ℕ → ℕ → Option (AppCall × ℕ) → Type 0
IsCallAt word place None = call_at word place ≡ None
IsCallAt word place (Some found) = (call_at word place ≡ Some found.0) × (found.1 ≡ place + 1) × IsAppCall found.0

-- ---- what a run leaves

-- one more than the number; behind 10^9 comes 1
abbrev pub next_after : Value → ℤ
next_after (Long n) = if int_lt n (pos 1000000000) then n +ℤ pos 1 else pos 1
next_after _ = pos 1

-- a run counts in the first entry of its session
abbrev pub count_in : SessionState → ℤ
count_in session = elim (slice_get session.values 0) [ Some entry ↦ next_after entry.value | None ↦ pos 1 ]

abbrev pub counted : SessionState → SessionState
counted session = record {
  serial = session.serial;
  timeout = session.timeout;
  values = record { name = 110 ∷ []; value = Long (count_in session) } ∷ [];
  dicts = [];
}

-- the text of a number
abbrev pub text_of : ℤ → List ℕ
text_of n = elim (to_str_of (Long n)) [ Ok text ↦ text | Err e ↦ [] ]

-- the number that a run counted, if it has a session
abbrev pub digits : Option SessionState → List ℕ
digits None = []
digits (Some session) = encode_utf8_all (text_of (count_in session))

-- how many MiB are added: one for each letter from the place on, where the first is an `m`
abbrev pub mebis : List ℕ → ℕ → ℕ
mebis word place = if is_letter word place 109 then length word - place else 0

-- behind the number stands what was sent, where an `e` stands at the place
abbrev pub said : Page → Option SessionState → ℕ → List ℕ
said page session place = if is_letter page.word place 101 then digits session ++ page.sent else digits session

abbrev pub body_of : Page → Option SessionState → ℕ → List ℕ
body_of page session place = said page session place ++ replicate (mebis page.word place * 1048576) 109

-- the status of a digit
abbrev pub status_of : ℕ → ℕ
status_of letter =
    if letter == 50 then 204
    else if letter == 51 then 304
    else if letter == 52 then 404
    else if letter == 53 then 500
    else 200

abbrev pub status_at : List ℕ → ℕ → ℕ
status_at word place = elim (slice_get word place) [ Some letter ↦ status_of letter | None ↦ 200 ]

-- the field that tells a client the letters of its key
abbrev pub cookie_field : List ℕ → Header
cookie_field letters = record {
  name = codes "Set-Cookie";
  value = codes "ASPSESSIONIDPROFILE=" ++ encode_utf8_all letters ++ codes "; path=/";
}

abbrev pub fields : Option (List ℕ) → List Header
fields None = []
fields (Some letters) = cookie_field letters ∷ []

abbrev pub answer_of : Page → Option SessionState → Option (List ℕ) → ℕ → Answer
answer_of page session cookie place = record {
  status = status_at page.word place;
  reason = [];
  headers = fields cookie;
  body = body_of page session place;
  head_only = page.head_only;
  close = page.close;
}

-- the session with its count; none behind an `x`
abbrev pub session_after : List ℕ → Option SessionState → ℕ → Option SessionState
session_after word None place = None
session_after word (Some session) place = if is_letter word place 120 then None else Some (counted session)

-- an error behind an `f`
abbrev pub fail_at : List ℕ → ℕ → Option Fail
fail_at word place = if is_letter word place 102 then Some (fail.Error (pos 5) 1) else None

-- what a run leaves whose calls end before the place
abbrev pub left_at : Page → Option SessionState → Option (List ℕ) → ℕ → Finished
left_at page session cookie place = record {
  answer = Some (answer_of page session cookie place);
  session = session_after page.word session place;
  fail = fail_at page.word place;
  made = 0;
  finished = 0;
}

-- an event leaves nothing
abbrev pub left_by_event : Finished
left_by_event = record { answer = None; session = None; fail = None; made = 0; finished = 0 }

-- ---- the meaning

-- at a place that has a call, the run wants it; at the first other it ends
abbrev pub outcome_by : Option AppCall → Page → Option SessionState → Option (List ℕ) → ℕ → Outcome
outcome_by (Some call) page session cookie place = Wants call
outcome_by None page session cookie place = Ends (left_at page session cookie place)

abbrev pub outcome_at : Page → Option SessionState → Option (List ℕ) → ℕ → Outcome
outcome_at page session cookie place = outcome_by (call_at page.word place) page session cookie place

-- the place to which a run has come after so many replies
abbrev pub place_after : Option Page → ℕ → ℕ
place_after None heard = heard
place_after (Some page) heard = first_place page.word + heard

-- what a run comes to whose word, if it has one, was read to the place
abbrev pub outcome_of : Option Page → Option SessionState → Option (List ℕ) → ℕ → Outcome
outcome_of None session cookie place = Ends left_by_event
outcome_of (Some page) session cookie place = outcome_at page session cookie place

-- each reply takes the run on by a place
abbrev pub does : Told → Outcome
does told =
    outcome_of (page_of told.job.work) told.session told.cookie
    (place_after (page_of told.job.work) (length told.replies))

abbrev pub meaning : Meaning
meaning = record { does = does; ticks = λ told. 0; is_keyed = is_keyed }

-- ---- runs

-- what a run waits for
abbrev pub phase_at : At → Phase
phase_at at.Going = Going
phase_at at.Wanting = Wanting
phase_at (at.Over finished) = Over
phase_at at.Dead = Dead

-- A run that wants a reply stands behind the letter of its call, and one that has ended has what it leaves.
abbrev pub IsAt : Told → ℕ → At → Type 0
IsAt told place at.Going = place ≡ place_after (page_of told.job.work) (length told.replies)
IsAt told place at.Wanting = place ≡ place_after (page_of told.job.work) (length told.replies) + 1
IsAt told place (at.Over finished) = (does told ≡ Ends finished) × IsLeft told.job.work finished
IsAt told place at.Dead = Unit {0}

-- the run was told this
pub record Stands (run : WordRun) (told : Told) : Type 0 where
  pub page_is : run.page ≡ page_of told.job.work
  pub session_is : run.session ≡ told.session
  pub cookie_is : run.cookie ≡ told.cookie
  pub valid : IfSome told.session IsSession
  pub at_is : IsAt told run.place run.at

-- the run has come to its next call, and to the place behind it, or to its end
abbrev pub HasCome : WordRun → Came → Type 0
HasCome run (came.Wants call next) =
    (outcome_of run.page run.session run.cookie run.place ≡ Wants call) × (next ≡ run.place + 1) × IsAppCall call
HasCome run (came.Ends left) =
    (outcome_of run.page run.session run.cookie run.place ≡ Ends left) × IfSome left.answer IsBounded
