-- Which journals a recording feeds. Items and events are given with the newest first, as pasts are. All of it
-- is our own.
use Rattle.std.specs.Prelude.{◌≡◌, ◌⊎◌, ℕ, ◌==◌, ◌&&◌, Bool, true, false, if◌then◌else◌, nat_eq, nat_lt}
use Rattle.std.specs.Prelude.{List, [], ◌∷◌, ◌++◌, length, reverse, Some, None}
use Rattle.std.specs.Map.{lookup}
use Rattle.indexmap.specs.IndexMap.{insert_entry}
use Rattle.httparse.specs.Grammar.{RequestHead}
use Rattle.http_front.specs.Front.{IsFront}
use Rattle.http_front.specs.Front as front
use Rattle.http_front.specs.Request.{IsRequestFor}
use Rattle.asp_job.specs.declared.entry.Entry.{Entry}
use Rattle.asp_job.specs.declared.entry.What.{What}
use Rattle.asp_job.specs.declared.entry.What.TheVariants.{Admit, Refuse, Tick, Stop}
use Rattle.asp_job.specs.declared.job.Asked.{Asked}
use Rattle.asp_job.specs.declared.job.Asked.TheVariants.{Cookie, Key, Fresh}
use Rattle.asp_job.specs.declared.job.Job.{Job}
use Rattle.asp_job.specs.declared.job.Work.TheVariants.{Page}
use Rattle.asp_job.specs.declared.request.Request as request
use Rattle.asp_job.specs.Runs.{unfinished, waiting}
use Rattle.asp_record.specs.declared.recording.Item.{Item}
use Rattle.asp_record.specs.declared.recording.Item.TheVariants as item
use Rattle.asp_record.specs.Recorded as recorded

-- ---- the job of a request

-- the bytes are those of this request, and nothing more
abbrev pub IsRequestOf : List ℕ → request.Request → Type 0
IsRequestOf bytes asked =
    (h : RequestHead) × (body : List ℕ) × IsFront bytes (front.Request h body []) × IsRequestFor h body asked

-- what each client but client 0 goes by: the key of its last job that was admitted with one
abbrev pub Clients : Type 0
Clients = List (ℕ × ℕ)

-- client 0 asks by its cookie, another for the key that it goes by, and for a new one where there is none
abbrev pub asked_by : Clients → ℕ → Asked
asked_by clients client =
    if client == 0 then Cookie else elim (lookup (nat_eq client) clients) [ Some key ↦ Key key | None ↦ Fresh ]

-- the job of a client's request
pub record IsJobOf (clients : Clients) (client moment : ℕ) (bytes : List ℕ) (job : Job) : Type 0 where
  pub asked : request.Request
  pub bytes_are : IsRequestOf bytes asked
  pub job_is : job ≡ record { work = Page asked; moment = moment; asked = asked_by clients client }

-- the clients after the entry of a client's job
abbrev pub clients_after : Clients → ℕ → What → Clients
clients_after clients client (Admit run key fresh job) =
    if key == 0 then clients else insert_entry nat_eq clients client key
clients_after clients client _ = clients

-- ---- what comes to a journal from outside

-- whether the entry is a Tick, a job that came, or the Stop
abbrev pub comes : What → Bool
comes (Admit run key fresh job) = true
comes (Refuse run job) = true
comes (Tick moment) = true
comes Stop = true
comes _ = false

-- what came, newest first
abbrev pub events_of : List Entry → List What
events_of [] = []
events_of (entry ∷ past) = if comes entry.what then entry.what ∷ events_of past else events_of past

-- no run waits and none is unfinished
abbrev pub is_calm : List Entry → Bool
is_calm past = length (waiting past) == 0 && length (unfinished past) == 0

-- time goes on, and the Stop comes, where no run waits and none is unfinished
abbrev pub IsCalmBefore : List Entry → What → Type 0
IsCalmBefore past (Tick moment) = is_calm past ≡ true
IsCalmBefore past Stop = is_calm past ≡ true
IsCalmBefore past _ = Unit {0}

abbrev pub AreCalm : List Entry → Type 0
AreCalm [] = Unit {0}
AreCalm (entry ∷ past) = IsCalmBefore past entry.what × AreCalm past

-- ---- items

-- the moment of the newest item, 0 before the first
abbrev pub moment_by : List Item → ℕ
moment_by [] = 0
moment_by (newest ∷ items) = recorded.moment_of newest

-- a Tick, where time goes on from one moment to another
abbrev pub tick_to : ℕ → ℕ → List What
tick_to now moment = if nat_lt now moment then Tick moment ∷ [] else []

-- the job of a client's request was admitted or refused
abbrev pub CameFrom : Clients → ℕ → ℕ → List ℕ → What → Type 0
CameFrom clients client moment bytes (Admit run key fresh job) = IsJobOf clients client moment bytes job
CameFrom clients client moment bytes (Refuse run job) = IsJobOf clients client moment bytes job
CameFrom clients client moment bytes _ = ⊥

-- the events are these items, which leave the clients so
abbrev pub AreItems : List Item → List What → Clients → Type 0
AreItems [] events clients = (events ≡ []) × (clients ≡ [])
AreItems (item.Tick moment ∷ items) events clients =
    (before : List What) × AreItems items before clients × (events ≡ tick_to (moment_by items) moment ++ before)
AreItems (item.Request client moment bytes ∷ items) events clients =
    (before : List What) × (earlier : Clients) × (what : What) × AreItems items before earlier
    × CameFrom earlier client moment bytes what × (clients ≡ clients_after earlier client what)
    × (events ≡ what ∷ tick_to (moment_by items) moment ++ before)

-- what came to the journal are these items, which leave the clients so
pub record HasCome (items : List Item) (past : List Entry) (clients : Clients) : Type 0 where
  pub items_are : AreItems items (events_of past) clients
  pub calm : AreCalm past

-- what came to the journal are these items, and then the Stop; given oldest first
pub record IsFed (items : List Item) (past : List Entry) : Type 0 where
  pub clients : Clients
  pub before : List What
  pub stop : events_of past ≡ Stop ∷ before
  pub items_are : AreItems (reverse items) before clients
  pub calm : AreCalm past

-- what came to the journal are the first of these items, or all and then the Stop; given oldest first
abbrev pub IsFedPart : List Item → List Entry → Type 0
IsFedPart items past = IsFed items past
    ⊎ ((first later : List Item) × (clients : Clients) × (items ≡ first ++ later)
    × HasCome (reverse first) past clients)
