-- What came to a journal from outside, while entries come.
use Rattle.std.proofs.Common.{is_some, ◌≡◌, ℕ, ◌+◌, ◌<◌, ◌≤◌, ◌||◌, ◌&&◌, Bool, true, false, if◌then◌else◌, List, []}
use Rattle.std.proofs.Common.{◌∷◌, ◌++◌}
use Rattle.std.proofs.Common.{None, unwrap_or, reverse, refl, ap, sym, ◌∙◌, subst, arith, nat_le, nat_lt, length}
use Rattle.std.proofs.Common.{inl, inr}
use Rattle.std.proofs.lemmas.Bool.{cases_lt, lt-ltb}
use Rattle.asp_core.specs.Drawing.{entry_then}
use Rattle.asp_core.specs.Laws.{NoneIs}
use Rattle.asp_journal.specs.Telling.{end_kind}
use Rattle.asp_core.proofs.Kept.{no_tick_is, tick_is}
use Rattle.asp_core.proofs.Waiting.{tick_stopping}
use Rattle.asp_job.specs.declared.answer.Answer.{Answer}
use Rattle.asp_job.specs.declared.entry.Entry.{Entry}
use Rattle.asp_job.specs.declared.entry.TheConstants.{MOST_WAITING}
use Rattle.asp_job.specs.declared.entry.What.{What}
use Rattle.asp_job.specs.declared.entry.What.TheVariants.{Admit, App, Begin, End, Halt, Queue, Refuse, Stop, Take, Tick}
use Rattle.asp_job.specs.declared.job.Job.{Job}
use Rattle.asp_job.specs.declared.job.Work.{Work}
use Rattle.asp_job.specs.declared.job.Work.TheVariants.{Page}
use Rattle.asp_job.specs.History.{with_lane}
use Rattle.asp_job.specs.Journal.{admit_entry, is_refused, job_now, past_after, queue_entries, stop_entries}
use Rattle.asp_job.specs.Journal.{tick_entries}
use Rattle.asp_job.specs.Keys.{session_of}
use Rattle.asp_job.specs.Rules.{Rules}
use Rattle.asp_job.specs.Runs.{drawn, is_stop, is_stopping, moment_in, moment_of}
use Rattle.asp_job.specs.Turns.{key_asked_by, key_for, needs_key, owed, waiting_pages}
use Rattle.asp_record.specs.declared.recording.Item.{Item}
use Rattle.asp_record.specs.declared.recording.Item.TheVariants as item
use Rattle.asp_record.specs.Recorded as recorded
use Rattle.asp_feed.specs.Feeding.{AreCalm, AreItems, CameFrom, Clients, HasCome, IsCalmBefore, IsFed, IsJobOf}
use Rattle.asp_feed.specs.Feeding.{asked_by, clients_after, comes, events_of, is_calm, moment_by, tick_to}
use Rattle.asp_replay.specs.Sequential.{AddsItem, hand_outs, may_come}

-- ---- entries that do not come from outside

quiet_calm : (past : List Entry) (what : What) → comes what ≡ false → IsCalmBefore past what
quiet_calm past (Queue run work key) quiet = tt
quiet_calm past (Admit run key fresh job) quiet = tt
quiet_calm past (Refuse run job) quiet = tt
quiet_calm past (Tick moment) quiet = absurd cc
quiet_calm past (Begin run serial) quiet = tt
quiet_calm past (App run call reply) quiet = tt
quiet_calm past (End run kind status size made finished) quiet = tt
quiet_calm past (Take run) quiet = tt
quiet_calm past Stop quiet = absurd cc
quiet_calm past Halt quiet = tt

quiet_stop : (what : What) → comes what ≡ false → is_stop what ≡ false
quiet_stop (Queue run work key) quiet = refl
quiet_stop (Admit run key fresh job) quiet = refl
quiet_stop (Refuse run job) quiet = refl
quiet_stop (Tick moment) quiet = refl
quiet_stop (Begin run serial) quiet = refl
quiet_stop (App run call reply) quiet = refl
quiet_stop (End run kind status size made finished) quiet = refl
quiet_stop (Take run) quiet = refl
quiet_stop Stop quiet = absurd cc
quiet_stop Halt quiet = refl

quiet_tick : (what : What) → comes what ≡ false → moment_in what ≡ None
quiet_tick (Queue run work key) quiet = refl
quiet_tick (Admit run key fresh job) quiet = refl
quiet_tick (Refuse run job) quiet = refl
quiet_tick (Tick moment) quiet = absurd cc
quiet_tick (Begin run serial) quiet = refl
quiet_tick (App run call reply) quiet = refl
quiet_tick (End run kind status size made finished) quiet = refl
quiet_tick (Take run) quiet = refl
quiet_tick Stop quiet = refl
quiet_tick Halt quiet = refl

-- an entry that is no Stop, and one that is no Tick
pub stopping_same : (past : List Entry) (entry : Entry) → is_stop entry.what ≡ false
    → is_stopping (entry ∷ past) ≡ is_stopping past
stopping_same past entry none = ap (λ b. b || is_stopping past) none

pub moment_same : (past : List Entry) (entry : Entry) → moment_in entry.what ≡ None
    → moment_of (entry ∷ past) ≡ moment_of past
moment_same past entry none = ap (λ found. unwrap_or found (moment_of past)) none

events_same : (past : List Entry) (entry : Entry) → comes entry.what ≡ false → events_of (entry ∷ past) ≡ events_of past
events_same past entry quiet = rw quiet refl

-- what came, the moment, and whether a Stop stands are the same after new as after old
pub record IsAsBefore (old new : List Entry) : Type 0 where
  pub events : events_of new ≡ events_of old
  pub calm : AreCalm old → AreCalm new
  pub stopping : is_stopping new ≡ is_stopping old
  pub moment : moment_of new ≡ moment_of old

pub quiet_one : (past : List Entry) (entry : Entry) → comes entry.what ≡ false → IsAsBefore past (entry ∷ past)
quiet_one past entry quiet =
    record {
      events = events_same past entry quiet;
      calm = λ calm. (quiet_calm past entry.what quiet, calm);
      stopping = stopping_same past entry (quiet_stop entry.what quiet);
      moment = moment_same past entry (quiet_tick entry.what quiet);
    }

pub quiet_all : (past entries : List Entry) → NoneIs comes entries → IsAsBefore past (past_after past entries)
quiet_all past [] quiet = record { events = refl; calm = λ calm. calm; stopping = refl; moment = refl }
quiet_all past (entry ∷ entries) quiet =
    let one = quiet_one past entry quiet.0 in
    let more = quiet_all (entry ∷ past) entries quiet.1 in
    record {
      events = more.events ∙ one.events;
      calm = λ calm. more.calm (one.calm calm);
      stopping = more.stopping ∙ one.stopping;
      moment = more.moment ∙ one.moment;
    }

pub come_as_before : (items : List Item) (old new : List Entry) (clients : Clients) → IsAsBefore old new
    → HasCome items old clients → HasCome items new clients
come_as_before items old new clients same came =
    record {
      items_are = subst (λ events. AreItems items events clients) (sym same.events) came.items_are;
      calm = same.calm came.calm;
    }

pub fed_as_before : (items : List Item) (old new : List Entry) → IsAsBefore old new → IsFed items old → IsFed items new
fed_as_before items old new same fed =
    record {
      clients = fed.clients;
      before = fed.before;
      stop = same.events ∙ fed.stop;
      items_are = fed.items_are;
      calm = same.calm fed.calm;
    }

pub quiet_entry : (items : List Item) (past : List Entry) (clients : Clients) (entry : Entry) → comes entry.what ≡ false
    → HasCome items past clients → HasCome items (entry ∷ past) clients
quiet_entry items past clients entry quiet = come_as_before items past (entry ∷ past) clients
    (quiet_one past entry quiet)

pub quiet_entries : (items : List Item) (past : List Entry) (clients : Clients) (entries : List Entry)
    → NoneIs comes entries → HasCome items past clients → HasCome items (past_after past entries) clients
quiet_entries items past clients entries quiet = come_as_before items past (past_after past entries) clients
    (quiet_all past entries quiet)

pub fed_entry : (items : List Item) (past : List Entry) (entry : Entry) → comes entry.what ≡ false → IsFed items past
    → IsFed items (entry ∷ past)
fed_entry items past entry quiet = fed_as_before items past (entry ∷ past) (quiet_one past entry quiet)

pub fed_entries : (items : List Item) (past entries : List Entry) → NoneIs comes entries → IsFed items past
    → IsFed items (past_after past entries)
fed_entries items past entries quiet = fed_as_before items past (past_after past entries) (quiet_all past entries quiet)

-- runs that are queued, and answers that are handed out
pub queue_quiet : (lane run : ℕ) (list : List (Work × ℕ)) → NoneIs comes (queue_entries lane run list)
queue_quiet lane run [] = tt
queue_quiet lane run (first ∷ rest) = (refl, queue_quiet lane (run + 1) rest)

pub hand_outs_quiet : (answers : List (ℕ × Answer)) → NoneIs comes (hand_outs answers)
hand_outs_quiet [] = tt
hand_outs_quiet (first ∷ rest) = (refl, hand_outs_quiet rest)

-- ---- time goes on

or_right : (a b : Bool) → (a || b) ≡ true → a ≡ false → b ≡ true
or_right true b either none = absurd cc
or_right false b either none = either

and_left : (a b : Bool) → (a && b) ≡ true → a ≡ true
and_left true b both = refl
and_left false b both = both

and_right : (a b : Bool) → (a && b) ≡ true → b ≡ true
and_right true b both = both
and_right false b both = absurd cc

tick_to_later : (now moment : ℕ) → now < moment → tick_to now moment ≡ Tick moment ∷ []
tick_to_later now moment later = let test = lt-ltb now moment later in rw test refl

tick_to_early : (now moment : ℕ) → moment ≤ now → tick_to now moment ≡ []
tick_to_early now moment early = let test : nat_lt now moment ≡ false = grind arith in rw test refl

-- what came, with the Tick of this moment, where it is greater
record IsAfterTick (old : List Entry) (moment : ℕ) (new : List Entry) : Type 0 where
  events : events_of new ≡ tick_to (moment_of old) moment ++ events_of old
  calm : AreCalm old → (nat_le moment (moment_of old) || is_calm old) ≡ true → AreCalm new
  moment_is : moment_of old ≤ moment → moment_of new ≡ moment

after_tick : (past : List Entry) (moment : ℕ) (queued : List Entry) → moment_of past < moment → NoneIs comes queued
    → IsAfterTick past moment (past_after (with_lane 0 (Tick moment) ∷ past) queued)
after_tick past moment queued later quiet =
    let ticked = with_lane 0 (Tick moment) ∷ past in
    let same = quiet_all ticked queued quiet in
    let late : nat_le moment (moment_of past) ≡ false = grind arith in
    record {
      events = same.events
          ∙ sym (ap (λ events. events ++ events_of past) (tick_to_later (moment_of past) moment later));
      calm = λ calm may. same.calm (or_right (nat_le moment (moment_of past)) (is_calm past) may late, calm);
      moment_is = λ h. same.moment;
    }

no_tick : (past : List Entry) (moment : ℕ) → moment ≤ moment_of past → IsAfterTick past moment past
no_tick past moment early =
    record {
      events = sym (ap (λ events. events ++ events_of past) (tick_to_early (moment_of past) moment early));
      calm = λ calm may. calm;
      moment_is = λ h. omega arith;
    }

tick_came : (rules : Rules) (past : List Entry) (moment : ℕ)
    → IsAfterTick past moment (past_after past (tick_entries rules past 0 moment))
tick_came rules past moment = elim (cases_lt (moment_of past) moment) [
  | inl later ↦ subst (λ entries. IsAfterTick past moment (past_after past entries))
      (sym (tick_is rules past 0 moment later))
      (after_tick past moment
      (queue_entries 0 (drawn past + 1) (owed rules (with_lane 0 (Tick moment) ∷ past))) later
      (queue_quiet 0 (drawn past + 1) (owed rules (with_lane 0 (Tick moment) ∷ past))))
  | inr early ↦ subst (λ entries. IsAfterTick past moment (past_after past entries))
      (sym (no_tick_is rules past 0 moment early)) (no_tick past moment early)
]

-- ---- a job comes

-- the entry of a client's job, which is neither a Tick nor a Stop
record IsOfClient (past : List Entry) (clients : Clients) (client moment : ℕ) (bytes : List ℕ) (what : What) : Type 0
  where
    comes_so : comes what ≡ true
    calm : IsCalmBefore past what
    no_stop : is_stop what ≡ false
    no_tick : moment_in what ≡ None
    came : CameFrom clients client moment bytes what

abbrev drawn_if : Bool → ℕ → ℕ → Bool → Job → What
drawn_if refused run key fresh job = if refused then Refuse run job else Admit run key fresh job

of_client : (refused : Bool) (past : List Entry) (clients : Clients) (client moment : ℕ) (bytes : List ℕ)
    (run key : ℕ) (fresh : Bool) (job : Job) → IsJobOf clients client moment bytes job
    → IsOfClient past clients client moment bytes (drawn_if refused run key fresh job)
of_client true past clients client moment bytes run key fresh job is =
    record { comes_so = refl; calm = tt; no_stop = refl; no_tick = refl; came = is }
of_client false past clients client moment bytes run key fresh job is =
    record { comes_so = refl; calm = tt; no_stop = refl; no_tick = refl; came = is }

-- the job at the journal's moment
now_is : (past : List Entry) (clients : Clients) (client moment : ℕ) (bytes : List ℕ) (job : Job)
    → IsJobOf clients client moment bytes job → moment_of past ≡ moment
    → IsJobOf clients client moment bytes (job_now past job)
now_is past clients client moment bytes job is now =
    record {
      asked = is.asked;
      bytes_are = is.bytes_are;
      job_is = ap (job_now past) is.job_is ∙ ap (λ m. record {
        work = Page is.asked;
        moment = m;
        asked = asked_by clients client;
      }) now;
    }

admit_is : (rules : Rules) (past : List Entry) (clients : Clients) (client moment : ℕ) (bytes : List ℕ) (job : Job)
    → IsJobOf clients client moment bytes job → moment_of past ≡ moment
    → IsOfClient past clients client moment bytes (admit_entry rules past 0 job).what
admit_is rules past clients client moment bytes job is now =
    let job' = job_now past job in
    let keyed = rules.meaning.is_keyed job' in
    let asked = key_asked_by rules job' in
    let sessions = session_of rules past in
    of_client (is_refused keyed asked sessions past) past clients client moment bytes (drawn past + 1)
    (key_for keyed asked sessions past) (needs_key keyed asked sessions past) job'
    (now_is past clients client moment bytes job is now)

after_more : (past entries : List Entry) (entry : Entry) → past_after past (entries ++ entry ∷ [])
    ≡ entry ∷ past_after past entries
after_more past [] entry = refl
after_more past (first ∷ entries) entry = after_more (first ∷ past) entries entry

-- ---- an item comes

-- the item came at its moment, and no Stop
pub record HasItem (items : List Item) (old new : List Entry) (clients : Clients) : Type 0 where
  pub came : HasCome items new clients
  pub now : moment_of new ≡ moment_by items
  pub stopping : is_stopping new ≡ is_stopping old

tick_item : (rules : Rules) (done : List Item) (past : List Entry) (clients : Clients) (moment : ℕ)
    → HasCome done past clients → moment_of past ≡ moment_by done
    → (nat_le moment (moment_of past) || is_calm past) ≡ true → moment_by done ≤ moment
    → HasItem (item.Tick moment ∷ done) past (past_after past (tick_entries rules past 0 moment)) clients
tick_item rules done past clients moment came now may rises =
    let ticked = tick_came rules past moment in
    let new = past_after past (tick_entries rules past 0 moment) in
    let events_are : events_of new ≡ tick_to (moment_by done) moment ++ events_of past = ticked.events
    ∙ ap (λ m. tick_to m moment ++ events_of past) now in
    record {
      came = record {
        items_are = (events_of past, came.items_are, events_are);
        calm = ticked.calm came.calm may;
      };
      now = ticked.moment_is (omega arith);
      stopping = tick_stopping rules past 0 moment;
    }

events_more : (past : List Entry) (entry : Entry) → comes entry.what ≡ true → events_of (entry ∷ past) ≡ entry.what ∷
    events_of past
events_more past entry more = rw more refl

request_item : (rules : Rules) (done : List Item) (past : List Entry) (clients : Clients) (client moment : ℕ)
    (bytes : List ℕ) (job : Job) → HasCome done past clients → moment_of past ≡ moment_by done
    → (nat_le moment (moment_of past) || is_calm past) ≡ true → moment_by done ≤ moment
    → IsJobOf clients client moment bytes job
    → HasItem (item.Request client moment bytes ∷ done) past
    (admit_entry rules (past_after past (tick_entries rules past 0 moment)) 0 job
    ∷ past_after past (tick_entries rules past 0 moment))
    (clients_after clients client
    (admit_entry rules (past_after past (tick_entries rules past 0 moment)) 0 job).what)
request_item rules done past clients client moment bytes job came now may rises is =
    let ticked = tick_came rules past moment in
    let mid = past_after past (tick_entries rules past 0 moment) in
    let mid_now : moment_of mid ≡ moment = ticked.moment_is (omega arith) in
    let entry = admit_entry rules mid 0 job in
    let its = admit_is rules mid clients client moment bytes job is mid_now in
    let mid_events : events_of mid ≡ tick_to (moment_by done) moment ++ events_of past = ticked.events
    ∙ ap (λ m. tick_to m moment ++ events_of past) now in
    let events_are : events_of (entry ∷ mid) ≡ entry.what ∷ tick_to (moment_by done) moment ++ events_of past =
    events_more mid entry its.comes_so ∙ ap (λ events. entry.what ∷ events) mid_events in
    record {
      came = record {
        items_are = (events_of past, clients, entry.what, came.items_are, its.came, refl, events_are);
        calm = (its.calm, ticked.calm came.calm may);
      };
      now = moment_same mid entry its.no_tick ∙ mid_now;
      stopping = stopping_same mid entry its.no_stop ∙ tick_stopping rules past 0 moment;
    }

pub time_may : (past : List Entry) (moment : ℕ) → may_come past moment ≡ true
    → (nat_le moment (moment_of past) || is_calm past) ≡ true
time_may past moment may =
    let time = nat_le moment (moment_of past) || is_calm past in
    let front = and_left (is_some (end_kind past 1) && time) (nat_lt (length (waiting_pages past)) MOST_WAITING) may in
    and_right (is_some (end_kind past 1)) time front

pub ended_may : (past : List Entry) (moment : ℕ) → may_come past moment ≡ true → is_some (end_kind past 1) ≡ true
ended_may past moment may =
    let time = nat_le moment (moment_of past) || is_calm past in
    let front = and_left (is_some (end_kind past 1) && time) (nat_lt (length (waiting_pages past)) MOST_WAITING) may in
    and_left (is_some (end_kind past 1)) time front

pub few_may : (past : List Entry) (moment : ℕ) → may_come past moment ≡ true
    → nat_lt (length (waiting_pages past)) MOST_WAITING ≡ true
few_may past moment may =
    let time = nat_le moment (moment_of past) || is_calm past in
    and_right (is_some (end_kind past 1) && time) (nat_lt (length (waiting_pages past)) MOST_WAITING) may

pub item_came : (rules : Rules) (done : List Item) (past : List Entry) (clients then_clients : Clients) (next : Item)
    (entries : List Entry) → HasCome done past clients → moment_of past ≡ moment_by done
    → may_come past (recorded.moment_of next) ≡ true → moment_by done ≤ recorded.moment_of next
    → AddsItem rules past clients next entries then_clients
    → HasItem (next ∷ done) past (past_after past entries) then_clients
item_came rules done past clients then_clients (item.Tick moment) entries came now may rises adds =
    let is : HasItem (item.Tick moment ∷ done) past (past_after past (tick_entries rules past 0 moment)) clients =
    tick_item rules done past clients moment came now (time_may past moment may) rises in
    let then_is = subst (λ es. HasItem (item.Tick moment ∷ done) past (past_after past es) clients) (sym adds.0) is in
    subst (HasItem (item.Tick moment ∷ done) past (past_after past entries)) (sym adds.1) then_is
item_came rules done past clients then_clients (item.Request client moment bytes) entries came now may rises adds =
    let job = adds.0 in
    let its = adds.1 in
    let items = item.Request client moment bytes ∷ done in
    let job_moment : job.moment ≡ moment = ap (λ j. j.moment) its.job_is in
    let time = time_may past moment may in
    let is = request_item rules done past clients client moment bytes job came now time rises its in
    let at = subst (λ m. HasItem items past (admit_entry rules (past_after past (tick_entries rules past 0 m)) 0 job
    ∷ past_after past (tick_entries rules past 0 m)) (clients_after clients client
    (admit_entry rules (past_after past (tick_entries rules past 0 m)) 0 job).what)) (sym job_moment) is in
    let entry = entry_then rules past 0 job in
    let after : past_after past entries ≡ entry ∷ past_after past (tick_entries rules past 0 job.moment) =
    ap (past_after past) adds.2 ∙ after_more past (tick_entries rules past 0 job.moment) entry in
    let then_is = subst (λ new. HasItem items past new (clients_after clients client entry.what)) (sym after) at in
    subst (HasItem items past (past_after past entries)) (sym adds.3) then_is

-- ---- the Stop comes

-- all items came and the Stop, at the same moment
pub record HasStop (items : List Item) (old new : List Entry) : Type 0 where
  pub fed : IsFed items new
  pub stopping : is_stopping new ≡ true
  pub moment : moment_of new ≡ moment_of old

pub stop_came : (rules : Rules) (items : List Item) (past : List Entry) (clients : Clients)
    → HasCome (reverse items) past clients → is_calm past ≡ true
    → HasStop items past (past_after past (stop_entries rules past 0))
stop_came rules items past clients came calm =
    let stopped = with_lane 0 Stop ∷ past in
    let run = drawn stopped + 1 in
    let same = quiet_all stopped (queue_entries 0 run (owed rules stopped)) (queue_quiet 0 run (owed rules stopped)) in
    record {
      fed = record {
        clients = clients;
        before = events_of past;
        stop = same.events;
        items_are = came.items_are;
        calm = same.calm (calm, came.calm);
      };
      stopping = same.stopping;
      moment = same.moment;
    }
