-- The history of one lane that is fed by a recording. All of it is our own.
use Rattle.std.specs.Prelude.{◌≡◌, ◌⊎◌, ℕ, zero, suc, ◌&&◌, ◌||◌, Bool, true, false, nat_le, nat_lt}
use Rattle.std.specs.Prelude.{List, [], ◌∷◌, is_some, length, map}
use Rattle.vb_value.specs.declared.application.AppCall.{AppCall}
use Rattle.asp_job.specs.declared.answer.Answer.{Answer}
use Rattle.asp_job.specs.declared.entry.EndKind.TheVariants as kind
use Rattle.asp_job.specs.declared.entry.Entry.{Entry}
use Rattle.asp_job.specs.declared.entry.TheConstants.{MOST_WAITING}
use Rattle.asp_job.specs.declared.entry.What.{What}
use Rattle.asp_job.specs.declared.entry.What.TheVariants as what
use Rattle.asp_job.specs.declared.job.Job.{Job}
use Rattle.asp_job.specs.declared.job.Work.TheVariants as work
use Rattle.asp_job.specs.History.{call_entry, with_lane}
use Rattle.asp_job.specs.Journal.{MayEnd, admit_entries, begin_entry, end_entry, past_after, stop_entries}
use Rattle.asp_job.specs.Journal.{tick_entries}
use Rattle.asp_job.specs.Keys.{told}
use Rattle.asp_job.specs.Rules.{Rules}
use Rattle.asp_job.specs.Runs.{is_stopping, moment_of, unfinished}
use Rattle.asp_job.specs.Told.{Wants}
use Rattle.asp_job.specs.Turns.{IsBegin, serial_of, waiting_pages}
use Rattle.asp_core.specs.Ready.{ready}
use Rattle.asp_journal.specs.Telling.{end_kind}
use Rattle.asp_record.specs.declared.recording.Item.{Item}
use Rattle.asp_record.specs.declared.recording.Item.TheVariants as item
use Rattle.asp_record.specs.Recorded as recorded
use Rattle.asp_core.specs.Drawing.{entry_then}
use Rattle.asp_feed.specs.Feeding.{Clients, IsJobOf, clients_after, is_calm}

-- where a lane stands: the journal, newest entry first, the items that are still to come, and what clients go by
pub record Place : Type 0 where
  pub past : List Entry
  pub items : List Item
  pub clients : Clients

-- ---- what an item adds

-- Whether an item of this moment may come: the first run has ended, time need not go on or nothing is under way, and
-- not too many pages wait.
abbrev pub may_come : List Entry → ℕ → Bool
may_come past moment = is_some (end_kind past 1) && (nat_le moment (moment_of past) || is_calm past)
    && nat_lt (length (waiting_pages past)) MOST_WAITING

-- an item adds these entries, and leaves the clients so
abbrev pub AddsItem : Rules → List Entry → Clients → Item → List Entry → Clients → Type 0
AddsItem rules past clients (item.Tick moment) entries then_clients =
    (entries ≡ tick_entries rules past 0 moment) × (then_clients ≡ clients)
AddsItem rules past clients (item.Request client moment bytes) entries then_clients =
    (job : Job) × IsJobOf clients client moment bytes job × (entries ≡ admit_entries rules past 0 job)
    × (then_clients ≡ clients_after clients client (entry_then rules past 0 job).what)

-- ---- what a run adds

-- the run in hand, or the next run, which begins
abbrev pub HasInHand : Rules → List Entry → List Entry → ℕ → Type 0
HasInHand rules past mid run =
    ((unfinished past ≡ run ∷ []) × (mid ≡ past))
    ⊎ ((unfinished past ≡ []) × IsBegin rules past run (serial_of rules past run)
    × (mid ≡ begin_entry rules past 0 run ∷ past))

-- its next call, or its End by itself
abbrev pub IsNextStep : Rules → List Entry → ℕ → Entry → Type 0
IsNextStep rules past run entry =
    ((call : AppCall) × (rules.meaning.does (told rules past run) ≡ Wants call)
    × (entry ≡ call_entry past 0 run call))
    ⊎ (MayEnd rules past 0 run kind.Done × (entry ≡ end_entry rules past 0 run kind.Done))

-- a run begins, if none is in hand, and makes its next call or ends
pub record Works (rules : Rules) (past new : List Entry) : Type 0 where
  pub mid : List Entry
  pub run : ℕ
  pub in_hand : HasInHand rules past mid run
  pub entry : Entry
  pub step : IsNextStep rules mid run entry
  pub new_is : new ≡ entry ∷ mid

-- ---- turns

-- the answers that wait are handed out, in their order
abbrev pub hand_outs : List (ℕ × Answer) → List Entry
hand_outs answers = map (λ ready. with_lane 0 (what.Take ready.0)) answers

abbrev pub handed_out : Rules → List Entry → List Entry
handed_out rules past = past_after past (hand_outs (ready rules past))

-- the next item comes, where it may
pub record IsComing (rules : Rules) (from to : Place) : Type 0 where
  pub next : Item
  pub entries : List Entry
  pub items_are : from.items ≡ next ∷ to.items
  pub may : may_come from.past (recorded.moment_of next) ≡ true
  pub adds : AddsItem rules from.past from.clients next entries to.clients
  pub past_is : to.past ≡ handed_out rules (past_after from.past entries)

-- the host stops, once all items came and nothing is under way
pub record IsStopping (rules : Rules) (from to : Place) : Type 0 where
  pub none : from.items ≡ []
  pub none_then : to.items ≡ []
  pub calm : is_calm from.past ≡ true
  pub once : is_stopping from.past ≡ false
  pub clients_are : to.clients ≡ from.clients
  pub past_is : to.past ≡ handed_out rules (past_after from.past (stop_entries rules from.past 0))

-- neither may be, and something is under way
abbrev pub IsBusy : List Entry → List Item → Type 0
IsBusy past [] = is_calm past ≡ false
IsBusy past (next ∷ items) = may_come past (recorded.moment_of next) ≡ false

-- the run in hand goes on, or one begins
pub record IsWorking (rules : Rules) (from to : Place) : Type 0 where
  pub busy : IsBusy from.past from.items
  pub items_are : to.items ≡ from.items
  pub clients_are : to.clients ≡ from.clients
  pub mid : List Entry
  pub works : Works rules from.past mid
  pub past_is : to.past ≡ handed_out rules mid

abbrev pub IsTurn : Rules → Place → Place → Type 0
IsTurn rules from to = IsComing rules from to ⊎ IsStopping rules from to ⊎ IsWorking rules from to

-- so many turns
abbrev pub AreTurns : Rules → ℕ → Place → Place → Type 0
AreTurns rules zero from to = to ≡ from
AreTurns rules (suc n) from to = (mid : Place) × AreTurns rules n from mid × IsTurn rules mid to

-- the first run waits, and all items are still to come
abbrev pub first_place : List Item → Place
first_place items = record { past = with_lane 0 (what.Queue 1 work.Start 0) ∷ []; items = items; clients = [] }

-- A journal is the history of one lane: turns lead to it, all items came, the host has stopped, and nothing is under
-- way.
pub record IsSequential (rules : Rules) (items : List Item) (past : List Entry) : Type 0 where
  pub count : ℕ
  pub clients : Clients
  pub turns : AreTurns rules count (first_place items) (record { past = past; items = []; clients = clients })
  pub stopped : is_stopping past ≡ true
  pub calm : is_calm past ≡ true

-- a run ended because memory ran out
abbrev pub is_memory_end : What → Bool
is_memory_end (what.End run kind.Memory status size made finished) = true
is_memory_end _ = false
