-- This crate's own: where a feed stands, and what each of its parts adds.
use Rattle.std.specs.Prelude.{◌≡◌, ◌⊎◌, ◌&&◌, ℕ, Bool, true, false, not, is_some, ⊤, List, [], ◌∷◌, ◌++◌, All, map}
use Rattle.std.specs.Prelude.{reverse, Option, Some, None, Result, Ok, Err}
use Rattle.std.specs.Borrow.{Bor}
use Rattle.asp_journal.specs.declared.full.Full.{Full}
use Rattle.asp_core.specs.declared.stop.AdmitStop.{AdmitStop}
use Rattle.asp_core.specs.declared.stop.AdmitStop.TheVariants as admit
use Rattle.asp_core.specs.declared.stop.EventStop.{EventStop}
use Rattle.asp_core.specs.declared.stop.EventStop.TheVariants as event
use Rattle.asp_core.specs.Kernel.{CoreView, RunView, IsBeginTooMuch, IsTooMuch, grown, past_of, rules_of}
use Rattle.asp_core.specs.Laws.{NoneIs}
use Rattle.asp_core.specs.Ready.{ready}
use Rattle.asp_core.specs.Start.{start_fail}
use Rattle.asp_journal.specs.Telling.{end_kind}
use Rattle.asp_io.specs.Copying.{AddsPart}
use Rattle.asp_io.specs.Sink.{with_bytes}
use Rattle.asp_job.specs.declared.answer.Answer.{Answer}
use Rattle.asp_job.specs.declared.entry.EndKind.TheVariants as kind
use Rattle.asp_job.specs.declared.entry.Entry.{Entry}
use Rattle.asp_job.specs.Journal.{end_entry, past_after}
use Rattle.asp_job.specs.Rules.{Rules}
use Rattle.asp_job.specs.Running.{is_page}
use Rattle.asp_job.specs.Runs.{is_halted, is_open, is_stopping, job_of, moment_of}
use Rattle.asp_job.specs.Told.{Meaning, Told}
use Rattle.asp_lane.specs.declared.turn.TurnEnd.{TurnEnd}
use Rattle.asp_lane.specs.declared.turn.TurnEnd.TheVariants as turn
use Rattle.asp_lane.specs.Turns.{Fits, IsCallTooMuch, IsStep}
use Rattle.asp_record.specs.declared.recording.Item.{Item}
use Rattle.asp_record.specs.Recorded.{AreItems}
use Rattle.asp_replay.specs.declared.stop.FeedStop.{FeedStop}
use Rattle.asp_replay.specs.declared.stop.FeedStop.TheVariants as stop
use Rattle.asp_replay.specs.Feed.{ArePartWritten, AreWritten, HasCause, HasFed, is_full_end}
use Rattle.asp_feed.specs.Feeding.{Clients, HasCome, IsFed, IsFedPart, comes, is_calm, moment_by}
use Rattle.asp_replay.specs.Sequential.{AddsItem, AreTurns, HasInHand, first_place, hand_outs, is_memory_end}
use Rattle.asp_feed.specs.Shown.{AreRecords, IsRecord, Shown}
use Rattle.asp_core.specs.declared.setting.Setting.{Setting}

-- ---- stops

abbrev pub event_stop : EventStop → FeedStop
event_stop (event.JournalFull full) = stop.JournalFull full
event_stop event.Memory = stop.Memory

-- a job that comes where it may is not refused as too many, nor after a Stop
abbrev pub admit_stop : AdmitStop → FeedStop
admit_stop (admit.JournalFull full) = stop.JournalFull full
admit_stop _ = stop.Memory

-- why nothing comes after a first run that failed or has not ended by itself
abbrev pub IsStartStop : Rules → List Entry → FeedStop → Type 0
IsStartStop rules past (stop.StartFailed fail) = start_fail rules past ≡ Some fail
IsStartStop rules past (stop.JournalFull full) = ⊥
IsStartStop rules past stop.WriteFault = ⊥
IsStartStop rules past stop.Memory = ⊤

-- why nothing goes on after work that came to this
abbrev pub turn_stop : TurnEnd → Option FeedStop
turn_stop (turn.JournalFull full) = Some (stop.JournalFull full)
turn_stop turn.Memory = Some stop.Memory
turn_stop _ = None

-- ---- what comes

-- an item came: its entries are the core's, and the clients are as it leaves them
abbrev pub HasGrown : {R Site : Type 0} → (R → Site → Meaning) → CoreView R Site → Clients → Item → CoreView R Site →
    Clients → Type 0
HasGrown meaning old clients item new then_clients = (entries : List Entry)
    × AddsItem (rules_of meaning old) (past_of old) clients item entries then_clients × (new ≡ grown old entries)

-- the entries that an item would add are too many or too heavy
abbrev pub IsItemTooMuch : Rules → List Entry → Clients → Item → Full → Type 0
IsItemTooMuch rules past clients item full = (added : List Entry) × (then_clients : Clients)
    × AddsItem rules past clients item added then_clients × IsTooMuch (past_after past added) full

-- ---- what a step adds

-- whether a turn came to this
abbrev pub is_more : TurnEnd → Bool
is_more turn.More = true
is_more _ = false

abbrev pub is_done : TurnEnd → Bool
is_done turn.Done = true
is_done _ = false

-- the entries of a step of the run in hand that came to this: its next call or its End, its End because its call does
-- not fit, or nothing
abbrev pub Steps : Rules → List Entry → ℕ → List Entry → TurnEnd → Type 0
Steps rules past run entries turn.Done =
    (entry : Entry) × IsStep rules past 0 run entry × (entries ≡ entry ∷ [])
Steps rules past run entries (turn.JournalFull full) =
    IsCallTooMuch rules past 0 run full × (entries ≡ end_entry rules past 0 run kind.JournalFull ∷ [])
Steps rules past run entries turn.Memory = entries ≡ []
Steps rules past run entries turn.More = ⊥
Steps rules past run entries turn.Idle = ⊥

-- the core has the entries of the step, and what is in hand then fits it
pub record HasStepped {R Site State : Type 0} (meaning : R → Site → Meaning)
    (stands : R → Site → State → Told → ℕ → Type 0) (old : CoreView R Site) (run : ℕ) (new : CoreView R Site)
    (in_hand : Option (RunView State)) (came_to : TurnEnd) : Type 0 where
  pub entries : List Entry
  pub new_is : new ≡ grown old entries
  pub steps : Steps (rules_of meaning old) (past_of old) run entries came_to
  pub fits : Fits meaning stands new 0 in_hand

-- ---- what work adds

-- the run in hand, or the next, makes its next call or ends, by itself or for want of memory
pub record WorkAdds (rules : Rules) (past entries : List Entry) : Type 0 where
  pub mid : List Entry
  pub run : ℕ
  pub in_hand : HasInHand rules past mid run
  pub entry : Entry
  pub step : IsStep rules mid 0 run entry
  pub entries_are : past_after past entries ≡ entry ∷ mid

-- the Begin of the next run is too much, or the next call of the run, which then ends
pub record EndsFull (rules : Rules) (past entries : List Entry) (full : Full) : Type 0 where
  pub mid : List Entry
  pub run : ℕ
  pub in_hand : HasInHand rules past mid run
  pub much : IsCallTooMuch rules mid 0 run full
  pub entries_are : past_after past entries ≡ end_entry rules mid 0 run kind.JournalFull ∷ mid

abbrev pub WorkIsTooMuch : Rules → List Entry → List Entry → Full → Type 0
WorkIsTooMuch rules past entries full =
    (IsBeginTooMuch rules past 0 full × (entries ≡ [])) ⊎ EndsFull rules past entries full

-- a run begins, or nothing comes
abbrev pub OnlyBegins : Rules → List Entry → List Entry → Type 0
OnlyBegins rules past entries =
    (entries ≡ []) ⊎ ((mid : List Entry) × (run : ℕ) × HasInHand rules past mid run × (past_after past entries ≡ mid))

-- the entries of work that came to this
abbrev pub Works : Rules → List Entry → List Entry → TurnEnd → Type 0
Works rules past entries turn.Done = WorkAdds rules past entries
Works rules past entries (turn.JournalFull full) = WorkIsTooMuch rules past entries full
Works rules past entries turn.Memory = OnlyBegins rules past entries
Works rules past entries turn.More = ⊥
Works rules past entries turn.Idle = ⊥

-- the core has the entries of the work, and what is in hand then fits it
pub record HasWorked {R Site State : Type 0} (meaning : R → Site → Meaning)
    (stands : R → Site → State → Told → ℕ → Type 0) (old new : CoreView R Site) (in_hand : Option (RunView State))
    (came_to : TurnEnd) : Type 0 where
  pub entries : List Entry
  pub new_is : new ≡ grown old entries
  pub works : Works (rules_of meaning old) (past_of old) entries came_to
  pub fits : Fits meaning stands new 0 in_hand

-- ---- what is written

-- a piece was written whole, or a first part of it, or nothing
abbrev pub HasWritten : {T : Type 0} → Result T FeedStop → Option (List ℕ) → Option (List ℕ) → List ℕ → Type 0
HasWritten (Ok given) old new piece = new ≡ with_bytes old piece
HasWritten (Err stop.WriteFault) old new piece = AddsPart old new piece
HasWritten (Err stop.Memory) old new piece = new ≡ old
HasWritten (Err (stop.JournalFull full)) old new piece = ⊥
HasWritten (Err (stop.StartFailed fail)) old new piece = ⊥

-- a write stops by a fault of the sink or for want of memory
abbrev pub IsOfWriting : {T : Type 0} → Result T FeedStop → Type 0
IsOfWriting (Err (stop.JournalFull full)) = ⊥
IsOfWriting (Err (stop.StartFailed fail)) = ⊥
IsOfWriting _ = ⊤

-- a text was written whole, or a first part of it
abbrev pub WritesText : {T : Type 0} → List ℕ → Result T FeedStop → Option (List ℕ) → Option (List ℕ) → Type 0
WritesText text (Ok given) old new = new ≡ with_bytes old text
WritesText text (Err (stop.JournalFull full)) old new = ⊥
WritesText text (Err (stop.StartFailed fail)) old new = ⊥
WritesText text (Err _) old new = AddsPart old new text

-- a record was written, or a first part of it, or nothing
abbrev pub WritesRecord : {T : Type 0} → Shown → Result T FeedStop → Option (List ℕ) → Option (List ℕ) → Type 0
WritesRecord shown (Ok given) old new = (bytes : List ℕ) × IsRecord shown bytes × (new ≡ with_bytes old bytes)
WritesRecord shown (Err stop.WriteFault) old new = (bytes : List ℕ) × IsRecord shown bytes × AddsPart old new bytes
WritesRecord shown (Err stop.Memory) old new = new ≡ old
WritesRecord shown (Err (stop.JournalFull full)) old new = ⊥
WritesRecord shown (Err (stop.StartFailed fail)) old new = ⊥

-- the answers that wait, whose jobs came at the journal's moment
abbrev pub stamped : Rules → List Entry → List Shown
stamped rules past =
    map (λ waits. record { run = waits.0; moment = moment_of past; answer = waits.1 }) (ready rules past)

-- so many of them were written, the last one maybe in part
pub record WritesPart (all : List Shown) (old new : Option (List ℕ)) : Type 0 where
  pub first : List Shown
  pub later : List Shown
  pub split : all ≡ first ++ later
  pub bytes : List ℕ
  pub are_records : AreRecords first bytes
  pub wrote : AddsPart old new bytes

-- the first of the answers that wait were handed out
pub record HandsOutPart {R Site : Type 0} (meaning : R → Site → Meaning) (old new : CoreView R Site) : Type 0 where
  pub taken : List (ℕ × Answer)
  pub later : List (ℕ × Answer)
  pub split : ready (rules_of meaning old) (past_of old) ≡ taken ++ later
  pub new_is : new ≡ grown old (hand_outs taken)

-- the answers that wait were handed out and written, or the first of them
abbrev pub HandsOut : {T R Site : Type 0} → (R → Site → Meaning) → Result T FeedStop → CoreView R Site
    → CoreView R Site →
    Option (List ℕ) → Option (List ℕ) → Type 0
HandsOut meaning (Ok given) old new before after = (bytes : List ℕ)
    × (new ≡ grown old (hand_outs (ready (rules_of meaning old) (past_of old))))
    × AreRecords (stamped (rules_of meaning old) (past_of old)) bytes × (after ≡ with_bytes before bytes)
HandsOut meaning (Err ended) old new before after =
    HandsOutPart meaning old new × WritesPart (stamped (rules_of meaning old) (past_of old)) before after

-- ---- where a feed stands

-- the job of each page that waits or is unfinished came at the journal's moment
abbrev pub AreCurrent : List Entry → Type 0
AreCurrent past = (run : ℕ) → is_open past run ≡ true → is_page (job_of past run).work ≡ true
    → (job_of past run).moment ≡ moment_of past

-- all entries are of lane 0
abbrev pub AreOfLane : List Entry → Type 0
AreOfLane past = All (λ entry. entry.lane ≡ 0) past

-- A journal to which one lane adds alone. Between turns no answer waits.
pub record IsOfOneLane (rules : Rules) (past : List Entry) : Type 0 where
  pub none_ready : ready rules past ≡ []
  pub current : AreCurrent past
  pub lanes : AreOfLane past
  pub going : is_halted past ≡ false
  pub none_full : NoneIs is_full_end past

-- the first items came, and the others are left
pub record IsFeeding (items : List Item) (past : List Entry) (clients : Clients) (left : List Item) : Type 0 where
  pub open_still : is_stopping past ≡ false
  pub done : List Item
  pub split : items ≡ done ++ left
  pub came : HasCome (reverse done) past clients
  pub now : moment_of past ≡ moment_by (reverse done)
  pub later : AreItems (moment_by (reverse done)) left

-- all items came, and the Stop
pub record HasAllFed (items : List Item) (past : List Entry) (left : List Item) : Type 0 where
  pub stopped : is_stopping past ≡ true
  pub none_left : left ≡ []
  pub fed : IsFed items past

abbrev pub StandsAt : List Item → List Entry → Clients → List Item → Type 0
StandsAt items past clients left = IsFeeding items past clients left ⊎ HasAllFed items past left

-- turns led here, unless memory ran out for a run
abbrev pub AreTurnsTo : Rules → List Item → List Entry → Clients → List Item → Type 0
AreTurnsTo rules items past clients left = (NoneIs is_memory_end past
    → (count : ℕ) × AreTurns rules count (first_place items)
    (record { past = past; items = left; clients = clients }))

-- where a feed stands between two turns
pub record IsUnderWay (rules : Rules) (items : List Item) (past : List Entry) (clients : Clients) (left : List Item)
    (before after : Option (List ℕ)) : Type 0 where
  pub lane : IsOfOneLane rules past
  pub stands : StandsAt items past clients left
  pub turns : AreTurnsTo rules items past clients left
  pub written : AreWritten rules past before after

-- whether the first run is still to end
abbrev pub is_starting : List Entry → Bool
is_starting past = not (is_some (end_kind past 1)) && not (is_calm past)

-- some recording is under way
abbrev pub IsBetween : Rules → List Entry → Option (List ℕ) → Type 0
IsBetween rules past after = (items left : List Item) × (clients : Clients) × (before : Option (List ℕ))
    × IsUnderWay rules items past clients left before after

-- what is handed back where nothing failed, and the failure
abbrev pub IsHandedBack : {T U : Type 0} → U → Result T FeedStop → Result U FeedStop → Type 0
IsHandedBack hand (Ok given) back = back ≡ Ok hand
IsHandedBack hand (Err ended) back = back ≡ Err ended

-- how a feed ends that stops before its end
pub record EndsSo (rules : Rules) (items : List Item) (past : List Entry) (ended : FeedStop)
    (before after : Option (List ℕ)) : Type 0 where
  pub fed : IsFedPart items past
  pub cause : HasCause rules items past ended
  pub written : ArePartWritten rules past before after

-- where a feed stands after a turn, or how it ends
abbrev pub After : {T : Type 0} → Result T FeedStop → Rules → List Item → List Entry → Clients → List Item →
    Option (List ℕ) → Option (List ℕ) → Type 0
After (Ok given) rules items past clients left before after = IsUnderWay rules items past clients left before after
After (Err ended) rules items past clients left before after = EndsSo rules items past ended before after

-- where a feed stands after a turn that left these items, or how it ends
abbrev pub AfterTurn : Result (Bor (List Item)) FeedStop → Rules → List Item → List Entry → Clients →
    Option (List ℕ) → Option (List ℕ) → Type 0
AfterTurn (Ok left) rules items past clients before after =
    IsUnderWay rules items past clients left.now before after
AfterTurn (Err ended) rules items past clients before after = EndsSo rules items past ended before after

-- all items came, the host has stopped, and nothing is under way
abbrev pub is_over : List Entry → List Item → Bool
is_over past [] = is_stopping past && is_calm past
is_over past (next ∷ left) = false

-- the core has grown by entries that come from no item
pub record GrowsQuietly {R Site : Type 0} (old new : CoreView R Site) : Type 0 where
  pub entries : List Entry
  pub new_is : new ≡ grown old entries
  pub quiet : NoneIs comes entries

-- memory ran out before there was a journal
abbrev pub HasNotBegun : FeedStop → Option (List ℕ) → Option (List ℕ) → Type 0
HasNotBegun ended before after = (ended ≡ stop.Memory) × (after ≡ before)

-- a recording was fed to its end, or not
abbrev pub AfterAll : {T : Type 0} → Result T FeedStop → Rules → List Item → List Entry → Option (List ℕ) →
    Option (List ℕ) → Type 0
AfterAll (Ok given) rules items past before after = HasFed rules items past before after
AfterAll (Err ended) rules items past before after = EndsSo rules items past ended before after

-- the core is that of the runner, the site and the setting
pub record IsCoreOf {R Site : Type 0} (runner : R) (site : Site) (setting : Setting) (core : CoreView R Site) : Type 0
  where
    pub runner_is : core.runner ≡ runner
    pub site_is : core.site ≡ site
    pub setting_is : core.setting ≡ setting
