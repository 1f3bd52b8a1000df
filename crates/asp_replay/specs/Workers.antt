-- What a recording leaves that was fed to a host on which several lanes worked. All of it is the product's own.
use Rattle.std.specs.Prelude.{◌≤◌, length, map}
use Rattle.std.specs.Prelude.{◌≡◌, ◌⊎◌, ℕ, ◌<◌, true, ⊤, List, [], ◌∷◌, ◌++◌, reverse, Option, Some, None, Result}
use Rattle.std.specs.Option.{option_or}
use Rattle.turn_desk.specs.Shown.{LaneView}
use Rattle.asp_core.specs.Kernel.{RunView}
use Rattle.asp_core.specs.Laws.{NoneIs}
use Rattle.asp_core.specs.Ready.{IsAnswered}
use Rattle.asp_core.specs.Start.{start_fail}
use Rattle.asp_desk.specs.Crews.{with_place}
use Rattle.asp_desk.specs.declared.slices.Slice.{Slice}
use Rattle.asp_desk.specs.declared.slices.Slice.TheVariants as slice
use Rattle.asp_desk.specs.declared.worker.WorkerOf.{WorkerOf}
use Rattle.asp_desk.specs.Hands.{Fixed, HandView, HostView, IsHandOf, rules_at}
use Rattle.asp_replay.specs.Adds.{AddsWork}
use Rattle.asp_job.specs.declared.answer.Fail.{Fail}
use Rattle.asp_job.specs.declared.entry.Entry.{Entry}
use Rattle.asp_job.specs.Journal.{IsValidJournal}
use Rattle.asp_job.specs.Rules.{Rules}
use Rattle.asp_job.specs.Told.{Meaning, Told}
use Rattle.asp_journal.specs.declared.full.Full.{Full}
use Rattle.asp_lane.specs.Started.{HasStarted}
use Rattle.asp_record.specs.declared.recording.Item.{Item}
use Rattle.asp_replay.specs.declared.stop.FeedStop.{FeedStop}
use Rattle.asp_replay.specs.declared.stop.FeedStop.TheVariants as stop
use Rattle.asp_replay.specs.Feed.{ArePartWritten, AreWritten, HasFailed, IsPassed, IsTooMuchNext, IsWoundUp, is_full_end}
use Rattle.asp_feed.specs.Feeding.{IsFed, IsFedPart, is_calm}
use Rattle.asp_replay.specs.Near.{IsBorneOut, IsLead, IsNear, IsTooMuchHere, LeavesBy, past_in}

-- ---- to the end

-- All items were fed to a host with this journal: the first run has ended by itself and did not fail, each run has
-- ended, and none because the journal was full. The answers were written.
pub record HasFedBeside (rules : Rules) (items : List Item) (past : List Entry) (before after : Option (List ℕ)) : Type 0
  where
    pub fed : IsFed items past
    pub started : HasStarted rules past
    pub ended : is_calm past ≡ true
    pub none_full : NoneIs is_full_end past
    pub written : AreWritten rules past before after

-- ---- not to the end

-- With what comes next it would be so full: with what lane 0 brings or does; or with a Begin of another of so many
-- lanes, or with the call that an unfinished run of it wants.
abbrev pub IsTooMuchBeside : ℕ → Rules → List Item → List Entry → Full → Type 0
IsTooMuchBeside workers rules items past full = IsTooMuchNext rules items past full
    ⊎ ((lane : ℕ) × (0 < lane) × (lane < workers) × IsTooMuchHere rules past lane full)

-- at some point of the journal it was so
abbrev pub WasTooMuchBeside : ℕ → Rules → List Item → List Entry → Full → Type 0
WasTooMuchBeside workers rules items past full = (earlier later : List Entry) × (past ≡ later ++ earlier)
    × IsTooMuchBeside workers rules items earlier full

-- the journal of a feed that came to this stop
abbrev pub HasCauseBeside : ℕ → Rules → List Item → List Entry → FeedStop → Type 0
HasCauseBeside workers rules items past (stop.StartFailed fail) = HasFailed rules past fail
HasCauseBeside workers rules items past (stop.JournalFull full) = WasTooMuchBeside workers rules items past full
HasCauseBeside workers rules items past stop.WriteFault = ⊤
HasCauseBeside workers rules items past stop.Memory = ⊤

-- The items were fed in part, to a host with this valid journal, as where one lane works alone.
pub record HasFedPartBeside (workers : ℕ) (rules : Rules) (items : List Item) (past : List Entry) (ended : FeedStop)
    (before after : Option (List ℕ)) : Type 0 where
  pub account : IsValidJournal rules past
  pub answered : IsAnswered rules past
  pub fed : IsFedPart items past
  pub passed : IsPassed rules past ended
  pub cause : HasCauseBeside workers rules items past ended
  pub written : ArePartWritten rules past before after
  pub wound_up : IsWoundUp past ended

-- ---- the lanes beside lane 0

-- at some point of what the lane has seen a Begin of it, or the call of a run of it, was too much
abbrev pub MetFull : {F : Type 0} → Rules → LaneView Entry F → Full → Type 0
MetFull rules lane full = (earlier later : List Entry) × (reverse lane.seen ≡ later ++ earlier)
    × IsTooMuchHere rules earlier lane.number full

-- why the loop of a lane ended early
abbrev pub MeetsEnd : {F : Type 0} → Rules → LaneView Entry F → Slice → Type 0
MeetsEnd rules lane (slice.JournalFull full) = MetFull rules lane full
MeetsEnd rules lane _ = Unit {0}

-- the stop of a loop that ended early
abbrev pub stop_of : Slice → Option FeedStop
stop_of (slice.JournalFull full) = Some (stop.JournalFull full)
stop_of slice.Memory = Some stop.Memory
stop_of _ = None

-- that of the first of these that did
abbrev pub first_stop : List Slice → Option FeedStop
first_stop [] = None
first_stop (one ∷ made) = option_or (stop_of one) (first_stop made)

-- it is one of these, met by another of so many lanes than lane 0
abbrev pub IsEarly : ℕ → Rules → List Entry → FeedStop → Type 0
IsEarly workers rules past (stop.JournalFull full) = (lane : ℕ) × (0 < lane) × (lane < workers)
    × (earlier later : List Entry) × (past ≡ later ++ earlier) × IsTooMuchHere rules earlier lane full
IsEarly workers rules past stop.Memory = Unit {0}
IsEarly workers rules past _ = ⊥

-- why a feed stops that was left so, with what another lane ended early for
abbrev pub StopsWith : Rules → List Entry → FeedStop → Option FeedStop → FeedStop → Type 0
StopsWith rules past (stop.StartFailed fail) early told =
    ((then_fail : Fail) × (told ≡ stop.StartFailed then_fail) × (start_fail rules past ≡ Some then_fail))
    ⊎ ((told ≡ stop.Memory) × (start_fail rules past ≡ None))
StopsWith rules past stop.Memory None told = told ≡ stop.Memory
StopsWith rules past stop.Memory (Some early) told = told ≡ early
StopsWith rules past ended early told = told ≡ ended

module _ {R Site State : Type 0} (meaning : R → Site → Meaning) (stands : R → Site → State → Told → ℕ → Type 0)
    (host : HostView R Site) where
  abbrev Hand : Type 0
  Hand = HandView Entry (Fixed R Site) (RunView State)

  -- a worker that waits for its task
  abbrev pub IsIdle : WorkerOf Hand Slice → Type 0
  IsIdle worker = IsHandOf meaning stands host worker.hand × (worker.hand.run ≡ None) × (worker.made ≡ slice.Idle)

  -- a hand has worked, is free again, and what it came to is in its place
  pub record HasHelped (old new : WorkerOf Hand Slice) : Type 0 where
    pub hand : IsHandOf meaning stands host new.hand
    pub free : new.hand.run ≡ None
    pub work : AddsWork old.hand.lane new.hand.lane
    pub ends : MeetsEnd (rules_at meaning host) new.hand.lane new.made

  -- the first run has ended well, and nothing came yet, if what the others do is borne out
  abbrev pub HasBegun : List Item → Hand → Type 0
  HasBegun items hand = (before : Option (List ℕ)) → IsBorneOut (rules_at meaning host) (past_in hand)
      → IsNear (rules_at meaning host) items (past_in hand) [] items before before

  -- lane 0 has left: its hand is free, and it left the feed so, if what the others do is borne out
  pub record HasLed (items : List Item) (new : Hand) (told : Result (Unit {0}) FeedStop) (held after : Option (List ℕ)) :
      Type 0 where
    pub lead : IsLead meaning stands host new
    pub free : new.run ≡ None
    pub leaves : IsBorneOut (rules_at meaning host) (past_in new)
        → LeavesBy told (rules_at meaning host) items (past_in new) held after

-- the first of hands, a crew of the others, and room for all
pub record IsDealt {H : Type 0} (hands : List H) (hand : H) (crew : List (WorkerOf H Slice)) (items : List H)
    (room : ℕ) : Type 0 where
  pub rest : List H
  pub hands_are : hands ≡ hand ∷ rest
  pub crew_is : crew ≡ map (with_place slice.Idle) rest
  pub none : items ≡ []
  pub enough : length hands ≤ room
