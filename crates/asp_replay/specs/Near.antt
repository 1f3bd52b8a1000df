-- What lane 0 knows of a host that it feeds while other lanes work there. All of it is the product's own.
use Rattle.std.specs.Prelude.{◌≡◌, ◌⊎◌, ℕ, ◌==◌, ◌&&◌, ◌||◌, Bool, true, nat_le, nat_lt, List, [], ◌∷◌, ◌++◌, reverse}
use Rattle.std.specs.Prelude.{is_some}
use Rattle.asp_job.specs.declared.entry.TheConstants.{MOST_WAITING}
use Rattle.std.specs.Prelude.{Option, Some, None, Result, Ok, Err}
use Rattle.std.specs.Borrow.{Bor}
use Rattle.turn_desk.specs.Shown.{HasOwn}
use Rattle.asp_job.specs.declared.entry.Entry.{Entry}
use Rattle.asp_job.specs.declared.entry.What.{What}
use Rattle.asp_job.specs.declared.entry.What.TheVariants.{App, Begin, End, Take}
use Rattle.asp_job.specs.declared.answer.Answer.{Answer}
use Rattle.asp_job.specs.History.{with_lane}
use Rattle.asp_job.specs.Journal.{past_after}
use Rattle.asp_job.specs.Rules.{Rules}
use Rattle.asp_job.specs.Runs.{is_halted, is_stopping}
use Rattle.asp_job.specs.Told.{Meaning, Told}
use Rattle.asp_core.specs.Kernel.{IsBeginTooMuch, RunView}
use Rattle.asp_core.specs.Laws.{NoneIs}
use Rattle.asp_core.specs.Ready.{IsAnswered, ready}
use Rattle.asp_desk.specs.Calls.{AreWork, IsWork, looked_of}
use Rattle.asp_desk.specs.declared.looking.Looked.{Looked}
use Rattle.asp_desk.specs.Hands.{Fixed, HandView, HostView, IsHandOf}
use Rattle.asp_io.specs.Sink.{with_bytes}
use Rattle.asp_job.specs.declared.entry.EndKind.TheVariants as kind
use Rattle.asp_journal.specs.declared.full.Full.{Full}
use Rattle.asp_lane.specs.Started.{HasStarted}
use Rattle.asp_lane.specs.Turns.{IsCallTooMuch}
use Rattle.asp_record.specs.declared.recording.Item.{Item}
use Rattle.asp_replay.specs.declared.stop.FeedStop.{FeedStop}
use Rattle.asp_replay.specs.declared.stop.FeedStop.TheVariants as stop
use Rattle.asp_feed.specs.Feeding.{Clients, IsFed, IsFedPart, comes, is_calm}
use Rattle.asp_feed.specs.Shown.{AreRecords, Shown, shown_of}
use Rattle.asp_replay.specs.Feed.{ArePartWritten, AreWritten, IsPassed, WasTooMuch}
use Rattle.asp_replay.specs.Sequential.{may_come}
use Rattle.asp_replay.specs.Underway.{AreCurrent, EndsSo, StandsAt, stamped}

-- ---- what the other lanes do

-- what another lane than 0 adds begins runs, is their calls or ends them
abbrev pub OthersWork : List Entry → Type 0
OthersWork [] = Unit {0}
OthersWork (entry ∷ entries) = ((entry.lane ≡ 0) ⊎ IsWork entry.what) × OthersWork entries

-- That is so of the journal, and each page that ended has an answer. Lane 0 takes it for granted until all hands are
-- back.
pub record IsBorneOut (rules : Rules) (past : List Entry) : Type 0 where
  pub others : OthersWork past
  pub answered : IsAnswered rules past

-- ---- what runs add

-- the entry is one of a run's, or hands an answer out
abbrev pub IsQuiet : What → Type 0
IsQuiet (Begin run serial) = Unit {0}
IsQuiet (App run call reply) = Unit {0}
IsQuiet (End run kind status size made finished) = Unit {0}
IsQuiet (Take run) = Unit {0}
IsQuiet _ = ⊥

abbrev pub AreQuiet : List Entry → Type 0
AreQuiet [] = Unit {0}
AreQuiet (entry ∷ entries) = IsQuiet entry.what × AreQuiet entries

-- the journal has grown by such entries
pub record GrowsQuietly (old new : List Entry) : Type 0 where
  pub entries : List Entry
  pub new_is : new ≡ past_after old entries
  pub quiet : AreQuiet entries

-- it has grown by work alone
pub record HasWorked (old new : List Entry) : Type 0 where
  pub entries : List Entry
  pub new_is : new ≡ past_after old entries
  pub work : AreWork entries

-- behind work, the answer that waits first was handed out
pub record HasTaken (rules : Rules) (old new : List Entry) (first : ℕ × Answer) : Type 0 where
  pub mid : List Entry
  pub worked : HasWorked old mid
  pub rest : List (ℕ × Answer)
  pub waits : ready rules mid ≡ first ∷ rest
  pub new_is : new ≡ with_lane 0 (Take first.0) ∷ mid

-- ---- where a feed stands

-- The first run has ended well, and the items that came and those that are left are these. Of the answers that the
-- journal shows all were written but for those that wait, whose jobs came at its moment.
pub record IsNear (rules : Rules) (items : List Item) (past : List Entry) (clients : Clients) (left : List Item)
    (before after : Option (List ℕ)) : Type 0 where
  pub started : HasStarted rules past
  pub stands : StandsAt items past clients left
  pub current : AreCurrent past
  pub done : List Shown
  pub shown : shown_of rules past ≡ done ++ stamped rules past
  pub records : List ℕ
  pub are_records : AreRecords done records
  pub wrote : after ≡ with_bytes before records

-- how a feed ends whose first run has ended well
pub record EndsNear (rules : Rules) (items : List Item) (past : List Entry) (ended : FeedStop)
    (before after : Option (List ℕ)) : Type 0 where
  pub ends : EndsSo rules items past ended before after
  pub started : HasStarted rules past

-- where a feed stands, or how it ends
abbrev pub NearAfter : {T : Type 0} → Result T FeedStop → Rules → List Item → List Entry → Clients → List Item →
    Option (List ℕ) → Option (List ℕ) → Type 0
NearAfter (Ok given) rules items past clients left before after = IsNear rules items past clients left before after
NearAfter (Err ended) rules items past clients left before after = EndsNear rules items past ended before after

-- what a round of hand-outs comes to, where more of them may follow
abbrev pub so_far : Option (Result (Unit {0}) FeedStop) → Result (Unit {0}) FeedStop
so_far None = Ok tt
so_far (Some ended) = ended

-- no item came: runs and hand-outs have added to the journal, and a feed stands with the same items, or ends
pub record StaysNear {T : Type 0} (rules : Rules) (result : Result T FeedStop) (old new : List Entry)
    (held after : Option (List ℕ)) : Type 0 where
  pub grows : GrowsQuietly old new
  pub near : (items left : List Item) (clients : Clients) (before : Option (List ℕ))
      → IsNear rules items old clients left before held → NearAfter result rules items new clients left before after

-- an item of this moment may come, and no answer waits
pub record IsDue (rules : Rules) (past : List Entry) (moment : ℕ) : Type 0 where
  pub may : may_come past moment ≡ true
  pub none_ready : ready rules past ≡ []

-- the item came, and is left no more, or the feed ends
abbrev pub BringsNear : Result (Unit {0}) FeedStop → Rules → List Entry → List Entry → Clients → Clients → Item →
    Type 0
BringsNear result rules old new clients then_clients item = (items left : List Item) (before held : Option (List ℕ))
    → IsBorneOut rules new → IsNear rules items old clients (item ∷ left) before held
    → NearAfter result rules items new then_clients left before held

-- ---- what did not fit

-- so many entries of that weight are too much here, with a Begin of this lane or with the call that its run wants
abbrev pub IsTooMuchHere : Rules → List Entry → ℕ → Full → Type 0
IsTooMuchHere rules past lane full =
    IsBeginTooMuch rules past lane full ⊎ ((run : ℕ) × IsCallTooMuch rules past lane run full)

-- it was so for lane 0, at a point of the journal up to which it had grown by work
pub record WasMuchNear (rules : Rules) (old new : List Entry) (full : Full) : Type 0 where
  pub before : List Entry
  pub worked : HasWorked old before
  pub later : List Entry
  pub new_is : new ≡ later ++ before
  pub much : IsTooMuchHere rules before 0 full

-- a slice of lane 0's work, with what did not fit in it
abbrev pub SlicesNear : {T : Type 0} → Result T FeedStop → Rules → List Entry → List Entry → Type 0
SlicesNear (Ok given) rules old new = HasWorked old new
SlicesNear (Err (stop.JournalFull full)) rules old new = HasWorked old new × WasMuchNear rules old new full
SlicesNear (Err stop.Memory) rules old new = HasWorked old new
SlicesNear (Err _) rules old new = ⊥

-- ---- the first run

-- it ended well; or it failed so, something did not fit, or memory ran out. Nothing came but work.
abbrev pub Starts : Result (Unit {0}) FeedStop → Rules → List Entry → List Entry → Type 0
Starts (Ok given) rules old new = HasWorked old new × HasStarted rules new
Starts (Err (stop.JournalFull full)) rules old new = HasWorked old new × WasMuchNear rules old new full
Starts (Err stop.WriteFault) rules old new = ⊥
Starts (Err _) rules old new = HasWorked old new

-- a part of that: it goes on, or this was its end
abbrev pub GoesOn : Option (Result (Unit {0}) FeedStop) → Rules → List Entry → List Entry → Type 0
GoesOn None rules old new = HasWorked old new
GoesOn (Some done) rules old new = Starts done rules old new

-- the hand is free where the first run has ended
abbrev pub IsFreeThen : {Run : Type 0} → Result (Unit {0}) FeedStop → Option Run → Type 0
IsFreeThen (Ok given) run = run ≡ None
IsFreeThen (Err (stop.StartFailed fail)) run = run ≡ None
IsFreeThen (Err _) run = Unit {0}

-- how the first run has ended, by a look: it did well, or not
abbrev pub StartedBy : Result (Unit {0}) FeedStop → Looked → Type 0
StartedBy (Ok given) looked = (looked.start_kind ≡ Some kind.Done) × (looked.start_fail ≡ None)
StartedBy (Err (stop.JournalFull full)) looked = ⊥
StartedBy (Err stop.WriteFault) looked = ⊥
StartedBy (Err _) looked = Unit {0}

-- ---- rounds

-- by a look: no run waits and none is unfinished; and an item of this moment may come
abbrev pub calm_by : Looked → Bool
calm_by looked = looked.waiting == 0 && looked.unfinished == 0

abbrev pub may_by : Looked → ℕ → Bool
may_by looked moment = is_some looked.start_kind && (nat_le moment looked.moment || calm_by looked)
    && nat_lt looked.waiting_pages MOST_WAITING

-- A look, and then runs and hand-outs until no answer waited: this is what it told.
pub record IsSeen (rules : Rules) (looked : Looked) (past : List Entry) : Type 0 where
  pub before : List Entry
  pub looked_is : looked ≡ looked_of rules before
  pub grows : GrowsQuietly before past
  pub none_ready : ready rules past ≡ []

-- The items were fed to their end, and the Stop came: nothing is under way, and all answers were written.
pub record IsFedNear (rules : Rules) (items : List Item) (past : List Entry) (before after : Option (List ℕ)) : Type 0
  where
    pub started : HasStarted rules past
    pub fed : IsFed items past
    pub stopped : is_stopping past ≡ true
    pub calm : is_calm past ≡ true
    pub none_ready : ready rules past ≡ []
    pub written : AreWritten rules past before after

-- what is left after a round, none where all were fed; or how the feed ends
abbrev pub RoundNear : Result (Option (Bor (List Item))) FeedStop → Rules → List Item → List Entry → Clients →
    Option (List ℕ) → Option (List ℕ) → Type 0
RoundNear (Ok (Some left)) rules items past clients before after =
    IsNear rules items past clients left.now before after
RoundNear (Ok None) rules items past clients before after = IsFedNear rules items past before after
RoundNear (Err ended) rules items past clients before after = EndsNear rules items past ended before after

-- all items were fed, or the feed ends
abbrev pub FedNear : {T : Type 0} → Result T FeedStop → Rules → List Item → List Entry → Option (List ℕ) →
    Option (List ℕ) → Type 0
FedNear (Ok given) rules items past before after = IsFedNear rules items past before after
FedNear (Err ended) rules items past before after = EndsNear rules items past ended before after

-- ---- how lane 0 leaves

-- the journal has grown, and nothing came from outside
pub record GrowsSilently (old new : List Entry) : Type 0 where
  pub entries : List Entry
  pub new_is : new ≡ past_after old entries
  pub silent : NoneIs comes entries

-- what did not fit, where that is why the feed ended
abbrev pub Overflows : Rules → List Item → List Entry → FeedStop → Type 0
Overflows rules items past (stop.JournalFull full) = WasTooMuch rules items past full
Overflows rules items past _ = Unit {0}

-- the host was halted, unless the first run has failed
abbrev pub IsHaltedFor : FeedStop → List Entry → Type 0
IsHaltedFor (stop.StartFailed fail) past = Unit {0}
IsHaltedFor _ past = is_halted past ≡ true

-- how lane 0 leaves a host that was not fed to its end
pub record Leaves (rules : Rules) (items : List Item) (past : List Entry) (ended : FeedStop)
    (before after : Option (List ℕ)) : Type 0 where
  pub fed : IsFedPart items past
  pub passed : IsPassed rules past ended
  pub much : Overflows rules items past ended
  pub written : ArePartWritten rules past before after
  pub halted : IsHaltedFor ended past

-- how it leaves one
abbrev pub LeavesBy : {T : Type 0} → Result T FeedStop → Rules → List Item → List Entry → Option (List ℕ) →
    Option (List ℕ) → Type 0
LeavesBy (Ok given) rules items past before after = IsFedNear rules items past before after
LeavesBy (Err ended) rules items past before after = Leaves rules items past ended before after

-- ---- the hand

-- the journal that a hand has seen, newest entry first
abbrev pub past_in : {F Run : Type 0} → HandView Entry F Run → List Entry
past_in hand = reverse hand.lane.seen

module _ {R Site State : Type 0} (meaning : R → Site → Meaning) (stands : R → Site → State → Told → ℕ → Type 0)
    (host : HostView R Site) where
  -- the hand is that of lane 0, and knows all of its entries
  pub record IsLead (hand : HandView Entry (Fixed R Site) (RunView State)) : Type 0 where
    pub hand_of : IsHandOf meaning stands host hand
    pub number : hand.lane.number ≡ 0
    pub own : HasOwn (λ entry. entry.lane) hand.lane
