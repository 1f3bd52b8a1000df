-- A slice only works; and what did not fit in it.
use Rattle.std.proofs.Common.{◌≡◌, ℕ, ◌++◌, List, [], ◌∷◌, ap, sym, ◌∙◌, subst, append-nil, inl, inr, reverse}
use Rattle.std.proofs.Common.{Ok, Err, false}
use Rattle.asp_job.specs.declared.entry.Entry.{Entry}
use Rattle.asp_job.specs.declared.request.Request.{Request}
use Rattle.asp_job.specs.Journal.{begin_entry}
use Rattle.asp_job.specs.Rules.{Rules}
use Rattle.asp_job.specs.Running.{Pace}
use Rattle.asp_job.specs.Told.{Meaning, Told}
use Rattle.asp_journal.specs.declared.full.Full.{Full}
use Rattle.asp_core.specs.declared.stop.BeginStop.{BeginStop}
use Rattle.asp_core.specs.declared.stop.BeginStop.TheVariants as stop
use Rattle.asp_core.specs.Kernel.{IsBeginTooMuch, RunView}
use Rattle.asp_desk.specs.declared.slices.Slice.{Slice}
use Rattle.asp_desk.specs.declared.slices.Slice.TheVariants as slice
use Rattle.asp_desk.specs.declared.steps.Stepped.{Stepped}
use Rattle.asp_desk.specs.declared.steps.Stepped.TheVariants as step
use Rattle.asp_desk.specs.Hands.{Fixed, HandView, HostView, rules_at}
use Rattle.asp_desk.specs.Slices.{HasGoneOn, HasStepped, IsBegun, IsReady, IsRefused, IsSlice, StepsHere, Works, slice_of}
use Rattle.asp_desk.specs.Slices.{stopped}
use Rattle.asp_desk.specs.Steps.{Begins, Steps}
use Rattle.asp_serve.specs.Served.{CallIsTooMuch, IsFull}
use Rattle.asp_serve.specs.Steps as serve
use Rattle.asp_serve.specs.Steps.{AreOfWork}
use Rattle.asp_serve.proofs.Lanes.{begins_then, turn_rests, turn_works, works_none, works_then}

begins_none : (rules : Rules) (lane : ℕ) (before after : List Entry) (why : BeginStop)
    → Begins rules lane before (Err why) after → after ≡ before
begins_none rules lane before after stop.Idle does = does.0
begins_none rules lane before after (stop.JournalFull full) does = does.0
begins_none rules lane before after stop.Memory does = does.0

begins_full : (rules : Rules) (lane : ℕ) (before after : List Entry) (why : BeginStop) (full : Full)
    → slice.JournalFull full ≡ stopped why → Begins rules lane before (Err why) after
    → IsBeginTooMuch rules (reverse before) lane full
begins_full rules lane before after stop.Idle full is does = absurd cc
begins_full rules lane before after (stop.JournalFull most) full is does =
    let same : most ≡ full = cc in subst (IsBeginTooMuch rules (reverse before) lane) same does.1
begins_full rules lane before after stop.Memory full is does = absurd cc

step_adds : {State : Type 0} (rules : Rules) (lane : ℕ) (run : RunView State) (before after : List Entry)
    (stepped : Stepped) → Steps rules lane run before stepped after
    → (entries : List Entry) × (after ≡ before ++ entries) × AreOfWork entries
step_adds rules lane run before after step.Called does = (_, does.2, (tt, tt))
step_adds rules lane run before after step.Ended does = (_, does, (tt, tt))
step_adds rules lane run before after (step.Blocked holder) does = ([], does.2 ∙ sym (append-nil before), tt)
step_adds rules lane run before after (step.JournalFull full) does = (_, does.3, (tt, tt))

step_full : {State : Type 0} (rules : Rules) (lane : ℕ) (run : RunView State) (before after : List Entry)
    (stepped : Stepped) (full : Full) → slice.JournalFull full ≡ slice_of stepped
    → Steps rules lane run before stepped after → CallIsTooMuch lane (reverse before) full
step_full rules lane run before after step.Called full is does = absurd cc
step_full rules lane run before after step.Ended full is does = absurd cc
step_full rules lane run before after (step.Blocked holder) full is does = absurd cc
step_full rules lane run before after (step.JournalFull most) full is does =
    let same : most ≡ full = cc in
    subst (CallIsTooMuch lane (reverse before)) same (run.number, does.0, does.2)

module _ {R Site State : Type 0} (pace : R → Pace) (meaning : R → Site → Meaning)
    (stands : R → Site → State → Told → ℕ → Type 0) (host : HostView R Site) (may_hold : ℕ → Type 0) where
  abbrev Hand : Type 0
  Hand = HandView Entry (Fixed R Site) (RunView State)

  refused_works : (a b : Hand) (why : BeginStop) → IsRefused pace meaning stands host a why b
      → serve.Works a.lane b.lane
  refused_works a b why refused = turn_rests (Begins (rules_at meaning host) a.lane.number) a.lane b.lane (Err why)
      refused.turn (begins_none (rules_at meaning host) a.lane.number refused.turn.before b.lane.seen why
      refused.turn.done)

  begun_works : (a b : Hand) (number : ℕ) → IsBegun pace meaning stands host a number b → serve.Works a.lane b.lane
  begun_works a b number begun = turn_works (Begins (rules_at meaning host) a.lane.number) a.lane b.lane (Ok number)
      begun.turn (begin_entry (rules_at meaning host) (reverse begun.turn.before) a.lane.number number ∷ [])
      begun.turn.done.2 (tt, tt)

  ready_works : (a b : Hand) → IsReady pace meaning stands host a b → serve.Works a.lane b.lane
  ready_works a b (inl same) = works_none a.lane b.lane (ap (λ (h : Hand). h.lane) same.1)
  ready_works a b (inr begun) = begun_works a b begun.0 begun.1

  stepped_works : (a b : Hand) (stepped : Stepped) → HasStepped pace meaning stands host a stepped b
      → serve.Works a.lane b.lane
  stepped_works a b stepped has =
      let adds = step_adds (rules_at meaning host) a.lane.number has.run has.turn.before b.lane.seen stepped
      has.turn.done.0 in
      turn_works (StepsHere pace meaning stands host has.run a.lane.number) a.lane b.lane stepped has.turn adds.0 adds.1
      adds.2

  rest_works : (a b : Hand) (came_to : Slice) → Works pace meaning stands host may_hold a came_to b
      → serve.Works a.lane b.lane
  rest_works a b came_to (inl held) = works_none a.lane b.lane (ap (λ (h : Hand). h.lane) held.0.same)
  rest_works a b came_to (inr (inl more)) = works_none a.lane b.lane more.0.lane
  rest_works a b came_to (inr (inr (paused, stepped, gone, has, is))) = works_then a.lane paused.lane b.lane
      (works_none a.lane paused.lane gone.lane) (stepped_works paused b stepped has)

  -- a slice only works
  pub slice_works : (a b : Hand) (came_to : Slice) → IsSlice pace meaning stands host may_hold a came_to b
      → serve.Works a.lane b.lane
  slice_works a b came_to (inl (why, refused, is)) = refused_works a b why refused
  slice_works a b came_to (inr (ready, is, works)) =
      works_then a.lane ready.lane b.lane (ready_works a ready is) (rest_works ready b came_to works)

  stepped_full : (asked : Request → Type 0) (a ready paused b : Hand) (stepped : Stepped) (full : Full)
      → serve.Works a.lane ready.lane → HasGoneOn pace meaning stands host ready false paused
      → HasStepped pace meaning stands host paused stepped b → slice.JournalFull full ≡ slice_of stepped
      → IsFull (rules_at meaning host) asked a.lane b.lane full
  stepped_full asked a ready paused b stepped full before gone has is =
      let way = works_then a.lane ready.lane paused.lane before (works_none ready.lane paused.lane gone.lane) in
      record {
        before = has.turn.before;
        later = begins_then a.lane.seen paused.lane.seen has.turn.before way.seen has.turn.fits.0;
        earlier = (has.turn.grows.0, has.turn.grows.1);
        much = inr (inr (subst (λ n. CallIsTooMuch n (reverse has.turn.before) full) way.number
            (step_full (rules_at meaning host) paused.lane.number has.run has.turn.before b.lane.seen stepped full is
            has.turn.done.0)));
      }

  rest_full : (asked : Request → Type 0) (a ready b : Hand) (full : Full) → serve.Works a.lane ready.lane
      → Works pace meaning stands host may_hold ready (slice.JournalFull full) b
      → IsFull (rules_at meaning host) asked a.lane b.lane full
  rest_full asked a ready b full before (inl held) = absurd (let is = held.1 in cc)
  rest_full asked a ready b full before (inr (inl more)) = absurd (let is = more.1 in cc)
  rest_full asked a ready b full before (inr (inr (paused, stepped, gone, has, is))) =
      stepped_full asked a ready paused b stepped full before gone has is

  -- what did not fit in a slice
  pub slice_full : (asked : Request → Type 0) (a b : Hand) (full : Full)
      → IsSlice pace meaning stands host may_hold a (slice.JournalFull full) b
      → IsFull (rules_at meaning host) asked a.lane b.lane full
  slice_full asked a b full (inl (why, refused, is)) = record {
    before = refused.turn.before;
    later = refused.turn.fits.0;
    earlier = (refused.turn.grows.0, refused.turn.grows.1);
    much = inr (inl (begins_full (rules_at meaning host) a.lane.number refused.turn.before b.lane.seen why full is
        refused.turn.done));
  }
  slice_full asked a b full (inr (ready, is, works)) =
      rest_full asked a ready b full (ready_works a ready is) works
