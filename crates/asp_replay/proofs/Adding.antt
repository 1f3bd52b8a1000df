-- Slices add a run's Begin, its calls and its End to the lane's own entries, and nothing else.
use Rattle.std.proofs.Common.{◌≡◌, ℕ, zero, suc, ◌++◌, All, List, [], ◌∷◌, ap, sym, ◌∙◌, subst, append-nil}
use Rattle.std.proofs.Common.{append_assoc, inl, inr, reverse, Ok, Err}
use Rattle.std.proofs.lemmas.List.{append_cancel_left}
use Rattle.turn_desk.specs.Histories.{BeginsWith, own_part}
use Rattle.turn_desk.specs.Shown.{HasOwn, LaneView}
use Rattle.turn_desk.proofs.Parts.{own_part-grows}
use Rattle.asp_job.specs.declared.entry.Entry.{Entry}
use Rattle.asp_job.specs.Journal.{begin_entry}
use Rattle.asp_job.specs.Rules.{Rules}
use Rattle.asp_job.specs.Running.{Pace}
use Rattle.asp_job.specs.Told.{Meaning, Told}
use Rattle.asp_core.specs.declared.stop.BeginStop.{BeginStop}
use Rattle.asp_core.specs.declared.stop.BeginStop.TheVariants as stop
use Rattle.asp_core.specs.Kernel.{RunView}
use Rattle.asp_desk.specs.declared.looking.Looked.{Looked}
use Rattle.asp_desk.specs.declared.slices.Slice.{Slice}
use Rattle.asp_desk.specs.declared.steps.Stepped.{Stepped}
use Rattle.asp_desk.specs.declared.steps.Stepped.TheVariants as step
use Rattle.asp_desk.specs.Calls.{AreWork, IsTurn, Looks}
use Rattle.asp_desk.specs.Hands.{Fixed, HandView, HostView, rules_at}
use Rattle.asp_desk.specs.Loops.{AreRounds, HasLooped, IsLast, IsLook, IsRound}
use Rattle.asp_desk.specs.Slices.{HasStepped, IsBegun, IsReady, IsRefused, IsSlice, StepsHere, Works}
use Rattle.asp_desk.specs.Steps.{Begins, Steps}
use Rattle.asp_replay.specs.Adds.{AddsWork}

both_work : (xs ys : List Entry) → AreWork xs → AreWork ys → AreWork (xs ++ ys)
both_work [] ys p q = q
both_work (x ∷ xs) ys p q = (p.0, both_work xs ys p.1 q)

pub begins_then : (a b c : List Entry) → BeginsWith b a → BeginsWith c b → BeginsWith c a
begins_then a b c x y = (x.0 ++ y.0, y.1 ∙ ap (λ l. l ++ y.0) x.1 ∙ append_assoc a x.0 y.0)

module _ {F : Type 0} where
  pub adds_none : (a b : LaneView Entry F) → b ≡ a → AddsWork a b
  adds_none a b same = record {
    number = ap (λ (l : LaneView Entry F). l.number) same;
    later = ([], ap (λ (l : LaneView Entry F). l.seen) same ∙ sym (append-nil a.seen));
    entries = [];
    own_is = ap (λ (l : LaneView Entry F). l.own) same ∙ sym (append-nil a.own);
    work = tt;
    keeps = λ own. subst (HasOwn (λ (entry : Entry). entry.lane)) (sym same) own;
  }

  pub adds_then : (a b c : LaneView Entry F) → AddsWork a b → AddsWork b c → AddsWork a c
  adds_then a b c x y = record {
    number = y.number ∙ x.number;
    later = begins_then a.seen b.seen c.seen x.later y.later;
    entries = x.entries ++ y.entries;
    own_is = y.own_is ∙ ap (λ l. l ++ y.entries) x.own_is ∙ append_assoc a.own x.entries y.entries;
    work = both_work x.entries y.entries x.work y.work;
    keeps = λ own. y.keeps (x.keeps own);
  }

  -- a turn adds to the lane's own entries what it adds to the journal
  turn_adds : {A : Type 0} (does : List Entry → A → List Entry → Type 0) (a b : LaneView Entry F) (answer : A)
      (turn : IsTurn does a answer b) (entries : List Entry) → b.seen ≡ turn.before ++ entries → AreWork entries
      → AddsWork a b
  turn_adds does a b answer turn entries is work =
      let lane = λ (entry : Entry). entry.lane in
      let same = append_cancel_left turn.before turn.grows.0 entries (sym turn.grows.1 ∙ is) in
      let bear = subst (All (λ (entry : Entry). entry.lane ≡ a.number)) same turn.grows.2 in
      record {
        number = turn.lane.1;
        later = begins_then a.seen turn.before b.seen turn.fits.0 (turn.grows.0, turn.grows.1);
        entries = entries;
        own_is = turn.own ∙ ap (own_part lane a.number) is
            ∙ own_part-grows lane a.number turn.before entries bear ∙ ap (λ own. own ++ entries) turn.fits.1;
        work = work;
        keeps = λ own. turn.own ∙ ap (λ number. own_part lane number b.seen) (sym turn.lane.1);
      }

  turn_rests : {A : Type 0} (does : List Entry → A → List Entry → Type 0) (a b : LaneView Entry F) (answer : A)
      (turn : IsTurn does a answer b) → b.seen ≡ turn.before → AddsWork a b
  turn_rests does a b answer turn same =
      turn_adds does a b answer turn [] (same ∙ sym (append-nil turn.before)) tt

begins_none : (rules : Rules) (lane : ℕ) (before after : List Entry) (why : BeginStop)
    → Begins rules lane before (Err why) after → after ≡ before
begins_none rules lane before after stop.Idle does = does.0
begins_none rules lane before after (stop.JournalFull full) does = does.0
begins_none rules lane before after stop.Memory does = does.0

step_adds : {State : Type 0} (rules : Rules) (lane : ℕ) (run : RunView State) (before after : List Entry)
    (stepped : Stepped) → Steps rules lane run before stepped after
    → (entries : List Entry) × (after ≡ before ++ entries) × AreWork entries
step_adds rules lane run before after step.Called does = (_, does.2, (tt, tt))
step_adds rules lane run before after step.Ended does = (_, does, (tt, tt))
step_adds rules lane run before after (step.Blocked holder) does = ([], does.2 ∙ sym (append-nil before), tt)
step_adds rules lane run before after (step.JournalFull full) does = (_, does.3, (tt, tt))

module _ {R Site State : Type 0} (pace : R → Pace) (meaning : R → Site → Meaning)
    (stands : R → Site → State → Told → ℕ → Type 0) (host : HostView R Site) (may_hold : ℕ → Type 0) where
  abbrev Hand : Type 0
  Hand = HandView Entry (Fixed R Site) (RunView State)

  refused_adds : (a b : Hand) (why : BeginStop) → IsRefused pace meaning stands host a why b → AddsWork a.lane b.lane
  refused_adds a b why refused = turn_rests (Begins (rules_at meaning host) a.lane.number) a.lane b.lane (Err why)
      refused.turn (begins_none (rules_at meaning host) a.lane.number refused.turn.before b.lane.seen why
      refused.turn.done)

  begun_adds : (a b : Hand) (number : ℕ) → IsBegun pace meaning stands host a number b → AddsWork a.lane b.lane
  begun_adds a b number begun = turn_adds (Begins (rules_at meaning host) a.lane.number) a.lane b.lane (Ok number)
      begun.turn (begin_entry (rules_at meaning host) (reverse begun.turn.before) a.lane.number number ∷ [])
      begun.turn.done.2 (tt, tt)

  pub ready_adds : (a b : Hand) → IsReady pace meaning stands host a b → AddsWork a.lane b.lane
  ready_adds a b (inl same) = adds_none a.lane b.lane (ap (λ (h : Hand). h.lane) same.1)
  ready_adds a b (inr begun) = begun_adds a b begun.0 begun.1

  stepped_adds : (a b : Hand) (stepped : Stepped) → HasStepped pace meaning stands host a stepped b
      → AddsWork a.lane b.lane
  stepped_adds a b stepped has =
      let adds = step_adds (rules_at meaning host) a.lane.number has.run has.turn.before b.lane.seen stepped
      has.turn.done.0 in
      turn_adds (StepsHere pace meaning stands host has.run a.lane.number) a.lane b.lane stepped has.turn adds.0 adds.1
      adds.2

  works_adds : (a b : Hand) (came_to : Slice) → Works pace meaning stands host may_hold a came_to b
      → AddsWork a.lane b.lane
  works_adds a b came_to (inl held) = adds_none a.lane b.lane (ap (λ (h : Hand). h.lane) held.0.same)
  works_adds a b came_to (inr (inl more)) = adds_none a.lane b.lane more.0.lane
  works_adds a b came_to (inr (inr (paused, stepped, gone, has, is))) = adds_then a.lane paused.lane b.lane
      (adds_none a.lane paused.lane gone.lane) (stepped_adds paused b stepped has)

  -- a slice
  pub slice_adds : (a b : Hand) (came_to : Slice) → IsSlice pace meaning stands host may_hold a came_to b
      → AddsWork a.lane b.lane
  slice_adds a b came_to (inl (why, refused, is)) = refused_adds a b why refused
  slice_adds a b came_to (inr (ready, is, works)) =
      adds_then a.lane ready.lane b.lane (ready_adds a ready is) (works_adds ready b came_to works)

  look_adds : (a b : Hand) (looked : Looked) → IsLook pace meaning stands host a looked b → AddsWork a.lane b.lane
  look_adds a b looked look =
      turn_rests (Looks (rules_at meaning host)) a.lane b.lane looked look.turn look.turn.done.0

  round_adds : (a b : Hand) → IsRound pace meaning stands host may_hold a b → AddsWork a.lane b.lane
  round_adds a b (inl (came_to, more, is)) = slice_adds a b came_to is
  round_adds a b (inr (looked, look)) = look_adds a b looked look

  rounds_add : (a b : Hand) (count : ℕ) → AreRounds pace meaning stands host may_hold count a b
      → AddsWork a.lane b.lane
  rounds_add a b zero same = adds_none a.lane b.lane (ap (λ (h : Hand). h.lane) same)
  rounds_add a b (suc count) (mid, rounds, last) =
      adds_then a.lane mid.lane b.lane (rounds_add a mid count rounds) (round_adds mid b last)

  last_adds : (a b : Hand) (came_to : Slice) → IsLast pace meaning stands host may_hold a came_to b
      → AddsWork a.lane b.lane
  last_adds a b came_to (inl idle) = look_adds a b idle.1.0 idle.1.1
  last_adds a b came_to (inr (last, is)) = slice_adds a b came_to is

  -- slices until nothing is left to do
  pub loop_adds : (a b : Hand) (came_to : Slice) → HasLooped pace meaning stands host may_hold a came_to b
      → AddsWork a.lane b.lane
  loop_adds a b came_to looped = adds_then a.lane looped.mid.lane b.lane
      (rounds_add a looped.mid looped.count looped.rounds) (last_adds looped.mid b came_to looped.last)
