-- What is known at the end of a worker's parts.
use Rattle.std.proofs.Common.{◌≡◌, ◌⊎◌, ℕ, ◌++◌, List, Option, None, Some, IfSome, ap, sym, ◌∙◌, subst}
use Rattle.std.proofs.Common.{append_assoc, inl, inr, reverse, zero, suc, Err}
use Rattle.std.proofs.Common.{unwrap_or}
use Rattle.std.proofs.lemmas.List.{reverse-append}
use Rattle.turn_desk.specs.Histories.{BeginsWith}
use Rattle.turn_desk.specs.Shown.{LaneView}
use Rattle.asp_journal.specs.declared.full.Full.{Full}
use Rattle.asp_core.specs.declared.stop.EventStop.{EventStop}
use Rattle.asp_core.specs.declared.stop.EventStop.TheVariants as event
use Rattle.asp_core.specs.Kernel.{IsBeginTooMuch, RunView}
use Rattle.asp_job.specs.declared.entry.Entry.{Entry}
use Rattle.asp_job.specs.declared.request.Request.{Request}
use Rattle.asp_job.specs.Rules.{Rules}
use Rattle.asp_job.specs.Running.{Pace}
use Rattle.asp_job.specs.Told.{Meaning, Told}
use Rattle.asp_desk.specs.declared.looking.Looked.{Looked}
use Rattle.asp_desk.specs.declared.slices.Slice.{Slice}
use Rattle.asp_desk.specs.declared.slices.Slice.TheVariants as slice
use Rattle.asp_desk.specs.Calls.{IsTurn, Looks, Stops}
use Rattle.asp_desk.specs.Hands.{Fixed, HandView, HostView, rules_at}
use Rattle.asp_desk.specs.Loops.{AreRounds, HasLooped, IsLast, IsLook, IsRound}
use Rattle.asp_desk.specs.Slices.{IsSlice}
use Rattle.asp_serve.specs.declared.ending.LinkEnd.{LinkEnd}
use Rattle.asp_serve.specs.declared.ending.LinkEnd.TheVariants as link
use Rattle.asp_serve.specs.declared.visits.Early.{Early}
use Rattle.asp_serve.specs.declared.visits.Early.TheVariants as early
use Rattle.asp_serve.specs.Jobs.{job_for}
use Rattle.asp_serve.specs.Served.{CallIsTooMuch, IsFull, IsServed, JobIsTooMuch, LinkView}
use Rattle.asp_serve.specs.Steps as steps
use Rattle.asp_serve.specs.Visits.{Comes, Ends, IsEarly, IsLater, IsTooMuchHere, WasTooMuch, early_slice, early_stop, link_end}
use Rattle.asp_serve.proofs.Lanes.{begins_itself, begins_then}
use Rattle.asp_serve.proofs.Slicing.{slice_full, slice_works}

-- what did not fit on a connection
full_here : (rules : Rules) (asked : Request → Type 0) (lane : ℕ) (past : List Entry) (full : Full)
    → JobIsTooMuch rules asked lane past full
    ⊎ (IsBeginTooMuch rules past lane full ⊎ CallIsTooMuch lane past full)
    → IsTooMuchHere rules past full
full_here rules asked lane past full (inl (request, second, is, much)) =
    IsTooMuchHere.OfJob lane (job_for request second) much
full_here rules asked lane past full (inr (inl much)) = IsTooMuchHere.OfBegin lane much
full_here rules asked lane past full (inr (inr (run, call, much))) = IsTooMuchHere.OfCall lane run call much

-- ---- what was too much stays so

past_later : (a b : List Entry) (begins : BeginsWith b a) → reverse b ≡ reverse begins.0 ++ reverse a
past_later a b begins = ap reverse begins.1 ∙ reverse-append a begins.0

pub here_was : (rules : Rules) (seen before : List Entry) (full : Full) → BeginsWith seen before
    → IsTooMuchHere rules (reverse before) full → WasTooMuch rules (reverse seen) full
here_was rules seen before full begins here =
    (reverse begins.0, reverse before, past_later before seen begins, here)

-- ---- later moments

module _ {F : Type 0} where
  pub later_same : (a b : LaneView Entry F) → b ≡ a → IsLater a b
  later_same a b same = record {
    seen = begins_itself a.seen b.seen (ap (λ (l : LaneView Entry F). l.seen) same);
    number = ap (λ (l : LaneView Entry F). l.number) same;
  }

  pub later_then : (a b c : LaneView Entry F) → IsLater a b → IsLater b c → IsLater a c
  later_then a b c x y = record {
    seen = begins_then a.seen b.seen c.seen x.seen y.seen;
    number = y.number ∙ x.number;
  }

  pub later_turn : {A : Type 0} (does : List Entry → A → List Entry → Type 0) (a b : LaneView Entry F) (answer : A)
      → IsTurn does a answer b → IsLater a b
  later_turn does a b answer turn = record {
    seen = begins_then a.seen turn.before b.seen turn.fits.0 (turn.grows.0, turn.grows.1);
    number = turn.lane.1;
  }

  pub later_works : (a b : LaneView Entry F) → steps.Works a b → IsLater a b
  later_works a b works = record { seen = works.seen; number = works.number }

  -- ---- what was too much stays so

  was_later : (rules : Rules) (a b : LaneView Entry F) (full : Full) → IsLater a b
      → WasTooMuch rules (reverse a.seen) full → WasTooMuch rules (reverse b.seen) full
  was_later rules a b full later was = (
    reverse later.seen.0 ++ was.0,
    was.1,
    past_later a.seen b.seen later.seen
        ∙ ap (λ (past : List Entry). reverse later.seen.0 ++ past) was.2
        ∙ sym (append_assoc (reverse later.seen.0) was.0 was.1),
    was.3,
  )

  pub early_later : (fails : Type 0) (rules : Rules) (a b : LaneView Entry F) (made : Option Early) → IsLater a b
      → IfSome made (IsEarly fails rules (reverse a.seen)) → IfSome made (IsEarly fails rules (reverse b.seen))
  early_later fails rules a b None later is = tt
  early_later fails rules a b (Some (early.JournalFull full)) later is =
      was_later rules a b full later is
  early_later fails rules a b (Some early.Memory) later is = tt
  early_later fails rules a b (Some early.AcceptFault) later is = is

  pub ends_later : (fails : Type 0) (rules : Rules) (a b c : LaneView Entry F) (made : Option Early) → IsLater a b
      → Ends fails rules b made c → Ends fails rules a made c
  ends_later fails rules a b c made later ends =
      record { later = later_then a b c later ends.later; cause = ends.cause }

  pub ends_then : (fails : Type 0) (rules : Rules) (a b c : LaneView Entry F) (made : Option Early) → Ends fails rules a made b
      → IsLater b c → Ends fails rules a made c
  ends_then fails rules a b c made ends later = record {
    later = later_then a b c ends.later later;
    cause = early_later fails rules b c made later ends.cause;
  }

  -- ---- parts

  pub full_was : (rules : Rules) (asked : Request → Type 0) (a b : LaneView Entry F) (full : Full)
      → IsFull rules asked a b full → WasTooMuch rules (reverse b.seen) full
  full_was rules asked a b full is =
      here_was rules b.seen is.before full is.earlier (full_here rules asked a.number (reverse is.before) full is.much)

  -- a connection
  link_later : (rules : Rules) (may_give : ℕ → Type 0) (a b : LaneView Entry F) (wire after : LinkView) (ended : LinkEnd)
      → IsServed rules may_give a b wire after ended → IsLater a b
  link_later rules may_give a b wire after ended served =
      record { seen = served.has.grows.seen; number = served.has.grows.number }

  pub link_comes : (fails : Type 0) (rules : Rules) (may_give : ℕ → Type 0) (a b : LaneView Entry F) (wire after : LinkView)
      (ended : LinkEnd) → IsServed rules may_give a b wire after ended → Comes fails rules a (link_end ended) b
  link_comes fails rules may_give a b wire after (link.JournalFull full) served = record {
    later = link_later rules may_give a b wire after (link.JournalFull full) served;
    cause = full_was rules _ a b full served.ends.1;
  }
  link_comes fails rules may_give a b wire after link.Memory served =
      record { later = link_later rules may_give a b wire after link.Memory served; cause = tt }
  link_comes fails rules may_give a b wire after link.Drained served =
      record { later = link_later rules may_give a b wire after link.Drained served; cause = tt }
  link_comes fails rules may_give a b wire after (link.Closed rest) served =
      link_later rules may_give a b wire after (link.Closed rest) served
  link_comes fails rules may_give a b wire after (link.Refused status) served =
      link_later rules may_give a b wire after (link.Refused status) served
  link_comes fails rules may_give a b wire after link.ReadFault served =
      link_later rules may_give a b wire after link.ReadFault served
  link_comes fails rules may_give a b wire after link.WriteFault served =
      link_later rules may_give a b wire after link.WriteFault served

-- a host that could not be stopped
pub stop_cause : (A : Type 0) (fails : Type 0) (rules : Rules) (lane : ℕ) (before seen : List Entry) (why : EventStop)
    → BeginsWith seen before → Stops rules lane {A = A} before (Err why) seen
    → IsEarly fails rules (reverse seen) (early_stop why)
stop_cause A fails rules lane before seen (event.JournalFull full) begins does =
    here_was rules seen before full begins (IsTooMuchHere.OfStop lane does.2)
stop_cause A fails rules lane before seen event.Memory begins does = tt

module _ {R Site State : Type 0} (pace : R → Pace) (meaning : R → Site → Meaning)
    (stands : R → Site → State → Told → ℕ → Type 0) (host : HostView R Site) (may_hold : ℕ → Type 0)
    (fails : Type 0) where
  abbrev Hand : Type 0
  Hand = HandView Entry (Fixed R Site) (RunView State)

  -- a slice
  slice_cause : (a b : Hand) (came_to : Slice) → IsSlice pace meaning stands host may_hold a came_to b
      → IfSome (early_slice came_to) (IsEarly fails (rules_at meaning host) (reverse b.lane.seen))
  slice_cause a b (slice.JournalFull full) is = full_was (rules_at meaning host) (λ _. ⊥) a.lane b.lane full
      (slice_full pace meaning stands host may_hold (λ _. ⊥) a b full is)
  slice_cause a b slice.Memory is = tt
  slice_cause a b slice.Worked is = tt
  slice_cause a b slice.Idle is = tt
  slice_cause a b (slice.Blocked holder) is = tt
  slice_cause a b slice.Held is = tt

  pub slice_ends : (a b : Hand) (came_to : Slice) → IsSlice pace meaning stands host may_hold a came_to b
      → Ends fails (rules_at meaning host) a.lane (early_slice came_to) b.lane
  slice_ends a b came_to is = record {
    later = later_works a.lane b.lane (slice_works pace meaning stands host may_hold a b came_to is);
    cause = slice_cause a b came_to is;
  }

  -- slices one after another
  look_later : (a b : Hand) (looked : Looked) → IsLook pace meaning stands host a looked b → IsLater a.lane b.lane
  look_later a b looked look =
      later_turn (Looks (rules_at meaning host)) a.lane b.lane looked look.turn

  round_later : (a b : Hand) → IsRound pace meaning stands host may_hold a b → IsLater a.lane b.lane
  round_later a b (inl (came_to, more, is)) = (slice_ends a b came_to is).later
  round_later a b (inr (looked, look)) = look_later a b looked look

  rounds_later : (count : ℕ) (a b : Hand) → AreRounds pace meaning stands host may_hold count a b
      → IsLater a.lane b.lane
  rounds_later zero a b same = later_same a.lane b.lane (ap (λ (h : Hand). h.lane) same)
  rounds_later (suc count) a b (mid, rounds, round) =
      later_then a.lane mid.lane b.lane (rounds_later count a mid rounds) (round_later mid b round)

  last_ends : (a b : Hand) (came_to : Slice) → IsLast pace meaning stands host may_hold a came_to b
      → Ends fails (rules_at meaning host) a.lane (early_slice came_to) b.lane
  last_ends a b came_to (inl (idle, (looked, look), over)) = record {
    later = look_later a b looked look;
    cause = subst (λ (s : Slice). IfSome (early_slice s) (IsEarly fails (rules_at meaning host) (reverse b.lane.seen)))
        (sym idle) tt;
  }
  last_ends a b came_to (inr (last, is)) = slice_ends a b came_to is

  pub loop_ends : (a b : Hand) (came_to : Slice) → HasLooped pace meaning stands host may_hold a came_to b
      → Ends fails (rules_at meaning host) a.lane (early_slice came_to) b.lane
  loop_ends a b came_to has = ends_later fails (rules_at meaning host) a.lane has.mid.lane b.lane (early_slice came_to)
      (rounds_later has.count a has.mid has.rounds) (last_ends has.mid b came_to has.last)

module _ {F : Type 0} (fails : Type 0) (rules : Rules) where
  -- the host could not be stopped, and was halted
  pub unstopped_ends : (A : Type 0) (a b c : LaneView Entry F) (made : Option Early) (why : EventStop)
      → IsTurn (Stops rules a.number {A = A}) a (Err why) b → IsLater b c
      → IfSome made (IsEarly fails rules (reverse a.seen))
      → Ends fails rules a (Some (unwrap_or made (early_stop why))) c
  unstopped_ends A a b c None why turn later cause =
      let stopped = later_turn (Stops rules a.number {A = A}) a b (Err why) turn in
      record {
        later = later_then a b c stopped later;
        cause = early_later fails rules b c (Some (early_stop why)) later
            (stop_cause A fails rules a.number turn.before b.seen why (turn.grows.0, turn.grows.1) turn.done);
      }
  unstopped_ends A a b c (Some first) why turn later cause =
      let way = later_then a b c (later_turn (Stops rules a.number {A = A}) a b (Err why) turn) later in
      record { later = way; cause = early_later fails rules a c (Some first) way cause }

  -- a loop of slices ended early, and the host was halted
  pub met_then : (a b c d : LaneView Entry F) (made : Option Early) (met : Early) → Ends fails rules a made b
      → Ends fails rules b (Some met) c → IsLater c d → Ends fails rules a (Some (unwrap_or made met)) d
  met_then a b c d None met first ends later =
      ends_then fails rules a c d (Some met) (ends_later fails rules a b c (Some met) first.later ends) later
  met_then a b c d (Some one) met first ends later =
      ends_then fails rules a b d (Some one) first (later_then b c d ends.later later)

  -- nothing was left to do
  pub idle_then : (a b c : LaneView Entry F) (made : Option Early) → Ends fails rules a made b
      → Ends fails rules b None c → Ends fails rules a made c
  idle_then a b c made first ends = ends_then fails rules a b c made first ends.later
