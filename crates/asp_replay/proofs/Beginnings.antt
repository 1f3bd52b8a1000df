-- The first run, beside which no other lane works.
use Rattle.std.proofs.Common.{◌≡◌, ℕ, List, [], ◌∷◌, ◌++◌, Bool, true, false, Option, Some, None, Result, Ok, Err}
use Rattle.std.proofs.Common.{refl, ap, sym, ◌∙◌, is_some, not}
use Rattle.asp_core.specs.Kernel.{RunView}
use Rattle.asp_desk.specs.Calls.{AreWork, looked_of}
use Rattle.asp_desk.specs.declared.looking.Looked.{Looked}
use Rattle.asp_desk.specs.Hands.{held_number}
use Rattle.asp_job.specs.declared.answer.Fail.{Fail}
use Rattle.asp_job.specs.declared.entry.Entry.{Entry}
use Rattle.asp_job.specs.Journal.{past_after}
use Rattle.asp_job.specs.Rules.{Rules}
use Rattle.asp_journal.specs.declared.full.Full.{Full}
use Rattle.asp_replay.specs.declared.stop.FeedStop.{FeedStop}
use Rattle.asp_replay.specs.declared.stop.FeedStop.TheVariants as stop
use Rattle.asp_replay.specs.Near.{GoesOn, HasWorked, IsFreeThen, SlicesNear, StartedBy, Starts, WasMuchNear}
use Rattle.asp_replay.proofs.Showing.{after_both}

both_work : (xs ys : List Entry) → AreWork xs → AreWork ys → AreWork (xs ++ ys)
both_work [] ys p q = q
both_work (x ∷ xs) ys p q = (p.0, both_work xs ys p.1 q)

-- ---- work behind work

pub worked_none : (old : List Entry) → HasWorked old old
worked_none old = record { entries = []; new_is = refl; work = tt }

pub worked_then : (old mid new : List Entry) → HasWorked old mid → HasWorked mid new → HasWorked old new
worked_then old mid new one two = record {
  entries = one.entries ++ two.entries;
  new_is = two.new_is ∙ ap (λ past. past_after past two.entries) one.new_is
      ∙ sym (after_both old one.entries two.entries);
  work = both_work one.entries two.entries one.work two.work;
}

much_then : (m : Rules) (old mid new : List Entry) (full : Full) → HasWorked old mid → WasMuchNear m mid new full
    → WasMuchNear m old new full
much_then m old mid new full worked was = record {
  before = was.before;
  worked = worked_then old mid was.before worked was.worked;
  later = was.later;
  new_is = was.new_is;
  much = was.much;
}

-- ---- a round

-- it had ended by a look
pub begun_by : (m : Rules) (old new : List Entry) (looked : Looked) (done : Result (Unit {0}) FeedStop)
    → HasWorked old new → looked ≡ looked_of m new → StartedBy done looked → GoesOn (Some done) m old new
begun_by m old new looked (Ok given) worked is by = (
  worked,
  record {
    ended = sym (ap (λ (l : Looked). l.start_kind) is) ∙ by.0;
    sound = sym (ap (λ (l : Looked). l.start_fail) is) ∙ by.1;
  },
)
begun_by m old new looked (Err (stop.JournalFull full)) worked is by = absurd by
begun_by m old new looked (Err stop.WriteFault) worked is by = absurd by
begun_by m old new looked (Err (stop.StartFailed fail)) worked is by = worked
begun_by m old new looked (Err stop.Memory) worked is by = worked

-- a slice
pub goes_on : (m : Rules) (old mid new : List Entry) (more : Bool) → HasWorked old mid
    → SlicesNear (Ok more) m mid new → GoesOn None m old new
goes_on m old mid new more worked slice = worked_then old mid new worked slice

pub goes_not : (m : Rules) (old mid new : List Entry) (ended : FeedStop) → HasWorked old mid
    → SlicesNear {T = Bool} (Err ended) m mid new → GoesOn (Some (Err ended)) m old new
goes_not m old mid new (stop.JournalFull full) worked slice =
    (worked_then old mid new worked slice.0, much_then m old mid new full worked slice.1)
goes_not m old mid new stop.Memory worked slice = worked_then old mid new worked slice
goes_not m old mid new stop.WriteFault worked slice = absurd slice
goes_not m old mid new (stop.StartFailed fail) worked slice = absurd slice

pub slice_worked : (m : Rules) (old new : List Entry) (ended : FeedStop) → SlicesNear {T = Bool} (Err ended) m old new
    → HasWorked old new
slice_worked m old new (stop.JournalFull full) slice = slice.0
slice_worked m old new stop.Memory slice = slice
slice_worked m old new stop.WriteFault slice = absurd slice
slice_worked m old new (stop.StartFailed fail) slice = absurd slice

abbrev pub ended_so : FeedStop → Result Bool FeedStop
ended_so ended = Err ended

pub not_started : {Run : Type 0} (ended : FeedStop) (run : Option Run)
    → ((fail : Fail) → ended_so ended ≡ ended_so (stop.StartFailed fail) → ⊥) → IsFreeThen (Err ended) run
not_started (stop.JournalFull full) run not = tt
not_started stop.Memory run not = tt
not_started stop.WriteFault run not = tt
not_started (stop.StartFailed fail) run not = absurd (not fail refl)

-- one round behind others
pub starts_then : (m : Rules) (old mid new : List Entry) (done : Result (Unit {0}) FeedStop) → HasWorked old mid
    → GoesOn (Some done) m mid new → Starts done m old new
starts_then m old mid new (Ok given) worked goes = (worked_then old mid new worked goes.0, goes.1)
starts_then m old mid new (Err (stop.JournalFull full)) worked goes =
    (worked_then old mid new worked goes.0, much_then m old mid new full worked goes.1)
starts_then m old mid new (Err stop.WriteFault) worked goes = absurd goes
starts_then m old mid new (Err (stop.StartFailed fail)) worked goes = worked_then old mid new worked goes
starts_then m old mid new (Err stop.Memory) worked goes = worked_then old mid new worked goes

-- what was there before it
pub starts_worked : (m : Rules) (old new : List Entry) (done : Result (Unit {0}) FeedStop) → Starts done m old new
    → HasWorked old new
starts_worked m old new (Ok given) starts = starts.0
starts_worked m old new (Err (stop.JournalFull full)) starts = starts.0
starts_worked m old new (Err stop.WriteFault) starts = absurd starts
starts_worked m old new (Err (stop.StartFailed fail)) starts = starts
starts_worked m old new (Err stop.Memory) starts = starts

pub no_fault_by : (looked : Looked) (done : Result (Unit {0}) FeedStop) → StartedBy done looked
    → done ≡ Err stop.WriteFault → ⊥
no_fault_by looked (Ok given) by e = absurd cc
no_fault_by looked (Err (stop.JournalFull full)) by e = absurd by
no_fault_by looked (Err stop.WriteFault) by e = absurd by
no_fault_by looked (Err (stop.StartFailed fail)) by e = absurd cc
no_fault_by looked (Err stop.Memory) by e = absurd cc

abbrev pub ended_at : FeedStop → Result (Unit {0}) FeedStop
ended_at ended = Err ended

pub no_fault_in : (ended : FeedStop) → (ended_so ended ≡ ended_so stop.WriteFault → ⊥)
    → ended_at ended ≡ ended_at stop.WriteFault → ⊥
no_fault_in ended not e = not (ap ended_so (let same : ended ≡ stop.WriteFault = cc in same))

pub none_told : (run : Option ℕ) (free : Bool) → is_some run ≡ not free → free ≡ true → run ≡ None
none_told None free same is = refl
none_told (Some run) free same is = absurd (let both : true ≡ false = same ∙ ap not is in cc)

pub free_where : {State : Type 0} (run : Option (RunView State)) → held_number run ≡ None → run ≡ None
free_where None is = refl
free_where (Some run) is = absurd cc

pub free_done : {Run : Type 0} (done : Result (Unit {0}) FeedStop) (run : Option Run) → run ≡ None
    → IsFreeThen done run
free_done (Ok given) run free = free
free_done (Err (stop.JournalFull full)) run free = tt
free_done (Err stop.WriteFault) run free = tt
free_done (Err (stop.StartFailed fail)) run free = free
free_done (Err stop.Memory) run free = tt
