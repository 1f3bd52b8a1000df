-- How a run begins, and how it goes through.
use Rattle.std.proofs.Common.{◌≡◌, ℕ, List, [], ◌∷◌, refl, subst, Some}
use Rattle.asp_journal.specs.declared.full.Full.{Full}
use Rattle.asp_core.specs.declared.run.Progress.TheVariants as progress
use Rattle.asp_core.specs.declared.stop.BeginStop.{BeginStop}
use Rattle.asp_core.specs.declared.stop.BeginStop.TheVariants as begin
use Rattle.asp_core.specs.Kernel.{CoreView, IsBeginTooMuch, IsRunOf, IsWithin, RunView, grown, past_of, rules_of}
use Rattle.asp_job.specs.declared.entry.Entry.{Entry}
use Rattle.asp_job.specs.Journal.{IsValidJournal, begin_entry}
use Rattle.asp_job.specs.Rules.{Rules}
use Rattle.asp_job.specs.Runs.{unfinished}
use Rattle.asp_job.specs.Told.{Meaning, Told}
use Rattle.asp_job.specs.Turns.{IsBegin, serial_of}
use Rattle.asp_lane.proofs.Growing.{past_one}
use Rattle.asp_lane.proofs.Turns.{begun_turn}
use Rattle.asp_lane.specs.Course.{Begins, GoesThrough, IsRunTooMuch, OfBegin, OfCall}
use Rattle.asp_lane.specs.declared.stop.RunStop.{RunStop}
use Rattle.asp_lane.specs.declared.stop.RunStop.TheVariants as stop
use Rattle.asp_lane.specs.Turns.{Fits}
use Rattle.asp_lane.specs.Underway.{GoesOn, IsGoingStop, IsNextTooMuch, IsRunStop, begin_stop}

-- ---- the Begin

-- a run has begun, and this is the journal
pub record HasJustBegun (rules : Rules) (lane : ℕ) (past : List Entry) (run : ℕ) (new : List Entry) : Type 0 where
  pub begins : Begins rules lane past run
  pub new_is : new ≡ begin_entry rules past lane run ∷ past

module _ {R Site State : Type 0} (meaning : R → Site → Meaning) (stands : R → Site → State → Told → ℕ → Type 0)
    (lane : ℕ) (old new : CoreView R Site) (valid : IsValidJournal (rules_of meaning old) (past_of old))
    (free : unfinished (past_of old) ≡ []) where
  abbrev m : Rules
  m = rules_of meaning old

  pub begun_so : (run : ℕ) → IsBegin m (past_of old) run (serial_of m (past_of old) run)
      → new ≡ grown old (begin_entry m (past_of old) lane run ∷ []) → IsWithin (past_of new)
      → HasJustBegun m lane (past_of old) run (past_of new)
  begun_so run begins new_is within =
      let entry = begin_entry m (past_of old) lane run in
      let past : past_of new ≡ entry ∷ past_of old = past_one old new (entry ∷ []) entry new_is refl in
      record {
        begins = record { free = free; next = begins; within = subst IsWithin past within };
        new_is = past;
      }

  pub begun_fits : (run : RunView State) → IsBegin m (past_of old) run.number (serial_of m (past_of old) run.number)
      → new ≡ grown old (begin_entry m (past_of old) lane run.number ∷ []) → IsRunOf meaning stands new lane run
      → run.progress ≡ progress.Going → Fits meaning stands new lane (Some run)
  begun_fits run begins new_is is_of going =
      (begun_turn meaning stands lane old new run valid.entries free begins new_is is_of going).fits

  pub not_begun : (ended : BeginStop)
      → ((full : Full) → ended ≡ begin.JournalFull full
      → IsBeginTooMuch m (past_of old) lane full)
      → IsRunStop m lane (past_of old) (begin_stop ended)
  not_begun begin.Idle full = tt
  not_begun (begin.JournalFull full) much = OfBegin valid (much full refl)
  not_begun begin.Memory full = tt

-- ---- the whole course

module _ (rules : Rules) (lane : ℕ) (from mid : List Entry) (begun : ℕ) (just : HasJustBegun rules lane from begun mid)
  where
    pub through_so : (to : List Entry) → GoesOn rules lane mid begun to → GoesThrough rules lane from begun to
    through_so to goes =
        let on : GoesOn rules lane (begin_entry rules from lane begun ∷ from) begun to =
        subst (λ some. GoesOn rules lane some begun to) just.new_is goes in
        record {
          mid = on.mid;
          under_way = record { begins = just.begins; count = on.count; calls = on.calls };
          ends = on.ends;
          to_is = on.to_is;
        }

    too_much : (full : Full) → IsNextTooMuch rules lane mid begun full
        → IsRunTooMuch rules lane from full
    too_much full is =
        let much : IsNextTooMuch rules lane (begin_entry rules from lane begun ∷ from) begun full =
        subst (λ some. IsNextTooMuch rules lane some begun full) just.new_is is in
        OfCall begun much.mid (record { begins = just.begins; count = much.count; calls = much.calls }) much.valid
        much.much

    pub stop_so : (ended : RunStop) → IsGoingStop rules lane mid begun ended → IsRunStop rules lane from ended
    stop_so (stop.JournalFull full) is = too_much full is
    stop_so stop.Memory is = tt
