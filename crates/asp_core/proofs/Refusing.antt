-- Why a job is not taken.
use Rattle.std.proofs.Common.{◌≡◌, ℕ, ◌<◌, Bool, true, false, if◌then◌else◌, List, length, Some}
use Rattle.std.proofs.Common.{None, refl, arith, nat_le}
use Rattle.asp_journal.specs.declared.full.Full.{Full}
use Rattle.asp_core.specs.Stops.{admit_stop}
use Rattle.asp_core.specs.Taking.{refused_before}
use Rattle.asp_core.specs.declared.stop.AdmitStop.TheVariants.{Stopping, WaitingFull, JournalFull}
use Rattle.asp_core.specs.declared.stop.EventStop.{EventStop}
use Rattle.asp_core.specs.declared.stop.EventStop.TheVariants as event
use Rattle.asp_job.specs.Runs.{is_stopping}
use Rattle.asp_job.specs.Turns.{waiting_pages}
use Rattle.asp_job.specs.declared.entry.Entry.{Entry}
use Rattle.asp_job.specs.declared.entry.TheConstants.{MOST_WAITING}

not_most : (n most : ℕ) → nat_le most n ≡ false → n < most
not_most n most e = grind arith

none_if : (stopping many : Bool) → (if stopping then Some Stopping else if many then Some WaitingFull else None) ≡ None
    → (stopping ≡ false) × (many ≡ false)
none_if true many e = absurd cc
none_if false true e = absurd cc
none_if false false e = (refl, refl)

pub none_before : (past : List Entry) → refused_before past ≡ None → (is_stopping past ≡ false)
    × (length (waiting_pages past) < MOST_WAITING)
none_before past e =
    let both = none_if (is_stopping past) (nat_le MOST_WAITING (length (waiting_pages past))) e in
    (both.0, not_most (length (waiting_pages past)) MOST_WAITING both.1)

-- a journal that is full was told so
pub full_back : (stop : EventStop) (full : Full) → admit_stop stop ≡ JournalFull full
    → stop ≡ event.JournalFull full
full_back (event.JournalFull most) full e = cc
full_back event.Memory full e = absurd cc
