-- The entries of an event bear its lane.
use Rattle.std.proofs.Common.{◌≡◌, ℕ, ◌+◌, List, [], ◌∷◌, refl, inl, inr, arith}
use Rattle.std.proofs.lemmas.Bool.{cases_lt}
use Rattle.std.proofs.lemmas.List.Elements.{All-cons, All-append}
use Rattle.asp_job.specs.declared.entry.Entry.{Entry}
use Rattle.asp_job.specs.declared.entry.What.TheVariants.{Stop, Tick}
use Rattle.asp_job.specs.declared.job.Job.{Job}
use Rattle.asp_job.specs.declared.job.Work.{Work}
use Rattle.asp_job.specs.History.{with_lane}
use Rattle.asp_job.specs.Journal.{admit_entries, admit_entry, past_after, queue_entries, stop_entries}
use Rattle.asp_job.specs.Journal.{tick_entries, with_owed}
use Rattle.asp_job.specs.Rules.{Rules}
use Rattle.asp_job.specs.Runs.{drawn, moment_of}
use Rattle.asp_job.specs.Turns.{owed}
use Rattle.asp_core.specs.Laws.{AreOfLane}
use Rattle.asp_core.proofs.Kept.{no_tick_is, tick_is}

pub none_of : (lane : ℕ) → AreOfLane lane []
none_of lane k d within = absurd (omega arith)

pub more_of : (lane : ℕ) (entry : Entry) (entries : List Entry) → entry.lane ≡ lane → AreOfLane lane entries
    → AreOfLane lane (entry ∷ entries)
more_of lane entry entries first rest = All-cons (λ (one : Entry). one.lane ≡ lane) entry entries first rest

pub one_of : (lane : ℕ) (entry : Entry) → entry.lane ≡ lane → AreOfLane lane (entry ∷ [])
one_of lane entry e = more_of lane entry [] e (none_of lane)

queue_of : (lane run : ℕ) (list : List (Work × ℕ)) → AreOfLane lane (queue_entries lane run list)
queue_of lane run [] = none_of lane
queue_of lane run (first ∷ rest) = more_of lane _ _ refl (queue_of lane (run + 1) rest)

owed_of : (m : Rules) (past : List Entry) (entry : Entry) → AreOfLane entry.lane (with_owed m past entry)
owed_of m past entry =
    more_of entry.lane _ _ refl (queue_of entry.lane (drawn (entry ∷ past) + 1) (owed m (entry ∷ past)))

pub tick_of : (m : Rules) (past : List Entry) (lane moment : ℕ) → AreOfLane lane (tick_entries m past lane moment)
tick_of m past lane moment = elim (cases_lt (moment_of past) moment) [
  | inl later ↦ rw (tick_is m past lane moment later) (owed_of m past (with_lane lane (Tick moment)))
  | inr early ↦ rw (no_tick_is m past lane moment early) (none_of lane)
]

pub stop_of : (m : Rules) (past : List Entry) (lane : ℕ) → AreOfLane lane (stop_entries m past lane)
stop_of m past lane = owed_of m past (with_lane lane Stop)

pub admit_of : (m : Rules) (past : List Entry) (lane : ℕ) (job : Job) → AreOfLane lane (admit_entries m past lane job)
admit_of m past lane job =
    let ticked = tick_entries m past lane job.moment in
    All-append (λ (one : Entry). one.lane ≡ lane) ticked (admit_entry m (past_after past ticked) lane job ∷ [])
    (tick_of m past lane job.moment) (one_of lane (admit_entry m (past_after past ticked) lane job) refl)
