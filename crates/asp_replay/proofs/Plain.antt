-- Entries of lane 0 that halt nothing, and end no run because the journal was full.
use Rattle.std.proofs.Common.{◌≡◌, ℕ, ◌+◌, ◌++◌, Bool, true, false, if◌then◌else◌, List, [], ◌∷◌, refl, inl, inr}
use Rattle.std.proofs.lemmas.Bool.{cases_lt}
use Rattle.std.proofs.lemmas.List.Elements.{All-cons}
use Rattle.asp_core.specs.Laws.{NoneIs}
use Rattle.asp_core.proofs.Kept.{no_tick_is, tick_is}
use Rattle.asp_job.specs.declared.answer.Answer.{Answer}
use Rattle.asp_job.specs.declared.entry.Entry.{Entry}
use Rattle.asp_job.specs.declared.entry.What.TheVariants.{Admit, Refuse, Stop}
use Rattle.asp_job.specs.declared.job.Job.{Job}
use Rattle.asp_job.specs.declared.job.Work.{Work}
use Rattle.asp_job.specs.History.{with_lane}
use Rattle.asp_job.specs.Journal.{admit_entries, admit_entry, begin_entry, is_refused, job_now, past_after}
use Rattle.asp_job.specs.Journal.{queue_entries, stop_entries, tick_entries}
use Rattle.asp_job.specs.Keys.{due_at, session_of}
use Rattle.asp_job.specs.Rules.{Rules}
use Rattle.asp_job.specs.Runs.{drawn, is_halt, is_halted, moment_of}
use Rattle.asp_job.specs.Turns.{closing_runs, key_asked_by, key_for, needs_key, owed}
use Rattle.asp_lane.specs.Turns.{IsStep}
use Rattle.asp_replay.specs.Feed.{is_full_end}
use Rattle.asp_replay.specs.Sequential.{HasInHand, hand_outs}
use Rattle.asp_replay.specs.Underway.{AreOfLane, WorkAdds}

pub record IsPlain (entry : Entry) : Type 0 where
  pub lane : entry.lane ≡ 0
  pub goes_on : is_halt entry.what ≡ false
  pub not_full : is_full_end entry.what ≡ false

abbrev pub ArePlain : List Entry → Type 0
ArePlain [] = Unit {0}
ArePlain (entry ∷ entries) = IsPlain entry × ArePlain entries

-- what a past says of these
pub record Stays (past : List Entry) : Type 0 where
  pub lanes : AreOfLane past
  pub going : is_halted past ≡ false
  pub none_full : NoneIs is_full_end past

pub stays_one : (past : List Entry) (entry : Entry) → IsPlain entry → Stays past → Stays (entry ∷ past)
stays_one past entry plain stays = record {
  lanes = All-cons (λ some. some.lane ≡ 0) entry past plain.lane stays.lanes;
  going = rw plain.goes_on stays.going;
  none_full = (plain.not_full, stays.none_full);
}

pub stays_plain : (past entries : List Entry) → ArePlain entries → Stays past → Stays (past_after past entries)
stays_plain past [] plain stays = stays
stays_plain past (entry ∷ entries) plain stays =
    stays_plain (entry ∷ past) entries plain.1 (stays_one past entry plain.0 stays)

-- ---- which entries these are

plain_both : (first second : List Entry) → ArePlain first → ArePlain second → ArePlain (first ++ second)
plain_both [] second one two = two
plain_both (entry ∷ first) second one two = (one.0, plain_both first second one.1 two)

plain_queued : (run : ℕ) (list : List (Work × ℕ)) → ArePlain (queue_entries 0 run list)
plain_queued run [] = tt
plain_queued run (first ∷ rest) =
    (record { lane = refl; goes_on = refl; not_full = refl }, plain_queued (run + 1) rest)

pub plain_ticked : (m : Rules) (past : List Entry) (moment : ℕ) → ArePlain (tick_entries m past 0 moment)
plain_ticked m past moment = elim (cases_lt (moment_of past) moment) [
  | inl later ↦ rw (tick_is m past 0 moment later) (
    record { lane = refl; goes_on = refl; not_full = refl },
    plain_queued (drawn past + 1) (closing_runs (due_at (session_of m past) past moment)),
  )
  | inr early ↦ rw (no_tick_is m past 0 moment early) tt
]

plain_admission : (refused : Bool) (run key : ℕ) (fresh : Bool) (job : Job)
    → IsPlain (with_lane 0 (if refused then Refuse run job else Admit run key fresh job))
plain_admission true run key fresh job = record { lane = refl; goes_on = refl; not_full = refl }
plain_admission false run key fresh job = record { lane = refl; goes_on = refl; not_full = refl }

pub plain_admitted : (m : Rules) (past : List Entry) (job : Job) → ArePlain (admit_entries m past 0 job)
plain_admitted m past job =
    let ticked = tick_entries m past 0 job.moment in
    let then_past = past_after past ticked in
    let now = job_now then_past job in
    plain_both ticked (admit_entry m then_past 0 job ∷ []) (plain_ticked m past job.moment) (
      plain_admission (is_refused (m.meaning.is_keyed now) (key_asked_by m now) (session_of m then_past) then_past)
          (drawn then_past + 1) (key_for (m.meaning.is_keyed now) (key_asked_by m now) (session_of m then_past)
          then_past)
          (needs_key (m.meaning.is_keyed now) (key_asked_by m now) (session_of m then_past) then_past) now,
      tt,
    )

pub plain_stopped : (m : Rules) (past : List Entry) → ArePlain (stop_entries m past 0)
plain_stopped m past = (
  record { lane = refl; goes_on = refl; not_full = refl },
  plain_queued (drawn (with_lane 0 Stop ∷ past) + 1) (owed m (with_lane 0 Stop ∷ past)),
)

pub plain_handed : (answers : List (ℕ × Answer)) → ArePlain (hand_outs answers)
plain_handed [] = tt
plain_handed (first ∷ rest) = (record { lane = refl; goes_on = refl; not_full = refl }, plain_handed rest)

-- ---- what work adds

plain_step : (m : Rules) (past : List Entry) (run : ℕ) (entry : Entry) → IsStep m past 0 run entry → IsPlain entry
plain_step m past run entry (inl called) = rw called.2 (record { lane = refl; goes_on = refl; not_full = refl })
plain_step m past run entry (inr (inl ended)) = rw ended.1 (record { lane = refl; goes_on = refl; not_full = refl })
plain_step m past run entry (inr (inr died)) = rw died (record { lane = refl; goes_on = refl; not_full = refl })

stays_in_hand : (m : Rules) (past mid : List Entry) (run : ℕ) → HasInHand m past mid run → Stays past → Stays mid
stays_in_hand m past mid run (inl held) stays = rw held.1 stays
stays_in_hand m past mid run (inr begun) stays =
    rw begun.2 (stays_one past (begin_entry m past 0 run) (record { lane = refl; goes_on = refl; not_full = refl })
    stays)

pub stays_worked : (m : Rules) (past entries : List Entry) → WorkAdds m past entries → Stays past
    → Stays (past_after past entries)
stays_worked m past entries adds stays =
    rw adds.entries_are (stays_one adds.mid adds.entry (plain_step m adds.mid adds.run adds.entry adds.step)
    (stays_in_hand m past adds.mid adds.run adds.in_hand stays))
