-- Which runs of a lane are unfinished, while entries come.
use Rattle.std.proofs.Common.{◌≡◌, ◌≢◌, ℕ, ◌==◌, ◌++◌, false, List, [], ◌∷◌, length, filter, refl, ap, sym}
use Rattle.std.proofs.Common.{◌∙◌, arith, inl, inr, length-append, ◌⊎◌, Some}
use Rattle.std.proofs.lemmas.Bool.{cases_Bool, eqb-true}
use Rattle.std.proofs.lemmas.List.Elements.{filter-append}
use Rattle.turn_desk.specs.Histories.{own_part}
use Rattle.vb_value.specs.declared.application.AppCall.{AppCall}
use Rattle.vb_value.specs.declared.application.AppReply.{AppReply}
use Rattle.asp_job.specs.declared.entry.EndKind.{EndKind}
use Rattle.asp_job.specs.declared.entry.Entry.{Entry}
use Rattle.asp_job.specs.declared.entry.Stage.TheVariants.{Ended, Waiting}
use Rattle.asp_job.specs.declared.entry.What.{What}
use Rattle.asp_job.specs.declared.entry.What.TheVariants.{Admit, App, Begin, End, Halt, Queue, Refuse, Stop, Take, Tick}
use Rattle.asp_job.specs.History.{run_in, with_lane}
use Rattle.asp_job.specs.Journal.{past_after}
use Rattle.asp_job.specs.Runs.{is_stage_unfinished, is_unfinished, lane_of, stage_of}
use Rattle.asp_job.specs.Turns.{IsRunning}
use Rattle.asp_core.specs.Laws.{AreOfOthers}
use Rattle.asp_core.proofs.Others.{lane_other}
use Rattle.asp_journal.proofs.Others.{stage_other}
use Rattle.asp_desk.specs.Calls.{AreEvents, IsEvent}

-- ---- entries of other lanes

none_own : (lane : ℕ) (rest : List Entry) → own_part (λ (entry : Entry). entry.lane) lane rest ≡ []
    → AreOfOthers lane rest
none_own lane [] e = tt
none_own lane (entry ∷ rest) e = elim (cases_Bool (entry.lane == lane)) [
  | inl own ↦ absurd (let found : own_part (λ (one : Entry). one.lane) lane (entry ∷ rest)
      ≡ entry ∷ own_part (λ (one : Entry). one.lane) lane rest = rw own refl in cc)
  | inr other ↦ (let left : own_part (λ (one : Entry). one.lane) lane (entry ∷ rest)
      ≡ own_part (λ (one : Entry). one.lane) lane rest = rw other refl in
      (λ same. not_own entry.lane lane same other, none_own lane rest (sym left ∙ e)))
]
  where
    not_own : (a b : ℕ) → a ≡ b → (a == b) ≡ false → ⊥
    not_own a b same other = grind arith

empty : (xs : List Entry) → length xs ≡ 0 → xs ≡ []
empty [] e = refl
empty (x ∷ xs) e = absurd (omega arith)

-- where a lane's own part has not grown, what came is of other lanes
pub are_others : (lane : ℕ) (seen rest : List Entry)
    → own_part (λ (entry : Entry). entry.lane) lane (seen ++ rest)
    ≡ own_part (λ (entry : Entry). entry.lane) lane seen
    → AreOfOthers lane rest
are_others lane seen rest same =
    let test = λ (entry : Entry). entry.lane == lane in
    let both : length (filter test seen ++ filter test rest) ≡ length (filter test seen) =
    ap length (sym (filter-append test seen rest) ∙ same) in
    let long = length-append (filter test seen) (filter test rest) in
    none_own lane rest (empty (filter test rest) (omega arith))

-- ---- one entry

-- an entry that says nothing of a run leaves it as it was
before_other : (past : List Entry) (lane r other : ℕ) (what : What) → (run_in what == r) ≡ false
    → IsRunning (with_lane other what ∷ past) lane r → IsRunning past lane r
before_other past lane r other what apart running = record {
  unfinished = sym (ap is_stage_unfinished (stage_other past other r what apart)) ∙ running.unfinished;
  begun_by = sym (lane_other past other r what apart) ∙ running.begun_by;
}

-- an event begins no run
pub before_event : (past : List Entry) (lane r other : ℕ) (what : What) → IsEvent what
    → IsRunning (with_lane other what ∷ past) lane r → IsRunning past lane r
before_event past lane r other (Queue run work key) event running = elim (cases_Bool (run == r)) [
  | inl own ↦ absurd (let stage : stage_of (with_lane other (Queue run work key) ∷ past) r ≡ Waiting = rw own refl in
      let no : is_unfinished (with_lane other (Queue run work key) ∷ past) r ≡ false = ap is_stage_unfinished stage in
      let yes = running.unfinished in cc)
  | inr apart ↦ before_other past lane r other (Queue run work key) apart running
]
before_event past lane r other (Admit run key fresh job) event running = elim (cases_Bool (run == r)) [
  | inl own ↦ absurd (let stage : stage_of (with_lane other (Admit run key fresh job) ∷ past) r ≡ Waiting = rw own
      refl in
      let no : is_unfinished (with_lane other (Admit run key fresh job) ∷ past) r ≡ false =
      ap is_stage_unfinished stage in let yes = running.unfinished in cc)
  | inr apart ↦ before_other past lane r other (Admit run key fresh job) apart running
]
before_event past lane r other (Refuse run job) event running = elim (cases_Bool (run == r)) [
  | inl own ↦ absurd (let stage : stage_of (with_lane other (Refuse run job) ∷ past) r ≡ Ended = rw own refl in
      let no : is_unfinished (with_lane other (Refuse run job) ∷ past) r ≡ false = ap is_stage_unfinished stage in
      let yes = running.unfinished in cc)
  | inr apart ↦ before_other past lane r other (Refuse run job) apart running
]
before_event past lane r other (Tick moment) event running =
    record { unfinished = running.unfinished; begun_by = running.begun_by }
before_event past lane r other (Begin run serial) event running = absurd event
before_event past lane r other (App run call reply) event running = absurd event
before_event past lane r other (End run kind status size made finished) event running = absurd event
before_event past lane r other (Take run) event running =
    record { unfinished = running.unfinished; begun_by = running.begun_by }
before_event past lane r other Stop event running =
    record { unfinished = running.unfinished; begun_by = running.begun_by }
before_event past lane r other Halt event running =
    record { unfinished = running.unfinished; begun_by = running.begun_by }

-- a call of any run leaves which are unfinished
pub before_call : (past : List Entry) (lane r other run : ℕ) (call : AppCall) (reply : AppReply)
    → IsRunning (with_lane other (App run call reply) ∷ past) lane r → IsRunning past lane r
before_call past lane r other run call reply running =
    record { unfinished = running.unfinished; begun_by = running.begun_by }

-- a run that ends is unfinished no more
pub before_end : (past : List Entry) (lane r other run : ℕ) (kind : EndKind) (status size made finished : ℕ)
    → IsRunning (with_lane other (End run kind status size made finished) ∷ past) lane r
    → IsRunning past lane r × ((run == r) ≡ false)
before_end past lane r other run kind status size made finished running =
    let what = End run kind status size made finished in
    elim (cases_Bool (run == r)) [
      | inl own ↦ absurd (let stage : stage_of (with_lane other what ∷ past) r ≡ Ended = rw own refl in
          let no : is_unfinished (with_lane other what ∷ past) r ≡ false = ap is_stage_unfinished stage in
          let yes = running.unfinished in cc)
      | inr apart ↦ (before_other past lane r other what apart running, apart)
    ]

-- where a run begins, others of a lane were unfinished before
pub before_begin : (past : List Entry) (lane r other run serial : ℕ)
    → IsRunning (with_lane other (Begin run serial) ∷ past) lane r → IsRunning past lane r ⊎ (run ≡ r) × (other ≡ lane)
before_begin past lane r other run serial running =
    let what = Begin run serial in
    elim (cases_Bool (run == r)) [
      | inl own ↦ inr (
        eqb-true run r own,
        (let is : lane_of (with_lane other what ∷ past) r ≡ Some other = rw own refl in
            let by = running.begun_by in cc),
      )
      | inr apart ↦ inl (before_other past lane r other what apart running)
    ]

-- what another lane adds leaves which runs of the lane are unfinished
before_others_one : (past : List Entry) (lane r other : ℕ) (what : What) → other ≢ lane
    → IsRunning (with_lane other what ∷ past) lane r → IsRunning past lane r
before_others_one past lane r other (Queue run work key) apart running =
    before_event past lane r other (Queue run work key) tt running
before_others_one past lane r other (Admit run key fresh job) apart running =
    before_event past lane r other (Admit run key fresh job) tt running
before_others_one past lane r other (Refuse run job) apart running =
    before_event past lane r other (Refuse run job) tt running
before_others_one past lane r other (Tick moment) apart running =
    before_event past lane r other (Tick moment) tt running
before_others_one past lane r other (Begin run serial) apart running =
    elim (before_begin past lane r other run serial running) [ inl was ↦ was | inr own ↦ absurd (apart own.1) ]
before_others_one past lane r other (App run call reply) apart running =
    before_call past lane r other run call reply running
before_others_one past lane r other (End run kind status size made finished) apart running =
    (before_end past lane r other run kind status size made finished running).0
before_others_one past lane r other (Take run) apart running = before_event past lane r other (Take run) tt running
before_others_one past lane r other Stop apart running = before_event past lane r other Stop tt running
before_others_one past lane r other Halt apart running = before_event past lane r other Halt tt running

-- ---- more entries

pub before_events : (past entries : List Entry) (lane r : ℕ) → AreEvents entries
    → IsRunning (past_after past entries) lane r → IsRunning past lane r
before_events past [] lane r events running = running
before_events past (entry ∷ entries) lane r events running = before_event past lane r entry.lane entry.what events.0
    (before_events (entry ∷ past) entries lane r events.1 running)

pub before_others : (past entries : List Entry) (lane r : ℕ) → AreOfOthers lane entries
    → IsRunning (past_after past entries) lane r → IsRunning past lane r
before_others past [] lane r others running = running
before_others past (entry ∷ entries) lane r others running =
    before_others_one past lane r entry.lane entry.what others.0
    (before_others (entry ∷ past) entries lane r others.1 running)
