-- All answers of a journal, and those that were handed out. All of it is our own.
use Rattle.std.specs.Prelude.{◌≡◌, ℕ, ◌==◌, Bool, true, false, List, [], ◌∷◌, ◌++◌, filter, Some, None}
use Rattle.std.specs.List.{count_by, find}
use Rattle.asp_job.specs.declared.answer.Answer.{Answer}
use Rattle.asp_job.specs.declared.entry.Entry.{Entry}
use Rattle.asp_job.specs.declared.entry.What.{What}
use Rattle.asp_job.specs.declared.entry.What.TheVariants.{Refuse, End, Take}
use Rattle.asp_job.specs.Output.{answer_by, unavailable_in}
use Rattle.asp_job.specs.Rules.{Rules, TooManySessions}
use Rattle.asp_job.specs.Runs.{takes}
use Rattle.asp_core.specs.Ready.{asked_by, first_for, ready, with_answer}

-- All answers, each with its run, in the order in which their runs ended or were refused: those that wait, and those
-- that were handed out.
abbrev pub given : Rules → List Entry → List (ℕ × Answer)
given rules [] = []
given rules (entry ∷ past) = elim entry.what [
  | End run kind status size made finished ↦ with_answer (given rules past) run (answer_by rules past run kind)
  | Refuse run job ↦ with_answer (given rules past) run (unavailable_in rules TooManySessions job.work)
  | _ ↦ given rules past
]

-- the answer that an entry makes, if it makes one
abbrev pub made_by : Rules → List Entry → What → List (ℕ × Answer)
made_by rules past (End run kind status size made finished) = with_answer [] run (answer_by rules past run kind)
made_by rules past (Refuse run job) = with_answer [] run (unavailable_in rules TooManySessions job.work)
made_by rules past _ = []

-- whether the entry is a hand-out
abbrev pub hands_out : What → Bool
hands_out (Take run) = true
hands_out _ = false

-- the answer of the run, if it is among these
abbrev pub answer_among : ℕ → List (ℕ × Answer) → List (ℕ × Answer)
answer_among run answers = elim (find (λ ready. ready.0 == run) answers) [ Some ready ↦ ready ∷ [] | None ↦ [] ]

-- the answers that were handed out, in the order of the hand-outs
abbrev pub handed : Rules → List Entry → List (ℕ × Answer)
handed rules [] = []
handed rules (entry ∷ past) = elim entry.what [
  | Take run ↦ handed rules past ++ answer_among run (ready rules past)
  | _ ↦ handed rules past
]

-- how often the answer of a run was handed out
abbrev pub hand_outs : List Entry → ℕ → ℕ
hand_outs past r = count_by (λ entry. takes r entry.what) past

-- a hand-out is that of the first answer that waits
abbrev pub IsOfFirst : List (ℕ × Answer) → What → Type 0
IsOfFirst answers (Take run) =
    (answer : Answer) × ((rest : List (ℕ × Answer)) × (answers ≡ (run, answer) ∷ rest))
IsOfFirst answers _ = Unit {0}

-- so is each
abbrev pub AreOfFirst : Rules → List Entry → Type 0
AreOfFirst rules [] = Unit {0}
AreOfFirst rules (entry ∷ past) = IsOfFirst (ready rules past) entry.what × AreOfFirst rules past

-- ---- what each lane is handed

-- the answers of the runs for which the lane asked
abbrev pub for_lane : List Entry → ℕ → List (ℕ × Answer) → List (ℕ × Answer)
for_lane past lane answers = filter (λ ready. asked_by past lane ready.0) answers

-- a hand-out to a lane is that of the first answer that waits for it
abbrev pub IsOfLaneFirst : Rules → List Entry → ℕ → What → Type 0
IsOfLaneFirst rules past lane (Take run) =
    (answer : Answer) × (first_for past lane (ready rules past) ≡ Some (run, answer))
IsOfLaneFirst rules past lane _ = Unit {0}

-- so is each
abbrev pub AreOfLaneFirst : Rules → List Entry → Type 0
AreOfLaneFirst rules [] = Unit {0}
AreOfLaneFirst rules (entry ∷ past) = IsOfLaneFirst rules past entry.lane entry.what × AreOfLaneFirst rules past
