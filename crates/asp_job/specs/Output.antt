-- How runs end, and the answers of pages. The answers that stand in for a page's own are our own.
use Rattle.std.specs.Prelude.{ℕ, ◌==◌, if◌then◌else◌, List, [], ◌∷◌, length, Option, Some, None}
use Rattle.std.specs.Option.{option_map_or}
use Rattle.asp_job.specs.declared.answer.Answer.{Answer}
use Rattle.asp_job.specs.declared.entry.EndKind.{EndKind}
use Rattle.asp_job.specs.declared.entry.EndKind.TheVariants as kind
use Rattle.asp_job.specs.declared.entry.Entry.{Entry}
use Rattle.asp_job.specs.declared.entry.What.{What}
use Rattle.asp_job.specs.declared.entry.What.TheVariants.{Refuse, End}
use Rattle.asp_job.specs.declared.job.Work.{Work}
use Rattle.asp_job.specs.declared.job.Work.TheVariants as work
use Rattle.asp_job.specs.Keys.{told}
use Rattle.asp_job.specs.Rules.{Rules, Cause, TooManySessions, OutOfMemory, JournalFull}
use Rattle.asp_job.specs.Runs.{job_of}
use Rattle.asp_job.specs.Told.{Outcome, Wants, Ends}

-- the answer with which a run ends by itself
abbrev pub answer_in : Outcome → Option Answer
answer_in (Wants call) = None
answer_in (Ends finished) = finished.answer

-- the answer that stands in for a page's own
abbrev pub unavailable_in : Rules → Cause → Work → Option Answer
unavailable_in rules cause (work.Page request) = Some (rules.unavailable cause request)
unavailable_in rules cause _ = None

-- The answer with which a run ends: that of its meaning, or a fixed one where memory ran out or the journal was full.
abbrev pub answer_by : Rules → List Entry → ℕ → EndKind → Option Answer
answer_by rules past run kind.Done = answer_in (rules.meaning.does (told rules past run))
answer_by rules past run kind.Memory = unavailable_in rules OutOfMemory (job_of past run).work
answer_by rules past run kind.JournalFull = unavailable_in rules JournalFull (job_of past run).work

-- the answer of a run that has ended or was refused
abbrev pub answer_of_run : Rules → List Entry → ℕ → Option Answer
answer_of_run rules [] r = None
answer_of_run rules (entry ∷ past) r = elim entry.what [
  | End run kind status size made finished ↦
      if run == r then answer_by rules past run kind else answer_of_run rules past r
  | Refuse run job ↦ if run == r then unavailable_in rules TooManySessions job.work else answer_of_run rules past r
  | _ ↦ answer_of_run rules past r
]

-- ---- what the entry of an end tells

-- the status code of an answer, and the bytes of its content; 0 without an answer
abbrev pub status_in : Option Answer → ℕ
status_in answer = option_map_or (λ a. a.status) answer 0

abbrev pub length_in : Option Answer → ℕ
length_in answer = option_map_or (λ a. length a.body) answer 0

-- how many objects a run made and ended
abbrev pub made_in : Outcome → ℕ
made_in (Wants call) = 0
made_in (Ends finished) = finished.made

abbrev pub finished_in : Outcome → ℕ
finished_in (Wants call) = 0
finished_in (Ends finished) = finished.finished

-- the numbers of objects count for runs that ended by themselves alone
abbrev pub counted : EndKind → ℕ → ℕ
counted kind.Done n = n
counted kind.Memory n = 0
counted kind.JournalFull n = 0

-- the entry of a run's end
abbrev pub end_of : Rules → List Entry → ℕ → EndKind → What
end_of rules past run kind = End run kind
    (status_in (answer_by rules past run kind)) (length_in (answer_by rules past run kind))
    (counted kind (made_in (rules.meaning.does (told rules past run))))
    (counted kind (finished_in (rules.meaning.does (told rules past run))))
