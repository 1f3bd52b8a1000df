-- What a replay writes. All of it is our own.
use Rattle.std.specs.Prelude.{◌≡◌, ◌⊎◌, ℕ, Bool, if◌then◌else◌, List, [], ◌∷◌, ◌++◌, length, reverse, codes, Option}
use Rattle.std.specs.Prelude.{Some, None}
use Rattle.std.specs.Fmt.{decimal}
use Rattle.std.specs.List.{flat_map}
use Rattle.asp_job.specs.declared.answer.Answer.{Answer}
use Rattle.asp_job.specs.declared.entry.Entry.{Entry}
use Rattle.asp_job.specs.declared.entry.What.TheVariants.{End, Refuse}
use Rattle.asp_job.specs.Output.{answer_by, unavailable_in}
use Rattle.asp_job.specs.Rules.{Rules, TooManySessions}
use Rattle.asp_job.specs.Runs.{job_of}
use Rattle.asp_record.specs.Entries.{entry_text}
use Rattle.asp_response.specs.AnswerText.{IsAnswerText}

-- the answer of a run, whose job came at a moment
pub record Shown : Type 0 where
  pub run : ℕ
  pub moment : ℕ
  pub answer : Answer

-- the answer of a run at the end of these, if it has one
abbrev pub with_shown : List Shown → ℕ → ℕ → Option Answer → List Shown
with_shown shown run moment None = shown
with_shown shown run moment (Some answer) = shown ++ record { run = run; moment = moment; answer = answer } ∷ []

-- the answers of a journal, in the order in which their runs ended or were refused
abbrev pub shown_of : Rules → List Entry → List Shown
shown_of rules [] = []
shown_of rules (entry ∷ past) = elim entry.what [
  | End run kind status size made finished ↦
      with_shown (shown_of rules past) run (job_of past run).moment (answer_by rules past run kind)
  | Refuse run job ↦
      with_shown (shown_of rules past) run job.moment (unavailable_in rules TooManySessions job.work)
  | _ ↦ shown_of rules past
]

-- the line before an answer: `answer`, the run and the length
abbrev pub head_line : ℕ → ℕ → List ℕ
head_line run size = codes "answer " ++ decimal run ++ codes " " ++ decimal size ++ 10 ∷ []

-- the record of an answer: that line, and then the bytes of the answer
abbrev pub record_text : ℕ → List ℕ → List ℕ
record_text run text = head_line run (length text) ++ text ++ 10 ∷ []

pub record IsRecord (shown : Shown) (bytes : List ℕ) : Type 0 where
  pub text : List ℕ
  pub is_text : IsAnswerText shown.answer shown.moment text
  pub bytes_are : bytes ≡ record_text shown.run text

-- the records of answers, one behind the other
abbrev pub AreRecords : List Shown → List ℕ → Type 0
AreRecords [] bytes = bytes ≡ []
AreRecords (first ∷ rest) bytes =
    (front back : List ℕ) × IsRecord first front × AreRecords rest back × (bytes ≡ front ++ back)

-- the lines of a journal, where they are asked for
abbrev pub lines_of : Bool → List Entry → List ℕ
lines_of journal past = if journal then flat_map entry_text (reverse past) else []

-- how many answers there were
abbrev pub done_line : ℕ → List ℕ
done_line count = codes "done " ++ decimal count ++ 10 ∷ []

-- what a replay writes in all: the records of the answers, the lines of the journal where they are asked for, and how
-- many answers there were
pub record IsOutput (rules : Rules) (past : List Entry) (journal : Bool) (bytes : List ℕ) : Type 0 where
  pub records : List ℕ
  pub are_records : AreRecords (shown_of rules past) records
  pub bytes_are : bytes ≡ records ++ lines_of journal past ++ done_line (length (shown_of rules past))

-- the records of the first answers, or all that a replay writes
abbrev pub IsOutputPart : Rules → List Entry → Bool → List ℕ → Type 0
IsOutputPart rules past journal bytes = IsOutput rules past journal bytes
    ⊎ ((first later : List Shown) × (shown_of rules past ≡ first ++ later) × AreRecords first bytes)
