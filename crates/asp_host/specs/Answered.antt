-- This crate's own: which runs are marked as those of pages, and which entries leave an answer.
use Rattle.std.specs.Prelude.{◌≡◌, ℕ, ◌==◌, Bool, false, if◌then◌else◌, List, slice_index_or, unwrap_or}
use Rattle.std.specs.Option.{option_map}
use Rattle.asp_job.specs.declared.entry.Entry.{Entry}
use Rattle.asp_job.specs.declared.entry.What.{What}
use Rattle.asp_job.specs.declared.entry.What.TheVariants.{End, Refuse}
use Rattle.asp_job.specs.Running.{is_page}
use Rattle.asp_job.specs.Runs.{job_in, job_of}

-- the mark of a run
abbrev pub mark_of : List Bool → ℕ → Bool
mark_of pages run = slice_index_or pages run false

abbrev pub AreSameMarks : List Bool → List Bool → Type 0
AreSameMarks old new = (run : ℕ) → mark_of new run ≡ mark_of old run

-- the marks of a run alone are changed
abbrev pub IsMarked : ℕ → Bool → List Bool → List Bool → Type 0
IsMarked run page old new = (other : ℕ) → mark_of new other ≡ (if run == other then page else mark_of old other)

-- the entry marks the run that it draws
abbrev pub AreMarkedBy : What → List Bool → List Bool → Type 0
AreMarkedBy what old new = (run : ℕ)
    → mark_of new run ≡ unwrap_or (option_map (λ job. is_page job.work) (job_in run what)) (mark_of old run)

-- the runs of pages are marked
abbrev pub AreMarks : List Entry → List Bool → Type 0
AreMarks past pages = (run : ℕ) → mark_of pages run ≡ is_page (job_of past run).work

-- whether the entry leaves an answer
abbrev pub leaves_answer : List Bool → What → Bool
leaves_answer pages (End run kind status size made finished) = mark_of pages run
leaves_answer pages (Refuse run job) = is_page job.work
leaves_answer pages _ = false

abbrev pub one_if : Bool → ℕ
one_if one = if one then 1 else 0
