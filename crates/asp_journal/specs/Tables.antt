-- A journal with tables of what it tells.
use Rattle.std.specs.Prelude.{◌≡◌, ℕ, ◌+◌, ◌-◌, ◌^◌, ◌≤◌, ◌||◌, ◌==◌, ◌++◌, min, true, not}
use Rattle.std.specs.Prelude.{if◌then◌else◌, unwrap_or}
use Rattle.std.specs.Prelude.{List, [], ◌∷◌, length, filter}
use Rattle.asp_job.specs.declared.entry.Entry.{Entry}
use Rattle.asp_job.specs.declared.entry.What.{What}
use Rattle.asp_job.specs.History.{counts, entries_in, weight_in, what_weight}
use Rattle.asp_job.specs.Keys.{made as made_in, makes_key}
use Rattle.asp_job.specs.declared.entry.What.TheVariants.{Queue, Admit, Begin, End}
use Rattle.asp_job.specs.Runs.{drawn, is_halt, is_halted, is_open, is_stop, is_stopping, moment_in, moment_of}
use Rattle.asp_job.specs.Runs.{numbers}
use Rattle.asp_journal.specs.Rows.{IsNumberedFor, row_at, row_of}
use Rattle.asp_journal.specs.Telling.{admitted, is_job}
use Rattle.asp_journal.specs.declared.rows.Row.{Row}
use Rattle.asp_journal.specs.declared.tally.Tally.{Tally}

-- what the journal tells of all runs together; 2^64 - 1 stands for a greater weight
abbrev pub tally_of : List Entry → Tally
tally_of past = record {
  made = made_in past;
  jobs = admitted past;
  moment = moment_of past;
  entries = entries_in past;
  weight = min (weight_in past) (2 ^ 64 - 1);
  stopping = is_stopping past;
  halted = is_halted past;
}

-- the same after an entry
abbrev pub tally_after : What → Tally → Tally
tally_after what tally = record {
  made = if makes_key what then tally.made + 1 else tally.made;
  jobs = if is_job what then tally.jobs + 1 else tally.jobs;
  moment = unwrap_or (moment_in what) tally.moment;
  entries = if counts what then tally.entries + 1 else tally.entries;
  weight = min (tally.weight + what_weight what) (2 ^ 64 - 1);
  stopping = is_stop what || tally.stopping;
  halted = is_halt what || tally.halted;
}

-- the runs that wait or are unfinished, in order
abbrev pub open_runs : List Entry → List ℕ
open_runs past = filter (is_open past) (numbers (drawn past))

-- the same after an entry
abbrev pub open_after : What → List ℕ → List ℕ
open_after (Queue run work key) listed = listed ++ run ∷ []
open_after (Admit run key fresh job) listed = listed ++ run ∷ []
open_after (End run kind status size made finished) listed = filter (λ r. not (r == run)) listed
open_after _ listed = listed

-- A run that begins or ends waited or was unfinished.
abbrev pub IsTimely : List Entry → What → Type 0
IsTimely past (Begin run serial) = is_open past run ≡ true
IsTimely past (End run kind status size made finished) = is_open past run ≡ true
IsTimely past _ = Unit {0}

-- The entry may be added: its run has the right number, and one that begins or ends was open.
pub record IsFit (past : List Entry) (what : What) : Type 0 where
  pub numbered : IsNumberedFor (drawn past) what
  pub timely : IsTimely past what

-- these entries may be added, one after another
abbrev pub AreFit : List Entry → List Entry → Type 0
AreFit past [] = Unit {0}
AreFit past (entry ∷ entries) = IsFit past entry.what × AreFit (entry ∷ past) entries

-- the tables say what the journal says
pub record IsIndexed (past : List Entry) (rows : List Row) (tally : Tally) (listed : List ℕ) : Type 0 where
  pub rows_are : row_at rows ≡ row_of past
  pub drawn_is : length rows ≡ drawn past
  pub tally_is : tally ≡ tally_of past
  pub open_are : listed ≡ open_runs past

-- There may be so many entries, and as many rows more as entries more, before any table takes more memory.
pub record HasSpare (entries rows listed capacity : ℕ) (in_journal in_rows in_list : ℕ) : Type 0 where
  pub within : entries ≤ capacity
  pub of_journal : capacity ≤ in_journal
  pub of_rows : rows + capacity ≤ in_rows + entries
  pub of_list : listed + capacity ≤ in_list + entries
