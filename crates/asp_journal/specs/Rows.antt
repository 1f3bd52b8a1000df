-- What a table of runs tells. Its first place is that of run 1.
use Rattle.std.specs.Prelude.{◌≡◌, ℕ, ◌+◌, ◌-◌, ◌<◌, ◌≤◌, ◌==◌, ◌||◌, true, false, if◌then◌else◌}
use Rattle.std.specs.Prelude.{List, [], ◌∷◌, length, slice_index_or, Option, Some, None, unwrap_or}
use Rattle.std.specs.Option.{option_map, option_or}
use Rattle.asp_job.specs.declared.entry.Entry.{Entry}
use Rattle.asp_job.specs.declared.entry.Stage.TheVariants.{Undrawn, Waiting, Unfinished, Ended}
use Rattle.asp_job.specs.declared.entry.What.{What}
use Rattle.asp_job.specs.declared.entry.What.TheVariants.{Queue, Admit, Refuse, Begin, End, Take, Halt}
use Rattle.asp_job.specs.declared.job.Job.{Job}
use Rattle.asp_job.specs.declared.job.Work.TheVariants as work
use Rattle.asp_job.specs.Running.{is_page}
use Rattle.asp_job.specs.Runs.{job_of, job_in, key_of, key_in, is_fresh, fresh_in, stage_of, stage_in, lane_of, lane_in}
use Rattle.asp_job.specs.Runs.{asking_lane_of, asking_lane_in, is_taken, takes, queued_job}
use Rattle.asp_job.specs.Turns.{is_last_work}
use Rattle.asp_journal.specs.Telling.{end_kind, kind_in}
use Rattle.asp_journal.specs.declared.rows.Row.{Row}

-- the row of no run
abbrev pub no_row : Row
no_row = record {
  stage = Undrawn;
  key = 0;
  fresh = false;
  page = false;
  last = false;
  lane = None;
  asking = None;
  kind = None;
  taken = false;
  place = None;
}

-- the row of a run
abbrev pub row_at : List Row → ℕ → Row
row_at rows r = if r == 0 then no_row else slice_index_or rows (r - 1) no_row

-- a run has this row, and each other run the row that it had
abbrev pub with_row : ℕ → Row → (ℕ → Row) → ℕ → Row
with_row run row rows r = if r == 0 then no_row else (if run == r then row else rows r)

-- where the entry that drew a run stands in the journal
abbrev pub place_in : ℕ → ℕ → What → Option ℕ
place_in r place what = option_map (λ job. place) (job_in r what)

abbrev pub place_of : List Entry → ℕ → Option ℕ
place_of [] r = None
place_of (entry ∷ past) r = option_or (place_in r (length past) entry.what) (place_of past r)

-- no entry of a run
abbrev pub no_entry : Entry
no_entry = record { lane = 0; what = Halt }

-- the job of a run by the entry at that place
abbrev pub job_by : List Entry → Option ℕ → ℕ → Job
job_by journal None r = queued_job work.Start
job_by journal (Some i) r = unwrap_or (job_in r (slice_index_or journal i no_entry).what) (queued_job work.Start)

-- what the journal tells of a run
abbrev pub row_of : List Entry → ℕ → Row
row_of past r = record {
  stage = stage_of past r;
  key = key_of past r;
  fresh = is_fresh past r;
  page = is_page (job_of past r).work;
  last = is_last_work (job_of past r).work;
  lane = lane_of past r;
  asking = asking_lane_of past r;
  kind = end_kind past r;
  taken = is_taken past r;
  place = place_of past r;
}

-- the row of run r after an entry of the lane that stands at the place
abbrev pub row_after : ℕ → ℕ → What → ℕ → Row → Row
row_after place lane what r row = record {
  stage = unwrap_or (stage_in r what) row.stage;
  key = unwrap_or (key_in r what) row.key;
  fresh = unwrap_or (fresh_in r what) row.fresh;
  page = unwrap_or (option_map (λ job. is_page job.work) (job_in r what)) row.page;
  last = unwrap_or (option_map (λ job. is_last_work job.work) (job_in r what)) row.last;
  lane = option_or (lane_in r lane what) row.lane;
  asking = option_or (asking_lane_in r lane what) row.asking;
  kind = option_or (kind_in r what) row.kind;
  taken = takes r what || row.taken;
  place = option_or (place_in r place what) row.place;
}

abbrev pub rows_after : ℕ → ℕ → What → (ℕ → Row) → ℕ → Row
rows_after place lane what rows r = row_after place lane what r (rows r)

-- the run whose row an entry changes, 0 for none
abbrev pub marked : What → ℕ
marked (Queue run work key) = run
marked (Admit run key fresh job) = run
marked (Refuse run job) = run
marked (Begin run serial) = run
marked (End run kind status size made finished) = run
marked (Take run) = run
marked _ = 0

-- the row of that run
abbrev pub changed : ℕ → ℕ → What → Row → Row
changed place lane (Queue run work key) row = record {
  stage = Waiting;
  key = key;
  fresh = false;
  page = is_page work;
  last = is_last_work work;
  lane = row.lane;
  asking = row.asking;
  kind = row.kind;
  taken = row.taken;
  place = Some place;
}
changed place lane (Admit run key fresh job) row = record {
  stage = Waiting;
  key = key;
  fresh = fresh;
  page = is_page job.work;
  last = is_last_work job.work;
  lane = row.lane;
  asking = Some lane;
  kind = row.kind;
  taken = row.taken;
  place = Some place;
}
changed place lane (Refuse run job) row = record {
  stage = Ended;
  key = 0;
  fresh = false;
  page = is_page job.work;
  last = is_last_work job.work;
  lane = row.lane;
  asking = Some lane;
  kind = row.kind;
  taken = row.taken;
  place = Some place;
}
changed place lane (Begin run serial) row = record {
  stage = Unfinished;
  key = row.key;
  fresh = row.fresh;
  page = row.page;
  last = row.last;
  lane = Some lane;
  asking = row.asking;
  kind = row.kind;
  taken = row.taken;
  place = row.place;
}
changed place lane (End run kind status size made finished) row = record {
  stage = Ended;
  key = row.key;
  fresh = row.fresh;
  page = row.page;
  last = row.last;
  lane = row.lane;
  asking = row.asking;
  kind = Some kind;
  taken = row.taken;
  place = row.place;
}
changed place lane (Take run) row = record {
  stage = row.stage;
  key = row.key;
  fresh = row.fresh;
  page = row.page;
  last = row.last;
  lane = row.lane;
  asking = row.asking;
  kind = row.kind;
  taken = true;
  place = row.place;
}
changed place lane _ row = row

-- the number in the entry is right, where so many runs were drawn
abbrev pub IsNumberedFor : ℕ → What → Type 0
IsNumberedFor n (Queue run work key) = run ≡ n + 1
IsNumberedFor n (Admit run key fresh job) = run ≡ n + 1
IsNumberedFor n (Refuse run job) = run ≡ n + 1
IsNumberedFor n (Begin run serial) = (0 < run) × (run ≤ n)
IsNumberedFor n (End run kind status size made finished) = (0 < run) × (run ≤ n)
IsNumberedFor n (Take run) = (0 < run) × (run ≤ n)
IsNumberedFor n _ = Unit {0}
