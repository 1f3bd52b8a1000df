-- The entries of one session key alone. All of it is our own.
use Rattle.std.specs.Prelude.{ℕ, ◌==◌, if◌then◌else◌, List, [], ◌∷◌}
use Rattle.asp_job.specs.declared.entry.Entry.{Entry}
use Rattle.asp_job.specs.History.{run_in}
use Rattle.asp_job.specs.Runs.{key_of}

-- the entries of the runs of a key, without all others
abbrev pub alone : List Entry → ℕ → List Entry
alone [] k = []
alone (entry ∷ past) k =
    if key_of (entry ∷ past) (run_in entry.what) == k then entry ∷ alone past k else alone past k
