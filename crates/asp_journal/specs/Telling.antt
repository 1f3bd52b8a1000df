-- How many jobs came, and how runs ended.
use Rattle.std.specs.Prelude.{ℕ, ◌+◌, ◌==◌, Bool, true, false, if◌then◌else◌, List, [], ◌∷◌, Option, Some, None}
use Rattle.std.specs.Option.{option_or}
use Rattle.asp_job.specs.declared.entry.EndKind.{EndKind}
use Rattle.asp_job.specs.declared.entry.Entry.{Entry}
use Rattle.asp_job.specs.declared.entry.What.{What}
use Rattle.asp_job.specs.declared.entry.What.TheVariants.{Admit, Refuse, End}

-- whether the entry is that of a job that came
abbrev pub is_job : What → Bool
is_job (Admit run key fresh job) = true
is_job (Refuse run job) = true
is_job _ = false

-- how many jobs came, those that were refused too
abbrev pub admitted : List Entry → ℕ
admitted [] = 0
admitted (entry ∷ past) = if is_job entry.what then admitted past + 1 else admitted past

abbrev pub kind_in : ℕ → What → Option EndKind
kind_in r (End run kind status size made finished) = if run == r then Some kind else None
kind_in r _ = None

-- how a run ended, if it was begun and has ended
abbrev pub end_kind : List Entry → ℕ → Option EndKind
end_kind [] r = None
end_kind (entry ∷ past) r = option_or (kind_in r entry.what) (end_kind past r)
