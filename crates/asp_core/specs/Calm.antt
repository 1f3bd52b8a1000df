-- Entries that begin and end no run, and the room for them.
use Rattle.std.specs.Prelude.{◌≡◌, ℕ, ◌+◌, ◌-◌, ◌^◌, ◌≤◌, ◌<◌, ◌⊎◌, min, List, [], ◌∷◌}
use Rattle.asp_job.specs.declared.entry.Entry.{Entry}
use Rattle.asp_job.specs.declared.entry.TheConstants.{MOST_ENTRIES, MOST_WEIGHT}
use Rattle.asp_job.specs.declared.entry.What.{What}
use Rattle.asp_job.specs.declared.entry.What.TheVariants.{Queue, Admit, Refuse, Tick, Stop}
use Rattle.asp_job.specs.History.{load, weight_load, what_weight}
use Rattle.asp_journal.specs.declared.full.Full.{Full}

-- it begins and ends no run, and counts
abbrev pub IsCalm : What → Type 0
IsCalm (Queue run work key) = Unit {0}
IsCalm (Admit run key fresh job) = Unit {0}
IsCalm (Refuse run job) = Unit {0}
IsCalm (Tick moment) = Unit {0}
IsCalm Stop = Unit {0}
IsCalm _ = ⊥

abbrev pub AreCalm : List Entry → Type 0
AreCalm [] = Unit {0}
AreCalm (entry ∷ entries) = IsCalm entry.what × AreCalm entries

abbrev pub entry_weight : Entry → ℕ
entry_weight entry = what_weight entry.what

-- so many entries more, of that weight, are not too many or too heavy; 2^64 - 1 stands for a greater weight
pub record HasLoad (past : List Entry) (count weight : ℕ) : Type 0 where
  pub few : load past + count ≤ MOST_ENTRIES
  pub light : min (weight_load past + weight) (2 ^ 64 - 1) ≤ MOST_WEIGHT

-- it would be so full with so many entries more, of that weight: too many or too heavy
pub record IsOver (past : List Entry) (count weight : ℕ) (full : Full) : Type 0 where
  pub entries_are : full.entries ≡ load past + count
  pub weight_is : full.weight ≡ min (weight_load past + weight) (2 ^ 64 - 1)
  pub much : (MOST_ENTRIES < full.entries) ⊎ (MOST_WEIGHT < full.weight)
