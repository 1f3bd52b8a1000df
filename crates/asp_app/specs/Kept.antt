-- What the code keeps of the entries.
use Rattle.std.specs.Prelude.{◌≡◌, ◌≤◌, All}
use Rattle.asp_job.specs.Application.{IsAppEntry, weight_of_entries, most_weight}
use Rattle.asp_app.specs.declared.entries.Entries.TheInside.{Inside}

-- the entries may be, their weight is told, and it is not too much
pub record IsKept (entries : Inside) : Type 0 where
  pub shared : All IsAppEntry entries.map.entries
  pub weighed : entries.weight ≡ weight_of_entries entries.map.entries
  pub light : entries.weight ≤ most_weight
