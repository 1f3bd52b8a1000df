use Rattle.std.proofs.Common.{take}
use Rattle.site_load.specs.Accepted.{AreRuns}
use Rattle.site_load.proofs.building.site_runs.Given as goal

abbrev pub invariant-loop-file : goal.invariant-loop-file
invariant-loop-file l = record { so_far : AreRuns l.fn.files (take l.file-index l.fn.files) l.runs }
