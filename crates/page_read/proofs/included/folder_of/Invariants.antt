use Rattle.std.proofs.Common.{◌≡◌, ◌++◌, take, drop}
use Rattle.page_read.specs.Including as spec
use Rattle.page_read.proofs.included.folder_of.Given as goal

abbrev pub invariant-loop-at : goal.invariant-loop-at
invariant-loop-at l = spec.folder_of l.path ≡ take l.at l.path ++ spec.folder_of (drop l.at l.path)
