use Rattle.std.proofs.Common.{◌≡◌, ◌-◌, ◌^◌, min, sum_by, take}
use Rattle.asp_job.specs.History as history
use Rattle.asp_journal.proofs.weighing.names_weight.Given as goal

abbrev pub invariant-loop-name : goal.invariant-loop-name
invariant-loop-name l = l.total ≡ min (sum_by history.name_weight (take l.name-index l.names)) (2 ^ 64 - 1)
